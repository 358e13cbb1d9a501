use Rattle.std.proofs.Common.{refl}
use Rattle.mcs_script.proofs.ShareLemmas.{share_begun, share_more}
use Rattle.mcs_script.proofs.share.share_of.Goals as goal

pub returns : goal.returns
returns c = share_more _ _ _ _ _ _ _ refl (share_begun c.args.bare.now c.args.context _ (rw c.atoms_of.ensures.value at c.in_ok-find_names.ensures.all)) c.in_ok-find_all.ensures
