use Rattle.std.proofs.Common.{refl}
use Rattle.mcs_script.proofs.ShareLemmas.{share_more}
use Rattle.mcs_script.proofs.draft.add_share.Goals as goal

pub returns-then-is_within : goal.returns-then-is_within
returns-then-is_within c = share_more _ _ _ _ _ _ _ refl c.requires.share c.in_ok-find_more.ensures

pub returns : goal.returns
returns c = rw c.replace.ensures.after (share_more _ _ _ _ _ _ _ refl c.in_ok-again.ensures c.in_ok-find_more-2.ensures)
