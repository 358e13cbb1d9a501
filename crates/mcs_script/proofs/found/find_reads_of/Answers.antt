use Rattle.std.proofs.Common.{refl}
use Rattle.std.proofs.lemmas.Result.{on_ok_weaker}
use Rattle.mcs_script.proofs.FoundLemmas.{finds_then}
use Rattle.mcs_script.proofs.found.find_reads_of.Goals as goal

pub returns : goal.returns
returns c = on_ok_weaker c.find_reads-2.result (λ more. finds_then _ _ _ _ _ _ refl (rw c.deref.ensures.value at c.in_ok-find_reads.ensures) more) (rw c.deref-2.ensures.value at c.find_reads-2.ensures)
