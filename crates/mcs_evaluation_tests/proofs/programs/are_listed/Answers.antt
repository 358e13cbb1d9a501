use Rattle.std.proofs.Common.{◌≡◌, ◌<◌, ℕ, true, List, length, get_or, sym, subst, arith}
use Rattle.mcs_base.specs.Listings.{IsAmong}
use Rattle.mcs_base.proofs.Among.{among_at}
use Rattle.mcs_system.specs.Plain.{Name}
use Rattle.mcs_system.specs.Logic.{is_in}
use Rattle.mcs_system.proofs.NameLemmas.{is_in-among}
use Rattle.mcs_evaluation_tests.proofs.programs.are_listed.Goals as goal

known_at : (atoms : List Name) (k : ℕ) (n : Name) → k < length atoms → n ≡ get_or atoms k n → is_in n atoms ≡ true
known_at atoms k n less is = (is_in-among n atoms).1 (subst (λ (m : Name). IsAmong m atoms) (sym is) (among_at atoms k n less))

pub list_answer_sets-requires-clause-beliefs : goal.list_answer_sets-requires-clause-beliefs
list_answer_sets-requires-clause-beliefs c = (
  known_at c.args.atoms.now 0 c.index-atoms-0.result (omega arith) c.index-atoms-0.is,
  (known_at c.args.atoms.now 1 c.index-atoms-1.result (omega arith) c.index-atoms-1.is, tt),
)
