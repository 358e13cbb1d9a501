use Rattle.std.proofs.Common.{ℕ, ◌<◌, ltb, IsTrue, ◌↔◌, length, sym, subst, arith}
use Rattle.std.proofs.lemmas.Bool.Decides.{nat_tests}
use Rattle.std.proofs.lemmas.Nat.{one_shl}
use Rattle.mcs_sets.proofs.SetLemmas.{members_below}
use Rattle.mcs_evidence.specs.Programs.{IsInRange}
use Rattle.mcs_entailment.proofs.ShownLemmas.{range_test}
use Rattle.mcs_entailment.proofs.entailment.is_in_range.Goals as goal

pub returns-then-atoms-ge64 : goal.returns-then-atoms-ge64
returns-then-atoms-ge64 c = (λ _ k member. (let low : k < 64 = members_below c.args.places 64 k c.ranges.places.fits member in omega arith), λ _. grind (arith, nat_tests))

pub returns-else-atoms-ge64 : goal.returns-else-atoms-ge64
returns-else-atoms-ge64 c =
    subst (λ (n : ℕ). IsTrue (ltb c.args.places n) ↔ IsInRange c.args.atoms.now c.args.places) (sym (one_shl (length c.args.atoms.now) 64 c.if-atoms-ge64.false)) (range_test c.args.atoms.now c.args.places)
