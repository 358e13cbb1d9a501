use Rattle.std.proofs.Common.{◌<◌, ◌+◌, ℕ, IsTrue, inl, inr, refl, sym, subst, take, length}
use Rattle.std.proofs.lemmas.List.{take_all}
use Rattle.std.proofs.lemmas.Option.{slice_get_read}
use Rattle.std.specs.List.{AllByRecursion}
use Rattle.mcs_sets.specs.Sets.{has, single, union}
use Rattle.mcs_sets.proofs.Lattice.{in_with}
use Rattle.mcs_base.proofs.Each.{all_get, all_take_more, all_weaker}
use Rattle.mcs_classical.specs.declared.assumptions.Assumption.{Assumption}
use Rattle.mcs_classical.proofs.consequences.numbers_of.Goals as goal

pub with-numbers-requires : goal.with-numbers-requires
with-numbers-requires c =
    let xs = c.args.given.now.assumptions.now in
    let i = c.loop-assumption.assumption-index in
    let x = c.assumption-item.result in
    all_get (λ (a : Assumption). a.number < 64) xs i x c.args.given.now.numbers (slice_get_read xs (length xs) i x refl c.loop-assumption-test.true c.assumption-item.is)

pub loop-assumption-preserved : goal.loop-assumption-preserved
loop-assumption-preserved c =
    let old = c.loop-assumption.numbers in
    let x = c.assumption-item.result in
    subst (λ (s : ℕ). AllByRecursion (λ (a : Assumption). IsTrue (has s a.number)) (take (c.loop-assumption.assumption-index + 1) c.args.given.now.assumptions.now)) (sym c.with-numbers.ensures)
    (all_take_more (λ (a : Assumption). IsTrue (has (union old (single x.number)) a.number)) c.args.given.now.assumptions.now c.loop-assumption.assumption-index x c.loop-assumption-test.true c.assumption-item.is
    (all_weaker (λ (a : Assumption). IsTrue (has old a.number)) (λ (a : Assumption). IsTrue (has (union old (single x.number)) a.number)) (λ a is. (in_with old x.number a.number).1 (inl is)) _ c.loop-assumption.invariant)
    ((in_with old x.number x.number).1 (inr refl)))

pub returns : goal.returns
returns c = subst (AllByRecursion (λ (a : Assumption). IsTrue (has c.loop-assumption.numbers a.number))) (take_all c.loop-assumption.assumption-index c.args.given.now.assumptions.now c.loop-assumption-test.false) c.loop-assumption.invariant
