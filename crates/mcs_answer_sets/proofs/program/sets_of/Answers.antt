use Rattle.std.proofs.Common.{◌∙◌, ◌++◌, ◌∷◌, ℕ, List, [], get_or, take, refl, sym, ap, subst}
use Rattle.std.proofs.lemmas.List.{take_more, take_all, get_or_default}
use Rattle.std.specs.List.{AllByRecursion}
use Rattle.mcs_base.proofs.Among.{among_at}
use Rattle.mcs_base.proofs.Each.{all_among, all_take_more}
use Rattle.mcs_evidence.specs.Programs.{IsInRange}
use Rattle.std.proofs.lemmas.Bool.{iff_false}
use Rattle.mcs_answer_sets.proofs.program.sets_of.Goals as goal

pub returns-then-not-is_in_range : goal.returns-then-not-is_in_range
returns-then-not-is_in_range c = λ all. iff_false c.is_in_range.ensures c.if-not-is_in_range.true (all_among (IsInRange c.args.atoms.now) c.args.numbers.now (get_or c.args.numbers.now c.loop-number.number-index 0) all (among_at c.args.numbers.now c.loop-number.number-index 0 c.loop-number-test.true))

pub loop-number-init : goal.loop-number-init
loop-number-init c = rw c.new-sets.ensures.items (record { same = refl; in_range = tt })

pub loop-number-preserved : goal.loop-number-preserved
loop-number-preserved c =
    let ns = c.args.numbers.now in
    let i = c.loop-number.number-index in
    let n : ℕ = get_or ns i 0 in
    record {
      same = c.in_ok-push.ensures.items ∙ ap (λ (xs : List ℕ). xs ++ c.numbered.result ∷ []) c.loop-number.invariant.same ∙ ap (λ (x : ℕ). take i ns ++ x ∷ []) c.numbered.ensures ∙ sym (take_more ns i 0 c.loop-number-test.true);
      in_range = all_take_more (IsInRange c.args.atoms.now) ns i n c.loop-number-test.true (get_or_default ns i 0 n c.loop-number-test.true) c.loop-number.invariant.in_range (c.is_in_range.ensures.0 c.if-not-is_in_range.false);
    }

pub returns : goal.returns
returns c =
    let all = take_all c.loop-number.number-index c.args.numbers.now c.loop-number-test.false in
    (c.loop-number.invariant.same ∙ all, subst (AllByRecursion (IsInRange c.args.atoms.now)) all c.loop-number.invariant.in_range)
