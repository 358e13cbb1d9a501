use Rattle.std.proofs.Common.{◌≡◌, ◌∙◌, ◌<◌, ℕ, Bool, true, false, cond, List, get_or, length, refl, sym, subst, arith, true≢false}
use Rattle.std.specs.List.{AllByRecursion}
use Rattle.std.proofs.lemmas.Bool.{false_from_ne_true}
use Rattle.std.proofs.lemmas.List.{get_or_default}
use Rattle.std.proofs.lemmas.List.Elements.{recursion_from_All}
use Rattle.mcs_sets.specs.Sets.{single, union, Meets}
use Rattle.mcs_program.specs.Placing.{do_meet}
use Rattle.mcs_program.proofs.PlaceLemmas.{meet_test}
use Rattle.mcs_grounded.specs.Parts.{numbers_at}
use Rattle.mcs_grounded.proofs.places.numbers_at.Goals as goal

pub loop-number-init : goal.loop-number-init
loop-number-init c = rw (c.into_iter-number-iterator.ensures.into_iter_gives, c.empty-chosen.ensures) (record {
  all = refl;
  small = recursion_from_All (λ k. k < 64) c.args.numbers c.requires;
})

pub bounds-sets-number : goal.bounds-sets-number
bounds-sets-number c = omega (arith, (subst (AllByRecursion (λ k. k < 64)) c.in-Some.ensures.steps c.loop-number.invariant.small).0)

pub loop-number-preserved-then-meets : goal.loop-number-preserved-then-meets
loop-number-preserved-then-meets c =
    let sets = c.args.sets.now in
    let s = c.args.places in
    let k = c.in-Some.number in
    let small = subst (AllByRecursion (λ k. k < 64)) c.in-Some.ensures.steps c.loop-number.invariant.small in
    let less : k < length sets = omega (arith, small.0, c.told-sets) in
    let same : get_or sets k c.index-sets-number.result ≡ get_or sets k 0 = get_or_default sets k c.index-sets-number.result 0 less in
    let here : do_meet (get_or sets k 0) s ≡ true = (meet_test (get_or sets k 0) s).1 (subst (λ (x : ℕ). Meets x s) same (c.meets.ensures.0 c.if-meets.true)) in
    rw c.with-chosen.ensures (record {
      all = subst (λ (b : Bool). numbers_at sets s (cond b (union c.loop-number.chosen (single k)) c.loop-number.chosen) c.next.new.self ≡ numbers_at sets s 0 c.args.numbers) here
          (subst (λ (ks : List ℕ). numbers_at sets s c.loop-number.chosen ks ≡ numbers_at sets s 0 c.args.numbers) c.in-Some.ensures.steps c.loop-number.invariant.all);
      small = small.1;
    })

pub loop-number-preserved : goal.loop-number-preserved
loop-number-preserved c =
    let sets = c.args.sets.now in
    let s = c.args.places in
    let k = c.in-Some.number in
    let small = subst (AllByRecursion (λ k. k < 64)) c.in-Some.ensures.steps c.loop-number.invariant.small in
    let less : k < length sets = omega (arith, small.0, c.told-sets) in
    let same : get_or sets k c.index-sets-number.result ≡ get_or sets k 0 = get_or_default sets k c.index-sets-number.result 0 less in
    let beside : do_meet (get_or sets k 0) s ≡ false = false_from_ne_true (do_meet (get_or sets k 0) s) (λ h. true≢false (sym (c.meets.ensures.1 (subst (λ (x : ℕ). Meets x s) (sym same) ((meet_test (get_or sets k 0) s).0 h))) ∙ c.if-meets.false)) in
    record {
      all = subst (λ (b : Bool). numbers_at sets s (cond b (union c.loop-number.chosen (single k)) c.loop-number.chosen) c.next.new.self ≡ numbers_at sets s 0 c.args.numbers) beside
          (subst (λ (ks : List ℕ). numbers_at sets s c.loop-number.chosen ks ≡ numbers_at sets s 0 c.args.numbers) c.in-Some.ensures.steps c.loop-number.invariant.all);
      small = small.1;
    }

pub returns : goal.returns
returns c = subst (λ (ks : List ℕ). numbers_at c.args.sets.now c.args.places c.loop-number.chosen ks ≡ numbers_at c.args.sets.now c.args.places 0 c.args.numbers) c.in-None.ensures.steps.0 c.loop-number.invariant.all
