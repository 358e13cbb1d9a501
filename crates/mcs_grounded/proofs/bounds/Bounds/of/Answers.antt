use Rattle.std.proofs.Common.{◌≡◌, ◌∙◌, ℕ, zero, suc, get_or, replicate, Some, slice_get, inl, inr, refl, sym, subst, arith}
use Rattle.std.proofs.lemmas.Bool.{cases_lt}
use Rattle.std.proofs.lemmas.List.{get_or-set_other}
use Rattle.std.proofs.lemmas.Option.{get_or_from_slice_get, slice_get-get_or}
use Rattle.mcs_base.proofs.Lists.{slice_get-map_some}
use Rattle.mcs_base.proofs.Written.{length-slice_set}
use Rattle.mcs_grounded.specs.Parts.{cones_of}
use Rattle.mcs_grounded.specs.declared.cone.Cone.{Cone}
use Rattle.mcs_grounded.proofs.Candidates.{none_beyond}
use Rattle.mcs_grounded.proofs.Loops.{put_each}
use Rattle.mcs_grounded.proofs.bounds.Bounds.of.Goals as goal

none_there : (n x i : ℕ) → x ≡ 0 → get_or (replicate n x) i 0 ≡ 0
none_there zero x i e = refl
none_there (suc n) x zero e = e
none_there (suc n) x (suc i) e = none_there n x i e

pub loop-context-init : goal.loop-context-init
loop-context-init c = record { long = refl; before = λ i less. absurd (omega (arith, less)); behind = λ i above. none_there 64 c.empty-none.result i c.empty-none.ensures }

pub loop-context-preserved : goal.loop-context-preserved
loop-context-preserved c =
    let cones = c.args.cones.now in
    let n = c.loop-context.context in
    let cone : Cone = c.index-cones-context.result in
    let own : slice_get cones n ≡ Some cone = subst (λ (x : Cone). slice_get cones n ≡ Some x) (sym c.index-cones-context.is) (slice_get-get_or cones n cone c.loop-context-test.true) in
    let here : cone.places ≡ get_or (cones_of cones) n 0 = sym (get_or_from_slice_get (cones_of cones) n cone.places 0 (slice_get-map_some (λ (c : Cone). c.places) cones n cone own)) in
    record {
      long = length-slice_set c.loop-context.possible n cone.places ∙ c.loop-context.invariant.long;
      before = put_each (λ (i x : ℕ). x ≡ get_or (cones_of cones) i 0) c.loop-context.possible n cone.places (omega (arith, c.loop-context-test.true, c.requires, c.loop-context.invariant.long)) c.loop-context.invariant.before here;
      behind = λ i above. get_or-set_other c.loop-context.possible n i cone.places 0 (λ e. absurd (omega (arith, above, e))) ∙ c.loop-context.invariant.behind i (omega (arith, above));
    }

pub returns : goal.returns
returns c = record {
  long = refl;
  as_long = c.loop-context.invariant.long;
  certain = λ i. none_there 64 c.empty-none.result i c.empty-none.ensures;
  possible = λ i. elim (cases_lt i c.loop-context.context) [
    | inl less ↦ c.loop-context.invariant.before i less
    | inr above ↦ c.loop-context.invariant.behind i (omega (arith, above)) ∙ sym (none_beyond c.args.cones.now i (λ less. absurd (omega (arith, less, above, c.loop-context-test.false))))
  ];
}
