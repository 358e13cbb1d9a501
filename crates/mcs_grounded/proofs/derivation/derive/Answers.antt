use Rattle.std.proofs.Common.{◌≡◌, ◌∙◌, ◌<◌, ℕ, not, List, true, sym, ap, subst, true≢false}
use Rattle.std.proofs.lemmas.Bool.{and_from, eqb-true, eq-eqb, not_from_false}
use Rattle.mcs_sets.specs.Sets.{has, size, common, minus, Within}
use Rattle.mcs_sets.proofs.SetLemmas.{has-empty, has-minus}
use Rattle.mcs_sets.proofs.Lattice.{in_minus, in_common}
use Rattle.mcs_sets.proofs.Changes.{within_where_none}
use Rattle.mcs_system.specs.Logic.{BeliefSet}
use Rattle.mcs_system.specs.Systems.{applicable}
use Rattle.mcs_reduct.specs.Reducts.{IsReductEquilibrium}
use Rattle.mcs_reduct.specs.Shown.{DoAct, IsShownBy}
use Rattle.mcs_grounded.specs.Derivations.{AreAbove}
use Rattle.mcs_grounded.specs.Parts.{cones_of}
use Rattle.mcs_grounded.proofs.Derived.{closed_where_stuck, founded_more, within_grows}
use Rattle.mcs_grounded.proofs.Loops.{fewer_to_add}
use Rattle.mcs_grounded.proofs.Candidates.{have_cones}
use Rattle.mcs_grounded.proofs.derivation.derive.Goals as goal

pub loop-believed-init : goal.loop-believed-init
loop-believed-init c = record {
  found = c.requires.derivation.found;
  within = λ k h. absurd (true≢false (sym (subst (λ (x : ℕ). has x k ≡ true) c.empty-rules.ensures h) ∙ has-empty k));
  founded = λ s t shown above e k b h. absurd (true≢false (sym (subst (λ (x : ℕ). has x k ≡ true) c.empty-rules.ensures h) ∙ has-empty k));
}

pub told_all-requires-clause-derivation : goal.told_all-requires-clause-derivation
told_all-requires-clause-derivation c = record { set_up = c.requires.derivation.set_up; found = c.loop-believed.invariant.found }

-- nothing that is told lets one more rule act
pub returns-then-eq-clause-derived : goal.returns-then-eq-clause-derived
returns-then-eq-clause-derived c =
    let d = c.args.derivation.now in
    let m = d.system.now in
    let believed = c.in_ok-believed.believed in
    let applied : ℕ = common (applicable m (common believed d.state)) (applicable m d.state) in
    let applied_is : c.common-in-loop-believed.result ≡ applied = c.common-in-loop-believed.ensures ∙ ap (λ (x : ℕ). common x d.goal) (c.applicable_rules-acting.ensures ∙ ap (applicable m) c.common.ensures)
    ∙ ap (common (applicable m (common believed d.state))) d.right in
    let none : minus applied c.loop-believed.rules ≡ 0 = ap (λ (x : ℕ). minus x c.loop-believed.rules) (sym applied_is) ∙ sym c.minus-fresh.ensures ∙ eqb-true c.minus-fresh.result c.empty.result (sym c.eq.ensures ∙ c.if-eq.true) ∙ c.empty.ensures in
    record {
      within = c.loop-believed.invariant.within;
      founded = c.loop-believed.invariant.founded;
      closed = closed_where_stuck m c.requires.derivation.set_up.plain d.state (cones_of d.cones.now) c.args.against.now (have_cones m d.cones.now c.requires.derivation.set_up.cones) c.loop-believed.rules believed c.in_ok-believed.ensures.told
          (within_where_none applied c.loop-believed.rules none);
    }

-- the fresh rules apply in what is told, and in the state
pub loop-believed-preserved : goal.loop-believed-preserved
loop-believed-preserved c =
    let d = c.args.derivation.now in
    let m = d.system.now in
    let cones = cones_of d.cones.now in
    let rules = c.loop-believed.rules in
    let fresh = c.minus-fresh.result in
    let believed = c.in_ok-believed.believed in
    let before = c.loop-believed.invariant in
    let have = have_cones m d.cones.now c.requires.derivation.set_up.cones in
    let applied : ℕ = common (applicable m (common believed d.state)) (applicable m d.state) in
    let applied_is : c.common-in-loop-believed.result ≡ applied = c.common-in-loop-believed.ensures ∙ ap (λ (x : ℕ). common x d.goal) (c.applicable_rules-acting.ensures ∙ ap (applicable m) c.common.ensures)
    ∙ ap (common (applicable m (common believed d.state))) d.right in
    let adds : Within fresh applied = (λ k h. (in_minus applied rules k (subst (λ (x : ℕ). has x k ≡ true) (c.minus-fresh.ensures ∙ ap (λ (x : ℕ). minus x rules) applied_is) h)).0) in
    record {
      found = c.in_ok-believed.ensures.found;
      within = subst (λ (x : ℕ). Within x (applicable m d.state)) (sym c.union-rules.ensures) (within_grows m c.requires.derivation.set_up.plain d.state cones c.args.against.now have rules believed fresh before.within adds);
      founded = subst (λ (x : ℕ). (s t : List BeliefSet) → IsShownBy m d.state s → AreAbove m cones c.args.against.now s → IsReductEquilibrium m s t → DoAct m t x) (sym c.union-rules.ensures)
          (founded_more m c.requires.derivation.set_up.plain d.state cones c.args.against.now have rules believed fresh before.within c.in_ok-believed.ensures.told adds before.founded);
    }

pub loop-believed-smaller : goal.loop-believed-smaller
loop-believed-smaller c =
    let d = c.args.derivation.now in
    let m = d.system.now in
    let rules = c.loop-believed.rules in
    let fresh = c.minus-fresh.result in
    let target = applicable m d.state in
    let within : Within fresh (minus target rules) = (λ k h. (
    let (inside, out) = in_minus c.common-in-loop-believed.result rules k (subst (λ (x : ℕ). has x k ≡ true) c.minus-fresh.ensures h) in
    let known : has d.goal k ≡ true = (in_common c.applicable_rules-acting.result d.goal k (subst (λ (x : ℕ). has x k ≡ true) c.common-in-loop-believed.ensures inside)).1 in
    has-minus target rules k ∙ and_from (has target k) (not (has rules k)) (subst (λ (x : ℕ). has x k ≡ true) d.right known) (not_from_false (has rules k) out))) in
    subst (λ (x : ℕ). size (minus target x) < size (minus target rules)) (sym c.union-rules.ensures)
    (fewer_to_add target rules fresh within (λ e. true≢false (sym (eq-eqb fresh c.empty.result (e ∙ sym c.empty.ensures)) ∙ (sym c.eq.ensures ∙ c.if-eq.false))))
