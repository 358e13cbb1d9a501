use Rattle.std.proofs.Common.{◌∙◌, ℕ, map, ap, sym, subst, inl, inr}
use Rattle.mcs_sets.specs.Sets.{has}
use Rattle.mcs_sets.proofs.Lattice.{in_with, no_member_of_none}
use Rattle.mcs_base.proofs.Mapped.{slice_get-map_read}
use Rattle.mcs_system.specs.Logic.{Entails}
use Rattle.mcs_system.specs.Plain.{Default}
use Rattle.mcs_system.specs.Seen.{default_of}
use Rattle.mcs_default.proofs.SaidLemmas.{same_there}
use Rattle.mcs_default.proofs.said.with_said_pre.Goals.{then-is_said, else-is_said}
use Rattle.mcs_default.proofs.said.with_said_pre.Goals as goal

pub loop-index-init : goal.loop-index-init
loop-index-init c fs all k member = absurd (no_member_of_none c.empty-places.result c.empty-places.ensures k member)

pub loop-index-preserved : goal.loop-index-preserved
loop-index-preserved c fs all k member d at =
    let ds = map (λ d'. default_of d'.now) c.args.defaults.now in
    let i = c.loop-index.index in
    let x = c.index-defaults-index.result in
    let there = slice_get-map_read (λ d'. default_of d'.now) c.args.defaults.now i x c.loop-index-test.true c.index-defaults-index.is in
    elim c.if-is_said.branch [
      | then-is_said w ↦ (elim ((in_with c.loop-index.places i k).0 (sym (ap (λ (s : ℕ). has s k) (w.places-is ∙ w.with-places.ensures)) ∙ member)) [
        | inl old ↦ c.loop-index.invariant fs all k old d at
        | inr new ↦ subst (λ (e : Default). Entails fs e.pre) (same_there ds i k (default_of x.now) d new there at) (c.is_said.ensures fs all w.if-is_said.true)
      ])
      | else-is_said w ↦ c.loop-index.invariant fs all k (sym (ap (λ (s : ℕ). has s k) w.places-is) ∙ member) d at
    ]
