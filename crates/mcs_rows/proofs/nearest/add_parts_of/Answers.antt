use Rattle.std.proofs.Common.{◌≡◌, ◌∙◌, ◌↔◌, ◌⊎◌, ℕ, List, subst, inl, inr}
use Rattle.std.proofs.lemmas.List.{take_all}
use Rattle.mcs_base.specs.Listings.{IsAmong}
use Rattle.mcs_rows.proofs.NearestLemmas.{part_more}
use Rattle.mcs_rows.proofs.nearest.add_parts_of.Goals as goal

pub loop-part-init : goal.loop-part-init
loop-part-init c a = (λ h. inl h, λ h. elim h [ inl before ↦ before | inr none ↦ absurd none.0 ])

pub loop-part-preserved : goal.loop-part-preserved
loop-part-preserved c = part_more c.deref-part-items.result.now c.loop-part.part-index c.part-item.result c.args.answer.now.active c.args.all.now.items c.loop-part.all.items c.push.new.self.items c.loop-part-test.true c.part-item.is c.loop-part.invariant c.in_ok-push.ensures.items

pub returns : goal.returns
returns c a = subst (λ (ps : List ℕ). IsAmong a c.loop-part.all.items ↔ (IsAmong a c.args.all.now.items ⊎ (IsAmong a.part ps × (a.question ≡ c.args.answer.now.active)))) (take_all c.loop-part.part-index c.deref-part-items.result.now c.loop-part-test.false ∙ c.deref-part-items.ensures.value) (c.loop-part.invariant a)
