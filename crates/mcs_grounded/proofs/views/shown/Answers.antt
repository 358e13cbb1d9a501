use Rattle.std.proofs.Common.{◌≡◌, ◌++◌, [], ◌∷◌, ◌∙◌, ℕ, List, map, sym, subst, take, ap, true≢false}
use Rattle.std.proofs.lemmas.Bool.{eqb-true, eq-eqb}
use Rattle.std.proofs.lemmas.List.{take_all}
use Rattle.mcs_sets.specs.Sets.{common, members}
use Rattle.mcs_base.proofs.Mapped.{map-take_read}
use Rattle.mcs_system.specs.Systems.{variables_of}
use Rattle.mcs_system.specs.Views.{at_places}
use Rattle.mcs_grounded.specs.Parts.{numbers_at}
use Rattle.mcs_grounded.specs.Views.{AreShown, shown_at}
use Rattle.mcs_grounded.proofs.Viewing.{shown_none, shown_more, shown_beside}
use Rattle.mcs_grounded.proofs.views.shown.Goals.{then-eq+in_ok-push, else-eq}
use Rattle.mcs_grounded.proofs.views.shown.Goals as goal

pub loop-view-init : goal.loop-view-init
loop-view-init c = subst (AreShown c.args.derivation.now c.args.context []) (sym c.new-found.ensures.items) (shown_none c.args.derivation.now c.args.context)

pub loop-view-preserved : goal.loop-view-preserved
loop-view-preserved c =
    let d = c.args.derivation.now in
    let i = c.args.context in
    let views = c.args.views.now in
    let k = c.loop-view.view-index in
    let view = c.view-item.result in
    let places = c.args.places in
    let old = map (at_places places) (take k views) in
    let set = c.at_places-set.result in
    let shows : shown_at d i set ≡ c.numbers_at.result = sym (c.numbers_at.ensures ∙ ap (numbers_at d.places.now.reads set 0) (c.members.ensures.list ∙ ap members c.vars_of-variables.ensures)) in
    let part : c.common-part.result ≡ common d.state (variables_of d.system.now i) = c.common-part.ensures ∙ ap (common d.state) c.vars_of-variables.ensures in
    subst (λ (xs : List ℕ). AreShown d i xs c.if-eq.found.items) (ap (λ (s : ℕ). old ++ s ∷ []) c.at_places-set.ensures ∙ sym (map-take_read (at_places places) views k view c.loop-view-test.true c.view-item.is)) (elim c.if-eq.branch [
      | then-eq+in_ok-push w ↦ subst (AreShown d i (old ++ set ∷ [])) (sym (ap (λ v. v.items) w.found-is ∙ w.in_ok-push.ensures.items))
          (shown_more d i old c.loop-view.found.items set c.loop-view.invariant (shows ∙ eqb-true c.numbers_at.result c.common-part.result (sym c.eq.ensures ∙ w.if-eq.true) ∙ part))
      | else-eq w ↦ subst (AreShown d i (old ++ set ∷ [])) (sym (ap (λ v. v.items) w.found-is))
          (shown_beside d i old c.loop-view.found.items set c.loop-view.invariant (λ same. true≢false (sym (eq-eqb c.numbers_at.result c.common-part.result (sym shows ∙ same ∙ sym part)) ∙ (sym c.eq.ensures ∙ w.if-eq.false))))
    ])

pub returns : goal.returns
returns c = subst (λ (xs : List ℕ). AreShown c.args.derivation.now c.args.context (map (at_places c.args.places) xs) c.loop-view.found.items) (take_all c.loop-view.view-index c.args.views.now c.loop-view-test.false) c.loop-view.invariant
