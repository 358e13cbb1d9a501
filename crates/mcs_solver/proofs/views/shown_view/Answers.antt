use Rattle.std.proofs.Common.{◌≡◌, ◌∙◌, ◌++◌, ◌∷◌, [], List, map, ap, subst}
use Rattle.std.proofs.lemmas.Result.{IfOk-weaker}
use Rattle.mcs_sets.specs.Orders.{StateBefore}
use Rattle.mcs_base.specs.Listings.{IsListing}
use Rattle.mcs_system.specs.Plain.{Formula, Classical}
use Rattle.mcs_system.specs.Seen.{formula_of}
use Rattle.mcs_system.specs.Views.{IsAcceptedView}
use Rattle.mcs_cnf.specs.Classical.{IsAcceptedClassical, certificate_of}
use Rattle.mcs_cnf.proofs.GrowingLemmas.{room_known}
use Rattle.mcs_classical.proofs.ConsequenceLemmas.{assumed_over}
use Rattle.mcs_solver.specs.Questions.{asked_names, asked_beliefs, asked_heads, heads_with}
use Rattle.mcs_solver.proofs.views.shown_view.Goals as goal

pub outputs_with-shown-requires-clause-added : goal.outputs_with-shown-requires-clause-added
outputs_with-shown-requires-clause-added c =
    let q = c.args.question.now in
    let told : map (λ f. formula_of f.now) c.deref.result.now ≡ asked_heads q = ap (map (λ f. formula_of f.now)) c.deref.ensures.value ∙ c.in_ok-heads.ensures in
    rw told (assumed_over (asked_names q) q.rules q.given.now.assumptions.now q.given.now.over)

pub outputs_with-shown-requires-clause-room : goal.outputs_with-shown-requires-clause-room
outputs_with-shown-requires-clause-room c =
    let q = c.args.question.now in
    room_known (asked_names q) c.in_ok-clauses.clauses (map formula_of c.args.formulas.now) (c.in_ok-clauses.ensures.made (heads_with q) (asked_beliefs q) c.requires.made)

pub returns-clause-made : goal.returns-clause-made
returns-clause-made c =
    let q = c.args.question.now in
    c.outputs_with-shown.ensures.kept ∙ c.in_ok-clauses.ensures.made (heads_with q) (asked_beliefs q) c.requires.made

pub returns-clause-exact : goal.returns-clause-exact
returns-clause-exact c =
    let q = c.args.question.now in
    let fs = map formula_of c.args.formulas.now in
    let told : map (λ f. formula_of f.now) c.deref.result.now ≡ asked_heads q = ap (map (λ f. formula_of f.now)) c.deref.ensures.value ∙ c.in_ok-heads.ensures in
    IfOk-weaker c.outputs_with-shown.result _ _
    (λ r h. subst (λ (hs : List Formula). IsListing (IsAcceptedView (Classical (fs ++ hs)) (asked_beliefs q)) StateBefore (r.0 ∷ [])) told (h fs (c.in_ok-clauses.ensures.made (heads_with q) (asked_beliefs q) c.requires.made) c.requires.formulas))
    c.outputs_with-shown.ensures.exact

pub returns-clause-shown : goal.returns-clause-shown
returns-clause-shown c =
    let q = c.args.question.now in
    let fs = map formula_of c.args.formulas.now in
    let told : map (λ f. formula_of f.now) c.deref.result.now ≡ asked_heads q = ap (map (λ f. formula_of f.now)) c.deref.ensures.value ∙ c.in_ok-heads.ensures in
    IfOk-weaker c.outputs_with-shown.result _ _
    (λ r h. subst (λ (hs : List Formula). IsAcceptedClassical (asked_names q) (fs ++ hs) (asked_beliefs q) (r.0 ∷ []) (certificate_of r.1)) told (h fs (c.in_ok-clauses.ensures.made (heads_with q) (asked_beliefs q) c.requires.made) c.requires.formulas))
    c.outputs_with-shown.ensures.accepted
