use Rattle.std.proofs.Common.{◌≡◌, ◌∙◌, ◌↔◌, IsTrue, ℕ, List, length, map, get_or, slice_get, Some, ap, subst, arith}
use Rattle.std.proofs.lemmas.List.{length-map}
use Rattle.std.proofs.lemmas.Result.{IfOk-weaker}
use Rattle.mcs_base.proofs.Booleans.{false_tells}
use Rattle.mcs_system.specs.Plain.{Name, Formula, Context, System}
use Rattle.mcs_system.specs.Logic.{with_heads}
use Rattle.mcs_system.specs.Seen.{formula_of, context_of}
use Rattle.mcs_system.specs.Systems.{variables_of, heads_into}
use Rattle.mcs_system.specs.Views.{at_places, beliefs_at}
use Rattle.mcs_system.proofs.ValidLemmas.{few_variables}
use Rattle.mcs_asking.specs.Certificates.{plain_of, IsAcceptedFor}
use Rattle.mcs_asking.proofs.AnswerLemmas.{accepted_none, accepted_views, accepted_right, as_asked}
use Rattle.mcs_asking.proofs.AskingLemmas.{context_there}
use Rattle.mcs_asking.proofs.CoverLemmas.{own_over, heads_over, beliefs_over, few_beliefs}
use Rattle.mcs_asking.proofs.KindItems.{few_parts}
use Rattle.mcs_asking.proofs.KindLemmas.{beliefs_of_kind}
use Rattle.mcs_certificate.proofs.acceptance.accepts.Goals as goal

pub invariant_of-asked : goal.invariant_of-asked
invariant_of-asked c =
    let m : System = c.args.system.now in
    let asked : map (λ f. formula_of f.now) c.deref.result.now ≡ beliefs_at m (variables_of m c.args.context) = ap (map (λ f. formula_of f.now)) c.deref.ensures.value ∙ c.in_ok-beliefs.ensures in
    record {
      few = c.atoms_of.ensures.few;
      few_beliefs = omega (arith, ap length asked, length-map c.deref.result.now (λ f. formula_of f.now), few_beliefs m c.args.context, few_variables m c.contexts.ensures.valid);
      over = rw (c.atoms_of.ensures.value, asked) (beliefs_over m c.args.context);
    }

pub invariant_of-question : goal.invariant_of-question
invariant_of-question c =
    let m : System = c.args.system.now in
    let there = context_there m c.contexts.result.now c.args.context c.index-contexts-context.result c.contexts.ensures.value c.requires.context in
    let told : map (λ f. formula_of f.now) c.deref-2.result.now ≡ heads_into m c.args.context c.args.active = ap (map (λ f. formula_of f.now)) c.deref-2.ensures.value ∙ c.in_ok-heads.ensures in
    let asked : map (λ f. formula_of f.now) c.deref.result.now ≡ beliefs_at m (variables_of m c.args.context) = ap (map (λ f. formula_of f.now)) c.deref.ensures.value ∙ c.in_ok-beliefs.ensures in
    record {
      few_parts = few_parts m c.contexts.ensures.valid c.args.context _ there;
      own = rw c.atoms_of.ensures.value (own_over m c.args.context _ there);
      told = rw (c.atoms_of.ensures.value, told) (heads_over m c.args.context c.args.active);
      kinds = rw asked (beliefs_of_kind m c.contexts.ensures.valid c.args.context _ there);
    }

pub returns-in_default-clause-exact : goal.returns-in_default-clause-exact
returns-in_default-clause-exact c =
    let m : System = c.args.system.now in
    let i = c.args.context in
    let told : map (λ f. formula_of f.now) c.deref-2.result.now ≡ heads_into m i c.args.active = ap (map (λ f. formula_of f.now)) c.deref-2.ensures.value ∙ c.in_ok-heads.ensures in
    let asked : map (λ f. formula_of f.now) c.deref.result.now ≡ beliefs_at m (variables_of m i) = ap (map (λ f. formula_of f.now)) c.deref.ensures.value ∙ c.in_ok-beliefs.ensures in
    let d : Context = context_of (get_or c.contexts.result.now i c.index-contexts-context.result) in
    let there : slice_get m.contexts i ≡ Some d = context_there m c.contexts.result.now i c.index-contexts-context.result c.contexts.ensures.value c.requires.context in
    let none = rw c.in_default.is at c.in_ok-shown.ensures in
    false_tells (accepted_none m i c.args.active c.args.outputs.now (plain_of c.args.cert.now) d there
    (as_asked (λ (ns : List Name) (hs bs : List Formula). (views : List ℕ) → ¬ IsAcceptedFor ns (with_heads d.kb hs) bs views (plain_of c.args.cert.now)) _ _ _ _ _ _ c.atoms_of.ensures.value told asked none))

pub returns-clause-exact : goal.returns-clause-exact
returns-clause-exact c =
    let m : System = c.args.system.now in
    let i = c.args.context in
    let told : map (λ f. formula_of f.now) c.deref-2.result.now ≡ heads_into m i c.args.active = ap (map (λ f. formula_of f.now)) c.deref-2.ensures.value ∙ c.in_ok-heads.ensures in
    let asked : map (λ f. formula_of f.now) c.deref.result.now ≡ beliefs_at m (variables_of m i) = ap (map (λ f. formula_of f.now)) c.deref.ensures.value ∙ c.in_ok-beliefs.ensures in
    let d : Context = context_of (get_or c.contexts.result.now i c.index-contexts-context.result) in
    let there : slice_get m.contexts i ≡ Some d = context_there m c.contexts.result.now i c.index-contexts-context.result c.contexts.ensures.value c.requires.context in
    let views : List ℕ = c.in-Some.views.items in
    let shown = rw c.in-Some.is at c.in_ok-shown.ensures in
    IfOk-weaker c.are_parts.result _ _ (λ same tells. accepted_views m i c.args.active c.args.outputs.now (plain_of c.args.cert.now) d there views same c.contexts.ensures.valid
    (as_asked (λ (ns : List Name) (hs bs : List Formula). IsAcceptedFor ns (with_heads d.kb hs) bs views (plain_of c.args.cert.now)) _ _ _ _ _ _ c.atoms_of.ensures.value told asked shown)
    (subst (λ (vs : List ℕ). IsTrue same ↔ (map (at_places (variables_of m i)) vs ≡ c.args.outputs.now)) c.deref-3.ensures.value tells)) c.are_parts.ensures

pub returns-clause-right : goal.returns-clause-right
returns-clause-right c =
    IfOk-weaker c.are_parts.result _ _ (λ same tells h. accepted_right c.args.system.now c.args.context c.args.active c.args.outputs.now (plain_of c.args.cert.now) c.contexts.ensures.valid (tells.0 h)) (returns-clause-exact c)
