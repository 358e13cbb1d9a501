use Rattle.std.proofs.Common.{◌≡◌, ◌∙◌, ◌<◌, ℕ, true, List, length, map, get_or, slice_get, Some, sym, ap, subst, arith}
use Rattle.std.specs.List.{AllByRecursion}
use Rattle.std.proofs.lemmas.List.{length-map}
use Rattle.mcs_sets.specs.Orders.{StateBefore}
use Rattle.mcs_sets.specs.Sets.{such_that}
use Rattle.mcs_base.specs.Listings.{IsListing}
use Rattle.mcs_system.specs.Plain.{Name, Formula, Context, System}
use Rattle.mcs_system.specs.Atoms.{atoms_of}
use Rattle.mcs_system.specs.Faults.{has_twins}
use Rattle.mcs_system.specs.Logic.{with_heads}
use Rattle.mcs_system.specs.Seen.{formula_of, context_of}
use Rattle.mcs_system.specs.Systems.{variables_of, heads_into, IsAcceptedPart}
use Rattle.mcs_system.specs.Views.{IsAcceptedView, at_places, beliefs_at}
use Rattle.mcs_system.proofs.ValidLemmas.{few_variables}
use Rattle.mcs_cnf.specs.ClauseLists.{AreOver, IsOver}
use Rattle.mcs_cnf.proofs.OverLemmas.{context_atoms}
use Rattle.mcs_classical.specs.Assumptions.{assumed}
use Rattle.mcs_classical.specs.declared.assumptions.Assumption.{Assumption}
use Rattle.mcs_classical.proofs.AssumptionLemmas.{each_of_all}
use Rattle.mcs_laws.proofs.Views.{view_listings}
use Rattle.mcs_asking.specs.Certificates.{IsAcceptedFor}
use Rattle.mcs_asking.specs.Kinds.{AreOfKind, IsOverKb}
use Rattle.mcs_asking.proofs.AnswerLemmas.{as_asked}
use Rattle.mcs_asking.proofs.AskingLemmas.{context_there}
use Rattle.mcs_asking.proofs.CoverLemmas.{own_over, heads_over, beliefs_over, few_beliefs}
use Rattle.mcs_asking.proofs.KindItems.{few_parts}
use Rattle.mcs_asking.proofs.KindLemmas.{heads_of_kind, beliefs_of_kind}
use Rattle.mcs_keeping.specs.Certified.{IsCertified}
use Rattle.mcs_solver.proofs.KeepingLemmas.{certified_there}
use Rattle.mcs_solver.proofs.KindLemmas.{made_asked, asked_made}
use Rattle.mcs_solver.proofs.parts.parts_with.Goals as goal

pub invariant_of-asked : goal.invariant_of-asked
invariant_of-asked c =
    let m : System = c.args.system.now in
    let i = c.args.context in
    let asked : map (λ f. formula_of f.now) c.deref.result.now ≡ beliefs_at m (variables_of m i) = ap (map (λ f. formula_of f.now)) c.deref.ensures.value ∙ c.in_ok-beliefs.ensures in
    record {
      few = c.atoms_of.ensures.few;
      few_beliefs = omega (arith, ap length asked, length-map c.deref.result.now (λ f. formula_of f.now), few_beliefs m i, few_variables m c.contexts.ensures.valid);
      over = subst (λ (ns : List Name). AreOver ns (map (λ f. formula_of f.now) c.deref.result.now)) (sym c.atoms_of.ensures.value) (subst (AreOver (atoms_of m i)) (sym asked) (beliefs_over m i));
    }

pub invariant_of-given : goal.invariant_of-given
invariant_of-given c =
    let m : System = c.args.system.now in
    let i = c.args.context in
    let every = such_that 64 (λ k. true) in
    let over = subst (AreOver (atoms_of m i)) (sym (c.in_ok-assumptions.ensures.of_rules every)) (heads_over m i every) in
    let each : AreOver (atoms_of m i) (map (λ (a : Assumption). formula_of a.formula.now) c.in_ok-assumptions.assumptions.items) = each_of_all (IsOver (atoms_of m i)) c.in_ok-assumptions.assumptions.items c.in_ok-assumptions.ensures.numbers over in
    record {
      different = ap has_twins c.atoms_of.ensures.value ∙ (context_atoms m i).0;
      numbers = subst (AllByRecursion (λ (a : Assumption). a.number < 64)) (sym c.deref-2.ensures.value) c.in_ok-assumptions.ensures.numbers;
      over = subst (λ (ns : List Name). AreOver ns (map (λ (a : Assumption). formula_of a.formula.now) c.deref-2.result.now)) (sym c.atoms_of.ensures.value)
          (subst (λ (xs : List Assumption). AreOver (atoms_of m i) (map (λ (a : Assumption). formula_of a.formula.now) xs)) (sym c.deref-2.ensures.value) each);
    }

pub accepted_views-requires-clause-few_parts : goal.accepted_views-requires-clause-few_parts
accepted_views-requires-clause-few_parts c =
    let m : System = c.args.system.now in
    few_parts m c.contexts.ensures.valid c.args.context _ (context_there m c.contexts.result.now c.args.context c.index-contexts-context.result c.contexts.ensures.value c.requires.context)

pub accepted_views-requires-clause-kb : goal.accepted_views-requires-clause-kb
accepted_views-requires-clause-kb c =
    let m : System = c.args.system.now in
    let i = c.args.context in
    let d : Context = context_of (get_or c.contexts.result.now i c.index-contexts-context.result) in
    let there : slice_get m.contexts i ≡ Some d = context_there m c.contexts.result.now i c.index-contexts-context.result c.contexts.ensures.value c.requires.context in
    subst (λ (ns : List Name). IsOverKb ns d.kb) (sym c.atoms_of.ensures.value) (own_over m i d there)

pub accepted_views-requires-clause-heads : goal.accepted_views-requires-clause-heads
accepted_views-requires-clause-heads c =
    let m : System = c.args.system.now in
    let i = c.args.context in
    let d : Context = context_of (get_or c.contexts.result.now i c.index-contexts-context.result) in
    let there : slice_get m.contexts i ≡ Some d = context_there m c.contexts.result.now i c.index-contexts-context.result c.contexts.ensures.value c.requires.context in
    let told : assumed c.args.rules c.deref-2.result.now ≡ heads_into m i c.args.rules = ap (assumed c.args.rules) c.deref-2.ensures.value ∙ c.in_ok-assumptions.ensures.of_rules c.args.rules in
    subst (AreOfKind d.kb) (sym told) (heads_of_kind m c.contexts.ensures.valid i c.args.rules d there)

pub accepted_views-requires-clause-beliefs : goal.accepted_views-requires-clause-beliefs
accepted_views-requires-clause-beliefs c =
    let m : System = c.args.system.now in
    let i = c.args.context in
    let d : Context = context_of (get_or c.contexts.result.now i c.index-contexts-context.result) in
    let there : slice_get m.contexts i ≡ Some d = context_there m c.contexts.result.now i c.index-contexts-context.result c.contexts.ensures.value c.requires.context in
    let asked : map (λ f. formula_of f.now) c.deref.result.now ≡ beliefs_at m (variables_of m i) = ap (map (λ f. formula_of f.now)) c.deref.ensures.value ∙ c.in_ok-beliefs.ensures in
    subst (AreOfKind d.kb) (sym asked) (beliefs_of_kind m c.contexts.ensures.valid i d there)

pub accepted_views-requires-clause-made : goal.accepted_views-requires-clause-made
accepted_views-requires-clause-made c =
    let m : System = c.args.system.now in
    let i = c.args.context in
    made_asked m i _ c.atoms_of.result.now c.deref-2.result.now (map (λ f. formula_of f.now) c.deref.result.now) (context_there m c.contexts.result.now i c.index-contexts-context.result c.contexts.ensures.value c.requires.context)
    c.atoms_of.ensures.value (λ rules. ap (assumed rules) c.deref-2.ensures.value ∙ c.in_ok-assumptions.ensures.of_rules rules) (ap (map (λ f. formula_of f.now)) c.deref.ensures.value ∙ c.in_ok-beliefs.ensures) c.args.known.now c.requires.made

pub returns-in_err-views-clause-made : goal.returns-in_err-views-clause-made
returns-in_err-views-clause-made c =
    let m : System = c.args.system.now in
    let i = c.args.context in
    asked_made m i _ c.atoms_of.result.now c.deref-2.result.now (map (λ f. formula_of f.now) c.deref.result.now) (context_there m c.contexts.result.now i c.index-contexts-context.result c.contexts.ensures.value c.requires.context)
    c.atoms_of.ensures.value (λ rules. ap (assumed rules) c.deref-2.ensures.value ∙ c.in_ok-assumptions.ensures.of_rules rules) (ap (map (λ f. formula_of f.now)) c.deref.ensures.value ∙ c.in_ok-beliefs.ensures) c.accepted_views.new.known c.in_err-views.ensures.made

pub returns-in-Ok-clause-made : goal.returns-in-Ok-clause-made
returns-in-Ok-clause-made c =
    let m : System = c.args.system.now in
    let i = c.args.context in
    asked_made m i _ c.atoms_of.result.now c.deref-2.result.now (map (λ f. formula_of f.now) c.deref.result.now) (context_there m c.contexts.result.now i c.index-contexts-context.result c.contexts.ensures.value c.requires.context)
    c.atoms_of.ensures.value (λ rules. ap (assumed rules) c.deref-2.ensures.value ∙ c.in_ok-assumptions.ensures.of_rules rules) (ap (map (λ f. formula_of f.now)) c.deref.ensures.value ∙ c.in_ok-beliefs.ensures) c.accepted_views.new.known c.in_ok-views.ensures.made

pub returns-clause-made : goal.returns-clause-made
returns-clause-made c =
    let m : System = c.args.system.now in
    let i = c.args.context in
    asked_made m i _ c.atoms_of.result.now c.deref-2.result.now (map (λ f. formula_of f.now) c.deref.result.now) (context_there m c.contexts.result.now i c.index-contexts-context.result c.contexts.ensures.value c.requires.context)
    c.atoms_of.ensures.value (λ rules. ap (assumed rules) c.deref-2.ensures.value ∙ c.in_ok-assumptions.ensures.of_rules rules) (ap (map (λ f. formula_of f.now)) c.deref.ensures.value ∙ c.in_ok-beliefs.ensures) c.accepted_views.new.known c.in_ok-views.ensures.made

pub returns-in-Ok-clause-exact : goal.returns-in-Ok-clause-exact
returns-in-Ok-clause-exact c =
    let m : System = c.args.system.now in
    let i = c.args.context in
    let told : assumed c.args.rules c.deref-2.result.now ≡ heads_into m i c.args.rules = ap (assumed c.args.rules) c.deref-2.ensures.value ∙ c.in_ok-assumptions.ensures.of_rules c.args.rules in
    let asked : map (λ f. formula_of f.now) c.deref.result.now ≡ beliefs_at m (variables_of m i) = ap (map (λ f. formula_of f.now)) c.deref.ensures.value ∙ c.in_ok-beliefs.ensures in
    let d : Context = context_of (get_or c.contexts.result.now i c.index-contexts-context.result) in
    let there : slice_get m.contexts i ≡ Some d = context_there m c.contexts.result.now i c.index-contexts-context.result c.contexts.ensures.value c.requires.context in
    let listing : IsListing (IsAcceptedView (with_heads d.kb (heads_into m i c.args.rules)) (beliefs_at m (variables_of m i))) StateBefore c.in_ok-views.views.items =
    as_asked (λ (ns : List Name) (hs bs : List Formula). IsListing (IsAcceptedView (with_heads d.kb hs) bs) StateBefore c.in_ok-views.views.items) _ _ _ _ _ _ c.atoms_of.ensures.value told asked c.in_ok-views.ensures.exact in
    let parts = view_listings m i c.args.rules d c.in_ok-views.views.items there listing in
    let same = c.in-Ok.ensures ∙ ap (map (at_places c.vars_of.result)) c.deref-3.ensures.value ∙ ap (λ (s : ℕ). map (at_places s) c.in_ok-views.views.items) c.vars_of.ensures in
    subst (λ (xs : List ℕ). IsListing (IsAcceptedPart m i c.args.rules) StateBefore xs) (sym same) parts

pub returns-in-Ok-clause-certified : goal.returns-in-Ok-clause-certified
returns-in-Ok-clause-certified c =
    let m : System = c.args.system.now in
    let i = c.args.context in
    let told : assumed c.args.rules c.deref-2.result.now ≡ heads_into m i c.args.rules = ap (assumed c.args.rules) c.deref-2.ensures.value ∙ c.in_ok-assumptions.ensures.of_rules c.args.rules in
    let asked : map (λ f. formula_of f.now) c.deref.result.now ≡ beliefs_at m (variables_of m i) = ap (map (λ f. formula_of f.now)) c.deref.ensures.value ∙ c.in_ok-beliefs.ensures in
    let d : Context = context_of (get_or c.contexts.result.now i c.index-contexts-context.result) in
    let there : slice_get m.contexts i ≡ Some d = context_there m c.contexts.result.now i c.index-contexts-context.result c.contexts.ensures.value c.requires.context in
    let same = c.in-Ok.ensures ∙ ap (map (at_places c.vars_of.result)) c.deref-3.ensures.value ∙ ap (λ (s : ℕ). map (at_places s) c.in_ok-views.views.items) c.vars_of.ensures in
    certified_there m i c.args.rules d c.args.certify c.in_ok-views.views.items _ c.in_ok-views.cert there same
    (as_asked (λ (ns : List Name) (hs bs : List Formula). IsCertified c.args.certify (IsAcceptedFor ns (with_heads d.kb hs) bs c.in_ok-views.views.items) c.in_ok-views.cert) _ _ _ _ _ _ c.atoms_of.ensures.value told asked c.in_ok-views.ensures.certified)
