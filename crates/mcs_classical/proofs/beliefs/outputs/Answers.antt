use Rattle.std.proofs.Common.{◌≡◌, List, [], ◌∷◌, Ok, length, map, sym, ap, ◌∙◌, subst, arith}
use Rattle.std.proofs.lemmas.List.{length-map}
use Rattle.std.proofs.lemmas.Result.{IfOk-weaker}
use Rattle.mcs_sets.specs.Orders.{StateBefore}
use Rattle.mcs_base.specs.Listings.{IsListing}
use Rattle.std.proofs.lemmas.Iterator.{YieldsList-from_slice}
use Rattle.std.proofs.lemmas.Iterator.Consumers.{map_from_collect}
use Rattle.mcs_system.specs.Plain.{Formula, Classical}
use Rattle.mcs_system.specs.Views.{IsAcceptedView}
use Rattle.mcs_cnf.specs.ClauseLists.{AreOver}
use Rattle.mcs_cnf.specs.Classical.{IsAcceptedClassical, certificate_of}
use Rattle.mcs_system.specs.Seen.{formula_of}
use Rattle.mcs_cnf.proofs.GrowingLemmas.{room_known}
use Rattle.mcs_classical.proofs.OutputLemmas.{lent_formulas}
use Rattle.mcs_classical.proofs.beliefs.outputs.Goals as goal

pub invariant_of-asked : goal.invariant_of-asked
invariant_of-asked c =
    let lent : map (λ b. b.now) c.in_ok-lent.lent.items ≡ c.args.beliefs.now = map_from_collect {E = Unit {0}} (Ok c.in_ok-lent.lent) c.in_ok-lent.ensures.ran (YieldsList-from_slice c.args.beliefs.now c.iter.ensures.rest) in
    let same : map (λ b. formula_of b.now) c.deref.result.now ≡ map formula_of c.args.beliefs.now = ap (map (λ b. formula_of b.now)) c.deref.ensures.value ∙ lent_formulas c.in_ok-lent.lent.items c.args.beliefs.now lent in
    record {
      few = c.requires.few;
      few_beliefs = omega (arith, ap length c.deref.ensures.value, length-map c.in_ok-lent.lent.items (λ b. b.now), ap length lent, c.requires.few_beliefs);
      over = subst (AreOver c.args.atoms.now) (sym same) c.requires.beliefs;
    }

pub outputs_from-requires : goal.outputs_from-requires
outputs_from-requires c = room_known c.args.atoms.now c.in_ok-known.known (map formula_of c.args.kb.now) c.in_ok-known.ensures

pub returns-clause-exact : goal.returns-clause-exact
returns-clause-exact c =
    let same : map (λ b. formula_of b.now) c.deref.result.now ≡ map formula_of c.args.beliefs.now = ap (map (λ b. formula_of b.now)) c.deref.ensures.value
    ∙ lent_formulas c.in_ok-lent.lent.items c.args.beliefs.now (map_from_collect {E = Unit {0}} (Ok c.in_ok-lent.lent) c.in_ok-lent.ensures.ran (YieldsList-from_slice c.args.beliefs.now c.iter.ensures.rest)) in
    IfOk-weaker c.outputs_from.result _ _
    (λ r exact. subst (λ (ps : List Formula). IsListing (IsAcceptedView (Classical (map formula_of c.args.kb.now)) ps) StateBefore (r.0 ∷ [])) same
    (exact (map formula_of c.args.kb.now) c.in_ok-known.ensures c.requires.kb)) c.outputs_from.ensures.exact

pub returns-clause-accepted : goal.returns-clause-accepted
returns-clause-accepted c =
    let same : map (λ b. formula_of b.now) c.deref.result.now ≡ map formula_of c.args.beliefs.now = ap (map (λ b. formula_of b.now)) c.deref.ensures.value
    ∙ lent_formulas c.in_ok-lent.lent.items c.args.beliefs.now (map_from_collect {E = Unit {0}} (Ok c.in_ok-lent.lent) c.in_ok-lent.ensures.ran (YieldsList-from_slice c.args.beliefs.now c.iter.ensures.rest)) in
    IfOk-weaker c.outputs_from.result _ _
    (λ r accepted. subst (λ (ps : List Formula). IsAcceptedClassical c.args.atoms.now (map formula_of c.args.kb.now) ps (r.0 ∷ []) (certificate_of r.1)) same
    (accepted (map formula_of c.args.kb.now) c.in_ok-known.ensures c.requires.kb)) c.outputs_from.ensures.accepted
