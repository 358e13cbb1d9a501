use Rattle.std.proofs.Common.{◌≡◌, ◌∙◌, ◌++◌, List, Ok, length, map, sym, ap, subst, arith}
use Rattle.std.proofs.lemmas.List.{length-map}
use Rattle.std.proofs.lemmas.Result.{IfOk-weaker}
use Rattle.std.proofs.lemmas.Iterator.{YieldsList-from_slice}
use Rattle.std.proofs.lemmas.Iterator.Consumers.{map_from_collect}
use Rattle.mcs_sets.specs.Orders.{StateBefore}
use Rattle.mcs_base.specs.Listings.{IsListing}
use Rattle.mcs_system.specs.Plain.{Formula, DefaultTheory, Fact}
use Rattle.mcs_system.specs.Logic.{with_heads}
use Rattle.mcs_system.specs.Views.{IsAcceptedView}
use Rattle.mcs_system.specs.Seen.{formula_of, item_of}
use Rattle.mcs_cnf.specs.ClauseLists.{AreOver}
use Rattle.mcs_classical.proofs.OutputLemmas.{lent_formulas}
use Rattle.mcs_evidence.specs.Defaults.{IsAcceptedDefault, verdicts_of}
use Rattle.mcs_default.proofs.listing.extensions.Goals as goal

pub extensions_from-requires-clause-added : goal.extensions_from-requires-clause-added
extensions_from-requires-clause-added c =
    let same : map (λ b. formula_of b.now) c.deref-2.result.now ≡ map formula_of c.args.added.now = ap (map (λ b. formula_of b.now)) c.deref-2.ensures.value
    ∙ lent_formulas c.in_ok-lent_added.lent_added.items c.args.added.now (map_from_collect {E = Unit {0}} (Ok c.in_ok-lent_added.lent_added) c.in_ok-lent_added.ensures.ran (YieldsList-from_slice c.args.added.now c.iter.ensures.rest)) in
    rw same c.requires.added

pub invariant_of-asked : goal.invariant_of-asked
invariant_of-asked c =
    let lent : map (λ b. b.now) c.in_ok-lent_beliefs.lent_beliefs.items ≡ c.args.beliefs.now = map_from_collect {E = Unit {0}} (Ok c.in_ok-lent_beliefs.lent_beliefs) c.in_ok-lent_beliefs.ensures.ran (YieldsList-from_slice c.args.beliefs.now c.iter-2.ensures.rest) in
    let same : map (λ b. formula_of b.now) c.deref.result.now ≡ map formula_of c.args.beliefs.now = ap (map (λ b. formula_of b.now)) c.deref.ensures.value ∙ lent_formulas c.in_ok-lent_beliefs.lent_beliefs.items c.args.beliefs.now lent in
    record {
      few = c.requires.few;
      few_beliefs = omega (arith, ap length c.deref.ensures.value, length-map c.in_ok-lent_beliefs.lent_beliefs.items (λ b. b.now), ap length lent, c.requires.few_beliefs);
      over = subst (AreOver c.args.atoms.now) (sym same) c.requires.beliefs;
    }

pub returns-clause-exact : goal.returns-clause-exact
returns-clause-exact c =
    let items = map item_of c.args.items.now in
    let added : map (λ b. formula_of b.now) c.deref-2.result.now ≡ map formula_of c.args.added.now = ap (map (λ b. formula_of b.now)) c.deref-2.ensures.value
    ∙ lent_formulas c.in_ok-lent_added.lent_added.items c.args.added.now (map_from_collect {E = Unit {0}} (Ok c.in_ok-lent_added.lent_added) c.in_ok-lent_added.ensures.ran (YieldsList-from_slice c.args.added.now c.iter.ensures.rest)) in
    let beliefs : map (λ b. formula_of b.now) c.deref.result.now ≡ map formula_of c.args.beliefs.now = ap (map (λ b. formula_of b.now)) c.deref.ensures.value
    ∙ lent_formulas c.in_ok-lent_beliefs.lent_beliefs.items c.args.beliefs.now (map_from_collect {E = Unit {0}} (Ok c.in_ok-lent_beliefs.lent_beliefs) c.in_ok-lent_beliefs.ensures.ran (YieldsList-from_slice c.args.beliefs.now c.iter-2.ensures.rest)) in
    IfOk-weaker c.extensions_from.result _ _
    (λ r exact. subst (λ (ps : List Formula). IsListing (IsAcceptedView (with_heads (DefaultTheory items) (map formula_of c.args.added.now)) ps) StateBefore r.0.items) beliefs
    (subst (λ (hs : List Formula). IsListing (IsAcceptedView (with_heads (DefaultTheory items) hs) (map (λ b. formula_of b.now) c.deref.result.now)) StateBefore r.0.items) added exact)) c.extensions_from.ensures.exact

pub returns-clause-accepted : goal.returns-clause-accepted
returns-clause-accepted c =
    let items = map item_of c.args.items.now in
    let added : map (λ b. formula_of b.now) c.deref-2.result.now ≡ map formula_of c.args.added.now = ap (map (λ b. formula_of b.now)) c.deref-2.ensures.value
    ∙ lent_formulas c.in_ok-lent_added.lent_added.items c.args.added.now (map_from_collect {E = Unit {0}} (Ok c.in_ok-lent_added.lent_added) c.in_ok-lent_added.ensures.ran (YieldsList-from_slice c.args.added.now c.iter.ensures.rest)) in
    let beliefs : map (λ b. formula_of b.now) c.deref.result.now ≡ map formula_of c.args.beliefs.now = ap (map (λ b. formula_of b.now)) c.deref.ensures.value
    ∙ lent_formulas c.in_ok-lent_beliefs.lent_beliefs.items c.args.beliefs.now (map_from_collect {E = Unit {0}} (Ok c.in_ok-lent_beliefs.lent_beliefs) c.in_ok-lent_beliefs.ensures.ran (YieldsList-from_slice c.args.beliefs.now c.iter-2.ensures.rest)) in
    IfOk-weaker c.extensions_from.result _ _
    (λ r accepted. subst (λ (ps : List Formula). IsAcceptedDefault c.args.atoms.now (items ++ map Fact (map formula_of c.args.added.now)) ps r.0.items (verdicts_of r.1)) beliefs
    (subst (λ (hs : List Formula). IsAcceptedDefault c.args.atoms.now (items ++ map Fact hs) (map (λ b. formula_of b.now) c.deref.result.now) r.0.items (verdicts_of r.1)) added accepted)) c.extensions_from.ensures.accepted
