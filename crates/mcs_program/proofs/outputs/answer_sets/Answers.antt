use Rattle.std.proofs.Common.{◌≡◌, ◌++◌, ◌∙◌, List, Ok, map, ap, subst}
use Rattle.std.specs.List.{filter_map}
use Rattle.std.proofs.lemmas.Result.{IfOk-weaker}
use Rattle.std.proofs.lemmas.Iterator.{YieldsList-from_slice}
use Rattle.std.proofs.lemmas.Iterator.Consumers.{map_from_collect}
use Rattle.mcs_sets.specs.Orders.{StateBefore}
use Rattle.mcs_base.specs.Listings.{IsListing}
use Rattle.mcs_system.specs.Plain.{Name, Program, Atom}
use Rattle.mcs_system.specs.Seen.{rule_of}
use Rattle.mcs_system.specs.Logic.{fact_of}
use Rattle.mcs_system.specs.Views.{IsAcceptedView}
use Rattle.mcs_evidence.specs.Programs.{program_shown_of, IsAcceptedProgram}
use Rattle.mcs_program.proofs.outputs.answer_sets.Goals as goal

pub returns-clause-exact : goal.returns-clause-exact
returns-clause-exact c =
    let rules = map rule_of c.args.rules.now in
    let added : map (λ b. b.now) c.deref.result.now ≡ c.args.added.now = ap (map (λ b. b.now)) c.deref.ensures.value ∙ map_from_collect {E = Unit {0}} (Ok c.in_ok-added.added) c.in_ok-added.ensures.ran (YieldsList-from_slice c.args.added.now c.iter.ensures.rest) in
    let beliefs : map (λ b. b.now) c.deref-2.result.now ≡ c.args.beliefs.now = ap (map (λ b. b.now)) c.deref-2.ensures.value ∙ map_from_collect {E = Unit {0}} (Ok c.in_ok-beliefs.beliefs) c.in_ok-beliefs.ensures.ran (YieldsList-from_slice c.args.beliefs.now c.iter-2.ensures.rest) in
    IfOk-weaker c.answer_sets_from.result _ _
    (λ r exact. subst (λ (ns : List Name). IsListing (IsAcceptedView (Program (rules ++ filter_map fact_of (map Atom ns))) (map Atom c.args.beliefs.now)) StateBefore r.0.items) added
    (subst (λ (ns : List Name). IsListing (IsAcceptedView (Program (rules ++ filter_map fact_of (map Atom (map (λ b. b.now) c.deref.result.now)))) (map Atom ns)) StateBefore r.0.items) beliefs exact))
    c.answer_sets_from.ensures.exact

pub returns-clause-accepted : goal.returns-clause-accepted
returns-clause-accepted c =
    let names = c.args.atoms.now in
    let rules = map rule_of c.args.rules.now in
    let added : map (λ b. b.now) c.deref.result.now ≡ c.args.added.now = ap (map (λ b. b.now)) c.deref.ensures.value ∙ map_from_collect {E = Unit {0}} (Ok c.in_ok-added.added) c.in_ok-added.ensures.ran (YieldsList-from_slice c.args.added.now c.iter.ensures.rest) in
    let beliefs : map (λ b. b.now) c.deref-2.result.now ≡ c.args.beliefs.now = ap (map (λ b. b.now)) c.deref-2.ensures.value ∙ map_from_collect {E = Unit {0}} (Ok c.in_ok-beliefs.beliefs) c.in_ok-beliefs.ensures.ran (YieldsList-from_slice c.args.beliefs.now c.iter-2.ensures.rest) in
    IfOk-weaker c.answer_sets_from.result _ _
    (λ r accepted. subst (λ (ns : List Name). IsAcceptedProgram names (rules ++ filter_map fact_of (map Atom ns)) (map Atom c.args.beliefs.now) r.0.items (program_shown_of r.1)) added
    (subst (λ (ns : List Name). IsAcceptedProgram names (rules ++ filter_map fact_of (map Atom (map (λ b. b.now) c.deref.result.now))) (map Atom ns) r.0.items (program_shown_of r.1)) beliefs accepted))
    c.answer_sets_from.ensures.accepted
