use Rattle.std.proofs.Common.{subst, map}
use Rattle.mcs_system.specs.Plain.{Atom}
use Rattle.mcs_system.specs.Seen.{rule_of}
use Rattle.mcs_system.specs.Logic.{true_names}
use Rattle.mcs_cnf.proofs.GrowingLemmas.{room_known}
use Rattle.mcs_cnf.specs.Entailments.{IsModelAt}
use Rattle.mcs_classical.specs.Models.{IsSatisfiedAnswer}
use Rattle.mcs_evidence.specs.Programs.{rest_formulas}
use Rattle.mcs_evidence.proofs.Models.{rest-over, atoms_are_over}
use Rattle.mcs_program.proofs.SearchLemmas.{atoms_of_names}
use Rattle.mcs_program.proofs.outputs.refute_rest.Goals as goal

pub satisfy_from-found-requires-clause-room : goal.satisfy_from-found-requires-clause-room
satisfy_from-found-requires-clause-room c =
    room_known c.args.program.now.atoms.now c.in_ok-rest.rest (rest_formulas c.args.program.now.atoms.now (map rule_of c.args.program.now.rules.now) (map Atom (map (λ b. b.now) c.args.program.now.beliefs.now)) c.args.smaller.now c.args.views.now) c.in_ok-rest.ensures

pub unreachable-requires : goal.unreachable-requires
unreachable-requires c =
    let names = c.args.program.now.atoms.now in
    let rules = map rule_of c.args.program.now.rules.now in
    let beliefs = map Atom (map (λ b. b.now) c.args.program.now.beliefs.now) in
    let fs = rest_formulas names rules beliefs c.args.smaller.now c.args.views.now in
    let over = rest-over names rules beliefs c.args.smaller.now c.args.views.now c.args.program.now.rules_over (atoms_are_over names beliefs (atoms_of_names names (map (λ b. b.now) c.args.program.now.beliefs.now) c.args.program.now.beliefs_over)) in
    let model : IsModelAt names fs c.in-Model._places = subst (IsSatisfiedAnswer names fs) c.in-Model.is (c.in_ok-trace.ensures fs c.in_ok-rest.ensures over) in
    c.requires (true_names 0 names c.in-Model._places) model.formulas

pub returns : goal.returns
returns c =
    let names = c.args.program.now.atoms.now in
    let rules = map rule_of c.args.program.now.rules.now in
    let beliefs = map Atom (map (λ b. b.now) c.args.program.now.beliefs.now) in
    let fs = rest_formulas names rules beliefs c.args.smaller.now c.args.views.now in
    let over = rest-over names rules beliefs c.args.smaller.now c.args.views.now c.args.program.now.rules_over (atoms_are_over names beliefs (atoms_of_names names (map (λ b. b.now) c.args.program.now.beliefs.now) c.args.program.now.beliefs_over)) in
    (subst (IsSatisfiedAnswer names fs) c.in-Refuted.is (c.in_ok-trace.ensures fs c.in_ok-rest.ensures over)).0
