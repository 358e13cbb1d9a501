use Rattle.std.proofs.Common.{map}
use Rattle.std.proofs.lemmas.Result.{IfOk-weaker}
use Rattle.mcs_system.specs.Seen.{rule_of}
use Rattle.mcs_cnf.proofs.GrowingLemmas.{room_known}
use Rattle.mcs_evidence.specs.Programs.{smaller_formulas}
use Rattle.mcs_evidence.proofs.Models.{smaller-over}
use Rattle.mcs_minimal.proofs.minimal.smaller_model.Goals as goal

pub satisfy_from-found-requires-clause-room : goal.satisfy_from-found-requires-clause-room
satisfy_from-found-requires-clause-room c = room_known c.args.program.now.atoms.now c.in_ok-smaller.smaller (smaller_formulas c.args.program.now.atoms.now (map rule_of c.args.program.now.rules.now) c.args.model) c.in_ok-smaller.ensures

pub returns : goal.returns
returns c =
    let rules = map rule_of c.args.program.now.rules.now in
    IfOk-weaker c.satisfy_from-found.result _ _ (λ r told. told (smaller_formulas c.args.program.now.atoms.now rules c.args.model) c.in_ok-smaller.ensures (smaller-over c.args.program.now.atoms.now rules c.args.model c.args.program.now.rules_over)) c.satisfy_from-found.ensures
