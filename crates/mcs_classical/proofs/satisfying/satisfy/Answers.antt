use Rattle.std.proofs.Common.{map}
use Rattle.std.proofs.lemmas.Result.{IfOk-weaker}
use Rattle.mcs_system.specs.Seen.{formula_of}
use Rattle.mcs_cnf.proofs.GrowingLemmas.{room_known}
use Rattle.mcs_classical.proofs.satisfying.satisfy.Goals as goal

pub satisfy_from-satisfied-requires-clause-room : goal.satisfy_from-satisfied-requires-clause-room
satisfy_from-satisfied-requires-clause-room c = room_known c.args.atoms.now c.in_ok-cnf.cnf (map formula_of c.args.formulas.now) c.in_ok-cnf.ensures

pub returns : goal.returns
returns c = IfOk-weaker c.satisfy_from-satisfied.result _ _ (λ r told. told (map formula_of c.args.formulas.now) c.in_ok-cnf.ensures c.requires.formulas) c.satisfy_from-satisfied.ensures
