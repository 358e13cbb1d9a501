use Rattle.std.proofs.Common.{map}
use Rattle.mcs_system.specs.Seen.{formula_of}
use Rattle.mcs_cnf.proofs.GrowingLemmas.{room_known}
use Rattle.mcs_classical.proofs.consequence.entails.Goals as goal

pub entails_from-requires-clause-room : goal.entails_from-requires-clause-room
entails_from-requires-clause-room c = room_known c.args.atoms.now c.in_ok-known.known (map formula_of c.args.kb.now) c.in_ok-known.ensures
