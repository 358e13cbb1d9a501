use Rattle.std.proofs.Common.{sym, subst}
use Rattle.mcs_system.specs.Plain.{System}
use Rattle.mcs_system.specs.Repairs.{IsDiagnosis}
use Rattle.mcs_diagnosis.proofs.FoundLemmas.{some_there, shown_here}
use Rattle.mcs_diagnosis.proofs.found.show.Goals as goal

pub unwrap-state-requires : goal.unwrap-state-requires
unwrap-state-requires g c = some_there _ c.args.pair _ (subst (λ (m : System). IsDiagnosis m c.args.pair) (sym c.requires.can.same) c.requires.diagnosis) c.in_ok-least_state.ensures.first

pub returns-clause-shown : goal.returns-clause-shown
returns-clause-shown g c = shown_here _ _ c.args.pair c.unwrap-state.result c.active.result c.in_ok-least_state.field-0 c.requires.can.same c.unwrap-state.ensures c.in_ok-least_state.ensures.first c.active.ensures
