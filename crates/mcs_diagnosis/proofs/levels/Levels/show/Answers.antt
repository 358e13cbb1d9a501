use Rattle.std.proofs.Common.{sym, subst}
use Rattle.std.specs.Arc.{arc_value}
use Rattle.mcs_system.specs.Plain.{System}
use Rattle.mcs_system.specs.Repairs.{IsDiagnosis}
use Rattle.mcs_diagnosis.proofs.CourseLemmas.{course_kept, own_diagnosis}
use Rattle.mcs_diagnosis.proofs.levels.Levels.show.Goals as goal

pub show-requires-clause-diagnosis : goal.show-requires-clause-diagnosis
show-requires-clause-diagnosis g c = subst (λ (m : System). IsDiagnosis m c.args.pair) (sym c.deref.ensures)
    (own_diagnosis g.E.Evaluator.stands c.args.self.now (record { evaluator = c.self.inside.evaluator; level = c.self.inside.level }) (arc_value c.self.inside.system) c.args.pair c.self.view_is c.self.invariant.same c.requires.diagnosis)

pub invariant_of-self : goal.invariant_of-self
invariant_of-self g c = course_kept _ _ _ c.self.inside.level c.self.inside.consistent c.self.invariant c.show.ensures.call.rest
