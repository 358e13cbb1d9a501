use Rattle.std.proofs.Common.{◌<◌, ◌≤◌, arith, length, inl}
use Rattle.std.specs.Arc.{arc_value}
use Rattle.mcs_diagnosis.proofs.CourseLemmas.{not_past, first_course, later_course}
use Rattle.mcs_diagnosis.proofs.levels.Levels.next_pairs.Goals.{then-self-eq0, else-self-eq0}
use Rattle.mcs_diagnosis.proofs.levels.Levels.next_pairs.Goals as goal

pub overflow_add-self : goal.overflow_add-self
overflow_add-self g c =
    let past = not_past g.E.Evaluator.stands c.args.self.now (record { evaluator = c.self.inside.evaluator; level = c.self.inside.level }) (arc_value c.self.inside.system) c.is_past.result c.self.view_is c.self.invariant.same c.if-is_past.false c.is_past.ensures in
    let last : c.self.inside.level ≤ length (arc_value c.self.inside.system).bridges = (let within : ¬ (length (arc_value c.self.inside.system).bridges < c.self.inside.level) = λ more. past (inl more) in omega (arith, within)) in
    let few = c.self.invariant.few in omega arith

pub invariant_of-self-2 : goal.invariant_of-self-2
invariant_of-self-2 g c =
    let past = not_past g.E.Evaluator.stands c.args.self.now (record { evaluator = c.self.inside.evaluator; level = c.self.inside.level }) (arc_value c.self.inside.system) c.is_past.result c.self.view_is c.self.invariant.same c.if-is_past.false c.is_past.ensures in
    elim c.if-self-eq0.branch [
      | then-self-eq0 w ↦ first_course _ _ _ _ c.self.inside.level c.self.inside.consistent c.if-self-eq0.self w.is_empty.result c.in_ok-pairs.pairs.items _ c.self.invariant c.in_ok-pairs.ensures.call.rest past w.if-self-eq0.true c.self.invariant.same c.in_ok-pairs.ensures.found c.in_ok-pairs.pairs.ok.0 w.is_empty.ensures w.self-is
      | else-self-eq0 w ↦ later_course _ _ _ c.self.inside.level c.self.inside.consistent c.if-self-eq0.self c.self.invariant c.in_ok-pairs.ensures.call.rest past w.if-self-eq0.false w.self-is
    ]
