use Rattle.std.proofs.Common.{ℕ, List, subst, sym}
use Rattle.std.specs.Arc.{arc_value}
use Rattle.mcs_system.specs.Plain.{System}
use Rattle.mcs_keeping.specs.Keeping.{AreAnswersKept}
use Rattle.mcs_keeping.proofs.KeepingLemmas.{none_kept}
use Rattle.mcs_solver.proofs.KindLemmas.{last_made, rest_made}
use Rattle.mcs_solver.proofs.solver.LocalSolver.taking.Goals as goal

pub invariant_of-result : goal.invariant_of-result
invariant_of-result c =
    let m : System = arc_value c.args.system in
    let i = c.args.context in
    let found = c.args.found.items in (
      c.requires.context,
      last_made m i found c.pop-known.new.self.items c.pop-known.result c.pop-known.ensures.items c.requires.made,
      subst (λ (xs : List ℕ). AreAnswersKept m i c.args.keep xs c.new-2.result) (sym c.new.ensures.items) (none_kept m i c.args.keep c.new-2.result c.new-2.ensures.empty),
      rest_made m i found c.pop-known.new.self.items c.pop-known.result c.pop-known.ensures.items c.requires.made,
    )
