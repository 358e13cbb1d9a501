use Rattle.std.proofs.Common.{◌∙◌, ◌<◌, [], Some, length, sym, ap, subst}
use Rattle.std.specs.Arc.{arc_value}
use Rattle.mcs_system.specs.Plain.{System}
use Rattle.mcs_base.proofs.Each.{all_drop}
use Rattle.mcs_states.specs.Oracles.{with_journal}
use Rattle.mcs_solver.specs.Kinds.{AreMadeOfContext, IsMadeOfContext}
use Rattle.mcs_solver.specs.Solvers.{solver_with}
use Rattle.mcs_solver.specs.declared.known.Known.{Known}
use Rattle.mcs_solver.proofs.solver.LocalSolverFork.fork.Goals as goal

pub taking-requires-clause-context : goal.taking-requires-clause-context
taking-requires-clause-context c = subst (λ (m : System). c.self.inside.context < length m.contexts) (sym c.in_ok-system.ensures) c.self.invariant.0

pub taking-requires-clause-made : goal.taking-requires-clause-made
taking-requires-clause-made c =
    let m = arc_value c.self.inside.system in
    let later = all_drop (λ (k : Known). IsMadeOfContext m c.self.inside.context (Some k)) c.self.inside.spare.items _ c.self.invariant.3 in
    subst (λ (m : System). AreMadeOfContext m c.self.inside.context c.in_ok-found.found.items) (sym c.in_ok-system.ensures) (rw c.in_ok-found.ensures.tail later)

pub returns-clause-forked : goal.returns-clause-forked
returns-clause-forked c = c.taking.ensures ∙ ap (λ (m : System). solver_with c.self.inside.keep m c.self.inside.context []) c.in_ok-system.ensures ∙ ap (with_journal []) c.self.view_is

pub returns-clause-same : goal.returns-clause-same
returns-clause-same c = c.self.view_is

pub invariant_of-self : goal.invariant_of-self
invariant_of-self c = (c.self.invariant.0, c.self.invariant.1, c.self.invariant.2, rw (ap (λ v. v.items) c.in_err-found.ensures.err) c.self.invariant.3)
