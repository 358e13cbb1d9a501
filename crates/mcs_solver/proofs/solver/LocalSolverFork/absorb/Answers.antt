use Rattle.std.proofs.Common.{◌∙◌, ℕ, List, [], ◌++◌, sym, ap, ap₂, subst}
use Rattle.std.proofs.lemmas.Result.{on_ok_weaker}
use Rattle.std.specs.Arc.{arc_value}
use Rattle.mcs_system.specs.Plain.{System}
use Rattle.mcs_states.specs.Oracles.{OracleState, with_journal}
use Rattle.mcs_solver.specs.Kinds.{AreMadeOfContext, IsMadeOfContext}
use Rattle.mcs_solver.specs.Solvers.{solver_with}
use Rattle.mcs_keeping.specs.Keeping.{AreAnswersKept}
use Rattle.mcs_solver.proofs.KeepingLemmas.{kept_alike, of_own}
use Rattle.mcs_solver.proofs.solver.LocalSolverFork.absorb.Goals as goal

pub returns-clause-journal : goal.returns-clause-journal
returns-clause-journal c =
    on_ok_weaker c.absorb_answers.result
    (λ more. ap (solver_with c.self.inside.keep (arc_value c.self.inside.system) c.self.inside.context) (more ∙ ap (λ (xs : List ℕ). c.self.inside.journal.items ++ xs) c.deref.ensures.value)
    ∙ ap₂ (λ (a b : OracleState). with_journal (a.journal ++ b.journal) a) c.self.view_is c.other.view_is)
    c.absorb_answers.ensures.journal

pub returns-clause-rest : goal.returns-clause-rest
returns-clause-rest c = ap (with_journal []) c.self.view_is

pub invariant_of-self : goal.invariant_of-self
invariant_of-self c =
    let m : System = arc_value c.self.inside.system in
    let i = c.self.inside.context in
    let keep = c.self.inside.keep in
    let own = c.self.inside.journal.items in
    let other = c.other.inside in
    let n : System = arc_value other.system in
    let alike = ap (with_journal []) c.other.view_is ∙ c.requires.same ∙ sym (ap (with_journal []) c.self.view_is) in
    let theirs = kept_alike keep other.keep m n i other.context own other.journal.items other.kept alike c.other.invariant.2 in
    let known = of_own (λ (n : System) (k : ℕ). IsMadeOfContext n k other.known) keep other.keep m n i other.context own other.journal.items alike c.other.invariant.1 in
    let spare = of_own (λ (n : System) (k : ℕ). AreMadeOfContext n k other.spare.items) keep other.keep m n i other.context own other.journal.items alike c.other.invariant.3 in (
      c.self.invariant.0,
      c.self.invariant.1,
      c.absorb_answers.ensures.kept m i keep c.self.invariant.2 (subst (λ (xs : List ℕ). AreAnswersKept m i keep xs other.kept) (sym c.deref.ensures.value) theirs),
      rw c.replace.ensures.after (c.with_known.ensures m i spare known),
    )
