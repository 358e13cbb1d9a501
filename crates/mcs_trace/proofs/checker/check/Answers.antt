use Rattle.std.proofs.Common.{ℕ, refl, ◌↔◌, IsTrue, IfOk, Bool, Result, Ok, Err, ℤ, List, [], ◌∷◌, map, subst}
use Rattle.std.specs.List.{AllByRecursion}
use Rattle.mcs_base.specs.declared.memory.Memory.{Memory}
use Rattle.mcs_trace.specs.declared.trace.Step.{Step}
use Rattle.mcs_trace.specs.Clauses.{IsClause, IsWithin, IsUnsatisfiable}
use Rattle.mcs_trace.specs.Traces.{Inference, AreRightSteps, EndsEmpty, inference_of}
use Rattle.mcs_trace.proofs.TraceLemmas.{refutes}
use Rattle.mcs_trace.proofs.checker.check.Goals as goal

all_clauses : (vars : ℕ) (cs : List (List ℤ)) → AllByRecursion (λ c. IsClause c × IsWithin vars c) cs → AllByRecursion IsClause cs
all_clauses vars [] all = tt
all_clauses vars (c ∷ cs) all = (all.0.0, all_clauses vars cs all.1)

told : (r : Result Bool Memory) (P Q : Type 0) → (P → Q) → IfOk r (λ b. IsTrue b ↔ P) → IfOk r (λ b. IsTrue b → Q)
told (Ok b) P Q to h = λ e. to (h.0 e)
told (Err e) P Q to h = tt

pub returns-clause-refutes : goal.returns-clause-refutes
returns-clause-refutes c =
    let clauses : List (List ℤ) = c.args.cnf.now.clauses in
    let steps : List Inference = map inference_of c.args.trace.now.steps.items in
    let ends : EndsEmpty steps = subst (λ (xs : List Step). EndsEmpty (map inference_of xs)) c.deref.ensures.value (c.if-not-ends_empty.ensures.0 refl) in
    let right : IfOk c.are_right.result (λ b. IsTrue b ↔ AreRightSteps c.clauses.result.now (map inference_of c.deref-2.result.now)) = c.are_right.ensures in
    told c.are_right.result (AreRightSteps clauses steps) (IsUnsatisfiable clauses) (λ h. refutes clauses steps (all_clauses c.args.cnf.now.vars clauses c.clauses.ensures.kept.1) (h, ends))
    (subst (λ (xs : List (List ℤ)). IfOk c.are_right.result (λ b. IsTrue b ↔ AreRightSteps xs steps)) c.clauses.ensures.value
    (subst (λ (xs : List Step). IfOk c.are_right.result (λ b. IsTrue b ↔ AreRightSteps c.clauses.result.now (map inference_of xs))) c.deref-2.ensures.value right))
