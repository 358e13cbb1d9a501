-- Calls of one level, one after the other, and what halts them.
use Rattle.std.proofs.Common.{◌≡◌, ℕ, Result, Ok, Err, sym, subst}
use Rattle.std.specs.Result.{IsErrAnd}
use Rattle.mcs_states.specs.Evaluators.{EvaluatorState, KeepsRest, HasDone, HasHalted, HasHaltCause}
use Rattle.mcs_states.specs.Calls.{Evaluates, AsksEvaluator, HasHaltOf}
use Rattle.mcs_states.specs.declared.halt.Halt.{Halt}
use Rattle.mcs_states.specs.declared.halt.Halt.TheVariants.{Memory}
use Rattle.mcs_states.proofs.Causes.{rest_kept, cause_before, done_twice, told}

module _ {T U : Type 0} (level : ℕ) where
  pub evaluates_then : (a b c : EvaluatorState) (k : ℕ) (x : T) (r : Result U Halt) → k ≡ level → Evaluates level a b (Ok x) → Evaluates k b c r → Evaluates level a c r
  evaluates_then a b c k x (Ok y) same f g = record { done = done_twice a b c level f.done (subst (λ (n : ℕ). HasDone b c n) same g.done); halt = tt; rest = rest_kept a b c f.rest g.rest }
  evaluates_then a b c k x (Err h) same f g = record {
    done = tt;
    halt = record { cause = cause_before a b f.rest level h (subst (λ (n : ℕ). HasHaltCause b n h) same g.halt.cause); told = g.halt.told; over = g.halt.over };
    rest = rest_kept a b c f.rest g.rest;
  }

  -- what halts a call halts its caller
  pub evaluates_cut : (a b : EvaluatorState) (h : Halt) (r : Result U Halt) → IsErrAnd r (λ f. f ≡ h) → Evaluates {T = T} level a b (Err h) → Evaluates level a b r
  evaluates_cut a b h (Ok y) is f = absurd is
  evaluates_cut a b h (Err i) is f = record { done = tt; halt = subst (HasHalted a b level) (sym is) f.halt; rest = f.rest }

  -- ---- a call that is handed an evaluator
  pub asks_cut : (a b : EvaluatorState) (h : Halt) (r : Result U Halt) → IsErrAnd r (λ f. f ≡ h) → Evaluates {T = T} level a b (Err h) → AsksEvaluator level a b r
  asks_cut a b h (Ok y) is f = absurd is
  asks_cut a b h (Err i) is f = record { done = tt; halt = subst (HasHaltOf a b level) (sym is) (record { cause = f.halt.cause; told = told a b level h f.halt }); rest = f.rest }

-- its own want of memory
pub asks_memory : {T : Type 0} (level : ℕ) (a b : EvaluatorState) (r : Result T Halt) → IsErrAnd r (λ f. f ≡ Memory) → KeepsRest a b → AsksEvaluator level a b r
asks_memory level a b (Ok y) is kept = absurd is
asks_memory level a b (Err h) is kept = record { done = tt; halt = subst (HasHaltOf a b level) (sym is) (record { cause = tt; told = tt }); rest = kept }
