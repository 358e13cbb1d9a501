-- What a later call tells of an evaluator holds of it as it was before: what it stands for stays but for journals.
use Rattle.std.proofs.Common.{◌≡◌, ℕ, ◌<◌, max, zero, suc, List, [], ◌∷◌, Option, Some, None, slice_get, refl, sym, ap, ◌∙◌, subst, arith}
use Rattle.mcs_system.specs.Levels.{IsQuestionAt, HasQuestions}
use Rattle.mcs_states.specs.Oracles.{OracleState, with_journal, IsLacking}
use Rattle.mcs_states.specs.Evaluators.{EvaluatorState, KeepsRest, HasDone, HasHalted, HasHaltCause, IsUnanswered, unasked, raised, IsHaltOf}
use Rattle.mcs_states.specs.declared.halt.Halt.{Halt}
use Rattle.mcs_states.specs.declared.halt.Halt.TheVariants.{Spent, Missing, Memory}

pub rest_same : (e : EvaluatorState) → KeepsRest e e
rest_same e = record { system = refl; budget = refl; workers = refl; oracles = refl }

pub rest_kept : (a b c : EvaluatorState) → KeepsRest a b → KeepsRest b c → KeepsRest a c
rest_kept a b c h k = record { system = k.system ∙ h.system; budget = k.budget ∙ h.budget; workers = k.workers ∙ h.workers; oracles = k.oracles ∙ h.oracles }

-- the oracle of a context, but for its journal
pub same_oracle : (xs ys : List OracleState) → unasked xs ≡ unasked ys → (i : ℕ) (o : OracleState) → slice_get xs i ≡ Some o → (o' : OracleState) × (slice_get ys i ≡ Some o') × (o.holds ≡ o'.holds)
same_oracle [] ys e i o is = absurd (cc)
same_oracle (x ∷ xs) [] e i o is = absurd (cc)
same_oracle (x ∷ xs) (y ∷ ys) e zero o is = (y, refl, (let h : x ≡ o = cc in ap (λ z. z.holds) (sym h)) ∙ (let k : with_journal [] x ≡ with_journal [] y = cc in ap (λ z. z.holds) k))
same_oracle (x ∷ xs) (y ∷ ys) e (suc i) o is = same_oracle xs ys (cc) i o is

pub unanswered_before : (a b : EvaluatorState) → KeepsRest a b → (level i x : ℕ) → IsUnanswered b level i x → IsUnanswered a level i x
unanswered_before a b h level i x u =
    let (o, is, same) = same_oracle b.oracles a.oracles h.oracles i u.oracle u.is_its in
    record { oracle = o; is_its = is; lacks = subst (λ (held : Option (List ℕ)). IsLacking held x) same u.lacks; question = subst (λ m. IsQuestionAt m level i x) h.system u.question }

pub cause_before : (a b : EvaluatorState) → KeepsRest a b → (level : ℕ) (halt : Halt) → HasHaltCause b level halt → HasHaltCause a level halt
cause_before a b h level (Spent at drawn) (is, more, some) = (is, subst (λ (n : ℕ). n < drawn) h.budget more, subst (λ m. HasQuestions m level drawn) h.system some)
cause_before a b h level (Missing context active) u = unanswered_before a b h level context active u
cause_before a b h level Memory u = tt

raised-twice : (done : Option ℕ) (level : ℕ) → raised (raised done level) level ≡ raised done level
raised-twice None level = ap (λ n. Some n) (let e : max level level ≡ level = omega arith in e)
raised-twice (Some d) level = ap (λ n. Some n) (let e : max (max d level) level ≡ max d level = omega arith in e)

-- the level is done still after another call of it
pub done_twice : (a b c : EvaluatorState) (level : ℕ) → HasDone a b level → HasDone b c level → HasDone a c level
done_twice a b c level h k = record { level_done = k.level_done ∙ ap (λ d. raised d level) h.level_done ∙ raised-twice a.done level; settled = k.settled; within = h.within; answered = h.answered }

pub told : (a b : EvaluatorState) (level : ℕ) (halt : Halt) → HasHalted a b level halt → IsHaltOf b halt
told a b level (Spent at drawn) h = (h.told, h.over)
told a b level (Missing context active) h = (h.told, h.over)
told a b level Memory h = tt
