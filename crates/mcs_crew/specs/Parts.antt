-- Questions to a context that are asked at once: what is to be asked, what comes back, and what a closure does that asks.
use Rattle.std.specs.Prelude.{◌≡◌, ℕ, ◌++◌, ◌⊎◌, List, [], map, Result, Ok, Err, IfErr, IfOk, Vec}
use Rattle.std.specs.Borrow.{Bor}
use Rattle.std.specs.List.{AllByRecursion}
use Rattle.std.specs.declared.alloc.Global.{Global}
use Rattle.mcs_sets.specs.Sets.{Within}
use Rattle.mcs_system.specs.Imports.{rules_into}
use Rattle.mcs_states.specs.Oracles.{OracleState, with_journal}
use Rattle.mcs_states.specs.declared.halt.Halt.{Halt}
use Rattle.mcs_states.specs.declared.halt.Halt.TheVariants.{Memory}
use Rattle.mcs_rows.specs.Answers.{answered_of}
use Rattle.mcs_rows.specs.declared.answer.Answer.{Answer}
use Rattle.mcs_node.specs.Known.{HasAskedAll, HasAskingCause}

-- the oracle is one of this context, and the questions are sets of the rules into it
pub record IsErrand (context : ℕ) (o : OracleState) (questions : List ℕ) : Type 0 where
  pub context_is : o.context ≡ context
  pub rules : AllByRecursion (λ x. Within x (rules_into o.system context)) questions

-- the oracle was asked the questions, and these are the answers to them, in order, or why there are none; this is what an asker promises
pub record IsAsked (context : ℕ) (before after : OracleState) (questions : List ℕ) (answers : Result (Vec Answer Global) Halt) : Type 0 where
  pub answers_are : IfOk answers (λ given. HasAskedAll before after questions (map answered_of given.items))
  pub cause : IfErr answers (HasAskingCause context before questions)
  pub rest : with_journal [] after ≡ with_journal [] before

-- both have answers, and these are all of them, in order
abbrev pub AreJoined : Result (Vec Answer Global) Halt → Result (Vec Answer Global) Halt → Vec Answer Global → Type 0
AreJoined (Ok front) (Ok back) all = all.items ≡ front.items ++ back.items
AreJoined (Ok front) (Err halt) all = ⊥
AreJoined (Err halt) back all = ⊥

-- it is the halt of one of both, or memory ran out
abbrev pub IsHaltOfEither : Result (Vec Answer Global) Halt → Result (Vec Answer Global) Halt → Halt → Type 0
IsHaltOfEither front back halt = (front ≡ Err halt) ⊎ ((back ≡ Err halt) ⊎ (halt ≡ Memory))

-- it may be called with each oracle and questions to its context, and what it answers is what an asker promises; `before`, `after` and `answers` are the parts of what it takes and answers, and `pre` and `post` are what the closure asks and promises
abbrev pub AsksAll : {O F S : Type 0} → (O → OracleState) → (S → OracleState) → (S → Result (Vec Answer Global) Halt) → (F → ℕ → O → Bor (List ℕ) → Type 0) → (F → ℕ → O → Bor (List ℕ) → S → Type 0) → F → Type 0
AsksAll {O} {F} {S} before after answers pre post f =
    (context : ℕ) (o : O) (questions : Bor (List ℕ)) → IsErrand context (before o) questions.now → pre f context o questions
    × ((s : S) → post f context o questions s → IsAsked context (before o) (after s) questions.now (answers s))
