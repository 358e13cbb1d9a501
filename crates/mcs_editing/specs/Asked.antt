-- What an asker has solved.
use Rattle.std.specs.Prelude.{◌≡◌, ℕ, List, map}
use Rattle.std.specs.Arc.{arc_value}
use Rattle.mcs_system.specs.Plain.{System}
use Rattle.mcs_states.specs.Oracles.{OracleState}
use Rattle.mcs_session.specs.Keys.{Key, key_of}
use Rattle.mcs_editing.specs.declared.asker.Question.{Question}

-- the keys of the questions, in order
abbrev pub keys_asked : List Question → List Key
keys_asked questions = map (λ (q : Question). key_of (arc_value q.system) q.context q.active) questions

-- an oracle of this context of the system
pub record IsOf (m : System) (i : ℕ) (o : OracleState) : Type 0 where
  pub system : o.system ≡ m
  pub context : o.context ≡ i
