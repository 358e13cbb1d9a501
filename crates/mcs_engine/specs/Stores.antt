-- One store of clauses: those that were given and, between them, those that were learnt from earlier ones. A clause that was given has no chain.
use Rattle.std.specs.Prelude.{◌≡◌, ◌≢◌, ℕ, ◌+◌, ◌<◌, List, [], ◌∷◌, ◌++◌, ℤ, length, map}
use Rattle.std.specs.List.{AllByRecursion}
use Rattle.mcs_trace.specs.Clauses.{ClauseList, IsWithin}
use Rattle.mcs_trace.specs.Traces.{Inference}
use Rattle.mcs_engine.specs.declared.state.State.{State}
use Rattle.mcs_engine.specs.States.{SameRoom, IsState}

-- the clauses that were given, in their order
abbrev pub given : List (List ℤ) → List (List ℕ) → List (List ℤ)
given [] chains = []
given (c ∷ known) [] = []
given (c ∷ known) ([] ∷ chains) = c ∷ given known chains
given (c ∷ known) ((n ∷ ns) ∷ chains) = given known chains

-- how many they are
abbrev pub given_count : List (List ℕ) → ℕ
given_count [] = 0
given_count ([] ∷ chains) = 1 + given_count chains
given_count ((n ∷ ns) ∷ chains) = given_count chains

-- a state that the one has led to: clauses were learnt, and none was given
pub record IsLater (old new : State) : Type 0 where
  pub state : IsState new
  pub positions : SameRoom old new
  pub more : List Inference
  pub clauses : new.clauses ≡ old.clauses ++ map (λ (i : Inference). i.clause) more
  pub chains : new.chains ≡ old.chains ++ map (λ (i : Inference). i.chain) more
  pub learnt : AllByRecursion (λ (i : Inference). i.chain ≢ []) more

-- the clauses and their chains stay
pub record SameStore (old new : State) : Type 0 where
  pub clauses : new.clauses ≡ old.clauses
  pub chains : new.chains ≡ old.chains

-- a clause is added with its chain
pub record IsAdded (old new : State) (c : List ℤ) (ns : List ℕ) : Type 0 where
  pub clauses : new.clauses ≡ old.clauses ++ c ∷ []
  pub chains : new.chains ≡ old.chains ++ ns ∷ []

-- a state where nothing is decided
pub record IsGround (s : State) : Type 0 where
  pub state : IsState s
  pub base : s.levels.items ≡ []

-- such a state, that the one has led to
pub record IsLaterGround (old new : State) : Type 0 where
  pub later : IsLater old new
  pub base : new.levels.items ≡ []

-- clauses over the variables 1 to `vars` as they are given, where nothing is decided
pub record IsBase (s : State) (vars : ℕ) : Type 0 where
  pub state : IsState s
  pub base : s.levels.items ≡ []
  pub room : vars < length s.trail.positions.items
  pub within : AllByRecursion (IsWithin vars) (given s.clauses s.chains)

abbrev pub list_of : State → ℕ → ClauseList
list_of s vars = record { vars = vars; clauses = given s.clauses s.chains }

-- the list goes on after the one
abbrev pub IsFrontOf : List (List ℤ) → List (List ℤ) → Type 0
IsFrontOf front whole = (more : List (List ℤ)) × (whole ≡ front ++ more)
