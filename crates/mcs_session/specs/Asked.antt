-- The questions of a session, listing by listing.
use Rattle.std.specs.Prelude.{◌≡◌, ℕ, List, [], ◌∷◌, ◌++◌, map}
use Rattle.std.specs.List.{flat_map}
use Rattle.std.specs.Global.{Vec}
use Rattle.std.specs.Arc.{arc_value}
use Rattle.mcs_system.specs.Plain.{System}
use Rattle.mcs_session.specs.Keys.{Key, keys_of}
use Rattle.mcs_session.specs.declared.asked.Asked.{Asked}

abbrev pub asked_keys : Asked → List Key
asked_keys a = keys_of (arc_value a.system) a.context a.questions.items

-- the keys of all of them
abbrev pub keys_in : List Asked → List Key
keys_in listings = flat_map asked_keys listings

-- for each context
abbrev pub all_keys : List (Vec Asked) → List (List Key)
all_keys lists = map (λ (listings : Vec Asked). keys_in listings.items) lists

-- the last ones are those of context i of the system, of which there are none yet
pub record IsOpen (m : System) (i : ℕ) (listings : List Asked) : Type 0 where
  pub before : List Asked
  pub last : Asked
  pub is : listings ≡ before ++ last ∷ []
  pub system_is : arc_value last.system ≡ m
  pub context_is : last.context ≡ i
  pub none_yet : last.questions.items ≡ []

-- where the last ones were open, they are these now
abbrev pub HasAnswered : List Asked → List ℕ → List Asked → Type 0
HasAnswered old questions new = (m : System) (i : ℕ) → IsOpen m i old → keys_in new ≡ keys_in old ++ keys_of m i questions
