-- A text of a grammar with its tokens: what each is there for, and the token itself.
use Rattle.std.specs.Prelude.{◌≡◌, List, [], ◌∷◌, map}
use Rattle.std.specs.List.{AllByRecursion}
use Rattle.mcs_syntax.specs.declared.part.Event.{Event}
use Rattle.mcs_syntax.specs.declared.part.Event.TheVariants.{Took, Told}

pub data Mark (C A X : Type 0) : Type 0 where
  Seen : (c : C) (token : X) → Mark C A X
  Said : (a : A) → Mark C A X

abbrev pub event_of : {C A X : Type 0} → Mark C A X → Event C A
event_of (Seen c token) = Took c
event_of (Said a) = Told a

abbrev pub events_of : {C A X : Type 0} → List (Mark C A X) → List (Event C A)
events_of ms = map event_of ms

-- the tokens alone
abbrev pub tokens_in : {C A X : Type 0} → List (Mark C A X) → List X
tokens_in [] = []
tokens_in (Seen c t ∷ ms) = t ∷ tokens_in ms
tokens_in (Said a ∷ ms) = tokens_in ms

-- `Fill c` is what a token says that is there for c, and `token` its bytes
module _ {C A X : Type 0} (Fill : C → Type 0) (token : (c : C) → Fill c → X) where
  -- the token may be there for what it is there for
  abbrev pub IsFilled : Mark C A X → Type 0
  IsFilled (Seen c t) = (x : Fill c) × (token c x ≡ t)
  IsFilled (Said a) = Unit {0}

  abbrev pub AreFilled : List (Mark C A X) → Type 0
  AreFilled ms = AllByRecursion IsFilled ms
