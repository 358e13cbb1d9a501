-- Laws of keys: each is the contract of a function of `laws`.
use Rattle.std.specs.Prelude.{◌≡◌, ℕ, ◌↔◌, List, map, Some, slice_get}
use Rattle.mcs_sets.specs.Orders.{StateBefore}
use Rattle.mcs_base.specs.Listings.{IsListing}
use Rattle.mcs_system.specs.Plain.{Context, System}
use Rattle.mcs_system.specs.Systems.{variables_of, IsAcceptedPart}
use Rattle.mcs_system.specs.Views.{at_places}
use Rattle.mcs_session.specs.Keys.{Key, key_of, places_in, IsAnswer, AreViewsFor}
use Rattle.mcs_session.specs.KeyTexts.{key_text}

-- systems of the same contexts: two questions with one key have the same answers, by places
abbrev pub SameKeysHaveSameAnswers : Type 0
SameKeysHaveSameAnswers = (m n : System) (i x j y : ℕ) → m.contexts ≡ n.contexts → key_of m i x ≡ key_of n j y
    → (places : ℕ) → IsAnswer m i x places ↔ IsAnswer n j y places

-- the views that are the answer to a key give the answer to each question with it
abbrev pub ViewsGiveAnswers : Type 0
ViewsGiveAnswers = (m : System) (i x : ℕ) (views : List ℕ) → AreViewsFor m.contexts (key_of m i x) views
    → IsListing (IsAcceptedPart m i x) StateBefore (map (at_places (variables_of m i)) views)

-- and the answer to a question gives them
abbrev pub AnswersGiveViews : Type 0
AnswersGiveViews = (m : System) (i x : ℕ) (c : Context) (parts : List ℕ) → slice_get m.contexts i ≡ Some c
    → IsListing (IsAcceptedPart m i x) StateBefore parts
    → AreViewsFor m.contexts (key_of m i x) (map (places_in (variables_of m i)) parts)

-- a text is that of one key at most
abbrev pub NoTwoKeysHaveOneText : Type 0
NoTwoKeysHaveOneText = (k l : Key) → key_text k ≡ key_text l → k ≡ l
