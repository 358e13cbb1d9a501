-- Laws of the rule of a word.
use Rattle.std.specs.Prelude.{◌≡◌, ◌≢◌, ℕ, ◌+◌, ◌^◌, ◌<◌, ◌≤◌, List, [], ◌∷◌, ◌++◌, slice_set, true, false}
use mathlib.Core.Option.{some}
use lib.ListN.{get_elem?}
use Rattle.mcs_draw.specs.declared.account.View.{View}
use Rattle.mcs_draw.specs.Budget.{BudgetRule, first_account, after_draw, after_split, split_off, after_join, seated, joined_away}

-- the number `seat` is that of a seat that was not joined away, with this view
pub record IsPresent (views : List View) (seat : ℕ) (v : View) : Type 0 where
  pub at : get_elem? views seat ≡ some v
  pub present : v.away ≡ false

-- a word at its base, with one seat that may draw the room, meets the rule
abbrev pub WordsBeginWithTheRule : Type 0
WordsBeginWithTheRule = (base room : ℕ) → base + room < 2 ^ 63 → BudgetRule base room base (seated (first_account base room) ∷ [])

-- a draw of at most what is left keeps the rule
abbrev pub DrawsKeepTheRule : Type 0
DrawsKeepTheRule = (base room word seat amount : ℕ) (views : List View) (v : View) → BudgetRule base room word views → IsPresent views seat v
    → amount ≤ v.account.left
    → BudgetRule base room (word + amount) (slice_set views seat (seated (after_draw amount (word + amount) v.account)))

-- a split of a part of what is left, which is not all, keeps the rule: the new seat is the last one
abbrev pub SplitsKeepTheRule : Type 0
SplitsKeepTheRule = (base room word seat part : ℕ) (views : List View) (v : View) → BudgetRule base room word views → IsPresent views seat v
    → 0 < part → part < v.account.left
    → BudgetRule base room word (slice_set views seat (seated (after_split part v.account)) ++ seated (split_off part v.account) ∷ [])

-- a join of two seats keeps the rule
abbrev pub JoinsKeepTheRule : Type 0
JoinsKeepTheRule = (base room word seat other : ℕ) (views : List View) (v w : View) → BudgetRule base room word views → IsPresent views seat v
    → other ≢ seat → get_elem? views other ≡ some w
    → BudgetRule base room word (slice_set (slice_set views seat (seated (after_join v.account w.account))) other joined_away)

-- a seat for which what is left and what was drawn are the room: the word is the base with what it has drawn, and its top; where there is room, each other seat was joined away
pub record IsWholeSeat (base room word seat : ℕ) (views : List View) (v : View) : Type 0 where
  pub total : word ≡ base + v.account.drawn
  pub top : word ≡ v.account.top
  pub alone : 0 < room → (other : ℕ) (w : View) → get_elem? views other ≡ some w → other ≢ seat → w.away ≡ true

abbrev pub WholeSeatsAreAlone : Type 0
WholeSeatsAreAlone = (base room word seat : ℕ) (views : List View) (v : View) → BudgetRule base room word views → IsPresent views seat v
    → v.account.left + v.account.drawn ≡ room
    → IsWholeSeat base room word seat views v
