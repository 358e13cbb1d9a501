-- A word that seats draw from: what a draw, a split and a join do to accounts, and the rule that always holds.
use Rattle.std.specs.Prelude.{◌≡◌, ℕ, ◌+◌, ◌-◌, ◌^◌, ◌<◌, ◌≤◌, List, true, false, max}
use Rattle.std.specs.List.{sum_by}
use mathlib.Core.Option.{some}
use lib.ListN.{get_elem?}
use Rattle.mcs_draw.specs.declared.account.Account.{Account}
use Rattle.mcs_draw.specs.declared.account.View.{View}

-- the account of the first seat
abbrev pub first_account : ℕ → ℕ → Account
first_account base room = record { left = room; drawn = 0; top = base }

-- after a draw of the amount, which was answered the total
abbrev pub after_draw : ℕ → ℕ → Account → Account
after_draw amount total a = record { left = a.left - amount; drawn = a.drawn + amount; top = total }

-- after a split that moved the part
abbrev pub after_split : ℕ → Account → Account
after_split part a = record { left = a.left - part; drawn = a.drawn; top = a.top }

-- of the new seat
abbrev pub split_off : ℕ → Account → Account
split_off part a = record { left = part; drawn = 0; top = a.top }

-- after a join with a seat of the account b
abbrev pub after_join : Account → Account → Account
after_join a b = record { left = a.left + b.left; drawn = a.drawn + b.drawn; top = max a.top b.top }

abbrev pub no_account : Account
no_account = record { left = 0; drawn = 0; top = 0 }

-- a seat that was not joined away
abbrev pub seated : Account → View
seated a = record { away = false; account = a }

-- a seat that was
abbrev pub joined_away : View
joined_away = record { away = true; account = no_account }

-- what all seats may still draw
abbrev pub all_left : List View → ℕ
all_left views = sum_by (λ v. v.account.left) views

-- what all seats have drawn
abbrev pub all_drawn : List View → ℕ
all_drawn views = sum_by (λ v. v.account.drawn) views

-- what the rule says of each seat: its top is not above the word. Where it was not joined away, the top is at least the base, and where there is room something is left or drawn. Where it was, it has 0 in all three
pub record IsFair (base room word : ℕ) (v : View) : Type 0 where
  pub below : v.account.top ≤ word
  pub risen : v.away ≡ false → base ≤ v.account.top
  pub share : v.away ≡ false → 0 < room → 0 < v.account.left + v.account.drawn
  pub none : v.away ≡ true → v.account ≡ no_account

-- the rule of a word, over all seats that it ever had: the word is the base with all that was drawn; with all that may still be drawn it is the base and the room; one top is the word
pub record BudgetRule (base room word : ℕ) (views : List View) : Type 0 where
  pub small : base + room < 2 ^ 63
  pub drawn : word ≡ base + all_drawn views
  pub left : word + all_left views ≡ base + room
  pub each : (seat : ℕ) (v : View) → get_elem? views seat ≡ some v → IsFair base room word v
  pub top : (seat : ℕ) × (v : View) × (get_elem? views seat ≡ some v) × (v.account.top ≡ word)
