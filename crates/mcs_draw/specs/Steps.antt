-- The rule as a rule of `atomic_table`, and what its steps tell a seat.
use Rattle.std.specs.Prelude.{◌≡◌, ℕ, ◌+◌, ◌^◌, ◌<◌, ◌≤◌, [], ◌∷◌}
use Rattle.atomic_table.specs.Table.{State, Step, Me}
use Rattle.mcs_draw.specs.declared.account.View.{View}
use Rattle.mcs_draw.specs.declared.account.Terms.{Terms}
use Rattle.mcs_draw.specs.Budget.{BudgetRule, first_account, after_draw, seated}

abbrev pub first_view : Terms → View
first_view k = seated (first_account k.base k.room)

-- the table has one word, which meets the rule
pub record KeepsWordRule (k : Terms) (s : State (Unit {0}) View) : Type 0 where
  pub word : ℕ
  pub is : s.words ≡ word ∷ []
  pub rule : BudgetRule k.base k.room word s.views

-- a draw: the number found with the amount fits, it is the new total and so the seat's top, and the number found is at least the seat's top, and what it has drawn
pub record DrawTells (s : Step (Unit {0})) (me : Me (Unit {0}) View) (found : ℕ) (after : Me (Unit {0}) View) : Type 0 where
  pub fits : found + s.first < 2 ^ 63
  pub view : after.0 ≡ seated (after_draw s.first (found + s.first) me.0.account)
  pub slots : after.1 ≡ me.1
  pub top : me.0.account.top ≤ found
  pub drawn : me.0.account.drawn ≤ found

-- a look changes nothing, and tells that the seat's numbers fit
pub record LookTells (s : Step (Unit {0})) (me : Me (Unit {0}) View) (found : ℕ) (after : Me (Unit {0}) View) : Type 0 where
  pub same : after ≡ me
  pub fits : me.0.account.left + me.0.account.drawn < 2 ^ 63
