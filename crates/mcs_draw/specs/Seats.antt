-- What a word, its seats and its end are seen as.
use Rattle.std.specs.Prelude.{◌≡◌, ℕ, [], false}
use Rattle.atomic_table.specs.Table.{Me}
use Rattle.atomic_table.specs.Seated.{TableId}
use Rattle.mcs_draw.specs.declared.account.Account.{Account}
use Rattle.mcs_draw.specs.declared.account.View.{View}

-- which word it is, where it begins, and how much may be drawn from it
pub record DrawData : Type 0 where
  pub word : TableId
  pub base : ℕ
  pub room : ℕ

-- which word the seat is of, and its account
pub record SeatData : Type 0 where
  pub word : TableId
  pub account : Account

-- the number at which a word ended, and the sum of all amounts drawn
pub record ClosedData : Type 0 where
  pub total : ℕ
  pub draws : ℕ

-- one word and no slot
pub record HasOneWord (id : TableId) : Type 0 where
  pub words : id.words ≡ 1
  pub slots : id.slots ≡ 0

-- the seat was not joined away, holds no slot, and its two numbers are those of its account
pub record IsSeat (me : Me (Unit {0}) View) (left drawn : ℕ) : Type 0 where
  pub present : me.0.away ≡ false
  pub empty : me.1 ≡ []
  pub left_is : left ≡ me.0.account.left
  pub drawn_is : drawn ≡ me.0.account.drawn
