-- How far a text was read.
use Rattle.std.specs.Prelude.{◌≡◌, ℕ, ◌≤◌, Bool, true, false, List, [], ◌∷◌, take, length}
use Rattle.mcs_syntax.specs.declared.part.Event.{Event}
use Rattle.mcs_syntax.specs.declared.part.Event.TheVariants.{Took, Told}
use Rattle.mcs_system.specs.Plain as plain
use Rattle.mcs_syntax.specs.Grammar.{Expr, Rule, tokens}
use Rattle.mcs_syntax.specs.Reads.{HasRead}
use Rattle.mcs_syntax.specs.Prompt.{Stops}
use Rattle.mcs_grammar.specs.Entries.{Token}
use Rattle.mcs_productions.specs.declared.class.Class.{Class}
use Rattle.mcs_productions.specs.declared.production.Action.{Action}
use Rattle.mcs_productions.specs.declared.production.Action.TheVariants as action
use Rattle.mcs_productions.specs.declared.production.Production.{Production}
use Rattle.mcs_productions.specs.declared.production.Production.TheVariants as name
use Rattle.mcs_productions.specs.Productions.{grammar}
use Rattle.mcs_account.specs.Mark.{events_of, tokens_in}
use Rattle.mcs_account.specs.Marks.{Marked, Filled}
use Rattle.mcs_account.specs.Account.{Account, took, told}

-- the texts of the production that begin with the tokens are those of the rest, after these marks
pub record AreReadFrom (n : Production) (ts : List Token) (ms : Marked) (rest : Expr Class Action Production) : Type 0 where
  pub tokens_are : tokens_in ms ≡ ts
  pub filled : Filled ms
  pub read : HasRead grammar (Rule n) (tokens grammar (events_of ms)) (events_of ms) rest
  pub stops : Stops grammar rest

-- those of whole texts
abbrev pub AreRead : List Token → Marked → Expr Class Action Production → Type 0
AreRead ts ms rest = AreReadFrom name.Text ts ms rest

-- the first k tokens were read
pub record Reached (ts : List Token) (k : ℕ) (ms : Marked) (rest : Expr Class Action Production) : Type 0 where
  pub are : AreRead (take k ts) ms rest
  pub inside : k ≤ length ts

-- ---- the events of a token
abbrev pub Events : Type 0
Events = List (Event Class Action)

-- what the token is there for, or else this
abbrev pub class_in : Class → Events → Class
class_in d [] = d
class_in d (Took c ∷ xs) = class_in c xs
class_in d (Told a ∷ xs) = class_in d xs

-- whether a read ends with it
abbrev pub ends_in : Events → Bool
ends_in [] = false
ends_in (Told action.EndsRead ∷ xs) = true
ends_in (Took c ∷ xs) = ends_in xs
ends_in (Told a ∷ xs) = ends_in xs

-- what was read after them, but for the end of a read
abbrev pub heard : Account → Token → Events → Account
heard a t [] = a
heard a t (Took c ∷ xs) = heard (took a c t) t xs
heard a t (Told action.EndsRead ∷ xs) = heard a t xs
heard a t (Told b ∷ xs) = heard (told a b) t xs

abbrev pub ended_if : Bool → Account → Account
ended_if true a = told a action.EndsRead
ended_if false a = a

-- the formula that is whole last
abbrev pub top_of : List plain.Formula → plain.Formula
top_of [] = plain.Truth
top_of (f ∷ fs) = f

abbrev pub HasSome : {A : Type 0} → List A → Type 0
HasSome [] = ⊥
HasSome (x ∷ xs) = Unit {0}
