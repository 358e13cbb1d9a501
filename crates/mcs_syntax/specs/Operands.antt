-- Operands: what the events of a text take and leave on a stack.
use Rattle.std.specs.Prelude.{◌≡◌, ℕ, ◌+◌, ◌-◌, cond, leb, nat_eq, List, [], ◌∷◌, Option, Some, None, option_and_then}
use Rattle.mcs_syntax.specs.declared.part.Event.{Event}
use Rattle.mcs_syntax.specs.declared.part.Event.TheVariants.{Took, Told}
use Rattle.mcs_syntax.specs.Grammar.{Expr, Take, Say, Rule, Nothing, Then, Or, Maybe, Many, Grammar}

pub record Operands (C A N : Type 0) : Type 0 where
  -- how many a token of the class leaves
  pub brings : C → ℕ
  -- how many an action takes, and leaves
  pub takes : A → ℕ
  pub leaves : A → ℕ
  -- how many a text of the rule finds that it may take, and how many are then there
  pub finds : N → ℕ
  pub makes : N → ℕ

-- where there are enough, the others and those that are left
abbrev pub traded : (need left : ℕ) → ℕ → Option ℕ
traded need left k = cond (leb need k) (Some (k - need + left)) None

-- the number, if it is this one
abbrev pub exactly : ℕ → Option ℕ → Option ℕ
exactly k None = None
exactly k (Some n) = cond (nat_eq n k) (Some n) None

abbrev pub if_both : Option ℕ → Option ℕ → Option ℕ
if_both None q = None
if_both (Some k) q = exactly k q

module _ {C A N : Type 0} (o : Operands C A N) where
  -- how many are there after the events; none, if one of them meets too few
  abbrev pub held : List (Event C A) → ℕ → Option ℕ
  held [] k = Some k
  held (Took c ∷ xs) k = held xs (k + o.brings c)
  held (Told a ∷ xs) k = option_and_then (held xs) (traded (o.takes a) (o.leaves a) k)

  -- the same for the texts of an expression, where it is the same for all
  abbrev pub held_by : Expr C A N → ℕ → Option ℕ
  held_by (Take c) k = Some (k + o.brings c)
  held_by (Say a) k = traded (o.takes a) (o.leaves a) k
  held_by (Rule n) k = traded (o.finds n) (o.makes n) k
  held_by Nothing k = Some k
  held_by (Then e f) k = option_and_then (held_by f) (held_by e k)
  held_by (Or e f) k = if_both (held_by e k) (held_by f k)
  held_by (Maybe e) k = exactly k (held_by e k)
  held_by (Many e) k = exactly k (held_by e k)

-- each rule does what is said of it; for a given grammar each is a computation
abbrev pub IsBalanced : {C A N : Type 0} → Grammar C A N → Operands C A N → Type 0
IsBalanced {N = N} g o = (n : N) → held_by o (g.rules n) (o.finds n) ≡ Some (o.makes n)
