-- Grammars as data: what they mean, and which are read by one token at a time. The condition is LL(1), with the sets
-- FIRST and FOLLOW: Aho, Lam, Sethi and Ullman, Compilers, 2006, 4.4.
--
-- C: what a token is there for, its class (`the name of a context`). A token's kind is a number (that of `a name`). A: what
-- a place in the grammar says beside the tokens, an action (`here ends a conjunction`). N: the names of the rules.
use Rattle.std.specs.Prelude.{◌≡◌, ℕ, zero, suc, ◌+◌, Bool, true, false, not, cond, nat_eq, ltb, ◌&&◌, ◌||◌, List, [], ◌∷◌, ◌++◌}
use Rattle.mcs_sets.specs.Sets.{single, union, common, minus}
use Rattle.mcs_syntax.specs.declared.part.Event.{Event}
use Rattle.mcs_syntax.specs.declared.part.Event.TheVariants.{Took, Told}
use Rattle.mcs_syntax.specs.declared.front.Front.{Front}

pub data Expr (C A N : Type 0) : Type 0 where
  Take : (c : C) → Expr C A N
  Say : (a : A) → Expr C A N
  Rule : (n : N) → Expr C A N
  Nothing : Expr C A N
  Then : (e f : Expr C A N) → Expr C A N
  Or : (e f : Expr C A N) → Expr C A N
  Maybe : (e : Expr C A N) → Expr C A N
  Many : (e : Expr C A N) → Expr C A N

-- which lists of events an expression of the grammar means
pub data Means (C A N : Type 0) (rules : N → Expr C A N) : Expr C A N → List (Event C A) → Type 0 where
  takes : (c : C) → Means C A N rules (Take c) (Took c ∷ [])
  says : (a : A) → Means C A N rules (Say a) (Told a ∷ [])
  by_rule : (n : N) (xs : List (Event C A)) → Means C A N rules (rules n) xs → Means C A N rules (Rule n) xs
  nothing : Means C A N rules Nothing []
  both : (e f : Expr C A N) (xs ys : List (Event C A)) → Means C A N rules e xs → Means C A N rules f ys → Means C A N rules (Then e f) (xs ++ ys)
  left : (e f : Expr C A N) (xs : List (Event C A)) → Means C A N rules e xs → Means C A N rules (Or e f) xs
  right : (e f : Expr C A N) (xs : List (Event C A)) → Means C A N rules f xs → Means C A N rules (Or e f) xs
  without : (e : Expr C A N) → Means C A N rules (Maybe e) []
  with_it : (e : Expr C A N) (xs : List (Event C A)) → Means C A N rules e xs → Means C A N rules (Maybe e) xs
  no_more : (e : Expr C A N) → Means C A N rules (Many e) []
  one_more : (e : Expr C A N) (xs ys : List (Event C A)) → Means C A N rules e xs → Means C A N rules (Many e) ys → Means C A N rules (Many e) (xs ++ ys)

pub record Grammar (C A N : Type 0) : Type 0 where
  pub rules : N → Expr C A N
  -- the kind of token that the class is of; below 128
  pub wants : C → ℕ
  -- FOLLOW: the kinds of tokens that may come after a text of the rule
  pub after : N → ℕ
  -- how deep rules begin with rules, and how deep rules stand in a shortest text; more does no harm
  pub depth : ℕ

-- ---- with which tokens texts begin
-- a text without tokens alone
abbrev pub silent : Front
silent = record { is_null = true; first = 0 }

-- the set, if the test is passed
abbrev pub given : Bool → ℕ → ℕ
given b s = cond b s 0

-- the kinds with which a text begins that what begins with these follows
abbrev pub before : Front → ℕ → ℕ
before p s = union p.first (given p.is_null s)

abbrev pub in_turn : Front → Front → Front
in_turn p q = record { is_null = p.is_null && q.is_null; first = before p q.first }

abbrev pub either : Front → Front → Front
either p q = record { is_null = p.is_null || q.is_null; first = union p.first q.first }

abbrev pub or_nothing : Front → Front
or_nothing p = record { is_null = true; first = p.first }

-- no number is in both sets
abbrev pub apart : ℕ → ℕ → Bool
apart a b = nat_eq (common a b) 0

module _ {C A N : Type 0} (g : Grammar C A N) where
  -- the kinds of tokens that the events have
  abbrev pub tokens : List (Event C A) → List ℕ
  tokens [] = []
  tokens (Took c ∷ xs) = g.wants c ∷ tokens xs
  tokens (Told a ∷ xs) = tokens xs

  -- whether a text without tokens is one, and FIRST
  abbrev pub front_by : (N → Front) → Expr C A N → Front
  front_by on (Take c) = record { is_null = false; first = single (g.wants c) }
  front_by on (Say a) = silent
  front_by on (Rule n) = on n
  front_by on Nothing = silent
  front_by on (Then e f) = in_turn (front_by on e) (front_by on f)
  front_by on (Or e f) = either (front_by on e) (front_by on f)
  front_by on (Maybe e) = or_nothing (front_by on e)
  front_by on (Many e) = or_nothing (front_by on e)

  abbrev pub front_at : ℕ → N → Front
  front_at zero n = record { is_null = false; first = 0 }
  front_at (suc k) n = front_by (front_at k) (g.rules n)

  abbrev pub front : Expr C A N → Front
  front e = front_by (front_at g.depth) e

  -- ---- which grammars are read
  -- one token tells what to do, where these kinds may come after
  abbrev pub fits : ℕ → Expr C A N → Bool
  fits s (Take c) = true
  fits s (Say a) = true
  fits s (Rule n) = nat_eq (minus s (g.after n)) 0
  fits s Nothing = true
  fits s (Then e f) = fits (before (front f) s) e && fits s f
  fits s (Or e f) = (apart (before (front e) s) (before (front f) s) && not ((front e).is_null && (front f).is_null)) && (fits s e && fits s f)
  fits s (Maybe e) = (apart (front e).first s && not (front e).is_null) && fits s e
  fits s (Many e) = (apart (front e).first s && not (front e).is_null) && fits (union (front e).first s) e

  -- how often an expression is taken apart before a token is taken; it falls with each rule that begins with a rule
  abbrev pub cost_by : (N → ℕ) → Expr C A N → ℕ
  cost_by on (Take c) = 1
  cost_by on (Say a) = 1
  cost_by on (Rule n) = on n
  cost_by on Nothing = 1
  cost_by on (Then e f) = 1 + cost_by on e + cond (front e).is_null (cost_by on f) 0
  cost_by on (Or e f) = 1 + cost_by on e + cost_by on f
  cost_by on (Maybe e) = 1 + cost_by on e
  cost_by on (Many e) = 1 + cost_by on e

  abbrev pub cost_at : ℕ → N → ℕ
  cost_at zero n = 0
  cost_at (suc k) n = 1 + cost_by (cost_at k) (g.rules n)

  abbrev pub cost : Expr C A N → ℕ
  cost e = cost_by (cost_at g.depth) e

  -- there is a text in which rules stand no deeper than the depth
  abbrev pub is_filled_by : (N → Bool) → Expr C A N → Bool
  is_filled_by on (Take c) = true
  is_filled_by on (Say a) = true
  is_filled_by on (Rule n) = on n
  is_filled_by on Nothing = true
  is_filled_by on (Then e f) = is_filled_by on e && is_filled_by on f
  is_filled_by on (Or e f) = is_filled_by on e || is_filled_by on f
  is_filled_by on (Maybe e) = true
  is_filled_by on (Many e) = true

  abbrev pub is_filled_at : ℕ → N → Bool
  is_filled_at zero n = false
  is_filled_at (suc k) n = is_filled_by (is_filled_at k) (g.rules n)

  -- the test of a rule
  abbrev pub is_readable : N → Bool
  is_readable n = fits (g.after n) (g.rules n) && (ltb (cost (g.rules n)) (cost (Rule n)) && is_filled_at g.depth n)

-- the grammar is one that is read; for a given one each is a computation
pub record IsReadable {C A N : Type 0} (g : Grammar C A N) : Type 0 where
  pub tested : (n : N) → is_readable g n ≡ true
  -- the depth suffices
  pub steady : (n : N) → front g (g.rules n) ≡ front g (Rule n)
