-- Grammars of which a reader leaves no action for later that it could tell.
use Rattle.std.specs.Prelude.{◌≡◌, ℕ, zero, suc, Bool, true, false, ◌&&◌, ◌||◌, ◌⊎◌, List, ◌∷◌}
use Rattle.mcs_syntax.specs.declared.part.Event.{Event}
use Rattle.mcs_syntax.specs.declared.part.Event.TheVariants.{Took}
use Rattle.mcs_syntax.specs.declared.part.Part.{Part}
use Rattle.mcs_syntax.specs.Grammar.{Expr, Take, Say, Rule, Nothing, Then, Or, Maybe, Many, Means, Grammar}
use Rattle.mcs_syntax.specs.Reads.{is_done, says_next}
use Rattle.mcs_syntax.specs.Parts.{expr_at}

module _ {C A N : Type 0} (g : Grammar C A N) where
  -- a text begins with a token, before any action
  abbrev pub opens_by : (N → Bool) → Expr C A N → Bool
  opens_by on (Take c) = true
  opens_by on (Say a) = false
  opens_by on (Rule n) = on n
  opens_by on Nothing = false
  opens_by on (Then e f) = opens_by on e
  opens_by on (Or e f) = opens_by on e || opens_by on f
  opens_by on (Maybe e) = opens_by on e
  opens_by on (Many e) = opens_by on e

  abbrev pub opens_at : ℕ → N → Bool
  opens_at zero n = false
  opens_at (suc k) n = opens_by (opens_at k) (g.rules n)

  -- an action stands next, or nothing is left, or a text begins with a token
  abbrev pub is_prompt : Expr C A N → Bool
  is_prompt e = says_next e || (is_done e || opens_by (opens_at g.depth) e)

  -- and so in all of its parts
  abbrev pub is_deep : Expr C A N → Bool
  is_deep (Take c) = true
  is_deep (Say a) = true
  is_deep (Rule n) = is_prompt (Rule n)
  is_deep Nothing = true
  is_deep (Then e f) = is_prompt (Then e f) && (is_deep e && is_deep f)
  is_deep (Or e f) = is_prompt (Or e f) && (is_deep e && is_deep f)
  is_deep (Maybe e) = is_prompt (Maybe e) && is_deep e
  is_deep (Many e) = is_prompt (Many e) && is_deep e

  -- what stands at the first places
  abbrev pub are_prompt : List (Part C A N) → ℕ → Bool
  are_prompt parts zero = true
  are_prompt parts (suc k) = is_prompt (expr_at parts k) && are_prompt parts k

  -- nothing is left, or a text begins with a token: so no action is left that all texts begin with
  abbrev pub Stops : Expr C A N → Type 0
  Stops e = (is_done e ≡ true) ⊎ ((c : C) × (xs : List (Event C A)) × Means C A N g.rules e (Took c ∷ xs))
