-- Sums over views, of which one or two are known.
use Rattle.std.proofs.Common.{◌≡◌, ◌≢◌, ℕ, zero, suc, ◌+◌, ◌≤◌, List, [], ◌∷◌, set, sym, ap, ◌∙◌, arith}
use Rattle.std.proofs.lemmas.List.Sums.{sum_by-cons}
use Rattle.std.specs.List.{sum_by}
use mathlib.Core.Option.{some, some-ne-none, some-injective}
use lib.ListN.{get_elem?}
use Rattle.atomic_table.proofs.Lists.{set_else}
use Rattle.mcs_draw.specs.declared.account.View.{View}
use Rattle.mcs_draw.specs.Budget.{joined_away}

-- the sum after a change of one view
pub sum_set : (f : View → ℕ) (views : List View) (i : ℕ) (v w : View) → get_elem? views i ≡ some v → sum_by f (set views i w) + f v ≡ sum_by f views + f w
sum_set f [] i v w e = absurd (some-ne-none v (sym e))
sum_set f (x ∷ xs) zero v w e = omega (arith, sum_by-cons f x xs, sum_by-cons f w xs, ap f (some-injective x v e))
sum_set f (x ∷ xs) (suc i) v w e = omega (arith, sum_by-cons f x xs, sum_by-cons f x (set xs i w), sum_set f xs i v w e)

-- one is at most the sum
pub sum_at : (f : View → ℕ) (views : List View) (i : ℕ) (v : View) → get_elem? views i ≡ some v → f v ≤ sum_by f views
sum_at f [] i v e = absurd (some-ne-none v (sym e))
sum_at f (x ∷ xs) zero v e = omega (arith, sum_by-cons f x xs, ap f (some-injective x v e))
sum_at f (x ∷ xs) (suc i) v e = omega (arith, sum_by-cons f x xs, sum_at f xs i v e)

-- two are at most the sum
pub sum_two : (f : View → ℕ) (views : List View) (i j : ℕ) (v w : View) → f joined_away ≡ 0 → j ≢ i → get_elem? views i ≡ some v → get_elem? views j ≡ some w → f v + f w ≤ sum_by f views
sum_two f views i j v w none apart e d = omega (arith, none, sum_set f views i v joined_away e, sum_at f (set views i joined_away) j w (set_else views i j joined_away apart ∙ d))
