-- What is known of an expression, where rules are no deeper.
use Rattle.std.proofs.Common.{arith, ◌≡◌, ℕ, zero, suc, ◌-◌, ◌<◌, ◌≤◌, Bool, true, false, ◌&&◌, ◌||◌, refl, sym, ap, ◌∙◌}
use Rattle.mcs_sets.specs.Sets.{has, union}
use Rattle.mcs_sets.proofs.SetLemmas.{has-empty, has-union, same_set}
use Rattle.mcs_syntax.specs.declared.front.Front.{Front}
use Rattle.mcs_syntax.specs.Grammar.{Grammar, in_turn, given, front_by, front_at}

abbrev pub known : Bool → ℕ → Front
known b s = record { is_null = b; first = s }

pub front_step : {C A N : Type 0} (g : Grammar C A N) (d : ℕ) (n : N) → 0 < d → front_at g d n ≡ front_by g (front_at g (d - 1)) (g.rules n)
front_step g zero n h = absurd (omega (arith, h))
front_step g (suc d) n h = let e : d ≡ suc d - 1 = omega arith in ap (λ k. front_by g (front_at g k) (g.rules n)) e

pub front_zero : {C A N : Type 0} (g : Grammar C A N) (d : ℕ) (n : N) → d ≤ 0 → front_at g d n ≡ known false 0
front_zero g zero n h = refl
front_zero g (suc d) n h = absurd (omega (arith, h))

union-none : (a : ℕ) → union a 0 ≡ a
union-none a = same_set (union a 0) a (λ k. has-union a 0 k ∙ at (has a k) (has 0 k) (has-empty k))
  where
    at : (x y : Bool) → y ≡ false → (x || y) ≡ x
    at true y e = refl
    at false y e = e

-- what is not silent tells alone with what a sequence begins
pub turn-one : (p q : Front) → p.is_null ≡ false → in_turn p q ≡ p
turn-one p q e = ap (λ b. known (b && q.is_null) (union p.first (given b q.first))) e ∙ ap (known false) (union-none p.first) ∙ ap (λ b. known b p.first) (sym e)

pub turn-two : (p q : Front) → p.is_null ≡ true → in_turn p q ≡ known q.is_null (union p.first q.first)
turn-two p q e = ap (λ b. known (b && q.is_null) (union p.first (given b q.first))) e
