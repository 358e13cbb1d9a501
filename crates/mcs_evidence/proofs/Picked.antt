-- The defaults of a set, one after the other.
use Rattle.std.proofs.Common.{◌≡◌, ℕ, ◌+◌, ◌<◌, ◌≤◌, Bool, true, false, cond, List, [], ◌∷◌, ◌++◌, map, length, get_or, take, arith, sym, ap, ◌∙◌}
use Rattle.std.proofs.lemmas.List.{map_more, take_all, append-nil, length-map, length-take-le}
use Rattle.mcs_sets.specs.Sets.{has}
use Rattle.mcs_system.specs.Plain.{Default}
use Rattle.mcs_evidence.specs.Defaults.{defaults_at}

at_push : (j : ℕ) (ds : List Default) (d : Default) (set : ℕ) → defaults_at j (ds ++ d ∷ []) set ≡ defaults_at j ds set ++ cond (has set (j + length ds)) (d ∷ []) []
at_push j [] d set = let e : j + 0 ≡ j = omega arith in ap (λ n. cond (has set n) (d ∷ []) []) (sym e)
at_push j (x ∷ xs) d set =
    let e : j + 1 + length xs ≡ j + length (x ∷ xs) = omega arith in
    at (has set j) (cond (has set (j + length (x ∷ xs))) (d ∷ []) []) (at_push (j + 1) xs d set ∙ ap (λ n. defaults_at (j + 1) xs set ++ cond (has set n) (d ∷ []) []) e)
  where
    at : (b : Bool) (last : List Default) → defaults_at (j + 1) (xs ++ d ∷ []) set ≡ defaults_at (j + 1) xs set ++ last
        → cond b (x ∷ defaults_at (j + 1) (xs ++ d ∷ []) set) (defaults_at (j + 1) (xs ++ d ∷ []) set) ≡ cond b (x ∷ defaults_at (j + 1) xs set) (defaults_at (j + 1) xs set) ++ last
    at true last e = ap (λ ys. x ∷ ys) e
    at false last e = e

module _ {A : Type 0} (view : A → Default) where
  picked : (xs : List A) (set i : ℕ) (x : A) (b : Bool) → i < length xs → x ≡ get_or xs i x → has set i ≡ b
      → defaults_at 0 (map view (take (i + 1) xs)) set ≡ defaults_at 0 (map view (take i xs)) set ++ cond b (view x ∷ []) []
  picked xs set i x b less is member =
      let len : 0 + length (map view (take i xs)) ≡ i = omega (arith, length-map (take i xs) view, length-take-le i xs (omega arith)) in
      ap (λ ds. defaults_at 0 ds set) (map_more view xs i x less ∙ ap (λ (y : A). map view (take i xs) ++ view y ∷ []) (sym is))
      ∙ at_push 0 (map view (take i xs)) (view x) set
      ∙ ap (λ c. defaults_at 0 (map view (take i xs)) set ++ cond c (view x ∷ []) []) (ap (has set) len ∙ member)

  pub picked_in : (xs : List A) (set i : ℕ) (x : A) → i < length xs → x ≡ get_or xs i x → has set i ≡ true
      → defaults_at 0 (map view (take (i + 1) xs)) set ≡ defaults_at 0 (map view (take i xs)) set ++ view x ∷ []
  picked_in xs set i x less is member = picked xs set i x true less is member

  pub picked_out : (xs : List A) (set i : ℕ) (x : A) → i < length xs → x ≡ get_or xs i x → has set i ≡ false
      → defaults_at 0 (map view (take (i + 1) xs)) set ≡ defaults_at 0 (map view (take i xs)) set
  picked_out xs set i x less is member = picked xs set i x false less is member ∙ append-nil (defaults_at 0 (map view (take i xs)) set)

  pub picked_all : (xs : List A) (set i : ℕ) → length xs ≤ i → defaults_at 0 (map view (take i xs)) set ≡ defaults_at 0 (map view xs) set
  picked_all xs set i past = ap (λ (ys : List A). defaults_at 0 (map view ys) set) (take_all i xs past)
