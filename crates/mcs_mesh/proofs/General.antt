-- What holds of lists, import orders, levels and oracles, whatever a mesh is.
use Rattle.std.proofs.Common.{◌≡◌, ℕ, ◌<◌, zero, suc, nat_eq, Bool, true, false, cond, List, [], ◌∷◌, ◌++◌, take, length, get_or, sym, subst, inl, inr, arith}
use Rattle.std.proofs.lemmas.Bool.Decides.{nat_tests}
use Rattle.std.proofs.lemmas.List.{append_assoc, append-nil}
use Rattle.mcs_base.specs.Listings.{IsAmong}
use Rattle.mcs_system.specs.Plain.{System}
use Rattle.mcs_system.specs.Imports.{FollowsOrder, before_in}

-- ---- the import order
pub follows_apart : (m : System) (taken order : List ℕ) (k d : ℕ) → FollowsOrder m taken order → k < length order → ¬ IsAmong (get_or order k d) (taken ++ take k order)
follows_apart m taken [] k d h less = absurd (omega arith)
follows_apart m taken (x ∷ rest) zero d h less = λ among. h.0.ready.untaken (subst (λ xs. IsAmong x xs) (append-nil taken) among)
follows_apart m taken (x ∷ rest) (suc k) d h less = λ among. follows_apart m (taken ++ x ∷ []) rest k d h.1 (omega arith) (subst (λ xs. IsAmong (get_or rest k d) xs) (sym (append_assoc taken (x ∷ []) (take k rest))) among)

pub follows_all : (m : System) (taken order : List ℕ) (c : ℕ) → FollowsOrder m taken order → c < length m.contexts → IsAmong c (taken ++ order)
follows_all m taken [] c h less = subst (λ xs. IsAmong c xs) (sym (append-nil taken)) (h c less)
follows_all m taken (x ∷ rest) c h less = subst (λ xs. IsAmong c xs) (append_assoc taken (x ∷ []) rest) (follows_all m (taken ++ x ∷ []) rest c h.1 less)

-- what stands before the k-th is among the first k
pub before_taken : (order : List ℕ) (k d j : ℕ) → k < length order → IsAmong j (before_in order (get_or order k d)) → IsAmong j (take k order)
before_taken [] k d j less h = absurd (omega arith)
before_taken (x ∷ rest) zero d j less h = let e : nat_eq x x ≡ true = grind (arith, nat_tests) in
    absurd (subst (λ (b : Bool). IsAmong j (cond b [] (x ∷ before_in rest x))) e h)
before_taken (x ∷ rest) (suc k) d j less h = at (nat_eq x (get_or rest k d)) h (before_taken rest k d j (omega arith))
  where
    at : (b : Bool) → IsAmong j (cond b [] (x ∷ before_in rest (get_or rest k d))) → (IsAmong j (before_in rest (get_or rest k d)) → IsAmong j (take k rest)) → IsAmong j (x ∷ take k rest)
    at true none later = absurd none
    at false (inl e) later = inl e
    at false (inr h) later = inr (later h)
