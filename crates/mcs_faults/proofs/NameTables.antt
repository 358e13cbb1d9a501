-- Names in a table are found by their bytes.
use Rattle.std.proofs.Common.{◌≡◌, ℕ, Bool, true, false, nat_eq, ◌||◌, List, [], ◌∷◌, ◌++◌, inl, inr, refl, sym, ap, subst, ◌∙◌, true≢false}
use Rattle.std.specs.Prelude.{IsTrue, ◌↔◌, if◌then◌else◌}
use Rattle.std.specs.Cmp.Lexicographic.{pointwise, same_text, other_text}
use Rattle.std.specs.Global.{Vec}
use Rattle.std.specs.List.{list_any}
use Rattle.std.proofs.lemmas.List.{map-append}
use Rattle.mcs_base.specs.Listings.{IsAmong}
use Rattle.mcs_faults.specs.Names.{bytes_in}

abbrev IsFound : List ℕ → List (Vec ℕ) → Bool
IsFound n keys = list_any (λ (v : Vec ℕ). pointwise nat_eq n v.items) keys

pub found : (n : List ℕ) (keys : List (Vec ℕ)) → IsTrue (IsFound n keys) ↔ IsAmong n (bytes_in keys)
found n [] = (λ e. absurd (true≢false (sym e)), λ none. absurd none)
found n (v ∷ vs) = at (pointwise nat_eq n v.items) refl (found n vs)
  where
    at : (b : Bool) → pointwise nat_eq n v.items ≡ b → (IsTrue (IsFound n vs) ↔ IsAmong n (bytes_in vs)) → IsTrue (pointwise nat_eq n v.items || IsFound n vs) ↔ IsAmong n (bytes_in (v ∷ vs))
    at true e more = (λ _. inl (same_text n v.items (sym e)), λ _. ap (λ (b : Bool). b || IsFound n vs) e)
    at false e more = (
      λ h. inr (more.0 (sym (ap (λ (b : Bool). b || IsFound n vs) e) ∙ h)),
      λ h. elim h [ inl same ↦ absurd (other_text n v.items (sym e) same) | inr more' ↦ ap (λ (b : Bool). b || IsFound n vs) e ∙ more.1 more' ],
    )

pub added : (n : List ℕ) (v : Vec ℕ) (keys : List (Vec ℕ)) → v.items ≡ n → ¬ IsAmong n (bytes_in keys)
    → bytes_in (if list_any (λ (w : Vec ℕ). pointwise nat_eq v.items w.items) keys then keys else (keys ++ v ∷ [])) ≡ bytes_in keys ++ n ∷ []
added n v keys is new = at (IsFound v.items keys) refl
  where
    at : (b : Bool) → IsFound v.items keys ≡ b → bytes_in (if IsFound v.items keys then keys else (keys ++ v ∷ [])) ≡ bytes_in keys ++ n ∷ []
    at true e = absurd (new (subst (λ (m : List ℕ). IsAmong m (bytes_in keys)) is ((found v.items keys).0 e)))
    at false e = ap (λ (b : Bool). bytes_in (if b then keys else (keys ++ v ∷ []))) e ∙ map-append (λ (w : Vec ℕ). w.items) keys (v ∷ []) ∙ ap (λ (m : List ℕ). bytes_in keys ++ m ∷ []) is

pub kept : (n : List ℕ) (v : Vec ℕ) (keys : List (Vec ℕ)) → v.items ≡ n → IsAmong n (bytes_in keys)
    → bytes_in (if list_any (λ (w : Vec ℕ). pointwise nat_eq v.items w.items) keys then keys else (keys ++ v ∷ [])) ≡ bytes_in keys
kept n v keys is there = ap (λ (b : Bool). bytes_in (if b then keys else (keys ++ v ∷ []))) ((found v.items keys).1 (subst (λ (m : List ℕ). IsAmong m (bytes_in keys)) (sym is) there))
