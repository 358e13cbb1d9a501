-- The numbers of values in a list, as a search finds them.
use Rattle.std.proofs.Common.{◌≡◌, ℕ, ◌<◌, ◌≤◌, Bool, true, false, List, map, take, length, get_or, Some, sym, ap, ◌∙◌, subst, inl, inr, true≢false}
use Rattle.std.proofs.lemmas.List.{take_all, length-map}
use Rattle.std.proofs.lemmas.Slice.Eq.{bytes_eq-Decides}
use Rattle.std.specs.Str.{bytes_eq}
use Rattle.mcs_base.specs.Listings.{IsAmong}
use Rattle.mcs_base.proofs.Lists.{slice_get-map_at}
use Rattle.mcs_grammar.specs.Entries.{Token}
use Rattle.mcs_faults.specs.Watching.{IsNumberOf}

-- ---- what a test of bytes tells
pub bytes-same : (x n m : Token) (e : Bool) → m ≡ x → e ≡ bytes_eq m n → e ≡ true → n ≡ x
bytes-same x n m e is test yes' = sym ((bytes_eq-Decides m n).0 (sym test ∙ yes')) ∙ is

pub bytes-differ : (x n m : Token) (e : Bool) → m ≡ x → e ≡ bytes_eq m n → e ≡ false → ¬ (n ≡ x)
bytes-differ x n m e is test not-here same = true≢false (sym ((bytes_eq-Decides m n).1 (is ∙ sym same)) ∙ sym test ∙ not-here)

-- ---- the number of what a function makes of the elements
module _ {A B : Type 0} (f : A → B) where
  -- it is this one
  pub number-here : (xs : List A) (k : ℕ) (d : A) (n : B) → k < length xs → d ≡ get_or xs k d → n ≡ f d → IsNumberOf (map f xs) n k
  number-here xs k d n less is same = inl (slice_get-map_at f xs k d less ∙ ap (λ x. Some x) (ap f (sym is) ∙ sym same))

  -- it is none
  pub number-none : (xs : List A) (k n' : ℕ) (n : B) → length xs ≤ k → n' ≡ length xs → ¬ IsAmong n (map f (take k xs)) → IsNumberOf (map f xs) n n'
  number-none xs k n' n past is none = inr (is ∙ sym (length-map xs f), subst (λ (ys : List A). ¬ IsAmong n (map f ys)) (take_all k xs past) none)
