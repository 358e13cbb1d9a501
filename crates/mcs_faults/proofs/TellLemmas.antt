-- Answers of tests that hold of a token of one kind alone.
use Rattle.std.proofs.Common.{◌≡◌, ℕ, ◌<◌, true, sym, ap, ◌∙◌, inl, inr, ◌⊎◌, ◌↔◌, arith}
use Rattle.std.specs.Prelude.{IsTrue, nat_eq, nat_lt, length, List}
use Rattle.std.specs.Bool.{Decides}
use Rattle.mcs_base.specs.Listings.{IsAmong}
use Rattle.mcs_base.specs.Numbers.{value_of_digits}
use Rattle.mcs_grammar.specs.Entries.{Token}
use Rattle.mcs_account.specs.Account.{weight_of}
use Rattle.mcs_faults.specs.Watching.{IsNumberOf}
use Rattle.mcs_faults.proofs.WatchFacts.{number-there}
use Rattle.std.proofs.lemmas.Bool.Decides.{Decides-eqb, Decides-ltb}
use Rattle.mcs_account.specs.declared.place.Role as code_role
use Rattle.mcs_account.specs.declared.place.Role.TheVariants as roles

-- it is there where its number is one
pub told-there : {A : Type 0} (xs : List A) (x : A) (k n : ℕ) → IsNumberOf xs x k → n ≡ length xs → IsTrue (nat_lt k n) ↔ IsAmong x xs
told-there xs x k n number is = (
  λ h. (number-there xs x k number).0 (let less = (Decides-ltb k n).0 h in omega arith),
  λ h. (Decides-ltb k n).1 (let less = (number-there xs x k number).1 h in omega arith),
)

-- a weight is told up to the greatest number, which is above the limit
pub told-heavy : (digits : Token) → Decides (nat_lt 1000000 (weight_of digits)) (1000000 < value_of_digits digits)
told-heavy digits = (
  λ h. let less = (Decides-ltb 1000000 (weight_of digits)).0 h in omega (arith, less),
  λ h. (Decides-ltb 1000000 (weight_of digits)).1 (omega (arith, h)),
)

-- ---- the numbers of roles
pub told-opens : (r : code_role.Role) (n k : ℕ) → r ≡ roles.Opens n → (nat_eq n k ≡ true → r ≡ roles.Opens k) × (r ≡ roles.Opens k → nat_eq n k ≡ true)
told-opens r n k is = (
  λ h. is ∙ ap (λ x. roles.Opens x) ((Decides-eqb n k).0 h),
  λ e. (Decides-eqb n k).1 (let same : roles.Opens n ≡ roles.Opens k = sym is ∙ e in cc),
)

pub told-atom : (r : code_role.Role) (n k : ℕ) → r ≡ roles.Atom n → (nat_eq n k ≡ true → (r ≡ roles.Atom k) ⊎ (r ≡ roles.Counted k)) × ((r ≡ roles.Atom k) ⊎ (r ≡ roles.Counted k) → nat_eq n k ≡ true)
told-atom r n k is = (λ h. inl (is ∙ ap (λ x. roles.Atom x) ((Decides-eqb n k).0 h)), go)
  where
    go : (r ≡ roles.Atom k) ⊎ (r ≡ roles.Counted k) → nat_eq n k ≡ true
    go (inl e) = (Decides-eqb n k).1 (let same : roles.Atom n ≡ roles.Atom k = sym is ∙ e in cc)
    go (inr e) = (Decides-eqb n k).1 (let same : roles.Atom n ≡ roles.Counted k = sym is ∙ e in cc)

pub told-counted : (r : code_role.Role) (n k : ℕ) → r ≡ roles.Counted n → (nat_eq n k ≡ true → (r ≡ roles.Atom k) ⊎ (r ≡ roles.Counted k)) × ((r ≡ roles.Atom k) ⊎ (r ≡ roles.Counted k) → nat_eq n k ≡ true)
told-counted r n k is = (λ h. inr (is ∙ ap (λ x. roles.Counted x) ((Decides-eqb n k).0 h)), go)
  where
    go : (r ≡ roles.Atom k) ⊎ (r ≡ roles.Counted k) → nat_eq n k ≡ true
    go (inl e) = (Decides-eqb n k).1 (let same : roles.Counted n ≡ roles.Atom k = sym is ∙ e in cc)
    go (inr e) = (Decides-eqb n k).1 (let same : roles.Counted n ≡ roles.Counted k = sym is ∙ e in cc)
