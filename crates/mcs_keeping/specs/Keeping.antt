-- Answers of a context that are kept, each under its question, with their certificates.
use Rattle.std.specs.Prelude.{◌≡◌, ℕ, Bool, true, false, List, None, Some, Option, MatchOption, ◌⊎◌}
use Rattle.std.specs.BTreeMap.{BTreeMap, get, is_at, IsUnchanged}
use Rattle.std.specs.Ordering.{nat_cmp}
use Rattle.mcs_sets.specs.Orders.{StateBefore}
use Rattle.mcs_base.specs.Listings.{IsAmong, IsListing}
use Rattle.mcs_system.specs.Plain.{System}
use Rattle.mcs_system.specs.Systems.{IsAcceptedPart}
use Rattle.mcs_asking.specs.Certificates.{plain_of, IsAccepted}
use Rattle.mcs_asking.specs.declared.certificate.AnswerCert as code
use Rattle.mcs_keeping.specs.declared.keeping.Kept.{Kept}

-- what is kept shows what the context accepts with the heads of the rules of x
abbrev pub IsKeptFor : System → ℕ → ℕ → Kept → Type 0
IsKeptFor m i x kept = IsAccepted m i x kept.outputs.items (plain_of kept.cert) × IsListing (IsAcceptedPart m i x) StateBefore kept.outputs.items

-- so much is kept for x: nothing exactly where no answers are kept or x is not in the journal
abbrev pub IsKeptAt : System → ℕ → Bool → List ℕ → ℕ → Option Kept → Type 0
IsKeptAt m i keep journal x kept = MatchOption kept ((keep ≡ false) ⊎ (¬ IsAmong x journal)) (λ k. (keep ≡ true) × IsAmong x journal × IsKeptFor m i x k)

-- for each set of rules
abbrev pub AreAnswersKept : System → ℕ → Bool → List ℕ → BTreeMap ℕ Kept → Type 0
AreAnswersKept m i keep journal kept = (x : ℕ) → IsKeptAt m i keep journal x (get nat_cmp kept x)

-- this answer to x is kept, and what is kept for others is as before
pub record IsKeptNow (x : ℕ) (outputs : List ℕ) (cert : code.AnswerCert) (old new : BTreeMap ℕ Kept) : Type 0 where
  pub kept : Kept
  pub outputs_are : kept.outputs.items ≡ outputs
  pub cert_is : kept.cert ≡ cert
  pub there : get nat_cmp new x ≡ Some kept
  pub others : (y : ℕ) → is_at (nat_cmp x) y ≡ false → get nat_cmp new y ≡ get nat_cmp old y

-- an answer with a certificate is kept, and one without is not
abbrev pub HasKept : ℕ → List ℕ → Option code.AnswerCert → BTreeMap ℕ Kept → BTreeMap ℕ Kept → Type 0
HasKept x outputs None old new = IsUnchanged old new
HasKept x outputs (Some cert) old new = IsKeptNow x outputs cert old new

-- ---- answers that are moved to another solver
-- the answer to x, where the others have one, is kept now, and they have it no more; all other answers are where they were
pub record HasMoved (x : ℕ) (old others new rest : BTreeMap ℕ Kept) : Type 0 where
  pub given : MatchOption (get nat_cmp others x) (IsUnchanged old new) (λ k. IsKeptNow x k.outputs.items k.cert old new)
  pub gone : get nat_cmp rest x ≡ None
  pub left : (y : ℕ) → is_at (nat_cmp x) y ≡ false → get nat_cmp rest y ≡ get nat_cmp others y

-- so much of the answers to the questions asked is still to be moved for x: nothing only where no answers are kept, x was not asked, or its answer was moved
abbrev pub IsLeftAt : System → ℕ → Bool → List ℕ → List ℕ → ℕ → Option Kept → Type 0
IsLeftAt m i keep journal asked x kept = MatchOption kept ((keep ≡ false) ⊎ ((¬ IsAmong x asked) ⊎ IsAmong x journal)) (λ k. (keep ≡ true) × IsKeptFor m i x k)

-- for each set of rules
abbrev pub AreAnswersLeft : System → ℕ → Bool → List ℕ → List ℕ → BTreeMap ℕ Kept → Type 0
AreAnswersLeft m i keep journal asked others = (x : ℕ) → IsLeftAt m i keep journal asked x (get nat_cmp others x)
