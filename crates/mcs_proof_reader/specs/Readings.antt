-- Words of the proofs that a report is read exactly.
use Rattle.std.specs.Prelude.{◌≡◌, ℕ, true, false, cond, List, [], ◌∷◌, codes, ◌⊎◌}
use Rattle.mcs_proof_text.specs.Reports.{feedless}
use Rattle.mcs_proof_reader.specs.Listings.{ends_listing}

-- lines of which the last one ends a listing, and no other does
abbrev pub AreListingLines : List (List ℕ) → Type 0
AreListingLines [] = ⊥
AreListingLines (line ∷ lines) = ((ends_listing line ≡ true) × (lines ≡ [])) ⊎ ((ends_listing line ≡ false) × AreListingLines lines)

-- without line feeds: a line that has one is left empty, or as it begins
abbrev pub cleaned : List ℕ → List ℕ
cleaned line = cond (feedless line) line (cond (ends_listing line) (codes "end: ") [])
