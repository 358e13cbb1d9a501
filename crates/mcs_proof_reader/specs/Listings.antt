-- How the listing part of a report is read, and a report as a whole.
use Rattle.std.specs.Prelude.{◌≡◌, ℕ, ◌+◌, Bool, is_some, cond, List, [], ◌∷◌, ◌++◌, codes, Ok, Err}
use Rattle.mcs_spelling.specs.Lines.{complete_lines, incomplete}
use Rattle.mcs_spelling.specs.Words.{after_prefix}
use Rattle.mcs_proof_lines.specs.Walks.{At, Reading, ◌>>=◌}

-- the line that ends the listing
abbrev pub ends_listing : List ℕ → Bool
ends_listing line = is_some (after_prefix (codes "end: ") line)

abbrev pub listing_from : ℕ → List (List ℕ) → List ℕ → Reading (List (List ℕ))
listing_from n [] tail = Err (n + 1)
listing_from n (line ∷ rest) tail =
    cond (ends_listing line) (Ok (line ∷ [], record { taken = n + 1; rest = rest; tail = tail })) (listing_from (n + 1) rest tail >>= λ others. Ok (line ∷ others.0, others.1))

unfoldable pub listing_at : At → Reading (List (List ℕ))
listing_at at = listing_from at.taken at.rest at.tail

-- the lines of the bytes are these and then those of the rest, after which the same follows
pub record IsFrontOf (front : List (List ℕ)) (bytes rest : List ℕ) : Type 0 where
  pub lines : complete_lines bytes ≡ front ++ complete_lines rest
  pub tail : incomplete bytes ≡ incomplete rest
