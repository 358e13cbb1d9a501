-- Numbers written one after the other.
use Rattle.std.proofs.Common.{◌≡◌, ℕ, ◌+◌, zero, suc, List, [], ◌∷◌, ◌++◌, ap, ◌∙◌, arith}
use Rattle.std.specs.Fmt.{decimal}
use Rattle.mcs_proof_reader.specs.Questions.{decimals}

pub decimals_more : (k n : ℕ) → decimals k (n + 1) ≡ decimals k n ++ (decimal (k + n) ∷ [])
decimals_more k zero = let same : k ≡ k + 0 = omega arith in ap (λ (j : ℕ). decimal j ∷ []) same
decimals_more k (suc n) =
    let more : suc n + 1 ≡ suc (suc n) = omega arith in
    let one : suc n ≡ n + 1 = omega arith in
    let next : k + 1 + n ≡ k + suc n = omega arith in
    ap (decimals k) more
    ∙ ap (λ (xs : List (List ℕ)). decimal k ∷ xs) (ap (decimals (k + 1)) one ∙ (decimals_more (k + 1) n ∙ ap (λ (j : ℕ). decimals (k + 1) n ++ (decimal j ∷ [])) next))
