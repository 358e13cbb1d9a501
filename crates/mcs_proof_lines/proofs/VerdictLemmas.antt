-- Verdicts on sets of defaults, one after the other.
use Rattle.std.proofs.Common.{◌≡◌, ℕ, ◌+◌, ◌-◌, ◌<◌, zero, suc, List, [], ◌∷◌, ◌++◌, map, Ok, sym, ap, ◌∙◌, arith}
use Rattle.std.proofs.lemmas.List.{map-append}
use Rattle.mcs_evidence.specs.Defaults.{Verdict}
use Rattle.mcs_proof_lines.specs.Walks.{At, Reading, ◌>>=◌, after_front}
use Rattle.mcs_proof_lines.specs.Verdicts.{Terms, set_at, sets_from}
use Rattle.mcs_proof_lines.proofs.WalkLemmas.{pushed_front, front_none}

one_more : (t : Terms) (front : List Verdict) (k n : ℕ) (at now : At) (v : Verdict) → 0 < n → set_at t k at ≡ Ok (v, now) → after_front (front ++ v ∷ []) (sets_from t (k + 1) (n - 1) now) ≡ after_front front (sets_from t k n at)
one_more t front k zero at now v h e = absurd (omega arith)
one_more t front k (suc n) at now v h e =
    let less : suc n - 1 ≡ n = omega arith in
    rw less (pushed_front front v (sets_from t (k + 1) n now) ∙ ap (λ (r : Reading Verdict). after_front front (r >>= λ first. sets_from t (k + 1) n first.1 >>= λ others. Ok (first.0 ∷ others.0, others.1))) (sym e))

pub sets_pushed : {X : Type 0} (f : X → Verdict) (t : Terms) (old new : List X) (y : X) (k n : ℕ) (at now : At) (goal : Reading (List Verdict)) → new ≡ old ++ y ∷ [] → 0 < n → set_at t k at ≡ Ok (f y, now)
    → after_front (map f old) (sets_from t k n at) ≡ goal → after_front (map f new) (sets_from t (k + 1) (n - 1) now) ≡ goal
sets_pushed f t old new y k n at now goal items some e known =
    let pushed : map f new ≡ map f old ++ f y ∷ [] = ap (map f) items ∙ map-append f old (y ∷ []) in
    ap (λ (xs : List Verdict). after_front xs (sets_from t (k + 1) (n - 1) now)) pushed ∙ (one_more t (map f old) k n at now (f y) some e ∙ known)

pub sets_begin : (t : Terms) (n m : ℕ) (at : At) → n ≡ m → after_front [] (sets_from t 0 n at) ≡ sets_from t 0 m at
sets_begin t n m at is = front_none (sets_from t 0 n at) ∙ ap (λ k. sets_from t 0 k at) is
