-- The smaller sets that are next, step by step.
use Rattle.std.proofs.Common.{◌≡◌, ℕ, ◌+◌, List, [], ◌∷◌, ◌++◌, codes, Option, Some, None, refl, sym, ap, ◌∙◌, append_assoc}
use Rattle.std.specs.Option.{option_and_then}
use Rattle.mcs_proof_lines.specs.Walks.{At, head_line, advanced, advanced_by, line_at, atoms_of_line}
use Rattle.mcs_proof_lines.specs.Programs.{with_smaller, smaller_from, smaller_at}

some_from : (texts : List (List ℕ)) (n : ℕ) (rest : List (List ℕ)) (tail : List ℕ) (s : ℕ) → option_and_then (atoms_of_line (codes "smaller ") texts) (head_line rest) ≡ Some s
    → let next = advanced_by n rest tail in let later = smaller_from texts next.taken next.rest next.tail in smaller_from texts n rest tail ≡ (s ∷ later.0, later.1)
some_from texts n [] tail s e = absurd (cc)
some_from texts n (line ∷ lines) tail s e = ap (λ (o : Option ℕ). with_smaller o (smaller_from texts (n + 1) lines tail) (record { taken = n; rest = line ∷ lines; tail = tail })) e

smaller_some : (texts : List (List ℕ)) (at : At) (s : ℕ) → line_at (atoms_of_line (codes "smaller ") texts) at ≡ Some s → smaller_at texts at ≡ (s ∷ (smaller_at texts (advanced at)).0, (smaller_at texts (advanced at)).1)
unfolding smaller_at advanced
smaller_some texts at s e = some_from texts at.taken at.rest at.tail s e

pub smaller_pushed : (texts : List (List ℕ)) (old new : List ℕ) (s : ℕ) (at now : At) (goal : List ℕ × At) → new ≡ old ++ s ∷ [] → now ≡ advanced at → line_at (atoms_of_line (codes "smaller ") texts) at ≡ Some s
    → ◌≡◌ {A = List ℕ × At} (old ++ (smaller_at texts at).0, (smaller_at texts at).1) goal → ◌≡◌ {A = List ℕ × At} (new ++ (smaller_at texts now).0, (smaller_at texts now).1) goal
smaller_pushed texts old new s at now goal items moved e known =
    ap (λ (xs : List ℕ). (xs ++ (smaller_at texts now).0, (smaller_at texts now).1)) items
    ∙ (ap (λ (a : At). ((old ++ s ∷ []) ++ (smaller_at texts a).0, (smaller_at texts a).1)) moved
    ∙ (ap (λ (xs : List ℕ). (xs, (smaller_at texts (advanced at)).1)) (append_assoc old (s ∷ []) (smaller_at texts (advanced at)).0)
    ∙ (ap (λ (r : List ℕ × At). (old ++ r.0, r.1)) (sym (smaller_some texts at s e)) ∙ known)))

none_from : (texts : List (List ℕ)) (n : ℕ) (rest : List (List ℕ)) (tail : List ℕ) → option_and_then (atoms_of_line (codes "smaller ") texts) (head_line rest) ≡ None → smaller_from texts n rest tail ≡ ([], record { taken = n; rest = rest; tail = tail })
none_from texts n [] tail e = refl
none_from texts n (line ∷ lines) tail e = ap (λ (o : Option ℕ). with_smaller o (smaller_from texts (n + 1) lines tail) (record { taken = n; rest = line ∷ lines; tail = tail })) e

pub smaller_none : (texts : List (List ℕ)) (at : At) → line_at (atoms_of_line (codes "smaller ") texts) at ≡ None → smaller_at texts at ≡ ([], at)
unfolding smaller_at
smaller_none texts at e = none_from texts at.taken at.rest at.tail e
