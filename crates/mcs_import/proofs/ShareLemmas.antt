-- What supplies a context, gathered in the import order.
use Rattle.std.proofs.Common.{◌≡◌, ℕ, ◌+◌, ◌<◌, ◌≤◌, Bool, true, false, eqb, List, [], ◌∷◌, ◌++◌, length, drop, get_or, refl, sym, ap, ◌∙◌, arith, append_assoc, true≢false}
use Rattle.std.proofs.lemmas.Bool.Decides.{nat_tests}
use Rattle.std.proofs.lemmas.List.{append-nil, at_drop_all, drop_more}
use Rattle.mcs_sets.specs.Sets.{minus}
use Rattle.mcs_sets.proofs.Lattice.{minus-minus, minus-none}
use Rattle.mcs_system.specs.Plain.{System}
use Rattle.mcs_system.specs.Systems.{variables_of}
use Rattle.mcs_system.specs.Rows.{inputs_of}
use Rattle.mcs_system.specs.Imports.{imports, supplied}
use Rattle.mcs_import.specs.Plans.{variables_of_all, guessed, Part, part}

-- with what is found, and what is still to come of the order
pub record IsPartly (m : System) (order : List ℕ) (i : ℕ) (found : List ℕ) (guesses : ℕ) (rest : List ℕ) : Type 0 where
  pub supplied_is : found ++ supplied m rest i ≡ supplied m order i
  pub guessed_is : minus guesses (variables_of_all m (supplied m rest i)) ≡ guessed m order i

pub partly_begin : (m : System) (order : List ℕ) (i : ℕ) → IsPartly m order i [] (inputs_of m i) order
partly_begin m order i = record { supplied_is = refl; guessed_is = refl }

-- a context that is imported
pub partly_more : (m : System) (order : List ℕ) (i : ℕ) (found : List ℕ) (guesses : ℕ) (k j d : ℕ) → k < length order → j ≡ get_or order k d → ¬ (j ≡ i) → imports m i j ≡ true
    → IsPartly m order i found guesses (drop k order) → IsPartly m order i (found ++ j ∷ []) (minus guesses (variables_of m j)) (drop (k + 1) order)
partly_more m order i found guesses k j d less is other imported h =
    let step : supplied m (drop k order) i ≡ j ∷ supplied m (drop (k + 1) order) i = ap (λ (xs : List ℕ). supplied m xs i) (drop_more order k d less) ∙ ap (λ (x : ℕ). supplied m (x ∷ drop (k + 1) order) i) (sym is) ∙ here (eqb j i) refl (imports m i j) refl in record {
      supplied_is = append_assoc found (j ∷ []) (supplied m (drop (k + 1) order) i) ∙ ap (λ xs. found ++ xs) (sym step) ∙ h.supplied_is;
      guessed_is = minus-minus guesses (variables_of m j) (variables_of_all m (supplied m (drop (k + 1) order) i)) ∙ ap (λ (xs : List ℕ). minus guesses (variables_of_all m xs)) (sym step) ∙ h.guessed_is;
    }
  where
    here : (u : Bool) → eqb j i ≡ u → (v : Bool) → imports m i j ≡ v → supplied m (j ∷ drop (k + 1) order) i ≡ j ∷ supplied m (drop (k + 1) order) i
    here true e v e' = absurd (other (grind (arith, nat_tests)))
    here false e true e' = rw (e, e') refl
    here false e false e' = absurd (true≢false (sym imported ∙ e'))

-- a context that is not
pub partly_skip : (m : System) (order : List ℕ) (i : ℕ) (found : List ℕ) (guesses : ℕ) (k j d : ℕ) → k < length order → j ≡ get_or order k d → ¬ (j ≡ i) → imports m i j ≡ false
    → IsPartly m order i found guesses (drop k order) → IsPartly m order i found guesses (drop (k + 1) order)
partly_skip m order i found guesses k j d less is other imported h =
    let step : supplied m (drop k order) i ≡ supplied m (drop (k + 1) order) i = ap (λ (xs : List ℕ). supplied m xs i) (drop_more order k d less) ∙ ap (λ (x : ℕ). supplied m (x ∷ drop (k + 1) order) i) (sym is) ∙ here (eqb j i) refl (imports m i j) refl in record {
      supplied_is = ap (λ xs. found ++ xs) (sym step) ∙ h.supplied_is;
      guessed_is = ap (λ (xs : List ℕ). minus guesses (variables_of_all m xs)) (sym step) ∙ h.guessed_is;
    }
  where
    here : (u : Bool) → eqb j i ≡ u → (v : Bool) → imports m i j ≡ v → supplied m (j ∷ drop (k + 1) order) i ≡ supplied m (drop (k + 1) order) i
    here true e v e' = absurd (other (grind (arith, nat_tests)))
    here false e true e' = absurd (true≢false (sym e' ∙ imported))
    here false e false e' = rw (e, e') refl

abbrev pub made : List ℕ → ℕ → Part
made xs g = record { supplied = xs; guessed = g }

partly_over : (m : System) (order : List ℕ) (i : ℕ) (found : List ℕ) (guesses : ℕ) (rest : List ℕ) → supplied m rest i ≡ [] → IsPartly m order i found guesses rest → made found guesses ≡ part m order i
partly_over m order i found guesses rest none h =
    both _ _ _ _ (sym (append-nil found) ∙ ap (λ xs. found ++ xs) (sym none) ∙ h.supplied_is) (sym (minus-none guesses) ∙ ap (λ (xs : List ℕ). minus guesses (variables_of_all m xs)) (sym none) ∙ h.guessed_is)
  where
    both : (xs ys : List ℕ) (g h : ℕ) → xs ≡ ys → g ≡ h → made xs g ≡ made ys h
    both xs ys g h e e' = rw (e, e') refl

-- at i itself the rest does not matter
pub partly_here : (m : System) (order : List ℕ) (i : ℕ) (found : List ℕ) (guesses : ℕ) (k j d : ℕ) → k < length order → j ≡ get_or order k d → j ≡ i
    → IsPartly m order i found guesses (drop k order) → made found guesses ≡ part m order i
partly_here m order i found guesses k j d less is same h =
    partly_over m order i found guesses (drop k order) (ap (λ (xs : List ℕ). supplied m xs i) (drop_more order k d less) ∙ ap (λ (x : ℕ). supplied m (x ∷ drop (k + 1) order) i) (sym is) ∙ here (eqb j i) refl) h
  where
    here : (u : Bool) → eqb j i ≡ u → supplied m (j ∷ drop (k + 1) order) i ≡ []
    here true e = rw e refl
    here false e = absurd (grind (arith, nat_tests))

pub partly_end : (m : System) (order : List ℕ) (i : ℕ) (found : List ℕ) (guesses : ℕ) (k : ℕ) → length order ≤ k
    → IsPartly m order i found guesses (drop k order) → made found guesses ≡ part m order i
partly_end m order i found guesses k over h = partly_over m order i found guesses (drop k order) (at_drop_all (λ (xs : List ℕ). supplied m xs i) order k over) h
