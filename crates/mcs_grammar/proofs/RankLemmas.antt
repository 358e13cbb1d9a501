-- The order in which faults are looked for is that of their ranks.
use Rattle.std.proofs.Common.{◌≡◌, ℕ, ◌+◌, ◌<◌, ◌≤◌, zero, suc, Bool, false, List, [], ◌∷◌, get_or, refl, sym, ap, ◌∙◌, subst, inl, inr, ◌↔◌, arith}
use Rattle.std.specs.Prelude.{IsTrue}
use Rattle.std.proofs.lemmas.Bool.{cases_lt}
use Rattle.mcs_system.specs.declared.limit.Limit.{Limit}
use Rattle.mcs_system.specs.declared.limit.Limit.TheVariants.{Contexts, Bridges, RulesPerContext, Variables, InputsPerContext, AtomsPerContext, DefaultsPerContext, ItemsPerContext, Weight, FormulaSize, OpenParentheses, NameBytes}
use Rattle.std.proofs.lemmas.Bool.Decides.{not_from_Decides}
use Rattle.mcs_grammar.specs.Entries.{Use, Entry}
use Rattle.mcs_grammar.specs.Faults.{TextFault, NoGrammar, NoContext, Twin, NoAtom, Exceeds, row, rank, ExceedsLimit, Has}

-- the lowest first
abbrev pub in_order : List Limit
in_order = Contexts ∷ Bridges ∷ RulesPerContext ∷ Variables ∷ InputsPerContext ∷ AtomsPerContext ∷ DefaultsPerContext ∷ ItemsPerContext ∷ Weight ∷ FormulaSize ∷ OpenParentheses ∷ NameBytes ∷ []

abbrev pub limit_at : ℕ → Limit
limit_at k = get_or in_order k Contexts

row-at : (k : ℕ) → k < 12 → row (limit_at k) ≡ k
row-at zero less = refl
row-at (suc zero) less = refl
row-at (suc (suc zero)) less = refl
row-at (suc (suc (suc zero))) less = refl
row-at (suc (suc (suc (suc zero)))) less = refl
row-at (suc (suc (suc (suc (suc zero))))) less = refl
row-at (suc (suc (suc (suc (suc (suc zero)))))) less = refl
row-at (suc (suc (suc (suc (suc (suc (suc zero))))))) less = refl
row-at (suc (suc (suc (suc (suc (suc (suc (suc zero)))))))) less = refl
row-at (suc (suc (suc (suc (suc (suc (suc (suc (suc zero))))))))) less = refl
row-at (suc (suc (suc (suc (suc (suc (suc (suc (suc (suc zero)))))))))) less = refl
row-at (suc (suc (suc (suc (suc (suc (suc (suc (suc (suc (suc zero))))))))))) less = refl
row-at (suc (suc (suc (suc (suc (suc (suc (suc (suc (suc (suc (suc k)))))))))))) less = absurd (omega arith)

at-row : (l : Limit) → limit_at (row l) ≡ l
at-row Contexts = refl
at-row Bridges = refl
at-row RulesPerContext = refl
at-row Variables = refl
at-row InputsPerContext = refl
at-row AtomsPerContext = refl
at-row DefaultsPerContext = refl
at-row ItemsPerContext = refl
at-row Weight = refl
at-row FormulaSize = refl
at-row OpenParentheses = refl
at-row NameBytes = refl

row-below : (l : Limit) → row l < 12
row-below Contexts = omega arith
row-below Bridges = omega arith
row-below RulesPerContext = omega arith
row-below Variables = omega arith
row-below InputsPerContext = omega arith
row-below AtomsPerContext = omega arith
row-below DefaultsPerContext = omega arith
row-below ItemsPerContext = omega arith
row-below Weight = omega arith
row-below FormulaSize = omega arith
row-below OpenParentheses = omega arith
row-below NameBytes = omega arith

module _ (before : List Use) (m : Entry) where
  pub from-context : (f : TextFault) → Has f before m → 2 ≤ rank f
  from-context NoGrammar h = absurd h
  from-context NoContext h = omega arith
  from-context Twin h = omega arith
  from-context NoAtom h = omega arith
  from-context (Exceeds l) h = omega arith

  pub from-twin : ¬ Has NoContext before m → (f : TextFault) → Has f before m → 3 ≤ rank f
  from-twin no-context NoGrammar h = absurd h
  from-twin no-context NoContext h = absurd (no-context h)
  from-twin no-context Twin h = omega arith
  from-twin no-context NoAtom h = omega arith
  from-twin no-context (Exceeds l) h = omega arith

  pub from-atom : ¬ Has NoContext before m → ¬ Has Twin before m → (f : TextFault) → Has f before m → 4 ≤ rank f
  from-atom no-context no-twin NoGrammar h = absurd h
  from-atom no-context no-twin NoContext h = absurd (no-context h)
  from-atom no-context no-twin Twin h = absurd (no-twin h)
  from-atom no-context no-twin NoAtom h = omega arith
  from-atom no-context no-twin (Exceeds l) h = omega arith

  module _ (k : ℕ) (no-context : ¬ Has NoContext before m) (no-twin : ¬ Has Twin before m) (no-atom : ¬ Has NoAtom before m) (none : (l : Limit) → row l < k → ¬ ExceedsLimit l before m) where
    pub from-limit : k < 12 → (f : TextFault) → Has f before m → 5 + row (limit_at k) ≤ rank f
    from-limit less NoGrammar h = absurd h
    from-limit less NoContext h = absurd (no-context h)
    from-limit less Twin h = absurd (no-twin h)
    from-limit less NoAtom h = absurd (no-atom h)
    from-limit less (Exceeds l) h = let e = row-at k less in elim (cases_lt (row l) k) [ inl lower ↦ absurd (none l lower h) | inr past ↦ omega arith ]

    pub none-at-all : 12 ≤ k → (f : TextFault) → ¬ Has f before m
    none-at-all past NoGrammar h = h
    none-at-all past NoContext h = no-context h
    none-at-all past Twin h = no-twin h
    none-at-all past NoAtom h = no-atom h
    none-at-all past (Exceeds l) h = let less = row-below l in none l (omega arith) h

  pub none-more : (k : ℕ) (b : Bool) → IsTrue b ↔ ExceedsLimit (limit_at k) before m → b ≡ false → ((l : Limit) → row l < k → ¬ ExceedsLimit l before m) → (l : Limit) → row l < k + 1 → ¬ ExceedsLimit l before m
  none-more k b is not-here none l less h = elim (cases_lt (row l) k) [
    | inl lower ↦ none l lower h
    | inr past ↦ let same : row l ≡ k = omega arith in not_from_Decides b is not-here (subst (λ (x : Limit). ExceedsLimit x before m) (sym (at-row l) ∙ ap limit_at same) h)
  ]
