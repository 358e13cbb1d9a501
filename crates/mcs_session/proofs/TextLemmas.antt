-- No two keys have one text.
use Rattle.std.proofs.Common.{◌≡◌, ◌≤◌, ℕ, false, eqb, eq-eqb, List, [], ◌∷◌, ◌++◌, length, refl, sym, ap, ap₂, ◌∙◌, arith, true≢false, append_assoc, append-nil}
use Rattle.mcs_system.specs.Plain.{Formula, Connective, Conjunction, Disjunction, Implication, Equivalence, Truth, Falsity, Atom, Not, Joined, And, Or, Implies, Iff}
use Rattle.mcs_session.specs.Keys.{Key}
use Rattle.mcs_session.specs.KeyTexts.{formula_text, formulas_text}
use Rattle.mcs_session.specs.Laws.{NoTwoKeysHaveOneText}

first : List ℕ → ℕ
first [] = 0
first (x ∷ xs) = x

after : List ℕ → List ℕ
after [] = []
after (x ∷ xs) = xs

names_apart : (m n r s : List ℕ) → length m ≡ length n → m ++ r ≡ n ++ s → (m ≡ n) × (r ≡ s)
unfolding first after
names_apart [] [] r s long same = (refl, same)
names_apart [] (y ∷ n) r s long same = absurd (omega (arith, long))
names_apart (x ∷ m) [] r s long same = absurd (omega (arith, long))
names_apart (x ∷ m) (y ∷ n) r s long same =
    let both : (m ≡ n) × (r ≡ s) = names_apart m n r s (omega (arith, long)) (ap after same) in
    (ap₂ (λ z zs. z ∷ zs) (ap first same) both.0, both.1)

differ : (m n : ℕ) → eqb m n ≡ false → m ≡ n → ⊥
differ m n e same = true≢false (sym (eq-eqb m n same) ∙ e)

-- texts of one formula apart, whatever follows
IsApart : Formula → Formula → Type 0
IsApart f g = (r s : List ℕ) → formula_text f ++ r ≡ formula_text g ++ s → (f ≡ g) × (r ≡ s)

joined_apart : (c : Formula → Formula → Formula) (f f' g g' : Formula) → IsApart f g → IsApart f' g' → (r s : List ℕ) → (formula_text f ++ formula_text f') ++ r ≡ (formula_text g ++ formula_text g') ++ s → (c f f' ≡ c g g') × (r ≡ s)
unfolding IsApart
joined_apart c f f' g g' one two r s e =
    let a = one (formula_text f' ++ r) (formula_text g' ++ s) (sym (append_assoc (formula_text f) (formula_text f') r) ∙ e ∙ append_assoc (formula_text g) (formula_text g') s) in
    let b = two r s a.1 in
    (ap₂ c a.0 b.0, b.1)

-- a formula of two parts begins with a number that no other has
joined_late : (c : Connective) (f g : Formula) (r : List ℕ) → 4 ≤ first (formula_text (Joined c f g) ++ r)
unfolding first
joined_late Conjunction f g r = omega (arith)
joined_late Disjunction f g r = omega (arith)
joined_late Implication f g r = omega (arith)
joined_late Equivalence f g r = omega (arith)

not_joined : (x : List ℕ) (c : Connective) (f g : Formula) (r : List ℕ) → first x ≤ 3 → x ≡ formula_text (Joined c f g) ++ r → ⊥
not_joined x c f g r small e =
    let late = joined_late c f g r in
    let same : first x ≡ first (formula_text (Joined c f g) ++ r) = ap first e in
    omega (arith, small, late, same)

pub formula_apart : (f g : Formula) (r s : List ℕ) → formula_text f ++ r ≡ formula_text g ++ s → (f ≡ g) × (r ≡ s)
unfolding first after IsApart
formula_apart Truth Truth r s e = (refl, ap after e)
formula_apart Falsity Falsity r s e = (refl, ap after e)
formula_apart (Atom m) (Atom n) r s e = let both = names_apart m n r s (ap first (ap after e)) (ap after (ap after e)) in (ap (λ x. Atom x) both.0, both.1)
formula_apart (Not f) (Not g) r s e = let both = formula_apart f g r s (ap after e) in (ap (λ x. Not x) both.0, both.1)
formula_apart (And f f') (And g g') r s e = joined_apart (λ x y. And x y) f f' g g' (formula_apart f g) (formula_apart f' g') r s (ap after e)
formula_apart (Or f f') (Or g g') r s e = joined_apart (λ x y. Or x y) f f' g g' (formula_apart f g) (formula_apart f' g') r s (ap after e)
formula_apart (Implies f f') (Implies g g') r s e = joined_apart (λ x y. Implies x y) f f' g g' (formula_apart f g) (formula_apart f' g') r s (ap after e)
formula_apart (Iff f f') (Iff g g') r s e = joined_apart (λ x y. Iff x y) f f' g g' (formula_apart f g) (formula_apart f' g') r s (ap after e)
formula_apart Truth (Joined c g g') r s e = absurd (not_joined (formula_text Truth ++ r) c g g' s (omega (arith)) e)
formula_apart (Joined c f f') Truth r s e = absurd (not_joined (formula_text Truth ++ s) c f f' r (omega (arith)) (sym e))
formula_apart Falsity (Joined c g g') r s e = absurd (not_joined (formula_text Falsity ++ r) c g g' s (omega (arith)) e)
formula_apart (Joined c f f') Falsity r s e = absurd (not_joined (formula_text Falsity ++ s) c f f' r (omega (arith)) (sym e))
formula_apart (Atom m) (Joined c g g') r s e = absurd (not_joined (formula_text (Atom m) ++ r) c g g' s (omega (arith)) e)
formula_apart (Joined c f f') (Atom n) r s e = absurd (not_joined (formula_text (Atom n) ++ s) c f f' r (omega (arith)) (sym e))
formula_apart (Not f) (Joined c g g') r s e = absurd (not_joined (formula_text (Not f) ++ r) c g g' s (omega (arith)) e)
formula_apart (Joined c f f') (Not g) r s e = absurd (not_joined (formula_text (Not g) ++ s) c f f' r (omega (arith)) (sym e))
formula_apart f g r s e = absurd (differ (first (formula_text f ++ r)) (first (formula_text g ++ s)) refl (ap first e))

pub formulas_apart : (fs gs : List Formula) (r s : List ℕ) → formulas_text fs ++ r ≡ formulas_text gs ++ s → (fs ≡ gs) × (r ≡ s)
unfolding first after
formulas_apart [] [] r s e = (refl, ap after e)
formulas_apart [] (g ∷ gs) r s e = absurd (let no : 0 ≡ 1 = ap first e in omega (arith, no))
formulas_apart (f ∷ fs) [] r s e = absurd (let no : 1 ≡ 0 = ap first e in omega (arith, no))
formulas_apart (f ∷ fs) (g ∷ gs) r s e =
    let one = formula_apart f g (formulas_text fs ++ r) (formulas_text gs ++ s) (sym (append_assoc (formula_text f) (formulas_text fs) r) ∙ ap after e ∙ append_assoc (formula_text g) (formulas_text gs) s) in
    let rest = formulas_apart fs gs r s one.1 in
    (ap₂ (λ x xs. x ∷ xs) one.0 rest.0, rest.1)

pub texts_differ : NoTwoKeysHaveOneText
unfolding first after
texts_differ k l e =
    let heads = formulas_apart k.heads l.heads (formulas_text k.beliefs) (formulas_text l.beliefs) (ap after e) in
    let beliefs = formulas_apart k.beliefs l.beliefs [] [] (append-nil (formulas_text k.beliefs) ∙ heads.1 ∙ sym (append-nil (formulas_text l.beliefs))) in
    made k l (ap first e) heads.0 beliefs.0
  where
    made : (k l : Key) → k.context ≡ l.context → k.heads ≡ l.heads → k.beliefs ≡ l.beliefs → k ≡ l
    made k l c h b = grind (arith)
