-- What the occurrences in formulas are worth, and assignments that say so.
use Rattle.std.proofs.Common.{◌≡◌, ℕ, ◌+◌, Bool, true, false, not, ◌&&◌, ◌||◌, cond, List, [], ◌∷◌, ◌++◌, ◌↔◌, map, length, arith, refl, sym, ap, ◌∙◌, subst, true≢false, length-append}
use Rattle.std.proofs.lemmas.Bool.{or_parts}
use Rattle.std.proofs.Math.Bool.{or-true}
use Rattle.mcs_base.proofs.Clausal.{Reads, reads_append}
use Rattle.mcs_system.specs.Plain.{Name, Formula, Truth, Falsity, Atom, Not, Joined}
use Rattle.mcs_system.specs.Trees.{joined_value}
use Rattle.mcs_system.specs.Logic.{same_name, is_in, holds}
use Rattle.mcs_system.specs.Faults.{has_twins}
use Rattle.mcs_system.proofs.Sameness.{same_name-is, same_name-itself}
use Rattle.mcs_cnf.specs.ClauseLists.{atom_number, taken, taken_by_all}

-- ---- the values of the occurrences in a formula that are no atoms, in the order of their numbers
abbrev pub values : List Name → Formula → List Bool
values a Truth = true ∷ []
values a Falsity = false ∷ []
values a (Atom n) = []
values a (Not f) = values a f ++ not (holds a f) ∷ []
values a (Joined c f g) = values a f ++ (values a g ++ joined_value c (holds a f) (holds a g) ∷ [])

pub values_taken : (a : List Name) (k : ℕ) (f : Formula) → taken k f ≡ k + length (values a f)
values_taken a k Truth = refl
values_taken a k Falsity = refl
values_taken a k (Atom n) = omega arith
values_taken a k (Not f) = omega (arith, values_taken a k f, length-append (values a f) (not (holds a f) ∷ []))
values_taken a k (Joined c f g) = omega (arith, values_taken a k f, values_taken a (taken k f) g, length-append {A = Bool})

pub reads_after : (v : ℕ → Bool) (a : List Name) (k : ℕ) (f : Formula) (bs : List Bool) → Reads v k (values a f ++ bs) ↔ (Reads v k (values a f) × Reads v (taken k f) bs)
reads_after v a k f bs =
    let e = values_taken a k f in
    let h = reads_append v k (values a f) bs in (
      λ r. ((h.0 r).0, subst (λ n. Reads v n bs) (sym e) (h.0 r).1),
      λ r. h.1 (r.0, subst (λ n. Reads v n bs) e r.1),
    )

abbrev pub all_values : List Name → List Formula → List Bool
all_values a [] = []
all_values a (f ∷ fs) = values a f ++ all_values a fs

pub all_values_taken : (a : List Name) (k : ℕ) (fs : List Formula) → taken_by_all k fs ≡ k + length (all_values a fs)
all_values_taken a k [] = omega arith
all_values_taken a k (f ∷ fs) = omega (arith, values_taken a k f, all_values_taken a (taken k f) fs, length-append (values a f) (all_values a fs))

-- ---- the values of the atoms
abbrev pub atom_values : List Name → List Name → List Bool
atom_values names a = map (λ n. is_in n a) names

atoms_read : (v : ℕ → Bool) (names a : List Name) (k : ℕ) (n : Name) → Reads v k (atom_values names a) → is_in n names ≡ true → v (k + atom_number names n) ≡ is_in n a
atoms_read v [] a k n r known = absurd (true≢false (sym known))
atoms_read v (m ∷ names) a k n r known = at (same_name n m) refl known (λ known. atoms_read v names a (k + 1) n r.1 known)
  where
    at : (b : Bool) → same_name n m ≡ b → (b || is_in n names) ≡ true → (is_in n names ≡ true → v (k + 1 + atom_number names n) ≡ is_in n a) → v (k + cond b 1 (atom_number names n + 1)) ≡ is_in n a
    at true same known later = r.0 ∙ ap (λ x. is_in x a) (sym (same_name-is n m same))
    at false other known later = let e : k + (atom_number names n + 1) ≡ k + 1 + atom_number names n = omega arith in ap v e ∙ later known

pub atoms_read-first : (v : ℕ → Bool) (names a : List Name) (n : Name) → Reads v 0 (atom_values names a) → is_in n names ≡ true → v (atom_number names n) ≡ is_in n a
atoms_read-first v names a n r known = let e : atom_number names n ≡ 0 + atom_number names n = omega arith in ap v e ∙ atoms_read v names a 0 n r known

-- where no two names are the same, what the atoms' variables say is read off in order
atoms_in_order : (v : ℕ → Bool) (names a : List Name) (k : ℕ) → has_twins names ≡ false → ((n : Name) → is_in n names ≡ true → v (k + atom_number names n) ≡ is_in n a) → Reads v k (atom_values names a)
atoms_in_order v [] a k single each = tt
atoms_in_order v (m ∷ names) a k single each =
    let (apart, single') = or_parts (is_in m names) (has_twins names) single in
    (first, atoms_in_order v names a (k + 1) single' (λ n known. later n known apart (same_name n m) refl))
  where
    first : v (k + 1) ≡ is_in m a
    first =
        let itself : same_name m m ≡ true = same_name-itself m in
        let known : is_in m (m ∷ names) ≡ true = ap (λ b. b || is_in m names) itself in
        ap (λ b. v (k + cond b 1 (atom_number names m + 1))) (sym itself) ∙ each m known

    later : (n : Name) → is_in n names ≡ true → is_in m names ≡ false → (b : Bool) → same_name n m ≡ b → v (k + 1 + atom_number names n) ≡ is_in n a
    later n known apart true same = absurd (true≢false (sym known ∙ ap (λ x. is_in x names) (same_name-is n m same) ∙ apart))
    later n known apart false other =
        let e : k + 1 + atom_number names n ≡ k + (atom_number names n + 1) = omega arith in
        ap v e ∙ ap (λ b. v (k + cond b 1 (atom_number names n + 1))) (sym other) ∙ each n (ap (λ b. same_name n m || b) known ∙ or-true (same_name n m))

pub atoms_in_order-first : (v : ℕ → Bool) (names a : List Name) → has_twins names ≡ false → ((n : Name) → is_in n names ≡ true → v (atom_number names n) ≡ is_in n a) → Reads v 0 (atom_values names a)
atoms_in_order-first v names a single each = atoms_in_order v names a 0 single (λ n known. let e : 0 + atom_number names n ≡ atom_number names n = omega arith in ap v e ∙ each n known)
