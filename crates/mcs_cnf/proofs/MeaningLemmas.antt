-- The clauses of formulas mean the formulas.
use Rattle.std.proofs.Common.{◌≡◌, ℕ, ◌+◌, ◌-◌, Bool, true, false, not, ◌&&◌, ◌||◌, List, [], ◌∷◌, ◌++◌, ◌↔◌, length, length-append, get_or, arith, refl, sym, ap, ◌∙◌, subst, ℤ, pos}
use Rattle.std.proofs.lemmas.Bool.{and_parts, and_from}
use Rattle.std.proofs.lemmas.List.Folds.{list_all-append}
use Rattle.std.proofs.Math.Bool.{or-false}
use Rattle.std.proofs.lemmas.List.{length-map}
use Rattle.mcs_system.specs.Plain.{Name, Formula, Truth, Falsity, Atom, Not, Joined}
use Rattle.mcs_system.specs.Trees.{joined_value}
use Rattle.mcs_system.specs.Logic.{holds, holds_all, both_or_neither, is_in}
use Rattle.mcs_system.specs.Faults.{has_twins}
use Rattle.mcs_trace.specs.Clauses.{clause_holds, all_hold}
use Rattle.mcs_cnf.specs.ClauseLists.{clause_of, not_clauses, joined_clauses, taken, number, formula_clauses, taken_by_all, list_clauses, IsOver, AreOver}
use Rattle.mcs_cnf.specs.Meaning.{Extends, IsMeaning}
use Rattle.mcs_cnf.proofs.NumberLemmas.{number_positive}
use Rattle.mcs_cnf.proofs.Tables.{clause_of-holds, truth_table, falsity_table, not_table, joined_table, same_values, values_same}
use Rattle.mcs_base.proofs.Clausal.{Reads, reads_append, reads_those, reads_same}
use Rattle.mcs_cnf.proofs.Values.{values, reads_after, all_values, all_values_taken, atom_values, atoms_read-first, atoms_in_order-first}

pub all_hold-parts : (v : ℕ → Bool) (cs ds : List (List ℤ)) → all_hold v (cs ++ ds) ≡ true → (all_hold v cs ≡ true) × (all_hold v ds ≡ true)
all_hold-parts v cs ds h = and_parts (all_hold v cs) (all_hold v ds) (sym (list_all-append (clause_holds v) cs ds) ∙ h)

pub all_hold-both : (v : ℕ → Bool) (cs ds : List (List ℤ)) → all_hold v cs ≡ true → all_hold v ds ≡ true → all_hold v (cs ++ ds) ≡ true
all_hold-both v cs ds h h' = list_all-append (clause_holds v) cs ds ∙ and_from (all_hold v cs) (all_hold v ds) h h'

module _ (v : ℕ → Bool) (names a : List Name) (extends : Extends names a v) where
  -- the variable of a formula whose occurrences have their values has its value
  own_value : (k : ℕ) (f : Formula) → IsOver names f → Reads v k (values a f) → v (number names k f) ≡ holds a f
  own_value k Truth over r = r.0
  own_value k Falsity over r = r.0
  own_value k (Atom n) over r = extends n over
  own_value k (Not f) over r = ((reads_after v a k f (not (holds a f) ∷ [])).0 r).1.0
  own_value k (Joined c f g) over r =
      let own : List Bool = joined_value c (holds a f) (holds a g) ∷ [] in
      ((reads_after v a (taken k f) g own).0 ((reads_after v a k f (values a g ++ own)).0 r).1).1.0

  -- the clauses of the occurrences hold exactly where each occurrence has its value
  Says : ℕ → Formula → Type 0
  Says k f = (all_hold v (formula_clauses names k f) ≡ true) ↔ Reads v k (values a f)

  unary : (k : ℕ) (f : Formula) (cs : List (List ℤ)) → IsOver names f → all_hold v cs ≡ both_or_neither (v (taken k f + 1)) (not (v (number names k f))) → Says k f
      → (all_hold v (formula_clauses names k f ++ cs) ≡ true) ↔ Reads v k (values a f ++ not (holds a f) ∷ [])
  unfolding Says
  unary k f cs over table part = (to, from)
    where
      to : all_hold v (formula_clauses names k f ++ cs) ≡ true → Reads v k (values a f ++ not (holds a f) ∷ [])
      to h =
          let (h1, own) = all_hold-parts v (formula_clauses names k f) cs h in
          let r = part.0 h1 in
          (reads_after v a k f (not (holds a f) ∷ [])).1 (r, (same_values _ _ (sym table ∙ own) ∙ ap not (own_value k f over r), tt))

      from : Reads v k (values a f ++ not (holds a f) ∷ []) → all_hold v (formula_clauses names k f ++ cs) ≡ true
      from h =
          let (r, own) = (reads_after v a k f (not (holds a f) ∷ [])).0 h in
          all_hold-both v (formula_clauses names k f) cs (part.1 r) (table ∙ values_same _ _ (own.0 ∙ sym (ap not (own_value k f over r))))

  binary : (op : Bool → Bool → Bool) (k : ℕ) (f g : Formula) (cs : List (List ℤ)) → IsOver names f → IsOver names g
      → all_hold v cs ≡ both_or_neither (v (taken (taken k f) g + 1)) (op (v (number names k f)) (v (number names (taken k f) g)))
      → Says k f → Says (taken k f) g
      → (all_hold v (formula_clauses names k f ++ formula_clauses names (taken k f) g ++ cs) ≡ true) ↔ Reads v k (values a f ++ (values a g ++ op (holds a f) (holds a g) ∷ []))
  unfolding Says
  binary op k f g cs over over' table first second = (to, from)
    where
      parts : Reads v k (values a f) → Reads v (taken k f) (values a g) → op (v (number names k f)) (v (number names (taken k f) g)) ≡ op (holds a f) (holds a g)
      parts r r' = let e = own_value k f over r in let e' = own_value (taken k f) g over' r' in rw (e, e') refl

      to : all_hold v (formula_clauses names k f ++ formula_clauses names (taken k f) g ++ cs) ≡ true → Reads v k (values a f ++ (values a g ++ op (holds a f) (holds a g) ∷ []))
      to h =
          let (h', own) = all_hold-parts v (formula_clauses names k f ++ formula_clauses names (taken k f) g) cs h in
          let (h1, h2) = all_hold-parts v (formula_clauses names k f) (formula_clauses names (taken k f) g) h' in
          let r = first.0 h1 in
          let r' = second.0 h2 in
          let e : v (taken (taken k f) g + 1) ≡ op (holds a f) (holds a g) = same_values _ _ (sym table ∙ own) ∙ parts r r' in
          (reads_after v a k f (values a g ++ op (holds a f) (holds a g) ∷ [])).1 (r, (reads_after v a (taken k f) g (op (holds a f) (holds a g) ∷ [])).1 (r', (e, tt)))

      from : Reads v k (values a f ++ (values a g ++ op (holds a f) (holds a g) ∷ [])) → all_hold v (formula_clauses names k f ++ formula_clauses names (taken k f) g ++ cs) ≡ true
      from h =
          let (r, later) = (reads_after v a k f (values a g ++ op (holds a f) (holds a g) ∷ [])).0 h in
          let (r', own) = (reads_after v a (taken k f) g (op (holds a f) (holds a g) ∷ [])).0 later in
          all_hold-both v (formula_clauses names k f ++ formula_clauses names (taken k f) g) cs
          (all_hold-both v (formula_clauses names k f) (formula_clauses names (taken k f) g) (first.1 r) (second.1 r'))
          (table ∙ values_same _ _ (own.0 ∙ sym (parts r r')))

  says : (k : ℕ) (f : Formula) → IsOver names f → Says k f
  unfolding Says
  says k Truth over = (λ h. (same_values (v (k + 1)) true (sym (truth_table v (k + 1)) ∙ h), tt), λ r. truth_table v (k + 1) ∙ values_same (v (k + 1)) true r.0)
  says k Falsity over =
      let table = falsity_table v (k + 1) (omega arith) in
      (λ h. (same_values (v (k + 1)) false (sym table ∙ h), tt), λ r. table ∙ values_same (v (k + 1)) false r.0)
  says k (Atom n) over = (λ h. tt, λ r. refl)
  says k (Not f) over = unary k f (not_clauses (taken k f + 1) (number names k f)) over (not_table v (taken k f + 1) (number names k f) (omega arith) (number_positive names k f)) (says k f over)
  says k (Joined c f g) over = binary (joined_value c) k f g (joined_clauses c (taken (taken k f) g + 1) (number names k f) (number names (taken k f) g)) over.0 over.1
      (joined_table c v (taken (taken k f) g + 1) (number names k f) (number names (taken k f) g) (omega arith) (number_positive names k f) (number_positive names (taken k f) g)) (says k f over.0) (says (taken k f) g over.1)

  unit-holds : (n : ℕ) → clause_holds v (clause_of (pos n ∷ [])) ≡ v n
  unit-holds n = clause_of-holds v (pos n ∷ []) ∙ or-false (v n)

  pub list_says : (k : ℕ) (fs : List Formula) → AreOver names fs → (all_hold v (list_clauses names k fs) ≡ true) ↔ (Reads v k (all_values a fs) × (holds_all a fs ≡ true))
  unfolding Says
  list_says k [] over = (λ h. (tt, refl), λ h. refl)
  list_says k (f ∷ fs) over = one_more (list_says (taken k f) fs over.1)
    where
      one_more : ((all_hold v (list_clauses names (taken k f) fs) ≡ true) ↔ (Reads v (taken k f) (all_values a fs) × (holds_all a fs ≡ true)))
          → (all_hold v (list_clauses names k (f ∷ fs)) ≡ true) ↔ (Reads v k (all_values a (f ∷ fs)) × (holds_all a (f ∷ fs) ≡ true))
      one_more rest = (
        λ h.
            let (h1, later) = all_hold-parts v (formula_clauses names k f) (clause_of (pos (number names k f) ∷ []) ∷ list_clauses names (taken k f) fs) h in
            let (unit, h2) = and_parts (clause_holds v (clause_of (pos (number names k f) ∷ []))) (all_hold v (list_clauses names (taken k f) fs)) later in
            let r = (says k f over.0).0 h1 in
            let (rs, holds') = rest.0 h2 in
            let holds : holds a f ≡ true = sym (own_value k f over.0 r) ∙ sym (unit-holds (number names k f)) ∙ unit in
            ((reads_after v a k f (all_values a fs)).1 (r, rs), and_from _ _ holds holds'),
        λ (rs, h).
            let (r, later) = (reads_after v a k f (all_values a fs)).0 rs in
            let (holds, holds') = and_parts (holds a f) (holds_all a fs) h in
            let unit : clause_holds v (clause_of (pos (number names k f) ∷ [])) ≡ true = unit-holds (number names k f) ∙ own_value k f over.0 r ∙ holds in
            all_hold-both v (formula_clauses names k f) (clause_of (pos (number names k f) ∷ []) ∷ list_clauses names (taken k f) fs) ((says k f over.0).1 r) (and_from _ _ unit (rest.1 (later, holds'))),
      )

-- ---- the assignment's one extension
-- the variables of the atoms, and then those of the occurrences
worth : List Name → List Name → List Formula → ℕ → Bool
worth names a fs k = get_or (atom_values names a ++ all_values a fs) (k - 1) false

pub extended : (fs : List Formula) (names a : List Name) → AreOver names fs → holds_all a fs ≡ true → (v : ℕ → Bool) × Extends names a v × (all_hold v (list_clauses names (length names) fs) ≡ true)
unfolding worth
extended fs names a over h =
    let v : ℕ → Bool = worth names a fs in
    let (r, r') = (reads_append v 0 (atom_values names a) (all_values a fs)).0 (reads_those [] (atom_values names a ++ all_values a fs)) in
    let n : 0 + length (atom_values names a) ≡ length names = omega (arith, length-map names (λ n. is_in n a)) in
    let extends : Extends names a v = λ n known. atoms_read-first v names a n r known in
    (v, extends, (list_says v names a extends (length names) fs over).1 (subst (λ k. Reads v k (all_values a fs)) n r', h))

pub satisfied : (fs : List Formula) (names a : List Name) (v : ℕ → Bool) → AreOver names fs → Extends names a v → all_hold v (list_clauses names (length names) fs) ≡ true → holds_all a fs ≡ true
satisfied fs names a v over extends h = ((list_says v names a extends (length names) fs over).0 h).1

-- the values of all variables
all_read : (fs : List Formula) (names a : List Name) (v : ℕ → Bool) → AreOver names fs → has_twins names ≡ false → Extends names a v → all_hold v (list_clauses names (length names) fs) ≡ true → Reads v 0 (atom_values names a ++ all_values a fs)
all_read fs names a v over single extends h =
    let n : length names ≡ 0 + length (atom_values names a) = omega (arith, length-map names (λ n. is_in n a)) in
    (reads_append v 0 (atom_values names a) (all_values a fs)).1
    (atoms_in_order-first v names a single extends, subst (λ k. Reads v k (all_values a fs)) n ((list_says v names a extends (length names) fs over).0 h).0)

pub meaning : (fs : List Formula) (names a : List Name) → AreOver names fs → has_twins names ≡ false → IsMeaning names fs a
meaning fs names a over single = record {
  extends = extended fs names a over;
  satisfied = λ v extends h. satisfied fs names a v over extends h;
  only = λ v w extends h extends' h' k some most.
      let n : length (atom_values names a ++ all_values a fs) ≡ taken_by_all (length names) fs =
      omega (arith, length-append (atom_values names a) (all_values a fs), length-map names (λ n. is_in n a), all_values_taken a (length names) fs) in
      reads_same v w 0 (atom_values names a ++ all_values a fs) k (all_read fs names a v over single extends h) (all_read fs names a w over single extends' h') some (omega arith);
}
