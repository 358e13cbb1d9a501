-- The occurrences of conjunctions and disjunctions that grow part by part.
use Rattle.std.proofs.Common.{◌≡◌, ℕ, ◌+◌, List, [], ◌∷◌, ◌++◌, refl, sym, ap, ◌∙◌, subst, append_assoc, append-nil, ℤ, pos, Option, Some, None}
use Rattle.std.proofs.lemmas.Option.{same_Some, none-some}
use Rattle.mcs_system.specs.Plain.{Name, Formula, Truth, Falsity, Atom, Not, And, Or, Implies}
use Rattle.mcs_trace.specs.Clauses.{ClauseList}
use Rattle.mcs_cnf.specs.ClauseLists.{clause_of, taken, number, formula_clauses, atom_number, with_formulas, with_clause, not_clauses, and_clauses, or_clauses, implies_clauses, truth_clauses, falsity_clauses, IsAdded}
use Rattle.mcs_cnf.proofs.ListLemmas.{with_append}
use Rattle.mcs_evidence.specs.Programs.{and_from, or_from, conjunction, disjunction}
use Rattle.mcs_evidence.specs.Pushing.{HasOccurrences, HasConjunction, HasDisjunction, IsJoinedPart}

abbrev list_of : ℕ → List (List ℤ) → ClauseList
list_of n cs = record { vars = n; clauses = cs }

-- ---- one occurrence more
pub occ_atom : (names : List Name) (n : Name) (c : ClauseList) → HasOccurrences names (Atom n) c c (atom_number names n)
occ_atom names n c = record { number = refl; added = ap (list_of c.vars) (sym (append-nil c.clauses)) }

pub occ_truth : (names : List Name) (c c' : ClauseList) (n : ℕ) → IsAdded truth_clauses c c' n → HasOccurrences names Truth c c' n
occ_truth names c c' n added = record { number = added.0; added = added.1 }

pub occ_falsity : (names : List Name) (c c' : ClauseList) (n : ℕ) → IsAdded falsity_clauses c c' n → HasOccurrences names Falsity c c' n
occ_falsity names c c' n added = record { number = added.0; added = added.1 }

pub occ_not : (names : List Name) (f : Formula) (old c c' : ClauseList) (x n : ℕ) → HasOccurrences names f old c x → IsAdded (λ n. not_clauses n x) c c' n → HasOccurrences names (Not f) old c' n
occ_not names f old c c' x n h added =
    let t : ℕ = taken old.vars f in
    let fs : List (List ℤ) = formula_clauses names old.vars f in
    record {
      number = added.0 ∙ ap (λ (k : ClauseList). k.vars + 1) h.added;
      added = added.1
          ∙ ap (λ (k : ClauseList). list_of (k.vars + 1) (k.clauses ++ not_clauses (k.vars + 1) x)) h.added
          ∙ ap (λ (y : ℕ). list_of (t + 1) ((old.clauses ++ fs) ++ not_clauses (t + 1) y)) h.number
          ∙ ap (list_of (t + 1)) (append_assoc old.clauses fs (not_clauses (t + 1) (number names old.vars f)));
    }

-- of two parts
two : (own : ℕ → ℕ → ℕ → List (List ℤ)) (names : List Name) (f g : Formula) (old c c' c'' : ClauseList) (x y n : ℕ) → HasOccurrences names f old c x → HasOccurrences names g c c' y → IsAdded (λ n. own n x y) c' c'' n
    → (n ≡ taken (taken old.vars f) g + 1) × (c'' ≡ list_of (taken (taken old.vars f) g + 1)
    (old.clauses ++ ((formula_clauses names old.vars f ++ formula_clauses names (taken old.vars f) g) ++ own (taken (taken old.vars f) g + 1) (number names old.vars f) (number names (taken old.vars f) g))))
two own names f g old c c' c'' x y n h h' added =
    let t : ℕ = taken old.vars f in
    let u : ℕ = taken t g in
    let fs : List (List ℤ) = formula_clauses names old.vars f in
    let gs : List (List ℤ) = formula_clauses names t g in (
      added.0 ∙ ap (λ (k : ClauseList). k.vars + 1) h'.added ∙ ap (λ (k : ClauseList). taken k.vars g + 1) h.added,
      added.1
          ∙ ap (λ (k : ClauseList). list_of (k.vars + 1) (k.clauses ++ own (k.vars + 1) x y)) h'.added
          ∙ ap (λ (z : ℕ). list_of (taken c.vars g + 1) ((c.clauses ++ formula_clauses names c.vars g) ++ own (taken c.vars g + 1) x z)) h'.number
          ∙ ap (λ (k : ClauseList). list_of (taken k.vars g + 1) ((k.clauses ++ formula_clauses names k.vars g) ++ own (taken k.vars g + 1) x (number names k.vars g))) h.added
          ∙ ap (λ (z : ℕ). list_of (u + 1) (((old.clauses ++ fs) ++ gs) ++ own (u + 1) z (number names t g))) h.number
          ∙ ap (list_of (u + 1)) (ap (λ (cs : List (List ℤ)). cs ++ own (u + 1) (number names old.vars f) (number names t g)) (append_assoc old.clauses fs gs)
          ∙ append_assoc old.clauses (fs ++ gs) (own (u + 1) (number names old.vars f) (number names t g))),
    )

pub occ_and : (names : List Name) (f g : Formula) (old c c' c'' : ClauseList) (x y n : ℕ) → HasOccurrences names f old c x → HasOccurrences names g c c' y → IsAdded (λ n. and_clauses n x y) c' c'' n → HasOccurrences names (And f g) old c'' n
occ_and names f g old c c' c'' x y n h h' added = let both = two and_clauses names f g old c c' c'' x y n h h' added in record { number = both.0; added = both.1 }

pub occ_or : (names : List Name) (f g : Formula) (old c c' c'' : ClauseList) (x y n : ℕ) → HasOccurrences names f old c x → HasOccurrences names g c c' y → IsAdded (λ n. or_clauses n x y) c' c'' n → HasOccurrences names (Or f g) old c'' n
occ_or names f g old c c' c'' x y n h h' added = let both = two or_clauses names f g old c c' c'' x y n h h' added in record { number = both.0; added = both.1 }

pub occ_implies : (names : List Name) (f g : Formula) (old c c' c'' : ClauseList) (x y n : ℕ) → HasOccurrences names f old c x → HasOccurrences names g c c' y → IsAdded (λ n. implies_clauses n x y) c' c'' n → HasOccurrences names (Implies f g) old c'' n
occ_implies names f g old c c' c'' x y n h h' added = let both = two implies_clauses names f g old c c' c'' x y n h h' added in record { number = both.0; added = both.1 }

-- and the clause that says that it is true
pub occ_unit : (names : List Name) (f : Formula) (old c c' : ClauseList) (n : ℕ) → HasOccurrences names f old c n → c' ≡ with_clause c (pos n ∷ []) → c' ≡ with_formulas names old (f ∷ [])
occ_unit names f old c c' n h unit =
    let t : ℕ = taken old.vars f in
    let fs : List (List ℤ) = formula_clauses names old.vars f in
    unit
    ∙ ap (λ (k : ClauseList). list_of k.vars (k.clauses ++ clause_of (pos n ∷ []) ∷ [])) h.added
    ∙ ap (λ (m : ℕ). list_of t ((old.clauses ++ fs) ++ clause_of (pos m ∷ []) ∷ [])) h.number
    ∙ ap (list_of t) (append_assoc old.clauses fs (clause_of (pos (number names old.vars f) ∷ []) ∷ []))

-- formulas one by one
pub pushed_more : (names : List Name) (c c' : ClauseList) (f : Formula) (fs : List Formula) → c' ≡ with_formulas names c (f ∷ []) → with_formulas names c' fs ≡ with_formulas names c (f ∷ fs)
pushed_more names c c' f fs pushed = ap (λ (x : ClauseList). with_formulas names x fs) pushed ∙ with_append names c (f ∷ []) fs

-- ---- conjunctions
and_push : (f : Formula) (fs : List Formula) (g : Formula) → and_from f (fs ++ g ∷ []) ≡ And (and_from f fs) g
and_push f [] g = refl
and_push f (h ∷ fs) g = and_push (And f h) fs g

or_push : (f : Formula) (fs : List Formula) (g : Formula) → or_from f (fs ++ g ∷ []) ≡ Or (or_from f fs) g
or_push f [] g = refl
or_push f (h ∷ fs) g = or_push (Or f h) fs g

-- the part alone
alone : (names : List Name) (g : Formula) (start c c' c'' : ClauseList) (x n : ℕ) → c ≡ start → HasOccurrences names g c c' x → n ≡ x → c'' ≡ c' → HasOccurrences names g start c'' n
alone names g start c c' c'' x n e h number same =
    subst (λ (k : ClauseList). HasOccurrences names g k c'' n) e
    (subst (λ (k : ClauseList). HasOccurrences names g c k n) (sym same) (subst (HasOccurrences names g c c') (sym number) h))

pub conjunction_more : (names : List Name) (fs : List Formula) (g : Formula) (start c c' c'' : ClauseList) (o : Option ℕ) (x n : ℕ) → HasConjunction names fs start c o → HasOccurrences names g c c' x → IsJoinedPart and_clauses c' c'' o x n
    → HasConjunction names (fs ++ g ∷ []) start c'' (Some n)
conjunction_more names [] g start c c' c'' o x n h h' joined =
    let both : (n ≡ x) × (c'' ≡ c') = subst (λ (o : Option ℕ). IsJoinedPart and_clauses c' c'' o x n) h.0 joined in
    (n, refl, alone names g start c c' c'' x n h.1 h' both.0 both.1)
conjunction_more names (f ∷ fs) g start c c' c'' o x n h h' joined =
    let added : IsAdded (λ n. and_clauses n h.0 x) c' c'' n = subst (λ (o : Option ℕ). IsJoinedPart and_clauses c' c'' o x n) h.1 joined in
    (n, refl, subst (λ (k : Formula). HasOccurrences names k start c'' n) (sym (and_push f fs g)) (occ_and names (and_from f fs) g start c c' c'' h.0 x n h.2 h' added))

pub disjunction_more : (names : List Name) (fs : List Formula) (g : Formula) (start c c' c'' : ClauseList) (o : Option ℕ) (x n : ℕ) → HasDisjunction names fs start c o → HasOccurrences names g c c' x → IsJoinedPart or_clauses c' c'' o x n
    → HasDisjunction names (fs ++ g ∷ []) start c'' (Some n)
disjunction_more names [] g start c c' c'' o x n h h' joined =
    let both : (n ≡ x) × (c'' ≡ c') = subst (λ (o : Option ℕ). IsJoinedPart or_clauses c' c'' o x n) h.0 joined in
    (n, refl, alone names g start c c' c'' x n h.1 h' both.0 both.1)
disjunction_more names (f ∷ fs) g start c c' c'' o x n h h' joined =
    let added : IsAdded (λ n. or_clauses n h.0 x) c' c'' n = subst (λ (o : Option ℕ). IsJoinedPart or_clauses c' c'' o x n) h.1 joined in
    (n, refl, subst (λ (k : Formula). HasOccurrences names k start c'' n) (sym (or_push f fs g)) (occ_or names (or_from f fs) g start c c' c'' h.0 x n h.2 h' added))

-- the whole
pub conjunction_some : (names : List Name) (fs : List Formula) (start c : ClauseList) (n : ℕ) → HasConjunction names fs start c (Some n) → HasOccurrences names (conjunction fs) start c n
conjunction_some names [] start c n h = absurd (none-some n (sym h.0))
conjunction_some names (f ∷ fs) start c n h = subst (HasOccurrences names (and_from f fs) start c) (same_Some h.0 n (sym h.1)) h.2

pub conjunction_none : (names : List Name) (fs : List Formula) (start c c' : ClauseList) (n : ℕ) → HasConjunction names fs start c None → IsAdded truth_clauses c c' n → HasOccurrences names (conjunction fs) start c' n
conjunction_none names [] start c c' n h added = subst (λ (k : ClauseList). HasOccurrences names Truth k c' n) h.1 (occ_truth names c c' n added)
conjunction_none names (f ∷ fs) start c c' n h added = absurd (none-some h.0 h.1)

pub disjunction_some : (names : List Name) (fs : List Formula) (start c : ClauseList) (n : ℕ) → HasDisjunction names fs start c (Some n) → HasOccurrences names (disjunction fs) start c n
disjunction_some names [] start c n h = absurd (none-some n (sym h.0))
disjunction_some names (f ∷ fs) start c n h = subst (HasOccurrences names (or_from f fs) start c) (same_Some h.0 n (sym h.1)) h.2

pub disjunction_none : (names : List Name) (fs : List Formula) (start c c' : ClauseList) (n : ℕ) → HasDisjunction names fs start c None → IsAdded falsity_clauses c c' n → HasOccurrences names (disjunction fs) start c' n
disjunction_none names [] start c c' n h added = subst (λ (k : ClauseList). HasOccurrences names Falsity k c' n) h.1 (occ_falsity names c c' n added)
disjunction_none names (f ∷ fs) start c c' n h added = absurd (none-some h.0 h.1)

-- ---- the code's loops
-- of the formulas that are to be joined, these are left
pub record IsJoining (has : List Formula → Option ℕ → Type 0) (target rest : List Formula) (o : Option ℕ) : Type 0 where
  pub so_far : List Formula
  pub is : so_far ++ rest ≡ target
  pub joined : has so_far o

pub joining_begin : (has : List Formula → Option ℕ → Type 0) (fs rest : List Formula) (o : Option ℕ) → has fs o → IsJoining has (fs ++ rest) rest o
joining_begin has fs rest o h = record { so_far = fs; is = refl; joined = h }

pub joining_end : (has : List Formula → Option ℕ → Type 0) (target rest : List Formula) (o : Option ℕ) → rest ≡ [] → IsJoining has target rest o → has target o
joining_end has target rest o none j =
    subst (λ (fs : List Formula). has fs o) (sym (append-nil j.so_far) ∙ ap (λ (fs : List Formula). j.so_far ++ fs) (sym none) ∙ j.is) j.joined

pub conjoining : (names : List Name) (target rest rest' : List Formula) (g : Formula) (start c c' c'' : ClauseList) (o : Option ℕ) (x n : ℕ) → rest ≡ g ∷ rest' → IsJoining (λ fs o. HasConjunction names fs start c o) target rest o
    → HasOccurrences names g c c' x → IsJoinedPart and_clauses c' c'' o x n → IsJoining (λ fs o. HasConjunction names fs start c'' o) target rest' (Some n)
conjoining names target rest rest' g start c c' c'' o x n next j h joined = record {
  so_far = j.so_far ++ g ∷ [];
  is = append_assoc j.so_far (g ∷ []) rest' ∙ ap (λ (fs : List Formula). j.so_far ++ fs) (sym next) ∙ j.is;
  joined = conjunction_more names j.so_far g start c c' c'' o x n j.joined h joined;
}

pub disjoining : (names : List Name) (target rest rest' : List Formula) (g : Formula) (start c c' c'' : ClauseList) (o : Option ℕ) (x n : ℕ) → rest ≡ g ∷ rest' → IsJoining (λ fs o. HasDisjunction names fs start c o) target rest o
    → HasOccurrences names g c c' x → IsJoinedPart or_clauses c' c'' o x n → IsJoining (λ fs o. HasDisjunction names fs start c'' o) target rest' (Some n)
disjoining names target rest rest' g start c c' c'' o x n next j h joined = record {
  so_far = j.so_far ++ g ∷ [];
  is = append_assoc j.so_far (g ∷ []) rest' ∙ ap (λ (fs : List Formula). j.so_far ++ fs) (sym next) ∙ j.is;
  joined = disjunction_more names j.so_far g start c c' c'' o x n j.joined h joined;
}
