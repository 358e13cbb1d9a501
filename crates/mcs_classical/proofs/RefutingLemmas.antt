-- An assignment of variables, read as a set of places of atoms, is a model of formulas, and refutes that another one follows.
use Rattle.std.proofs.Common.{◌≡◌, ℕ, ◌+◌, ◌-◌, ◌<◌, zero, suc, Bool, true, false, not, ◌&&◌, ◌||◌, ltb, cond, List, [], ◌∷◌, ◌++◌, length, get_or, arith, refl, sym, ap, ◌∙◌, subst, true≢false}
use Rattle.std.proofs.lemmas.Bool.{and_parts, and_from, or_parts, not_from_false, true_from_ne_false}
use Rattle.std.proofs.lemmas.Bool.Decides.{nat_tests}
use Rattle.mcs_sets.specs.Sets.{has, such_that}
use Rattle.mcs_sets.proofs.SetLemmas.{has-such_that}
use Rattle.mcs_system.specs.Plain.{Name, Formula, Not}
use Rattle.mcs_system.specs.Logic.{same_name, is_in, holds, holds_all, true_names, Entails}
use Rattle.mcs_system.specs.Faults.{has_twins}
use Rattle.mcs_system.proofs.Sameness.{same_name-is}
use Rattle.mcs_trace.specs.Clauses.{ClauseList, IsUnsatisfiable, all_hold}
use Rattle.mcs_trace.specs.Traces.{Inference, IsAcceptedTrace}
use Rattle.mcs_cnf.specs.ClauseLists.{atom_number, with_formulas, clause_list, IsOver, AreOver}
use Rattle.mcs_cnf.specs.Meaning.{Extends}
use Rattle.mcs_cnf.specs.Entailments.{with_negated, IsModelAt, IsRefuted}
use Rattle.mcs_cnf.proofs.NumberLemmas.{atom_positive, atom_within}
use Rattle.mcs_cnf.proofs.GrowingLemmas.{grown_clauses}
use Rattle.mcs_cnf.proofs.MeaningLemmas.{satisfied}
use Rattle.mcs_cnf.proofs.EntailmentLemmas.{over_with, parts_with}
use Rattle.mcs_meant.specs.Meanings.{AreMeantBy}
use Rattle.mcs_meant.proofs.MeaningLemmas.{last_too}
use Rattle.mcs_sat.specs.Answers.{assignment_of}

-- ---- the names at places
not_named : (n : Name) (k s : ℕ) (names : List Name) → is_in n names ≡ false → is_in n (true_names k names s) ≡ false
not_named n k s [] none = refl
not_named n k s (m ∷ names) none = let (other, none') = or_parts (same_name n m) (is_in n names) none in at (has s k) other (not_named n (k + 1) s names none')
  where
    at : (b : Bool) → same_name n m ≡ false → is_in n (true_names (k + 1) names s) ≡ false → is_in n (cond b (m ∷ true_names (k + 1) names s) (true_names (k + 1) names s)) ≡ false
    at true other rest = rw other rest
    at false other rest = rest

pub named_at : (n : Name) (k s j : ℕ) (names : List Name) → has_twins names ≡ false → is_in n names ≡ true → atom_number names n ≡ j + 1 → is_in n (true_names k names s) ≡ has s (k + j)
named_at n k s j [] single known at = absurd (true≢false (sym known))
named_at n k s j (m ∷ names) single known number =
    let (apart, single') = or_parts (is_in m names) (has_twins names) single in
    here apart (same_name n m) refl known number (λ known less e. named_at n (k + 1) s (j - 1) names single' known e)
  where
    first : (b : Bool) → has s k ≡ b → is_in m names ≡ false → same_name n m ≡ true → is_in n (cond b (m ∷ true_names (k + 1) names s) (true_names (k + 1) names s)) ≡ b
    first true e apart same = rw same refl
    first false e apart same = not_named n (k + 1) s names (ap (λ x. is_in x names) (same_name-is n m same) ∙ apart)

    skipped : (b : Bool) → same_name n m ≡ false → is_in n (cond b (m ∷ true_names (k + 1) names s) (true_names (k + 1) names s)) ≡ is_in n (true_names (k + 1) names s)
    skipped true other = rw other refl
    skipped false other = refl

    here : is_in m names ≡ false → (b : Bool) → same_name n m ≡ b → (b || is_in n names) ≡ true → cond b 1 (atom_number names n + 1) ≡ j + 1
        → (is_in n names ≡ true → 0 < j → atom_number names n ≡ (j - 1) + 1 → is_in n (true_names (k + 1) names s) ≡ has s (k + 1 + (j - 1)))
        → is_in n (cond (has s k) (m ∷ true_names (k + 1) names s) (true_names (k + 1) names s)) ≡ has s (k + j)
    here apart true same known number rest = let e : k ≡ k + j = omega arith in first (has s k) refl apart same ∙ ap (has s) e
    here apart false other known number rest =
        let some : 0 < j = omega (arith, atom_positive names n) in
        let e : atom_number names n ≡ (j - 1) + 1 = omega arith in
        let e' : k + 1 + (j - 1) ≡ k + j = omega arith in
        skipped (has s k) other ∙ rest known some e ∙ ap (has s) e'

-- the places of the atoms whose values are true
abbrev pub places : List Name → List Bool → ℕ
places names values = such_that (length names) (λ k. get_or values k false)

pub places_extend : (names : List Name) (values : List Bool) → has_twins names ≡ false → Extends names (true_names 0 names (places names values)) (assignment_of values)
places_extend names values single n known = at (atom_number names n) refl
  where
    s : ℕ
    s = places names values

    at : (m : ℕ) → atom_number names n ≡ m → assignment_of values (atom_number names n) ≡ is_in n (true_names 0 names (places names values))
    at zero e = absurd (omega (arith, atom_positive names n))
    at (suc j) e =
        let number : atom_number names n ≡ j + 1 = omega arith in
        let less : ltb j (length names) ≡ true = let bound : j < length names = omega (arith, atom_within names n known) in grind (arith, nat_tests) in
        let z : j ≡ 0 + j = omega arith in
        let member : has (places names values) (0 + j) ≡ get_or values j false =
        ap (has (places names values)) (sym z) ∙ has-such_that (length names) (λ k. get_or values k false) j ∙ ap (λ b. b && get_or values j false) less in
        ap (assignment_of values) e ∙ sym member ∙ sym (named_at n 0 (places names values) j names single known number)

-- ---- models
places_within : (names : List Name) (values : List Bool) (k : ℕ) → has (places names values) k ≡ true → k < length names
places_within names values k member =
    let less : ltb k (length names) ≡ true = (and_parts _ _ (sym (has-such_that (length names) (λ k. get_or values k false) k) ∙ member)).0 in
    grind (arith, nat_tests)

pub modelled : (names : List Name) (fs : List Formula) (values read : List Bool) (s : ℕ) → has_twins names ≡ false → ((a : List Name) → Extends names a (assignment_of values) → holds_all a fs ≡ true) → read ≡ values
    → s ≡ places names read → IsModelAt names fs s
modelled names fs values read s single meant same e =
    subst (IsModelAt names fs) (sym (e ∙ ap (places names) same)) (record {
      in_range = places_within names values;
      formulas = meant (true_names 0 names (places names values)) (places_extend names values single);
    })

-- of the clauses of formulas
pub modelled_clauses : (names : List Name) (fs : List Formula) (cnf : ClauseList) (values : List Bool) → AreOver names fs → cnf ≡ clause_list names fs → all_hold (assignment_of values) cnf.clauses ≡ true
    → (a : List Name) → Extends names a (assignment_of values) → holds_all a fs ≡ true
modelled_clauses names fs cnf values over is h a extends = satisfied fs names a (assignment_of values) over extends (ap (λ (x : ClauseList). all_hold (assignment_of values) x.clauses) (sym is) ∙ h)

pub refuted : (fs : List Formula) (g : Formula) (names : List Name) (values : List Bool) → has_twins names ≡ false → AreOver names fs → IsOver names g
    → all_hold (assignment_of values) (clause_list names (with_negated fs g)).clauses ≡ true → IsRefuted names fs g (places names values)
refuted fs g names values single over over' h =
    let a : List Name = true_names 0 names (places names values) in
    let parts = parts_with a fs g (satisfied (with_negated fs g) names a (assignment_of values) (over_with names fs g over over') (places_extend names values single) h) in
    record { model = record { in_range = places_within names values; formulas = parts.0 }; goal = parts.1 }

-- ---- the goal's clauses after those of the formulas
pub with_goal : (fs : List Formula) (g : Formula) (names : List Name) (known new : ClauseList) → known ≡ clause_list names fs → new ≡ with_formulas names known (Not g ∷ []) → new ≡ clause_list names (with_negated fs g)
with_goal fs g names known new is pushed = grown_clauses names known new (Not g ∷ [], pushed) fs is

-- ---- what the search answers
pub answer_no : (fs : List Formula) (g : Formula) (names : List Name) (known new : ClauseList) (values read : List Bool) (s : ℕ) → known ≡ clause_list names fs → new ≡ with_formulas names known (Not g ∷ [])
    → has_twins names ≡ false → AreOver names fs → IsOver names g → all_hold (assignment_of values) new.clauses ≡ true → read ≡ values → s ≡ places names read → IsRefuted names fs g s
answer_no fs g names known new values read s is pushed single over over' h same e =
    let all : all_hold (assignment_of values) (clause_list names (with_negated fs g)).clauses ≡ true = ap (λ (x : ClauseList). all_hold (assignment_of values) x.clauses) (sym (with_goal fs g names known new is pushed)) ∙ h in
    subst (IsRefuted names fs g) (sym (e ∙ ap (places names) same)) (refuted fs g names values single over over' all)

pub answer_yes : (fs : List Formula) (g : Formula) (names : List Name) (known new : ClauseList) (steps : List Inference) → known ≡ clause_list names fs → new ≡ with_formulas names known (Not g ∷ [])
    → IsAcceptedTrace new.clauses steps → IsAcceptedTrace (clause_list names (with_negated fs g)).clauses steps
answer_yes fs g names known new steps is pushed accepted = subst (λ (x : ClauseList). IsAcceptedTrace x.clauses steps) (with_goal fs g names known new is pushed) accepted

-- of clauses that mean the formulas and the negated goal
pub meant_no : (fs : List Formula) (g : Formula) (names : List Name) (new : ClauseList) (values read : List Bool) (s : ℕ) → has_twins names ≡ false → AreMeantBy names (with_negated fs g) new → all_hold (assignment_of values) new.clauses ≡ true → read ≡ values → s ≡ places names read
    → IsRefuted names fs g s
meant_no fs g names new values read s single meant h same e =
    let model : IsModelAt names (with_negated fs g) s = modelled names (with_negated fs g) values read s single (λ a extends. meant.satisfied a (assignment_of values) extends h) same e in
    let parts = parts_with (true_names 0 names s) fs g model.formulas in
    record { model = record { in_range = model.in_range; formulas = parts.0 }; goal = parts.1 }

pub meant_yes : (fs : List Formula) (g : Formula) (names : List Name) (new : ClauseList) → AreMeantBy names (with_negated fs g) new → IsUnsatisfiable new.clauses → Entails fs g
meant_yes fs g names new meant none a h = true_from_ne_false (holds a g) (λ out.
    let (v, extends, all) = meant.extends a (last_too a fs (Not g) ∙ and_from (holds_all a fs) (not (holds a g)) h (not_from_false (holds a g) out)) in
    none v all)

-- ---- clauses that are made apart
pub formulas_apart : (names : List Name) (fs : List Formula) (known more new : ClauseList) → more ≡ with_formulas names (record { vars = known.vars; clauses = [] }) fs → new ≡ record { vars = more.vars; clauses = known.clauses ++ more.clauses } → new ≡ with_formulas names known fs
formulas_apart names fs known more new made added = added ∙ ap (λ (m : ClauseList). (let g : ClauseList = record { vars = m.vars; clauses = known.clauses ++ m.clauses } in g)) made

-- no clauses, over the variables of a list
pub none_apart : (known empty : ClauseList) (n : ℕ) → n ≡ known.vars → empty ≡ record { vars = n; clauses = [] } → empty ≡ record { vars = known.vars; clauses = [] }
none_apart known empty n value is = is ∙ ap (λ (m : ℕ). (let f : ClauseList = record { vars = m; clauses = [] } in f)) value
