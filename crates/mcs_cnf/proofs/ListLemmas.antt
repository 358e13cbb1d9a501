-- The clauses of lists of formulas.
use Rattle.std.proofs.Common.{◌≡◌, ℕ, ◌+◌, ◌<◌, ◌≤◌, List, [], ◌∷◌, ◌++◌, map, length, drop, get_or, refl, sym, ap, ◌∙◌, subst, append_assoc, arith, ℤ, pos}
use Rattle.std.proofs.lemmas.List.{drop_more}
use Rattle.mcs_system.specs.Plain.{Name, Formula}
use Rattle.mcs_system.specs.Seen.{formula_of}
use Rattle.mcs_system.specs.declared.formula.Formula as code
use Rattle.mcs_trace.specs.Clauses.{ClauseList}
use Rattle.mcs_cnf.specs.ClauseLists.{clause_of, taken, number, formula_clauses, taken_by_all, list_clauses, with_formulas, IsOver, AreOver}
use Rattle.mcs_cnf.proofs.NumberLemmas.{taken_grows}

pub taken_append : (k : ℕ) (fs gs : List Formula) → taken_by_all k (fs ++ gs) ≡ taken_by_all (taken_by_all k fs) gs
taken_append k [] gs = refl
taken_append k (f ∷ fs) gs = taken_append (taken k f) fs gs

pub clauses_append : (names : List Name) (k : ℕ) (fs gs : List Formula) → list_clauses names k (fs ++ gs) ≡ list_clauses names k fs ++ list_clauses names (taken_by_all k fs) gs
clauses_append names k [] gs = refl
clauses_append names k (f ∷ fs) gs =
    ap (λ cs. formula_clauses names k f ++ clause_of (pos (number names k f) ∷ []) ∷ cs) (clauses_append names (taken k f) fs gs)
    ∙ sym (append_assoc (formula_clauses names k f) (clause_of (pos (number names k f) ∷ []) ∷ list_clauses names (taken k f) fs) (list_clauses names (taken_by_all (taken k f) fs) gs))

abbrev list_of : ℕ → List (List ℤ) → ClauseList
list_of n cs = record { vars = n; clauses = cs }

-- the clauses of one list of formulas, and then those of another
pub with_append : (names : List Name) (c : ClauseList) (fs gs : List Formula) → with_formulas names (with_formulas names c fs) gs ≡ with_formulas names c (fs ++ gs)
with_append names c fs gs =
    ap (λ n. list_of n ((c.clauses ++ list_clauses names c.vars fs) ++ list_clauses names (taken_by_all c.vars fs) gs)) (sym (taken_append c.vars fs gs))
    ∙ ap (list_of (taken_by_all c.vars (fs ++ gs))) (append_assoc c.clauses (list_clauses names c.vars fs) (list_clauses names (taken_by_all c.vars fs) gs) ∙ ap (λ cs. c.clauses ++ cs) (sym (clauses_append names c.vars fs gs)))

pub all_take_grow : (k : ℕ) (fs : List Formula) → k ≤ taken_by_all k fs
all_take_grow k [] = omega arith
all_take_grow k (f ∷ fs) = omega (arith, taken_grows k f, all_take_grow (taken k f) fs)

-- ---- the code's loop
-- of the formulas from i on
rest : (fs : List code.Formula) (i : ℕ) (f : code.Formula) → i < length fs → f ≡ get_or fs i f → map formula_of (drop i fs) ≡ formula_of f ∷ map formula_of (drop (i + 1) fs)
rest fs i f less is = ap (map formula_of) (drop_more fs i f less) ∙ ap (λ (g : code.Formula). formula_of g ∷ map formula_of (drop (i + 1) fs)) (sym is)

pub rest_over : (names : List Name) (fs : List code.Formula) (i : ℕ) (f : code.Formula) → i < length fs → f ≡ get_or fs i f → AreOver names (map formula_of (drop i fs)) → IsOver names (formula_of f) × AreOver names (map formula_of (drop (i + 1) fs))
rest_over names fs i f less is over = subst (AreOver names) (rest fs i f less is) over

pub rest_pushed : (names : List Name) (c c' : ClauseList) (fs : List code.Formula) (i : ℕ) (f : code.Formula) → i < length fs → f ≡ get_or fs i f → c' ≡ with_formulas names c (formula_of f ∷ [])
    → with_formulas names c' (map formula_of (drop (i + 1) fs)) ≡ with_formulas names c (map formula_of (drop i fs))
rest_pushed names c c' fs i f less is pushed =
    ap (λ (x : ClauseList). with_formulas names x (map formula_of (drop (i + 1) fs))) pushed
    ∙ with_append names c (formula_of f ∷ []) (map formula_of (drop (i + 1) fs))
    ∙ ap (with_formulas names c) (sym (rest fs i f less is))

pub room_kept : (names : List Name) (c c' : ClauseList) (f : Formula) → length names ≤ c.vars → c' ≡ with_formulas names c (f ∷ []) → length names ≤ c'.vars
room_kept names c c' f room pushed = let same : c'.vars ≡ taken c.vars f = ap (λ (x : ClauseList). x.vars) pushed in omega (arith, taken_grows c.vars f)
