-- How a model of what is known is made small.
use Rattle.std.proofs.Common.{◌≡◌, ℕ, ◌<◌, Bool, true, false, not, ◌&&◌, ◌||◌, cond, List, [], ◌∷◌, ◌⊎◌, inl, inr, map, filter, length, refl, sym, ap, ◌∙◌}
use Rattle.std.proofs.lemmas.Bool.{false_from_ne_true, cases_eq, eq-eqb, eqb-true}
use Rattle.std.specs.Prelude.{nat_eq}
use Rattle.std.specs.List.{AllByRecursion, list_all}
use Rattle.mcs_sets.specs.Sets.{has, single, minus}
use Rattle.mcs_sets.proofs.Lattice.{in_minus}
use Rattle.mcs_base.proofs.Each.{all_from_among}
use Rattle.mcs_system.specs.Plain.{Name, Formula, Atom, ProgramRule}
use Rattle.mcs_system.specs.Logic.{holds, holds_all, is_in, true_names, Atoms}
use Rattle.mcs_system.specs.Views.{Shows}
use Rattle.mcs_system.proofs.NameLemmas.{is_in-among}
use Rattle.mcs_cnf.specs.Entailments.{IsModelAt}
use Rattle.mcs_evidence.specs.Programs.{other_formula, is_broken_by, AreAtomsOf}
use Rattle.mcs_evidence.specs.Pushing.{AreNamesOf}
use Rattle.mcs_evidence.proofs.Models.{any_in, own_state, other_state}
use Rattle.mcs_program.proofs.SearchLemmas.{atoms_of_names}

-- ---- smaller sets
pub blocked_value : (a x : List Name) (rules : List ProgramRule) → list_all (λ (r : ProgramRule). any_in a r.neg) (filter (is_broken_by x) rules) ≡ list_all (λ (r : ProgramRule). not (is_broken_by x r) || any_in a r.neg) rules
blocked_value a x [] = refl
blocked_value a x (r ∷ rules) = at (is_broken_by x r) (blocked_value a x rules)
  where
    at : (v : Bool) → list_all (λ (r : ProgramRule). any_in a r.neg) (filter (is_broken_by x) rules) ≡ list_all (λ (r : ProgramRule). not (is_broken_by x r) || any_in a r.neg) rules
        → list_all (λ (r : ProgramRule). any_in a r.neg) (cond v (r ∷ filter (is_broken_by x) rules) (filter (is_broken_by x) rules)) ≡ ((not v || any_in a r.neg) && list_all (λ (r : ProgramRule). not (is_broken_by x r) || any_in a r.neg) rules)
    at true e = ap (λ b. any_in a r.neg && b) e
    at false e = e

-- ---- views
-- each of the views has beliefs alone
abbrev pub IsLow : List Formula → List ℕ → Type 0
IsLow beliefs views = AllByRecursion (λ state. (j : ℕ) → has state j ≡ true → j < length beliefs) views

names_of_themselves : (ns : List Name) → AreNamesOf ns ns
names_of_themselves ns = all_from_among (λ (n : Name). is_in n ns ≡ true) ns (λ n h. (is_in-among n ns).1 h)

pub others_value : (a ns : List Name) (own : ℕ) (views : List ℕ) → Shows (Atoms a) (map Atom ns) own → AllByRecursion (λ state. (j : ℕ) → has state j ≡ true → j < length (map Atom ns)) views
    → list_all (λ v. not (nat_eq v own)) views ≡ holds_all a (map (other_formula (map Atom ns)) views)
others_value a ns own [] shows low = refl
others_value a ns own (v ∷ views) shows low = ap (λ b. b && list_all (λ v. not (nat_eq v own)) views) (here (cases_eq v own)) ∙ ap (λ b. holds a (other_formula (map Atom ns) v) && b) (others_value a ns own views shows low.1)
  where
    atoms : AreAtomsOf ns (map Atom ns)
    atoms = atoms_of_names ns ns (names_of_themselves ns)

    here : (v ≡ own) ⊎ ¬ (v ≡ own) → not (nat_eq v own) ≡ holds a (other_formula (map Atom ns) v)
    here (inl same) = ap not (eq-eqb v own same) ∙ sym (ap (λ s. holds a (other_formula (map Atom ns) s)) same ∙ own_state ns a (map Atom ns) own atoms shows)
    here (inr differ) = ap not (false_from_ne_true (nat_eq v own) (λ h. differ (eqb-true v own h))) ∙ sym (other_state ns a (map Atom ns) own v atoms shows low.0 (λ e. differ (sym e)))

-- ---- what is left of a model
pub without_place : (names : List Name) (fs : List Formula) (model k less : ℕ) → less ≡ minus model (single k) → IsModelAt names fs model → holds_all (true_names 0 names less) fs ≡ true → IsModelAt names fs less
without_place names fs model k less e is h = record {
  in_range = λ j member. is.in_range j (in_minus model (single k) j (ap (λ s. has s j) (sym e) ∙ member)).0;
  formulas = h;
}
