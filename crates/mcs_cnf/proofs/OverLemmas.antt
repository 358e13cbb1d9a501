-- Formulas over names, and the names of a context.
use Rattle.std.proofs.Common.{◌≡◌, ℕ, true, false, ◌||◌, List, ◌++◌, ◌↔◌, inl, inr, sym, ap, ◌∙◌, true≢false}
use Rattle.std.proofs.lemmas.Bool.{or_cases}
use Rattle.mcs_system.specs.Plain.{Name, Formula, Truth, Falsity, Atom, Not, Joined, System}
use Rattle.mcs_system.specs.Logic.{same_name, is_in, atoms}
use Rattle.mcs_system.specs.Faults.{has_twins}
use Rattle.mcs_system.specs.Atoms.{first_names, atom_occurrences, atoms_of}
use Rattle.mcs_system.proofs.Sameness.{same_name-is, same_name-itself}
use Rattle.mcs_system.proofs.NameLemmas.{is_in_left, is_in_right, is_in_either, first_names-single, is_in-first_names}
use Rattle.mcs_cnf.specs.ClauseLists.{IsOver}

-- ---- the atoms of formulas
-- each of the first names is one of the others
Among : List Name → List Name → Type 0
Among xs names = (n : Name) → is_in n xs ≡ true → is_in n names ≡ true

among_left : (xs ys names : List Name) → Among (xs ++ ys) names → Among xs names
unfolding Among
among_left xs ys names h n member = h n (is_in_left n xs ys member)

among_right : (xs ys names : List Name) → Among (xs ++ ys) names → Among ys names
unfolding Among
among_right xs ys names h n member = h n (is_in_right n xs ys member)

among_both : (xs ys names : List Name) → Among xs names → Among ys names → Among (xs ++ ys) names
unfolding Among
among_both xs ys names h h' n member = elim (is_in_either n xs ys member) [ inl here ↦ h n here | inr there ↦ h' n there ]

over_of : (names : List Name) (f : Formula) → Among (atoms f) names → IsOver names f
unfolding Among
over_of names Truth h = tt
over_of names Falsity h = tt
over_of names (Atom n) h = h n (ap (λ b. b || false) (same_name-itself n))
over_of names (Not f) h = over_of names f h
over_of names (Joined c f g) h = (over_of names f (among_left (atoms f) (atoms g) names h), over_of names g (among_right (atoms f) (atoms g) names h))

of_over : (names : List Name) (f : Formula) → IsOver names f → Among (atoms f) names
unfolding Among
of_over names Truth over n member = absurd (true≢false (sym member))
of_over names Falsity over n member = absurd (true≢false (sym member))
of_over names (Atom m) over n member = elim (or_cases (same_name n m) false member) [
  | inl same ↦ ap (λ x. is_in x names) (same_name-is n m same) ∙ over
  | inr none ↦ absurd (true≢false (sym none))
]
of_over names (Not f) over n member = of_over names f over n member
of_over names (Joined c f g) over n member = among_both (atoms f) (atoms g) names (of_over names f over.0) (of_over names g over.1) n member

pub over_atoms : (names : List Name) (f : Formula) → IsOver names f ↔ ((n : Name) → is_in n (atoms f) ≡ true → is_in n names ≡ true)
unfolding Among
over_atoms names f = (of_over names f, over_of names f)

pub context_atoms : (m : System) (i : ℕ) → (has_twins (atoms_of m i) ≡ false) × ((f : Formula) → ((n : Name) → is_in n (atoms f) ≡ true → is_in n (atom_occurrences m i) ≡ true) → IsOver (atoms_of m i) f)
unfolding atoms_of Among
context_atoms m i = (
  first_names-single (atom_occurrences m i),
  λ f known. over_of (first_names (atom_occurrences m i)) f (λ n member. is_in-first_names n (atom_occurrences m i) (known n member)),
)
