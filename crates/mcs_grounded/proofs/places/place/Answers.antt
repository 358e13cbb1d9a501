use Rattle.std.proofs.Common.{◌≡◌, ◌∙◌, [], ◌∷◌, refl, sym, ap, subst, true≢false}
use Rattle.mcs_sets.specs.Sets.{single, union}
use Rattle.mcs_system.specs.Faults.{is_atom}
use Rattle.mcs_system.specs.Plain.{Name, Atom}
use Rattle.mcs_system.specs.Seen.{formula_of}
use Rattle.mcs_system.specs.declared.formula.Formula as code
use Rattle.mcs_cnf.specs.ClauseLists.{IsOver}
use Rattle.mcs_program.specs.Placing.{ArePlaces}
use Rattle.mcs_program.proofs.PlaceLemmas.{no_places, more_places}
use Rattle.mcs_grounded.proofs.places.place.Goals as goal

no_atom : (f : code.Formula) (n : Name) → ((x : Name) → ¬ (f ≡ code.Atom x)) → ¬ (formula_of f ≡ Atom n)
no_atom (code.Atom x) n other is = other x refl
no_atom f n other is = true≢false (sym (ap is_atom is))

pub place_of-requires-clause-over : goal.place_of-requires-clause-over
place_of-requires-clause-over c = subst (IsOver c.args.atoms.now) (ap formula_of c.in-Atom.is) c.requires.over

pub returns-in-Atom : goal.returns-in-Atom
returns-in-Atom c n is =
    let e : Atom c.in-Atom.name ≡ Atom n = sym (ap formula_of c.in-Atom.is) ∙ is in
    let same : c.in-Atom.name ≡ n = cc in
    subst (λ (x : Name). ArePlaces c.args.atoms.now (x ∷ []) c.with.result) same
    (more_places c.args.atoms.now [] c.in-Atom.name c.place_of.result 0 c.with.result c.place_of.ensures (c.with.ensures ∙ ap (λ x. union x (single c.place_of.result)) c.empty.ensures) (no_places c.args.atoms.now 0 refl))

pub returns-in_default : goal.returns-in_default
returns-in_default c n is = absurd (no_atom c.args.formula.now n c.in_default.not-Atom is)
