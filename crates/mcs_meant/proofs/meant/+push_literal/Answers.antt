use Rattle.std.proofs.Common.{◌≡◌, ◌+◌, ◌∙◌, ◌≤◌, List, length, ap, arith, pos, subst, sym}
use Rattle.std.proofs.lemmas.Grind.{common_steps}
use Rattle.std.proofs.lemmas.Result.{IfOk-weaker}
use Rattle.mcs_system.specs.Denials.{denied}
use Rattle.mcs_system.specs.Logic.{holds}
use Rattle.mcs_system.specs.Plain.{Name, Formula, Atom, Not}
use Rattle.mcs_system.specs.Seen.{formula_of}
use Rattle.mcs_cnf.specs.ClauseLists.{IsOver, atom_number, taken}
use Rattle.mcs_cnf.proofs.DenialLemmas.{denied_least, over_denied}
use Rattle.mcs_cnf.proofs.NumberLemmas.{atom_within}
use Rattle.mcs_meant.specs.Literals.{sign_of}
use Rattle.mcs_meant.proofs.LiteralLemmas.{handed_fits, handed_there, handed_literal, true_literal, false_literal, atom_literal, denial_literal, sign_literal}
use Rattle.mcs_meant.proofs.meant.+push_literal.Goals as goal

known_within : (names : List Name) (f : Formula) (n : Name) → f ≡ Atom n → IsOver names f → atom_number names n ≤ length names
known_within names f n is over = atom_within names n (subst (IsOver names) is over)

pub returns-in-True : goal.returns-in-True
returns-in-True t c = IfOk-weaker c.push_true.result _ _ (λ l gate. true_literal c.args.atoms.now (formula_of c.args.formula.now) c.args.cnf.now c.push_true.new.cnf l (ap formula_of c.in-True.is) c.requires.room gate) c.push_true.ensures

pub opposite-requires : goal.opposite-requires
opposite-requires t c = handed_fits c.in_ok-push_true-in-False.field-0 c.in_ok-push_true-in-False.ensures.fits

pub returns-in_ok-push_true-in-False : goal.returns-in_ok-push_true-in-False
returns-in_ok-push_true-in-False t c =
    handed_literal (false_literal c.args.atoms.now (formula_of c.args.formula.now) c.args.cnf.now c.push_true-in-False.new.cnf c.in_ok-push_true-in-False.field-0 c.opposite.result (ap formula_of c.in-False.is) c.requires.room c.opposite.ensures c.in_ok-push_true-in-False.ensures)

pub literal-requires : goal.literal-requires
literal-requires t c = omega (arith, c.atom_number.ensures, known_within c.args.atoms.now (formula_of c.args.formula.now) c.in-Atom.name (ap formula_of c.in-Atom.is) c.requires.over, c.requires.room, c.vars.ensures.kept.0)

pub returns-in-Atom : goal.returns-in-Atom
returns-in-Atom t c =
    let is : formula_of c.args.formula.now ≡ Atom c.in-Atom.name = ap formula_of c.in-Atom.is in
    handed_literal (atom_literal c.args.atoms.now (formula_of c.args.formula.now) c.args.cnf.now c.in-Atom.name c.literal.result is c.vars.ensures.kept c.requires.room (subst (IsOver c.args.atoms.now) is c.requires.over) (c.literal.ensures ∙ ap pos c.atom_number.ensures))

pub push_literal-requires : goal.push_literal-requires
push_literal-requires t c =
    let f : Formula = formula_of c.args.formula.now in
    let g : Formula = formula_of c.deref.result.now in
    let is : f ≡ Not g = ap formula_of c.in-Not.is ∙ ap (λ h. Not (formula_of h)) (sym c.deref.ensures) in (
      let least = denied_least g in let same : taken 0 (formula_of c.args.formula.now) ≡ taken 0 g + 1 = ap (taken 0) is in let below : taken 0 (formula_of c.denied.result.now) ≡ taken 0 (denied g) = ap (taken 0) c.denied.ensures.denied in omega (arith, least, same, below),
      (
        subst (λ h. IsOver c.args.atoms.now h) (sym c.denied.ensures.denied) (over_denied c.args.atoms.now g (subst (λ h. IsOver c.args.atoms.now h) is c.requires.over)),
        c.requires.room,
      ),
    )

pub turned-requires : goal.turned-requires
turned-requires t c = handed_fits c.in_ok-x-in-Not.x c.in_ok-x-in-Not.ensures.fits

pub returns-in_ok-x-in-Not : goal.returns-in_ok-x-in-Not
returns-in_ok-x-in-Not t c =
    let g : Formula = formula_of c.deref.result.now in
    let is : formula_of c.args.formula.now ≡ Not g = ap formula_of c.in-Not.is ∙ ap (λ h. Not (formula_of h)) (sym c.deref.ensures) in
    handed_literal (denial_literal c.args.atoms.now (formula_of c.args.formula.now) g (formula_of c.denied.result.now) c.args.cnf.now c.push_literal.new.cnf c.in_ok-x-in-Not.x c.turned.result is c.denied.ensures.denied c.in_ok-x-in-Not.ensures c.turned.ensures)

pub push_sign-requires : goal.push_sign-requires
push_sign-requires t c = record {
  left = handed_there c.push_literal-in-And-2.new.cnf c.in_ok-x-in-And.x c.in_ok-x-in-And.ensures.fits (c.in_ok-x-in-And.ensures.there.0, omega (arith, c.in_ok-x-in-And.ensures.there.1, c.in_ok-y-in-And.ensures.grows));
  right = handed_there c.push_literal-in-And-2.new.cnf c.in_ok-y-in-And.y c.in_ok-y-in-And.ensures.fits c.in_ok-y-in-And.ensures.there;
}

pub returns-in_ok-y-in-And : goal.returns-in_ok-y-in-And
returns-in_ok-y-in-And t c =
    let f : Formula = formula_of c.args.formula.now in
    let g : Formula = formula_of c.in-And.g.value in
    let h : Formula = formula_of c.in-And.h.value in
    let whole : (a : List Name) → holds a f ≡ sign_of f (holds a g) (holds a h) = λ a. grind (arith, common_steps) in
    IfOk-weaker c.push_sign.result _ _
    (λ l gate. sign_literal c.args.atoms.now f g h c.args.cnf.now c.push_literal-in-And.new.cnf c.push_literal-in-And-2.new.cnf c.push_sign.new.cnf c.in_ok-x-in-And.x c.in_ok-y-in-And.y l whole c.requires.room
    (rw c.deref-in-And.ensures at c.in_ok-x-in-And.ensures) (rw c.deref-in-And-2.ensures at c.in_ok-y-in-And.ensures) gate)
    c.push_sign.ensures
