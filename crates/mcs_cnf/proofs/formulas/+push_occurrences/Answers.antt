use Rattle.std.proofs.Common.{◌≡◌, ◌+◌, ◌∙◌, ℕ, ap, arith, subst, sym}
use Rattle.std.proofs.lemmas.Result.{IfOk-weaker}
use Rattle.mcs_system.specs.Denials.{denied}
use Rattle.mcs_system.specs.Plain.{Formula, Not}
use Rattle.mcs_system.specs.Seen.{formula_of}
use Rattle.mcs_cnf.specs.ClauseLists.{IsOver, number, taken}
use Rattle.mcs_trace.specs.Clauses.{ClauseList}
use Rattle.mcs_cnf.proofs.DenialLemmas.{denied_least, over_denied, whole_added, whole_number, whole_room}
use Rattle.mcs_cnf.proofs.NumberLemmas.{number_positive, number_within}
use Rattle.mcs_cnf.proofs.formulas.+push_occurrences.Goals as goal

pub push_occurrences-requires : goal.push_occurrences-requires
push_occurrences-requires t c =
    let f : Formula = formula_of c.args.formula.now in
    let g : Formula = formula_of c.deref.result.now in
    let is : f ≡ Not g = ap formula_of c.in-Not.is ∙ ap (λ h. Not (formula_of h)) (sym c.deref.ensures) in (
      let least = denied_least g in let same : taken 0 (formula_of c.args.formula.now) ≡ taken 0 g + 1 = ap (taken 0) is in let below : taken 0 (formula_of c.denied.result.now) ≡ taken 0 (denied g) = ap (taken 0) c.denied.ensures.denied in omega (arith, least, same, below),
      (
        subst (λ h. IsOver c.args.atoms.now h) (sym c.denied.ensures.denied) (over_denied c.args.atoms.now g (subst (λ h. IsOver c.args.atoms.now h) is c.requires.over)),
        c.requires.room,
      ),
    )

pub push_denials-requires : goal.push_denials-requires
push_denials-requires t c =
    let names = c.args.atoms.now in
    let k : ℕ = c.args.cnf.now.vars in
    let g : Formula = formula_of c.deref.result.now in
    let core : Formula = formula_of c.denied.result.now in
    let is : formula_of c.args.formula.now ≡ Not g = ap formula_of c.in-Not.is ∙ ap (λ h. Not (formula_of h)) (sym c.deref.ensures) in
    let over : IsOver names core = subst (λ h. IsOver names h) (sym c.denied.ensures.denied) (over_denied names g (subst (λ h. IsOver names h) is c.requires.over)) in
    let same : c.in_ok-x-in-Not.x ≡ number names k core = c.in_ok-x-in-Not.ensures.number in
    let most : c.push_occurrences.new.cnf.vars ≡ taken k core = ap (λ (l : ClauseList). l.vars) c.in_ok-x-in-Not.ensures.added in
    record { part = (omega (arith, same, number_positive names k core), omega (arith, same, most, number_within names k core over c.requires.room)) }

pub returns-in_ok-x-in-Not-clause-number : goal.returns-in_ok-x-in-Not-clause-number
returns-in_ok-x-in-Not-clause-number t c =
    let f : Formula = formula_of c.args.formula.now in
    let g : Formula = formula_of c.deref.result.now in
    let is : f ≡ Not g = ap formula_of c.in-Not.is ∙ ap (λ h. Not (formula_of h)) (sym c.deref.ensures) in
    IfOk-weaker c.push_denials.result _ _
    (λ n so. whole_number c.args.atoms.now c.args.cnf.now c.push_occurrences.new.cnf f g (formula_of c.denied.result.now) c.in_ok-x-in-Not.x is c.denied.ensures.denied c.in_ok-x-in-Not.ensures.number c.in_ok-x-in-Not.ensures.added n so)
    c.push_denials.ensures.number

pub returns-in_ok-x-in-Not-clause-room : goal.returns-in_ok-x-in-Not-clause-room
returns-in_ok-x-in-Not-clause-room t c =
    let f : Formula = formula_of c.args.formula.now in
    let g : Formula = formula_of c.deref.result.now in
    let is : f ≡ Not g = ap formula_of c.in-Not.is ∙ ap (λ h. Not (formula_of h)) (sym c.deref.ensures) in
    IfOk-weaker c.push_denials.result _ _
    (λ _ so. whole_room c.args.atoms.now c.args.cnf.now c.push_occurrences.new.cnf f g (formula_of c.denied.result.now) c.in_ok-x-in-Not.x is c.denied.ensures.denied c.in_ok-x-in-Not.ensures.number c.in_ok-x-in-Not.ensures.added c.push_denials.new.cnf so c.requires.room)
    c.push_denials.ensures.added

pub returns-in_ok-x-in-Not-clause-added : goal.returns-in_ok-x-in-Not-clause-added
returns-in_ok-x-in-Not-clause-added t c =
    let f : Formula = formula_of c.args.formula.now in
    let g : Formula = formula_of c.deref.result.now in
    let is : f ≡ Not g = ap formula_of c.in-Not.is ∙ ap (λ h. Not (formula_of h)) (sym c.deref.ensures) in
    IfOk-weaker c.push_denials.result _ _
    (λ _ so. whole_added c.args.atoms.now c.args.cnf.now c.push_occurrences.new.cnf f g (formula_of c.denied.result.now) c.in_ok-x-in-Not.x is c.denied.ensures.denied c.in_ok-x-in-Not.ensures.number c.in_ok-x-in-Not.ensures.added c.push_denials.new.cnf so)
    c.push_denials.ensures.added
