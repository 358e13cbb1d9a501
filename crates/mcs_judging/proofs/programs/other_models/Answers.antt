use Rattle.std.proofs.Common.{ℕ, List, ap, ◌∙◌, subst}
use Rattle.std.proofs.lemmas.Bool.{iff_false}
use Rattle.mcs_cnf.specs.ClauseLists.{clause_list}
use Rattle.mcs_evidence.specs.Programs.{rest_formulas}
use Rattle.mcs_asked.specs.Questions.{program_rules, program_beliefs}
use Rattle.mcs_judging.specs.Programs.{MayBeShown}
use Rattle.mcs_judging.proofs.ProgramLemmas.{none_to_complete, not_to_complete, to_complete}
use Rattle.mcs_judging.proofs.programs.other_models.Goals as goal

pub returns-in_default : goal.returns-in_default
returns-in_default c = λ rest. none_to_complete c.args.program.now c.args.smaller.now c.args.shown.now rest c.in_default.is

pub returns-then-not-may_be_shown : goal.returns-then-not-may_be_shown
returns-then-not-may_be_shown c = λ rest.
    not_to_complete c.args.program.now c.args.smaller.now c.args.shown.now rest c.in-Some.views c.in-Some.is
    (subst (λ (vs : List ℕ). ¬ MayBeShown c.args.program.now.atoms.now c.args.smaller.now vs) c.deref.ensures.value (iff_false c.may_be_shown.ensures c.if-not-may_be_shown.true))

pub returns : goal.returns
returns c = λ rest.
    let p = c.args.program.now in
    to_complete p c.args.smaller.now c.args.shown.now rest c.in-Some.views c.in-Some.is c.in_ok-clauses.clauses
    (subst (λ (vs : List ℕ). MayBeShown p.atoms.now c.args.smaller.now vs) c.deref.ensures.value (c.may_be_shown.ensures.0 c.if-not-may_be_shown.false))
    (c.in_ok-clauses.ensures ∙ ap (λ (vs : List ℕ). clause_list p.atoms.now (rest_formulas p.atoms.now (program_rules p) (program_beliefs p) c.args.smaller.now vs)) c.deref-2.ensures.value)
