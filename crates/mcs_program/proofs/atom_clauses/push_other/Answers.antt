use Rattle.std.proofs.Common.{◌≡◌, ◌≤◌, ◌∙◌, [], ap, sym, subst, map, length}
use Rattle.std.proofs.lemmas.Result.{IfOk-weaker}
use Rattle.std.specs.List.{AllByRecursion}
use Rattle.mcs_system.specs.Plain.{Atom}
use Rattle.mcs_trace.specs.Clauses.{ClauseList}
use Rattle.mcs_cnf.specs.ClauseLists.{with_clause, IsThere}
use Rattle.mcs_evidence.specs.Programs.{other_formula}
use Rattle.mcs_program.specs.Clauses.{other_literals}
use Rattle.mcs_classical.proofs.RefutingLemmas.{none_apart}
use Rattle.mcs_meant.proofs.MeaningLemmas.{adds_clause, clause_apart}
use Rattle.mcs_program.proofs.ClauseLemmas.{other_says, others_there}
use Rattle.mcs_program.proofs.atom_clauses.push_other.Goals as goal

pub push_clause-requires : goal.push_clause-requires
push_clause-requires c =
    let ns = map (λ b. b.now) c.args.program.now.beliefs.now in
    let known : ClauseList = c.args.known.now in
    let room : length c.args.program.now.atoms.now ≤ c.new-more.result.vars = subst (λ (f : ClauseList). length c.args.program.now.atoms.now ≤ f.vars) (sym (none_apart known c.new-more.result c.vars.result c.vars.ensures.value c.new-more.ensures)) c.requires in
    subst (AllByRecursion (IsThere c.new-more.result)) (sym (c.deref.ensures.value ∙ c.in_ok-literals.ensures)) (others_there c.args.program.now.atoms.now c.new-more.result 0 ns c.args.view room c.args.program.now.beliefs_over)

pub returns : goal.returns
returns c =
    let names = c.args.program.now.atoms.now in
    let ns = map (λ b. b.now) c.args.program.now.beliefs.now in
    let known : ClauseList = c.args.known.now in
    let empty : ClauseList = record { vars = known.vars; clauses = [] } in
    let ls = other_literals names 0 ns c.args.view in
    let made : c.push_clause.new.cnf ≡ with_clause empty ls = c.in_ok-push_clause.ensures.ok ∙ ap (λ (f : ClauseList). with_clause f c.deref.result.now) (none_apart known c.new-more.result c.vars.result c.vars.ensures.value c.new-more.ensures) ∙ ap (with_clause empty) (c.deref.ensures.value ∙ c.in_ok-literals.ensures) in
    IfOk-weaker c.add_to.result _ _ (λ _ e. adds_clause names (other_formula (map Atom ns) c.args.view) ls known c.add_to.new.known (clause_apart known c.push_clause.new.cnf c.add_to.new.known ls made e)
    (λ a v extends. other_says v names a extends ns c.args.view c.args.program.now.beliefs_over)) c.add_to.ensures
