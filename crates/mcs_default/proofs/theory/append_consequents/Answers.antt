use Rattle.std.proofs.Common.{◌≡◌, ◌∙◌, [], List, map, ap}
use Rattle.std.proofs.lemmas.Result.{on_ok_weaker}
use Rattle.mcs_system.specs.Plain.{Formula}
use Rattle.mcs_system.specs.Seen.{default_of}
use Rattle.mcs_trace.specs.Clauses.{ClauseList}
use Rattle.mcs_cnf.specs.ClauseLists.{with_formulas}
use Rattle.mcs_cnf.proofs.GrowingLemmas.{grown_fewer}
use Rattle.mcs_classical.proofs.RefutingLemmas.{formulas_apart, none_apart}
use Rattle.mcs_grounding.specs.Theories.{consequents}
use Rattle.mcs_default.proofs.theory.append_consequents.Goals as goal

pub append-added-requires : goal.append-added-requires
append-added-requires c =
    let known : ClauseList = c.args.known.now in
    let empty : ClauseList = record { vars = known.vars; clauses = [] } in
    let fs : List Formula = consequents (map (λ d. default_of d.now) c.args.theory.now.defaults.now) c.args.set in
    let made : c.push_consequents.new.known ≡ with_formulas c.args.theory.now.asked.now.atoms.now empty fs = c.in_ok-push_consequents.ensures ∙ ap (λ (g : ClauseList). with_formulas c.args.theory.now.asked.now.atoms.now g fs) (none_apart known c.new-more.result c.vars.result c.vars.ensures.value c.new-more.ensures) in
    grown_fewer c.args.theory.now.asked.now.atoms.now empty c.push_consequents.new.known (fs, made)

pub returns-clause-ok : goal.returns-clause-ok
returns-clause-ok c =
    let known : ClauseList = c.args.known.now in
    let empty : ClauseList = record { vars = known.vars; clauses = [] } in
    let fs : List Formula = consequents (map (λ d. default_of d.now) c.args.theory.now.defaults.now) c.args.set in
    let made : c.push_consequents.new.known ≡ with_formulas c.args.theory.now.asked.now.atoms.now empty fs = c.in_ok-push_consequents.ensures ∙ ap (λ (g : ClauseList). with_formulas c.args.theory.now.asked.now.atoms.now g fs) (none_apart known c.new-more.result c.vars.result c.vars.ensures.value c.new-more.ensures) in
    on_ok_weaker c.append-added.result (λ added. formulas_apart c.args.theory.now.asked.now.atoms.now fs known c.push_consequents.new.known c.append-added.new.self made added) c.append-added.ensures.ok
