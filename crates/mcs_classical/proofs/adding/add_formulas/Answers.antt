use Rattle.std.proofs.Common.{◌≡◌, ◌∙◌, [], map, ap}
use Rattle.std.proofs.lemmas.Result.{on_ok_weaker}
use Rattle.mcs_system.specs.Seen.{formula_of}
use Rattle.mcs_trace.specs.Clauses.{ClauseList}
use Rattle.mcs_cnf.specs.ClauseLists.{with_formulas}
use Rattle.mcs_classical.proofs.RefutingLemmas.{formulas_apart, none_apart}
use Rattle.mcs_cnf.proofs.GrowingLemmas.{grown_fewer}
use Rattle.mcs_classical.proofs.adding.add_formulas.Goals as goal

pub append-added-requires : goal.append-added-requires
append-added-requires c =
    let known : ClauseList = c.args.known.now in
    let empty : ClauseList = record { vars = known.vars; clauses = [] } in
    let fs = map (λ f. formula_of f.now) c.args.formulas.now in
    let made : c.push_all.new.known ≡ with_formulas c.args.atoms.now empty fs = c.in_ok-push_all.ensures.ok ∙ ap (λ (g : ClauseList). with_formulas c.args.atoms.now g fs) (none_apart known c.new-more.result c.vars.result c.vars.ensures.value c.new-more.ensures) in
    grown_fewer c.args.atoms.now empty c.push_all.new.known (fs, made)

pub returns : goal.returns
returns c =
    let known : ClauseList = c.args.known.now in
    let empty : ClauseList = record { vars = known.vars; clauses = [] } in
    let fs = map (λ f. formula_of f.now) c.args.formulas.now in
    let made : c.push_all.new.known ≡ with_formulas c.args.atoms.now empty fs = c.in_ok-push_all.ensures.ok ∙ ap (λ (g : ClauseList). with_formulas c.args.atoms.now g fs) (none_apart known c.new-more.result c.vars.result c.vars.ensures.value c.new-more.ensures) in
    record {
      ok = on_ok_weaker c.append-added.result (λ added. formulas_apart c.args.atoms.now fs known c.push_all.new.known c.append-added.new.self made added) c.append-added.ensures.ok;
      err = c.append-added.ensures.err;
    }
