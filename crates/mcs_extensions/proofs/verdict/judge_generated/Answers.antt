use Rattle.std.proofs.Common.{◌≡◌, ◌∙◌, map, sym, ap}
use Rattle.mcs_system.specs.Plain.{Default}
use Rattle.mcs_system.specs.Seen.{formula_of}
use Rattle.mcs_cnf.specs.ClauseLists.{clause_list}
use Rattle.mcs_cnf.proofs.GrowingLemmas.{room_known, cut_fewer, cut_within, cut_back, grown_clauses}
use Rattle.mcs_evidence.specs.Defaults.{defaults_in, facts_of, generated}
use Rattle.mcs_asked.specs.Questions.{theory_names, theory_items}
use Rattle.mcs_extensions.proofs.verdict.judge_generated.Goals as goal

pub push_added-requires : goal.push_added-requires
push_added-requires c = room_known (theory_names c.args.theory.now) c.args.known.now (facts_of (theory_items c.args.theory.now)) c.requires

pub judge_from-requires : goal.judge_from-requires
judge_from-requires c =
    let names = theory_names c.args.theory.now in
    let items = theory_items c.args.theory.now in
    let premises : map (λ f. formula_of f.now) c.deref.result.now ≡ generated items c.args.set = ap (map (λ f. formula_of f.now)) c.deref.ensures.value ∙ c.in_ok-premises.ensures in
    record {
      are = premises;
      made = grown_clauses names c.args.known.now c.push_added.new.known ((map (λ (d : Default). d.conclusion) (defaults_in items c.args.set)), c.in_ok-push_added.ensures) (facts_of items) c.requires ∙ ap (clause_list names) (sym premises);
    }

pub cut-requires-clause-fewer : goal.cut-requires-clause-fewer
cut-requires-clause-fewer c =
    cut_fewer (theory_names c.args.theory.now) c.args.known.now c.push_added.new.known ((map (λ (d : Default). d.conclusion) (defaults_in (theory_items c.args.theory.now) c.args.set)), c.in_ok-push_added.ensures) c.judge_from.new.known c.vars-vars.result c.vars-vars.ensures.value c.in_ok-judged.ensures.kept

pub cut-requires-clause-within : goal.cut-requires-clause-within
cut-requires-clause-within c =
    cut_within (theory_names c.args.theory.now) c.args.known.now c.push_added.new.known ((map (λ (d : Default). d.conclusion) (defaults_in (theory_items c.args.theory.now) c.args.set)), c.in_ok-push_added.ensures) c.judge_from.new.known c.vars-vars.result c.clauses-count.result.now
    c.vars-vars.ensures.value c.clauses-count.ensures.value c.vars-vars.ensures.kept c.in_ok-judged.ensures.kept

pub returns-clause-kept : goal.returns-clause-kept
returns-clause-kept c =
    cut_back (theory_names c.args.theory.now) c.args.known.now c.push_added.new.known ((map (λ (d : Default). d.conclusion) (defaults_in (theory_items c.args.theory.now) c.args.set)), c.in_ok-push_added.ensures) c.judge_from.new.known c.cut.new.self c.vars-vars.result c.clauses-count.result.now
    c.vars-vars.ensures.value c.clauses-count.ensures.value c.in_ok-judged.ensures.kept c.cut.ensures

pub returns-clause-exact : goal.returns-clause-exact
returns-clause-exact c = c.in_ok-judged.ensures.exact
