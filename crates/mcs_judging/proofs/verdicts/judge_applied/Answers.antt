use Rattle.std.proofs.Common.{map}
use Rattle.mcs_system.specs.Plain.{Default}
use Rattle.mcs_cnf.proofs.GrowingLemmas.{room_known, cut_fewer, cut_within, cut_back, grown_clauses}
use Rattle.mcs_evidence.specs.Defaults.{defaults_in, facts_of}
use Rattle.mcs_asked.specs.Questions.{theory_names, theory_items}
use Rattle.mcs_judging.proofs.Readings.{told_err}
use Rattle.mcs_judging.proofs.verdicts.judge_applied.Goals as goal

pub push_added-requires : goal.push_added-requires
push_added-requires c = room_known (theory_names c.args.reading.now.theory.now) c.args.known.now (facts_of (theory_items c.args.reading.now.theory.now)) c.requires.made

pub judge_applying-requires-clause-made : goal.judge_applying-requires-clause-made
judge_applying-requires-clause-made c =
    let items = theory_items c.args.reading.now.theory.now in
    grown_clauses (theory_names c.args.reading.now.theory.now) c.args.known.now c.push_added.new.known ((map (λ (d : Default). d.conclusion) (defaults_in items c.args.set)), c.in_ok-push_added.ensures) (facts_of items) c.requires.made

pub cut-requires-clause-fewer : goal.cut-requires-clause-fewer
cut-requires-clause-fewer c =
    cut_fewer (theory_names c.args.reading.now.theory.now) c.args.known.now c.push_added.new.known ((map (λ (d : Default). d.conclusion) (defaults_in (theory_items c.args.reading.now.theory.now) c.args.set)), c.in_ok-push_added.ensures) c.judge_applying.new.known c.vars-vars.result c.vars-vars.ensures.value c.in_ok-judged.ensures.kept

pub cut-requires-clause-within : goal.cut-requires-clause-within
cut-requires-clause-within c =
    cut_within (theory_names c.args.reading.now.theory.now) c.args.known.now c.push_added.new.known ((map (λ (d : Default). d.conclusion) (defaults_in (theory_items c.args.reading.now.theory.now) c.args.set)), c.in_ok-push_added.ensures) c.judge_applying.new.known c.vars-vars.result c.clauses-count.result.now
    c.vars-vars.ensures.value c.clauses-count.ensures.value c.vars-vars.ensures.kept c.in_ok-judged.ensures.kept

pub returns-clause-kept : goal.returns-clause-kept
returns-clause-kept c =
    cut_back (theory_names c.args.reading.now.theory.now) c.args.known.now c.push_added.new.known ((map (λ (d : Default). d.conclusion) (defaults_in (theory_items c.args.reading.now.theory.now) c.args.set)), c.in_ok-push_added.ensures) c.judge_applying.new.known c.cut.new.self c.vars-vars.result c.clauses-count.result.now
    c.vars-vars.ensures.value c.clauses-count.ensures.value c.in_ok-judged.ensures.kept c.cut.ensures

pub returns-in_err-judged-clause-exact : goal.returns-in_err-judged-clause-exact
returns-in_err-judged-clause-exact c = told_err _ _ _ _ _ c.from_residual-in_err-judged.ensures.1 c.in_err-judged.ensures.exact

pub returns-clause-exact : goal.returns-clause-exact
returns-clause-exact c = c.in_ok-judged.ensures.exact
