use Rattle.std.proofs.Common.{◌≡◌, ◌∙◌, List, map, sym, ap, subst}
use Rattle.mcs_system.specs.Plain.{Formula, Default}
use Rattle.mcs_system.specs.Seen.{formula_of}
use Rattle.mcs_cnf.specs.ClauseLists.{clause_list}
use Rattle.mcs_cnf.proofs.GrowingLemmas.{room_known, cut_fewer, cut_within, cut_back, grown_clauses}
use Rattle.mcs_evidence.specs.Defaults.{defaults_in, facts_of, generated}
use Rattle.mcs_proof_lines.specs.Verdicts.{terms_of}
use Rattle.mcs_asked.specs.Questions.{theory_names, theory_beliefs, theory_items}
use Rattle.mcs_judging.specs.Theories.{numbers_in, TellsCompletion}
use Rattle.mcs_judging.proofs.Readings.{told_err}
use Rattle.mcs_judging.proofs.VerdictLemmas.{extension_first, extension_later, extension_told, extension_judged}
use Rattle.mcs_judging.proofs.verdicts.judge_extension.Goals as goal

pub returns-in_err-grounded-clause-exact : goal.returns-in_err-grounded-clause-exact
returns-in_err-grounded-clause-exact c =
    told_err _ _ _ _ _ c.from_residual.ensures.1
    (extension_first (terms_of c.args.reading.now.terms.now) (theory_names c.args.reading.now.theory.now) (theory_items c.args.reading.now.theory.now) (theory_beliefs c.args.reading.now.theory.now) c.args.set (numbers_in c.args.numbers.now) c.args.lines.now _ c.in_err-grounded.ensures.exact)

pub push_added-requires : goal.push_added-requires
push_added-requires c = room_known (theory_names c.args.reading.now.theory.now) c.judge_grounded.new.known (facts_of (theory_items c.args.reading.now.theory.now)) (c.in_ok-grounded.ensures.kept ∙ c.requires.made)

pub judge_completion-requires-clause-made : goal.judge_completion-requires-clause-made
judge_completion-requires-clause-made c =
    let items = theory_items c.args.reading.now.theory.now in
    let premises : map (λ f. formula_of f.now) c.deref.result.now ≡ generated items c.args.set = ap (map (λ f. formula_of f.now)) c.deref.ensures.value ∙ c.in_ok-premises.ensures in
    grown_clauses (theory_names c.args.reading.now.theory.now) c.judge_grounded.new.known c.push_added.new.known ((map (λ (d : Default). d.conclusion) (defaults_in items c.args.set)), c.in_ok-push_added.ensures) (facts_of items) (c.in_ok-grounded.ensures.kept ∙ c.requires.made)
    ∙ ap (clause_list (theory_names c.args.reading.now.theory.now)) (sym premises)

pub returns-in_err-view-clause-exact : goal.returns-in_err-view-clause-exact
returns-in_err-view-clause-exact c =
    let h = c.in_ok-grounded.ensures.exact in
    told_err _ _ _ _ _ c.from_residual-in_err-view.ensures.1
    (extension_later (terms_of c.args.reading.now.terms.now) (theory_names c.args.reading.now.theory.now) (theory_items c.args.reading.now.theory.now) (theory_beliefs c.args.reading.now.theory.now) c.args.set (numbers_in c.args.numbers.now) c.args.lines.now h.value c.judge_grounded.new.lines h.is _ c.in_err-view.ensures.exact)

pub cut-requires-clause-fewer : goal.cut-requires-clause-fewer
cut-requires-clause-fewer c =
    cut_fewer (theory_names c.args.reading.now.theory.now) c.judge_grounded.new.known c.push_added.new.known ((map (λ (d : Default). d.conclusion) (defaults_in (theory_items c.args.reading.now.theory.now) c.args.set)), c.in_ok-push_added.ensures) c.judge_completion.new.known c.vars-vars.result c.vars-vars.ensures.value c.in_ok-view.ensures.kept

pub cut-requires-clause-within : goal.cut-requires-clause-within
cut-requires-clause-within c =
    cut_within (theory_names c.args.reading.now.theory.now) c.judge_grounded.new.known c.push_added.new.known ((map (λ (d : Default). d.conclusion) (defaults_in (theory_items c.args.reading.now.theory.now) c.args.set)), c.in_ok-push_added.ensures) c.judge_completion.new.known c.vars-vars.result c.clauses-count.result.now
    c.vars-vars.ensures.value c.clauses-count.ensures.value c.vars-vars.ensures.kept c.in_ok-view.ensures.kept

pub returns-clause-kept : goal.returns-clause-kept
returns-clause-kept c =
    cut_back (theory_names c.args.reading.now.theory.now) c.judge_grounded.new.known c.push_added.new.known ((map (λ (d : Default). d.conclusion) (defaults_in (theory_items c.args.reading.now.theory.now) c.args.set)), c.in_ok-push_added.ensures) c.judge_completion.new.known c.cut.new.self c.vars-vars.result c.clauses-count.result.now
    c.vars-vars.ensures.value c.clauses-count.ensures.value c.in_ok-view.ensures.kept c.cut.ensures ∙ c.in_ok-grounded.ensures.kept

pub returns-clause-exact : goal.returns-clause-exact
returns-clause-exact c =
    let names = theory_names c.args.reading.now.theory.now in
    let items = theory_items c.args.reading.now.theory.now in
    let beliefs = theory_beliefs c.args.reading.now.theory.now in
    let premises : map (λ f. formula_of f.now) c.deref.result.now ≡ generated items c.args.set = ap (map (λ f. formula_of f.now)) c.deref.ensures.value ∙ c.in_ok-premises.ensures in
    let h = c.in_ok-grounded.ensures.exact in
    let v = c.in_ok-view.ensures.exact in
    let told = subst (λ (fs : List Formula). TellsCompletion names items fs beliefs c.args.set c.in_ok-view.view v.value) premises v.fits in
    extension_told (terms_of c.args.reading.now.terms.now) names items beliefs c.args.set (numbers_in c.args.numbers.now) c.args.lines.now h.value c.judge_grounded.new.lines h.is c.judged_as.result c.judge_completion.new.lines v.value v.is
    (rw (c.judged_as.ensures, c.shown_if.ensures) (extension_judged names items beliefs c.args.set (numbers_in c.args.numbers.now) h.value v.value c.in_ok-grounded.grounded c.in_ok-view.view h.right told))
