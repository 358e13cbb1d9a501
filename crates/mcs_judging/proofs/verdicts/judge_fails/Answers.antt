use Rattle.std.proofs.Common.{◌≡◌, ◌∙◌, List, map, sym, ap, subst}
use Rattle.mcs_system.specs.Plain.{Formula, Default}
use Rattle.mcs_system.specs.Seen.{formula_of}
use Rattle.mcs_cnf.specs.ClauseLists.{clause_list}
use Rattle.mcs_cnf.proofs.GrowingLemmas.{room_known, cut_fewer, cut_within, cut_back, grown_clauses}
use Rattle.mcs_evidence.specs.Defaults.{defaults_in, facts_of, generated}
use Rattle.mcs_proof_lines.specs.Verdicts.{terms_of}
use Rattle.mcs_asked.specs.Questions.{theory_names, theory_beliefs, theory_items}
use Rattle.mcs_judging.specs.Theories.{TellsAbsence}
use Rattle.mcs_judging.proofs.Readings.{told_err}
use Rattle.mcs_judging.proofs.VerdictLemmas.{fails_judged, fails_unread, fails_read}
use Rattle.mcs_judging.proofs.verdicts.judge_fails.Goals as goal

pub push_added-requires : goal.push_added-requires
push_added-requires c = room_known (theory_names c.args.reading.now.theory.now) c.args.known.now (facts_of (theory_items c.args.reading.now.theory.now)) c.requires.made

pub judge_absence-requires : goal.judge_absence-requires
judge_absence-requires c =
    let items = theory_items c.args.reading.now.theory.now in
    let premises : map (λ f. formula_of f.now) c.deref.result.now ≡ generated items c.args.set = ap (map (λ f. formula_of f.now)) c.deref.ensures.value ∙ c.in_ok-premises.ensures in
    record {
      made = grown_clauses (theory_names c.args.reading.now.theory.now) c.args.known.now c.push_added.new.known ((map (λ (d : Default). d.conclusion) (defaults_in items c.args.set)), c.in_ok-push_added.ensures) (facts_of items) c.requires.made
          ∙ ap (clause_list (theory_names c.args.reading.now.theory.now)) (sym premises);
    }

pub returns-in_err-told-clause-exact : goal.returns-in_err-told-clause-exact
returns-in_err-told-clause-exact c =
    told_err _ _ _ _ _ c.from_residual-in_err-told.ensures.1
    (fails_unread (terms_of c.args.reading.now.terms.now) (theory_names c.args.reading.now.theory.now) (theory_items c.args.reading.now.theory.now) (theory_beliefs c.args.reading.now.theory.now) c.args.set c.args.lines.now _ c.in_err-told.ensures.exact)

pub cut-requires-clause-fewer : goal.cut-requires-clause-fewer
cut-requires-clause-fewer c =
    cut_fewer (theory_names c.args.reading.now.theory.now) c.args.known.now c.push_added.new.known ((map (λ (d : Default). d.conclusion) (defaults_in (theory_items c.args.reading.now.theory.now) c.args.set)), c.in_ok-push_added.ensures) c.judge_absence.new.known c.vars-vars.result c.vars-vars.ensures.value c.in_ok-told.ensures.kept

pub cut-requires-clause-within : goal.cut-requires-clause-within
cut-requires-clause-within c =
    cut_within (theory_names c.args.reading.now.theory.now) c.args.known.now c.push_added.new.known ((map (λ (d : Default). d.conclusion) (defaults_in (theory_items c.args.reading.now.theory.now) c.args.set)), c.in_ok-push_added.ensures) c.judge_absence.new.known c.vars-vars.result c.clauses-count.result.now
    c.vars-vars.ensures.value c.clauses-count.ensures.value c.vars-vars.ensures.kept c.in_ok-told.ensures.kept

pub returns-clause-kept : goal.returns-clause-kept
returns-clause-kept c =
    cut_back (theory_names c.args.reading.now.theory.now) c.args.known.now c.push_added.new.known ((map (λ (d : Default). d.conclusion) (defaults_in (theory_items c.args.reading.now.theory.now) c.args.set)), c.in_ok-push_added.ensures) c.judge_absence.new.known c.cut.new.self c.vars-vars.result c.clauses-count.result.now
    c.vars-vars.ensures.value c.clauses-count.ensures.value c.in_ok-told.ensures.kept c.cut.ensures

pub returns-clause-exact : goal.returns-clause-exact
returns-clause-exact c =
    let names = theory_names c.args.reading.now.theory.now in
    let items = theory_items c.args.reading.now.theory.now in
    let beliefs = theory_beliefs c.args.reading.now.theory.now in
    let premises : map (λ f. formula_of f.now) c.deref.result.now ≡ generated items c.args.set = ap (map (λ f. formula_of f.now)) c.deref.ensures.value ∙ c.in_ok-premises.ensures in
    let h = c.in_ok-told.ensures.exact in
    let told = subst (λ (fs : List Formula). TellsAbsence names items fs c.in_ok-told.told h.value) premises h.fits in
    fails_read (terms_of c.args.reading.now.terms.now) names items beliefs c.args.set c.args.lines.now c.judged_by.result c.judge_absence.new.lines h.value h.is
    (rw c.judged_by.ensures (fails_judged names items beliefs c.args.set c.in_ok-told.told h.value c.is_inside.result told c.is_inside.ensures))
