use Rattle.std.proofs.Common.{◌≡◌, ◌-◌, ◌<◌, length, Some, arith}
use Rattle.std.proofs.lemmas.List.{length-map}
use Rattle.mcs_system.specs.Plain.{Default}
use Rattle.mcs_system.specs.Seen.{default_of, formula_of}
use Rattle.mcs_asked.proofs.QuestionLemmas.{defaults_over}
use Rattle.mcs_extensions.specs.Checks.{at_number}
use Rattle.mcs_extensions.proofs.OrderLemmas.{numbered_read}
use Rattle.mcs_extensions.proofs.VerdictLemmas.{numbered_over, numbered_formula_over}
use Rattle.mcs_asked.specs.Questions.{theory_names, theory_defaults, theory_items}
use Rattle.mcs_judging.proofs.AbsenceLemmas.{tells_blocked}
use Rattle.mcs_judging.proofs.Places.{own_counts, own_justs}
use Rattle.mcs_judging.proofs.Readings.{told_err}
use Rattle.mcs_judging.proofs.absences.judge_blocked.Goals as goal

pub index-formula-requires : goal.index-formula-requires
index-formula-requires c =
    let room = c.default_numbered-default.result.now.justs.ok.0 in
    let ds = theory_defaults c.args.reading.now.theory.now in
    let d : Default = default_of c.default_numbered-default.result.now in
    let own = own_justs ds c.args.reading.now.terms.now.justs.now (own_counts c.args.reading.now) c.args.number d c.default_numbered-default.ensures in
    let long = length-map c.default_numbered-default.result.now.justs.items formula_of in
    let less : c.args.just - 1 < length c.default_numbered-default.result.now.justs.items = omega (arith, own, long, c.requires.within.some, c.requires.within.enough) in
    omega (arith, less, room)

pub judge_negation-requires-clause-over : goal.judge_negation-requires-clause-over
judge_negation-requires-clause-over c =
    let ds = theory_defaults c.args.reading.now.theory.now in
    let d : Default = default_of c.default_numbered-default.result.now in
    let own = own_justs ds c.args.reading.now.terms.now.justs.now (own_counts c.args.reading.now) c.args.number d c.default_numbered-default.ensures in
    let long = length-map c.default_numbered-default.result.now.justs.items formula_of in
    let less : c.args.just - 1 < length c.default_numbered-default.result.now.justs.items = omega (arith, own, long, c.requires.within.some, c.requires.within.enough) in
    let there : at_number d.justs c.args.just ≡ Some (formula_of c.index-formula.result.now) = numbered_read formula_of c.default_numbered-default.result.now.justs.items c.args.just c.index-formula.result.now (λ none. omega (arith, none, c.requires.within.some)) less c.index-formula.ensures in
    let justs = (numbered_over (theory_names c.args.reading.now.theory.now) ds c.args.number d (defaults_over c.args.reading.now.theory.now) c.default_numbered-default.ensures).1 in
    numbered_formula_over (theory_names c.args.reading.now.theory.now) d.justs c.args.just (formula_of c.index-formula.result.now) justs there

pub returns-in_err-shown-clause-exact : goal.returns-in_err-shown-clause-exact
returns-in_err-shown-clause-exact c = λ fs is. told_err _ _ _ _ _ c.from_residual.ensures.1 (c.in_err-shown.ensures.exact fs is)

pub returns-clause-exact : goal.returns-clause-exact
returns-clause-exact c = λ fs is. (
    let ds = theory_defaults c.args.reading.now.theory.now in
    let d : Default = default_of c.default_numbered-default.result.now in
    let own = own_justs ds c.args.reading.now.terms.now.justs.now (own_counts c.args.reading.now) c.args.number d c.default_numbered-default.ensures in
    let long = length-map c.default_numbered-default.result.now.justs.items formula_of in
    let less : c.args.just - 1 < length c.default_numbered-default.result.now.justs.items = omega (arith, own, long, c.requires.within.some, c.requires.within.enough) in
    let there : at_number d.justs c.args.just ≡ Some (formula_of c.index-formula.result.now) = numbered_read formula_of c.default_numbered-default.result.now.justs.items c.args.just c.index-formula.result.now (λ none. omega (arith, none, c.requires.within.some)) less c.index-formula.ensures in
    let told = c.in_ok-shown.ensures.exact fs is in
    record {
      value = told.value;
      is = told.is;
      fits = rw c.told_if.ensures (tells_blocked (theory_names c.args.reading.now.theory.now) (theory_items c.args.reading.now.theory.now) ds c.args.reading.now.theory.now.are fs c.args.number d c.default_numbered-default.ensures c.args.just (formula_of c.index-formula.result.now) there c.in_ok-shown.shown told.value told.right);
    })
