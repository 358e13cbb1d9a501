use Rattle.std.proofs.Common.{◌-◌, ◌∙◌, length, take, drop, refl, sym}
use Rattle.mcs_system.specs.Seen.{default_of}
use Rattle.mcs_asked.proofs.QuestionLemmas.{defaults_over}
use Rattle.mcs_extensions.proofs.VerdictLemmas.{numbered_over}
use Rattle.mcs_cnf.proofs.GrowingLemmas.{room_known}
use Rattle.mcs_steps.proofs.ChainLemmas.{some_bytes, no_bytes}
use Rattle.mcs_asked.specs.Questions.{theory_names, theory_defaults, theory_items}
use Rattle.mcs_judging.specs.Theories.{numbers_in}
use Rattle.mcs_judging.proofs.Orders.{ordered_first, ordered_impossible, ordered_number, ordered_failed, ordered_more, ordered_ends}
use Rattle.mcs_judging.proofs.order.judge_order.Goals as goal

pub loop-left-init : goal.loop-left-init
loop-left-init c =
    ordered_first (theory_names c.args.reading.now.theory.now) (theory_items c.args.reading.now.theory.now) c.args.reading.now.terms.now.justs.now c.args.numbers.now c.args.lines.now c.args.known.now _ refl c.requires.numbers c.requires.within c.requires.made

pub returns-in_default-clause-exact : goal.returns-in_default-clause-exact
returns-in_default-clause-exact c =
    let left = c.loop-left.left.now in
    let (b, is) = some_bytes left (sym c.is_empty.ensures ∙ c.loop-left-test.true) in
    absurd (ordered_impossible (theory_names c.args.reading.now.theory.now) (theory_items c.args.reading.now.theory.now) c.args.reading.now.terms.now.justs.now (numbers_in c.args.numbers.now) c.args.lines.now c.loop-left.lines c.loop-left.are_right c.args.known.now c.loop-left.known left c.loop-left.invariant
    b (take (length left - 1) (drop 1 left)) is c.in_default.ensures.read)

pub default_numbered-default-requires : goal.default_numbered-default-requires
default_numbered-default-requires c =
    let left = c.loop-left.left.now in
    let (b, is) = some_bytes left (sym c.is_empty.ensures ∙ c.loop-left-test.true) in
    ordered_number (theory_names c.args.reading.now.theory.now) (theory_items c.args.reading.now.theory.now) c.args.reading.now.terms.now.justs.now (numbers_in c.args.numbers.now) c.args.lines.now c.loop-left.lines c.loop-left.are_right c.args.known.now c.loop-left.known left c.loop-left.invariant
    b c.in-Some.number (take (length left - 1) (drop 1 left)) c.in-Some.rest.now is c.in-Some.ensures.read

pub judge_prerequisite-requires-clause-over : goal.judge_prerequisite-requires-clause-over
judge_prerequisite-requires-clause-over c =
    numbered_over (theory_names c.args.reading.now.theory.now) (theory_defaults c.args.reading.now.theory.now) c.in-Some.number (default_of c.default_numbered-default.result.now) (defaults_over c.args.reading.now.theory.now) c.default_numbered-default.ensures

pub judge_prerequisite-requires-clause-room : goal.judge_prerequisite-requires-clause-room
judge_prerequisite-requires-clause-room c = room_known (theory_names c.args.reading.now.theory.now) c.loop-left.known c.loop-left.invariant.formulas c.loop-left.invariant.clauses

pub loop-left-preserved : goal.loop-left-preserved
loop-left-preserved c =
    let left = c.loop-left.left.now in
    let (b, is) = some_bytes left (sym c.is_empty.ensures ∙ c.loop-left-test.true) in
    ordered_more (theory_names c.args.reading.now.theory.now) (theory_items c.args.reading.now.theory.now) c.args.reading.now.terms.now.justs.now (numbers_in c.args.numbers.now) c.args.lines.now c.loop-left.lines c.loop-left.are_right c.args.known.now c.loop-left.known left c.loop-left.invariant
    b c.in-Some.number (take (length left - 1) (drop 1 left)) c.in-Some.rest.now is c.in-Some.ensures.read
    (theory_defaults c.args.reading.now.theory.now) c.args.reading.now.theory.now.are (default_of c.default_numbered-default.result.now) c.default_numbered-default.ensures c.judge_prerequisite.new.lines c.in-Ok.shown c.both-are_right.result c.judge_prerequisite.new.known
    (c.in-Ok.ensures.exact c.loop-left.invariant.formulas c.loop-left.invariant.clauses) c.both-are_right.ensures c.in-Ok.ensures.pushed

pub returns-in-Err-clause-exact : goal.returns-in-Err-clause-exact
returns-in-Err-clause-exact c =
    let left = c.loop-left.left.now in
    let (b, is) = some_bytes left (sym c.is_empty.ensures ∙ c.loop-left-test.true) in
    ordered_failed (theory_names c.args.reading.now.theory.now) (theory_items c.args.reading.now.theory.now) c.args.reading.now.terms.now.justs.now (numbers_in c.args.numbers.now) c.args.lines.now c.loop-left.lines c.loop-left.are_right c.args.known.now c.loop-left.known left c.loop-left.invariant
    b c.in-Some.number (take (length left - 1) (drop 1 left)) c.in-Some.rest.now is c.in-Some.ensures.read c.in-Err.fault (c.in-Err.ensures.exact c.loop-left.invariant.formulas c.loop-left.invariant.clauses)

pub returns-clause-grown : goal.returns-clause-grown
returns-clause-grown c = c.loop-left.invariant.grown

pub returns-clause-exact : goal.returns-clause-exact
returns-clause-exact c =
    ordered_ends (theory_names c.args.reading.now.theory.now) (theory_items c.args.reading.now.theory.now) c.args.reading.now.terms.now.justs.now (numbers_in c.args.numbers.now) c.args.lines.now c.loop-left.lines c.loop-left.are_right c.args.known.now c.loop-left.known c.loop-left.left.now c.loop-left.invariant
    (no_bytes c.loop-left.left.now (sym c.is_empty.ensures ∙ c.loop-left-test.false))
