use Rattle.std.proofs.Common.{◌-◌, ◌∙◌, length, take, drop, sym}
use Rattle.mcs_steps.proofs.ChainLemmas.{some_bytes, no_bytes}
use Rattle.mcs_judging.specs.Theories.{numbers_in}
use Rattle.mcs_judging.proofs.Orders.{passing_first, passing_more, passing_failed, passing_impossible, passing_ends}
use Rattle.mcs_judging.proofs.order.pass_all_yes.Goals as goal

pub loop-left-init : goal.loop-left-init
loop-left-init c = passing_first c.args.numbers.now c.args.lines.now c.requires

pub returns-in_default : goal.returns-in_default
returns-in_default c =
    let left = c.loop-left.left.now in
    let (b, is) = some_bytes left (sym c.is_empty.ensures ∙ c.loop-left-test.true) in
    absurd (passing_impossible (length (numbers_in c.args.numbers.now)) c.args.lines.now c.loop-left.lines left c.loop-left.invariant b (take (length left - 1) (drop 1 left)) is c.in_default.ensures.read)

pub loop-left-preserved : goal.loop-left-preserved
loop-left-preserved c =
    let left = c.loop-left.left.now in
    let (b, is) = some_bytes left (sym c.is_empty.ensures ∙ c.loop-left-test.true) in
    passing_more (length (numbers_in c.args.numbers.now)) c.args.lines.now c.loop-left.lines left c.loop-left.invariant b _ (take (length left - 1) (drop 1 left)) c.in-Some.rest.now is c.in-Some.ensures.read c.pass_yes.new.lines c.in-Ok.ensures

pub returns-in-Err : goal.returns-in-Err
returns-in-Err c =
    let left = c.loop-left.left.now in
    let (b, is) = some_bytes left (sym c.is_empty.ensures ∙ c.loop-left-test.true) in
    passing_failed (length (numbers_in c.args.numbers.now)) c.args.lines.now c.loop-left.lines left c.loop-left.invariant b _ (take (length left - 1) (drop 1 left)) c.in-Some.rest.now is c.in-Some.ensures.read c.in-Err.fault c.in-Err.ensures

pub returns : goal.returns
returns c = passing_ends (length (numbers_in c.args.numbers.now)) c.args.lines.now c.loop-left.lines c.loop-left.left.now c.loop-left.invariant (no_bytes c.loop-left.left.now (sym c.is_empty.ensures ∙ c.loop-left-test.false))
