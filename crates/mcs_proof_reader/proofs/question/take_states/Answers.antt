use Rattle.std.proofs.Common.{◌≡◌, ◌<◌, length, Some, sym, subst}
use Rattle.mcs_proof_lines.specs.Walks.{At, line_at}
use Rattle.mcs_proof_lines.proofs.WalkLemmas.{fewer_lines}
use Rattle.mcs_proof_reader.specs.Questions.{state_in_words}
use Rattle.mcs_proof_reader.proofs.StepLemmas.{states_pushed}
use Rattle.mcs_proof_reader.proofs.question.take_states.Goals as goal

pub loop-state-smaller : goal.loop-state-smaller
loop-state-smaller c =
    let f = state_in_words c.args.system.now c.args.allowed c.loop-state.last in
    let e : line_at f c.loop-state.lines ≡ Some c.in-Some.state = sym c.in-Some.ensures in
    subst (λ (at : At). length at.rest < length c.loop-state.lines.rest) (sym c.advance.ensures) (fewer_lines f c.loop-state.lines c.in-Some.state e)

pub loop-state-preserved : goal.loop-state-preserved
loop-state-preserved c =
    let f = state_in_words c.args.system.now c.args.allowed c.loop-state.last in
    let e : line_at f c.loop-state.lines ≡ Some c.in-Some.state = sym c.in-Some.ensures in
    states_pushed c.args.system.now c.args.allowed c.loop-state.last c.loop-state.states.items c.push.new.self.items c.in-Some.state c.loop-state.lines c.advance.new.self _ c.in_ok-push.ensures.items c.advance.ensures e c.loop-state.invariant
