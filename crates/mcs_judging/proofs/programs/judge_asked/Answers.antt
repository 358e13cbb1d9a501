use Rattle.std.proofs.Common.{◌≡◌, ℕ, List, sym, ap, ◌∙◌}
use Rattle.mcs_proof_lines.specs.Walks.{At}
use Rattle.mcs_proof_lines.specs.Programs.{smaller_at}
use Rattle.mcs_judging.proofs.Readings.{told_err}
use Rattle.mcs_judging.proofs.ProgramLemmas.{models_failed, last_failed, program_shown, program_not_shown}
use Rattle.mcs_judging.proofs.programs.judge_asked.Goals as goal

pub returns-in_err-shown : goal.returns-in_err-shown
returns-in_err-shown c = told_err _ _ _ _ _ c.from_residual.ensures.1 (models_failed c.args.texts.now c.args.count c.args.lines.now _ c.in_err-shown.ensures)

pub returns-in_err-is_accepted : goal.returns-in_err-is_accepted
returns-in_err-is_accepted c =
    let next : smaller_at c.args.texts.now c.judge_models.new.lines ≡ (c.deref.result.now, c.take_smaller.new.lines) =
    c.in_ok-smaller.ensures ∙ ap (λ (xs : List ℕ). (let r : List ℕ × At = (xs, c.take_smaller.new.lines) in r)) (sym c.deref.ensures.value) in
    told_err _ _ _ _ _ c.from_residual-in_err-is_accepted.ensures.1
    (last_failed c.args.texts.now c.args.count c.args.lines.now c.judge_models.new.lines c.take_smaller.new.lines c.in_ok-shown.ensures.value c.deref.result.now c.in_ok-shown.ensures.is next _ c.in_err-is_accepted.ensures)

pub returns-then-not-is_accepted : goal.returns-then-not-is_accepted
returns-then-not-is_accepted c =
    let next : smaller_at c.args.texts.now c.judge_models.new.lines ≡ (c.deref.result.now, c.take_smaller.new.lines) =
    c.in_ok-smaller.ensures ∙ ap (λ (xs : List ℕ). (let r : List ℕ × At = (xs, c.take_smaller.new.lines) in r)) (sym c.deref.ensures.value) in
    program_not_shown c.args.program.now c.args.texts.now c.args.count c.args.lines.now c.judge_models.new.lines c.take_smaller.new.lines c.judge_rest.new.lines c.deref.result.now c.in_ok-shown.shown c.in_ok-is_accepted.is_accepted c.in_ok-shown.ensures next
    c.in_ok-is_accepted.ensures c.if-not-is_accepted.true

pub returns : goal.returns
returns c =
    let next : smaller_at c.args.texts.now c.judge_models.new.lines ≡ (c.deref.result.now, c.take_smaller.new.lines) =
    c.in_ok-smaller.ensures ∙ ap (λ (xs : List ℕ). (let r : List ℕ × At = (xs, c.take_smaller.new.lines) in r)) (sym c.deref.ensures.value) in
    program_shown c.args.program.now c.args.texts.now c.args.count c.args.lines.now c.judge_models.new.lines c.take_smaller.new.lines c.judge_rest.new.lines c.deref.result.now c.in_ok-shown.shown c.in_ok-is_accepted.is_accepted c.in_ok-shown.ensures next
    c.in_ok-is_accepted.ensures c.if-not-is_accepted.false
