use Rattle.std.proofs.Common.{ℤ, true, false, Some, sym, ap, ◌∙◌, subst}
use Rattle.std.specs.Option.{option_map}
use Rattle.mcs_trace.specs.Clauses.{IsLiteral}
use Rattle.mcs_trace.proofs.OrderLemmas.{read_literal}
use Rattle.mcs_spelling.specs.Words.{signed}
use Rattle.mcs_steps.proofs.WordLemmas.{with_sign, without_sign, signed_literal}
use Rattle.mcs_steps.proofs.words.literal_in.Goals as goal

pub returns-in_err-read_number-in-Some-clause-value : goal.returns-in_err-read_number-in-Some-clause-value
returns-in_err-read_number-in-Some-clause-value c =
    c.from_residual.ensures
    ∙ sym (with_sign c.args.word.now c.in-Some.digits.now (sym c.in-Some.ensures) ∙ ap (option_map (λ k. signed k true)) (sym c.in_err-read_number-in-Some.ensures.exact))

pub returns-in_err-read_number-in-None-clause-value : goal.returns-in_err-read_number-in-None-clause-value
returns-in_err-read_number-in-None-clause-value c =
    c.from_residual-in_err-read_number-in-None.ensures
    ∙ sym (without_sign c.args.word.now (sym c.in-None.ensures) ∙ ap (option_map (λ k. signed k false)) (sym c.in_err-read_number-in-None.ensures.exact))

pub returns-in_ok-read_number-in-Some-clause-value : goal.returns-in_ok-read_number-in-Some-clause-value
returns-in_ok-read_number-in-Some-clause-value c =
    let n = c.in_ok-read_number-in-Some.field-0 in
    let is : IsLiteral c.signed.result = subst IsLiteral (sym c.signed.ensures) (signed_literal n true c.in_ok-read_number-in-Some.ensures.spelled.0) in
    ap (λ (l : ℤ). Some l) (read_literal c.signed.result is ∙ c.signed.ensures)
    ∙ sym (with_sign c.args.word.now c.in-Some.digits.now (sym c.in-Some.ensures) ∙ ap (option_map (λ k. signed k true)) (sym c.in_ok-read_number-in-Some.ensures.exact))

pub returns-in_ok-read_number-in-None-clause-value : goal.returns-in_ok-read_number-in-None-clause-value
returns-in_ok-read_number-in-None-clause-value c =
    let n = c.in_ok-read_number-in-None.field-0 in
    let is : IsLiteral c.signed-in-None.result = subst IsLiteral (sym c.signed-in-None.ensures) (signed_literal n false c.in_ok-read_number-in-None.ensures.spelled.0) in
    ap (λ (l : ℤ). Some l) (read_literal c.signed-in-None.result is ∙ c.signed-in-None.ensures)
    ∙ sym (without_sign c.args.word.now (sym c.in-None.ensures) ∙ ap (option_map (λ k. signed k false)) (sym c.in_ok-read_number-in-None.ensures.exact))

pub returns-in_ok-read_number-in-Some-clause-literal : goal.returns-in_ok-read_number-in-Some-clause-literal
returns-in_ok-read_number-in-Some-clause-literal c =
    let n = c.in_ok-read_number-in-Some.field-0 in
    let is : IsLiteral c.signed.result = subst IsLiteral (sym c.signed.ensures) (signed_literal n true c.in_ok-read_number-in-Some.ensures.spelled.0) in
    subst IsLiteral (sym (read_literal c.signed.result is)) is

pub returns-in_ok-read_number-in-None-clause-literal : goal.returns-in_ok-read_number-in-None-clause-literal
returns-in_ok-read_number-in-None-clause-literal c =
    let n = c.in_ok-read_number-in-None.field-0 in
    let is : IsLiteral c.signed-in-None.result = subst IsLiteral (sym c.signed-in-None.ensures) (signed_literal n false c.in_ok-read_number-in-None.ensures.spelled.0) in
    subst IsLiteral (sym (read_literal c.signed-in-None.result is)) is
