use Rattle.std.proofs.Common.{◌≡◌, ℕ, ◌-◌, List, length, take, drop, None, sym, ap, ◌∙◌, arith, length-drop}
use Rattle.std.proofs.lemmas.List.{take_all}
use Rattle.std.specs.Option.{option_and_then}
use Rattle.mcs_spelling.specs.Words.{numbers_of}
use Rattle.mcs_steps.specs.Words.{with_front, spaced_numbers}
use Rattle.mcs_steps.proofs.WordLemmas.{first_number_is, none_of_nothing}
use Rattle.mcs_steps.proofs.words.first_number.Goals as goal

pub returns-in_err-number-clause-read : goal.returns-in_err-number-clause-read
returns-in_err-number-clause-read c =
    let bytes = c.args.bytes.now in
    let end = c.word_end-end.result in
    let none : numbers_of bytes ≡ None =
    first_number_is bytes end c.word_end-end.ensures ∙ ap (option_and_then (λ m. with_front m (spaced_numbers (drop end bytes)))) (sym c.in_err-number.ensures.exact) in
    rw c.from_residual.ensures none

pub returns-clause-read : goal.returns-clause-read
returns-clause-read c =
    let bytes = c.args.bytes.now in
    let end = c.word_end-end.result in
    let rest : take (length bytes - end) (drop end bytes) ≡ drop end bytes = take_all _ _ (omega (arith, length-drop end bytes)) in
    first_number_is bytes end c.word_end-end.ensures ∙ ap (option_and_then (λ m. with_front m (spaced_numbers (drop end bytes)))) (sym c.in_ok-number.ensures.exact)
    ∙ ap (λ (xs : List ℕ). with_front c.in_ok-number.number (spaced_numbers xs)) (sym rest)

pub returns-clause-less : goal.returns-clause-less
returns-clause-less c =
    let bytes = c.args.bytes.now in
    let end = c.word_end-end.result in
    let rest : take (length bytes - end) (drop end bytes) ≡ drop end bytes = take_all _ _ (omega (arith, length-drop end bytes)) in
    let long = length-drop end bytes in
    let same = ap length rest in
    let some = none_of_nothing bytes end c.in_ok-number.number c.word_end-end.ensures.within (sym c.in_ok-number.ensures.exact) in
    omega (arith, long, same, some)
