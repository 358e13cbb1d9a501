use Rattle.std.proofs.Common.{◌≡◌, ℕ, ◌-◌, ℤ, List, length, take, drop, codes, Option, Some, None, sym, ap, ◌∙◌, arith, length-drop}
use Rattle.std.proofs.lemmas.List.{take_all}
use Rattle.std.specs.Option.{option_and_then}
use Rattle.mcs_spelling.specs.Words.{after_prefix, literals_of_bytes}
use Rattle.mcs_spelling.proofs.LiteralTexts.{after_is}
use Rattle.mcs_steps.specs.Words.{with_front}
use Rattle.mcs_steps.proofs.WordLemmas.{first_literal_is, first_literal_cut}
use Rattle.mcs_steps.proofs.words.first_literal.Goals as goal
use Rattle.mcs_trace.proofs.OrderLemmas.{read_literal}

-- what follows the word
after_word : (bytes : List ℕ) (end : ℕ) (o : Option (List ℕ)) → o ≡ after_prefix (codes " ") (take (length bytes - end) (drop end bytes)) → after_prefix (codes " ") (drop end bytes) ≡ o
after_word bytes end o e =
    let rest : take (length bytes - end) (drop end bytes) ≡ drop end bytes = take_all _ _ (omega (arith, length-drop end bytes)) in
    sym (e ∙ ap (after_prefix (codes " ")) rest)

pub returns-in_err-rest-clause-read : goal.returns-in_err-rest-clause-read
returns-in_err-rest-clause-read c =
    let bytes = c.args.bytes.now in
    let end = c.word_end-end.result in
    let none : literals_of_bytes bytes ≡ None = first_literal_cut bytes end c.word_end-end.ensures c.requires (after_word bytes end None c.in_err-rest.ensures) in
    rw c.from_residual.ensures none

pub returns-in_err-literal-clause-read : goal.returns-in_err-literal-clause-read
returns-in_err-literal-clause-read c =
    let bytes = c.args.bytes.now in
    let end = c.word_end-end.result in
    let rest = c.in_ok-rest.rest.now in
    let none : literals_of_bytes bytes ≡ None =
    first_literal_is bytes rest end c.word_end-end.ensures (after_word bytes end (Some rest) c.in_ok-rest.ensures) ∙ ap (option_and_then (λ l. with_front l (literals_of_bytes rest))) (sym c.in_err-literal.ensures.value) in
    rw c.from_residual-in_err-literal.ensures none

pub returns-clause-read : goal.returns-clause-read
returns-clause-read c =
    let bytes = c.args.bytes.now in
    let end = c.word_end-end.result in
    let rest = c.in_ok-rest.rest.now in
    first_literal_is bytes rest end c.word_end-end.ensures (after_word bytes end (Some rest) c.in_ok-rest.ensures) ∙ ap (option_and_then (λ l. with_front l (literals_of_bytes rest))) (sym c.in_ok-literal.ensures.value)
    ∙ ap (λ (l : ℤ). with_front l (literals_of_bytes rest)) (sym (read_literal c.in_ok-literal.literal c.in_ok-literal.ensures.literal))

pub returns-clause-less : goal.returns-clause-less
returns-clause-less c =
    let bytes = c.args.bytes.now in
    let end = c.word_end-end.result in
    let rest = c.in_ok-rest.rest.now in
    let later = ap length (after_is (codes " ") (drop end bytes) rest (after_word bytes end (Some rest) c.in_ok-rest.ensures)) in
    let long = length-drop end bytes in
    omega (arith, later, long)
