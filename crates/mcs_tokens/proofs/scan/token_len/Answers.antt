use Rattle.std.proofs.Common.{sym, ◌∙◌, true≢false, rules}
use Rattle.mcs_tokens.proofs.TokenLemmas.{word_token, number_token, stray_token}
use Rattle.mcs_tokens.proofs.scan.token_len.Goals as goal

pub returns-then-is_letter-clause-token : goal.returns-then-is_letter-clause-token
returns-then-is_letter-clause-token c =
    word_token c.word_len.result c.args.text.now c.requires.some (sym c.is_letter.ensures ∙ c.if-is_letter.true) c.word_len.ensures.word c.word_len.ensures.ended

pub returns-then-is_ascii_digit-clause-token : goal.returns-then-is_ascii_digit-clause-token
returns-then-is_ascii_digit-clause-token c =
    number_token c.number_len.result c.args.text.now c.requires.some (sym c.is_ascii_digit.ensures.value ∙ c.if-is_ascii_digit.true) c.number_len.ensures.digits c.number_len.ensures.ended

pub returns-in-None-clause-token : goal.returns-in-None-clause-token
returns-in-None-clause-token c =
    stray_token c.args.text.now c.requires.some (λ letter. true≢false (sym letter ∙ sym c.is_letter.ensures ∙ c.if-is_letter.false)) (λ digit. true≢false (sym digit ∙ sym c.is_ascii_digit.ensures.value ∙ c.if-is_ascii_digit.false)) c.requires.no_separator c.requires.no_comment c.in-None.ensures

pub returns-in-Some-clause-token : goal.returns-in-Some-clause-token
returns-in-Some-clause-token c = search rules
