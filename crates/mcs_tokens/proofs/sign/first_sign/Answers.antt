use Rattle.std.proofs.Common.{sym, ◌∙◌, true≢false}
use Rattle.mcs_tokens.proofs.Tables.{first_of_some}
use Rattle.mcs_tokens.proofs.sign.first_sign.Goals as goal

pub returns-in-len1-up : goal.returns-in-len1-up
returns-in-len1-up c =
    first_of_some c.args.text.now c.sign_of_byte.result c.in-len1-up.len_at_least (
      λ b. true≢false (sym (c.begins_with.ensures.1 b) ∙ c.if-begins_with.false),
      λ b. true≢false (sym (c.begins_with-2.ensures.1 b) ∙ c.if-begins_with-2.false),
      λ b. true≢false (sym (c.begins_with-3.ensures.1 b) ∙ c.if-begins_with-3.false),
    )
    c.sign_of_byte.ensures
