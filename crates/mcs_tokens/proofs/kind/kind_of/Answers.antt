use Rattle.std.proofs.Common.{sym, ◌∙◌, arith}
use Rattle.mcs_base.proofs.KeywordLemmas.{reserved_is}
use Rattle.mcs_base.proofs.WordLemmas.{name_from_word}
use Rattle.mcs_tokens.proofs.kind.kind_of.Goals as goal

pub returns-in-None-keyword_of : goal.returns-in-None-keyword_of
returns-in-None-keyword_of c =
    name_from_word c.args.token.now (sym c.is_word.ensures ∙ c.if-not-is_word.false) c.in-None-keyword_of.ensures (omega arith)

pub returns-in-None-2 : goal.returns-in-None-2
returns-in-None-2 c =
    (sym c.is_word.ensures ∙ c.if-not-is_word.false, λ h. let r = reserved_is c.args.token.now h in c.in-None-2.ensures r.0 r.1, omega arith)
