-- How signs are spelled.
use Rattle.std.specs.Prelude.{ℕ, List, codes}
use Rattle.mcs_tokens.specs.declared.sign.Sign.{Sign}
use Rattle.mcs_tokens.specs.declared.sign.Sign.TheVariants as signs

abbrev pub sign_bytes : Sign → List ℕ
sign_bytes signs.OpenBrace = codes "{"
sign_bytes signs.CloseBrace = codes "}"
sign_bytes signs.Period = codes "."
sign_bytes signs.Comma = codes ","
sign_bytes signs.Colon = codes ":"
sign_bytes signs.If = codes ":-"
sign_bytes signs.Slash = codes "/"
sign_bytes signs.Bar = codes "|"
sign_bytes signs.Ampersand = codes "&"
sign_bytes signs.Tilde = codes "~"
sign_bytes signs.Arrow = codes "->"
sign_bytes signs.DoubleArrow = codes "<->"
sign_bytes signs.OpenParenthesis = codes "("
sign_bytes signs.CloseParenthesis = codes ")"
