-- What a token is to the grammar, by its kind.
use Rattle.std.specs.Prelude.{ℕ}
use Rattle.mcs_base.specs.declared.keyword.Keyword.{Keyword}
use Rattle.mcs_base.specs.declared.keyword.Keyword.TheVariants as word
use Rattle.mcs_tokens.specs.declared.sign.Sign.{Sign}
use Rattle.mcs_tokens.specs.declared.sign.Sign.TheVariants as sign
use Rattle.mcs_tokens.specs.declared.kind.TokenKind.{TokenKind}
use Rattle.mcs_tokens.specs.declared.kind.TokenKind.TheVariants as kinds
use Rattle.mcs_productions.specs.declared.terminal.Terminal.{Terminal}
use Rattle.mcs_productions.specs.declared.terminal.Terminal.TheVariants as terminal

-- of what length a name is, is no matter of the grammar
abbrev pub terminal_of : TokenKind → Terminal
terminal_of (kinds.Keyword k) = terminal.Keyword k
terminal_of kinds.Name = terminal.Name
terminal_of kinds.LongName = terminal.Name
terminal_of (kinds.Sign s) = terminal.Sign s
terminal_of kinds.Two = terminal.Two
terminal_of kinds.Number = terminal.Number
terminal_of kinds.ZeroNumber = terminal.ZeroNumber
terminal_of kinds.Stray = terminal.Stray

-- ---- the terminals, each with a number
abbrev pub keyword_number : Keyword → ℕ
keyword_number word.Context = 0
keyword_number word.Bridge = 1
keyword_number word.Classical = 2
keyword_number word.Default = 3
keyword_number word.Program = 4
keyword_number word.Not = 5
keyword_number word.If = 6
keyword_number word.True = 7
keyword_number word.False = 8
keyword_number word.Version = 9
keyword_number word.Keep = 10
keyword_number word.Closed = 11
keyword_number word.Weight = 12
keyword_number word.Autoepistemic = 13
keyword_number word.Know = 14

abbrev pub sign_number : Sign → ℕ
sign_number sign.OpenBrace = 15
sign_number sign.CloseBrace = 16
sign_number sign.Period = 17
sign_number sign.Comma = 18
sign_number sign.Colon = 19
sign_number sign.If = 20
sign_number sign.Slash = 21
sign_number sign.Bar = 22
sign_number sign.Ampersand = 23
sign_number sign.Tilde = 24
sign_number sign.Arrow = 25
sign_number sign.DoubleArrow = 26
sign_number sign.OpenParenthesis = 27
sign_number sign.CloseParenthesis = 28

abbrev pub number : Terminal → ℕ
number (terminal.Keyword k) = keyword_number k
number (terminal.Sign s) = sign_number s
number terminal.Name = 29
number terminal.Two = 30
number terminal.Number = 31
number terminal.ZeroNumber = 32
number terminal.Stray = 33
