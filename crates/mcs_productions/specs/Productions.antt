-- The grammar of system texts: its productions, and what each token is there for.
use Rattle.std.specs.Prelude.{ℕ, List, [], ◌∷◌}
use Rattle.mcs_sets.specs.Sets.{single, union}
use Rattle.mcs_syntax.specs.Grammar.{Expr, Take, Say, Rule, Then, Or, Maybe, Many, Grammar}
use Rattle.mcs_base.specs.declared.keyword.Keyword.TheVariants as word
use Rattle.mcs_tokens.specs.declared.sign.Sign.TheVariants as sign
use Rattle.mcs_productions.specs.declared.terminal.Terminal.{Terminal}
use Rattle.mcs_productions.specs.declared.terminal.Terminal.TheVariants as terminal
use Rattle.mcs_productions.specs.Terminals.{number}
use Rattle.mcs_productions.specs.declared.class.Class.{Class}
use Rattle.mcs_productions.specs.declared.class.Class.TheVariants as class
use Rattle.mcs_productions.specs.declared.production.Action.{Action}
use Rattle.mcs_productions.specs.declared.production.Action.TheVariants as action
use Rattle.mcs_productions.specs.declared.production.Production.{Production}
use Rattle.mcs_productions.specs.declared.production.Production.TheVariants as name

abbrev pub rules : Production → Expr Class Action Production
-- "version" "2" "." { context } { marked bridge } | { context } { bridge }
rules name.Text = Or (Then (Take class.BeginsVersion) (Then (Take class.NamesVersion) (Then (Take class.EndsVersion) (Then (Many (Rule name.Context)) (Many (Rule name.MarkedBridge)))))) (Then (Many (Rule name.Context)) (Many (Rule name.Bridge)))
-- "context" name "classical" "{" { formula "." } "}", and likewise with "default" and items and with "program" and rules
rules name.Context = Then (Take class.BeginsContext) (Then (Take class.NamesContext) (Or (Then (Take class.SaysClassical) (Then (Take class.OpensItems) (Then (Many (Then (Rule name.Formula) (Take class.EndsItem))) (Take class.ClosesItems)))) (Or (Then (Take class.SaysDefault) (Then (Take class.OpensItems) (Then (Many (Then (Rule name.Item) (Take class.EndsItem))) (Take class.ClosesItems)))) (Then (Take class.SaysProgram) (Then (Take class.OpensItems) (Then (Many (Then (Rule name.ProgramRule) (Take class.EndsItem))) (Take class.ClosesItems)))))))
-- formula [ ":" formula { "," formula } "/" formula ]
rules name.Item = Then (Rule name.Formula) (Maybe (Then (Take class.BeginsDefault) (Then (Rule name.Formula) (Then (Many (Then (Take class.SeparatesJustifications) (Rule name.Formula))) (Then (Take class.BeginsConclusion) (Rule name.Formula))))))
-- name { "|" name } [ body ] | body
rules name.ProgramRule = Or (Then (Take class.IsHeadAtom) (Then (Many (Then (Take class.SeparatesHeadAtoms) (Take class.IsHeadAtom))) (Maybe (Rule name.Body)))) (Rule name.Body)
-- ":-" [ literal { "," literal } ]
rules name.Body = Then (Take class.BeginsBody) (Maybe (Then (Rule name.Literal) (Many (Then (Take class.SeparatesLiterals) (Rule name.Literal)))))
-- [ "not" ] name
rules name.Literal = Then (Maybe (Take class.DeniesLiteral)) (Take class.IsBodyAtom)
-- "bridge" name tail
rules name.Bridge = Then (Take class.BeginsBridge) (Then (Take class.NamesBridge) (Rule name.BridgeTail))
-- "bridge" name [ "keep" ] [ "closed" ] [ "weight" number ] tail
rules name.MarkedBridge = Then (Take class.BeginsBridge) (Then (Take class.NamesBridge) (Then (Maybe (Take class.Keeps)) (Then (Maybe (Take class.Closes)) (Then (Maybe (Then (Take class.BeginsWeight) (Or (Take class.Weighs) (Take class.WeighsTwo)))) (Rule name.BridgeTail)))))
-- ":" place [ "if" read { "," read } ] "."
rules name.BridgeTail = Then (Take class.EndsBridgeName) (Then (Take class.NamesTarget) (Then (Rule name.Place) (Then (Maybe (Then (Take class.BeginsReads) (Then (Rule name.Read) (Many (Then (Take class.SeparatesReads) (Rule name.Read)))))) (Take class.EndsBridge))))
-- [ "not" ] place
rules name.Read = Then (Maybe (Take class.DeniesRead)) (Then (Take class.NamesSource) (Then (Rule name.Place) (Say action.EndsRead)))
-- ":" primary, after the name of the context
rules name.Place = Then (Take class.BeginsBelief) (Rule name.Primary)
-- implication [ "<->" formula ]
rules name.Formula = Then (Rule name.Implication) (Maybe (Then (Take class.Equates) (Then (Rule name.Formula) (Say action.ToIff))))
-- disjunction [ "->" implication ]
rules name.Implication = Then (Rule name.Disjunction) (Maybe (Then (Take class.Implies) (Then (Rule name.Implication) (Say action.ToImplies))))
-- conjunction { "|" conjunction }
rules name.Disjunction = Then (Rule name.Conjunction) (Many (Then (Take class.Disjoins) (Then (Rule name.Conjunction) (Say action.ToOr))))
-- primary { "&" primary }
rules name.Conjunction = Then (Rule name.Primary) (Many (Then (Take class.Conjoins) (Then (Rule name.Primary) (Say action.ToAnd))))
-- "~" primary | "(" formula ")" | "true" | "false" | name
rules name.Primary = Or (Then (Take class.Negates) (Then (Rule name.Primary) (Say action.ToNot))) (Or (Then (Take class.OpensParenthesis) (Then (Rule name.Formula) (Take class.ClosesParenthesis))) (Or (Take class.IsTrue) (Or (Take class.IsFalse) (Take class.IsAtom))))

-- what a token has to be that is there for this
abbrev pub wanted : Class → Terminal
wanted class.BeginsContext = terminal.Keyword word.Context
wanted class.NamesContext = terminal.Name
wanted class.SaysClassical = terminal.Keyword word.Classical
wanted class.SaysDefault = terminal.Keyword word.Default
wanted class.SaysProgram = terminal.Keyword word.Program
wanted class.OpensItems = terminal.Sign sign.OpenBrace
wanted class.ClosesItems = terminal.Sign sign.CloseBrace
wanted class.EndsItem = terminal.Sign sign.Period
wanted class.BeginsDefault = terminal.Sign sign.Colon
wanted class.SeparatesJustifications = terminal.Sign sign.Comma
wanted class.BeginsConclusion = terminal.Sign sign.Slash
wanted class.IsHeadAtom = terminal.Name
wanted class.SeparatesHeadAtoms = terminal.Sign sign.Bar
wanted class.BeginsBody = terminal.Sign sign.If
wanted class.SeparatesLiterals = terminal.Sign sign.Comma
wanted class.DeniesLiteral = terminal.Keyword word.Not
wanted class.IsBodyAtom = terminal.Name
wanted class.BeginsBridge = terminal.Keyword word.Bridge
wanted class.NamesBridge = terminal.Name
wanted class.EndsBridgeName = terminal.Sign sign.Colon
wanted class.NamesTarget = terminal.Name
wanted class.NamesSource = terminal.Name
wanted class.BeginsBelief = terminal.Sign sign.Colon
wanted class.BeginsReads = terminal.Keyword word.If
wanted class.SeparatesReads = terminal.Sign sign.Comma
wanted class.DeniesRead = terminal.Keyword word.Not
wanted class.EndsBridge = terminal.Sign sign.Period
wanted class.Negates = terminal.Sign sign.Tilde
wanted class.Conjoins = terminal.Sign sign.Ampersand
wanted class.Disjoins = terminal.Sign sign.Bar
wanted class.Implies = terminal.Sign sign.Arrow
wanted class.Equates = terminal.Sign sign.DoubleArrow
wanted class.OpensParenthesis = terminal.Sign sign.OpenParenthesis
wanted class.ClosesParenthesis = terminal.Sign sign.CloseParenthesis
wanted class.IsTrue = terminal.Keyword word.True
wanted class.IsFalse = terminal.Keyword word.False
wanted class.IsAtom = terminal.Name
wanted class.BeginsVersion = terminal.Keyword word.Version
wanted class.NamesVersion = terminal.Two
wanted class.EndsVersion = terminal.Sign sign.Period
wanted class.Keeps = terminal.Keyword word.Keep
wanted class.Closes = terminal.Keyword word.Closed
wanted class.BeginsWeight = terminal.Keyword word.Weight
wanted class.Weighs = terminal.Number
wanted class.WeighsTwo = terminal.Two

-- the terminals as a set of their numbers
abbrev pub set_of : List Terminal → ℕ
set_of [] = 0
set_of (t ∷ ts) = union (single (number t)) (set_of ts)

-- FOLLOW: the terminals that may come after a text of a production
abbrev pub after : Production → ℕ
after name.Context = set_of ((terminal.Keyword word.Context) ∷ (terminal.Keyword word.Bridge) ∷ [])
after name.Item = set_of ((terminal.Sign sign.Period) ∷ [])
after name.ProgramRule = set_of ((terminal.Sign sign.Period) ∷ [])
after name.Body = set_of ((terminal.Sign sign.Period) ∷ [])
after name.Literal = set_of ((terminal.Sign sign.Period) ∷ (terminal.Sign sign.Comma) ∷ [])
after name.Bridge = set_of ((terminal.Keyword word.Bridge) ∷ [])
after name.MarkedBridge = set_of ((terminal.Keyword word.Bridge) ∷ [])
after name.BridgeTail = set_of ((terminal.Keyword word.Bridge) ∷ [])
after name.Read = set_of ((terminal.Sign sign.Period) ∷ (terminal.Sign sign.Comma) ∷ [])
after name.Place = set_of ((terminal.Keyword word.If) ∷ (terminal.Sign sign.Period) ∷ (terminal.Sign sign.Comma) ∷ [])
after name.Formula = set_of ((terminal.Sign sign.Period) ∷ (terminal.Sign sign.Comma) ∷ (terminal.Sign sign.Colon) ∷ (terminal.Sign sign.Slash) ∷ (terminal.Sign sign.CloseParenthesis) ∷ [])
after name.Implication = set_of ((terminal.Sign sign.Period) ∷ (terminal.Sign sign.Comma) ∷ (terminal.Sign sign.Colon) ∷ (terminal.Sign sign.Slash) ∷ (terminal.Sign sign.DoubleArrow) ∷ (terminal.Sign sign.CloseParenthesis) ∷ [])
after name.Disjunction = set_of ((terminal.Sign sign.Period) ∷ (terminal.Sign sign.Comma) ∷ (terminal.Sign sign.Colon) ∷ (terminal.Sign sign.Slash) ∷ (terminal.Sign sign.Arrow) ∷ (terminal.Sign sign.DoubleArrow) ∷ (terminal.Sign sign.CloseParenthesis) ∷ [])
after name.Conjunction = set_of ((terminal.Sign sign.Period) ∷ (terminal.Sign sign.Comma) ∷ (terminal.Sign sign.Colon) ∷ (terminal.Sign sign.Slash) ∷ (terminal.Sign sign.Bar) ∷ (terminal.Sign sign.Arrow) ∷ (terminal.Sign sign.DoubleArrow) ∷ (terminal.Sign sign.CloseParenthesis) ∷ [])
after name.Primary = set_of ((terminal.Keyword word.If) ∷ (terminal.Sign sign.Period) ∷ (terminal.Sign sign.Comma) ∷ (terminal.Sign sign.Colon) ∷ (terminal.Sign sign.Slash) ∷ (terminal.Sign sign.Bar) ∷ (terminal.Sign sign.Ampersand) ∷ (terminal.Sign sign.Arrow) ∷ (terminal.Sign sign.DoubleArrow) ∷ (terminal.Sign sign.CloseParenthesis) ∷ [])
after n = 0

abbrev pub grammar : Grammar Class Action Production
grammar = record { rules = rules; wants = λ c. number (wanted c); after = after; depth = 9 }

-- the places of the productions in the list of parts
abbrev pub root : Production → ℕ
root name.Text = 0
root name.Context = 17
root name.Item = 53
root name.ProgramRule = 68
root name.Body = 79
root name.Literal = 88
root name.Bridge = 92
root name.MarkedBridge = 97
root name.BridgeTail = 115
root name.Read = 132
root name.Place = 140
root name.Formula = 143
root name.Implication = 151
root name.Disjunction = 159
root name.Conjunction = 167
root name.Primary = 175
