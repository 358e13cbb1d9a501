-- What the productions say: the written parts, and how each is written.
use Rattle.std.proofs.Common.{◌≡◌, ℕ, ◌≤◌, true, List}
use Rattle.std.specs.List.{AllByRecursion}
use Rattle.mcs_grammar.specs.Written.{Written, level, IsFormula, WrittenItem, IsItem, WrittenLiteral, WrittenRule, IsRule, WrittenContext, IsContext, WrittenPlace, WrittenRead, WrittenBridge, WrittenText, IsText, no_marks, IsNameWord, IsPlace, IsWrittenBridge}
use Rattle.mcs_productions.specs.declared.production.Production.{Production}
use Rattle.mcs_productions.specs.declared.production.Production.TheVariants as name
use Rattle.mcs_account.specs.Marks.{Marked, formula_marks, literal_marks, sign_marks, rule_marks, item_marks, context_marks, text_marks, belief_marks, read_marks, tail_marks, bridge_marks}

-- formulas up to a level
abbrev pub UpTo : ℕ → Type 0
UpTo k = (f : Written) × IsFormula f × (level f ≤ k)

abbrev pub Primary : Type 0
Primary = (f : Written) × IsFormula f × (level f ≡ 0)

abbrev pub ReadValue : Type 0
ReadValue = (r : WrittenRead) × IsPlace r.place

abbrev pub LiteralValue : Type 0
LiteralValue = (l : WrittenLiteral) × IsNameWord l.atom

abbrev pub Value : Production → Type 0
Value name.Formula = UpTo 4
Value name.Implication = UpTo 3
Value name.Disjunction = UpTo 2
Value name.Conjunction = UpTo 1
Value name.Primary = Primary
Value name.Place = Primary
Value name.Read = ReadValue
Value name.BridgeTail = (head : WrittenPlace) × (reads : List WrittenRead) × IsPlace head × AllByRecursion (λ (r : WrittenRead). IsPlace r.place) reads
Value name.Bridge = (b : WrittenBridge) × IsWrittenBridge b × (b.marks ≡ no_marks)
Value name.MarkedBridge = (b : WrittenBridge) × IsWrittenBridge b
Value name.Literal = LiteralValue
Value name.Body = (ls : List WrittenLiteral) × AllByRecursion (λ (l : WrittenLiteral). IsNameWord l.atom) ls
Value name.ProgramRule = (r : WrittenRule) × IsRule r
Value name.Item = (i : WrittenItem) × IsItem i
Value name.Context = (c : WrittenContext) × IsContext c
Value name.Text = (t : WrittenText) × IsText t

abbrev pub value_marks : (n : Production) → Value n → Marked
value_marks name.Formula v = formula_marks v.0
value_marks name.Implication v = formula_marks v.0
value_marks name.Disjunction v = formula_marks v.0
value_marks name.Conjunction v = formula_marks v.0
value_marks name.Primary v = formula_marks v.0
value_marks name.Place v = belief_marks v.0
value_marks name.Read v = read_marks v.0
value_marks name.BridgeTail v = tail_marks v.0 v.1
value_marks name.Bridge v = bridge_marks v.0
value_marks name.MarkedBridge v = bridge_marks v.0
value_marks name.Literal v = literal_marks v.0
value_marks name.Body v = sign_marks true v.0
value_marks name.ProgramRule v = rule_marks v.0
value_marks name.Item v = item_marks v.0
value_marks name.Context v = context_marks v.0
value_marks name.Text v = text_marks v.0
