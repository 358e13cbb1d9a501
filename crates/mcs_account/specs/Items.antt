-- The items of contexts as texts of the grammar, kind by kind: signs, formulas and items, each token with what it is there
-- for, and what is whole after it. What formulas, or a program rule, make as an item of each kind.
use Rattle.std.specs.Prelude.{◌≢◌, Bool, true, false, IsTrue, List, [], ◌∷◌, ◌++◌, codes, Option, Some, None, slice_index}
use Rattle.std.specs.List.{flat_map}
use Rattle.mcs_syntax.specs.declared.part.Event.{Event}
use Rattle.mcs_syntax.specs.declared.part.Event.TheVariants.{Took, Told}
use Rattle.mcs_base.specs.Words.{keyword_bytes}
use Rattle.mcs_tokens.specs.Spelling.{sign_bytes}
use Rattle.mcs_tokens.specs.Tokens.{is_number}
use Rattle.mcs_tokens.specs.Kinds.{zero_digit}
use Rattle.mcs_system.specs.Plain.{Name, Connective, Conjunction, Disjunction, Implication, Equivalence, Kind, ClassicalKind, DefaultKind, ProgramKind, ItemOf}
use Rattle.mcs_system.specs.Plain as plain
use Rattle.mcs_grammar.specs.Items.{Token, Prefix, Denial, prefix_sign, joint_sign, Written, True', False', Named, Prefixed, Grouped, Joins, IsNameWord, WrittenDefault, WrittenItem, Fact, Rule, WrittenLiteral, WrittenRule, WrittenOf}
use Rattle.mcs_productions.specs.Productions.{wanted}
use Rattle.mcs_productions.specs.declared.terminal.Terminal.{Terminal}
use Rattle.mcs_productions.specs.declared.terminal.Terminal.TheVariants as terminal
use Rattle.mcs_productions.specs.declared.class.Class.{Class}
use Rattle.mcs_productions.specs.declared.class.Class.TheVariants as class
use Rattle.mcs_productions.specs.declared.production.Action.{Action}
use Rattle.mcs_productions.specs.declared.production.Action.TheVariants as action
use Rattle.mcs_account.specs.Mark.{Mark, Seen, Said, AreFilled}

abbrev pub Marked : Type 0
Marked = List (Mark Class Action Token)

-- ---- what a token says beside what it is there for: a name or a number says itself, all others nothing
abbrev pub Content : Terminal → Type 0
Content terminal.Name = (t : Name) × IsNameWord t
Content terminal.Number = (t : Token) × IsTrue (is_number t) × (slice_index t 0 ≢ zero_digit) × (t ≢ codes "2")
Content terminal.ZeroNumber = ⊥
Content terminal.Stray = ⊥
Content d = Unit {0}

abbrev pub spelled : (d : Terminal) → Content d → Token
spelled terminal.Name x = x.0
spelled (terminal.Keyword k) x = keyword_bytes k
spelled (terminal.Sign s) x = sign_bytes s
spelled terminal.Two x = codes "2"
spelled terminal.Number x = x.0
spelled terminal.ZeroNumber x = []
spelled terminal.Stray x = []

abbrev pub Fill : Class → Type 0
Fill c = Content (wanted c)

abbrev pub bytes_for : (c : Class) → Fill c → Token
bytes_for c x = spelled (wanted c) x

-- each token may be there for what it is there for
abbrev pub Filled : Marked → Type 0
Filled ms = AreFilled Fill bytes_for ms

-- the marks of these events, where the token is this
abbrev pub marks_for : Token → List (Event Class Action) → Marked
marks_for t [] = []
marks_for t (Took c ∷ xs) = Seen c t ∷ marks_for t xs
marks_for t (Told a ∷ xs) = Said a ∷ marks_for t xs

-- ---- signs
abbrev pub prefix_class : Prefix → Class
prefix_class Denial = class.Negates

abbrev pub prefix_action : Prefix → Action
prefix_action Denial = action.ToNot

abbrev pub joint_class : Connective → Class
joint_class Conjunction = class.Conjoins
joint_class Disjunction = class.Disjoins
joint_class Implication = class.Implies
joint_class Equivalence = class.Equates

abbrev pub joint_action : Connective → Action
joint_action Conjunction = action.ToAnd
joint_action Disjunction = action.ToOr
joint_action Implication = action.ToImplies
joint_action Equivalence = action.ToIff

-- what an action makes of the formulas that are whole: nothing, a sign before the last one, or a sign between the last two
pub data Making : Type 0 where
  OfNone : Making
  OfOne : (p : Prefix) → Making
  OfTwo : (j : Connective) → Making

abbrev pub making : Action → Making
making action.EndsRead = OfNone
making action.ToNot = OfOne Denial
making action.ToAnd = OfTwo Conjunction
making action.ToOr = OfTwo Disjunction
making action.ToImplies = OfTwo Implication
making action.ToIff = OfTwo Equivalence

-- the token counts in the size of its formula, and is no atom
abbrev pub is_counted : Class → Bool
is_counted class.Negates = true
is_counted class.Conjoins = true
is_counted class.Disjoins = true
is_counted class.Implies = true
is_counted class.Equates = true
is_counted class.IsTrue = true
is_counted class.IsFalse = true
is_counted c = false

-- ---- formulas
-- two formulas with a sign between them
abbrev pub two_marks : Class → Token → Action → Marked → Marked → Marked
two_marks c sign a ms ns = ms ++ Seen c sign ∷ (ns ++ Said a ∷ [])

abbrev pub formula_marks : Written → Marked
formula_marks True' = Seen class.IsTrue (codes "true") ∷ []
formula_marks False' = Seen class.IsFalse (codes "false") ∷ []
formula_marks (Named name) = Seen class.IsAtom name ∷ []
formula_marks (Prefixed p f) = Seen (prefix_class p) (prefix_sign p) ∷ (formula_marks f ++ Said (prefix_action p) ∷ [])
formula_marks (Grouped f) = Seen class.OpensParenthesis (codes "(") ∷ (formula_marks f ++ Seen class.ClosesParenthesis (codes ")") ∷ [])
formula_marks (Joins j f g) = two_marks (joint_class j) (joint_sign j) (joint_action j) (formula_marks f) (formula_marks g)

-- ---- items
abbrev pub after_marks : Class → Token → Written → Marked
after_marks c sign f = Seen c sign ∷ formula_marks f

abbrev pub default_marks : WrittenDefault → Marked
default_marks d =
    formula_marks d.pre ++ Seen class.BeginsDefault (codes ":") ∷ (formula_marks d.first_just ++ (flat_map (after_marks class.SeparatesJustifications (codes ",")) d.justs ++ after_marks class.BeginsConclusion (codes "/") d.conclusion))

abbrev pub item_marks : WrittenItem → Marked
item_marks (Fact f) = formula_marks f
item_marks (Rule d) = default_marks d

abbrev pub further_head_marks : Name → Marked
further_head_marks a = Seen class.SeparatesHeadAtoms (codes "|") ∷ Seen class.IsHeadAtom a ∷ []

abbrev pub head_marks : List Name → Marked
head_marks [] = []
head_marks (a ∷ names) = Seen class.IsHeadAtom a ∷ flat_map further_head_marks names

abbrev pub literal_denial : Bool → Marked
literal_denial true = Seen class.DeniesLiteral (codes "not") ∷ []
literal_denial false = []

abbrev pub literal_marks : WrittenLiteral → Marked
literal_marks l = literal_denial l.denied ++ Seen class.IsBodyAtom l.atom ∷ []

abbrev pub further_literal_marks : WrittenLiteral → Marked
further_literal_marks l = Seen class.SeparatesLiterals (codes ",") ∷ literal_marks l

abbrev pub literals_marks : List WrittenLiteral → Marked
literals_marks [] = []
literals_marks (l ∷ ls) = literal_marks l ++ flat_map further_literal_marks ls

abbrev pub sign_marks : Bool → List WrittenLiteral → Marked
sign_marks true ls = Seen class.BeginsBody (codes ":-") ∷ literals_marks ls
sign_marks false ls = []

abbrev pub rule_marks : WrittenRule → Marked
rule_marks r = head_marks r.head ++ sign_marks r.has_sign r.body

-- ---- the kinds of contexts
abbrev pub marks_in : (k : Kind) → WrittenOf k → Marked
marks_in ClassicalKind = formula_marks
marks_in DefaultKind = item_marks
marks_in ProgramKind = rule_marks

-- what the word is there for that says the kind
abbrev pub kind_class : Kind → Class
kind_class ClassicalKind = class.SaysClassical
kind_class DefaultKind = class.SaysDefault
kind_class ProgramKind = class.SaysProgram

-- the kind that a token of the class says
abbrev pub kind_said : Class → Option Kind
kind_said class.SaysClassical = Some ClassicalKind
kind_said class.SaysDefault = Some DefaultKind
kind_said class.SaysProgram = Some ProgramKind
kind_said c = None

-- the formulas of a whole item of a default theory, the last one first: a fact has one, a default three or more
abbrev pub item_of : plain.Formula → List plain.Formula → List plain.Formula → plain.Item
item_of conclusion [] justs = plain.Fact conclusion
item_of conclusion (f ∷ []) justs = plain.Rule (record { pre = f; justs = justs; conclusion = conclusion })
item_of conclusion (f ∷ g ∷ fs) justs = item_of conclusion (g ∷ fs) (f ∷ justs)

-- the item that the formulas, the last one first, or the program rule make; none where a formula is wanted and none is there
abbrev pub made_in : (k : Kind) → List plain.Formula → plain.ProgramRule → Option (ItemOf k)
made_in ClassicalKind (f ∷ fs) r = Some f
made_in DefaultKind (f ∷ fs) r = Some (item_of f fs [])
made_in ProgramKind fs r = Some r
made_in k fs r = None

-- the formulas of an item of a default theory
abbrev pub item_formulas : WrittenItem → List Written
item_formulas (Fact f) = f ∷ []
item_formulas (Rule d) = d.pre ∷ d.first_just ∷ (d.justs ++ d.conclusion ∷ [])

-- the formulas of an item, and the program rules that it is
abbrev pub formulas_in : (k : Kind) → WrittenOf k → List Written
formulas_in ClassicalKind f = f ∷ []
formulas_in DefaultKind i = item_formulas i
formulas_in k i = []

abbrev pub rules_in : (k : Kind) → WrittenOf k → List WrittenRule
rules_in ProgramKind r = r ∷ []
rules_in k i = []
