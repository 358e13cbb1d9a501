-- What was read of a text: the system so far, what is being read, and what each token is there for. A token, by its
-- class, and an action are one step each.
use Rattle.std.specs.Prelude.{ℕ, ◌+◌, ◌-◌, min, Bool, true, false, List, [], ◌∷◌, ◌++◌, map, Option, Some, None}
use Rattle.std.specs.List.{position_or_len}
use Rattle.mcs_base.specs.Numbers.{value_of_digits}
use Rattle.mcs_system.specs.Plain.{Name}
use Rattle.mcs_system.specs.Plain as plain
use Rattle.mcs_system.specs.Logic.{same_name}
use Rattle.mcs_grammar.specs.Entries.{Token, Use, BeginsContext, BeginsBridge, NamesContext, NamesBridge, Weighs, SaysProgram, BeginsItem, BeginsDefault, NamesTarget, NamesSource, BeginsBelief, EndsRead, AtomOf, IsNumber, OpensWithin, Entry, entry, with_last}
use Rattle.mcs_productions.specs.declared.class.Class.{Class}
use Rattle.mcs_productions.specs.declared.class.Class.TheVariants as class
use Rattle.mcs_productions.specs.declared.production.Action.{Action}
use Rattle.mcs_productions.specs.declared.production.Action.TheVariants as action
use Rattle.mcs_account.specs.Mark.{Mark, Seen, Said}
pub use Rattle.mcs_account.specs.Items.{item_of}
use Rattle.mcs_grammar.specs.Items.{prefixed}
use Rattle.mcs_account.specs.Items.{Marked, Making, OfOne, OfTwo, making, is_counted, kind_said, made_in}

-- ---- the system so far
pub record Account : Type 0 where
  -- the last context and the last bridge rule may still grow
  pub contexts : List plain.Context
  pub bridges : List plain.Bridge
  -- the formulas that are whole and part of nothing that is whole, the last one first
  pub operands : List plain.Formula
  -- the program rule that is being read
  pub rule : plain.ProgramRule
  -- of the literal or the read that is being read: whether it is denied, and its context's number
  pub denied : Bool
  pub source : ℕ

abbrev pub no_rule : plain.ProgramRule
no_rule = record { head = []; pos = []; neg = [] }

abbrev pub no_account : Account
no_account = record { contexts = []; bridges = []; operands = []; rule = no_rule; denied = false; source = 0 }

-- a context of which the name alone is known
abbrev pub bare_context : Name → plain.Context
bare_context n = record { name = n; kb = plain.Classical [] }

-- before a bridge rule of a system whose contexts have these names
abbrev pub account_in : List Name → Account
account_in names = record no_account { contexts = map bare_context names }

-- the last one changed
abbrev pub in_last : {A : Type 0} → (A → A) → List A → List A
in_last f [] = []
in_last f (x ∷ []) = f x ∷ []
in_last f (x ∷ y ∷ xs) = x ∷ in_last f (y ∷ xs)

-- the greatest number that a context or a weight may have in code
abbrev pub greatest_number : ℕ
greatest_number = 4294967295

-- the number of the context, or how many there are where none has the name
abbrev pub number_of : List plain.Context → Name → ℕ
number_of cs n = min (position_or_len (same_name n) (map (λ (c : plain.Context). c.name) cs)) greatest_number

-- ---- contexts
abbrev pub with_kb : plain.Kb → plain.Context → plain.Context
with_kb kb c = record c { kb = kb }

-- the items with one more, where there is one
abbrev pub with_made : {A : Type 0} → Option A → List A → List A
with_made None items = items
with_made (Some i) items = items ++ i ∷ []

abbrev pub more_kb : List plain.Formula → plain.ProgramRule → plain.Kb → plain.Kb
more_kb fs r (plain.OfKind k items) = plain.OfKind k (with_made (made_in k fs r) items)

abbrev pub with_item : List plain.Formula → plain.ProgramRule → plain.Context → plain.Context
with_item fs r c = record c { kb = more_kb fs r c.kb }

-- an atom of a body
abbrev pub with_literal : Bool → Name → plain.ProgramRule → plain.ProgramRule
with_literal true n r = record r { neg = r.neg ++ n ∷ [] }
with_literal false n r = record r { pos = r.pos ++ n ∷ [] }

-- ---- bridge rules
-- a rule of which only the name was read
abbrev pub named_rule : Name → plain.Bridge
named_rule n = plain.plain_rule n 0 plain.Truth [] []

abbrev pub with_keep : plain.Bridge → plain.Bridge
with_keep b = record b { keep = true }

abbrev pub with_closed : plain.Bridge → plain.Bridge
with_closed b = record b { closed = true }

-- the number that the digits spell
abbrev pub weight_of : Token → ℕ
weight_of digits = min (value_of_digits digits) greatest_number

abbrev pub with_weight : ℕ → plain.Bridge → plain.Bridge
with_weight n b = record b { weight = n }

abbrev pub with_target : ℕ → plain.Bridge → plain.Bridge
with_target k b = record b { target = k }

abbrev pub with_head : List plain.Formula → plain.Bridge → plain.Bridge
with_head [] b = b
with_head (f ∷ fs) b = record b { head = f }

abbrev pub the_read : ℕ → plain.Formula → plain.Read
the_read source f = record { context = source; belief = f }

abbrev pub with_read : Bool → plain.Read → plain.Bridge → plain.Bridge
with_read true r b = record b { neg = b.neg ++ r ∷ [] }
with_read false r b = record b { pos = b.pos ++ r ∷ [] }

-- ---- a token
abbrev pub pushed : Account → plain.Formula → Account
pushed a f = record a { operands = f ∷ a.operands }

-- the last context is of the kind that is said, and has no item
abbrev pub of_kind : Option plain.Kind → Account → Account
of_kind None a = a
of_kind (Some k) a = record a { contexts = in_last (with_kb (plain.OfKind k [])) a.contexts }

abbrev pub took : Account → Class → Token → Account
took a class.NamesContext t = record a { contexts = a.contexts ++ record { name = t; kb = plain.Classical [] } ∷ [] }
took a class.EndsItem t = record a { contexts = in_last (with_item a.operands a.rule) a.contexts; operands = []; rule = no_rule }
took a class.IsHeadAtom t = record a { rule = record a.rule { head = a.rule.head ++ t ∷ [] } }
took a class.DeniesLiteral t = record a { denied = true }
took a class.IsBodyAtom t = record a { rule = with_literal a.denied t a.rule; denied = false }
took a class.NamesBridge t = record a { bridges = a.bridges ++ named_rule t ∷ [] }
took a class.Keeps t = record a { bridges = in_last with_keep a.bridges }
took a class.Closes t = record a { bridges = in_last with_closed a.bridges }
took a class.Weighs t = record a { bridges = in_last (with_weight (weight_of t)) a.bridges }
took a class.WeighsTwo t = record a { bridges = in_last (with_weight (weight_of t)) a.bridges }
took a class.NamesTarget t = record a { bridges = in_last (with_target (number_of a.contexts t)) a.bridges }
took a class.DeniesRead t = record a { denied = true }
took a class.NamesSource t = record a { source = number_of a.contexts t }
took a class.EndsBridge t = record a { bridges = in_last (with_head a.operands) a.bridges; operands = [] }
took a class.IsTrue t = pushed a plain.Truth
took a class.IsFalse t = pushed a plain.Falsity
took a class.IsAtom t = pushed a (plain.Atom t)
took a c t = of_kind (kind_said c) a

-- ---- an action
-- the formulas that are whole after it
abbrev pub made_of : Making → List plain.Formula → List plain.Formula
made_of (OfOne p) (f ∷ fs) = prefixed p f ∷ fs
made_of (OfTwo j) (g ∷ f ∷ fs) = plain.Joined j f g ∷ fs
made_of m fs = fs

abbrev pub joined : Action → List plain.Formula → List plain.Formula
joined a fs = made_of (making a) fs

-- a connective of two
abbrev pub IsOfTwo : Making → Type 0
IsOfTwo (OfTwo j) = Unit {0}
IsOfTwo m = ⊥

abbrev pub IsJoining : Action → Type 0
IsJoining a = IsOfTwo (making a)

abbrev pub read_added : Account → List plain.Formula → Account
read_added a [] = a
read_added a (f ∷ fs) = record a { bridges = in_last (with_read a.denied (the_read a.source f)) a.bridges; operands = fs; denied = false }

abbrev pub told : Account → Action → Account
told a action.EndsRead = read_added a a.operands
told a b = record a { operands = joined b a.operands }

abbrev pub account_step : Account → Mark Class Action Token → Account
account_step a (Seen c t) = took a c t
account_step a (Said b) = told a b

abbrev pub accounted : Account → Marked → Account
accounted a [] = a
accounted a (m ∷ ms) = accounted (account_step a m) ms

-- ---- what the tokens are there for
pub record Place : Type 0 where
  -- the context that is spoken of, and that of the head of the rule
  pub context : Name
  pub target : Name
  -- of the formula or the program rule: the tokens that count, and the open parentheses
  pub counted : ℕ
  pub opened : ℕ
  -- what the next token begins
  pub begins : List Use

abbrev pub no_place : Place
no_place = record { context = []; target = []; counted = 0; opened = 0; begins = [] }

abbrev pub when : Bool → Use → List Use
when true u = u ∷ []
when false u = []

abbrev pub own_uses : Place → Class → Token → List Use
own_uses p class.BeginsContext t = BeginsContext ∷ []
own_uses p class.NamesContext t = NamesContext t ∷ []
own_uses p class.SaysProgram t = SaysProgram p.context ∷ []
own_uses p class.BeginsDefault t = BeginsDefault p.context ∷ []
own_uses p class.IsHeadAtom t = AtomOf p.context t ∷ IsNumber (p.counted + 1) ∷ []
own_uses p class.IsBodyAtom t = AtomOf p.context t ∷ IsNumber (p.counted + 1) ∷ []
own_uses p class.BeginsBridge t = BeginsBridge ∷ []
own_uses p class.NamesBridge t = NamesBridge t ∷ []
own_uses p class.Weighs t = Weighs (value_of_digits t) ∷ []
own_uses p class.WeighsTwo t = Weighs (value_of_digits t) ∷ []
own_uses p class.NamesTarget t = NamesTarget t ∷ []
own_uses p class.NamesSource t = NamesSource t ∷ []
own_uses p class.IsAtom t = AtomOf p.context t ∷ IsNumber (p.counted + 1) ∷ []
own_uses p class.OpensParenthesis t = OpensWithin p.opened ∷ []
own_uses p c t = when (is_counted c) (IsNumber (p.counted + 1))

abbrev pub uses_at : Place → Class → Token → List Use
uses_at p class.ClosesItems t = []
uses_at p c t = p.begins ++ own_uses p c t

-- where a read of this belief may end with it
abbrev pub uses_with : Bool → Place → Class → Token → plain.Formula → List Use
uses_with ends p c t f = when ends (EndsRead p.target p.context f) ++ uses_at p c t

abbrev pub next_counted : Place → Place
next_counted p = record p { counted = p.counted + 1; begins = [] }

abbrev pub counted_if : Bool → Place → Place
counted_if true p = next_counted p
counted_if false p = record p { begins = [] }

abbrev pub place_after : Place → Class → Token → Place
place_after p class.NamesContext t = record p { context = t; target = t; begins = [] }
place_after p class.OpensItems t = record p { counted = 0; begins = BeginsItem p.context ∷ [] }
place_after p class.EndsItem t = record p { counted = 0; begins = BeginsItem p.context ∷ [] }
place_after p class.BeginsDefault t = record p { counted = 0; begins = [] }
place_after p class.SeparatesJustifications t = record p { counted = 0; begins = [] }
place_after p class.BeginsConclusion t = record p { counted = 0; begins = [] }
place_after p class.IsHeadAtom t = next_counted p
place_after p class.IsBodyAtom t = next_counted p
place_after p class.NamesTarget t = record p { context = t; target = t; begins = [] }
place_after p class.NamesSource t = record p { context = t; begins = [] }
place_after p class.BeginsBelief t = record p { counted = 0; begins = BeginsBelief p.context ∷ [] }
place_after p class.IsAtom t = next_counted p
place_after p class.OpensParenthesis t = record p { opened = p.opened + 1; begins = [] }
place_after p class.ClosesParenthesis t = record p { opened = p.opened - 1; begins = [] }
place_after p c t = counted_if (is_counted c) p

-- the place, the formulas that are whole, and the tokens so far with what they are there for
pub record Course : Type 0 where
  pub place : Place
  pub operands : List plain.Formula
  pub entries : List Entry

-- the formulas after a token of the class
abbrev pub operands_after : List plain.Formula → Class → Token → List plain.Formula
operands_after fs class.EndsItem t = []
operands_after fs class.EndsBridge t = []
operands_after fs class.IsTrue t = plain.Truth ∷ fs
operands_after fs class.IsFalse t = plain.Falsity ∷ fs
operands_after fs class.IsAtom t = plain.Atom t ∷ fs
operands_after fs c t = fs

abbrev pub read_ends : Course → List plain.Formula → Course
read_ends s [] = s
read_ends s (f ∷ fs) = record s { operands = fs; entries = with_last (EndsRead s.place.target s.place.context f ∷ []) s.entries }

abbrev pub course_told : Course → Action → Course
course_told s action.EndsRead = read_ends s s.operands
course_told s b = record s { operands = joined b s.operands }

abbrev pub course_step : Course → Mark Class Action Token → Course
course_step s (Seen c t) = record { place = place_after s.place c t; operands = operands_after s.operands c t; entries = s.entries ++ entry t (uses_at s.place c t) ∷ [] }
course_step s (Said b) = course_told s b

abbrev pub followed : Course → Marked → Course
followed s [] = s
followed s (m ∷ ms) = followed (course_step s m) ms

-- before the first token
abbrev pub first_course : Course
first_course = record { place = no_place; operands = []; entries = [] }

-- what the tokens are there for
abbrev pub entries_in : Marked → List Entry
entries_in ms = (followed first_course ms).entries
