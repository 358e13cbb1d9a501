-- What is written in a text: its parts with their parentheses, in the order of their tokens.
use Rattle.std.specs.Prelude.{◌≡◌, ◌≢◌, ℕ, Bool, false, IsTrue, List, Option, Some, None, slice_index}
use Rattle.std.specs.List.{AllByRecursion}
use Rattle.mcs_system.specs.Plain.{Name, Kind}
use Rattle.mcs_tokens.specs.Kinds.{zero_digit}
use Rattle.mcs_tokens.specs.Tokens.{is_number}
pub use Rattle.mcs_grammar.specs.Items.{Prefix, Denial, Written, True', False', Named, Prefixed, Grouped, Joins, level, IsGrouped, IsNameWord, HasNames, IsFormula, WrittenDefault, WrittenItem, Fact, Rule, IsItem, WrittenLiteral, WrittenRule, IsRule, WrittenOf, IsWrittenIn}

-- the items of a context of one kind
pub data WrittenKb : Type 0 where
  OfKind : (kind : Kind) (items : List (WrittenOf kind)) → WrittenKb

pub record WrittenContext : Type 0 where
  pub name : Name
  pub kb : WrittenKb

pub record WrittenPlace : Type 0 where
  pub context : Name
  pub belief : Written

pub record WrittenRead : Type 0 where
  pub denied : Bool
  pub place : WrittenPlace

-- what stands after the name of a rule: the words `keep` and `closed`, and the digits after the word `weight`
pub record WrittenMarks : Type 0 where
  pub keep : Bool
  pub closed : Bool
  pub weight : Option (List ℕ)

pub record WrittenBridge : Type 0 where
  pub name : Name
  pub marks : WrittenMarks
  pub head : WrittenPlace
  pub reads : List WrittenRead

pub record WrittenText : Type 0 where
  -- whether it begins with `version 2.`
  pub has_version : Bool
  pub contexts : List WrittenContext
  pub bridges : List WrittenBridge

-- ---- which of them are of the grammar
abbrev pub IsKb : WrittenKb → Type 0
IsKb (OfKind k items) = AllByRecursion (IsWrittenIn k) items

abbrev pub IsContext : WrittenContext → Type 0
IsContext c = IsNameWord c.name × IsKb c.kb

abbrev pub IsPlace : WrittenPlace → Type 0
IsPlace p = IsNameWord p.context × IsFormula p.belief × (level p.belief ≡ 0)

-- digits, of which the first is not `0`
abbrev pub IsWeight : Option (List ℕ) → Type 0
IsWeight None = Unit {0}
IsWeight (Some digits) = IsTrue (is_number digits) × (slice_index digits 0 ≢ zero_digit)

abbrev pub no_marks : WrittenMarks
no_marks = record { keep = false; closed = false; weight = None }

abbrev pub IsWrittenBridge : WrittenBridge → Type 0
IsWrittenBridge b = IsNameWord b.name × IsPlace b.head × AllByRecursion (λ (r : WrittenRead). IsPlace r.place) b.reads × IsWeight b.marks.weight

abbrev pub IsText : WrittenText → Type 0
IsText t = AllByRecursion IsContext t.contexts × AllByRecursion IsWrittenBridge t.bridges × (t.has_version ≡ false → AllByRecursion (λ (b : WrittenBridge). b.marks ≡ no_marks) t.bridges)
