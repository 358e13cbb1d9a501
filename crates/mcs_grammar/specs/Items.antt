-- What is written of the items of contexts, kind by kind: signs, formulas and items, the tokens of each with what they are
-- there for, and what is said by it. All else is said of all kinds and of all signs at once.
--
--   text    = [ "version" "2" "." ] { context } { bridge }
--   context = "context" name "classical" "{" { formula "." } "}"
--           | "context" name "default"   "{" { item "." } "}"
--           | "context" name "program"   "{" { rule "." } "}"
--   item    = formula [ ":" formula { "," formula } "/" formula ]
--   rule    = name { "|" name } [ ":-" [ body ] ] | ":-" [ body ]
--   body    = literal { "," literal }
--   literal = [ "not" ] name
--   bridge  = "bridge" name marks ":" place [ "if" read { "," read } ] "."
--   marks   = [ "keep" ] [ "closed" ] [ "weight" number ]
--   read    = [ "not" ] place
--   place   = name ":" primary
--   formula = implication [ "<->" formula ]
--   implication = disjunction [ "->" implication ]
--   disjunction = conjunction { "|" conjunction }
--   conjunction = primary { "&" primary }
--   primary = "~" primary | "(" formula ")" | "true" | "false" | name
--
-- A number that is a weight does not begin with `0`. A text that does not begin with `version` has no rule with marks.
use Rattle.std.specs.Prelude.{◌≡◌, ℕ, ◌+◌, ◌≤◌, Bool, true, false, not, ◌&&◌, IsTrue, List, [], ◌∷◌, ◌++◌, map, filter, codes, length}
use Rattle.std.specs.List.{AllByRecursion, flat_map}
use Rattle.mcs_base.specs.Words.{is_word, is_reserved}
use Rattle.mcs_system.specs.Plain.{Name, Connective, Conjunction, Disjunction, Implication, Equivalence, Kind, ClassicalKind, DefaultKind, ProgramKind, ItemOf}
use Rattle.mcs_system.specs.Plain as plain

-- the bytes of a token
abbrev pub Token : Type 0
Token = List ℕ

-- ---- signs
-- a sign before a formula
pub data Prefix : Type 0 where
  Denial : Prefix

abbrev pub prefix_sign : Prefix → Token
prefix_sign Denial = codes "~"

abbrev pub prefixed : Prefix → plain.Formula → plain.Formula
prefixed Denial f = plain.Not f

-- the sign between two formulas
abbrev pub joint_sign : Connective → Token
joint_sign Conjunction = codes "&"
joint_sign Disjunction = codes "|"
joint_sign Implication = codes "->"
joint_sign Equivalence = codes "<->"

abbrev pub joint_level : Connective → ℕ
joint_level Conjunction = 1
joint_level Disjunction = 2
joint_level Implication = 3
joint_level Equivalence = 4

-- the highest levels that may stand before and after a sign without parentheses: `&` and `|` group to the left, `->` and
-- `<->` to the right
abbrev pub left_level : Connective → ℕ
left_level Conjunction = 1
left_level Disjunction = 2
left_level Implication = 2
left_level Equivalence = 3

abbrev pub right_level : Connective → ℕ
right_level Conjunction = 0
right_level Disjunction = 1
right_level Implication = 3
right_level Equivalence = 4

-- ---- formulas
-- `Grouped` is one in parentheses
pub data Written : Type 0 where
  True' : Written
  False' : Written
  Named : (name : Name) → Written
  Prefixed : (p : Prefix) (f : Written) → Written
  Grouped : (f : Written) → Written
  Joins : (j : Connective) (f g : Written) → Written

-- 0 for a primary, 1 for a conjunction, 2 for a disjunction, 3 for an implication, 4 for an equivalence
abbrev pub level : Written → ℕ
level (Joins j f g) = joint_level j
level f = 0

-- what stands beside a sign without parentheses
abbrev pub IsGrouped : Written → Type 0
IsGrouped True' = Unit {0}
IsGrouped False' = Unit {0}
IsGrouped (Named name) = Unit {0}
IsGrouped (Prefixed p f) = IsGrouped f × (level f ≡ 0)
IsGrouped (Grouped f) = IsGrouped f
IsGrouped (Joins j f g) = IsGrouped f × (level f ≤ left_level j) × IsGrouped g × (level g ≤ right_level j)

-- a word that is not reserved; of what length is no matter of the grammar
abbrev pub IsNameWord : Name → Type 0
IsNameWord n = IsTrue (is_word n && not (is_reserved n))

abbrev pub HasNames : Written → Type 0
HasNames (Named name) = IsNameWord name
HasNames True' = Unit {0}
HasNames False' = Unit {0}
HasNames (Prefixed p f) = HasNames f
HasNames (Grouped f) = HasNames f
HasNames (Joins j f g) = HasNames f × HasNames g

abbrev pub IsFormula : Written → Type 0
IsFormula f = IsGrouped f × HasNames f

-- what it says, without its parentheses
abbrev pub formula_in : Written → plain.Formula
formula_in True' = plain.Truth
formula_in False' = plain.Falsity
formula_in (Named name) = plain.Atom name
formula_in (Prefixed p f) = prefixed p (formula_in f)
formula_in (Grouped f) = formula_in f
formula_in (Joins j f g) = plain.Joined j (formula_in f) (formula_in g)

-- ---- items
pub record WrittenDefault : Type 0 where
  pub pre : Written
  pub first_just : Written
  pub justs : List Written
  pub conclusion : Written

pub data WrittenItem : Type 0 where
  Fact : (f : Written) → WrittenItem
  Rule : (d : WrittenDefault) → WrittenItem

abbrev pub IsItem : WrittenItem → Type 0
IsItem (Fact f) = IsFormula f
IsItem (Rule d) = IsFormula d.pre × AllByRecursion IsFormula (d.first_just ∷ d.justs) × IsFormula d.conclusion

abbrev pub default_said : WrittenDefault → plain.Default
default_said d = record { pre = formula_in d.pre; justs = formula_in d.first_just ∷ map formula_in d.justs; conclusion = formula_in d.conclusion }

abbrev pub item_in : WrittenItem → plain.Item
item_in (Fact f) = plain.Fact (formula_in f)
item_in (Rule d) = plain.Rule (default_said d)

-- ---- program rules
pub record WrittenLiteral : Type 0 where
  pub denied : Bool
  pub atom : Name

-- with a head, with or without `:-`; or without a head, with `:-`
pub record WrittenRule : Type 0 where
  pub head : List Name
  pub has_sign : Bool
  pub body : List WrittenLiteral

-- without a head there is the sign, and without the sign there is no body
pub record IsRule (r : WrittenRule) : Type 0 where
  pub head_names : AllByRecursion IsNameWord r.head
  pub body_names : AllByRecursion (λ (l : WrittenLiteral). IsNameWord l.atom) r.body
  pub head_or_sign : r.head ≡ [] → r.has_sign ≡ true
  pub body_after_sign : r.has_sign ≡ false → r.body ≡ []

-- the atoms of the literals that are, or are not, denied
abbrev pub positive_atoms : List WrittenLiteral → List Name
positive_atoms ls = map (λ (l : WrittenLiteral). l.atom) (filter (λ (l : WrittenLiteral). not l.denied) ls)

abbrev pub negative_atoms : List WrittenLiteral → List Name
negative_atoms ls = map (λ (l : WrittenLiteral). l.atom) (filter (λ (l : WrittenLiteral). l.denied) ls)

abbrev pub rule_in : WrittenRule → plain.ProgramRule
rule_in r = record { head = r.head; pos = positive_atoms r.body; neg = negative_atoms r.body }

-- ---- what a token is there for
pub data Use : Type 0 where
  -- the word `context`, and the word `bridge`
  BeginsContext : Use
  BeginsBridge : Use
  -- the name after it
  NamesContext : (context : Name) → Use
  NamesBridge : (bridge : Name) → Use
  -- the number after the word `weight`
  Weighs : (weight : ℕ) → Use
  -- the word that says that the context is a program
  SaysProgram : (context : Name) → Use
  -- the first token of an item of the context
  BeginsItem : (context : Name) → Use
  -- the first colon of a default of the context
  BeginsDefault : (context : Name) → Use
  -- the context's name in the head of a rule, and in a read
  NamesTarget : (context : Name) → Use
  NamesSource : (context : Name) → Use
  -- the first token of a head into the context, or of a belief that is read of it
  BeginsBelief : (context : Name) → Use
  -- the last token of a read of a rule into the target
  EndsRead : (target context : Name) (belief : plain.Formula) → Use
  -- an atom of the context
  AtomOf : (context atom : Name) → Use
  -- the n-th token of one formula that is not a parenthesis, or the n-th name of one program rule
  IsNumber : (n : ℕ) → Use
  -- an opening parenthesis with n others opened before it
  OpensWithin : (n : ℕ) → Use

pub record Entry : Type 0 where
  pub token : Token
  pub uses : List Use

abbrev pub entry : Token → List Use → Entry
entry token uses = record { token = token; uses = uses }

abbrev pub optional : Bool → Token → List Entry
optional true token = entry token [] ∷ []
optional false token = []

-- ---- the tokens of a formula
-- how many tokens are not parentheses
abbrev pub size_of : Written → ℕ
size_of True' = 1
size_of False' = 1
size_of (Named name) = 1
size_of (Prefixed p f) = size_of f + 1
size_of (Grouped f) = size_of f
size_of (Joins j f g) = size_of f + size_of g + 1

-- of a formula of the context, where n tokens of it that are no parentheses were before, and `opened` parentheses are open
abbrev pub formula_entries : Name → ℕ → ℕ → Written → List Entry
formula_entries c n opened True' = entry (codes "true") (IsNumber (n + 1) ∷ []) ∷ []
formula_entries c n opened False' = entry (codes "false") (IsNumber (n + 1) ∷ []) ∷ []
formula_entries c n opened (Named name) = entry name (AtomOf c name ∷ IsNumber (n + 1) ∷ []) ∷ []
formula_entries c n opened (Prefixed p f) = entry (prefix_sign p) (IsNumber (n + 1) ∷ []) ∷ formula_entries c (n + 1) opened f
formula_entries c n opened (Grouped f) = entry (codes "(") (OpensWithin opened ∷ []) ∷ (formula_entries c n (opened + 1) f ++ entry (codes ")") [] ∷ [])
formula_entries c n opened (Joins j f g) = formula_entries c n opened f ++ entry (joint_sign j) (IsNumber (n + size_of f + 1) ∷ []) ∷ formula_entries c (n + size_of f + 1) opened g

abbrev pub whole_entries : Name → Written → List Entry
whole_entries c f = formula_entries c 0 0 f

-- ---- the tokens of an item
-- a formula after a sign
abbrev pub after_sign : Token → Name → Written → List Entry
after_sign sign c f = entry sign [] ∷ whole_entries c f

abbrev pub default_entries : Name → WrittenDefault → List Entry
default_entries c d =
    whole_entries c d.pre ++ entry (codes ":") (BeginsDefault c ∷ []) ∷ (whole_entries c d.first_just ++ (flat_map (after_sign (codes ",") c) d.justs ++ after_sign (codes "/") c d.conclusion))

abbrev pub item_entries : Name → WrittenItem → List Entry
item_entries c (Fact f) = whole_entries c f
item_entries c (Rule d) = default_entries c d

-- ---- the tokens of a program rule
-- an atom that is number n of the names of its rule
abbrev pub atom_entry : Name → ℕ → Name → Entry
atom_entry c n name = entry name (AtomOf c name ∷ IsNumber n ∷ [])

-- the names of the head after the first
abbrev pub further_heads : Name → ℕ → List Name → List Entry
further_heads c n [] = []
further_heads c n (a ∷ names) = entry (codes "|") [] ∷ atom_entry c (n + 1) a ∷ further_heads c (n + 1) names

abbrev pub head_entries : Name → List Name → List Entry
head_entries c [] = []
head_entries c (a ∷ names) = atom_entry c 1 a ∷ further_heads c 1 names

-- after n names of the rule
abbrev pub literal_entries : Name → ℕ → WrittenLiteral → List Entry
literal_entries c n l = optional l.denied (codes "not") ++ atom_entry c (n + 1) l.atom ∷ []

abbrev pub further_literals : Name → ℕ → List WrittenLiteral → List Entry
further_literals c n [] = []
further_literals c n (l ∷ ls) = entry (codes ",") [] ∷ (literal_entries c n l ++ further_literals c (n + 1) ls)

abbrev pub body_entries : Name → ℕ → List WrittenLiteral → List Entry
body_entries c n [] = []
body_entries c n (l ∷ ls) = literal_entries c n l ++ further_literals c (n + 1) ls

abbrev pub rule_entries : Name → WrittenRule → List Entry
rule_entries c r = head_entries c r.head ++ (optional r.has_sign (codes ":-") ++ body_entries c (length r.head) r.body)

-- ---- the kinds of contexts
-- an item
abbrev pub WrittenOf : Kind → Type 0
WrittenOf ClassicalKind = Written
WrittenOf DefaultKind = WrittenItem
WrittenOf ProgramKind = WrittenRule

abbrev pub IsWrittenIn : (k : Kind) → WrittenOf k → Type 0
IsWrittenIn ClassicalKind = IsFormula
IsWrittenIn DefaultKind = IsItem
IsWrittenIn ProgramKind = IsRule

abbrev pub said_in : (k : Kind) → WrittenOf k → ItemOf k
said_in ClassicalKind = formula_in
said_in DefaultKind = item_in
said_in ProgramKind = rule_in

-- of an item of the context
abbrev pub entries_in : (k : Kind) → Name → WrittenOf k → List Entry
entries_in ClassicalKind = whole_entries
entries_in DefaultKind = item_entries
entries_in ProgramKind = rule_entries

abbrev pub kind_word : Kind → Token
kind_word ClassicalKind = codes "classical"
kind_word DefaultKind = codes "default"
kind_word ProgramKind = codes "program"

-- what the word is there for
abbrev pub kind_uses : Kind → Name → List Use
kind_uses ProgramKind c = SaysProgram c ∷ []
kind_uses k c = []
