-- The faults of a text, each at a token: they are said of what stands written up to the token.
use Rattle.std.specs.Prelude.{◌≡◌, ℕ, ◌+◌, ◌<◌, ◌≤◌, Bool, true, false, List, [], ◌∷◌, take, length, count_by, Option, Some, None, slice_get, ◌⊎◌, ◌↔◌}
use Rattle.mcs_base.specs.Listings.{IsAmong}
use Rattle.mcs_base.specs.Words.{most_name_bytes}
use Rattle.mcs_system.specs.Plain.{Name, Formula}
use Rattle.mcs_system.specs.Logic.{same_name}
use Rattle.mcs_system.specs.Limits.{most}
use Rattle.mcs_system.specs.declared.limit.Limit.{Limit}
use Rattle.mcs_system.specs.declared.limit.Limit.TheVariants.{Contexts, Bridges, RulesPerContext, Variables, InputsPerContext, AtomsPerContext, DefaultsPerContext, ItemsPerContext, Weight, FormulaSize, OpenParentheses, NameBytes}
use Rattle.mcs_grammar.specs.Written.{IsNameWord, WrittenText, IsText}
use Rattle.mcs_grammar.specs.Entries.{Token, Use, BeginsContext, BeginsBridge, NamesContext, NamesBridge, Weighs, SaysProgram, BeginsItem, BeginsDefault, NamesTarget, NamesSource, BeginsBelief, EndsRead, AtomOf, IsNumber, OpensWithin, Entry, text_entries, tokens_of, uses_of}

-- ---- how many there were before

abbrev pub begins_context : Use → Bool
begins_context BeginsContext = true
begins_context u = false

abbrev pub begins_bridge : Use → Bool
begins_bridge BeginsBridge = true
begins_bridge u = false

abbrev pub names_target : Name → Use → Bool
names_target c (NamesTarget d) = same_name c d
names_target c u = false

abbrev pub begins_default_of : Name → Use → Bool
begins_default_of c (BeginsDefault d) = same_name c d
begins_default_of c u = false

abbrev pub begins_item_of : Name → Use → Bool
begins_item_of c (BeginsItem d) = same_name c d
begins_item_of c u = false

-- a list without repeats
abbrev pub AreDifferent : {A : Type 0} → List A → Type 0
AreDifferent [] = Unit {0}
AreDifferent (x ∷ xs) = (¬ IsAmong x xs) × AreDifferent xs

-- n different values were there before, and x is one more
pub record IsOneMore {A : Type 0} (n : ℕ) (before : A → Type 0) (x : A) : Type 0 where
  pub values : List A
  pub different : AreDifferent values
  pub all : (y : A) → IsAmong y values ↔ before y
  pub count : length values ≡ n
  pub new : ¬ before x

-- a belief of the context of this name
pub record NamedRead : Type 0 where
  pub context : Name
  pub belief : Formula

abbrev pub WasReadInto : List Use → Name → NamedRead → Type 0
WasReadInto before target r = IsAmong (EndsRead target r.context r.belief) before

abbrev pub WasRead : List Use → NamedRead → Type 0
WasRead before r = (target : Name) × WasReadInto before target r

abbrev pub WasAtom : List Use → Name → Name → Type 0
WasAtom before context atom = IsAmong (AtomOf context atom) before

-- ---- the faults, apart from the grammar's

pub data TextFault : Type 0 where
  -- the tokens up to this one begin no text
  NoGrammar : TextFault
  -- no context has the name
  NoContext : TextFault
  -- an earlier context, or an earlier rule, has the name
  Twin : TextFault
  -- a head into a program or a belief of one is not an atom
  NoAtom : TextFault
  -- one above a limit
  Exceeds : (limit : Limit) → TextFault

abbrev pub fault_number : TextFault → ℕ
fault_number NoGrammar = 1
fault_number NoContext = 2
fault_number Twin = 3
fault_number NoAtom = 4
fault_number (Exceeds limit) = 5

abbrev pub limit_of : TextFault → Option Limit
limit_of (Exceeds limit) = Some limit
limit_of fault = None

abbrev pub row : Limit → ℕ
row Contexts = 0
row Bridges = 1
row RulesPerContext = 2
row Variables = 3
row InputsPerContext = 4
row AtomsPerContext = 5
row DefaultsPerContext = 6
row ItemsPerContext = 7
row Weight = 8
row FormulaSize = 9
row OpenParentheses = 10
row NameBytes = 11

-- the lower one is told
abbrev pub rank : TextFault → ℕ
rank (Exceeds limit) = 5 + row limit
rank fault = fault_number fault

-- what is there for this, and more of it than the limit allows
abbrev pub ExceedsLimit : Limit → List Use → Entry → Type 0
ExceedsLimit Contexts before m = IsAmong BeginsContext m.uses × (count_by begins_context before ≡ most Contexts)
ExceedsLimit Bridges before m = IsAmong BeginsBridge m.uses × (count_by begins_bridge before ≡ most Bridges)
ExceedsLimit RulesPerContext before m = (c : Name) × IsAmong (NamesTarget c) m.uses × (count_by (names_target c) before ≡ most RulesPerContext)
ExceedsLimit Variables before m = (t : Name) × ((r : NamedRead) × IsAmong (EndsRead t r.context r.belief) m.uses × IsOneMore (most Variables) (WasRead before) r)
ExceedsLimit InputsPerContext before m = (t : Name) × ((r : NamedRead) × IsAmong (EndsRead t r.context r.belief) m.uses × IsOneMore (most InputsPerContext) (WasReadInto before t) r)
ExceedsLimit AtomsPerContext before m = (c : Name) × ((a : Name) × IsAmong (AtomOf c a) m.uses × IsOneMore (most AtomsPerContext) (WasAtom before c) a)
ExceedsLimit DefaultsPerContext before m = (c : Name) × IsAmong (BeginsDefault c) m.uses × (count_by (begins_default_of c) before ≡ most DefaultsPerContext)
ExceedsLimit ItemsPerContext before m = (c : Name) × IsAmong (BeginsItem c) m.uses × (count_by (begins_item_of c) before ≡ most ItemsPerContext)
ExceedsLimit Weight before m = (w : ℕ) × IsAmong (Weighs w) m.uses × (most Weight < w)
ExceedsLimit FormulaSize before m = IsAmong (IsNumber (most FormulaSize + 1)) m.uses
ExceedsLimit OpenParentheses before m = IsAmong (OpensWithin (most OpenParentheses)) m.uses
ExceedsLimit NameBytes before m = IsNameWord m.token × (most_name_bytes < length m.token)

-- of a token that is there for something, after what the tokens before it are there for
abbrev pub Has : TextFault → List Use → Entry → Type 0
Has NoGrammar before m = ⊥
Has NoContext before m = (c : Name) × (IsAmong (NamesTarget c) m.uses ⊎ IsAmong (NamesSource c) m.uses) × (¬ IsAmong (NamesContext c) before)
Has Twin before m =
    ((c : Name) × IsAmong (NamesContext c) m.uses × IsAmong (NamesContext c) before)
    ⊎ ((b : Name) × IsAmong (NamesBridge b) m.uses × IsAmong (NamesBridge b) before)
Has NoAtom before m = (c : Name) × IsAmong (BeginsBelief c) m.uses × IsAmong (SaysProgram c) before × (¬ IsNameWord m.token)
Has (Exceeds limit) before m = ExceedsLimit limit before m

-- ---- a fault at the token of number k, counted from 0; the end counts as one more token

-- the tokens are the first ones of a text
pub record BeginsText (tokens : List Token) : Type 0 where
  pub text : WrittenText
  pub grammar : IsText text
  pub first : take (length tokens) (tokens_of (text_entries text)) ≡ tokens

abbrev pub IsWholeText : List Token → Type 0
IsWholeText tokens = (text : WrittenText) × IsText text × (tokens_of (text_entries text) ≡ tokens)

-- the first k + 1 tokens are those of a text, in which token k has the fault
pub record IsEntered (tokens : List Token) (k : ℕ) (fault : TextFault) : Type 0 where
  pub text : WrittenText
  pub grammar : IsText text
  pub same : take (k + 1) (tokens_of (text_entries text)) ≡ take (k + 1) tokens
  pub here : Entry
  pub is_here : slice_get (text_entries text) k ≡ Some here
  pub has : Has fault (uses_of (take k (text_entries text))) here

abbrev pub IsFaultAt : List Token → ℕ → TextFault → Type 0
IsFaultAt tokens k NoGrammar = ((k < length tokens) × (¬ BeginsText (take (k + 1) tokens))) ⊎ ((k ≡ length tokens) × (¬ IsWholeText tokens))
IsFaultAt tokens k fault = (k < length tokens) × IsEntered tokens k fault

-- the first token at which a fault holds decides, and of its faults the lowest
pub record IsFirstTextFault (tokens : List Token) (k : ℕ) (fault : TextFault) : Type 0 where
  pub holds : IsFaultAt tokens k fault
  pub lowest : (g : TextFault) → IsFaultAt tokens k g → rank fault ≤ rank g
  pub first : (j : ℕ) (g : TextFault) → j < k → ¬ IsFaultAt tokens j g
