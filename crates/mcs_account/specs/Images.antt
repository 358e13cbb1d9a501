-- What the code holds of a text, as plain data.
use Rattle.std.specs.Prelude.{◌≡◌, ℕ, ◌≤◌, min, List, [], ◌∷◌, ◌++◌, length, map, reverse}
use Rattle.mcs_base.specs.Listings.{IsAmong}
use Rattle.mcs_base.specs.Words.{most_name_bytes}
use Rattle.mcs_base.specs.Numbers.{value_of_digits}
use Rattle.mcs_system.specs.Plain.{Name}
use Rattle.mcs_system.specs.Plain as plain
use Rattle.mcs_system.specs.Seen.{bridge_of, context_of, formula_of, rule_of}
use Rattle.mcs_system.specs.declared.formula.Formula as code_formula
use Rattle.mcs_system.specs.declared.knowledge.Context as code_context
use Rattle.mcs_grammar.specs.Written.{WrittenPlace}
use Rattle.mcs_grammar.specs.Entries.{Token, formula_in, Use, BeginsContext, BeginsBridge, NamesContext, NamesBridge, Weighs, SaysProgram, BeginsItem, BeginsDefault, NamesTarget, NamesSource, BeginsBelief, EndsRead, AtomOf, IsNumber, OpensWithin}
use Rattle.mcs_grammar.specs.Faults.{NamedRead}
use Rattle.mcs_productions.specs.declared.class.Class.{Class}
use Rattle.mcs_productions.specs.declared.class.Class.TheVariants as class
use Rattle.mcs_account.specs.declared.account.Account as code
use Rattle.mcs_account.specs.declared.place.Place as code_place
use Rattle.mcs_account.specs.declared.place.Beginning as code_beginning
use Rattle.mcs_account.specs.declared.place.Beginning.TheVariants as begins
use Rattle.mcs_account.specs.declared.place.Role as code_role
use Rattle.mcs_account.specs.declared.place.Role.TheVariants as roles
use Rattle.mcs_account.specs.declared.place.Uses as code_uses
use Rattle.mcs_account.specs.declared.reader.NamedRead as code_read
use Rattle.mcs_account.specs.Account.{Account, Place, when}

-- ---- of what was read
-- the last one first
abbrev pub operands_of : List code_formula.Formula → List plain.Formula
operands_of fs = reverse (map formula_of fs)

abbrev pub account_of : code.Account → Account
account_of a = record { contexts = map context_of a.contexts.items; bridges = map bridge_of a.bridges.items; operands = operands_of a.operands.items; rule = rule_of a.rule; denied = a.denied; source = a.source }

-- the names of contexts
abbrev pub names_of : List code_context.Context → List Name
names_of cs = map (λ (c : code_context.Context). c.name) cs

-- ---- of the place
-- the numbers are told up to one more than the first that is too high
abbrev pub most_number : ℕ
most_number = 514

abbrev pub IsBeginning : code_beginning.Beginning → Name → List Use → Type 0
IsBeginning begins.Nothing c us = us ≡ []
IsBeginning begins.Item c us = us ≡ BeginsItem c ∷ []
IsBeginning begins.Belief c us = us ≡ BeginsBelief c ∷ []

pub record IsPlace (n : code_place.Place) (p : Place) : Type 0 where
  pub counted : n.counted ≡ min p.counted most_number
  pub opened : n.opened ≡ p.opened
  pub begins : IsBeginning n.begins p.context p.begins

-- the numbers of the contexts of the next token, where a token of the class has a name with this number
abbrev pub context_chosen : Class → (number before : ℕ) → ℕ
context_chosen class.NamesContext number before = number
context_chosen class.NamesTarget number before = number
context_chosen class.NamesSource number before = number
context_chosen c number before = before

abbrev pub target_chosen : Class → (number before : ℕ) → ℕ
target_chosen class.NamesContext number before = number
target_chosen class.NamesTarget number before = number
target_chosen c number before = before

-- ---- of the uses
abbrev pub capped : Use → Use
capped (IsNumber n) = IsNumber (min n most_number)
capped u = u

-- the contexts that a token is said of: the one whose part it is or that is spoken of, and of a read the target
pub record Subject : Type 0 where
  pub context : Name
  pub target : Name

-- what a token is said of: its subject, and at the end of a read the belief
pub record About : Type 0 where
  pub subject : Subject
  pub belief : plain.Formula

abbrev pub about_place : Place → plain.Formula → About
about_place p f = record { subject = record { context = p.context; target = p.target }; belief = f }

-- the token is the name of a context or of a rule, or an atom
abbrev pub IsNaming : code_role.Role → Type 0
IsNaming roles.NamesContext = Unit {0}
IsNaming roles.NamesBridge = Unit {0}
IsNaming (roles.Atom n) = Unit {0}
IsNaming role = ⊥

abbrev pub role_uses : About → Token → code_role.Role → List Use
role_uses a t roles.Nothing = []
role_uses a t roles.BeginsContext = BeginsContext ∷ []
role_uses a t roles.BeginsBridge = BeginsBridge ∷ []
role_uses a t roles.NamesContext = NamesContext t ∷ []
role_uses a t roles.NamesBridge = NamesBridge t ∷ []
role_uses a t roles.Weighs = Weighs (value_of_digits t) ∷ []
role_uses a t roles.SaysProgram = SaysProgram a.subject.context ∷ []
role_uses a t roles.BeginsDefault = BeginsDefault a.subject.context ∷ []
role_uses a t roles.NamesTarget = NamesTarget t ∷ []
role_uses a t roles.NamesSource = NamesSource t ∷ []
role_uses a t (roles.Atom n) = AtomOf a.subject.context t ∷ IsNumber n ∷ []
role_uses a t (roles.Counted n) = IsNumber n ∷ []
role_uses a t (roles.Opens n) = OpensWithin n ∷ []

abbrev pub uses_in : About → Token → code_uses.Uses → List Use
uses_in a t u = when u.ends_read (EndsRead a.subject.target a.subject.context a.belief) ++ (when u.begins_belief (BeginsBelief a.subject.context) ++ (when u.begins_item (BeginsItem a.subject.context) ++ role_uses a t u.role))

-- ---- of the contexts
abbrev pub WasNamed : List Use → Name → Type 0
WasNamed before c = IsAmong (NamesContext c) before

-- what a token is said of, when it was named before
abbrev pub IsSpokenOf : List Use → Use → Type 0
IsSpokenOf before (SaysProgram c) = WasNamed before c
IsSpokenOf before (BeginsItem c) = WasNamed before c
IsSpokenOf before (BeginsDefault c) = WasNamed before c
IsSpokenOf before (BeginsBelief c) = WasNamed before c
IsSpokenOf before (AtomOf c a) = WasNamed before c
IsSpokenOf before (EndsRead t c f) = WasNamed before t × WasNamed before c
IsSpokenOf before u = Unit {0}

-- none of the names is longer than a name may be
abbrev pub AreShort : List Name → Type 0
AreShort names = (a : Name) → IsAmong a names → length a ≤ most_name_bytes

-- ---- of a read
abbrev pub named_read_of : code_read.NamedRead → NamedRead
named_read_of r = record { context = r.context; belief = formula_of r.belief }

abbrev pub read_in : WrittenPlace → NamedRead
read_in p = record { context = p.context; belief = formula_in p.belief }
