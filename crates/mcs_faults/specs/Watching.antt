-- What the watch over a text keeps: of what was seen so far, all that the faults of the next token depend on.
use Rattle.std.specs.Prelude.{◌≡◌, ℕ, ◌<◌, ◌≤◌, Bool, true, false, IsTrue, List, [], ◌∷◌, ◌++◌, map, length, count_by, Option, Some, None, slice_get, ◌⊎◌, ◌↔◌}
use Rattle.std.specs.List.{flat_map, AllByRecursion}
use Rattle.std.specs.Option.{option_copied}
use Rattle.mcs_base.specs.Listings.{IsAmong}
use Rattle.mcs_base.specs.Words.{most_name_bytes}
use Rattle.mcs_sets.specs.Sets.{has, size}
use Rattle.mcs_system.specs.Limits.{most}
use Rattle.mcs_system.specs.declared.limit.Limit.TheVariants.{Contexts, Bridges, RulesPerContext, Variables, InputsPerContext, AtomsPerContext, DefaultsPerContext, ItemsPerContext}
use Rattle.mcs_system.specs.Plain.{Name, Formula}
use Rattle.mcs_system.specs.Logic.{atoms}
use Rattle.mcs_faults.specs.declared.watch.Watch.{Watch}
use Rattle.mcs_faults.specs.declared.watch.ContextSeen.{ContextSeen}
use Rattle.mcs_faults.specs.declared.watch.Subject as code_subject
use Rattle.mcs_faults.specs.declared.watch.Said.{Said}
use Rattle.mcs_faults.specs.declared.fault.Fault as code_fault
use Rattle.mcs_faults.specs.declared.fault.Fault.TheVariants as faults
use Rattle.mcs_account.specs.declared.reader.NamedRead as code_read
use Rattle.mcs_account.specs.declared.place.Uses as code_uses
use Rattle.mcs_grammar.specs.Written.{IsNameWord}
use Rattle.mcs_grammar.specs.Entries.{Use, BeginsContext, BeginsBridge, NamesContext, NamesBridge, NamesTarget, SaysProgram, BeginsItem, BeginsDefault, EndsRead, AtomOf, Entry}
use Rattle.mcs_grammar.specs.Faults.{begins_context, begins_bridge, names_target, begins_default_of, begins_item_of, AreDifferent, NamedRead, WasReadInto, WasRead, WasAtom, IsOneMore, TextFault, NoGrammar, NoContext, Twin, NoAtom, Exceeds, rank, Has}
use Rattle.mcs_account.specs.Known.{contexts_named}
use Rattle.mcs_account.specs.Images.{named_read_of, Subject, About, capped, uses_in, IsSpokenOf, AreShort, IsNaming}

-- ---- what was named
abbrev pub bridge_named : Use → List Name
bridge_named (NamesBridge b) = b ∷ []
bridge_named u = []

abbrev pub bridges_named : List Use → List Name
bridges_named before = flat_map bridge_named before

-- exactly the values for which it holds, each once
abbrev pub ListsEach : {A : Type 0} → List A → (A → Type 0) → Type 0
ListsEach xs P = AreDifferent xs × ((x : _) → IsAmong x xs ↔ P x)

-- ---- of one context
pub record IsContextSeen (variables : List NamedRead) (before : List Use) (c : ContextSeen) : Type 0 where
  pub program : IsTrue c.is_program ↔ IsAmong (SaysProgram c.name) before
  pub rules : c.rules ≡ count_by (names_target c.name) before
  pub defaults : c.defaults ≡ count_by (begins_default_of c.name) before
  pub items : c.items ≡ count_by (begins_item_of c.name) before
  pub atoms : ListsEach c.atoms (WasAtom before c.name)
  -- the numbers, among the variables, of those that rules into the context read
  pub inputs : (k : ℕ) → IsTrue (has c.inputs k) ↔ ((r : NamedRead) × (slice_get variables k ≡ Some r) × WasReadInto before c.name r)
  pub few : (c.rules ≤ most RulesPerContext) × (c.defaults ≤ most DefaultsPerContext) × (c.items ≤ most ItemsPerContext) × (length c.atoms ≤ most AtomsPerContext) × (size c.inputs ≤ most InputsPerContext)

-- ---- of all
-- the names of the contexts that were named
abbrev pub names_seen : Watch → List Name
names_seen w = map (λ (c : ContextSeen). c.name) w.contexts.items

abbrev pub named_read : Name → Formula → NamedRead
named_read c f = record { context = c; belief = f }

pub record IsWatch (w : Watch) (before : List Use) : Type 0 where
  pub begun : w.contexts_begun ≡ count_by begins_context before
  pub bridges_begun : w.bridges_begun ≡ count_by begins_bridge before
  pub named : names_seen w ≡ contexts_named before
  pub bridges : w.bridges ≡ bridges_named before
  pub different : AreDifferent (contexts_named before) × AreDifferent (bridges_named before)
  pub variables : ListsEach (map named_read_of w.variables.items) (WasRead before)
  pub seen : AllByRecursion (IsContextSeen (map named_read_of w.variables.items) before) w.contexts.items
  pub few : (w.contexts_begun ≤ most Contexts) × (w.bridges_begun ≤ most Bridges) × (length w.variables.items ≤ most Variables)
  -- what was said of a context came after its name
  pub spoken : (u : Use) → IsAmong u before → IsSpokenOf before u
  pub targets : (c : Name) → IsAmong (NamesTarget c) before → IsAmong (NamesContext c) before
  pub short : (t c : Name) (f : Formula) → IsAmong (EndsRead t c f) before → AreShort (atoms f)

-- ---- a token
-- its number in the list, or the list's length where it is not there
abbrev pub IsNumberOf : {A : Type 0} → List A → A → ℕ → Type 0
IsNumberOf xs x k = (slice_get xs k ≡ Some x) ⊎ ((k ≡ length xs) × (¬ IsAmong x xs))

pub record IsSubject (w : Watch) (u : Subject) (s : code_subject.Subject) : Type 0 where
  pub context : IsNumberOf (names_seen w) u.context s.context
  pub target : IsNumberOf (names_seen w) u.target s.target

-- what the entry says of the token, and the read that ends with it
pub record IsSaid (a : About) (m : Entry) (uses : code_uses.Uses) (read : Option code_read.NamedRead) : Type 0 where
  pub uses_are : map capped m.uses ≡ uses_in a m.token uses
  pub read_is : uses.ends_read ≡ true → (r : code_read.NamedRead) → read ≡ Some r → named_read_of r ≡ record { context = a.subject.context; belief = a.belief }
  -- a read that ends with a name has it as an atom; there is no such read to hand where the name is too long
  pub has_atom : uses.ends_read ≡ true → IsNameWord m.token → IsAmong m.token (atoms a.belief)
  pub read_there : uses.ends_read ≡ true → read ≡ None → IsNameWord m.token × (most_name_bytes < length m.token)
  pub short : uses.ends_read ≡ true → (r : code_read.NamedRead) → read ≡ Some r → (IsNameWord m.token → length m.token ≤ most_name_bytes) → AreShort (atoms a.belief)
  pub names : IsNaming uses.role → IsNameWord m.token

-- all that is known of the watch and of the token
pub record IsEntryAsked (w : Watch) (before : List Use) (m : Entry) (a : About) (s : Said) : Type 0 where
  pub watch : IsWatch w before
  pub token_is : m.token ≡ s.token.now
  pub subject_is : IsSubject w a.subject s.subject
  pub said : IsSaid a m s.uses (option_copied s.read)
  pub spoken : AllByRecursion (IsSpokenOf before) m.uses

-- the answer is whether this holds of the token after those before it
abbrev pub AnswersTest : Bool → (List Use → Entry → Type 0) → Watch → Said → Type 0
AnswersTest answer P w s = (before : List Use) (m : Entry) (a : About) → IsEntryAsked w before m a s → IsTrue answer ↔ P before m

-- ---- one use more
-- what it is there for is no fault, after what the tokens before are there for
abbrev pub IsUseAllowed : List Use → Use → Type 0
IsUseAllowed before BeginsContext = ¬ (count_by begins_context before ≡ most Contexts)
IsUseAllowed before BeginsBridge = ¬ (count_by begins_bridge before ≡ most Bridges)
IsUseAllowed before (NamesContext c) = ¬ IsAmong (NamesContext c) before
IsUseAllowed before (NamesBridge b) = ¬ IsAmong (NamesBridge b) before
IsUseAllowed before (NamesTarget c) = IsAmong (NamesContext c) before × (¬ (count_by (names_target c) before ≡ most RulesPerContext))
IsUseAllowed before (BeginsDefault c) = ¬ (count_by (begins_default_of c) before ≡ most DefaultsPerContext)
IsUseAllowed before (BeginsItem c) = ¬ (count_by (begins_item_of c) before ≡ most ItemsPerContext)
IsUseAllowed before (AtomOf c a) = ¬ IsOneMore (most AtomsPerContext) (WasAtom before c) a
IsUseAllowed before (EndsRead t c f) = AreShort (atoms f) × (¬ IsOneMore (most Variables) (WasRead before) (named_read c f)) × (¬ IsOneMore (most InputsPerContext) (WasReadInto before t) (named_read c f))
IsUseAllowed before u = Unit {0}

-- nothing but the name was seen of the context
abbrev pub IsUnseenContext : ContextSeen → Name → Type 0
IsUnseenContext c n = (c.name ≡ n) × (c.is_program ≡ false) × (c.rules ≡ 0) × (c.items ≡ 0) × (c.defaults ≡ 0) × (c.atoms ≡ []) × (c.inputs ≡ 0)

-- the read is number j of the list now, to which it was added if it was not there
pub record IsHeld (old now : List NamedRead) (r : NamedRead) (j : ℕ) : Type 0 where
  pub there : slice_get now j ≡ Some r
  pub either : (now ≡ old) ⊎ ((now ≡ old ++ r ∷ []) × (¬ IsAmong r old))

abbrev pub HaveNoFault : List Use → List Use → Type 0
HaveNoFault before us = (u : Use) → IsAmong u us → IsSpokenOf before u × IsUseAllowed before u

-- ---- the faults
abbrev pub fault_for : code_fault.Fault → TextFault
fault_for faults.NoGrammar = NoGrammar
fault_for faults.NoContext = NoContext
fault_for faults.Twin = Twin
fault_for faults.NoAtom = NoAtom
fault_for (faults.Exceeds limit) = Exceeds limit

-- the lowest fault of the entry, or that it has none
abbrev pub IsLowestFault : Option code_fault.Fault → List Use → Entry → Type 0
IsLowestFault None before m = (f : TextFault) → ¬ Has f before m
IsLowestFault (Some g) before m = Has (fault_for g) before m × ((f : TextFault) → Has f before m → rank (fault_for g) ≤ rank f)

-- the lowest fault of the entry, or that it has none and the watch goes on
abbrev pub IsFaultVerdict : Option code_fault.Fault → List Use → Entry → Watch → Type 0
IsFaultVerdict None before m now = ((f : TextFault) → ¬ Has f before m) × IsWatch now (before ++ m.uses)
IsFaultVerdict (Some g) before m now = Has (fault_for g) before m × ((f : TextFault) → Has f before m → rank (fault_for g) ≤ rank f)
