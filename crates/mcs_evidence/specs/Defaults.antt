-- When it is accepted that a default theory has exactly some views: set by set of its defaults, whether the set generates an extension (Reiter 1980).
use Rattle.std.specs.Prelude.{◌≡◌, ℕ, zero, suc, ◌+◌, ◌^◌, cond, true, false, IsTrue, ◌↔◌, List, [], ◌∷◌, ◌++◌, map, length, Option, Some, None, slice_get}
use Rattle.std.specs.List.{AllByRecursion, AllZip, filter_map, flat_map}
use Rattle.mcs_sets.specs.Sets.{has, minus, such_that, members, Within}
use Rattle.mcs_sets.specs.Orders.{StateBefore}
use Rattle.mcs_base.specs.Listings.{IsAmong, AreApart, IsAscending}
use Rattle.mcs_system.specs.Plain.{Name, Formula, Not, Default, Item, Fact, Rule}
use Rattle.mcs_trace.specs.declared.certificate.Outside as code_outside
use Rattle.mcs_trace.specs.declared.certificate.Outside.TheVariants as outside_variants
use Rattle.mcs_trace.specs.declared.certificate.SetCert as code_set
use Rattle.mcs_trace.specs.declared.certificate.SetCert.TheVariants as set_variants
use Rattle.mcs_trace.specs.declared.certificate.DefaultCert as code
use Rattle.mcs_cnf.specs.ClauseLists.{IsOver, AreOver}
use Rattle.mcs_cnf.specs.Entailments.{Entailment, entailment_of, says_yes, IsAcceptedEntailment}
use Rattle.mcs_cnf.specs.Classical.{AreShown}

-- ---- a theory's facts and its defaults
abbrev pub fact_in : Item → Option Formula
fact_in (Fact f) = Some f
fact_in (Rule d) = None

abbrev pub default_in : Item → Option Default
default_in (Fact f) = None
default_in (Rule d) = Some d

abbrev pub facts_of : List Item → List Formula
facts_of items = filter_map fact_in items

abbrev pub defaults_of : List Item → List Default
defaults_of items = filter_map default_in items

-- the default of this number, counted from 1
abbrev pub numbered_default : List Item → ℕ → Option Default
numbered_default items zero = None
numbered_default items (suc k) = slice_get (defaults_of items) k

-- the default of this number is this one
abbrev pub IsNumbered : List Item → ℕ → Default → Type 0
IsNumbered items number default = numbered_default items number ≡ Some default

abbrev pub numbered_formula : List Formula → ℕ → Option Formula
numbered_formula fs zero = None
numbered_formula fs (suc k) = slice_get fs k

-- those of the defaults whose places, the first one being k, are in the set
abbrev pub defaults_at : ℕ → List Default → ℕ → List Default
defaults_at k [] set = []
defaults_at k (d ∷ ds) set = cond (has set k) (d ∷ defaults_at (k + 1) ds set) (defaults_at (k + 1) ds set)

-- the defaults of a set, ascending
abbrev pub defaults_in : List Item → ℕ → List Default
defaults_in items set = defaults_at 0 (defaults_of items) set

-- the facts, and then the consequents of the defaults of the set
abbrev pub generated : List Item → ℕ → List Formula
generated items set = facts_of items ++ map (λ (d : Default). d.conclusion) (defaults_in items set)

-- all defaults, as a set of their places
abbrev pub all_defaults : List Item → ℕ
all_defaults items = such_that (length (defaults_of items)) (λ k. true)

-- each atom of the theory is one of the names
abbrev pub IsOverItem : List Name → Item → Type 0
IsOverItem names (Fact f) = IsOver names f
IsOverItem names (Rule d) = IsOver names d.pre × AreOver names d.justs × IsOver names d.conclusion

abbrev pub AreOverItems : List Name → List Item → Type 0
AreOverItems names items = AllByRecursion (IsOverItem names) items

-- ---- certificates as plain data; defaults and justifications are numbered from 1
pub data Absence : Type 0 where
  -- the prerequisite of the default does not follow
  Unsupported : (number : ℕ) (entail : Entailment) → Absence
  -- the negation of the justification of the default follows
  Blocked : (number just : ℕ) (entail : Entailment) → Absence

pub data Verdict : Type 0 where
  Fails : (absence : Absence) → Verdict
  Applied : (number : ℕ) (pre : Entailment) (justs : List Entailment) → Verdict
  Ungrounded : (closed : ℕ) (pres : List Entailment) → Verdict
  Extension : (order : List ℕ) (pres justs : List Entailment) (outside : List Absence) (outputs : List Entailment) → Verdict

abbrev pub absence_of : code_outside.Outside → Absence
absence_of (outside_variants.Unsupported n e) = Unsupported n (entailment_of e)
absence_of (outside_variants.Blocked n j e) = Blocked n j (entailment_of e)

abbrev pub verdict_of : code_set.SetCert → Verdict
verdict_of (set_variants.Fails o) = Fails (absence_of o)
verdict_of (set_variants.Applied n pre justs) = Applied n (entailment_of pre) (map entailment_of justs.items)
verdict_of (set_variants.Ungrounded closed pres) = Ungrounded closed (map entailment_of pres.items)
verdict_of (set_variants.Extension order pres justs outside outputs) =
    Extension order.items (map entailment_of pres.items) (map entailment_of justs.items) (map absence_of outside.items) (map entailment_of outputs.items)

abbrev pub verdicts_of : code.DefaultCert → List Verdict
verdicts_of c = map verdict_of c.sets.items

-- ---- what is accepted
-- it is shown that the formula follows
abbrev pub IsEntailmentShown : List Name → List Formula → Formula → Entailment → Type 0
IsEntailmentShown names fs g e = IsAcceptedEntailment names fs g e × (says_yes e ≡ true)

-- it is shown that it does not
abbrev pub IsDenied : List Name → List Formula → Formula → Entailment → Type 0
IsDenied names fs g e = IsAcceptedEntailment names fs g e × (says_yes e ≡ false)

-- it is shown of each of the formulas, in order, that it does not follow
abbrev pub AreDenied : List Name → List Formula → List Formula → List Entailment → Type 0
AreDenied names fs goals es = AllZip (IsDenied names fs) goals es

-- the negated justifications of some defaults, in order
abbrev pub negated_justs : List Default → List Formula
negated_justs ds = flat_map (λ (d : Default). map Not d.justs) ds

-- from the formulas it is shown that the default of this number is unsupported or blocked
abbrev pub IsAbsent : List Name → List Item → List Formula → ℕ → Absence → Type 0
IsAbsent names items fs number (Unsupported n e) = (n ≡ number) × ((d : Default) × IsNumbered items n d × IsDenied names fs d.pre e)
IsAbsent names items fs number (Blocked n j e) =
    (n ≡ number) × ((d : Default) × IsNumbered items n d × ((f : Formula) × (numbered_formula d.justs j ≡ Some f) × IsEntailmentShown names fs (Not f) e))

-- from the formulas, which grow by the consequents, it is shown that the prerequisites of the defaults of these numbers follow one after the other
abbrev pub AreGrounded : List Name → List Item → List Formula → List ℕ → List Entailment → Type 0
AreGrounded names items fs [] [] = Unit {0}
AreGrounded names items fs (n ∷ ns) (e ∷ es) =
    (d : Default) × IsNumbered items n d × IsEntailmentShown names fs d.pre e × AreGrounded names items (fs ++ d.conclusion ∷ []) ns es
AreGrounded names items fs [] (e ∷ es) = ⊥
AreGrounded names items fs (n ∷ ns) [] = ⊥

-- a default of the set does not apply
abbrev pub FailsToApply : List Name → List Item → ℕ → Absence → Type 0
FailsToApply names items set absence = (k : ℕ) × IsTrue (has set k) × IsAbsent names items (generated items set) (k + 1) absence

-- the default of this number is outside the set and applies
pub record HasApplied (names : List Name) (items : List Item) (set number : ℕ) (pre : Entailment) (justs : List Entailment) : Type 0 where
  pub default : Default
  pub is_it : IsNumbered items number default
  pub outside : (k : ℕ) → number ≡ k + 1 → has set k ≡ false
  pub supported : IsEntailmentShown names (generated items set) default.pre pre
  pub allowed : AreDenied names (generated items set) (negated_justs (default ∷ [])) justs

-- by the defaults of a part of the set, which is not all of it, none of the others is supported
pub record IsUngrounded (names : List Name) (items : List Item) (set closed : ℕ) (pres : List Entailment) : Type 0 where
  pub part : Within closed set
  pub less : ¬ (closed ≡ set)
  pub unsupported : AreDenied names (generated items closed) (map (λ (d : Default). d.pre) (defaults_in items (minus set closed))) pres

-- the set generates an extension, which has exactly the beliefs at these places
pub record IsGenerating (names : List Name) (items : List Item) (beliefs : List Formula) (set : ℕ) (order : List ℕ) (pres justs : List Entailment) (outside : List Absence) (outputs : List Entailment) (places : ℕ) : Type 0 where
  pub once : AreApart order
  pub all : (number : ℕ) → IsAmong number order ↔ ((k : ℕ) × (number ≡ k + 1) × IsTrue (has set k))
  pub grounded : AreGrounded names items (facts_of items) order pres
  pub allowed : AreDenied names (generated items set) (negated_justs (defaults_in items set)) justs
  pub complete : AllZip (λ k absence. IsAbsent names items (generated items set) (k + 1) absence) (members (minus (all_defaults items) set)) outside
  pub shown : AreShown names (generated items set) beliefs places outputs

-- the verdict on the set is accepted
abbrev pub IsAcceptedVerdict : List Name → List Item → List Formula → ℕ → Verdict → Type 0
IsAcceptedVerdict names items beliefs set (Fails absence) = FailsToApply names items set absence
IsAcceptedVerdict names items beliefs set (Applied number pre justs) = HasApplied names items set number pre justs
IsAcceptedVerdict names items beliefs set (Ungrounded closed pres) = IsUngrounded names items set closed pres
IsAcceptedVerdict names items beliefs set (Extension order pres justs outside outputs) = (places : ℕ) × IsGenerating names items beliefs set order pres justs outside outputs places

-- it is that the set generates an extension with exactly the beliefs at these places
abbrev pub ShowsView : List Name → List Item → List Formula → ℕ → Verdict → ℕ → Type 0
ShowsView names items beliefs set (Extension order pres justs outside outputs) places = IsGenerating names items beliefs set order pres justs outside outputs places
ShowsView names items beliefs set (Fails absence) places = ⊥
ShowsView names items beliefs set (Applied number pre justs) places = ⊥
ShowsView names items beliefs set (Ungrounded closed pres) places = ⊥

-- there is one for each set of defaults
abbrev pub HasOneForEach : List Item → List Verdict → Type 0
HasOneForEach items verdicts = length verdicts ≡ 2 ^ length (defaults_of items)

-- a certificate of a default theory: an accepted verdict on each set of defaults, and the views that are put out are exactly those of the extensions
pub record IsAcceptedDefault (names : List Name) (items : List Item) (beliefs : List Formula) (outputs : List ℕ) (verdicts : List Verdict) : Type 0 where
  pub one_each : HasOneForEach items verdicts
  pub accepted : (set : ℕ) (v : Verdict) → slice_get verdicts set ≡ Some v → IsAcceptedVerdict names items beliefs set v
  pub ascending : IsAscending StateBefore outputs
  pub listed : (places : ℕ) → IsAmong places outputs ↔ ((set : ℕ) × (v : Verdict) × (slice_get verdicts set ≡ Some v) × ShowsView names items beliefs set v places)
