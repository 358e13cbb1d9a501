-- What the answers to questions about the defaults of a theory say.
use Rattle.std.specs.Prelude.{Result, IfOk, Option, None, ◌≡◌, ℕ, ◌+◌, false, IsTrue, ◌↔◌, List, [], ◌∷◌, ◌++◌, map, Some, slice_get}
use Rattle.std.specs.List.{AllZip}
use Rattle.mcs_sets.specs.Sets.{has, minus, members}
use Rattle.mcs_system.specs.Plain.{Name, Formula, Not, Default, Item}
use Rattle.mcs_trace.specs.Clauses.{ClauseList}
use Rattle.mcs_trace.specs.declared.certificate.Entail.{Entail}
use Rattle.mcs_cnf.specs.Entailments.{Entailment, entailment_of}
use Rattle.mcs_cnf.specs.Classical.{AreShown}
use Rattle.mcs_evidence.specs.Defaults.{Absence, Unsupported, Blocked, absence_of, verdict_of, facts_of, defaults_at, defaults_in, generated, negated_justs, numbered_formula, IsEntailmentShown, IsDenied, AreDenied, AreGrounded, IsAcceptedVerdict, ShowsView}
use Rattle.mcs_grounding.specs.Theories.{AreClausesOf}
use Rattle.mcs_grounding.specs.Told.{AreDefaultNumbers}
use Rattle.mcs_evidence.specs.Theories.{all_of}
use Rattle.mcs_default.specs.declared.asking.Justs as justs
use Rattle.mcs_default.specs.declared.asking.Justs.TheVariants as justs_variants
use Rattle.mcs_default.specs.declared.asking.Standing as standing
use Rattle.mcs_default.specs.declared.asking.Standing.TheVariants as standing_variants
use Rattle.mcs_default.specs.declared.inside.Inside as inside
use Rattle.mcs_default.specs.declared.inside.Inside.TheVariants as inside_variants
use Rattle.mcs_default.specs.declared.outside.Others as others
use Rattle.mcs_default.specs.declared.outside.Others.TheVariants as others_variants
use Rattle.mcs_default.specs.declared.outside.Rest as rest
use Rattle.mcs_default.specs.declared.outside.Rest.TheVariants as rest_variants
use Rattle.mcs_default.specs.declared.verdict.Judged as judged

-- the clauses are as before, and what is told is right of formulas with these clauses
pub record TellsOf {T E : Type 0} (names : List Name) (old new : ClauseList) (result : Result T E) (says : T → List Formula → Type 0) : Type 0 where
  pub kept : new ≡ old
  pub told : IfOk result (λ x. (fs : List Formula) → AreClausesOf names fs old → says x fs)

-- ---- of one default
-- the negation of the justification of this number follows
abbrev pub IsBlockedBy : List Name → List Formula → List Formula → ℕ → Entailment → Type 0
IsBlockedBy names fs js j e = (f : Formula) × (numbered_formula js j ≡ Some f) × IsEntailmentShown names fs (Not f) e

abbrev pub IsToldOfJusts : List Name → List Formula → List Formula → justs.Justs → Type 0
IsToldOfJusts names fs js (justs_variants.Allowed es) = AreDenied names fs (map Not js) (map entailment_of es.items)
IsToldOfJusts names fs js (justs_variants.Blocked j e) = IsBlockedBy names fs js j (entailment_of e)

-- the default, which has this number, is unsupported or blocked
abbrev pub IsAbsentOf : List Name → List Formula → Default → ℕ → Absence → Type 0
IsAbsentOf names fs d number (Unsupported n e) = (n ≡ number) × IsDenied names fs d.pre e
IsAbsentOf names fs d number (Blocked n j e) = (n ≡ number) × IsBlockedBy names fs d.justs j e

-- the default applies
abbrev pub IsApplied : List Name → List Formula → Default → Entail → List Entail → Type 0
IsApplied names fs d pre es = IsEntailmentShown names fs d.pre (entailment_of pre) × AreDenied names fs (negated_justs (d ∷ [])) (map entailment_of es)

abbrev pub IsToldOfDefault : List Name → List Formula → Default → ℕ → standing.Standing → Type 0
IsToldOfDefault names fs d number (standing_variants.Absent o) = IsAbsentOf names fs d number (absence_of o)
IsToldOfDefault names fs d number (standing_variants.Applies pre es) = IsApplied names fs d pre es.items

-- ---- of the defaults of a set
-- a default of the set is blocked
abbrev pub HasBlocked : List Name → List Formula → List Default → ℕ → Absence → Type 0
HasBlocked names fs ds set absence = (k : ℕ) × (d : Default) × IsTrue (has set k) × (slice_get ds k ≡ Some d) × IsAbsentOf names fs d (k + 1) absence

abbrev pub IsToldInside : List Name → List Formula → List Default → ℕ → inside.Inside → Type 0
IsToldInside names fs ds set (inside_variants.Fails o) = HasBlocked names fs ds set (absence_of o)
IsToldInside names fs ds set (inside_variants.Allowed es) = AreDenied names fs (negated_justs (defaults_at 0 ds set)) (map entailment_of es.items)

-- ---- of those outside
-- the default of this number is outside and applies
abbrev pub HasAppliedOf : List Name → List Formula → List Default → ℕ → ℕ → Entail → List Entail → Type 0
HasAppliedOf names fs ds set number pre es = (k : ℕ) × (d : Default) × (number ≡ k + 1) × (has set k ≡ false) × (slice_get ds k ≡ Some d) × IsApplied names fs d pre es

-- the default at this place is absent
abbrev pub IsAbsentAt : List Name → List Formula → List Default → ℕ → Absence → Type 0
IsAbsentAt names fs ds k absence = (d : Default) × (slice_get ds k ≡ Some d) × IsAbsentOf names fs d (k + 1) absence

-- each default outside is
abbrev pub AreAbsentOutside : List Name → List Formula → List Default → ℕ → List Absence → Type 0
AreAbsentOutside names fs ds set absences = AllZip (IsAbsentAt names fs ds) (members (minus (all_of ds) set)) absences

abbrev pub IsToldOutside : List Name → List Formula → List Default → ℕ → others.Others → Type 0
IsToldOutside names fs ds set (others_variants.Applied number pre es) = HasAppliedOf names fs ds set number pre es.items
IsToldOutside names fs ds set (others_variants.Absent os) = AreAbsentOutside names fs ds set (map absence_of os.items)

abbrev pub IsToldOfRest : List Name → List Formula → List Default → List Formula → ℕ → rest.Rest → Type 0
IsToldOfRest names fs ds beliefs set (rest_variants.Applied number pre es) = HasAppliedOf names fs ds set number pre es.items
IsToldOfRest names fs ds beliefs set (rest_variants.Complete os view es) = AreAbsentOutside names fs ds set (map absence_of os.items) × AreShown names fs beliefs view (map entailment_of es.items)

-- ---- of a set of defaults of items
abbrev pub IsToldOfJustsIn : List Name → List Item → ℕ → List Entail → Type 0
IsToldOfJustsIn names items set es = AreDenied names (generated items set) (negated_justs (defaults_in items set)) (map entailment_of es)

abbrev pub IsToldOrder : List Name → List Item → ℕ → List ℕ → List Entail → Type 0
IsToldOrder names items set order pres = AreDefaultNumbers set order × AreGrounded names items (facts_of items) order (map entailment_of pres)

-- the verdict is accepted, and the view is the one that it shows
abbrev pub IsSetJudged : List Name → List Item → List Formula → ℕ → judged.Judged → Type 0
IsSetJudged names items beliefs set j =
    IsAcceptedVerdict names items beliefs set (verdict_of j.verdict) × ((places : ℕ) → ShowsView names items beliefs set (verdict_of j.verdict) places ↔ (j.view ≡ Some places))

-- the views with one more, if there is one
abbrev pub with_view : List ℕ → Option ℕ → List ℕ
with_view views None = views
with_view views (Some view) = views ++ view ∷ []
