-- Each part of a verdict, by what is tested of it.
use Rattle.std.proofs.Common.{◌≡◌, ℕ, zero, suc, ◌+◌, ◌<◌, Bool, true, false, IsTrue, List, [], ◌∷◌, ◌++◌, map, length, refl, sym, ap, ◌∙◌, subst, ◌↔◌, Option, Some, None, MatchOption, true≢false}
use Rattle.std.proofs.lemmas.List.{append-nil}
use Rattle.std.proofs.lemmas.Option.{none-some}
use Rattle.std.specs.List.{AllZip, AllByRecursion}
use Rattle.mcs_sets.specs.Sets.{has, minus, members, members_from, Within}
use Rattle.mcs_sets.proofs.SetLemmas.{members-width, such_that-lt}
use Rattle.mcs_sets.proofs.Lattice.{minus-lt}
use Rattle.mcs_base.proofs.Each.{all_get}
use Rattle.mcs_base.proofs.SetParts.{members_from-more}
use Rattle.mcs_system.specs.Plain.{Name, Formula, Not, Default, Item}
use Rattle.mcs_cnf.specs.Classical.{AreShown}
use Rattle.mcs_cnf.specs.Entailments.{Entailment}
use Rattle.mcs_cnf.specs.ClauseLists.{IsOver, AreOver}
use Rattle.mcs_evidence.specs.Defaults.{Absence, Unsupported, Blocked, Verdict, Fails, Applied, Ungrounded, Extension, facts_of, defaults_of, defaults_in, defaults_at, all_defaults, generated, numbered_default, numbered_formula, negated_justs, IsEntailmentShown, IsDenied, AreDenied, IsAbsent, AreGrounded, FailsToApply, HasApplied, IsUngrounded, IsGenerating, IsAcceptedVerdict, ShowsView}
use Rattle.mcs_extensions.specs.Checks.{judged_as, judged_by, at_number, number_in, IsNumberIn, AreNumbersOf, IsOrderShown, IsComplete, IsVerdictJudged}
use Rattle.mcs_evidence.specs.Theories.{all_of, AreOverDefaults, IsOverDefault}
use Rattle.mcs_evidence.proofs.TheoryLemmas.{others, has-others, consequents_over}
use Rattle.mcs_extensions.proofs.OrderLemmas.{numbered_same}

-- ---- absence
formula_same : (fs : List Formula) (n : ℕ) → numbered_formula fs n ≡ at_number fs n
formula_same fs zero = refl
formula_same fs (suc k) = refl

pub absent_number : (names : List Name) (items : List Item) (fs : List Formula) (number : ℕ) (a : Absence) → IsAbsent names items fs number a → number_in a ≡ number
absent_number names items fs number (Unsupported n e) h = h.0
absent_number names items fs number (Blocked n j e) h = h.0

module _ (names : List Name) (items : List Item) (ds : List Default) (same : ds ≡ defaults_of items) (fs : List Formula) (number : ℕ) where
  pub absent_none : (a : Absence) → at_number ds number ≡ None → ¬ IsAbsent names items fs number a
  absent_none (Unsupported n e) none (is, (d, at, denied)) = none-some d (sym (numbered_same items ds number same ∙ none) ∙ (sym (ap (numbered_default items) is) ∙ at))
  absent_none (Blocked n j e) none (is, (d, at, blocked)) = none-some d (sym (numbered_same items ds number same ∙ none) ∙ (sym (ap (numbered_default items) is) ∙ at))

  module _ (d : Default) (at : at_number ds number ≡ Some d) where
    here : (n : ℕ) → n ≡ number → numbered_default items n ≡ Some d
    here n is = ap (numbered_default items) is ∙ numbered_same items ds number same ∙ at

    only : (n : ℕ) (d' : Default) → n ≡ number → numbered_default items n ≡ Some d' → d' ≡ d
    only n d' is at' = let e : Some d' ≡ Some d = sym at' ∙ here n is in cc

    pub unsupported_iff : (n : ℕ) (e : Entailment) → IsAbsent names items fs number (Unsupported n e) ↔ ((n ≡ number) × IsDenied names fs d.pre e)
    unsupported_iff n e = (
      λ (is, (d', at', denied)). (is, subst (λ (x : Default). IsDenied names fs x.pre e) (only n d' is at') denied),
      λ (is, denied). (is, (d, here n is, denied)),
    )

    pub blocked_iff : (n j : ℕ) (e : Entailment) → IsAbsent names items fs number (Blocked n j e) ↔ ((n ≡ number) × ((f : Formula) × (at_number d.justs j ≡ Some f) × IsEntailmentShown names fs (Not f) e))
    blocked_iff n j e = (
      λ (is, (d', at', (f, there, shown))). (is, (f, ap (λ (x : Default). at_number x.justs j) (sym (only n d' is at')) ∙ sym (formula_same d'.justs j) ∙ there, shown)),
      λ (is, (f, there, shown)). (is, (d, here n is, (f, formula_same d.justs j ∙ there, shown))),
    )

-- ---- the places outside a set
pub outside_none : (ds : List Default) (set : ℕ) → [] ≡ members_from 0 0 (others ds set)
unfolding members_from
outside_none ds set = refl

pub outside_more : (ds : List Default) (set i : ℕ) (places places' : List ℕ) → i < length ds → has set i ≡ false → places' ≡ places ++ i ∷ [] → places ≡ members_from 0 i (others ds set) → places' ≡ members_from 0 (i + 1) (others ds set)
outside_more ds set i places places' less out pushed before = pushed ∙ ap (λ (ks : List ℕ). ks ++ i ∷ []) before ∙ sym (members_from-more (others ds set) i true (has-others ds set i false less out))

pub outside_same : (ds : List Default) (set i : ℕ) (places : List ℕ) → i < length ds → has set i ≡ true → places ≡ members_from 0 i (others ds set) → places ≡ members_from 0 (i + 1) (others ds set)
outside_same ds set i places less is before = before ∙ sym (append-nil (members_from 0 i (others ds set))) ∙ sym (members_from-more (others ds set) i false (has-others ds set i true less is))

pub outside_all : (ds : List Default) (set i : ℕ) (places : List ℕ) → i ≡ length ds → places ≡ members_from 0 i (others ds set) → places ≡ members (others ds set)
outside_all ds set i places all before =
    before ∙ ap (λ (n : ℕ). members_from 0 n (others ds set)) all ∙ sym (members-width (others ds set) (length ds) (minus-lt (length ds) (all_of ds) set (such_that-lt (length ds) (λ k. true))))

-- ---- failing and applying
module _ (names : List Name) (items : List Item) (set : ℕ) where
  pub failed_not : (a : Absence) → ¬ IsNumberIn set (number_in a) → ¬ FailsToApply names items set a
  failed_not a not_there (k, there, gone) = not_there (k, absent_number names items (generated items set) (k + 1) a gone, there)

  pub failed_iff : (a : Absence) → IsNumberIn set (number_in a) → IsAbsent names items (generated items set) (number_in a) a ↔ FailsToApply names items set a
  failed_iff a (k, is, there) = (
    λ gone. (k, there, subst (λ (n : ℕ). IsAbsent names items (generated items set) n a) is gone),
    λ (j, inside, gone). subst (λ (n : ℕ). IsAbsent names items (generated items set) n a) (sym (absent_number names items (generated items set) (j + 1) a gone)) gone,
  )

  module _ (ds : List Default) (same : ds ≡ defaults_of items) (number : ℕ) (pre : Entailment) (justs : List Entailment) where
    pub applied_inside : IsNumberIn set number → ¬ HasApplied names items set number pre justs
    applied_inside (k, is, there) h = true≢false (sym there ∙ h.outside k is)

    pub applied_none : at_number ds number ≡ None → ¬ HasApplied names items set number pre justs
    applied_none none h = none-some h.default (sym (numbered_same items ds number same ∙ none) ∙ h.is_it)

    module _ (d : Default) (at : at_number ds number ≡ Some d) where
      only' : (h : HasApplied names items set number pre justs) → h.default ≡ d
      only' h = let e : Some h.default ≡ Some d = sym h.is_it ∙ numbered_same items ds number same ∙ at in cc

      pub applied_unshown : ¬ IsEntailmentShown names (generated items set) d.pre pre → ¬ HasApplied names items set number pre justs
      applied_unshown not_shown h = not_shown (subst (λ (x : Default). IsEntailmentShown names (generated items set) x.pre pre) (only' h) h.supported)

      pub applied_iff : ¬ IsNumberIn set number → IsEntailmentShown names (generated items set) d.pre pre → AreDenied names (generated items set) (negated_justs (d ∷ [])) justs ↔ HasApplied names items set number pre justs
      applied_iff not_there shown = (
        λ allowed. record {
          default = d;
          is_it = numbered_same items ds number same ∙ at;
          outside = λ k is. out k is (has set k) refl;
          supported = shown;
          allowed = allowed;
        },
        λ h. subst (λ (x : Default). AreDenied names (generated items set) (negated_justs (x ∷ [])) justs) (only' h) h.allowed,
      )
        where
          out : (k : ℕ) → number ≡ k + 1 → (b : Bool) → has set k ≡ b → has set k ≡ false
          out k is true there = absurd (not_there (k, is, there))
          out k is false there = there

-- ---- extensions
module _ (names : List Name) (items : List Item) (beliefs : List Formula) (set : ℕ) (order : List ℕ) (pres justs : List Entailment) (outside : List Absence) (outputs : List Entailment) where
  pub generating : (places : ℕ) → AreNumbersOf set order × AreGrounded names items (facts_of items) order pres → IsComplete names items (generated items set) beliefs set justs outside outputs places
      → IsGenerating names items beliefs set order pres justs outside outputs places
  generating places (numbers, grounded) c = record { once = numbers.0; all = numbers.1; grounded = grounded; allowed = c.allowed; complete = c.complete; shown = c.shown }

  pub completed : (places : ℕ) → IsGenerating names items beliefs set order pres justs outside outputs places → IsComplete names items (generated items set) beliefs set justs outside outputs places
  completed places g = record { allowed = g.allowed; complete = g.complete; shown = g.shown }

  pub ready : (places : ℕ) → IsGenerating names items beliefs set order pres justs outside outputs places → AreNumbersOf set order × AreGrounded names items (facts_of items) order pres
  ready places g = ((g.once, g.all), g.grounded)

-- ---- the verdict on a set
-- of a verdict that is not ready nothing is accepted, unless it is one that the defaults are not grounded
abbrev pub IsGroundless : Verdict → Type 0
IsGroundless (Ungrounded closed pres) = Unit {0}
IsGroundless (Fails a) = ⊥
IsGroundless (Applied n pre justs) = ⊥
IsGroundless (Extension order pres justs outside outputs) = ⊥

pub not_ready : (names : List Name) (items : List Item) (beliefs : List Formula) (set : ℕ) (v : Verdict) → ¬ IsGroundless v → ¬ IsOrderShown names items set v → ¬ IsAcceptedVerdict names items beliefs set v
not_ready names items beliefs set (Fails a) other not_it = absurd (not_it tt)
not_ready names items beliefs set (Applied n pre justs) other not_it = absurd (not_it tt)
not_ready names items beliefs set (Ungrounded closed pres) other not_it = absurd (other tt)
not_ready names items beliefs set (Extension order pres justs outside outputs) other not_it = λ (places, g). not_it (ready names items beliefs set order pres justs outside outputs places g)

-- ---- what is over the names
pub chosen_over : (names : List Name) (ds : List Default) (set : ℕ) (chosen : List Default) → AreOverDefaults names ds → chosen ≡ defaults_at 0 ds set → AreOver names (map (λ (d : Default). d.conclusion) chosen)
chosen_over names ds set chosen over is = subst (λ (xs : List Default). AreOver names (map (λ (d : Default). d.conclusion) xs)) (sym is) (consequents_over names 0 ds set over)

numbered_each : (P : Default → Type 0) (ds : List Default) (n : ℕ) (d : Default) → AllByRecursion P ds → at_number ds n ≡ Some d → P d
numbered_each P ds zero d all at = absurd (none-some d at)
numbered_each P ds (suc k) d all at = all_get P ds k d all at

pub numbered_over : (names : List Name) (ds : List Default) (n : ℕ) (d : Default) → AreOverDefaults names ds → at_number ds n ≡ Some d → IsOverDefault names d
numbered_over names ds n d over at = numbered_each (IsOverDefault names) ds n d over at

pub numbered_formula_over : (names : List Name) (fs : List Formula) (n : ℕ) (f : Formula) → AreOver names fs → at_number fs n ≡ Some f → IsOver names f
numbered_formula_over names fs zero f over at = absurd (none-some f at)
numbered_formula_over names fs (suc k) f over at = all_get (IsOver names) fs k f over at

-- ---- the view of an extension
module _ (names : List Name) (items : List Item) (fs beliefs : List Formula) (set : ℕ) (justs : List Entailment) (outside : List Absence) (outputs : List Entailment) where
  pub complete_view : (view : Option ℕ) → AreDenied names fs (negated_justs (defaults_in items set)) justs → AllZip (λ k absence. IsAbsent names items fs (k + 1) absence) (members (minus (all_defaults items) set)) outside
      → MatchOption view ((places : ℕ) → ¬ AreShown names fs beliefs places outputs) (λ places. AreShown names fs beliefs places outputs)
      → MatchOption view ((places : ℕ) → ¬ IsComplete names items fs beliefs set justs outside outputs places) (λ places. IsComplete names items fs beliefs set justs outside outputs places)
  complete_view None allowed complete none = λ places h. none places h.shown
  complete_view (Some view) allowed complete shown = record { allowed = allowed; complete = complete; shown = shown }

pub judged_view : (names : List Name) (items : List Item) (beliefs : List Formula) (set : ℕ) (order : List ℕ) (pres justs : List Entailment) (outside : List Absence) (outputs : List Entailment) (view : Option ℕ)
    → IsOrderShown names items set (Extension order pres justs outside outputs)
    → MatchOption view ((places : ℕ) → ¬ IsComplete names items (generated items set) beliefs set justs outside outputs places) (λ places. IsComplete names items (generated items set) beliefs set justs outside outputs places)
    → IsVerdictJudged names items beliefs set (Extension order pres justs outside outputs) (judged_as view)
judged_view names items beliefs set order pres justs outside outputs None is none = λ (places, g). none places (completed names items beliefs set order pres justs outside outputs places g)
judged_view names items beliefs set order pres justs outside outputs (Some view) is shown = generating names items beliefs set order pres justs outside outputs view is shown

-- a verdict that shows no view
pub judged_test : (names : List Name) (items : List Item) (beliefs : List Formula) (set : ℕ) (v : Verdict) (b : Bool) → ((places : ℕ) → ¬ ShowsView names items beliefs set v places) → IsTrue b ↔ IsAcceptedVerdict names items beliefs set v → IsVerdictJudged names items beliefs set v (judged_by b)
judged_test names items beliefs set v true none tells = (tells.0 refl, none)
judged_test names items beliefs set v false none tells = λ h. true≢false (sym (tells.1 h))

-- ---- sets that are not grounded
pub ungrounded_iff : (names : List Name) (items : List Item) (set closed part : ℕ) (premises goals : List Formula) (es : List Entailment) (b : Bool) → part ≡ closed → Within part set → ¬ (part ≡ set)
    → premises ≡ generated items part → goals ≡ map (λ (d : Default). d.pre) (defaults_in items (minus set part))
    → IsTrue b ↔ AreDenied names premises goals es → IsTrue b ↔ IsUngrounded names items set closed es
ungrounded_iff names items set closed part premises goals es b is within less premises_are goals_are tells = subst (λ (s : ℕ). IsTrue b ↔ IsUngrounded names items set s es) is (
  λ h. record { part = within; less = less; unsupported = there.0 h },
  λ u. there.1 u.unsupported,
)
  where
    there : IsTrue b ↔ AreDenied names (generated items part) (map (λ (d : Default). d.pre) (defaults_in items (minus set part))) es
    there =
        subst (λ (gs : List Formula). IsTrue b ↔ AreDenied names (generated items part) gs es) goals_are
        (subst (λ (fs : List Formula). IsTrue b ↔ AreDenied names fs goals es) premises_are tells)

-- the same of equal lists
pub complete_as : (names : List Name) (items : List Item) (fs fs' beliefs : List Formula) (set : ℕ) (justs justs' : List Entailment) (outside outside' : List Absence) (outputs outputs' : List Entailment) (view : Option ℕ) → fs ≡ fs' → justs ≡ justs' → outside ≡ outside' → outputs ≡ outputs'
    → MatchOption view ((places : ℕ) → ¬ IsComplete names items fs beliefs set justs outside outputs places) (λ places. IsComplete names items fs beliefs set justs outside outputs places)
    → MatchOption view ((places : ℕ) → ¬ IsComplete names items fs' beliefs set justs' outside' outputs' places) (λ places. IsComplete names items fs' beliefs set justs' outside' outputs' places)
complete_as names items fs fs' beliefs set justs justs' outside outside' outputs outputs' view e1 e2 e3 e4 h =
    subst (λ (xs : List Formula). MatchOption view ((places : ℕ) → ¬ IsComplete names items xs beliefs set justs' outside' outputs' places) (λ places. IsComplete names items xs beliefs set justs' outside' outputs' places)) e1
    (subst (λ (xs : List Entailment). MatchOption view ((places : ℕ) → ¬ IsComplete names items fs beliefs set xs outside' outputs' places) (λ places. IsComplete names items fs beliefs set xs outside' outputs' places)) e2
    (subst (λ (xs : List Absence). MatchOption view ((places : ℕ) → ¬ IsComplete names items fs beliefs set justs xs outputs' places) (λ places. IsComplete names items fs beliefs set justs xs outputs' places)) e3
    (subst (λ (xs : List Entailment). MatchOption view ((places : ℕ) → ¬ IsComplete names items fs beliefs set justs outside xs places) (λ places. IsComplete names items fs beliefs set justs outside xs places)) e4 h)))
