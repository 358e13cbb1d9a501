-- The verdict on a set, and the views of all.
use Rattle.std.proofs.Common.{◌≡◌, ℕ, ◌+◌, ◌<◌, ◌^◌, true, ltb, ◌&&◌, List, [], ◌∷◌, ◌++◌, map, length, arith, refl, sym, ap, ◌∙◌, subst, ◌⊎◌, ◌↔◌, inl, inr, Option, Some, None, slice_get}
use Rattle.std.proofs.lemmas.List.{length_push}
use Rattle.std.proofs.lemmas.Bool.Decides.{nat_tests, same_from_decides}
use Rattle.std.specs.List.{AllZip}
use Rattle.mcs_sets.specs.Sets.{has, minus, members, Within}
use Rattle.mcs_sets.specs.Orders.{StateBefore}
use Rattle.mcs_sets.proofs.SetLemmas.{has-such_that, members_below, same_set}
use Rattle.mcs_base.specs.Listings.{IsAmong, IsListing}
use Rattle.mcs_base.proofs.Among.{among_push}
use Rattle.mcs_base.proofs.Lists.{slice_get_push_at, slice_get_kept, slice_get_seam}
use Rattle.mcs_base.proofs.Zipped.{zip_weaker}
use Rattle.mcs_base.proofs.Results.{none_is_never}
use Rattle.mcs_system.specs.Plain.{Name, Formula, Default, Item}
use Rattle.mcs_trace.specs.declared.certificate.Entail.{Entail}
use Rattle.mcs_cnf.specs.Entailments.{Entailment, entailment_of}
use Rattle.mcs_cnf.specs.Classical.{AreShown}
use Rattle.mcs_evidence.specs.Defaults.{Absence, Unsupported, Blocked, Verdict, Fails, Applied, Ungrounded, Extension, facts_of, defaults_of, defaults_at, defaults_in, numbered_default, generated, all_defaults, negated_justs, AreDenied, IsAbsent, AreGrounded, FailsToApply, HasApplied, IsGenerating, IsAcceptedVerdict, ShowsView, IsAcceptedDefault}
use Rattle.mcs_grounding.specs.Theories.{consequents}
use Rattle.mcs_default.specs.Told.{with_view}
use Rattle.mcs_evidence.specs.Theories.{all_of}
use Rattle.mcs_default.specs.Told.{IsAbsentOf, IsAbsentAt, AreAbsentOutside, HasBlocked, HasAppliedOf}
use Rattle.mcs_grounding.specs.Told.{AreDefaultNumbers, prerequisites}
use Rattle.mcs_grounding.proofs.Numbers.{numbered_at}

-- the verdict is accepted, and the view is the one that it shows
abbrev pub IsVerdict : List Name → List Item → List Formula → ℕ → Verdict → Option ℕ → Type 0
IsVerdict names items beliefs set v view = IsAcceptedVerdict names items beliefs set v × ((places : ℕ) → ShowsView names items beliefs set v places ↔ (view ≡ Some places))

-- ---- absence, by the items
absent : (names : List Name) (items : List Item) (fs : List Formula) (number : ℕ) (d : Default) (a : Absence) → numbered_default items number ≡ Some d → IsAbsentOf names fs d number a → IsAbsent names items fs number a
absent names items fs number d (Unsupported n e) at (is, denied) = (is, (d, ap (numbered_default items) is ∙ at, denied))
absent names items fs number d (Blocked n j e) at (is, blocked) = (is, (d, ap (numbered_default items) is ∙ at, blocked))

-- ---- each verdict
pub fails_verdict : (names : List Name) (items : List Item) (beliefs : List Formula) (set : ℕ) (ds : List Default) (a : Absence) → ds ≡ defaults_of items
    → HasBlocked names (facts_of items ++ consequents ds set) ds set a → IsVerdict names items beliefs set (Fails a) None
fails_verdict names items beliefs set ds a same told = (failed, none_is_never (λ places h. h))
  where
    failed : FailsToApply names items set a
    failed =
        let (k, d, member, at, gone) = subst (λ (xs : List Default). HasBlocked names (facts_of items ++ consequents xs set) xs set a) same told in
        (k, member, absent names items (generated items set) (k + 1) d a (numbered_at items k ∙ at) gone)

pub allowed_in : (names : List Name) (items : List Item) (set : ℕ) (ds : List Default) (es : List Entailment) → ds ≡ defaults_of items
    → AreDenied names (facts_of items ++ consequents ds set) (negated_justs (defaults_at 0 ds set)) es → AreDenied names (generated items set) (negated_justs (defaults_in items set)) es
allowed_in names items set ds es same told = subst (λ (xs : List Default). AreDenied names (facts_of items ++ consequents xs set) (negated_justs (defaults_at 0 xs set)) es) same told

pub applied_verdict : (names : List Name) (items : List Item) (beliefs : List Formula) (set : ℕ) (ds : List Default) (number : ℕ) (pre : Entail) (es : List Entail) → ds ≡ defaults_of items
    → HasAppliedOf names (facts_of items ++ consequents ds set) ds set number pre es → IsVerdict names items beliefs set (Applied number (entailment_of pre) (map entailment_of es)) None
applied_verdict names items beliefs set ds number pre es same told = (applied, none_is_never (λ places h. h))
  where
    applied : HasApplied names items set number (entailment_of pre) (map entailment_of es)
    applied =
        let (k, d, is, out, at, applies) = subst (λ (xs : List Default). HasAppliedOf names (facts_of items ++ consequents xs set) xs set number pre es) same told in
        record {
          default = d;
          is_it = ap (numbered_default items) is ∙ numbered_at items k ∙ at;
          outside = λ j same_number. (let e : j ≡ k = omega arith in ap (has set) e ∙ out);
          supported = applies.0;
          allowed = applies.1;
        }

pub ungrounded_verdict : (names : List Name) (items : List Item) (beliefs : List Formula) (set : ℕ) (ds : List Default) (closed : ℕ) (es : List Entailment) → ds ≡ defaults_of items → Within closed set → ¬ (closed ≡ set)
    → AreDenied names (facts_of items ++ consequents ds closed) (prerequisites ds (minus set closed)) es → IsVerdict names items beliefs set (Ungrounded closed es) None
ungrounded_verdict names items beliefs set ds closed es same part less told = (
  record {
    part = part;
    less = less;
    unsupported = subst (λ (xs : List Default). AreDenied names (facts_of items ++ consequents xs closed) (prerequisites xs (minus set closed)) es) same told;
  },
  none_is_never (λ places h. h),
)

pub extension_verdict : (names : List Name) (items : List Item) (beliefs : List Formula) (set : ℕ) (ds : List Default) (order : List ℕ) (pres justs : List Entailment) (outside : List Absence) (outputs : List Entailment) (view : ℕ)
    → ds ≡ defaults_of items → AreDefaultNumbers set order → AreGrounded names items (facts_of items) order pres → AreDenied names (generated items set) (negated_justs (defaults_in items set)) justs
    → AreAbsentOutside names (facts_of items ++ consequents ds set) ds set outside → AreShown names (facts_of items ++ consequents ds set) beliefs view outputs
    → IsVerdict names items beliefs set (Extension order pres justs outside outputs) (Some view)
extension_verdict names items beliefs set ds order pres justs outside outputs view same numbers grounded allowed absents shown = ((view, generating view shown'), λ places. (to places, from places))
  where
    shown' : AreShown names (generated items set) beliefs view outputs
    shown' = subst (λ (xs : List Default). AreShown names (facts_of items ++ consequents xs set) beliefs view outputs) same shown

    absents' : AllZip (λ k a. IsAbsent names items (generated items set) (k + 1) a) (members (minus (all_defaults items) set)) outside
    absents' = zip_weaker (IsAbsentAt names (generated items set) (defaults_of items)) (λ k a. IsAbsent names items (generated items set) (k + 1) a)
        (λ k a told. absent names items (generated items set) (k + 1) told.0 a (numbered_at items k ∙ told.1) told.2)
        (members (minus (all_defaults items) set)) outside
        (subst (λ (xs : List Default). AreAbsentOutside names (facts_of items ++ consequents xs set) xs set outside) same absents)

    generating : (places : ℕ) → AreShown names (generated items set) beliefs places outputs → IsGenerating names items beliefs set order pres justs outside outputs places
    generating places is = record { once = numbers.0; all = numbers.1; grounded = grounded; allowed = allowed; complete = absents'; shown = is }

    to : (places : ℕ) → IsGenerating names items beliefs set order pres justs outside outputs places → Some view ≡ Some places
    to places g = ap Some (same_set view places (λ k. same_from_decides {P = has places k ≡ true} (has view k) (has places k)
        (λ h. (g.shown.exactly k).1 ((shown'.exactly k).0 h), λ h. (shown'.exactly k).1 ((g.shown.exactly k).0 h)) (λ h. h, λ h. h)))

    from : (places : ℕ) → Some view ≡ Some places → IsGenerating names items beliefs set order pres justs outside outputs places
    from places e = let is : view ≡ places = cc in generating places (subst (λ (p : ℕ). AreShown names (generated items set) beliefs p outputs) is shown')

-- ---- the code's loop over the sets
pub record AreJudged (names : List Name) (items : List Item) (beliefs : List Formula) (n : ℕ) (views : List ℕ) (vs : List Verdict) : Type 0 where
  pub one_each : length vs ≡ n
  pub accepted : (set : ℕ) (v : Verdict) → slice_get vs set ≡ Some v → IsAcceptedVerdict names items beliefs set v
  pub listed : (places : ℕ) → IsAmong places views ↔ ((set : ℕ) × (v : Verdict) × (slice_get vs set ≡ Some v) × ShowsView names items beliefs set v places)

pub judged-none : (names : List Name) (items : List Item) (beliefs : List Formula) → AreJudged names items beliefs 0 [] []
judged-none names items beliefs = record {
  one_each = refl;
  accepted = λ set v at. (let impossible : None ≡ Some v = at in absurd (cc));
  listed = λ places. (λ none. absurd none, λ (set, v, at, shows). (let impossible : None ≡ Some v = at in absurd (cc)));
}

view_added : (views : List ℕ) (view : Option ℕ) (places : ℕ) → IsAmong places (with_view views view) ↔ (IsAmong places views ⊎ (view ≡ Some places))
view_added views None places = (λ h. inl h, λ h. elim h [ inl old ↦ old | inr none ↦ (let impossible : None ≡ Some places = none in absurd (cc)) ])
view_added views (Some view) places = (
  λ h. elim ((among_push places views view).0 h) [ inl old ↦ inl old | inr e ↦ inr (ap Some (sym e)) ],
  λ h. (among_push places views view).1 (elim h as (λ _. IsAmong places views ⊎ (places ≡ view)) [ inl old ↦ inl old | inr e ↦ inr (let is : view ≡ places = cc in sym is) ]),
)

pub judged-more : (names : List Name) (items : List Item) (beliefs : List Formula) (n : ℕ) (views : List ℕ) (vs : List Verdict) (v : Verdict) (view : Option ℕ) → IsVerdict names items beliefs n v view
    → AreJudged names items beliefs n views vs → AreJudged names items beliefs (n + 1) (with_view views view) (vs ++ v ∷ [])
judged-more names items beliefs n views vs v view (is, shows) before = record {
  one_each = length_push vs v ∙ ap (λ (m : ℕ). m + 1) before.one_each;
  accepted = λ set w at. elim (slice_get_push_at vs v set w at) [
    | inl old ↦ before.accepted set w old
    | inr (place, same) ↦ subst (λ (m : ℕ). IsAcceptedVerdict names items beliefs m w) (sym (place ∙ before.one_each)) (subst (IsAcceptedVerdict names items beliefs n) (sym same) is)
  ];
  listed = λ places. (
    λ among. elim ((view_added views view places).0 among) [
      | inl old ↦ let (set, w, at, shown) = (before.listed places).0 old in (set, w, slice_get_kept vs (v ∷ []) set w at, shown)
      | inr e ↦ (n, v, slice_get_seam vs v [] n (sym before.one_each), (shows places).1 e)
    ],
    λ (set, w, at, shown). (view_added views view places).1 (elim (slice_get_push_at vs v set w at) as (λ _. IsAmong places views ⊎ (view ≡ Some places)) [
      | inl old ↦ inl ((before.listed places).1 (set, w, old, shown))
      | inr (place, same) ↦ inr ((shows places).0 (subst (λ (x : Verdict). ShowsView names items beliefs n x places) same (subst (λ (m : ℕ). ShowsView names items beliefs m w places) (place ∙ before.one_each) shown)))
    ]),
  );
}

pub judged-all : (names : List Name) (items : List Item) (beliefs : List Formula) (n : ℕ) (views outputs : List ℕ) (vs : List Verdict) (ds : List Default) → ds ≡ defaults_of items → n ≡ 2 ^ length ds
    → AreJudged names items beliefs n views vs → IsListing (λ s. IsAmong s views) StateBefore outputs → IsAcceptedDefault names items beliefs outputs vs
judged-all names items beliefs n views outputs vs ds same all judged listing = record {
  one_each = judged.one_each ∙ all ∙ ap (λ (xs : List Default). 2 ^ length xs) same;
  accepted = judged.accepted;
  ascending = listing.ascending;
  listed = λ places. (λ among. (judged.listed places).0 ((listing.exactly places).0 among), λ h. (listing.exactly places).1 ((judged.listed places).1 h));
}

pub numbered_within : (n : ℕ) (ds : List Default) → n < 2 ^ length ds → Within n (all_of ds)
numbered_within n ds small k member =
    let below : k < length ds = members_below n (length ds) k small member in
    has-such_that (length ds) (λ k. true) k ∙ (let less : ltb k (length ds) ≡ true = grind (arith, nat_tests) in ap (λ c. c && true) less)
