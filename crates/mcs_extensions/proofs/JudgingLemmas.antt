-- Verdicts on sets of defaults, one after the other.
use Rattle.std.proofs.Common.{◌≡◌, ℕ, ◌^◌, List, [], ◌∷◌, ◌++◌, length, sym, ◌∙◌, subst, ◌⊎◌, ◌↔◌, inl, inr, Some, slice_get}
use Rattle.std.proofs.lemmas.Option.{none-some}
use Rattle.mcs_sets.specs.Orders.{StateBefore}
use Rattle.mcs_base.specs.Listings.{IsAmong, IsListing}
use Rattle.mcs_base.proofs.Among.{among_push}
use Rattle.mcs_base.proofs.Lists.{slice_get_kept, slice_get_push_at, slice_get_seam}
use Rattle.mcs_system.specs.Plain.{Name, Formula, Item}
use Rattle.mcs_evidence.specs.Defaults.{Verdict, defaults_of, IsAcceptedVerdict, ShowsView, IsAcceptedDefault}
use Rattle.mcs_evidence.proofs.DefaultCertificates.{shows_once, shows_accepted}
use Rattle.mcs_extensions.specs.Checks.{IsVerdictJudged}
use Rattle.mcs_extensions.specs.declared.verdict.Judged.TheVariants as variants

-- ---- so far
module _ (names : List Name) (items : List Item) (beliefs : List Formula) where
  -- a verdict on one of the sets so far shows this view
  abbrev pub ShowsSome : List Verdict → ℕ → Type 0
  ShowsSome front places = (set : ℕ) × (v : Verdict) × (slice_get front set ≡ Some v) × ShowsView names items beliefs set v places

  -- the verdicts on the first sets are accepted, and these are the views that they show
  pub record AreJudged (views : List ℕ) (front : List Verdict) : Type 0 where
    pub accepted : (set : ℕ) (v : Verdict) → slice_get front set ≡ Some v → IsAcceptedVerdict names items beliefs set v
    pub listed : (places : ℕ) → IsAmong places views ↔ ShowsSome front places

  pub judged_none : AreJudged [] []
  judged_none = record {
    accepted = λ set v at. absurd (none-some v at);
    listed = λ places. (λ none. absurd none, λ (set, v, at, shows). absurd (none-some v at));
  }

  module _ (views : List ℕ) (front : List Verdict) (before : AreJudged views front) (n : ℕ) (many : length front ≡ n) (v : Verdict) where
    here : slice_get (front ++ v ∷ []) n ≡ Some v
    here = slice_get_seam front v [] n (sym many)

    accepted_more : IsAcceptedVerdict names items beliefs n v → (set : ℕ) (w : Verdict) → slice_get (front ++ v ∷ []) set ≡ Some w → IsAcceptedVerdict names items beliefs set w
    accepted_more fine set w at = elim (slice_get_push_at front v set w at) as (λ _. IsAcceptedVerdict names items beliefs set w) [
      | inl old ↦ before.accepted set w old
      | inr (last, same) ↦ subst (λ (m : ℕ). IsAcceptedVerdict names items beliefs m w) (sym (last ∙ many)) (subst (IsAcceptedVerdict names items beliefs n) (sym same) fine)
    ]

    -- a view of the sets so far is one of those before or one of this set
    last_or : (places : ℕ) → ShowsSome (front ++ v ∷ []) places → ShowsSome front places ⊎ ShowsView names items beliefs n v places
    last_or places (set, w, at, shows) = elim (slice_get_push_at front v set w at) as (λ _. ShowsSome front places ⊎ ShowsView names items beliefs n v places) [
      | inl old ↦ inl (set, w, old, shows)
      | inr (last, same) ↦ inr (subst (λ (x : Verdict). ShowsView names items beliefs n x places) same (subst (λ (m : ℕ). ShowsView names items beliefs m w places) (last ∙ many) shows))
    ]

    still_shows : (places : ℕ) → ShowsSome front places → ShowsSome (front ++ v ∷ []) places
    still_shows places (set, w, at, shows) = (set, w, slice_get_kept front (v ∷ []) set w at, shows)

    pub judged_passed : IsVerdictJudged names items beliefs n v variants.Passed → AreJudged views (front ++ v ∷ [])
    judged_passed (fine, none) = record {
      accepted = accepted_more fine;
      listed = λ places. (
        λ among. still_shows places ((before.listed places).0 among),
        λ h. elim (last_or places h) as (λ _. IsAmong places views) [
          | inl old ↦ (before.listed places).1 old
          | inr last ↦ absurd (none places last)
        ],
      );
    }

    pub judged_shows : (views' : List ℕ) (view : ℕ) → views' ≡ views ++ view ∷ [] → IsVerdictJudged names items beliefs n v (variants.Shows view) → AreJudged views' (front ++ v ∷ [])
    judged_shows views' view pushed shown = subst (λ (vs : List ℕ). AreJudged vs (front ++ v ∷ [])) (sym pushed) (record {
      accepted = accepted_more (shows_accepted names items beliefs n v view shown);
      listed = λ places. (
        λ among. elim ((among_push places views view).0 among) as (λ _. ShowsSome (front ++ v ∷ []) places) [
          | inl old ↦ still_shows places ((before.listed places).0 old)
          | inr same ↦ (n, v, here, subst (ShowsView names items beliefs n v) (sym same) shown)
        ],
        λ h. (among_push places views view).1 (elim (last_or places h) as (λ _. IsAmong places views ⊎ (places ≡ view)) [
          | inl old ↦ inl ((before.listed places).1 old)
          | inr last ↦ inr (shows_once names items beliefs n v places view last shown)
        ]),
      );
    })

  -- ---- all of them
  pub all_judged : (views outputs : List ℕ) (vs : List Verdict) → AreJudged views vs → length vs ≡ 2 ^ length (defaults_of items) → IsListing (λ s. IsAmong s views) StateBefore outputs → IsAcceptedDefault names items beliefs outputs vs
  all_judged views outputs vs judged all listing = record {
    one_each = all;
    accepted = judged.accepted;
    ascending = listing.ascending;
    listed = λ places. (
      λ among. (judged.listed places).0 ((listing.exactly places).0 among),
      λ some. (listing.exactly places).1 ((judged.listed places).1 some),
    );
  }

  pub one_refused : (outputs : List ℕ) (vs : List Verdict) (set : ℕ) (v : Verdict) → slice_get vs set ≡ Some v → ¬ IsAcceptedVerdict names items beliefs set v → ¬ IsAcceptedDefault names items beliefs outputs vs
  one_refused outputs vs set v there wrong h = wrong (h.accepted set v there)
