-- The pairs of a level, and one more of them shown.
use Rattle.std.proofs.Common.{◌≡◌, ℕ, ◌+◌, ◌<◌, ◌≤◌, List, [], ◌∷◌, ◌++◌, take, length, get_or, Option, Some, None, MatchOption, IsSome, sym, ap, ◌∙◌, subst, arith, rules}
use Rattle.std.proofs.lemmas.List.{take_more, take_all, map-append}
use Rattle.std.specs.List.{AllByRecursion}
use Rattle.mcs_sets.specs.Sets.{size}
use Rattle.mcs_sets.specs.Orders.{PairBefore}
use Rattle.mcs_base.specs.Listings.{IsAmong, IsListing}
use Rattle.mcs_base.specs.Minimal.{IsMinimal}
use Rattle.mcs_base.proofs.Among.{among_at}
use Rattle.mcs_base.proofs.ListingLemmas.{IsListing-same}
use Rattle.mcs_system.specs.Plain.{System}
use Rattle.mcs_system.specs.Repairs.{IsDiagnosis}
use Rattle.mcs_states.specs.Evaluators.{AreRepairs, IsStateOf}
use Rattle.mcs_states.specs.First.{IsFirstState}
use Rattle.mcs_diagnosis.specs.declared.diagnosis.Diagnosis as code
use Rattle.mcs_diagnosis.specs.Diagnoses.{AreShownDiagnoses, IsDiagnosisOfSize, ShowsFirstState, pairs_of, active_in}

-- of the pairs with at most so many marks, those with exactly so many
pub exact_listed : (m : System) (level : ℕ) (xs ys zs : List ℕ) → ys ≡ xs → AreRepairs m level xs → IsListing (λ p. IsAmong p ys × (size p ≡ level)) PairBefore zs → IsListing (IsDiagnosisOfSize m level) PairBefore zs
exact_listed m level xs ys zs same all l = IsListing-same PairBefore (λ p. IsAmong p ys × (size p ≡ level)) (IsDiagnosisOfSize m level) zs (λ p. (
  λ h. (((all.exactly p).0 (subst (IsAmong p) same h.0)).0, h.1),
  λ h. (subst (IsAmong p) (sym same) ((all.exactly p).1 (h.0, (let few = h.1 in omega (arith, few)))), h.1),
)) l

pub pairs-more : (ds : List code.Diagnosis) (xs : List ℕ) (i x : ℕ) (d : code.Diagnosis) → i < length xs → x ≡ get_or xs i x → d.pair ≡ x → pairs_of ds ≡ take i xs → pairs_of (ds ++ d ∷ []) ≡ take (i + 1) xs
pairs-more ds xs i x d less is same so_far =
    map-append (λ (d : code.Diagnosis). d.pair) ds (d ∷ []) ∙ ap (λ ps. ps ++ d.pair ∷ []) so_far ∙ ap (λ p. take i xs ++ p ∷ []) (same ∙ is) ∙ sym (take_more xs i x less)

pub all-found : (m m' : System) (level : ℕ) (ds : List code.Diagnosis) (xs ys : List ℕ) (i : ℕ) → m' ≡ m → ys ≡ xs → IsListing (IsDiagnosisOfSize m' level) PairBefore xs → length ys ≤ i → pairs_of ds ≡ take i ys → AllByRecursion (ShowsFirstState m) ds → AreShownDiagnoses m level ds
all-found m m' level ds xs ys i e same l past so_far shown = record {
  listed = subst (λ (s : System). IsListing (IsDiagnosisOfSize s level) PairBefore (pairs_of ds)) e (subst (IsListing (IsDiagnosisOfSize m' level) PairBefore) (sym (so_far ∙ take_all i ys past ∙ same)) l);
  shown = shown;
}

-- a pair of the listing
module _ (m : System) (level : ℕ) (xs ys : List ℕ) (i x p : ℕ) (e : ys ≡ xs) (l : IsListing (IsDiagnosisOfSize m level) PairBefore xs) (less : i < length ys) (is : x ≡ get_or ys i x) (same : p ≡ x) where
  pair_known : IsDiagnosisOfSize m level p
  pair_known =
      let among : IsAmong x ys = subst (λ (y : ℕ). IsAmong y ys) (sym is) (among_at ys i x less) in
      (l.exactly p).0 (subst (IsAmong p) e (subst (λ (y : ℕ). IsAmong y ys) (sym same) among))

  pub known : IsMinimal (IsDiagnosis m) p
  known = pair_known.0

  pub size_known : size p ≡ level
  size_known = pair_known.1

pub some_there : (m : System) (pair : ℕ) (o : Option ℕ) → IsDiagnosis m pair → MatchOption o ((σ : ℕ) → ¬ IsStateOf m pair σ) (IsFirstState m pair) → IsSome o
some_there m pair None h none = absurd (none h.equilibrium h.balanced)
some_there m pair (Some σ) h first = search rules

pub shown_here : (m m' : System) (pair σ act : ℕ) (o : Option ℕ) → m' ≡ m → o ≡ Some σ → MatchOption o ((τ : ℕ) → ¬ IsStateOf m' pair τ) (IsFirstState m' pair) → act ≡ active_in m pair σ → ShowsFirstState m (record { pair = pair; state = σ; active = act })
shown_here m m' pair σ act o e is first active = record { state = subst (λ (s : System). IsFirstState s pair σ) e (rw is at first); active = active }
