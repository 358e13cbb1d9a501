-- What is shown of a pair is one, and there is something; so the diagnoses of a system are one list, of which those with fewer marks are a front.
use Rattle.std.proofs.Common.{◌≡◌, ℕ, IsTrue, not, ltb, List, [], ◌∷◌, ◌++◌, filter, refl, sym, ap, subst, inl, inr, ◌⊎◌, ◌∙◌, arith}
use Rattle.std.proofs.lemmas.Bool.{cases_lt}
use Rattle.std.proofs.lemmas.Bool.Decides.{nat_tests}
use Rattle.std.proofs.lemmas.List.{append-nil}
use Rattle.std.specs.List.{AllByRecursion}
use Rattle.mcs_sets.specs.Sets.{size}
use Rattle.mcs_sets.specs.Orders.{StateBefore, PairBefore}
use Rattle.mcs_sets.proofs.SetLemmas.{StateBefore-asymmetric, PairBefore-asymmetric}
use Rattle.mcs_base.specs.Listings.{IsAmong}
use Rattle.mcs_base.specs.Minimal.{IsMinimal}
use Rattle.mcs_base.proofs.Each.{all_among}
use Rattle.mcs_base.proofs.ListingLemmas.{same_listing, IsListing-same, IsListing-append, IsListing-filter}
use Rattle.mcs_system.specs.Plain.{System}
use Rattle.mcs_system.specs.Repairs.{IsDiagnosis}
use Rattle.mcs_states.specs.Evaluators.{IsStateOf, AreStates}
use Rattle.mcs_states.specs.First.{IsFirstState}
use Rattle.mcs_diagnosis.specs.declared.diagnosis.Diagnosis as code
use Rattle.mcs_diagnosis.specs.Diagnoses.{AreFoundBelow, AreDiagnoses, ShowsFirstState, pairs_of, active_in}
use Rattle.mcs_diagnosis.proofs.BelowLemmas.{IsBelow}

-- ---- what is shown of a pair is one
first_is_one : (m : System) (pair σ τ : ℕ) → IsFirstState m pair σ → IsFirstState m pair τ → σ ≡ τ
first_is_one m pair σ τ a b = at (a.first τ b.one) (b.first σ a.one)
  where
    at : (σ ≡ τ) ⊎ StateBefore σ τ → (τ ≡ σ) ⊎ StateBefore τ σ → σ ≡ τ
    at (inl e) h = e
    at (inr before) (inl e) = sym e
    at (inr before) (inr after) = absurd (StateBefore-asymmetric σ τ before after)

shown_is_one : (m : System) (d e : code.Diagnosis) → d.pair ≡ e.pair → ShowsFirstState m d → ShowsFirstState m e → d ≡ e
shown_is_one m d e pair a b =
    let state : d.state ≡ e.state = first_is_one m e.pair d.state e.state (subst (λ (p : ℕ). IsFirstState m p d.state) pair a.state) b.state in
    let active : d.active ≡ e.active = a.active ∙ ap (λ (p : ℕ). active_in m p d.state) pair ∙ ap (active_in m e.pair) state ∙ sym b.active in
    same d.pair d.state d.active e.pair e.state e.active pair state active
  where
    made : ℕ → ℕ → ℕ → code.Diagnosis
    made p σ act = record { pair = p; state = σ; active = act }

    same : (p σ act p' σ' act' : ℕ) → p ≡ p' → σ ≡ σ' → act ≡ act' → made p σ act ≡ made p' σ' act'
    same p σ act p' σ' act' e e' e'' = ap (λ (q : ℕ). made q σ act) e ∙ ap (λ (τ : ℕ). made p' τ act) e' ∙ ap (made p' σ') e''

-- where the pairs begin in the same way, so does what is shown
shown_front : (m : System) (ds all : List code.Diagnosis) (later : List ℕ) → pairs_of ds ++ later ≡ pairs_of all → AllByRecursion (ShowsFirstState m) ds → AllByRecursion (ShowsFirstState m) all
    → (rest : List code.Diagnosis) × (ds ++ rest ≡ all) × (pairs_of rest ≡ later)
shown_front m [] all later e shown shown' = (all, refl, sym e)
shown_front m (d ∷ ds) [] later e shown shown' = absurd (cc)
shown_front m (d ∷ ds) (d' ∷ all) later e shown shown' =
    let here : d.pair ≡ d'.pair = cc in
    let (rest, is, later_is) = shown_front m ds all later (cc) shown.1 shown'.1 in
    (rest, ap (λ es. d ∷ es) is ∙ ap (λ x. x ∷ all) (shown_is_one m d d' here shown.0 shown'.0), later_is)

no_pairs : (ds : List code.Diagnosis) → pairs_of ds ≡ [] → ds ≡ []
no_pairs [] e = refl
no_pairs (d ∷ ds) e = absurd (cc)

pub shown_are_one : (m : System) (ds es : List code.Diagnosis) → pairs_of ds ≡ pairs_of es → AllByRecursion (ShowsFirstState m) ds → AllByRecursion (ShowsFirstState m) es → ds ≡ es
shown_are_one m ds es same a b =
    let (rest, is, none) = shown_front m ds es [] (append-nil (pairs_of ds) ∙ same) a b in
    sym (append-nil ds) ∙ ap (λ r. ds ++ r) (sym (no_pairs rest none)) ∙ is

pub diagnoses_are_one : (m : System) (ds es : List code.Diagnosis) → AreDiagnoses m ds → AreDiagnoses m es → ds ≡ es
diagnoses_are_one m ds es a b = shown_are_one m ds es (same_listing PairBefore PairBefore-asymmetric _ (pairs_of ds) (pairs_of es) a.listed b.listed) a.shown b.shown

-- those with fewer marks come first
pub below_is_front : (m : System) (level : ℕ) (ds all : List code.Diagnosis) → AreFoundBelow m level ds → AreDiagnoses m all → (rest : List code.Diagnosis) × (ds ++ rest ≡ all)
below_is_front m level ds all few whole =
    let joined = IsListing-append PairBefore (IsBelow m level) IsLater (pairs_of ds) later before few.listed (IsListing-filter PairBefore (IsMinimal (IsDiagnosis m)) (λ p. not (ltb (size p) level)) (pairs_of all) whole.listed) in
    let same : pairs_of ds ++ later ≡ pairs_of all = same_listing PairBefore PairBefore-asymmetric (IsMinimal (IsDiagnosis m)) _ (pairs_of all) (IsListing-same PairBefore _ (IsMinimal (IsDiagnosis m)) _ (λ p. (to p, from p)) joined) whole.listed in
    let (rest, is, later_is) = shown_front m ds all later same few.shown whole.shown in
    (rest, is)
  where
    IsLater : ℕ → Type 0
    IsLater p = IsMinimal (IsDiagnosis m) p × IsTrue (not (ltb (size p) level))

    later : List ℕ
    later = filter (λ p. not (ltb (size p) level)) (pairs_of all)

    before : (p q : ℕ) → IsBelow m level p → IsLater q → PairBefore p q
    before p q less not_less = inl (let few = less.1 in let many = not_less.1 in grind (arith, nat_tests))

    to : (p : ℕ) → IsBelow m level p ⊎ IsLater p → IsMinimal (IsDiagnosis m) p
    to p (inl h) = h.0
    to p (inr h) = h.0

    from : (p : ℕ) → IsMinimal (IsDiagnosis m) p → IsBelow m level p ⊎ IsLater p
    from p h = elim (cases_lt (size p) level) [
      | inl less ↦ inl (h, less)
      | inr past ↦ inr (h, grind (arith, nat_tests))
    ]

-- ---- of each diagnosis something is shown, where its states have a listing
first_of : (m : System) (pair : ℕ) (states : List ℕ) → AreStates m pair states → (σ : ℕ) → IsStateOf m pair σ → (τ : ℕ) × IsFirstState m pair τ
first_of m pair [] listing σ is = absurd ((listing.exactly σ).1 is)
first_of m pair (τ ∷ states) listing σ is = (τ, record { one = (listing.exactly τ).0 (inl refl); first = λ υ is'. at υ ((listing.exactly υ).1 is') })
  where
    at : (υ : ℕ) → IsAmong υ (τ ∷ states) → (τ ≡ υ) ⊎ StateBefore τ υ
    at υ (inl e) = inl (sym e)
    at υ (inr among) = inr (all_among (StateBefore τ) states υ listing.ascending.0 among)

pub shown_exist : (m : System) → ((pair : ℕ) → (states : List ℕ) × AreStates m pair states) → (pairs : List ℕ) → AllByRecursion (IsDiagnosis m) pairs → (ds : List code.Diagnosis) × (pairs_of ds ≡ pairs) × AllByRecursion (ShowsFirstState m) ds
shown_exist m listed [] all = ([], refl, tt)
shown_exist m listed (pair ∷ pairs) all =
    let (states, listing) = listed pair in
    let (σ, first) = first_of m pair states listing all.0.equilibrium all.0.balanced in
    let (ds, are, shown) = shown_exist m listed pairs all.1 in
    (record { pair = pair; state = σ; active = active_in m pair σ } ∷ ds, ap (λ ps. pair ∷ ps) are, (record { state = first; active = refl }, shown))
