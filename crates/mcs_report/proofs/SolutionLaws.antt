-- The whole listing of a system is one, its stages are fronts of it, and there is one.
use Rattle.std.proofs.Common.{◌≡◌, ℕ, ◌+◌, ◌*◌, nat_eq, nat_lt, List, [], ◌++◌, length, refl, sym, ap, subst, inl, inr, ◌⊎◌, ◌↔◌, ◌∙◌, append_assoc}
use Rattle.std.proofs.lemmas.List.{append-nil}
use Rattle.std.specs.List.{position_or_len}
use Rattle.mcs_sets.specs.Sets.{common, single, Meets}
use Rattle.mcs_sets.specs.Orders.{StateBefore, PairBefore}
use Rattle.mcs_sets.proofs.Lattice.{cases_meet}
use Rattle.mcs_sets.proofs.SetLemmas.{StateBefore-asymmetric, PairBefore-asymmetric}
use Rattle.mcs_base.specs.Listings.{IsListing}
use Rattle.mcs_base.specs.Minimal.{IsMinimal}
use Rattle.mcs_base.specs.Transversals.{IsTransversalOf}
use Rattle.mcs_base.proofs.Among.{nil_from_none}
use Rattle.mcs_base.proofs.Each.{all_from_among}
use Rattle.mcs_base.proofs.ListingLemmas.{same_listing, listed_alone, decided_listed}
use Rattle.mcs_system.specs.Plain.{System}
use Rattle.mcs_system.specs.Levels.{IsNeed}
use Rattle.mcs_system.specs.Repairs.{IsDiagnosis, IsExplanation}
use Rattle.mcs_system.specs.Systems.{all_rules, IsProjectedEquilibrium}
use Rattle.mcs_system.proofs.MarkLemmas.{marks_small, allowed_known}
use Rattle.mcs_laws.proofs.Choices.{consistent_minimal, consistent_unexplained}
use Rattle.mcs_laws.proofs.Transversals.{minimal_explanations}
use Rattle.mcs_import.proofs.CountLemmas.{need_is_one}
use Rattle.mcs_existence.proofs.Counts.{counts_exist}
use Rattle.mcs_costs.proofs.ExistLemmas.{cases_diagnosis, cases_states}
use Rattle.mcs_base.proofs.Deciding.{cases_all, cases_minimal}
use Rattle.mcs_existence.proofs.SystemListings.{all_states_listed}
use Rattle.mcs_transversal.proofs.BergeLemmas.{none_before}
use Rattle.mcs_transversal.proofs.CriticalLemmas.{critical_from_minimal}
use Rattle.mcs_diagnosis.specs.declared.diagnosis.Diagnosis as code
use Rattle.mcs_diagnosis.specs.Diagnoses.{AreDiagnoses, pairs_of}
use Rattle.mcs_diagnosis.proofs.ShownLemmas.{diagnoses_are_one, below_is_front, shown_exist}
use Rattle.mcs_report.specs.Listing.{heading, verdict_line}
use Rattle.mcs_report.specs.Solutions.{diagnosis_lines, explanation_lines, equilibria_part, listing_front, listing_rest, AreEquilibria, first, below, whole, summary_text, WholeListingsAreOne, ListingStagesAreFronts, WholeListingsExist, SummariesAreOne, SummaryStagesAreFronts, SummariesExist, SummariesEndAsListings, ExplanationsHaveReasons, ConsistentListingsExplainNothing, ListingsWithoutDiagnoses}
use Rattle.mcs_report.proofs.RepairLemmas.{number_first, number_within}
use Rattle.mcs_report.proofs.SolutionLemmas.{diagnosis_lines-append}

-- ---- the whole listing is one
equilibria_are_one : (m : System) (xs ys : List ℕ) → AreEquilibria m xs → AreEquilibria m ys → xs ≡ ys
equilibria_are_one m xs ys = same_listing StateBefore StateBefore-asymmetric _ xs ys

pub whole_is_one : WholeListingsAreOne
whole_is_one m text other a b =
    let states = equilibria_are_one m a.states b.states a.equilibria b.equilibria in
    let ds = diagnoses_are_one m a.diagnoses b.diagnoses a.repairs b.repairs in
    let ts = same_listing PairBefore PairBefore-asymmetric _ a.explanations b.explanations a.causes b.causes in
    let need = need_is_one m a.need b.need a.needed b.needed in
    a.text_is
    ∙ ap (λ (xs : List ℕ). listing_front m xs a.diagnoses ++ listing_rest m xs a.diagnoses a.explanations a.need) states
    ∙ ap (λ (xs : List code.Diagnosis). listing_front m b.states xs ++ listing_rest m b.states xs a.explanations a.need) ds
    ∙ ap (λ (xs : List ℕ). listing_front m b.states b.diagnoses ++ listing_rest m b.states b.diagnoses xs a.need) ts
    ∙ ap (λ (n : ℕ). listing_front m b.states b.diagnoses ++ listing_rest m b.states b.diagnoses b.explanations n) need
    ∙ sym b.text_is

-- ---- its stages are fronts of it
-- where the diagnoses go on, so does the listing
front_goes_on : (m : System) (states : List ℕ) (ds rest : List code.Diagnosis) (more : List ℕ) → listing_front m states ds ++ (diagnosis_lines m (1 + length ds) rest ++ more) ≡ listing_front m states (ds ++ rest) ++ more
front_goes_on m states ds rest more =
    sym (append_assoc (listing_front m states ds) (diagnosis_lines m (1 + length ds) rest) more)
    ∙ ap (λ (xs : List ℕ). xs ++ more) (
    append_assoc (heading m) (equilibria_part m states ++ diagnosis_lines m 1 ds) _
    ∙ ap (λ (xs : List ℕ). heading m ++ xs) (append_assoc (equilibria_part m states) (diagnosis_lines m 1 ds) _ ∙ ap (λ (xs : List ℕ). equilibria_part m states ++ xs) (sym (diagnosis_lines-append m 1 ds rest)))
    )

pub stages_of_whole : ListingStagesAreFronts
stages_of_whole m stage text (first is) w =
    let part : List ℕ = equilibria_part m w.states ++ diagnosis_lines m 1 w.diagnoses in
    let more : List ℕ = listing_rest m w.states w.diagnoses w.explanations w.need in
    (part ++ more, ap (λ (xs : List ℕ). xs ++ (part ++ more)) is ∙ sym (append_assoc (heading m) part more) ∙ sym w.text_is)
stages_of_whole m stage text (below level b) w =
    let more : List ℕ = listing_rest m w.states w.diagnoses w.explanations w.need in
    let states = equilibria_are_one m b.states w.states b.equilibria w.equilibria in
    let (rest, is) = below_is_front m level b.diagnoses w.diagnoses b.repairs w.repairs in
    let later : List ℕ = diagnosis_lines m (1 + length b.diagnoses) rest ++ more in (
      later,
      ap (λ (xs : List ℕ). xs ++ later) b.text_is
          ∙ front_goes_on m b.states b.diagnoses rest more
          ∙ ap (λ (ds : List code.Diagnosis). listing_front m b.states ds ++ more) is
          ∙ ap (λ (xs : List ℕ). listing_front m xs w.diagnoses ++ more) states
          ∙ sym w.text_is,
    )
stages_of_whole m stage text (whole same) w = ([], append-nil stage ∙ whole_is_one m stage text same w)

-- ---- there is one
minimal_diagnoses_listed : (m : System) → (pairs : List ℕ) × IsListing (IsMinimal (IsDiagnosis m)) PairBefore pairs
minimal_diagnoses_listed m = decided_listed (IsMinimal (IsDiagnosis m)) (2 * length m.bridges) (cases_minimal (IsDiagnosis m) (cases_diagnosis m)) (λ s minimal. marks_small m s (allowed_known m s minimal.one.allowed))

pub diagnoses_exist : (m : System) → (ds : List code.Diagnosis) × AreDiagnoses m ds
diagnoses_exist m =
    let (pairs, listing) = minimal_diagnoses_listed m in
    let (ds, are, shown) = shown_exist m (λ pair. all_states_listed m _ _) pairs (all_from_among (IsDiagnosis m) pairs (λ p among. ((listing.exactly p).0 among).one)) in
    (ds, record { listed = subst (IsListing (IsMinimal (IsDiagnosis m)) PairBefore) (sym are) listing; shown = shown })

-- the minimal explanations, as the minimal transversals of the minimal diagnoses
pub explanations_exist : (m : System) (pairs : List ℕ) → IsListing (IsMinimal (IsDiagnosis m)) PairBefore pairs → (ts : List ℕ) × IsListing (IsMinimal (IsExplanation m)) PairBefore ts
explanations_exist m pairs listing = decided_listed (IsMinimal (IsExplanation m)) (2 * length m.bridges) decides (λ s minimal. marks_small m s minimal.one.of_rules)
  where
    decides : (t : ℕ) → IsMinimal (IsExplanation m) t ⊎ (¬ IsMinimal (IsExplanation m) t)
    decides t = elim (cases_minimal (IsTransversalOf pairs) (λ s. cases_all (λ e. Meets s e) pairs (λ e. cases_meet s e)) t) [
      | inl minimal ↦ inl ((minimal_explanations m pairs listing t).1 minimal)
      | inr other ↦ inr (λ minimal. other ((minimal_explanations m pairs listing t).0 minimal))
    ]

pub need_exists : (m : System) → (n : ℕ) × IsNeed m n
need_exists m = at (cases_states m (all_rules m) 0)
  where
    at : ((σ : ℕ) × IsProjectedEquilibrium m (all_rules m) 0 σ) ⊎ ((σ : ℕ) → ¬ IsProjectedEquilibrium m (all_rules m) 0 σ) → (n : ℕ) × IsNeed m n
    at (inl (σ, is)) = let (n, count) = counts_exist m 0 in (n, inl (record { equilibrium = σ; balanced = is }, count))
    at (inr none) = let (n, count) = counts_exist m (length m.bridges) in (n, inr (λ c. none c.equilibrium c.balanced, count))

pub whole_exists : WholeListingsExist
whole_exists m =
    let (states, equilibria) = all_states_listed m (all_rules m) 0 in
    let (ds, repairs) = diagnoses_exist m in
    let (ts, causes) = explanations_exist m (pairs_of ds) repairs.listed in
    let (need, needed) = need_exists m in (
      listing_front m states ds ++ listing_rest m states ds ts need,
      record { states = states; equilibria = equilibria; diagnoses = ds; repairs = repairs; explanations = ts; causes = causes; need = need; needed = needed; text_is = refl },
    )

-- ---- the summary
pub summary_is_one : SummariesAreOne
summary_is_one m text other a b =
    let states = equilibria_are_one m a.listed.states b.listed.states a.listed.equilibria b.listed.equilibria in
    let ds = diagnoses_are_one m a.listed.diagnoses b.listed.diagnoses a.listed.repairs b.listed.repairs in
    let ts = same_listing PairBefore PairBefore-asymmetric _ a.listed.explanations b.listed.explanations a.listed.causes b.listed.causes in
    let need = need_is_one m a.listed.need b.listed.need a.listed.needed b.listed.needed in
    a.text_is
    ∙ ap (λ (xs : List ℕ). summary_text (length xs) (length a.listed.diagnoses) (length a.listed.explanations) a.listed.need) states
    ∙ ap (λ (xs : List code.Diagnosis). summary_text (length b.listed.states) (length xs) (length a.listed.explanations) a.listed.need) ds
    ∙ ap (λ (xs : List ℕ). summary_text (length b.listed.states) (length b.listed.diagnoses) (length xs) a.listed.need) ts
    ∙ ap (λ (n : ℕ). summary_text (length b.listed.states) (length b.listed.diagnoses) (length b.listed.explanations) n) need
    ∙ sym b.text_is

pub stages_of_summary : SummaryStagesAreFronts
stages_of_summary m stage text (inl none) s = (text, ap (λ (xs : List ℕ). xs ++ text) none)
stages_of_summary m stage text (inr same) s = ([], append-nil stage ∙ summary_is_one m stage text same s)

pub summary_exists : SummariesExist
summary_exists m =
    let (listing, w) = whole_exists m in (
      summary_text (length w.states) (length w.diagnoses) (length w.explanations) w.need,
      record { listing = listing; listed = w; text_is = refl },
    )

-- ---- a consistent system, and one without diagnoses
pub consistent_explains_nothing : ConsistentListingsExplainNothing
consistent_explains_nothing m text w c = (
  listed_alone (IsMinimal (IsDiagnosis m)) 0 (pairs_of w.diagnoses) (consistent_minimal m c.equilibrium c.balanced) w.repairs.listed,
  nil_from_none w.explanations (λ t among. consistent_unexplained m c.equilibrium c.balanced t ((w.causes.exactly t).0 among).one),
)

pub nothing_to_meet : ListingsWithoutDiagnoses
nothing_to_meet m text w none = listed_alone (IsMinimal (IsExplanation m)) 0 w.explanations only w.causes
  where
    no_edges : IsListing (IsMinimal (IsDiagnosis m)) PairBefore []
    no_edges = subst (λ (ds : List code.Diagnosis). IsListing (IsMinimal (IsDiagnosis m)) PairBefore (pairs_of ds)) none w.repairs.listed

    alone : (t : ℕ) → IsMinimal (IsTransversalOf []) t → t ≡ 0
    alone t minimal = elim ((none_before t).1 minimal) [ inl e ↦ e | inr other ↦ absurd other ]

    only : (t : ℕ) → IsMinimal (IsExplanation m) t ↔ (t ≡ 0)
    only t = (
      λ minimal. alone t ((minimal_explanations m [] no_edges t).0 minimal),
      λ e. (minimal_explanations m [] no_edges t).1 ((none_before t).0 (inl e)),
    )

-- ---- the last line
pub summaries_end : SummariesEndAsListings
summaries_end m summary listing s w = (
  (
    verdict_line (nat_lt 0 (length w.states)),
    summary_is_one m summary _ s (record { listing = listing; listed = w; text_is = refl }),
  ),
  (
    listing_front m w.states w.diagnoses ++ explanation_lines m 1 (pairs_of w.diagnoses) w.explanations,
    w.text_is ∙ sym (append_assoc (listing_front m w.states w.diagnoses) (explanation_lines m 1 (pairs_of w.diagnoses) w.explanations) _),
  ),
)

-- ---- the reasons of explanations
pub explanations_have_reasons : ExplanationsHaveReasons
explanations_have_reasons m text w t k among member =
    let pairs : List ℕ = pairs_of w.diagnoses in
    let transversal = (minimal_explanations m pairs w.repairs.listed t).0 ((w.causes.exactly t).0 among) in
    let critical = critical_from_minimal pairs t transversal k member in
    let place : ℕ = position_or_len (λ e. nat_eq (common e t) (single k)) pairs in
    (place, number_first pairs t k place (number_within pairs t k critical) refl, refl)
