-- The text of the cheapest diagnoses is one, its stages are fronts of it, and a valid system has one.
use Rattle.std.proofs.Common.{◌≡◌, ℕ, Bool, true, false, IsTrue, List, [], ◌++◌, length, Option, refl, sym, ap, ◌∙◌, subst, inl, inr, ◌↔◌, append_assoc}
use Rattle.std.proofs.lemmas.List.{append-nil}
use Rattle.std.specs.Cmp.{both_ways}
use Rattle.mcs_system.specs.Levels.{IsCount}
use Rattle.mcs_system.specs.Plain.{System}
use Rattle.mcs_system.specs.Systems.{IsConsistent}
use Rattle.mcs_diagnosis.specs.declared.diagnosis.Diagnosis as code
use Rattle.mcs_existence.proofs.Counts.{counts_exist}
use Rattle.mcs_import.proofs.CountLemmas.{count_is_one}
use Rattle.mcs_costs.proofs.ExistLemmas.{stop_exists}
use Rattle.mcs_costs.proofs.StopLemmas.{stop_is_one}
use Rattle.mcs_cheapest.proofs.ListedLaws.{cheapest_are_one, cheapest_exist, least_cost_exists, least_cost_is_one}
use Rattle.mcs_report.specs.Cheapest.{cheapest_end_line}
use Rattle.mcs_report.specs.Listing.{heading, verdict_line}
use Rattle.mcs_work.specs.Cheapest.{after_search, cheapest_lines, cheapest_text, is_free, CheapestTextsAreOne, CheapestStagesAreFronts, CheapestTextsExist}
use Rattle.mcs_work.proofs.CheapestLemmas.{verdict_told}

same_verdict : (m : System) (a b : Bool) → IsTrue a ↔ IsConsistent m → IsTrue b ↔ IsConsistent m → a ≡ b
same_verdict m a b is is' = both_ways a b (λ h. is'.1 (is.0 h)) (λ h. is.1 (is'.0 h))

pub cheapest_text_is_one : CheapestTextsAreOne
cheapest_text_is_one m text other a b =
    let found = cheapest_are_one m a.found b.found a.cheapest b.cheapest in
    let price = least_cost_is_one m a.price b.price a.price_is b.price_is in
    let stop = stop_is_one m a.stop b.stop a.stop_is b.stop_is in
    let need = count_is_one m b.stop a.need b.need (subst (λ (k : ℕ). IsCount m k a.need) stop a.count) b.count in
    a.text_is
    ∙ ap (λ (v : Bool). cheapest_text m v a.found a.price a.need) (same_verdict m a.consistent b.consistent a.verdict b.verdict)
    ∙ ap (λ (ds : List code.Diagnosis). cheapest_text m b.consistent ds a.price a.need) found
    ∙ ap (λ (o : Option ℕ). cheapest_text m b.consistent b.found o a.need) price
    ∙ ap (λ (n : ℕ). cheapest_text m b.consistent b.found b.price n) need
    ∙ sym b.text_is

pub cheapest_stages : CheapestStagesAreFronts
cheapest_stages m stage text (inl is) w = let rest = after_search m w.consistent w.found w.price w.need in (rest, ap (λ t. t ++ rest) is ∙ sym w.text_is)
cheapest_stages m stage text (inr (inl (none, is))) w = at w.consistent refl
  where
    at : (v : Bool) → w.consistent ≡ v → (rest : List ℕ) × (stage ++ rest ≡ text)
    at true e = absurd (none (w.verdict.0 e))
    at false e =
        let later : List ℕ = cheapest_lines m 1 w.found ++ cheapest_end_line (length w.found) w.price w.need in
        (later, ap (λ t. t ++ later) is ∙ append_assoc (heading m) (verdict_line false) later ∙ ap (λ (v : Bool). heading m ++ (verdict_line v ++ later)) (sym e) ∙ sym w.text_is)
cheapest_stages m stage text (inr (inr same)) w = ([], append-nil stage ∙ cheapest_text_is_one m stage text same w)

pub cheapest_texts : CheapestTextsExist
cheapest_texts m valid =
    let (found, cheapest) = cheapest_exist m in
    let (price, price_is) = least_cost_exists m in
    let (stop, stop_is) = stop_exists m valid in
    let (need, count) = counts_exist m stop in (
      cheapest_text m (is_free price) found price need,
      record { consistent = is_free price; verdict = verdict_told m valid price price_is; found = found; cheapest = cheapest; price = price; price_is = price_is; stop = stop; stop_is = stop_is; need = need; count = count; text_is = refl },
    )
