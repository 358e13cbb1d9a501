-- What is printed of a session for which the budget does not suffice.
use Rattle.std.proofs.Common.{◌≡◌, ℕ, zero, suc, ◌<◌, List, ◌++◌, sym, ap₂, ◌∙◌, subst, inl, inr, arith}
use Rattle.std.proofs.lemmas.Bool.{cases_lt}
use Rattle.std.proofs.lemmas.Option.{same_Some}
use Rattle.mcs_base.proofs.ListingLemmas.{same_listing}
use Rattle.mcs_sets.specs.Orders.{StateBefore, PairBefore}
use Rattle.mcs_sets.proofs.SetLemmas.{StateBefore-asymmetric, PairBefore-asymmetric}
use Rattle.mcs_system.specs.Plain.{System}
use Rattle.mcs_diagnosis.specs.declared.diagnosis.Diagnosis as code
use Rattle.mcs_diagnosis.specs.Diagnoses.{AreFoundBelow, pairs_of}
use Rattle.mcs_diagnosis.proofs.ShownLemmas.{shown_are_one}
use Rattle.mcs_report.specs.Solutions.{IsListingUpTo, IsListingBelow, IsListingStage, first, below, listing_front}
use Rattle.mcs_work.specs.declared.task.Task.TheVariants.{Solve}
use Rattle.mcs_listing.specs.Listings.{IsListedBefore}
use Rattle.mcs_report.specs.Sessions.{list_line}
use Rattle.mcs_editing.specs.Texts.{HasBegunNext, begun}
use Rattle.mcs_editing.specs.Sessions.{IsSessionBefore}
use Rattle.mcs_editing.specs.Laws.{TextsBeforeAreStages, TextsBeforeAreShort, BudgetsSufficeOrNot, TextsBeforeAreOne}
use Rattle.mcs_editing.proofs.SessionTexts.{one_front}

up_to_is_stage : (m : System) (level : ℕ) (text : List ℕ) → IsListingUpTo m level text → IsListingStage m text
up_to_is_stage m zero text is = first is
up_to_is_stage m (suc level) text b = below (suc level) b

pub before_is_stage : TextsBeforeAreStages
before_is_stage budget level systems text b = begun b.many (record {
  before = b.next.before;
  listed = b.next.listed;
  system = b.next.system;
  is_there = b.next.is_there;
  listing = b.next.listing;
  holds = up_to_is_stage b.next.system level b.next.listing b.next.holds.1;
  text_is = b.next.text_is;
})

pub before_is_short : TextsBeforeAreShort
before_is_short budget level systems text b = record {
  place = b.many;
  system = b.next.system;
  is_there = b.next.is_there;
  short = record { level = level; taken = b.next.holds.0.taken; beyond = b.next.holds.0.beyond };
}

pub suffices_or_not : BudgetsSufficeOrNot
suffices_or_not budget systems enough s = enough s.place s.system s.is_there s.short.level s.short.taken s.short.beyond

-- ---- which text it is
found_are_one : (m : System) (level : ℕ) (ds es : List code.Diagnosis) → AreFoundBelow m level ds → AreFoundBelow m level es → ds ≡ es
found_are_one m level ds es a b = shown_are_one m ds es (same_listing PairBefore PairBefore-asymmetric _ (pairs_of ds) (pairs_of es) a.listed b.listed) a.shown b.shown

one_below : (m : System) (level : ℕ) (text other : List ℕ) → IsListingBelow m level text → IsListingBelow m level other → text ≡ other
one_below m level text other a b =
    a.text_is
    ∙ ap₂ (λ (σs : List ℕ) (ds : List code.Diagnosis). listing_front m σs ds) (same_listing StateBefore StateBefore-asymmetric _ a.states b.states a.equilibria b.equilibria) (found_are_one m level a.diagnoses b.diagnoses a.repairs b.repairs)
    ∙ sym b.text_is

one_up_to : (m : System) (level : ℕ) (text other : List ℕ) → IsListingUpTo m level text → IsListingUpTo m level other → text ≡ other
one_up_to m zero text other a b = a ∙ sym b
one_up_to m (suc level) text other a b = one_below m (suc level) text other a b

module _ (budget level level' : ℕ) (systems : List System) (text text' : List ℕ) (a : IsSessionBefore budget level systems text) (b : IsSessionBefore budget level' systems text') where
  -- the one does not come before the other
  not_earlier : ¬ (a.many < b.many)
  not_earlier less = b.within a.many a.next.system less a.next.is_there level a.next.holds.0.taken a.next.holds.0.beyond

pub before_is_one : TextsBeforeAreOne
before_is_one budget level level' systems text text' a b =
    let sooner = not_earlier budget level level' systems text text' a b in
    let later = not_earlier budget level' level systems text' text b a in
    let many : a.many ≡ b.many = elim (cases_lt a.many b.many) [ inl less ↦ absurd (sooner less) | inr most ↦ elim (cases_lt b.many a.many) [ inl less ↦ absurd (later less) | inr least ↦ omega (arith, most, least) ] ] in
    let next : HasBegunNext (λ m listing. IsListedBefore Solve budget level listing m) systems b.many text = subst (λ (n : ℕ). HasBegunNext (λ m listing. IsListedBefore Solve budget level listing m) systems n text) many a.next in
    at b.many next b.next
  where
    at : (many : ℕ) → (x : HasBegunNext (λ m listing. IsListedBefore Solve budget level listing m) systems many text) → (y : HasBegunNext (λ m listing. IsListedBefore Solve budget level' listing m) systems many text')
        → (level ≡ level') × (text ≡ text')
    at many x y =
        let same : x.system ≡ y.system = same_Some _ _ (sym x.is_there ∙ y.is_there) in
        let mine : IsListedBefore Solve budget level x.listing y.system = subst (λ (m : System). IsListedBefore Solve budget level x.listing m) same x.holds in
        let levels : level ≡ level' = elim (cases_lt level level') [
          | inl less ↦ absurd (y.holds.0.least level less mine.0.beyond)
          | inr most ↦ elim (cases_lt level' level) [ inl less ↦ absurd (mine.0.least level' less y.holds.0.beyond) | inr least ↦ omega (arith, most, least) ]
        ] in
        let listings : x.listing ≡ y.listing = one_up_to y.system level' x.listing y.listing (subst (λ (l : ℕ). IsListingUpTo y.system l x.listing) levels mine.1) y.holds.1 in
        (levels, x.text_is ∙ ap₂ (λ (t u : List ℕ). t ++ u) (one_front systems many x.before y.before x.listed y.listed) (ap₂ (λ (m : System) (t : List ℕ). list_line m (suc many) ++ t) same listings) ∙ sym y.text_is)
