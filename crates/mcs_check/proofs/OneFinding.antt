-- A text has one finding, where it spells one report at most.
use Rattle.std.proofs.Common.{◌≡◌, ℕ, ◌+◌, ◌<◌, List, [], ◌∷◌, length, take, slice_get, Some, refl, sym, ap, ◌∙◌, subst, inl, inr, ◌⊎◌, arith, Result, Ok, Err, IfOk}
use Rattle.std.proofs.lemmas.Bool.{cases_lt}
use Rattle.std.specs.List.{AllByRecursion, flat_map}
use Rattle.mcs_base.proofs.Each.{all_get}
use Rattle.mcs_spelling.specs.Lines.{complete_lines}
use Rattle.mcs_system.specs.Plain.{System}
use Rattle.mcs_system.specs.Naming.{IsSystemNamed}
use Rattle.mcs_system.specs.Faults.{IsValid}
use Rattle.mcs_base.specs.declared.memory.Memory.{Memory}
use Rattle.mcs_report.specs.Solutions.{IsWholeListing}
use Rattle.mcs_report.proofs.SolutionLaws.{whole_is_one}
use Rattle.mcs_proof_text.specs.Answers.{Answer, answer_lines}
use Rattle.mcs_proof_text.specs.Lines.{text_of_lines}
use Rattle.mcs_proof_text.specs.Reports.{IsListingPart, IsLineFeedFree, SpellsReport, IsFirstLineFault, report_lines}
use Rattle.mcs_proof_text.proofs.FaultLaws.{one_fault, no_fault}
use Rattle.mcs_proof_reader.proofs.TextLines.{text_lines}
use Rattle.mcs_proof_reader.proofs.WholeReadings.{spelled_once}
use Rattle.mcs_check.specs.Checked.{finding_in, ShowsCheck}
use Rattle.mcs_check.specs.declared.checking.Checked.{Checked}
use Rattle.mcs_check.specs.Findings.{IsReportFinding, RulesOut}
use Rattle.mcs_proof_text.specs.Proofs.{HasAcceptedCertificate, IsAnswered}
use Rattle.mcs_check.specs.Validity.{IsNeeded, DifferFirst, AreComplete, ValidReportsFailNothing}
use Rattle.mcs_check.specs.declared.finding.Reason.{Reason}
use Rattle.mcs_check.specs.declared.finding.Reason.TheVariants.{Grammar, Certificate, Missing, Listing}
use Rattle.mcs_check.specs.declared.finding.Finding.{Finding}
use Rattle.mcs_check.specs.declared.finding.Finding.TheVariants.{Valid, Fails}
use Rattle.mcs_base.proofs.Written.{slice_get-take}

-- ---- the first place of a kind
one_of_two : (P : ℕ → Type 0) (a b : ℕ) → P a → P b → ((i j : ℕ) → P i → P j → i < j → ⊥) → a ≡ b
one_of_two P a b p q never = elim (cases_lt a b) [
  | inl less ↦ absurd (never a b p q less)
  | inr past ↦ elim (cases_lt b a) [ inl less ↦ absurd (never b a q p less) | inr past' ↦ omega arith ]
]

differ_once : (xs ys : List (List ℕ)) (j k : ℕ) → DifferFirst xs ys j → DifferFirst xs ys k → j ≡ k
differ_once xs ys j k d e =
    let same = one_of_two (λ k. (take k xs ≡ take k ys) × (¬ (slice_get xs k ≡ slice_get ys k))) d.index e.index (d.same, d.differ) (e.same, e.differ)
    (λ a b p q less. p.1 (sym (slice_get-take b xs a less) ∙ ap (λ (zs : List (List ℕ)). slice_get zs a) q.0 ∙ slice_get-take b ys a less)) in
    d.line_is ∙ ap (λ (n : ℕ). n + 1) same ∙ sym e.line_is

free_listing : (lines : List (List ℕ)) → IsListingPart lines → AllByRecursion IsLineFeedFree lines
free_listing [] h = absurd h
free_listing (line ∷ lines) (free, rest) = (free, at rest (free_listing lines))
  where
    at : {E : Type 0} → (E × (lines ≡ [])) ⊎ ((¬ E) × IsListingPart lines) → (IsListingPart lines → AllByRecursion IsLineFeedFree lines) → AllByRecursion IsLineFeedFree lines
    at (inl (last, none)) again = subst (AllByRecursion IsLineFeedFree) (sym none) tt
    at (inr (not_last, part)) again = again part

-- ---- what is found of a text that spells this report
module _ (m : System) (listing : List (List ℕ)) (answers : List Answer) where
  pub record ValidHere : Type 0 where
    pub right : AllByRecursion (HasAcceptedCertificate m) answers
    pub complete : AreComplete m answers
    pub same : IsWholeListing m (text_of_lines listing)

  pub record WrongHere (line : ℕ) : Type 0 where
    pub number : ℕ
    pub answer : Answer
    pub is_it : slice_get answers number ≡ Some answer
    pub wrong : ¬ HasAcceptedCertificate m answer
    pub before : AllByRecursion (HasAcceptedCertificate m) (take number answers)
    pub line_is : line ≡ length listing + 1 + length (flat_map (answer_lines m) (take number answers)) + 1

  pub record LackHere (line : ℕ) : Type 0 where
    pub right : AllByRecursion (HasAcceptedCertificate m) answers
    pub context : ℕ
    pub active : ℕ
    pub needed : IsNeeded m context active
    pub unanswered : ¬ IsAnswered answers context active
    pub line_is : line ≡ length (report_lines m listing answers)

  pub record OtherHere (line : ℕ) : Type 0 where
    pub right : AllByRecursion (HasAcceptedCertificate m) answers
    pub complete : AreComplete m answers
    pub due : List (List ℕ)
    pub free : AllByRecursion IsLineFeedFree due
    pub whole : IsWholeListing m (text_of_lines due)
    pub differ : DifferFirst listing due line

  abbrev pub FoundHere : Finding → Type 0
  FoundHere Valid = ValidHere
  FoundHere (Fails line Grammar) = ⊥
  FoundHere (Fails line Certificate) = WrongHere line
  FoundHere (Fails line Missing) = LackHere line
  FoundHere (Fails line Listing) = OtherHere line

  all_right : (line : ℕ) → AllByRecursion (HasAcceptedCertificate m) answers → WrongHere line → ⊥
  all_right line right h = h.wrong (all_get (HasAcceptedCertificate m) answers h.number h.answer right h.is_it)

  same_lines : (xs ys : List (List ℕ)) → AllByRecursion IsLineFeedFree xs → AllByRecursion IsLineFeedFree ys → IsWholeListing m (text_of_lines xs) → IsWholeListing m (text_of_lines ys) → xs ≡ ys
  same_lines xs ys free free' w w' = sym (text_lines xs free).0 ∙ ap complete_lines (whole_is_one m _ _ w w') ∙ (text_lines ys free').0

  wrong_once : (j k : ℕ) → WrongHere j → WrongHere k → j ≡ k
  wrong_once j k h g =
      let same = one_of_two (λ n. (a : Answer) × (slice_get answers n ≡ Some a) × (¬ HasAcceptedCertificate m a) × AllByRecursion (HasAcceptedCertificate m) (take n answers)) h.number g.number (h.answer, h.is_it, h.wrong, h.before) (g.answer, g.is_it, g.wrong, g.before)
      (λ a b (x, is, wrong, before) (y, is', wrong', before') less. wrong (all_get (HasAcceptedCertificate m) (take b answers) a x before' (slice_get-take b answers a less ∙ is))) in
      h.line_is ∙ ap (λ (n : ℕ). length listing + 1 + length (flat_map (answer_lines m) (take n answers)) + 1) same ∙ sym g.line_is

  module _ (free : AllByRecursion IsLineFeedFree listing) where
    other_once : (j k : ℕ) → OtherHere j → OtherHere k → j ≡ k
    other_once j k h g = differ_once listing g.due j k (subst (λ (due : List (List ℕ)). DifferFirst listing due j) (same_lines h.due g.due h.free g.free h.whole g.whole) h.differ) g.differ

    not_other : (line : ℕ) → ValidHere → OtherHere line → ⊥
    not_other line v h = h.differ.differ (ap (λ (ls : List (List ℕ)). slice_get ls h.differ.index) (same_lines listing h.due free h.free v.same h.whole))

    valid_alone : (g : Finding) → ValidHere → FoundHere g → ◌≡◌ {A = Finding} Valid g
    valid_alone Valid v h = refl
    valid_alone (Fails line Grammar) v h = absurd h
    valid_alone (Fails line Certificate) v h = absurd (all_right line v.right h)
    valid_alone (Fails line Missing) v h = absurd (h.unanswered (v.complete h.context h.active h.needed))
    valid_alone (Fails line Listing) v h = absurd (not_other line v h)

    wrong_alone : (g : Finding) (j : ℕ) → WrongHere j → FoundHere g → Fails j Certificate ≡ g
    wrong_alone Valid j w h = absurd (all_right j h.right w)
    wrong_alone (Fails line Grammar) j w h = absurd h
    wrong_alone (Fails line Certificate) j w h = ap (λ (n : ℕ). Fails n Certificate) (wrong_once j line w h)
    wrong_alone (Fails line Missing) j w h = absurd (all_right j h.right w)
    wrong_alone (Fails line Listing) j w h = absurd (all_right j h.right w)

    lack_alone : (g : Finding) (j : ℕ) → LackHere j → FoundHere g → Fails j Missing ≡ g
    lack_alone Valid j w h = absurd (w.unanswered (h.complete w.context w.active w.needed))
    lack_alone (Fails line Grammar) j w h = absurd h
    lack_alone (Fails line Certificate) j w h = absurd (all_right line w.right h)
    lack_alone (Fails line Missing) j w h = ap (λ (n : ℕ). Fails n Missing) (w.line_is ∙ sym h.line_is)
    lack_alone (Fails line Listing) j w h = absurd (w.unanswered (h.complete w.context w.active w.needed))

    other_alone : (g : Finding) (j : ℕ) → OtherHere j → FoundHere g → Fails j Listing ≡ g
    other_alone Valid j w h = absurd (not_other j h w)
    other_alone (Fails line Grammar) j w h = absurd h
    other_alone (Fails line Certificate) j w h = absurd (all_right line w.right h)
    other_alone (Fails line Missing) j w h = absurd (h.unanswered (w.complete h.context h.active h.needed))
    other_alone (Fails line Listing) j w h = ap (λ (n : ℕ). Fails n Listing) (other_once j line w h)

    pub found_once : (f g : Finding) → FoundHere f → FoundHere g → f ≡ g
    found_once Valid g h k = valid_alone g h k
    found_once (Fails line Grammar) g h k = absurd h
    found_once (Fails line Certificate) g h k = wrong_alone g line h k
    found_once (Fails line Missing) g h k = lack_alone g line h k
    found_once (Fails line Listing) g h k = other_alone g line h k

-- ---- of any text
-- it spells one report at most
abbrev pub SpellsOnce : System → List ℕ → Type 0
SpellsOnce m bytes = (l k : List (List ℕ)) (as' bs : List Answer) → SpellsReport m bytes l as' → SpellsReport m bytes k bs → (l ≡ k) × (as' ≡ bs)

module _ (m : System) (bytes : List ℕ) where
  IsFault : Finding → Type 0
  IsFault f = (line : ℕ) × (f ≡ Fails line Grammar) × IsFirstLineFault m bytes line

  IsOfReport : Finding → Type 0
  IsOfReport f = (listing : List (List ℕ)) × (answers : List Answer) × SpellsReport m bytes listing answers × FoundHere m listing answers f

  sorted : (f : Finding) → IsReportFinding m bytes f → IsFault f ⊎ IsOfReport f
  unfolding IsFault IsOfReport
  sorted Valid h = inr (h.listing, h.answers, h.spelled, record { right = h.right; complete = h.complete; same = h.same })
  sorted (Fails line Grammar) h = inl (line, refl, h)
  sorted (Fails line Certificate) h = inr (h.listing, h.answers, h.spelled, record { number = h.number; answer = h.answer; is_it = h.is_it; wrong = h.wrong; before = h.before; line_is = h.line_is })
  sorted (Fails line Missing) h = inr (h.listing, h.answers, h.spelled, record { right = h.right; context = h.context; active = h.active; needed = h.needed; unanswered = h.unanswered; line_is = h.line_is })
  sorted (Fails line Listing) h = inr (h.listing, h.answers, h.spelled, record { right = h.right; complete = h.complete; due = h.due; free = h.free; whole = h.whole; differ = h.differ })

  one_by_kind : SpellsOnce m bytes → (f g : Finding) → IsFault f ⊎ IsOfReport f → IsFault g ⊎ IsOfReport g → f ≡ g
  unfolding IsFault IsOfReport
  one_by_kind plain f g (inl (j, is, h)) (inl (k, is', h')) = is ∙ ap (λ (n : ℕ). Fails n Grammar) (one_fault m bytes j k h h') ∙ sym is'
  one_by_kind plain f g (inl (j, is, h)) (inr (l, as', spelled, found)) = absurd (no_fault m bytes l as' j spelled h)
  one_by_kind plain f g (inr (l, as', spelled, found)) (inl (k, is', h')) = absurd (no_fault m bytes l as' k spelled h')
  one_by_kind plain f g (inr (l, as', spelled, found)) (inr (l', bs, spelled', found')) =
      let same = plain l' l bs as' spelled' spelled in
      found_once m l as' (free_listing l spelled.report.listing_part) f g found
      (subst (λ (ls : List (List ℕ)). FoundHere m ls as' g) same.0 (subst (λ (cs : List Answer). FoundHere m l' cs g) same.1 found'))

  pub one_finding : SpellsOnce m bytes → (f g : Finding) → IsReportFinding m bytes f → IsReportFinding m bytes g → f ≡ g
  one_finding plain f g h k = one_by_kind plain f g (sorted f h) (sorted g k)

  not_both : (line : ℕ) (reason : Reason) → ◌≡◌ {A = Finding} Valid (Fails line reason) → ⊥
  not_both line reason e = cc

  -- what is found rules out the rest
  pub rules_out : SpellsOnce m bytes → (f : Finding) → IsReportFinding m bytes f → RulesOut m bytes f
  rules_out plain Valid h = λ line reason fails. not_both line reason (one_finding plain Valid (Fails line reason) h fails)
  rules_out plain (Fails line reason) h = λ valid. not_both line reason (one_finding plain Valid (Fails line reason) valid h)

-- the same of what was answered
pub only_finding : (m : System) → IsValid m → IsSystemNamed m → (bytes : List ℕ) (r : Result Checked Memory) → IfOk r (ShowsCheck m bytes) → IfOk r (λ c. RulesOut m bytes (finding_in c))
only_finding m valid named bytes (Ok c) h = rules_out m bytes (spelled_once m valid named bytes) (finding_in c) h.found
only_finding m valid named bytes (Err e) h = tt

pub valid_fails_nothing : ValidReportsFailNothing
valid_fails_nothing m bytes line reason valid named h = rules_out m bytes (spelled_once m valid named bytes) Valid h line reason
