-- Entailments that are judged one after the other, and the places of those that say `yes`.
use Rattle.std.proofs.Common.{◌≡◌, ℕ, ◌+◌, ◌-◌, ◌<◌, ◌≤◌, Bool, true, false, cond, IsTrue, List, [], ◌∷◌, ◌++◌, map, length, get_or, take, Some, None, Ok, IfSome, slice_get, ◌⊎◌, inl, inr, ◌↔◌, refl, sym, ap, ◌∙◌, subst, arith, length-append, true≢false}
use Rattle.std.proofs.lemmas.List.{length-map, map_push, take_all}
use Rattle.std.specs.List.{AllZip}
use Rattle.mcs_sets.specs.Sets.{has, single, union}
use Rattle.mcs_sets.proofs.Lattice.{in_with}
use Rattle.mcs_base.proofs.Lists.{slice_get_kept, slice_get_push_at, slice_get_seam, zip_push}
use Rattle.mcs_base.proofs.Mapped.{map-take_read}
use Rattle.mcs_base.proofs.Zipped.{zip_pop}
use Rattle.mcs_system.specs.Plain.{Name, Formula}
use Rattle.mcs_cnf.specs.Entailments.{Entailment, says_yes, IsAcceptedEntailment, IsModelAt}
use Rattle.mcs_cnf.specs.Classical.{HasYes}
use Rattle.mcs_evidence.specs.Defaults.{IsEntailmentShown, IsDenied}
use Rattle.mcs_proof_lines.specs.declared.fault.ReportFault.{ReportFault}
use Rattle.mcs_proof_lines.specs.declared.fault.ReportFault.TheVariants as faults
use Rattle.mcs_proof_lines.specs.Walks.{At, Reading, ReturnsReading, yes_at, no_at, many_at, after_front}
use Rattle.mcs_proof_lines.proofs.WalkLemmas.{many_ok, many_err, many_end, front_none}
use Rattle.mcs_steps.specs.Judging.{IsJudged}
use Rattle.mcs_judging.specs.Judging.{IsTold, ArePlacesShown, with_yes, IsToldOn}
use Rattle.mcs_judging.specs.declared.entailments.Told as code
use Rattle.mcs_judging.proofs.Readings.{yes_says, no_says}

-- ---- so many that were read, one for each of the first items, and whether each is right
pub record AreJudgedSoFar {X : Type 0} (p : At → Reading Entailment) (R : Formula → Entailment → Type 0) (f : X → Formula) (xs : List X) (start at : At) (i : ℕ) (told : Bool) : Type 0 where
  pub front : List Entailment
  pub many : length front ≡ i
  pub read : after_front front (many_at p (length xs - i) at) ≡ many_at p (length xs) start
  pub right : IsTrue told ↔ AllZip R (map f (take i xs)) front

module _ {X : Type 0} (p : At → Reading Entailment) (R : Formula → Entailment → Type 0) (f : X → Formula) (xs : List X) (start : At) where
  pub none_judged : (told : Bool) → told ≡ true → AreJudgedSoFar p R f xs start start 0 told
  none_judged told is = record {
    front = [];
    many = refl;
    read = (let all : length xs - 0 ≡ length xs = omega arith in ap (λ (n : ℕ). after_front [] (many_at p n start)) all ∙ front_none (many_at p (length xs) start));
    right = (λ h. tt, λ h. is);
  }

  module _ (at : At) (i : ℕ) (before : Bool) (h : AreJudgedSoFar p R f xs start at i before) where
    pub one_judged : (x : X) (e : Entailment) (now : At) (after : Bool) → i < length xs → x ≡ get_or xs i x → p at ≡ Ok (e, now) → (IsTrue after ↔ (IsTrue before × R (f x) e)) → AreJudgedSoFar p R f xs start now (i + 1) after
    one_judged x e now after less is read both =
        let image : map f (take (i + 1) xs) ≡ map f (take i xs) ++ f x ∷ [] = map-take_read f xs i x less is in
        record {
          front = h.front ++ e ∷ [];
          many = (let long = length-append h.front (e ∷ []) in let many = h.many in omega (arith, long, many));
          read = (let left : length xs - (i + 1) ≡ length xs - i - 1 = omega arith in
              ap (λ (n : ℕ). after_front (h.front ++ e ∷ []) (many_at p n now)) left ∙ (many_ok p h.front (length xs - i) at e now (omega (arith, less)) read ∙ h.read));
          right = (
            λ yes. (let parts = both.0 yes in subst (λ (ys : List Formula). AllZip R ys (h.front ++ e ∷ [])) (sym image) (zip_push R (map f (take i xs)) h.front (f x) e (h.right.0 parts.0) parts.1)),
            λ all. (let parts = zip_pop R (map f (take i xs)) h.front (f x) e (subst (λ (ys : List Formula). AllZip R ys (h.front ++ e ∷ [])) image all) in both.1 (h.right.1 parts.0, parts.1)),
          );
        }

    pub judging_failed : (fault : ReportFault) → i < length xs → ReturnsReading fault (p at) → ReturnsReading fault (many_at p (length xs) start)
    judging_failed faults.Memory less told = tt
    judging_failed (faults.Grammar k) less told = sym h.read ∙ many_err p h.front (length xs - i) at k (omega (arith, less)) told

    pub all_read : length xs ≤ i → many_at p (length xs) start ≡ Ok (h.front, at)
    all_read past = let none : length xs - i ≡ 0 = omega (arith, past) in sym h.read ∙ (ap (λ (n : ℕ). after_front h.front (many_at p n at)) none ∙ many_end p h.front at)

    pub all_right : length xs ≤ i → IsTrue before ↔ AllZip R (map f xs) h.front
    all_right past = subst (λ (ys : List X). IsTrue before ↔ AllZip R (map f ys) h.front) (take_all i xs past) h.right

    pub all_judged : length xs ≤ i → IsJudged (λ (es : List Entailment). AllZip R (map f xs) es) before at (many_at p (length xs) start)
    all_judged past = record { value = h.front; is = all_read past; right = all_right past }

-- ---- the places of those that say `yes`
abbrev pub AreYesPlaces : List Entailment → ℕ → Type 0
AreYesPlaces es places = (b : ℕ) → IsTrue (has places b) ↔ HasYes es b

module _ (front : List Entailment) (e : Entailment) (places : ℕ) (known : AreYesPlaces front places) where
  pushed : map says_yes (front ++ e ∷ []) ≡ map says_yes front ++ says_yes e ∷ []
  pushed = map_push says_yes front e

  to_yes : (b : ℕ) → slice_get (map says_yes front ++ says_yes e ∷ []) b ≡ Some true → HasYes (front ++ e ∷ []) b
  to_yes b h = ap (λ (vs : List Bool). slice_get vs b) pushed ∙ h

  from_yes : (b : ℕ) → HasYes (front ++ e ∷ []) b → (slice_get (map says_yes front) b ≡ Some true) ⊎ ((b ≡ length (map says_yes front)) × (true ≡ says_yes e))
  from_yes b h = slice_get_push_at (map says_yes front) (says_yes e) b true (sym (ap (λ (vs : List Bool). slice_get vs b) pushed) ∙ h)

  module _ (i : ℕ) (many : length front ≡ i) where
    long : length (map says_yes front) ≡ i
    long = length-map front says_yes ∙ many

    taken_in : (b : ℕ) → (has places b ≡ true) ⊎ (b ≡ i) → says_yes e ≡ true → HasYes (front ++ e ∷ []) b
    taken_in b (inl old) said = to_yes b (slice_get_kept (map says_yes front) (says_yes e ∷ []) b true ((known b).0 old))
    taken_in b (inr same) said = to_yes b (slice_get_seam (map says_yes front) (says_yes e) [] b (same ∙ sym long) ∙ ap (λ (v : Bool). Some v) said)

    taken_out : (b : ℕ) → (slice_get (map says_yes front) b ≡ Some true) ⊎ ((b ≡ length (map says_yes front)) × (true ≡ says_yes e)) → (has places b ≡ true) ⊎ (b ≡ i)
    taken_out b (inl old) = inl ((known b).1 old)
    taken_out b (inr last) = inr (last.0 ∙ long)

    passed_out : (b : ℕ) → says_yes e ≡ false → (slice_get (map says_yes front) b ≡ Some true) ⊎ ((b ≡ length (map says_yes front)) × (true ≡ says_yes e)) → has places b ≡ true
    passed_out b said (inl old) = (known b).1 old
    passed_out b said (inr last) = absurd (true≢false (last.1 ∙ said))

    pub places_more : (after : ℕ) → after ≡ with_yes i e places → AreYesPlaces (front ++ e ∷ []) after
    places_more after is b = by (says_yes e) refl
      where
        by : (v : Bool) → says_yes e ≡ v → IsTrue (has after b) ↔ HasYes (front ++ e ∷ []) b
        by true said =
            let now : after ≡ union places (single i) = is ∙ ap (λ (v : Bool). cond v (union places (single i)) places) said in (
              λ h. taken_in b ((in_with places i b).0 (sym (ap (λ (s : ℕ). has s b) now) ∙ h)) said,
              λ h. ap (λ (s : ℕ). has s b) now ∙ (in_with places i b).1 (taken_out b (from_yes b h)),
            )
        by false said =
            let now : after ≡ places = is ∙ ap (λ (v : Bool). cond v (union places (single i)) places) said in (
              λ h. to_yes b (slice_get_kept (map says_yes front) (says_yes e ∷ []) b true ((known b).0 (sym (ap (λ (s : ℕ). has s b) now) ∙ h))),
              λ h. ap (λ (s : ℕ). has s b) now ∙ passed_out b said (from_yes b h),
            )

-- ---- all that is told so far
pub record AreToldSoFar {X : Type 0} (names : List Name) (fs : List Formula) (p : At → Reading Entailment) (f : X → Formula) (xs : List X) (start at : At) (i : ℕ) (told : code.Told) : Type 0 where
  pub judged : AreJudgedSoFar p (IsAcceptedEntailment names fs) f xs start at i told.are_right
  pub places : AreYesPlaces judged.front told.places
  pub model : IfSome told.model (IsModelAt names fs)

module _ {X : Type 0} (names : List Name) (fs : List Formula) (p : At → Reading Entailment) (f : X → Formula) (xs : List X) (start : At) where
  pub none_told : (told : code.Told) → told.are_right ≡ true → ((b : ℕ) → has told.places b ≡ false) → IfSome told.model (IsModelAt names fs) → AreToldSoFar names fs p f xs start start 0 told
  unfolding none_judged
  none_told told right none known = record {
    judged = none_judged p (IsAcceptedEntailment names fs) f xs start told.are_right right;
    places = λ b. (λ h. absurd (true≢false (sym h ∙ none b)), λ h. absurd (let impossible : None ≡ Some true = h in cc));
    model = known;
  }

  module _ (at : At) (i : ℕ) (before : code.Told) (h : AreToldSoFar names fs p f xs start at i before) where
    pub one_told : (x : X) (now : At) (after : code.Told) → i < length xs → x ≡ get_or xs i x → IsTold (IsToldOn names fs (f x) i before) after now (p at) → AreToldSoFar names fs p f xs start now (i + 1) after
    unfolding one_judged
    one_told x now after less is told = record {
      judged = one_judged p (IsAcceptedEntailment names fs) f xs start at i before.are_right h.judged x told.value now after.are_right less is told.is told.fits.right;
      places = places_more h.judged.front told.value before.places h.places i h.judged.many after.places told.fits.places;
      model = told.fits.model;
    }

    pub places_told : length xs ≤ i → before.are_right ≡ true → IsTold (ArePlacesShown names fs (map f xs)) (Some before.places) at (many_at p (length xs) start)
    places_told past right = record {
      value = h.judged.front;
      is = all_read p (IsAcceptedEntailment names fs) f xs start at i before.are_right h.judged past;
      fits = record {
        entailments = (all_right p (IsAcceptedEntailment names fs) f xs start at i before.are_right h.judged past).0 right;
        exactly = h.places;
      };
    }

    pub places_refused : length xs ≤ i → before.are_right ≡ false → IsTold (ArePlacesShown names fs (map f xs)) None at (many_at p (length xs) start)
    places_refused past wrong = record {
      value = h.judged.front;
      is = all_read p (IsAcceptedEntailment names fs) f xs start at i before.are_right h.judged past;
      fits = λ places shown. true≢false (sym ((all_right p (IsAcceptedEntailment names fs) f xs start at i before.are_right h.judged past).1 shown.entailments) ∙ wrong);
    }

-- ---- what is told after one more
module _ (names : List Name) (fs : List Formula) (g : Formula) (i : ℕ) (before after : code.Told) (at now : At) (yes : Bool) (both : IsTrue after.are_right ↔ (IsTrue before.are_right × IsTrue yes)) (model : IfSome after.model (IsModelAt names fs)) where
  pub told_yes : (read : Reading Entailment) → read ≡ yes_at at → after.places ≡ union before.places (single i) → IsJudged (IsEntailmentShown names fs g) yes now (yes_at at) → IsTold (IsToldOn names fs g i before) after now read
  told_yes read same places j =
      let says : says_yes j.value ≡ true = yes_says at now j.value j.is in
      record {
        value = j.value;
        is = same ∙ j.is;
        fits = record {
          right = (λ h. (let parts = both.0 h in (parts.0, (j.right.0 parts.1).0)), λ h. both.1 (h.0, j.right.1 (h.1, says)));
          places = places ∙ ap (λ (v : Bool). cond v (union before.places (single i)) before.places) (sym says);
          model = model;
        };
      }

  pub told_no : (texts : List (List ℕ)) (read : Reading Entailment) → read ≡ no_at texts at → after.places ≡ before.places → IsJudged (IsDenied names fs g) yes now (no_at texts at) → IsTold (IsToldOn names fs g i before) after now read
  told_no texts read same places j =
      let says : says_yes j.value ≡ false = no_says texts at now j.value j.is in
      record {
        value = j.value;
        is = same ∙ j.is;
        fits = record {
          right = (λ h. (let parts = both.0 h in (parts.0, (j.right.0 parts.1).0)), λ h. both.1 (h.0, j.right.1 (h.1, says)));
          places = places ∙ ap (λ (v : Bool). cond v (union before.places (single i)) before.places) (sym says);
          model = model;
        };
      }
