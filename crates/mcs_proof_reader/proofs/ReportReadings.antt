-- Listings, and the answers of a report one after the other, read.
use Rattle.std.proofs.Common.{◌≡◌, ℕ, ◌+◌, ◌<◌, zero, suc, Bool, true, false, cond, List, [], ◌∷◌, ◌++◌, length, take, codes, Option, Some, Ok, Err, refl, sym, ap, ◌∙◌, subst, arith, inl, inr}
use Rattle.std.proofs.Common.{append_assoc}
use Rattle.std.proofs.Math.Seq.{take-length}
use Rattle.std.specs.List.{flat_map}
use Rattle.mcs_system.specs.Plain.{System}
use Rattle.mcs_system.specs.Naming.{IsSystemNamed}
use Rattle.mcs_system.specs.Faults.{IsValid}
use Rattle.mcs_spelling.specs.Words.{after_prefix}
use Rattle.mcs_proof_text.specs.Lines.{question_text}
use Rattle.mcs_proof_text.specs.Answers.{Answer, answer_lines}
use Rattle.mcs_proof_lines.specs.Walks.{At, Reading, ◌>>=◌, head_line, fault_at, mapped_reading}
use Rattle.mcs_proof_lines.specs.Readings.{here, Anything, AreLinesRead, BeginsLines, IsStuckAt, ReadsLines, Image, AreBoth, prepended, itself, is_line, ComesNext}
use Rattle.mcs_proof_lines.proofs.Readings.{stuck_first_line, same_reading, same_head}
use Rattle.mcs_proof_lines.proofs.ReadingSequences.{both, paired, made_ok, made_err, reads_made, reads_both}
use Rattle.mcs_proof_reader.specs.Answers.{answer_at, answers_at, question_in}
use Rattle.mcs_proof_reader.specs.Listings.{ends_listing, listing_from, listing_at}
use Rattle.mcs_proof_reader.proofs.AnswerReadings.{IsAnswerAfter, reads_answer}
use Rattle.mcs_proof_reader.specs.Readings.{AreListingLines}

-- ---- the listing
abbrev end_line : List ℕ
end_line = codes "end: "

ended : ends_listing end_line ≡ true
unfolding after_prefix
ended = refl

one_more : (n : ℕ) (line : List ℕ) (rest ks ls : List (List ℕ)) (tail : List ℕ) (now : At) → ends_listing line ≡ false → ls ≡ line ∷ ks → AreLinesRead AreListingLines itself (here (n + 1) rest tail) now ks → AreLinesRead AreListingLines itself (here n (line ∷ rest) tail) now ls
one_more n line rest ks ls tail now test is h = subst (AreLinesRead AreListingLines itself (here n (line ∷ rest) tail) now) (sym is)
    (record { is = inr (test, h.is); rest = ap (λ (xs : List (List ℕ)). line ∷ xs) h.rest; taken = (let t = h.taken in omega (arith, t)); tail = h.tail })

listing_sound : (n : ℕ) (rest : List (List ℕ)) (tail : List ℕ) (now : At) (ls : List (List ℕ)) → listing_from n rest tail ≡ Ok (ls, now) → AreLinesRead AreListingLines itself (here n rest tail) now ls
listing_sound n [] tail now ls e = absurd (cc)
listing_sound n (line ∷ rest) tail now ls e = by (ends_listing line) refl (λ ks was. listing_sound (n + 1) rest tail now ks was) e
  where
    by : (b : Bool) → ends_listing line ≡ b → ((ks : List (List ℕ)) → listing_from (n + 1) rest tail ≡ Ok (ks, now) → AreLinesRead AreListingLines itself (here (n + 1) rest tail) now ks)
        → cond b (Ok (line ∷ [], here (n + 1) rest tail)) (mapped_reading (λ (ls : List (List ℕ)). line ∷ ls) (listing_from (n + 1) rest tail)) ≡ Ok (ls, now) → AreLinesRead AreListingLines itself (here n (line ∷ rest) tail) now ls
    by true test again e =
        let parts = same_reading (line ∷ []) ls (here (n + 1) rest tail) now e in
        let first : AreLinesRead AreListingLines itself (here n (line ∷ rest) tail) (here (n + 1) rest tail) (line ∷ []) = record { is = inl (test, refl); rest = refl; taken = omega arith; tail = refl } in
        subst (λ (mid : At). AreLinesRead AreListingLines itself (here n (line ∷ rest) tail) mid ls) parts.1 (subst (AreLinesRead AreListingLines itself (here n (line ∷ rest) tail) (here (n + 1) rest tail)) parts.0 first)
    by false test again e =
        let (ks, is, was) = made_ok (λ (ls : List (List ℕ)). line ∷ ls) (listing_from (n + 1) rest tail) ls now e in
        one_more n line rest ks ls tail now test is (again ks was)

listing_complete : (ls : List (List ℕ)) (n : ℕ) (more : List (List ℕ)) (tail : List ℕ) → AreListingLines ls → listing_from n (ls ++ more) tail ≡ Ok (ls, here (n + length ls) more tail)
listing_complete [] n more tail is = absurd is
listing_complete (line ∷ ls) n more tail (inl (test, none)) =
    let one : n + 1 ≡ n + length (line ∷ []) = omega arith in
    subst (λ (xs : List (List ℕ)). listing_from n (line ∷ (xs ++ more)) tail ≡ Ok (line ∷ xs, here (n + length (line ∷ xs)) more tail)) (sym none)
    (ap (λ (b : Bool). cond b (Ok (line ∷ [], here (n + 1) more tail)) (mapped_reading (λ (ls : List (List ℕ)). line ∷ ls) (listing_from (n + 1) more tail))) test ∙ ap (λ (m : ℕ). (let r : Reading (List (List ℕ)) = Ok (line ∷ [], here m more tail) in r)) one)
listing_complete (line ∷ ls) n more tail (inr (test, part)) =
    let count : n + 1 + length ls ≡ n + length (line ∷ ls) = omega arith in
    ap (λ (b : Bool). cond b (Ok (line ∷ [], here (n + 1) (ls ++ more) tail)) (mapped_reading (λ (ls : List (List ℕ)). line ∷ ls) (listing_from (n + 1) (ls ++ more) tail))) test
    ∙ (ap (mapped_reading (λ (ls : List (List ℕ)). line ∷ ls)) (listing_complete ls (n + 1) more tail part) ∙ ap (λ (m : ℕ). (let r : Reading (List (List ℕ)) = Ok (line ∷ ls, here m more tail) in r)) count)

-- it is stuck at its end alone
pub record IsEndless (n : ℕ) (rest : List (List ℕ)) (m : ℕ) : Type 0 where
  pub number : m ≡ n + length rest + 1
  pub value : List (List ℕ)
  pub is : AreListingLines value
  pub more : List (List ℕ)
  pub value_is : value ≡ rest ++ more

listing_fault : (n : ℕ) (rest : List (List ℕ)) (tail : List ℕ) (m : ℕ) → listing_from n rest tail ≡ Err m → IsEndless n rest m
listing_fault n [] tail m e = record { number = (let same : n + 1 ≡ m = cc in omega (arith, same)); value = end_line ∷ []; is = inl (ended, refl); more = end_line ∷ []; value_is = refl }
listing_fault n (line ∷ rest) tail m e = by (ends_listing line) refl (λ was. listing_fault (n + 1) rest tail m was) e
  where
    by : (b : Bool) → ends_listing line ≡ b → (listing_from (n + 1) rest tail ≡ Err m → IsEndless (n + 1) rest m)
        → cond b (Ok (line ∷ [], here (n + 1) rest tail)) (mapped_reading (λ (ls : List (List ℕ)). line ∷ ls) (listing_from (n + 1) rest tail)) ≡ Err m → IsEndless n (line ∷ rest) m
    by true test again e = absurd (cc)
    by false test again e =
        let h = again (made_err (λ (ls : List (List ℕ)). line ∷ ls) (listing_from (n + 1) rest tail) m e) in
        let number = h.number in
        record { number = omega (arith, number); value = line ∷ h.value; is = inr (test, h.is); more = h.more; value_is = ap (λ (ls : List (List ℕ)). line ∷ ls) h.value_is }

listing_stuck : (at : At) (m : ℕ) → IsEndless at.taken at.rest m → (k : ℕ) × IsStuckAt AreListingLines itself at m k
listing_stuck at m h =
    let whole : take (length at.rest) at.rest ≡ at.rest = take-length at.rest in
    (length at.rest, record { number = h.number; within = omega arith; begun = λ less. record { value = h.value; is = h.is; more = h.more; lines_are = h.value_is ∙ ap (λ (ls : List (List ℕ)). ls ++ h.more) (sym whole) } })

pub reads_listing : ReadsLines AreListingLines itself Anything listing_at
unfolding listing_at
reads_listing = record {
  sound = λ at now ls e. listing_sound at.taken at.rest at.tail now ls e;
  complete = λ ls n more tail is end. listing_complete ls n more tail is;
  fault = λ at m e. listing_stuck at m (listing_fault at.taken at.rest at.tail m e);
  local = λ at k rest tail e less front. absurd (let h = listing_fault at.taken at.rest at.tail (at.taken + k + 1) e in let number = h.number in omega (arith, number, less));
  stable = λ at now ls rest tail e next. (
      let r = listing_sound at.taken at.rest at.tail now ls e in
      listing_complete ls at.taken rest tail r.is ∙ ap (λ (m : ℕ). (let s : Reading (List (List ℕ)) = Ok (ls, here m rest tail) in s)) (sym r.taken));
}

-- ---- answers, at most so many, each to a question after the last one
abbrev pub AreAnswersAfter : System → ℕ → Option (ℕ × ℕ) → List Answer → Type 0
AreAnswersAfter m n last [] = Unit {0}
AreAnswersAfter m zero last (a ∷ others) = ⊥
AreAnswersAfter m (suc n) last (a ∷ others) = IsAnswerAfter m last a × AreAnswersAfter m n (Some (question_in a)) others

abbrev end_word : List ℕ
end_word = codes "end of proof"

module _ (m : System) (valid : IsValid m) (named : IsSystemNamed m) where
  abbrev all_lines : List Answer → List (List ℕ)
  all_lines = flat_map (answer_lines m)

  abbrev one_then : ℕ → Option (ℕ × ℕ) → At → Reading (List Answer)
  one_then n last at = mapped_reading prepended (both (λ a. answers_at m n (Some (question_in a))) (answer_at m last at))

  one_same : (n : ℕ) (r : Reading Answer) → mapped_reading prepended (both (λ a. answers_at m n (Some (question_in a))) r) ≡ (r >>= λ first. answers_at m n (Some (question_in first.0)) first.1 >>= λ others. Ok (first.0 ∷ others.0, others.1))
  one_same n (Ok r) = by (answers_at m n (Some (question_in r.0)) r.1)
    where
      by : (s : Reading (List Answer)) → mapped_reading prepended (paired r.0 s) ≡ (s >>= λ others. (let t : Reading (List Answer) = Ok (r.0 ∷ others.0, others.1) in t))
      by (Ok s) = refl
      by (Err k) = refl
  one_same n (Err k) = refl

  asks : (a : Answer) (more : List (List ℕ)) → is_line end_word (head_line (answer_lines m a ++ more)) ≡ false
  unfolding question_text
  asks a more = refl

  -- the end is next, or it is not
  at_end : (n : ℕ) (last : Option (ℕ × ℕ)) (at : At) → is_line end_word (head_line at.rest) ≡ true → answers_at m n last at ≡ Ok ([], at)
  at_end zero last at e = ap (λ (b : Bool). cond b (Ok ([], at)) (fault_at at)) e
  at_end (suc n) last at e = ap (λ (b : Bool). cond b (Ok ([], at)) (answer_at m last at >>= λ first. answers_at m n (Some (question_in first.0)) first.1 >>= λ others. Ok (first.0 ∷ others.0, others.1))) e

  no_fuel : (last : Option (ℕ × ℕ)) (at : At) → is_line end_word (head_line at.rest) ≡ false → answers_at m zero last at ≡ fault_at at
  no_fuel last at e = ap (λ (b : Bool). cond b (Ok ([], at)) (fault_at at)) e

  goes_on : (n : ℕ) (last : Option (ℕ × ℕ)) (at : At) → is_line end_word (head_line at.rest) ≡ false → answers_at m (suc n) last at ≡ one_then n last at
  goes_on n last at e = ap (λ (b : Bool). cond b (Ok ([], at)) (answer_at m last at >>= λ first. answers_at m n (Some (question_in first.0)) first.1 >>= λ others. Ok (first.0 ∷ others.0, others.1))) e ∙ sym (one_same n (answer_at m last at))

  abbrev Are : ℕ → Option (ℕ × ℕ) → List Answer → Type 0
  Are = AreAnswersAfter m

  abbrev Onto : ℕ → Option (ℕ × ℕ) → List Answer → Type 0
  Onto n last = Image prepended (AreBoth (IsAnswerAfter m last) (λ a. Are n (Some (question_in a))))

  from_onto : (n : ℕ) (last : Option (ℕ × ℕ)) (as' : List Answer) → Onto n last as' → Are (suc n) last as'
  from_onto n last as' (pair, is, known) = subst (Are (suc n) last) (sym is) (known.0, known.1)

  is_onto : (n : ℕ) (last : Option (ℕ × ℕ)) (a : Answer) (others : List Answer) → Are (suc n) last (a ∷ others) → Onto n last (a ∷ others)
  is_onto n last a others are = ((a, others), refl, (are.0, are.1))

  onto_some : (n : ℕ) (last : Option (ℕ × ℕ)) (as' : List Answer) → Onto n last as' → (a : Answer) × (others : List Answer) × (as' ≡ a ∷ others)
  onto_some n last as' (pair, is, known) = (pair.0, pair.1, is)

  reads_onto : (n : ℕ) (last : Option (ℕ × ℕ)) → ((q : ℕ × ℕ) → ReadsLines (Are n (Some q)) all_lines (ComesNext end_word) (answers_at m n (Some q))) → ReadsLines (Onto n last) all_lines (ComesNext end_word) (one_then n last)
  reads_onto n last again =
      let pair = reads_both (IsAnswerAfter m last) (answer_lines m) Anything (answer_at m last) (λ a. Are n (Some (question_in a))) (λ a. all_lines) (ComesNext end_word) (λ a. answers_at m n (Some (question_in a))) (reads_answer m valid named last)
      (λ a is. again (question_in a)) (λ a is. ([], tt)) (λ a others more is are end. tt) in
      reads_made _ _ (ComesNext end_word) _ prepended all_lines pair (λ pair is. refl)

  nothing : (n : ℕ) (last : Option (ℕ × ℕ)) (at now : At) (as' : List Answer) → ◌≡◌ {A = Reading (List Answer)} (Ok ([], at)) (Ok (as', now)) → AreLinesRead (Are n last) all_lines at now as'
  nothing n last at now as' e =
      let parts = same_reading [] as' at now e in
      let first : AreLinesRead (Are n last) all_lines at at [] = record { is = tt; rest = refl; taken = omega arith; tail = refl } in
      subst (λ (mid : At). AreLinesRead (Are n last) all_lines at mid as') parts.1 (subst (AreLinesRead (Are n last) all_lines at at) parts.0 first)

  widen : (n : ℕ) (last : Option (ℕ × ℕ)) (at now : At) (as' : List Answer) → AreLinesRead (Onto n last) all_lines at now as' → AreLinesRead (Are (suc n) last) all_lines at now as'
  widen n last at now as' r = record { is = from_onto n last as' r.is; rest = r.rest; taken = r.taken; tail = r.tail }

  -- with more to come
  module _ (n : ℕ) (last : Option (ℕ × ℕ)) (h : ReadsLines (Onto n last) all_lines (ComesNext end_word) (one_then n last)) where
    more_sound : (at now : At) (as' : List Answer) → answers_at m (suc n) last at ≡ Ok (as', now) → AreLinesRead (Are (suc n) last) all_lines at now as'
    more_sound at now as' e = by (is_line end_word (head_line at.rest)) refl
      where
        by : (b : Bool) → is_line end_word (head_line at.rest) ≡ b → AreLinesRead (Are (suc n) last) all_lines at now as'
        by true t = nothing (suc n) last at now as' (sym (at_end (suc n) last at t) ∙ e)
        by false t = widen n last at now as' (h.sound at now as' (sym (goes_on n last at t) ∙ e))

    more_complete : (as' : List Answer) (k : ℕ) (more : List (List ℕ)) (tail : List ℕ) → Are (suc n) last as' → ComesNext end_word more → answers_at m (suc n) last (here k (all_lines as' ++ more) tail) ≡ Ok (as', here (k + length (all_lines as')) more tail)
    more_complete [] k more tail are end = at_end (suc n) last (here k more tail) end ∙ (let same : k ≡ k + length {A = List ℕ} [] = omega arith in ap (λ (j : ℕ). (let r : Reading (List Answer) = Ok ([], here j more tail) in r)) same)
    more_complete (a ∷ others) k more tail are end =
        let lines = all_lines (a ∷ others) ++ more in
        let first : is_line end_word (head_line lines) ≡ false = ap (λ (ls : List (List ℕ)). is_line end_word (head_line ls)) (append_assoc (answer_lines m a) (all_lines others) more) ∙ asks a (all_lines others ++ more) in
        goes_on n last (here k lines tail) first ∙ h.complete (a ∷ others) k more tail (is_onto n last a others are) end

    more_fault : (at : At) (k : ℕ) → answers_at m (suc n) last at ≡ Err k → (j : ℕ) × IsStuckAt (Are (suc n) last) all_lines at k j
    more_fault at k e = by (is_line end_word (head_line at.rest)) refl
      where
        begun : (front : List (List ℕ)) → BeginsLines (Onto n last) all_lines front → BeginsLines (Are (suc n) last) all_lines front
        begun front b = record { value = b.value; is = from_onto n last b.value b.is; more = b.more; lines_are = b.lines_are }

        by : (b : Bool) → is_line end_word (head_line at.rest) ≡ b → (j : ℕ) × IsStuckAt (Are (suc n) last) all_lines at k j
        by true t = absurd (let wrong : ◌≡◌ {A = Reading (List Answer)} (Ok ([], at)) (Err k) = sym (at_end (suc n) last at t) ∙ e in cc)
        by false t = let (j, s) = h.fault at k (sym (goes_on n last at t) ∙ e) in (j, record { number = s.number; within = s.within; begun = λ less. begun (take j at.rest) (s.begun less) })

    more_local : (at : At) (k : ℕ) (rest : List (List ℕ)) (tail : List ℕ) → answers_at m (suc n) last at ≡ Err (at.taken + k + 1) → k < length at.rest → take (k + 1) rest ≡ take (k + 1) at.rest → answers_at m (suc n) last (here at.taken rest tail) ≡ Err (at.taken + k + 1)
    more_local at k rest tail e less front = by (is_line end_word (head_line at.rest)) refl
      where
        by : (b : Bool) → is_line end_word (head_line at.rest) ≡ b → answers_at m (suc n) last (here at.taken rest tail) ≡ Err (at.taken + k + 1)
        by true t = absurd (let wrong : ◌≡◌ {A = Reading (List Answer)} (Ok ([], at)) (Err (at.taken + k + 1)) = sym (at_end (suc n) last at t) ∙ e in cc)
        by false t = goes_on n last (here at.taken rest tail) (ap (is_line end_word) (same_head k rest at.rest front) ∙ t) ∙ h.local at k rest tail (sym (goes_on n last at t) ∙ e) less front

    more_stable : (at now : At) (as' : List Answer) (rest : List (List ℕ)) (tail : List ℕ) → answers_at m (suc n) last at ≡ Ok (as', now) → head_line rest ≡ head_line now.rest → answers_at m (suc n) last (here at.taken (all_lines as' ++ rest) tail) ≡ Ok (as', here now.taken rest tail)
    more_stable at now as' rest tail e next = by (is_line end_word (head_line at.rest)) refl
      where
        by : (b : Bool) → is_line end_word (head_line at.rest) ≡ b → answers_at m (suc n) last (here at.taken (all_lines as' ++ rest) tail) ≡ Ok (as', here now.taken rest tail)
        by true t =
            let parts = same_reading [] as' at now (sym (at_end (suc n) last at t) ∙ e) in
            let end : is_line end_word (head_line rest) ≡ true = ap (is_line end_word) next ∙ (ap (λ (a : At). is_line end_word (head_line a.rest)) (sym parts.1) ∙ t) in
            subst (λ (mid : At). answers_at m (suc n) last (here at.taken (all_lines as' ++ rest) tail) ≡ Ok (as', here mid.taken rest tail)) parts.1
            (subst (λ (xs : List Answer). answers_at m (suc n) last (here at.taken (all_lines xs ++ rest) tail) ≡ Ok (xs, here at.taken rest tail)) parts.0 (at_end (suc n) last (here at.taken rest tail) end))
        by false t =
            let was = sym (goes_on n last at t) ∙ e in
            let (a, others, is) = onto_some n last as' (h.sound at now as' was).is in
            let first : is_line end_word (head_line (all_lines as' ++ rest)) ≡ false = ap (λ (xs : List Answer). is_line end_word (head_line (all_lines xs ++ rest))) is ∙ (ap (λ (ls : List (List ℕ)). is_line end_word (head_line ls)) (append_assoc (answer_lines m a) (all_lines others) rest) ∙ asks a (all_lines others ++ rest)) in
            goes_on n last (here at.taken (all_lines as' ++ rest) tail) first ∙ h.stable at now as' rest tail was next

    reads_more : ReadsLines (Are (suc n) last) all_lines (ComesNext end_word) (answers_at m (suc n) last)
    reads_more = record { sound = more_sound; complete = more_complete; fault = more_fault; local = more_local; stable = more_stable }

  -- with none to come
  module _ (last : Option (ℕ × ℕ)) where
    none_right : (at now : At) (as' : List Answer) → answers_at m zero last at ≡ Ok (as', now) → (is_line end_word (head_line at.rest) ≡ true) × (◌≡◌ {A = Reading (List Answer)} (Ok ([], at)) (Ok (as', now)))
    none_right at now as' e = by (is_line end_word (head_line at.rest)) refl
      where
        by : (b : Bool) → is_line end_word (head_line at.rest) ≡ b → (is_line end_word (head_line at.rest) ≡ true) × (◌≡◌ {A = Reading (List Answer)} (Ok ([], at)) (Ok (as', now)))
        by true t = (t, sym (at_end zero last at t) ∙ e)
        by false t = absurd (let wrong : ◌≡◌ {A = Reading (List Answer)} (fault_at at) (Ok (as', now)) = sym (no_fuel last at t) ∙ e in cc)

    none_wrong : (at : At) (k : ℕ) → answers_at m zero last at ≡ Err k → (is_line end_word (head_line at.rest) ≡ false) × (k ≡ at.taken + 0 + 1)
    none_wrong at k e = by (is_line end_word (head_line at.rest)) refl
      where
        by : (b : Bool) → is_line end_word (head_line at.rest) ≡ b → (is_line end_word (head_line at.rest) ≡ false) × (k ≡ at.taken + 0 + 1)
        by true t = absurd (let wrong : ◌≡◌ {A = Reading (List Answer)} (Ok ([], at)) (Err k) = sym (at_end zero last at t) ∙ e in cc)
        by false t = (t, (let same : at.taken + 1 ≡ k = (let right : ◌≡◌ {A = Reading (List Answer)} (fault_at at) (Err k) = sym (no_fuel last at t) ∙ e in cc) in omega (arith, same)))

    none_complete : (as' : List Answer) (k : ℕ) (more : List (List ℕ)) (tail : List ℕ) → Are zero last as' → ComesNext end_word more → answers_at m zero last (here k (all_lines as' ++ more) tail) ≡ Ok (as', here (k + length (all_lines as')) more tail)
    none_complete [] k more tail are end = at_end zero last (here k more tail) end ∙ (let same : k ≡ k + length {A = List ℕ} [] = omega arith in ap (λ (j : ℕ). (let r : Reading (List Answer) = Ok ([], here j more tail) in r)) same)
    none_complete (a ∷ others) k more tail are end = absurd are

    reads_no_more : ReadsLines (Are zero last) all_lines (ComesNext end_word) (answers_at m zero last)
    reads_no_more = record {
      sound = λ at now as' e. nothing zero last at now as' (none_right at now as' e).1;
      complete = none_complete;
      fault = λ at k e. (0, stuck_first_line (Are zero last) all_lines at k (none_wrong at k e).1);
      local = λ at k rest tail e less front. (
          let (t, number) = none_wrong at (at.taken + k + 1) e in
          let one : at.taken + 1 ≡ at.taken + k + 1 = omega (arith, number) in
          no_fuel last (here at.taken rest tail) (ap (is_line end_word) (same_head k rest at.rest front) ∙ t) ∙ ap (λ (j : ℕ). (let r : Reading (List Answer) = Err j in r)) one);
      stable = λ at now as' rest tail e next. (
          let (t, same) = none_right at now as' e in
          let parts = same_reading [] as' at now same in
          let end : is_line end_word (head_line rest) ≡ true = ap (is_line end_word) next ∙ (ap (λ (a : At). is_line end_word (head_line a.rest)) (sym parts.1) ∙ t) in
          subst (λ (mid : At). answers_at m zero last (here at.taken (all_lines as' ++ rest) tail) ≡ Ok (as', here mid.taken rest tail)) parts.1
          (subst (λ (xs : List Answer). answers_at m zero last (here at.taken (all_lines xs ++ rest) tail) ≡ Ok (xs, here at.taken rest tail)) parts.0 (at_end zero last (here at.taken rest tail) end)));
    }

  pub reads_answers : (n : ℕ) (last : Option (ℕ × ℕ)) → ReadsLines (AreAnswersAfter m n last) (flat_map (answer_lines m)) (ComesNext end_word) (answers_at m n last)
  reads_answers zero last = reads_no_more last
  reads_answers (suc n) last = reads_more n last (reads_onto n last (λ q. reads_answers n (Some q)))
