-- A whole report, read: what is spelled is read, and nothing else; and else the line that is told is the first out of place.
use Rattle.std.proofs.Common.{◌≡◌, ℕ, ◌+◌, ◌-◌, ◌<◌, ◌≤◌, zero, suc, Bool, true, false, cond, ◌&&◌, ◌||◌, nat_eq, nat_lt, is_some, List, [], ◌∷◌, ◌++◌, map, length, take, drop, codes, Option, Some, None, Ok, Err, refl, sym, ap, ◌∙◌, subst, arith, inl, inr, ◌⊎◌, true≢false, append_assoc, append-nil, length-append}
use Rattle.std.proofs.Math.Seq.{take-append_seam, take-append-add}
use Rattle.std.proofs.lemmas.List.{take-append-drop, length-take-le}
use Rattle.std.proofs.lemmas.Bool.{and_parts, false_from_ne_true}
use Rattle.std.proofs.lemmas.Bool.Decides.{nat_tests}
use Rattle.std.specs.List.{AllByRecursion, flat_map}
use Rattle.mcs_base.specs.Listings.{IsAscending}
use Rattle.mcs_base.proofs.Each.{all_append, all_weaker, all_left}
use Rattle.mcs_system.specs.Plain.{System}
use Rattle.mcs_system.specs.Naming.{IsSystemNamed}
use Rattle.mcs_system.specs.Faults.{IsValid}
use Rattle.mcs_spelling.specs.Lines.{complete_lines, incomplete}
use Rattle.mcs_spelling.specs.Words.{after_prefix}
use Rattle.mcs_spelling.proofs.LiteralTexts.{after_front, after_is}
use Rattle.mcs_proof_text.specs.Lines.{text_of_lines}
use Rattle.mcs_proof_text.specs.Answers.{Answer, answer_lines}
use Rattle.mcs_proof_text.specs.Answers.{IsInShape}
use Rattle.mcs_proof_text.specs.Reports.{IsLineFeedFree, IsEndLine, IsListingPart, AnswerBefore, report_lines, IsReport, SpellsReport, BeginsReport, IsFirstLineFault}
use Rattle.mcs_proof_lines.specs.Walks.{At, Reading, ◌>>=◌, head_line, expect_at}
use Rattle.mcs_proof_lines.specs.Readings.{here, Anything, BeginsLines, ReadsLines, one_line, AreBoth, both_lines, word_of, itself, ComesNext}
use Rattle.mcs_proof_lines.proofs.Readings.{reads_line, picked, same_reading}
use Rattle.mcs_proof_lines.proofs.ReadingSequences.{both, reads_both}
use Rattle.mcs_proof_lines.proofs.WordReadings.{word_line, reads_word}
use Rattle.mcs_proof_reader.specs.Questions.{comes_after}
use Rattle.mcs_proof_reader.specs.Answers.{answers_at, question_in}
use Rattle.mcs_proof_reader.specs.Listings.{ends_listing, listing_at}
use Rattle.mcs_proof_reader.proofs.ReportReadings.{reads_listing, AreAnswersAfter, reads_answers}
use Rattle.mcs_proof_reader.proofs.TextLines.{lines_text, text_lines, free_lines}
use Rattle.mcs_proof_text.specs.Reports.{feedless}
use Rattle.mcs_proof_text.proofs.FreeTexts.{told_free}
use Rattle.mcs_proof_reader.proofs.FreeAnswers.{answers_free}
use Rattle.mcs_proof_reader.specs.Readings.{AreListingLines, cleaned}

abbrev end_word : List ℕ
end_word = codes "end of proof"

abbrev pub Proof : Type 0
Proof = List Answer × Unit {0}

abbrev pub read_proof : System → ℕ → At → Reading Proof
read_proof m n at = both (λ as'. picked (word_of (codes "end of proof"))) (answers_at m n None at)

abbrev pub read_whole : System → ℕ → At → Reading (List (List ℕ) × Proof)
read_whole m n at = both (λ ls mid. expect_at (codes "proof") mid >>= read_proof m n) (listing_at at)

-- ---- the order of answers
after_told : (a b : Answer) → comes_after (Some (question_in a)) (question_in b) ≡ true → AnswerBefore a b
after_told a b e = by (nat_lt a.context b.context) refl e
  where
    by : (v : Bool) → nat_lt a.context b.context ≡ v → (v || (nat_eq a.context b.context && nat_lt a.active b.active)) ≡ true → AnswerBefore a b
    by true t e = inl (grind (arith, nat_tests))
    by false t e = let (same, less) = and_parts (nat_eq a.context b.context) (nat_lt a.active b.active) e in inr ((grind (arith, nat_tests)), (grind (arith, nat_tests)))

told_after : (a b : Answer) → AnswerBefore a b → comes_after (Some (question_in a)) (question_in b) ≡ true
told_after a b (inl less) = let t : nat_lt a.context b.context ≡ true = grind (arith, nat_tests) in rw t refl
told_after a b (inr (same, less)) = by (nat_lt a.context b.context)
  where
    by : (v : Bool) → (v || (nat_eq a.context b.context && nat_lt a.active b.active)) ≡ true
    by true = refl
    by false = let t : nat_eq a.context b.context ≡ true = grind (arith, nat_tests) in let u : nat_lt a.active b.active ≡ true = grind (arith, nat_tests) in rw (t, u) refl

before_later : (a b c : Answer) → AnswerBefore a b → AnswerBefore b c → AnswerBefore a c
before_later a b c (inl x) (inl y) = inl (omega (arith, x, y))
before_later a b c (inl x) (inr (y, z)) = inl (omega (arith, x, y))
before_later a b c (inr (x, w)) (inl y) = inl (omega (arith, x, y))
before_later a b c (inr (x, w)) (inr (y, z)) = inr (omega (arith, x, y), omega (arith, w, z))

module _ (m : System) where
  abbrev IsLater : Option (ℕ × ℕ) → Answer → Type 0
  IsLater last a = comes_after last (question_in a) ≡ true

  beyond : (last : Option (ℕ × ℕ)) (a b : Answer) → IsLater last a → AnswerBefore a b → IsLater last b
  beyond None a b later before = refl
  beyond (Some q) a b later before =
      let first : Answer = record { context = q.0; active = q.1; outputs = []; cert = a.cert } in
      told_after first b (before_later first a b (after_told first a later) before)

  to_answers : (n : ℕ) (last : Option (ℕ × ℕ)) (as' : List Answer) → AreAnswersAfter m n last as' → AllByRecursion (IsInShape m) as' × IsAscending AnswerBefore as' × AllByRecursion (IsLater last) as'
  to_answers n last [] are = (tt, tt, tt)
  to_answers zero last (a ∷ others) are = absurd are
  to_answers (suc n) last (a ∷ others) are =
      let (shapes, up, later) = to_answers n (Some (question_in a)) others are.1 in
      let before : AllByRecursion (AnswerBefore a) others = all_weaker (IsLater (Some (question_in a))) (AnswerBefore a) (λ b e. after_told a b e) others later in
      ((are.0.0, shapes), (before, up), (are.0.1, all_weaker (AnswerBefore a) (IsLater last) (λ b before. beyond last a b are.0.1 before) others before))

  from_answers : (n : ℕ) (last : Option (ℕ × ℕ)) (as' : List Answer) → length as' ≤ n → AllByRecursion (IsInShape m) as' → IsAscending AnswerBefore as' → AllByRecursion (IsLater last) as' → AreAnswersAfter m n last as'
  from_answers n last [] few shapes up later = tt
  from_answers zero last (a ∷ others) few shapes up later = absurd (omega (arith, few))
  from_answers (suc n) last (a ∷ others) few shapes up later =
      ((shapes.0, later.0), from_answers n (Some (question_in a)) others (omega (arith, few)) shapes.1 up.1 (all_weaker (AnswerBefore a) (IsLater (Some (question_in a))) (λ b before. told_after a b before) others up.0))

  any_first : (as' : List Answer) → AllByRecursion (IsLater None) as'
  any_first [] = tt
  any_first (a ∷ others) = (refl, any_first others)

-- ---- listings
end_told : (line : List ℕ) → ends_listing line ≡ true → IsEndLine line
end_told line e = by (after_prefix (codes "end: ") line) refl e
  where
    by : (o : Option (List ℕ)) → after_prefix (codes "end: ") line ≡ o → is_some o ≡ true → IsEndLine line
    by None is e = absurd (true≢false (sym e))
    by (Some rest) is e = (rest, after_is (codes "end: ") line rest is)

told_end : (line : List ℕ) → IsEndLine line → ends_listing line ≡ true
told_end line (rest, is) = ap ends_listing is ∙ ap is_some (after_front (codes "end: ") rest)

to_listing : (ls : List (List ℕ)) → AllByRecursion IsLineFeedFree ls → AreListingLines ls → IsListingPart ls
to_listing [] free is = absurd is
to_listing (l ∷ ls) free (inl (e, none)) = (free.0, inl (end_told l e, none))
to_listing (l ∷ ls) free (inr (e, part)) = (free.0, inr ((λ end. true≢false (sym (told_end l end) ∙ e)), to_listing ls free.1 part))

from_listing : (ls : List (List ℕ)) → IsListingPart ls → AreListingLines ls × AllByRecursion IsLineFeedFree ls
from_listing [] is = absurd is
from_listing (l ∷ ls) (free, inl (end, none)) = (inl (told_end l end, none), (free, subst (AllByRecursion IsLineFeedFree) (sym none) tt))
from_listing (l ∷ ls) (free, inr (other, part)) = let (is, rest) = from_listing ls part in (inr (false_from_ne_true (ends_listing l) (λ e. other (end_told l e)), is), (free, rest))

told_feedless : (line : List ℕ) → IsLineFeedFree line → feedless line ≡ true
told_feedless [] free = refl
told_feedless (b ∷ bytes) free = let first : nat_eq b 10 ≡ false = false_from_ne_true (nat_eq b 10) (λ e. free.0 (grind (arith, nat_tests))) in rw (first, told_feedless bytes free.1) refl

cleaned_free : (line : List ℕ) → IsLineFeedFree (cleaned line)
cleaned_free line = by (feedless line) refl (ends_listing line)
  where
    by : (v : Bool) → feedless line ≡ v → (w : Bool) → IsLineFeedFree (cond v line (cond w (codes "end: ") []))
    by true e w = told_free line e
    by false e true = told_free (codes "end: ") refl
    by false e false = tt

cleaned_ends : (line : List ℕ) → ends_listing (cleaned line) ≡ ends_listing line
unfolding after_prefix
cleaned_ends line = by (feedless line) (ends_listing line) refl
  where
    by : (v w : Bool) → ends_listing line ≡ w → ends_listing (cond v line (cond w (codes "end: ") [])) ≡ w
    by true w e = e
    by false true e = refl
    by false false e = refl

cleaned_same : (line : List ℕ) → IsLineFeedFree line → cleaned line ≡ line
cleaned_same line free = ap (λ (v : Bool). cond v line (cond (ends_listing line) (codes "end: ") [])) (told_feedless line free)

cleaned_part : (ls : List (List ℕ)) → AreListingLines ls → IsListingPart (map cleaned ls)
cleaned_part [] is = absurd is
cleaned_part (l ∷ ls) (inl (e, none)) = (cleaned_free l, inl (end_told (cleaned l) (cleaned_ends l ∙ e), ap (map cleaned) none))
cleaned_part (l ∷ ls) (inr (e, part)) = (cleaned_free l, inr ((λ end. true≢false (sym (told_end (cleaned l) end) ∙ (cleaned_ends l ∙ e))), cleaned_part ls part))

-- a front without line feeds stays
front_kept : (ls rest front more : List (List ℕ)) → AllByRecursion IsLineFeedFree front → ls ++ rest ≡ front ++ more → (more' : List (List ℕ)) × (map cleaned ls ++ rest ≡ front ++ more')
front_kept [] rest front more free e = (more, e)
front_kept (l ∷ ls) rest [] more free e = (map cleaned (l ∷ ls) ++ rest, refl)
front_kept (l ∷ ls) rest (f ∷ front) more free e =
    let first : l ≡ f = cc in
    let later : ls ++ rest ≡ front ++ more = cc in
    let (more', is) = front_kept ls rest front more free.1 later in
    let same : cleaned l ≡ f = ap cleaned first ∙ cleaned_same f free.0 in
    (more', ap (λ (x : List ℕ). x ∷ (map cleaned ls ++ rest)) same ∙ ap (λ (xs : List (List ℕ)). f ∷ xs) is)

-- ---- the whole
module _ (m : System) (valid : IsValid m) (named : IsSystemNamed m) where
  abbrev IsProof : ℕ → Proof → Type 0
  IsProof n = AreBoth (AreAnswersAfter m n None) (λ as' u. Unit {0})

  abbrev proof_lines : Proof → List (List ℕ)
  proof_lines = both_lines (flat_map (answer_lines m)) (λ as'. one_line (λ (u : Unit {0}). end_word))

  ends_it : (more : List (List ℕ)) → ComesNext end_word (end_word ∷ more)
  ends_it more = refl

  reads_proof : (n : ℕ) → ReadsLines (IsProof n) proof_lines Anything (read_proof m n)
  reads_proof n = reads_both (AreAnswersAfter m n None) (flat_map (answer_lines m)) (ComesNext end_word) (answers_at m n None) (λ as' u. Unit {0}) (λ as'. one_line (λ (u : Unit {0}). end_word)) Anything (λ as'. picked (word_of end_word))
      (reads_answers m valid named n None) (λ as' is. reads_line (λ (u : Unit {0}). Unit {0}) (λ u. end_word) (word_of end_word) (word_line end_word)) (λ as' is. (tt, tt)) (λ as' u more is known end. ends_it more)

  some_proof : (n : ℕ) → (p : Proof) × IsProof n p
  some_proof n = (([], tt), (tt, tt))

  abbrev IsWhole : ℕ → List (List ℕ) × Proof → Type 0
  IsWhole n = AreBoth AreListingLines (λ ls. IsProof n)

  abbrev whole_lines : List (List ℕ) × Proof → List (List ℕ)
  whole_lines = both_lines itself (λ ls p. codes "proof" ∷ proof_lines p)

  pub reads_whole : (n : ℕ) → ReadsLines (IsWhole n) whole_lines Anything (read_whole m n)
  reads_whole n = reads_both AreListingLines itself Anything listing_at (λ ls. IsProof n) (λ ls p. codes "proof" ∷ proof_lines p) Anything (λ ls mid. expect_at (codes "proof") mid >>= read_proof m n)
      reads_listing (λ ls is. reads_word (codes "proof") (read_proof m n) (IsProof n) proof_lines Anything (reads_proof n) (some_proof n)) (λ ls is. some_proof n) (λ ls p more is known end. tt)

  -- a report is read
  spelled_whole : (n : ℕ) (listing : List (List ℕ)) (as' : List Answer) → length as' ≤ n → IsReport m listing as' → IsWhole n (listing, (as', tt))
  spelled_whole n listing as' few h = ((from_listing listing h.listing_part).0, (from_answers m n None as' few h.shapes h.ascending (any_first m as'), tt))

  report_free : (listing : List (List ℕ)) (as' : List Answer) → IsReport m listing as' → AllByRecursion IsLineFeedFree (report_lines m listing as')
  report_free listing as' h = all_append IsLineFeedFree listing (codes "proof" ∷ (flat_map (answer_lines m) as' ++ end_word ∷ [])) (from_listing listing h.listing_part).1
      (told_free (codes "proof") refl, all_append IsLineFeedFree (flat_map (answer_lines m) as') (end_word ∷ []) (answers_free m named as') (told_free end_word refl, tt))

  -- there are at most as many answers as lines
  few_answers : (as' : List Answer) → length as' ≤ length (flat_map (answer_lines m) as')
  few_answers [] = omega arith
  few_answers (a ∷ as') = let rest = few_answers as' in let long = length-append (answer_lines m a) (flat_map (answer_lines m) as') in let some = one_line_more a in omega (arith, rest, long, some)
    where
      one_line_more : (a : Answer) → 1 ≤ length (answer_lines m a)
      one_line_more a = omega arith

  module _ (bytes : List ℕ) where
    abbrev lines : List (List ℕ)
    lines = complete_lines bytes

    abbrev tail : List ℕ
    tail = incomplete bytes

    abbrev pub start : At
    start = here 0 (complete_lines bytes) (incomplete bytes)

    spelled_lines : (listing : List (List ℕ)) (as' : List Answer) → SpellsReport m bytes listing as' → (lines ≡ report_lines m listing as') × (tail ≡ [])
    spelled_lines listing as' h =
        let t = text_lines (report_lines m listing as') (report_free listing as' h.report) in
        (ap complete_lines h.text_is ∙ t.0, ap incomplete h.text_is ∙ t.1)

    spelled_few : (listing : List (List ℕ)) (as' : List Answer) → SpellsReport m bytes listing as' → length as' ≤ length lines
    spelled_few listing as' h =
        let whole = (spelled_lines listing as' h).0 in
        let few = few_answers as' in
        let front = length-append listing (codes "proof" ∷ (flat_map (answer_lines m) as' ++ end_word ∷ [])) in
        let back = length-append (flat_map (answer_lines m) as') (end_word ∷ []) in
        let long = ap length whole in
        omega (arith, few, front, back, long)

    -- what is spelled is read to the end
    spelled_read : (n : ℕ) (listing : List (List ℕ)) (as' : List Answer) → length lines ≤ n → SpellsReport m bytes listing as' → (now : At) × (read_whole m n start ≡ Ok ((listing, (as', tt)), now)) × (now.rest ≡ []) × (tail ≡ [])
    spelled_read n listing as' enough h =
        let (whole, none) = spelled_lines listing as' h in
        let few = spelled_few listing as' h in
        let is = spelled_whole n listing as' (omega (arith, few, enough)) h.report in
        let read = (reads_whole n).complete (listing, (as', tt)) 0 [] [] is tt in
        let at : start ≡ here 0 (report_lines m listing as' ++ []) [] = ap (λ (ls : List (List ℕ)). here 0 ls tail) (whole ∙ sym (append-nil (report_lines m listing as'))) ∙ ap (λ (t : List ℕ). here 0 (report_lines m listing as' ++ []) t) none in
        (here (0 + length (report_lines m listing as')) [] [], ap (read_whole m n) at ∙ read, refl, none)

    -- so a text spells one report at most
    pub spelled_once : (l k : List (List ℕ)) (as' bs : List Answer) → SpellsReport m bytes l as' → SpellsReport m bytes k bs → (l ≡ k) × (as' ≡ bs)
    spelled_once l k as' bs h h' =
        let (now, read, none, end) = spelled_read (length lines) l as' (omega arith) h in
        let (then, again, none', end') = spelled_read (length lines) k bs (omega arith) h' in
        let parts = same_reading (l, (as', tt)) (k, (bs, tt)) now then (sym read ∙ again) in
        (ap (λ (p : List (List ℕ) × Proof). p.0) parts.0, ap (λ (p : List (List ℕ) × Proof). p.1.0) parts.0)

    -- what is read is a front of the lines, and a report
    pub read_is_report : (n : ℕ) (listing : List (List ℕ)) (p : Proof) (now : At) → read_whole m n start ≡ Ok ((listing, p), now) → IsReport m listing p.0 × (lines ≡ report_lines m listing p.0 ++ now.rest) × (now.taken ≡ length (report_lines m listing p.0))
    read_is_report n listing p now e =
        let r = (reads_whole n).sound start now (listing, p) e in
        let free : AllByRecursion IsLineFeedFree (report_lines m listing p.0 ++ now.rest) = subst (AllByRecursion IsLineFeedFree) r.rest (free_lines bytes) in
        let listing_free = all_left IsLineFeedFree listing (codes "proof" ∷ (flat_map (answer_lines m) p.0 ++ end_word ∷ [])) (all_left IsLineFeedFree (report_lines m listing p.0) now.rest free) in
        let (shapes, up, later) = to_answers m n None p.0 r.is.1.0 in
        (record { listing_part = to_listing listing listing_free r.is.0; shapes = shapes; ascending = up }, r.rest, (let t = r.taken in omega (arith, t)))

    pub spells_read : (n : ℕ) (listing : List (List ℕ)) (p : Proof) (now : At) → read_whole m n start ≡ Ok ((listing, p), now) → now.rest ≡ [] → incomplete bytes ≡ [] → SpellsReport m bytes listing p.0
    spells_read n listing p now e none none' =
        let (report, whole, taken) = read_is_report n listing p now e in
        record {
          report = report;
          text_is = lines_text bytes ∙ (ap (λ (t : List ℕ). text_of_lines lines ++ t) none' ∙ (append-nil (text_of_lines lines) ∙ ap text_of_lines (whole ∙ (ap (λ (ls : List (List ℕ)). report_lines m listing p.0 ++ ls) none ∙ append-nil (report_lines m listing p.0)))));
        }

    -- ---- faults
    any_report : IsReport m (codes "end: " ∷ []) []
    any_report = record { listing_part = (told_free (codes "end: ") refl, inl (([], refl), refl)); shapes = tt; ascending = tt }

    begins_none : BeginsReport m []
    begins_none = record { listing = codes "end: " ∷ []; answers = []; report = any_report; rest = report_lines m (codes "end: " ∷ []) []; front = refl }

    begun_report : (n k : ℕ) → BeginsLines (IsWhole n) whole_lines (take k lines) → BeginsReport m (take k lines)
    begun_report n k b =
        let listing = b.value.0 in
        let as' = b.value.1.0 in
        let proof = codes "proof" ∷ (flat_map (answer_lines m) as' ++ end_word ∷ []) in
        let free : AllByRecursion IsLineFeedFree (take k lines) = all_left IsLineFeedFree (take k lines) (drop k lines) (subst (AllByRecursion IsLineFeedFree) (sym (take-append-drop k lines)) (free_lines bytes)) in
        let (more, is) = front_kept listing proof (take k lines) b.more free b.lines_are in
        let (shapes, up, later) = to_answers m n None as' b.is.1.0 in
        record { listing = map cleaned listing; answers = as'; report = record { listing_part = cleaned_part listing b.is.0; shapes = shapes; ascending = up }; rest = more; front = is }

    before_stuck : (n k : ℕ) → (0 < k → BeginsLines (IsWhole n) whole_lines (take k lines)) → BeginsReport m (take k lines)
    before_stuck n zero begun = begins_none
    before_stuck n (suc k) begun = begun_report n (suc k) (begun (omega arith))

    -- a line that is read wrongly is the first out of place
    pub fault_read : (line : ℕ) → ((n : ℕ) → length (complete_lines bytes) ≤ n → read_whole m n start ≡ Err line) → IsFirstLineFault m bytes line
    fault_read line told =
        let first = told (length lines) (omega arith) in
        let (k, s) = (reads_whole (length lines)).fault start line first in
        let number = s.number in
        let within = s.within in
        let place : line - 1 ≡ k = omega (arith, number) in
        record {
          none = λ listing as' h. (let (now, read, none, none') = spelled_read (length lines) listing as' (omega arith) h in let wrong : ◌≡◌ {A = Reading (List (List ℕ) × Proof)} (Ok ((listing, (as', tt)), now)) (Err line) = sym read ∙ first in cc);
          from_one = omega (arith, number);
          within = omega (arith, number, within);
          before = subst (λ (j : ℕ). BeginsReport m (take j lines)) (sym place) (before_stuck (length lines) k s.begun);
          there = cases k number within;
        }
      where
        refused : (k : ℕ) → line ≡ 0 + k + 1 → k < length lines → ¬ BeginsReport m (take line lines)
        refused k number less = λ b.
            let n = length lines + length b.answers in
            let failed : read_whole m n start ≡ Err (0 + k + 1) = told n (omega arith) ∙ ap (λ (j : ℕ). (let r : Reading (List (List ℕ) × Proof) = Err j in r)) number in
            let whole = report_lines m b.listing b.answers in
            let next : line ≡ k + 1 = omega (arith, number) in
            let exact : length (take (k + 1) lines) ≡ k + 1 = length-take-le (k + 1) lines (omega (arith, less)) in
            let front : take (k + 1) (whole ++ []) ≡ take (k + 1) lines =
            ap (take (k + 1)) (append-nil whole ∙ (b.front ∙ ap (λ (j : ℕ). take j lines ++ b.rest) next))
            ∙ (ap (λ (j : ℕ). take j (take (k + 1) lines ++ b.rest)) (sym exact) ∙ take-append_seam (take (k + 1) lines) b.rest) in
            let again : read_whole m n (here 0 (whole ++ []) []) ≡ Err (0 + k + 1) = (reads_whole n).local start k (whole ++ []) [] failed less front in
            let read = (reads_whole n).complete (b.listing, (b.answers, tt)) 0 [] [] (spelled_whole n b.listing b.answers (omega arith) b.report) tt in
            let wrong : ◌≡◌ {A = Reading (List (List ℕ) × Proof)} (Ok ((b.listing, (b.answers, tt)), here (0 + length (whole_lines (b.listing, (b.answers, tt)))) [] [])) (Err (0 + k + 1)) = sym read ∙ again in
            (let none : ⊥ = cc in none)

        cases : (k : ℕ) → line ≡ 0 + k + 1 → k ≤ length lines → (line ≡ length lines + 1) ⊎ (¬ BeginsReport m (take line lines))
        cases k number within = by (nat_lt k (length lines)) refl
          where
            by : (v : Bool) → nat_lt k (length lines) ≡ v → (line ≡ length lines + 1) ⊎ (¬ BeginsReport m (take line lines))
            by true e = inr (refused k number (grind (arith, nat_tests)))
            by false e = inl (let past : length lines ≤ k = grind (arith, nat_tests) in omega (arith, number, within, past))

    -- what follows a report is out of place
    pub more_read : (now : At) (listing : List (List ℕ)) (p : Proof) → ((n : ℕ) → length (complete_lines bytes) ≤ n → read_whole m n start ≡ Ok ((listing, p), now)) → ¬ ((now.rest ≡ []) × (incomplete bytes ≡ [])) → IsFirstLineFault m bytes (now.taken + 1)
    more_read now listing p told more =
        let first = told (length lines) (omega arith) in
        let (report, whole, taken) = read_is_report (length lines) listing p now first in
        let own = report_lines m listing p.0 in
        let long : length lines ≡ length own + length now.rest = ap length whole ∙ length-append own now.rest in
        let place : now.taken + 1 - 1 ≡ length own = omega (arith, taken) in
        let front : take (length own) lines ≡ own = ap (take (length own)) whole ∙ take-append_seam own now.rest in
        record {
          none = λ listing' as' h. (
              let (then, read, none, none') = spelled_read (length lines) listing' as' (omega arith) h in
              let parts = same_reading (listing', (as', tt)) (listing, p) then now (sym read ∙ first) in
              more (ap (λ (a : At). a.rest) (sym parts.1) ∙ none, none'));
          from_one = omega arith;
          within = omega (arith, taken, long);
          before = subst (λ (j : ℕ). BeginsReport m (take j lines)) (sym place) (record { listing = listing; answers = p.0; report = report; rest = []; front = sym (append-nil own) ∙ ap (λ (ls : List (List ℕ)). ls ++ []) (sym front) });
          there = cases now.rest refl whole taken long;
        }
      where
        cases : (rest : List (List ℕ)) → now.rest ≡ rest → lines ≡ report_lines m listing p.0 ++ now.rest → now.taken ≡ length (report_lines m listing p.0) → length lines ≡ length (report_lines m listing p.0) + length now.rest
            → (now.taken + 1 ≡ length lines + 1) ⊎ (¬ BeginsReport m (take (now.taken + 1) lines))
        cases [] is whole taken long = inl (let none : length now.rest ≡ 0 = ap length is in omega (arith, taken, long, none))
        cases (r ∷ rest) is whole taken long = inr (λ b.
            let own = report_lines m listing p.0 in
            let n = length lines + length b.answers in
            let read = told n (omega arith) in
            let other_lines = report_lines m b.listing b.answers in
            let split : lines ≡ own ++ (r ∷ rest) = whole ∙ ap (λ (ls : List (List ℕ)). own ++ ls) is in
            let count : now.taken + 1 ≡ length own + 1 = omega (arith, taken) in
            let front : take (now.taken + 1) lines ≡ own ++ (r ∷ []) = ap (λ (j : ℕ). take j lines) count ∙ (ap (take (length own + 1)) split ∙ take-append-add own (r ∷ rest) 1) in
            let there : other_lines ≡ own ++ (r ∷ b.rest) = b.front ∙ (ap (λ (ls : List (List ℕ)). ls ++ b.rest) front ∙ append_assoc own (r ∷ []) b.rest) in
            let kept : read_whole m n (here 0 (own ++ (r ∷ b.rest)) []) ≡ Ok ((listing, p), here now.taken (r ∷ b.rest) []) = (reads_whole n).stable start now (listing, p) (r ∷ b.rest) [] read (ap head_line (sym is)) in
            let whole_read = (reads_whole n).complete (b.listing, (b.answers, tt)) 0 [] [] (spelled_whole n b.listing b.answers (omega arith) b.report) tt in
            let same : here 0 (other_lines ++ []) [] ≡ here 0 (own ++ (r ∷ b.rest)) [] = ap (λ (ls : List (List ℕ)). here 0 ls []) (append-nil other_lines ∙ there) in
            let parts = same_reading (b.listing, (b.answers, tt)) (listing, p) (here (0 + length (whole_lines (b.listing, (b.answers, tt)))) [] []) (here now.taken (r ∷ b.rest) []) (sym whole_read ∙ (ap (read_whole m n) same ∙ kept)) in
            let none : [] ≡ r ∷ b.rest = ap (λ (a : At). a.rest) parts.1 in
            (let wrong : ⊥ = cc in wrong))
