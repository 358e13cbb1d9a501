-- The parts of a report, read one after the other: together they are a report, or name the first line that is out of place.
use Rattle.std.proofs.Common.{◌≡◌, ℕ, ◌+◌, ◌≤◌, Bool, true, false, cond, ◌&&◌, List, [], ◌∷◌, length, codes, None, Result, Ok, Err, MatchResult, refl, sym, ap, ◌∙◌, subst, arith, true≢false, length-append}
use Rattle.std.proofs.lemmas.Bool.{and_parts}
use Rattle.std.specs.Result.{IsErrAnd}
use Rattle.std.specs.Str.{bytes_eq}
use Rattle.mcs_system.specs.Plain.{System}
use Rattle.mcs_system.specs.Naming.{IsSystemNamed}
use Rattle.mcs_system.specs.Faults.{IsValid}
use Rattle.mcs_spelling.specs.Lines.{is_empty, complete_lines, incomplete}
use Rattle.mcs_spelling.specs.Words.{guarded}
use Rattle.mcs_proof_text.specs.Answers.{Answer}
use Rattle.mcs_proof_text.specs.Reports.{SpellsReport, IsFirstLineFault, report_lines}
use Rattle.mcs_proof_lines.specs.declared.fault.ReportFault.{ReportFault}
use Rattle.mcs_proof_lines.specs.declared.fault.ReportFault.TheVariants as faults
use Rattle.mcs_proof_lines.specs.Walks.{At, Reading, ◌>>=◌, ReturnsReading, is_next, fault_at, taken_at, advanced, advanced_by, expect_at}
use Rattle.mcs_proof_lines.specs.Readings.{here, word_of}
use Rattle.mcs_proof_lines.proofs.Readings.{picked}
use Rattle.mcs_proof_lines.proofs.ReadingSequences.{both, paired}
use Rattle.mcs_proof_reader.specs.Answers.{answers_at}
use Rattle.mcs_proof_reader.specs.Listings.{listing_at}
use Rattle.mcs_proof_reader.specs.Keeping.{IsReportFault}
use Rattle.mcs_proof_reader.specs.Whole.{at_last, end_at}
use Rattle.mcs_proof_reader.proofs.ReportReadings.{reads_listing}
use Rattle.mcs_proof_reader.proofs.WholeReadings.{Proof, read_proof, read_whole, reads_whole, read_is_report, spells_read, fault_read, more_read}

-- ---- lines that are expected
fewer_from : (n : ℕ) (rest : List (List ℕ)) (tail : List ℕ) → length (advanced_by n rest tail).rest ≤ length rest
fewer_from n [] tail = omega arith
fewer_from n (line ∷ rest) tail = omega arith

fewer : (word : List ℕ) (at now : At) → expect_at word at ≡ Ok now → length now.rest ≤ length at.rest
unfolding expect_at advanced
fewer word at now e = by (is_next word at) e
  where
    by : (b : Bool) → cond b (Ok (advanced at)) (fault_at at) ≡ Ok now → length now.rest ≤ length at.rest
    by true e = let same : advanced at ≡ now = cc in subst (λ (a : At). length a.rest ≤ length at.rest) same (fewer_from at.taken at.rest at.tail)
    by false e = absurd (cc)

taken_from : (word : List ℕ) (n : ℕ) (rest : List (List ℕ)) (tail : List ℕ) (now : At) → expect_at word (here n rest tail) ≡ Ok now → now.taken ≡ n + 1
unfolding expect_at advanced
taken_from word n [] tail now e = absurd (cc)
taken_from word n (line ∷ rest) tail now e = by (bytes_eq line word) e
  where
    by : (b : Bool) → cond b (Ok (here (n + 1) rest tail)) (fault_at (here n (line ∷ rest) tail)) ≡ Ok now → now.taken ≡ n + 1
    by true e = let same : here (n + 1) rest tail ≡ now = cc in ap (λ (a : At). a.taken) (sym same)
    by false e = absurd (cc)

pub taken_one : (word : List ℕ) (at now : At) → expect_at word at ≡ Ok now → now.taken ≡ at.taken + 1
taken_one word at now e = taken_from word at.taken at.rest at.tail now e

abbrev passed : Result At ℕ → Reading (Unit {0})
passed r = r >>= λ now. Ok (tt, now)

picked_word : (word : List ℕ) (n : ℕ) (rest : List (List ℕ)) (tail : List ℕ) → picked (word_of word) (here n rest tail) ≡ passed (expect_at word (here n rest tail))
unfolding expect_at
picked_word word n [] tail = refl
picked_word word n (line ∷ rest) tail = by (bytes_eq line word)
  where
    by : (b : Bool) → taken_at (here n (line ∷ rest) tail) (guarded b tt) ≡ passed (cond b (Ok (advanced (here n (line ∷ rest) tail))) (fault_at (here n (line ∷ rest) tail)))
    by true = refl
    by false = refl

none_there : (A : Type 0) (xs : List A) → is_empty xs ≡ true → xs ≡ []
none_there A [] e = refl
none_there A (x ∷ xs) e = absurd (cc)

module _ (m : System) (valid : IsValid m) (named : IsSystemNamed m) (bytes : List ℕ) where
  abbrev start : At
  start = here 0 (complete_lines bytes) (incomplete bytes)

  abbrev end_word : List ℕ
  end_word = codes "end of proof"

  abbrev after_listing : ℕ → List (List ℕ) → At → Reading Proof
  after_listing n ls mid = expect_at (codes "proof") mid >>= read_proof m n

  -- the listing is wrong
  pub no_listing : (k : ℕ) → listing_at start ≡ Err k → IsFirstLineFault m bytes k
  no_listing k e = fault_read m valid named bytes k (λ n few. ap (both (after_listing n)) e)

  module _ (ls : List (List ℕ)) (first : At) (listed : listing_at start ≡ Ok (ls, first)) where
    -- the line that begins the proof is wrong
    pub no_proof : (k : ℕ) → expect_at (codes "proof") first ≡ Err k → IsFirstLineFault m bytes k
    no_proof k e = fault_read m valid named bytes k (λ n few. ap (both (after_listing n)) listed ∙ ap (λ (r : Result At ℕ). paired ls (r >>= read_proof m n)) e)

    module _ (second : At) (begun : expect_at (codes "proof") first ≡ Ok second) where
      enough : length second.rest ≤ length (complete_lines bytes)
      enough =
          let r = reads_listing.sound start first ls listed in
          let long : length (complete_lines bytes) ≡ length ls + length first.rest = ap length r.rest ∙ length-append ls first.rest in
          let less = fewer (codes "proof") first second begun in
          omega (arith, long, less)

      -- the answers begin at the line after the one that begins the proof
      pub answers_begin_at : second.taken + 1 ≡ length ls + 2
      answers_begin_at =
          let r = (reads_listing.sound start first ls listed).taken in
          let one = taken_one (codes "proof") first second begun in
          omega (arith, r, one)

      to_proof : (n : ℕ) → read_whole m n start ≡ paired ls (read_proof m n second)
      to_proof n = ap (both (after_listing n)) listed ∙ ap (λ (r : Result At ℕ). paired ls (r >>= read_proof m n)) begun

      -- an answer is wrong
      pub no_answers : (k : ℕ) → ((n : ℕ) → length second.rest ≤ n → answers_at m n None second ≡ Err k) → IsFirstLineFault m bytes k
      no_answers k told = fault_read m valid named bytes k (λ n few.
          (let more = enough in to_proof n ∙ ap (λ (r : Reading (List Answer)). paired ls (both (λ as'. picked (word_of end_word)) r)) (told n (omega (arith, few, more)))))

      module _ (as' : List Answer) (third : At) (answered : (n : ℕ) → length second.rest ≤ n → answers_at m n None second ≡ Ok (as', third)) where
        to_end : (n : ℕ) → length (complete_lines bytes) ≤ n → read_whole m n start ≡ paired ls (paired as' (passed (expect_at end_word third)))
        to_end n few =
            let more = enough in
            to_proof n ∙ (ap (λ (r : Reading (List Answer)). paired ls (both (λ xs. picked (word_of end_word)) r)) (answered n (omega (arith, few, more)))
            ∙ ap (λ (r : Reading (Unit {0})). paired ls (paired as' r)) (picked_word end_word third.taken third.rest third.tail))

        module _ (last : At) (closed : expect_at end_word third ≡ Ok last) where
          whole : (n : ℕ) → length (complete_lines bytes) ≤ n → read_whole m n start ≡ Ok ((ls, (as', tt)), last)
          whole n few = to_end n few ∙ ap (λ (r : Result At ℕ). paired ls (paired as' (passed r))) closed

          same_tail : last.tail ≡ incomplete bytes
          same_tail = let n = length (complete_lines bytes) in ((reads_whole m valid named n).sound start last (ls, (as', tt)) (whole n (omega arith))).tail

          at_the_end : (is_empty last.rest && is_empty last.tail) ≡ true → SpellsReport m bytes ls as' × (last.taken ≡ length (report_lines m ls as'))
          at_the_end e =
              let n = length (complete_lines bytes) in
              let (rest, tail) = and_parts (is_empty last.rest) (is_empty last.tail) e in
              let read = whole n (omega arith) in
              (spells_read m valid named bytes n ls (as', tt) last read (none_there (List ℕ) last.rest rest) (sym same_tail ∙ none_there ℕ last.tail tail), (read_is_report m valid named bytes n ls (as', tt) last read).2)

          goes_past : (is_empty last.rest && is_empty last.tail) ≡ false → IsFirstLineFault m bytes (last.taken + 1)
          goes_past e = more_read m valid named bytes last ls (as', tt) whole (λ none.
              (let there : (is_empty last.rest && is_empty last.tail) ≡ true = (let rest = none.0 in let tail : last.tail ≡ [] = same_tail ∙ none.1 in rw (rest, tail) refl) in true≢false (sym there ∙ e)))

        -- the end is wrong
        pub no_end : (k : ℕ) → end_at third ≡ Err k → IsFirstLineFault m bytes k
        no_end k e = by (expect_at end_word third) refl e
          where
            past : (last : At) → expect_at end_word third ≡ Ok last → (b : Bool) → (is_empty last.rest && is_empty last.tail) ≡ b → cond b (Ok last) (fault_at last) ≡ Err k → IsFirstLineFault m bytes k
            past last closed true test e = absurd (cc)
            past last closed false test e = let number : last.taken + 1 ≡ k = cc in subst (IsFirstLineFault m bytes) number (goes_past last closed test)

            by : (r : Result At ℕ) → expect_at end_word third ≡ r → (r >>= at_last) ≡ Err k → IsFirstLineFault m bytes k
            by (Err j) is e = let number : j ≡ k = cc in fault_read m valid named bytes k (λ n few. to_end n few ∙ (ap (λ (s : Result At ℕ). paired ls (paired as' (passed s))) is ∙ ap (λ (i : ℕ). (let s : Reading (List (List ℕ) × Proof) = Err i in s)) number))
            by (Ok last) is e = past last is (is_empty last.rest && is_empty last.tail) refl e

        -- it is a report, and the last line has the number of its lines
        pub all_right : (last : At) → end_at third ≡ Ok last → SpellsReport m bytes ls as' × (last.taken ≡ length (report_lines m ls as')) × (expect_at end_word third ≡ Ok last)
        all_right last e = by (expect_at end_word third) refl e
          where
            ended : (there : At) → expect_at end_word third ≡ Ok there → (b : Bool) → (is_empty there.rest && is_empty there.tail) ≡ b → cond b (Ok there) (fault_at there) ≡ Ok last
                → SpellsReport m bytes ls as' × (last.taken ≡ length (report_lines m ls as')) × (expect_at end_word third ≡ Ok last)
            ended there closed true test e =
                let same : there ≡ last = cc in
                let (spells, taken) = at_the_end there closed test in
                (spells, ap (λ (a : At). a.taken) (sym same) ∙ taken, closed ∙ ap (λ (a : At). (let r : Result At ℕ = Ok a in r)) same)
            ended there closed false test e = absurd (cc)

            by : (r : Result At ℕ) → expect_at end_word third ≡ r → (r >>= at_last) ≡ Ok last → SpellsReport m bytes ls as' × (last.taken ≡ length (report_lines m ls as')) × (expect_at end_word third ≡ Ok last)
            by (Err j) is e = absurd (cc)
            by (Ok there) is e = ended there is (is_empty there.rest && is_empty there.tail) refl e

  -- a fault that the code was told
  pub told_fault : {A : Type 0} (e : ReportFault) (r : Result A ℕ) → ReturnsReading e r → ((k : ℕ) → r ≡ Err k → IsFirstLineFault m bytes k) → IsReportFault m bytes e
  told_fault faults.Memory r told h = tt
  told_fault (faults.Grammar k) r told h = h k told

  -- a fault that is handed on
  pub fault_on : {X A : Type 0} (P : X → Type 0) (result : Result X ReportFault) (r : Result A ℕ) (e : ReportFault) → IsErrAnd result (λ d. d ≡ e) → ReturnsReading e r → ((k : ℕ) → r ≡ Err k → IsFirstLineFault m bytes k) → MatchResult result P (IsReportFault m bytes)
  fault_on P (Ok x) r e same told h = absurd same
  fault_on P (Err d) r e same told h = subst (IsReportFault m bytes) (sym same) (told_fault e r told h)

  -- the same of answers, which are told for each number that is enough
  pub answers_fault : {X : Type 0} (P : X → Type 0) (ls : List (List ℕ)) (first : At) (listed : listing_at start ≡ Ok (ls, first)) (second : At) (begun : expect_at (codes "proof") first ≡ Ok second) (result : Result X ReportFault) (e : ReportFault)
      → IsErrAnd result (λ d. d ≡ e) → ((n : ℕ) → length second.rest ≤ n → ReturnsReading e (answers_at m n None second)) → MatchResult result P (IsReportFault m bytes)
  answers_fault P ls first listed second begun (Ok x) e same told = absurd same
  answers_fault P ls first listed second begun (Err d) e same told = subst (IsReportFault m bytes) (sym same) (by e told)
    where
      by : (f : ReportFault) → ((n : ℕ) → length second.rest ≤ n → ReturnsReading f (answers_at m n None second)) → IsReportFault m bytes f
      by faults.Memory told = tt
      by (faults.Grammar k) told = no_answers ls first listed second begun k told
