-- Answers, read.
use Rattle.std.proofs.Common.{◌≡◌, ℕ, ◌<◌, ◌≤◌, Bool, true, false, cond, List, [], ◌∷◌, ◌++◌, map, length, codes, slice_get, Option, Some, None, Ok, Err, refl, sym, ap, ◌∙◌, subst, arith, append_assoc}
use Rattle.std.proofs.lemmas.List.{length-map}
use Rattle.std.specs.List.{AllByRecursion, flat_map}
use Rattle.std.specs.Str.{bytes_eq}
use Rattle.std.proofs.lemmas.Option.{same_Some, slice_get_within}
use Rattle.std.proofs.Common.{pow_pos}
use Rattle.mcs_sets.specs.Sets.{size, Within}
use Rattle.mcs_sets.specs.Orders.{StateBefore}
use Rattle.mcs_base.specs.Listings.{IsAscending}
use Rattle.mcs_system.specs.Plain.{Name, Formula, ProgramRule, Item, Kb, Classical, DefaultTheory, Program, Context, System}
use Rattle.mcs_system.specs.Naming.{IsSystemNamed}
use Rattle.mcs_system.specs.Faults.{IsValid}
use Rattle.mcs_system.specs.Atoms.{atoms_of}
use Rattle.mcs_system.specs.Systems.{variables_of}
use Rattle.mcs_system.proofs.ValidLemmas.{few_atoms}
use Rattle.mcs_cnf.specs.Entailments.{Entailment}
use Rattle.mcs_evidence.specs.Defaults.{Verdict, defaults_of}
use Rattle.mcs_evidence.specs.Programs.{ModelShown, ProgramShown}
use Rattle.mcs_asking.specs.Certificates.{Certificate, OfFormulas, OfDefaults, OfProgram}
use Rattle.mcs_asking.specs.Kinds.{part_count}
use Rattle.mcs_asking.proofs.KindItems.{few_parts}
use Rattle.mcs_asking.proofs.KindLemmas.{defaults_counted}
use Rattle.mcs_spelling.specs.Words.{after_prefix, step_of, guarded}
use Rattle.mcs_spelling.specs.Parts.{AreTellable}
use Rattle.mcs_proof_text.specs.Lines.{SmallerLine, NoneLine, line_text, question_text, output_text}
use Rattle.mcs_proof_text.specs.Answers.{Answer, trace_lines, model_lines, all_entailment_lines, set_lines, program_lines, certificate_lines, answer_lines}
use Rattle.mcs_proof_text.specs.Answers.{IsInShape}
use Rattle.mcs_proof_text.specs.Kinds.{IsCertificate, terms_with}
use Rattle.mcs_proof_text.specs.Shapes.{IsEither, AreMany, AreVerdicts}
use Rattle.mcs_proof_lines.specs.Walks.{At, Reading, ◌>>=◌, taken_at, advanced, fault_at, mapped_reading, many_at, entailment_at, expect_at}
use Rattle.mcs_proof_lines.specs.Verdicts.{Terms, verdicts_at}
use Rattle.mcs_proof_lines.specs.Programs.{program_at}
use Rattle.mcs_proof_lines.specs.Readings.{here, Stops, Anything, ReadsLines, ReadsLine, one_line, Image, AreBoth, both_lines, word_of, IsLineOfOtherKind, IsPassing}
use Rattle.mcs_proof_lines.proofs.Readings.{picked, reads_line, reads_same}
use Rattle.mcs_proof_lines.proofs.ReadingSequences.{both, reads_made, reads_both}
use Rattle.mcs_proof_lines.proofs.WordReadings.{word_line}
use Rattle.mcs_proof_reader.specs.Questions.{ten, state_after, comes_after, next_question, state_in_words}
use Rattle.mcs_proof_reader.specs.Answers.{Shown, states_there, state_at, with_certificate, shown_at, shown_of, answer_at, question_in}
use Rattle.mcs_proof_reader.proofs.EvidenceReadings.{told, reads_either, either_begins, reads_several, some_either}
use Rattle.mcs_proof_lines.proofs.Justs.{justs_in}
use Rattle.mcs_proof_reader.proofs.AbsenceReadings.{made_paired}
use Rattle.mcs_proof_reader.proofs.VerdictReadings.{reads_verdicts, some_verdicts, some_many}
use Rattle.mcs_proof_reader.proofs.ProgramReadings.{IsProgramOf, reads_program, some_program}
use Rattle.mcs_proof_reader.proofs.QuestionReadings.{IsQuestion, text_of_question, next_line, state_line}
use Rattle.mcs_proof_reader.proofs.StateReadings.{AreStatesAfter, are_states, states_are, read_states, reads_states}
use Rattle.mcs_proof_reader.proofs.AtomNames.{atoms_tell}
use Rattle.mcs_sets.proofs.Lattice.{no_member_of_none}

-- ---- one reading after the other, as the code is told
chained : {A B C : Type 0} (f : A × B → C) (q : A → At → Reading B) (r : Reading A) → mapped_reading f (both q r) ≡ (r >>= λ x. mapped_reading (λ y. f (x.0, y)) (q x.0 x.1))
chained f q (Ok x) = made_paired f x.0 (q x.0 x.1)
chained f q (Err n) = refl

module _ {A : Type 0} (word : List ℕ) (x : A) where
  by_test : (at : At) (b : Bool) → mapped_reading (λ (u : Unit {0}). x) (taken_at at (guarded b tt)) ≡ (cond b (Ok (advanced at)) (fault_at at) >>= λ next. Ok (x, next))
  by_test at true = refl
  by_test at false = refl

  then_word : (n : ℕ) (rest : List (List ℕ)) (tail : List ℕ) → mapped_reading (λ (u : Unit {0}). x) (picked (word_of word) (here n rest tail)) ≡ (expect_at word (here n rest tail) >>= λ next. Ok (x, next))
  unfolding expect_at
  then_word n [] tail = refl
  then_word n (line ∷ rest) tail = by_test (here n (line ∷ rest) tail) (bytes_eq line word)

done_line : ReadsLine (λ (u : Unit {0}). Unit {0}) (λ u. codes "done") (word_of (codes "done"))
done_line = word_line (codes "done")

-- ---- a certificate of a kind
of_kind : {A : Type 0} (outputs : List ℕ) (of : A → Certificate) (r : Reading A) → mapped_reading {B = Shown} (λ (a : A). (outputs, of a)) r ≡ mapped_reading {B = Shown} (λ (cert : Certificate). (outputs, cert)) (mapped_reading of r)
of_kind outputs of (Ok a) = refl
of_kind outputs of (Err n) = refl

-- what the lines of a default theory's certificate may name
abbrev terms_for : System → ℕ → List Item → Terms
terms_for m i items = terms_with (atoms_of m i) ten items (size (variables_of m i))

-- ---- what a context is said to put out
abbrev pub shown_lines : System → ℕ → Shown → List (List ℕ)
shown_lines m i s = map (output_text m) s.0 ++ map (line_text (atoms_of m i)) (certificate_lines s.1)

abbrev pub IsShownFor : System → ℕ → Kb → Shown → Type 0
IsShownFor m i kb s = (AllByRecursion (λ σ. Within σ (variables_of m i)) s.0 × IsAscending StateBefore s.0) × IsCertificate (atoms_of m i) kb (size (variables_of m i)) s.0 s.1

module _ (m : System) (valid : IsValid m) (named : IsSystemNamed m) (i : ℕ) (less : i < length m.contexts) where
  abbrev names : List Name
  names = atoms_of m i

  few : length names ≤ 64
  few = few_atoms m valid i less

  tells : AreTellable names
  tells = atoms_tell m named i

  abbrev own : ℕ
  own = variables_of m i

  abbrev beliefs : ℕ
  beliefs = size own

  -- formulas
  abbrev as_classical : ℕ × List Entailment → Shown
  as_classical se = (se.0 ∷ [], OfFormulas se.1)

  several : ReadsLines (AreMany (IsEither names) beliefs) (told names all_entailment_lines) Stops (many_at (entailment_at names) beliefs)
  several = reads_several names few tells (IsEither names) (entailment_at names) (reads_either names few tells) (either_begins names few tells) (some_either names few tells) beliefs

  some_several : (es : List Entailment) × AreMany (IsEither names) beliefs es
  some_several = some_many (IsEither names) (some_either names few tells) beliefs

  module _ (fs : List Formula) where
    classical_same : (at : At) → mapped_reading as_classical (both (λ σ. many_at (entailment_at names) beliefs) (picked (state_in_words m own None) at)) ≡ shown_at m i (Classical fs) at
    classical_same at = chained as_classical (λ σ. many_at (entailment_at names) beliefs) (picked (state_in_words m own None) at) ∙ by_state (state_at m i at)
      where
        by_state : (r : Reading ℕ) → (r >>= λ state. mapped_reading {B = Shown} (λ (es : List Entailment). (state.0 ∷ [], OfFormulas es)) (many_at (entailment_at names) beliefs state.1)) ≡ (mapped_reading (λ (state : ℕ). state ∷ []) r >>= with_certificate m i (Classical fs))
        by_state (Ok state) = of_kind (state.0 ∷ []) OfFormulas (many_at (entailment_at names) beliefs state.1)
        by_state (Err n) = refl

    to_classical : (s : Shown) → Image as_classical (AreBoth (IsPassing (λ σ. Within σ own) (state_after None)) (λ σ. AreMany (IsEither names) beliefs)) s → IsShownFor m i (Classical fs) s
    to_classical s (se, is, known) = subst (IsShownFor m i (Classical fs)) (sym is) (((known.0.0, tt), (tt, tt)), (refl, known.1))

    from_classical : (s : Shown) → IsShownFor m i (Classical fs) s → Image as_classical (AreBoth (IsPassing (λ σ. Within σ own) (state_after None)) (λ σ. AreMany (IsEither names) beliefs)) s
    from_classical (outputs, OfFormulas es) (states, (one, are)) = single outputs states.0 one
      where
        single : (outputs : List ℕ) → AllByRecursion (λ σ. Within σ own) outputs → length outputs ≡ 1 → Image as_classical (AreBoth (IsPassing (λ σ. Within σ own) (state_after None)) (λ σ. AreMany (IsEither names) beliefs)) (outputs, OfFormulas es)
        single [] within one = absurd (omega (arith, one))
        single (σ ∷ []) within one = ((σ, es), refl, ((within.0, refl), are))
        single (σ ∷ (τ ∷ σs)) within one = absurd (omega (arith, one))
    from_classical (outputs, cert) (states, shape) = absurd shape

    reads_classical : ReadsLines (IsShownFor m i (Classical fs)) (shown_lines m i) Stops (shown_at m i (Classical fs))
    reads_classical =
        let line = reads_line (IsPassing (λ σ. Within σ own) (state_after None)) (output_text m) (state_in_words m own None) (state_line m valid named i None) in
        let pair = reads_both (IsPassing (λ σ. Within σ own) (state_after None)) _ Anything (picked (state_in_words m own None)) (λ σ. AreMany (IsEither names) beliefs) (λ σ. told names all_entailment_lines) Stops (λ σ. many_at (entailment_at names) beliefs) line (λ σ is. several) (λ σ is. some_several) (λ σ es more is are end. tt) in
        let made_of = reads_made _ _ Stops _ as_classical (shown_lines m i) pair (λ se is. refl) in
        reads_same _ (IsShownFor m i (Classical fs)) _ (shown_lines m i) Stops _ (shown_at m i (Classical fs)) made_of to_classical from_classical (λ s is. refl) classical_same

  -- defaults
  module _ (items : List Item) (few_rules : length (map justs_in (defaults_of items)) ≤ 10) where
    abbrev as_default : List ℕ × List Verdict → Shown
    as_default sv = (sv.0, OfDefaults sv.1)

    abbrev AreSets : List Verdict → Type 0
    AreSets = AreVerdicts names items beliefs

    default_same : (at : At) → mapped_reading as_default (both (λ ss. verdicts_at (terms_for m i items)) (read_states m valid named i at)) ≡ shown_at m i (DefaultTheory items) at
    default_same at = made_paired as_default (states_there m i at).0 (verdicts_at (terms_for m i items) (states_there m i at).1)
        ∙ of_kind (states_there m i at).0 OfDefaults (verdicts_at (terms_for m i items) (states_there m i at).1)

    sets_other : (vs : List Verdict) (more : List (List ℕ)) → AreSets vs → IsLineOfOtherKind (after_prefix (codes "state ")) (told names (set_lines 0) vs ++ more)
    unfolding line_text after_prefix
    sets_other [] more are = absurd (let n = length (defaults_of items) in let one = are.one_each in let some = pow_pos n in omega (arith, one, some))
    sets_other (v ∷ vs) more are = refl

    to_default : (s : Shown) → Image as_default (AreBoth (AreStatesAfter m i None) (λ ss. AreSets)) s → IsShownFor m i (DefaultTheory items) s
    to_default s (sv, is, known) = subst (IsShownFor m i (DefaultTheory items)) (sym is) (are_states m i sv.0 known.0, known.1)

    from_default : (s : Shown) → IsShownFor m i (DefaultTheory items) s → Image as_default (AreBoth (AreStatesAfter m i None) (λ ss. AreSets)) s
    from_default (outputs, OfDefaults vs) (states, are) = ((outputs, vs), refl, (states_are m i outputs states.0 states.1, are))
    from_default (outputs, cert) (states, shape) = absurd shape

    reads_default : ReadsLines (IsShownFor m i (DefaultTheory items)) (shown_lines m i) Stops (shown_at m i (DefaultTheory items))
    reads_default =
        let pair = reads_both (AreStatesAfter m i None) _ (IsLineOfOtherKind (after_prefix (codes "state "))) (read_states m valid named i) (λ ss. AreSets) (λ ss. told names (set_lines 0)) Stops (λ ss. verdicts_at (terms_for m i items)) (reads_states m valid named i)
        (λ ss is. reads_verdicts names few tells items (map justs_in (defaults_of items)) refl few_rules beliefs) (λ ss is. some_verdicts names few tells items (map justs_in (defaults_of items)) refl few_rules beliefs) (λ ss vs more is are end. sets_other vs more are) in
        let made_of = reads_made _ _ Stops _ as_default (shown_lines m i) pair (λ sv is. refl) in
        reads_same _ (IsShownFor m i (DefaultTheory items)) _ (shown_lines m i) Stops _ (shown_at m i (DefaultTheory items)) made_of to_default from_default (λ s is. refl) default_same

  -- programs
  module _ (rules : List ProgramRule) where
    abbrev as_models : List ℕ × ProgramShown → Shown
    as_models sp = (sp.0, OfProgram sp.1)

    abbrev IsOf : List ℕ → ProgramShown → Type 0
    IsOf ss = IsProgramOf names few tells (length ss)

    models_same : (at : At) → mapped_reading as_models (both (λ ss. program_at names (length ss)) (read_states m valid named i at)) ≡ shown_at m i (Program rules) at
    models_same at = made_paired as_models (states_there m i at).0 (program_at names (length (states_there m i at).0) (states_there m i at).1)
        ∙ of_kind (states_there m i at).0 OfProgram (program_at names (length (states_there m i at).0) (states_there m i at).1)

    program_other : (ss : List ℕ) (p : ProgramShown) (more : List (List ℕ)) → IsLineOfOtherKind (after_prefix (codes "state ")) (told names program_lines p ++ more)
    unfolding line_text after_prefix
    program_other ss p more = by p.models p.smaller
      where
        by : (ms : List ModelShown) (smaller : List ℕ) → IsLineOfOtherKind (after_prefix (codes "state ")) (map (line_text names) (flat_map model_lines ms ++ (map SmallerLine smaller ++ NoneLine ∷ trace_lines p.rest)) ++ more)
        by [] [] = refl
        by [] (s ∷ smaller) = refl
        by (k ∷ ms) smaller = refl

    to_models : (s : Shown) → Image as_models (AreBoth (AreStatesAfter m i None) IsOf) s → IsShownFor m i (Program rules) s
    to_models s (sp, is, known) = subst (IsShownFor m i (Program rules)) (sym is)
        (are_states m i sp.0 known.0, record { one_each = known.1.one_each; models = known.1.models; smaller = known.1.smaller; rest = known.1.rest })

    from_models : (s : Shown) → IsShownFor m i (Program rules) s → Image as_models (AreBoth (AreStatesAfter m i None) IsOf) s
    from_models (outputs, OfProgram p) (states, are) = ((outputs, p), refl, (states_are m i outputs states.0 states.1, record { one_each = are.one_each; models = are.models; smaller = are.smaller; rest = are.rest }))
    from_models (outputs, cert) (states, shape) = absurd shape

    reads_models : ReadsLines (IsShownFor m i (Program rules)) (shown_lines m i) Stops (shown_at m i (Program rules))
    reads_models =
        let pair = reads_both (AreStatesAfter m i None) _ (IsLineOfOtherKind (after_prefix (codes "state "))) (read_states m valid named i) IsOf (λ ss. told names program_lines) Stops (λ ss. program_at names (length ss)) (reads_states m valid named i)
        (λ ss is. reads_program names few tells (length ss)) (λ ss is. some_program names few tells (length ss)) (λ ss p more is are end. program_other ss p more) in
        let made_of = reads_made _ _ Stops _ as_models (shown_lines m i) pair (λ sp is. refl) in
        reads_same _ (IsShownFor m i (Program rules)) _ (shown_lines m i) Stops _ (shown_at m i (Program rules)) made_of to_models from_models (λ s is. refl) models_same

  -- by the context's kind
  reads_kind : (kb : Kb) → part_count kb ≤ 10 → ReadsLines (IsShownFor m i kb) (shown_lines m i) Stops (shown_at m i kb)
  reads_kind (Classical fs) few_parts = reads_classical fs
  reads_kind (DefaultTheory items) few_parts = reads_default items (let c = defaults_counted items in let long = length-map (defaults_of items) justs_in in omega (arith, few_parts, c, long))
  reads_kind (Program rules) few_parts = reads_models rules

  some_kind : (kb : Kb) → part_count kb ≤ 10 → (s : Shown) × IsShownFor m i kb s
  some_kind (Classical fs) few_parts = (as_classical (0, some_several.0), ((((λ k member. absurd (no_member_of_none 0 refl k member)), tt), (tt, tt)), (refl, some_several.1)))
  some_kind (DefaultTheory items) few_parts =
      let few_rules : length (map justs_in (defaults_of items)) ≤ 10 = (let c = defaults_counted items in let long = length-map (defaults_of items) justs_in in omega (arith, few_parts, c, long)) in
      let (vs, are) = some_verdicts names few tells items (map justs_in (defaults_of items)) refl few_rules beliefs in
      (([], OfDefaults vs), ((tt, tt), are))
  some_kind (Program rules) few_parts =
      let (p, is) = some_program names few tells 0 in
      (([], OfProgram p), ((tt, tt), record { one_each = is.one_each; models = is.models; smaller = is.smaller; rest = is.rest }))

-- ---- an answer to a question after the last one
abbrev pub IsAnswerAfter : System → Option (ℕ × ℕ) → Answer → Type 0
IsAnswerAfter m last a = IsInShape m a × (comes_after last (question_in a) ≡ true)

module _ (m : System) (valid : IsValid m) (named : IsSystemNamed m) (last : Option (ℕ × ℕ)) where
  abbrev Question : Type 0
  Question = ℕ × ℕ

  abbrev IsNext : Question → Type 0
  IsNext q = IsQuestion m q × (comes_after last q ≡ true)

  abbrev IsShownOf : Question → Shown → Type 0
  IsShownOf q s = (c : Context) × (slice_get m.contexts q.0 ≡ Some c) × IsShownFor m q.0 c.kb s

  abbrev read_shown : Question → At → Reading Shown
  read_shown q at = shown_of m q.0 (slice_get m.contexts q.0) at

  one_context : (q : Question) (c d : Context) → slice_get m.contexts q.0 ≡ Some c → slice_get m.contexts q.0 ≡ Some d → c ≡ d
  one_context q c d here there = same_Some c d (sym here ∙ there)

  reads_shown : (q : Question) → IsNext q → ReadsLines (IsShownOf q) (shown_lines m q.0) Stops (read_shown q)
  reads_shown q is =
      let c = is.0.0.0 in
      let there : slice_get m.contexts q.0 ≡ Some c = is.0.0.1 in
      let less = slice_get_within m.contexts q.0 c there in
      reads_same (IsShownFor m q.0 c.kb) (IsShownOf q) (shown_lines m q.0) (shown_lines m q.0) Stops (shown_at m q.0 c.kb) (read_shown q) (reads_kind m valid named q.0 less c.kb (few_parts m valid q.0 c there))
      (λ s shown. (c, there, shown)) (λ s (d, is', shown). subst (λ (k : Context). IsShownFor m q.0 k.kb s) (one_context q d c is' there) shown) (λ s shown. refl) (λ at. ap (λ (o : Option Context). shown_of m q.0 o at) (sym there))

  some_shown : (q : Question) → IsNext q → (s : Shown) × IsShownOf q s
  some_shown q is =
      let c = is.0.0.0 in
      let there : slice_get m.contexts q.0 ≡ Some c = is.0.0.1 in
      let less = slice_get_within m.contexts q.0 c there in
      let (s, shown) = some_kind m valid named q.0 less c.kb (few_parts m valid q.0 c there) in
      (s, (c, there, shown))

  abbrev Rest : Type 0
  Rest = Shown × Unit {0}

  abbrev IsRest : Question → Rest → Type 0
  IsRest q = AreBoth (IsShownOf q) (λ s u. Unit {0})

  abbrev rest_lines : Question → Rest → List (List ℕ)
  rest_lines q = both_lines (shown_lines m q.0) (λ s. one_line (λ u. codes "done"))

  abbrev read_rest : Question → At → Reading Rest
  read_rest q at = both (λ s. picked (word_of (codes "done"))) (read_shown q at)

  done_stops : (more : List (List ℕ)) → Stops (codes "done" ∷ more)
  unfolding step_of after_prefix
  done_stops more = refl

  reads_rest : (q : Question) → IsNext q → ReadsLines (IsRest q) (rest_lines q) Anything (read_rest q)
  reads_rest q is = reads_both (IsShownOf q) (shown_lines m q.0) Stops (read_shown q) (λ s u. Unit {0}) (λ s. one_line (λ u. codes "done")) Anything (λ s. picked (word_of (codes "done")))
      (reads_shown q is) (λ s shown. reads_line (λ (u : Unit {0}). Unit {0}) (λ u. codes "done") (word_of (codes "done")) done_line) (λ s shown. (tt, tt)) (λ s u more shown known end. done_stops more)

  abbrev as_answer : Question × Rest → Answer
  as_answer qr = record { context = qr.0.0; active = qr.0.1; outputs = qr.1.0.0; cert = qr.1.0.1 }

  answer_told : (qr : Question × Rest) → both_lines (one_line (text_of_question m)) rest_lines qr ≡ answer_lines m (as_answer qr)
  answer_told (q, (s, u)) = ap (λ (ls : List (List ℕ)). question_text m q.0 q.1 ∷ ls) (append_assoc (map (output_text m) s.0) (map (line_text (atoms_of m q.0)) (certificate_lines s.1)) (codes "done" ∷ []))

  answer_same : (at : At) → mapped_reading as_answer (both read_rest (picked (next_question m last) at)) ≡ answer_at m last at
  unfolding answer_at
  answer_same at = chained as_answer read_rest (picked (next_question m last) at) ∙ by1 (picked (next_question m last) at)
    where
      by2 : (q : Question) (r : Reading Shown) → (r >>= λ y. mapped_reading (λ u. as_answer (q, (y.0, u))) (picked (word_of (codes "done")) y.1))
          ≡ (r >>= λ shown. expect_at (codes "done") shown.1 >>= λ next. Ok (record { context = q.0; active = q.1; outputs = shown.0.0; cert = shown.0.1 }, next))
      by2 q (Ok y) = (let a : Answer = record { context = q.0; active = q.1; outputs = y.0.0; cert = y.0.1 } in then_word (codes "done") a y.1.taken y.1.rest y.1.tail)
      by2 q (Err n) = refl

      by1 : (r : Reading Question) → (r >>= λ x. mapped_reading (λ y. as_answer (x.0, y)) (read_rest x.0 x.1))
          ≡ (r >>= λ question. shown_of m question.0.0 (slice_get m.contexts question.0.0) question.1 >>= λ shown. expect_at (codes "done") shown.1 >>= λ next. Ok (record { context = question.0.0; active = question.0.1; outputs = shown.0.0; cert = shown.0.1 }, next))
      by1 (Ok x) = chained (λ y. as_answer (x.0, y)) (λ s. picked (word_of (codes "done"))) (read_shown x.0 x.1) ∙ by2 x.0 (read_shown x.0 x.1)
      by1 (Err n) = refl

  to_answer : (a : Answer) → Image as_answer (AreBoth IsNext IsRest) a → IsAnswerAfter m last a
  to_answer a (qr, is, ((question, later), (shown, u))) = subst (IsAnswerAfter m last) (sym is)
      (record { context = shown.0; is_it = shown.1; rules = question.1; states = shown.2.0.0; ascending = shown.2.0.1; cert = shown.2.1 }, later)

  from_answer : (a : Answer) → IsAnswerAfter m last a → Image as_answer (AreBoth IsNext IsRest) a
  from_answer a (h, later) = (((a.context, a.active), ((a.outputs, a.cert), tt)), refl, ((((h.context, h.is_it), h.rules), later), ((h.context, h.is_it, ((h.states, h.ascending), h.cert)), tt)))

  pub reads_answer : ReadsLines (IsAnswerAfter m last) (answer_lines m) Anything (answer_at m last)
  reads_answer =
      let line = reads_line IsNext (text_of_question m) (next_question m last) (next_line m valid named last) in
      let pair = reads_both IsNext _ Anything (picked (next_question m last)) IsRest rest_lines Anything read_rest line reads_rest
      (λ q is. (((some_shown q is).0, tt), ((some_shown q is).1, tt))) (λ q r more is known end. tt) in
      let made_of = reads_made _ _ Anything _ as_answer (answer_lines m) pair (λ qr is. answer_told qr) in
      reads_same _ (IsAnswerAfter m last) _ (answer_lines m) Anything _ (answer_at m last) made_of to_answer from_answer (λ a is. refl) answer_same
