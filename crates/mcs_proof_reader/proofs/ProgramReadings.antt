-- Certificates of programs, read.
use Rattle.std.proofs.Common.{◌≡◌, ℕ, ◌+◌, ◌≤◌, zero, suc, List, [], ◌∷◌, ◌++◌, map, length, codes, Option, Some, None, Ok, Err, refl, sym, ap, ◌∙◌, subst, arith}
use Rattle.std.proofs.lemmas.List.{map-append}
use Rattle.std.specs.List.{AllByRecursion, flat_map}
use Rattle.mcs_system.specs.Plain.{Name}
use Rattle.mcs_trace.specs.Traces.{Inference}
use Rattle.mcs_evidence.specs.Programs.{ModelShown, ProgramShown, IsInRange}
use Rattle.mcs_spelling.specs.Parts.{AreTellable, atoms_text, step_text}
use Rattle.mcs_spelling.specs.Words.{after_prefix, step_of}
use Rattle.mcs_proof_text.specs.Lines.{SmallerLine, NoneLine, line_text}
use Rattle.mcs_proof_text.specs.Answers.{trace_lines, model_lines, program_lines}
use Rattle.mcs_proof_text.specs.Shapes.{IsTrace, IsModel}
use Rattle.mcs_proof_lines.specs.Walks.{At, Reading, ◌>>=◌, mapped_reading, many_at, trace_at, atoms_of_line, atoms_at}
use Rattle.mcs_proof_lines.specs.Programs.{model_at, with_smaller, smaller_from, smaller_at, rest_at, program_at}
use Rattle.mcs_proof_lines.specs.Readings.{here, Stops, Anything, ReadsLines, one_line, Image, AreBoth, both_lines, AllStop, Begin, IsMany, IsLineOfOtherKind}
use Rattle.mcs_proof_lines.proofs.Readings.{reads_same}
use Rattle.mcs_proof_lines.proofs.ReadingSequences.{both, paired, reads_made, reads_both, both_stop}
use Rattle.mcs_proof_lines.proofs.ReadingLists.{reads_many}
use Rattle.mcs_proof_lines.proofs.WordReadings.{reads_word, after_line}
use Rattle.mcs_proof_lines.proofs.TraceReadings.{reads_trace, some_trace}
use Rattle.mcs_proof_lines.proofs.ReadingRuns.{with_one, run_from, run_at, reads_run}
use Rattle.mcs_proof_reader.proofs.EvidenceReadings.{told, told_all, trace_told, reads_atoms, set_line}
use Rattle.mcs_sets.proofs.Lattice.{no_member_of_none}

-- a smaller set, and a line that says one
abbrev smaller_text : List Name → ℕ → List ℕ
smaller_text names places = codes "smaller " ++ atoms_text names places

abbrev smaller_of : List Name → List ℕ → Option ℕ
smaller_of names = atoms_of_line (codes "smaller ") names

module _ (names : List Name) (few : length names ≤ 64) (tells : AreTellable names) where
  -- ---- a model
  abbrev as_model : ℕ × List Inference → ModelShown
  as_model mt = record { model = mt.0; minimal = mt.1 }

  abbrev read_model : At → Reading ModelShown
  read_model at = mapped_reading as_model (both (λ m. trace_at) (atoms_at (codes "model ") names at))

  model_told : (mt : ℕ × List Inference) → both_lines (one_line (λ m. codes "model " ++ atoms_text names m)) (λ m. map step_text) mt ≡ told names model_lines (as_model mt)
  unfolding line_text
  model_told mt = ap (λ (ls : List (List ℕ)). (codes "model " ++ atoms_text names mt.0) ∷ ls) (trace_told names mt.1)

  model_same : (at : At) → read_model at ≡ model_at names at
  unfolding model_at
  model_same at = by (atoms_at (codes "model ") names at)
    where
      second : (m : ℕ) (r : Reading (List Inference)) → mapped_reading as_model (paired m r) ≡ (r >>= λ trace. Ok (record { model = m; minimal = trace.0 }, trace.1))
      second m (Ok r) = refl
      second m (Err n) = refl

      by : (r : Reading ℕ) → mapped_reading as_model (both (λ m. trace_at) r) ≡ (r >>= λ model. trace_at model.1 >>= λ trace. Ok (record { model = model.0; minimal = trace.0 }, trace.1))
      by (Ok r) = second r.0 (trace_at r.1)
      by (Err n) = refl

  reads_model : ReadsLines (IsModel names) (told names model_lines) Stops (model_at names)
  reads_model =
      let pair = reads_both (IsInRange names) _ Anything (atoms_at (codes "model ") names) (λ m. IsTrace) (λ m. map step_text) Stops (λ m. trace_at) (reads_atoms names few tells (codes "model ")) (λ m is. reads_trace) (λ m is. some_trace) (λ m t more is known end. tt) in
      let made_of = reads_made _ _ Stops _ as_model (told names model_lines) pair (λ mt is. model_told mt) in
      reads_same _ (IsModel names) _ (told names model_lines) Stops _ (model_at names) made_of (λ m is. subst (IsModel names) (sym is.1) is.2) (λ m is. ((m.model, m.minimal), refl, is)) (λ m is. refl) model_same

  model_begins : Begin (IsModel names) (told names model_lines)
  unfolding line_text step_of after_prefix
  model_begins m rest is = refl

  some_model : (m : ModelShown) × IsModel names m
  some_model = (as_model (0, some_trace.0), ((λ k member. absurd (no_member_of_none 0 refl k member)), some_trace.1))

  -- ---- the smaller sets, and then the trace that refutes all others
  reads_smaller : ReadsLines (AllByRecursion (IsInRange names)) (map (smaller_text names)) (IsLineOfOtherKind (smaller_of names)) (run_at (smaller_of names))
  reads_smaller = reads_run (IsInRange names) (smaller_text names) (smaller_of names) (after_line (codes "smaller ") (IsInRange names) (atoms_text names) _ (set_line names few tells))

  abbrev rest_lines : List Inference → List (List ℕ)
  rest_lines steps = codes "none" ∷ map step_text steps

  reads_rest : ReadsLines IsTrace rest_lines Stops rest_at
  reads_rest = reads_word (codes "none") trace_at IsTrace (map step_text) Stops reads_trace some_trace

  none_other : (steps : List Inference) (more : List (List ℕ)) → IsLineOfOtherKind (smaller_of names) (rest_lines steps ++ more)
  unfolding after_prefix
  none_other steps more = refl

  abbrev Rest : Type 0
  Rest = List ℕ × List Inference

  abbrev IsRest : Rest → Type 0
  IsRest = AreBoth (AllByRecursion (IsInRange names)) (λ ss. IsTrace)

  abbrev all_rest_lines : Rest → List (List ℕ)
  all_rest_lines = both_lines (map (smaller_text names)) (λ ss. rest_lines)

  abbrev read_rest : At → Reading Rest
  read_rest at = both (λ ss. rest_at) (run_at (smaller_of names) at)

  reads_all_rest : ReadsLines IsRest all_rest_lines Stops read_rest
  reads_all_rest = reads_both (AllByRecursion (IsInRange names)) _ (IsLineOfOtherKind (smaller_of names)) (run_at (smaller_of names)) (λ ss. IsTrace) (λ ss. rest_lines) Stops (λ ss. rest_at) reads_smaller (λ ss is. reads_rest) (λ ss is. some_trace) (λ ss t more is known end. none_other t more)

  smaller_stop : AllStop (AllByRecursion (IsInRange names)) (map (smaller_text names))
  unfolding step_of after_prefix
  smaller_stop [] more is end = end
  smaller_stop (s ∷ ss) more is end = refl

  none_stop : AllStop IsTrace rest_lines
  unfolding step_of after_prefix
  none_stop steps more is end = refl

  rest_stop : AllStop IsRest all_rest_lines
  rest_stop = both_stop (AllByRecursion (IsInRange names)) (λ ss. IsTrace) (map (smaller_text names)) (λ ss. rest_lines) smaller_stop (λ ss. none_stop)

  some_rest : (r : Rest) × IsRest r
  some_rest = (([], some_trace.0), (tt, some_trace.1))

  -- ---- a certificate with so many models
  module _ (count : ℕ) where
    abbrev Whole : Type 0
    Whole = List ModelShown × Rest

    abbrev as_program : Whole → ProgramShown
    as_program w = record { models = w.0; smaller = w.1.0; rest = w.1.1 }

    abbrev IsWhole : Whole → Type 0
    IsWhole = AreBoth (IsMany (IsModel names) count) (λ ms. IsRest)

    abbrev whole_lines : Whole → List (List ℕ)
    whole_lines = both_lines (flat_map (told names model_lines)) (λ ms. all_rest_lines)

    abbrev read_program : At → Reading ProgramShown
    read_program at = mapped_reading as_program (both (λ ms. read_rest) (many_at (model_at names) count at))

    smaller_told : (ss : List ℕ) → map (smaller_text names) ss ≡ map (line_text names) (map SmallerLine ss)
    unfolding line_text
    smaller_told [] = refl
    smaller_told (s ∷ ss) = ap (λ (ls : List (List ℕ)). smaller_text names s ∷ ls) (smaller_told ss)

    none_told : (steps : List Inference) → rest_lines steps ≡ map (line_text names) (NoneLine ∷ trace_lines steps)
    unfolding line_text
    none_told steps = ap (λ (ls : List (List ℕ)). codes "none" ∷ ls) (trace_told names steps)

    program_told : (w : Whole) → whole_lines w ≡ told names program_lines (as_program w)
    program_told (ms, (ss, steps)) =
        let lt = line_text names in
        let e2 : map (smaller_text names) ss ++ rest_lines steps ≡ map lt (map SmallerLine ss ++ NoneLine ∷ trace_lines steps) =
        ap (λ (ls : List (List ℕ)). ls ++ rest_lines steps) (smaller_told ss) ∙ (ap (λ (ls : List (List ℕ)). map lt (map SmallerLine ss) ++ ls) (none_told steps) ∙ sym (map-append lt (map SmallerLine ss) (NoneLine ∷ trace_lines steps))) in
        ap (λ (ls : List (List ℕ)). ls ++ (map (smaller_text names) ss ++ rest_lines steps)) (told_all names model_lines ms)
        ∙ (ap (λ (ls : List (List ℕ)). map lt (flat_map model_lines ms) ++ ls) e2 ∙ sym (map-append lt (flat_map model_lines ms) (map SmallerLine ss ++ NoneLine ∷ trace_lines steps)))

    smaller_same : (n : ℕ) (rest : List (List ℕ)) (tail : List ℕ) → run_from (smaller_of names) n rest tail ≡ smaller_from names n rest tail
    smaller_same n [] tail = refl
    smaller_same n (line ∷ rest) tail = by (smaller_of names line) (smaller_same (n + 1) rest tail)
      where
        by : (o : Option ℕ) → run_from (smaller_of names) (n + 1) rest tail ≡ smaller_from names (n + 1) rest tail
            → with_one o (run_from (smaller_of names) (n + 1) rest tail) (here n (line ∷ rest) tail) ≡ with_smaller o (smaller_from names (n + 1) rest tail) (here n (line ∷ rest) tail)
        by None again = refl
        by (Some s) again = ap (λ (r : List ℕ × At). (let t : List ℕ × At = (s ∷ r.0, r.1) in t)) again

    program_same : (at : At) → read_program at ≡ program_at names count at
    unfolding program_at smaller_at
    program_same at = by (many_at (model_at names) count at)
      where
        last : (ms : List ModelShown) (ss : List ℕ) (r : Reading (List Inference)) → mapped_reading as_program (paired ms (paired ss r)) ≡ (r >>= λ rest. Ok (record { models = ms; smaller = ss; rest = rest.0 }, rest.1))
        last ms ss (Ok r) = refl
        last ms ss (Err n) = refl

        by : (r : Reading (List ModelShown)) → mapped_reading as_program (both (λ ms. read_rest) r)
            ≡ (r >>= λ models. rest_at (smaller_from names models.1.taken models.1.rest models.1.tail).1 >>= λ rest. Ok (record { models = models.0; smaller = (smaller_from names models.1.taken models.1.rest models.1.tail).0; rest = rest.0 }, rest.1))
        by (Ok r) =
            let same = smaller_same r.1.taken r.1.rest r.1.tail in
            ap (λ (s : List ℕ × At). mapped_reading as_program (paired r.0 (paired s.0 (rest_at s.1)))) same ∙ last r.0 (smaller_from names r.1.taken r.1.rest r.1.tail).0 (rest_at (smaller_from names r.1.taken r.1.rest r.1.tail).1)
        by (Err n) = refl

    -- for so many states
    pub record IsProgramOf (p : ProgramShown) : Type 0 where
      pub one_each : length p.models ≡ count
      pub models : AllByRecursion (IsModel names) p.models
      pub smaller : AllByRecursion (IsInRange names) p.smaller
      pub rest : IsTrace p.rest

    to_program : (p : ProgramShown) → Image as_program IsWhole p → IsProgramOf p
    to_program p (w, is, known) = subst IsProgramOf (sym is) (record { one_each = known.0.0; models = known.0.1; smaller = known.1.0; rest = known.1.1 })

    from_program : (p : ProgramShown) → IsProgramOf p → Image as_program IsWhole p
    from_program p h = ((p.models, (p.smaller, p.rest)), refl, ((h.one_each, h.models), (h.smaller, h.rest)))

    pub some_program : (p : ProgramShown) × IsProgramOf p
    some_program = let (ms, are) = go count in (as_program (ms, some_rest.0), record { one_each = are.0; models = are.1; smaller = some_rest.1.0; rest = some_rest.1.1 })
      where
        go : (n : ℕ) → (ms : List ModelShown) × IsMany (IsModel names) n ms
        go zero = ([], (refl, tt))
        go (suc n) = let (ms, are) = go n in (some_model.0 ∷ ms, ((let e = are.0 in omega (arith, e)), (some_model.1, are.1)))

    pub reads_program : ReadsLines IsProgramOf (told names program_lines) Stops (program_at names count)
    reads_program =
        let pair = reads_both (IsMany (IsModel names) count) (flat_map (told names model_lines)) Stops (many_at (model_at names) count) (λ ms. IsRest) (λ ms. all_rest_lines) Stops (λ ms. read_rest)
        (reads_many (IsModel names) (told names model_lines) (model_at names) reads_model model_begins some_model count) (λ ms is. reads_all_rest) (λ ms is. some_rest) (λ ms r more is known end. rest_stop r more known end) in
        let made_of = reads_made _ _ Stops _ as_program (told names program_lines) pair (λ w is. program_told w) in
        reads_same _ IsProgramOf _ (told names program_lines) Stops _ (program_at names count) made_of to_program from_program (λ p is. refl) program_same
