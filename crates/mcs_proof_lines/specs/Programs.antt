-- How the certificates of programs are read, as functions by which the code is told.
use Rattle.std.specs.Prelude.{ℕ, ◌+◌, List, [], ◌∷◌, codes, Option, Some, None, Ok}
use Rattle.mcs_trace.specs.Traces.{Inference}
use Rattle.mcs_evidence.specs.Programs.{ModelShown, ProgramShown}
use Rattle.mcs_proof_lines.specs.Walks.{At, Reading, ◌>>=◌, expect_at, trace_at, atoms_of_line, atoms_at, many_at}

unfoldable pub model_at : List (List ℕ) → At → Reading ModelShown
model_at texts at = do
  model ← atoms_at (codes "model ") texts at
  trace ← trace_at model.1
  Ok (record { model = model.0; minimal = trace.0 }, trace.1)

-- the smaller sets that are next
abbrev pub with_smaller : Option ℕ → (List ℕ × At) → At → (List ℕ × At)
with_smaller None later here = ([], here)
with_smaller (Some s) later here = (s ∷ later.0, later.1)

abbrev pub smaller_from : List (List ℕ) → ℕ → List (List ℕ) → List ℕ → (List ℕ × At)
smaller_from texts taken [] tail = ([], record { taken = taken; rest = []; tail = tail })
smaller_from texts taken (line ∷ lines) tail = with_smaller (atoms_of_line (codes "smaller ") texts line) (smaller_from texts (taken + 1) lines tail) (record { taken = taken; rest = line ∷ lines; tail = tail })

unfoldable pub smaller_at : List (List ℕ) → At → (List ℕ × At)
smaller_at texts at = smaller_from texts at.taken at.rest at.tail

abbrev pub rest_at : At → Reading (List Inference)
rest_at at = expect_at (codes "none") at >>= trace_at

unfoldable pub program_at : List (List ℕ) → ℕ → At → Reading ProgramShown
program_at texts count at = do
  models ← many_at (model_at texts) count at
  rest ← rest_at (smaller_at texts models.1).1
  Ok (record { models = models.0; smaller = (smaller_at texts models.1).0; rest = rest.0 }, rest.1)
