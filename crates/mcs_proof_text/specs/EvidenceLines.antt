-- The lines of the parts of a certificate.
use Rattle.std.specs.Prelude.{ℕ, ◌+◌, List, [], ◌∷◌, ◌++◌, map}
use Rattle.std.specs.List.{flat_map}
use Rattle.mcs_trace.specs.Traces.{Inference}
use Rattle.mcs_cnf.specs.Entailments.{Entailment, Yes, No}
use Rattle.mcs_evidence.specs.Defaults.{Absence, Unsupported, Blocked, Verdict, Fails, Applied, Ungrounded, Extension}
use Rattle.mcs_evidence.specs.Programs.{ModelShown, ProgramShown}
use Rattle.mcs_proof_text.specs.Lines.{Line, YesLine, NoLine, StepLine, SetLine, UnsupportedLine, BlockedLine, AppliedLine, UngroundedLine, ExtensionLine, ModelLine, SmallerLine, NoneLine}

abbrev pub trace_lines : List Inference → List Line
trace_lines steps = map StepLine steps

abbrev pub entailment_lines : Entailment → List Line
entailment_lines (Yes steps) = YesLine ∷ trace_lines steps
entailment_lines (No places) = NoLine places ∷ []

abbrev pub all_entailment_lines : List Entailment → List Line
all_entailment_lines es = flat_map entailment_lines es

abbrev pub absence_lines : Absence → List Line
absence_lines (Unsupported number e) = UnsupportedLine number ∷ entailment_lines e
absence_lines (Blocked number just e) = BlockedLine number just ∷ entailment_lines e

abbrev pub verdict_lines : Verdict → List Line
verdict_lines (Fails absence) = absence_lines absence
verdict_lines (Applied number pre justs) = AppliedLine number ∷ (entailment_lines pre ++ all_entailment_lines justs)
verdict_lines (Ungrounded closed pres) = UngroundedLine closed ∷ all_entailment_lines pres
verdict_lines (Extension order pres justs outside outputs) =
    ExtensionLine order ∷ (all_entailment_lines pres ++ (all_entailment_lines justs ++ (flat_map absence_lines outside ++ all_entailment_lines outputs)))

-- of the sets of defaults from number k on
abbrev pub set_lines : ℕ → List Verdict → List Line
set_lines k [] = []
set_lines k (v ∷ vs) = SetLine k ∷ (verdict_lines v ++ set_lines (k + 1) vs)

abbrev pub model_lines : ModelShown → List Line
model_lines m = ModelLine m.model ∷ trace_lines m.minimal

abbrev pub program_lines : ProgramShown → List Line
program_lines p = flat_map model_lines p.models ++ (map SmallerLine p.smaller ++ NoneLine ∷ trace_lines p.rest)
