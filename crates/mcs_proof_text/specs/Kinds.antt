-- The lines of a certificate, what they may be, and how they are read: a line for each kind.
use Rattle.std.specs.Prelude.{◌≡◌, ℕ, List, map, length}
use Rattle.mcs_system.specs.Plain.{Name, Default, Item, ClassicalKind, DefaultKind, ProgramKind, Kb, OfKind}
use Rattle.mcs_evidence.specs.Defaults.{defaults_of}
use Rattle.mcs_asking.specs.Certificates.{Certificate, OfFormulas, OfDefaults, OfProgram}
use Rattle.mcs_proof_lines.specs.Walks.{At, Reading, many_at, entailment_at, mapped_reading}
use Rattle.mcs_proof_lines.specs.Verdicts.{Terms, verdicts_at}
use Rattle.mcs_proof_lines.specs.Programs.{program_at}
use Rattle.mcs_proof_text.specs.Lines.{Line}
use Rattle.mcs_proof_text.specs.EvidenceLines.{all_entailment_lines, set_lines, program_lines}
use Rattle.mcs_proof_text.specs.Shapes.{IsEither, AreMany, AreVerdicts, IsProgramShape}

abbrev pub certificate_lines : Certificate → List Line
certificate_lines (OfFormulas es) = all_entailment_lines es
certificate_lines (OfDefaults vs) = set_lines 0 vs
certificate_lines (OfProgram p) = program_lines p

-- a certificate for a knowledge base with so many beliefs and these states
abbrev pub IsCertificate : List Name → Kb → ℕ → List ℕ → Certificate → Type 0
IsCertificate names (OfKind ClassicalKind formulas) beliefs outputs (OfFormulas es) = (length outputs ≡ 1) × AreMany (IsEither names) beliefs es
IsCertificate names (OfKind DefaultKind items) beliefs outputs (OfDefaults vs) = AreVerdicts names items beliefs vs
IsCertificate names (OfKind ProgramKind rules) beliefs outputs (OfProgram p) = IsProgramShape names outputs p
IsCertificate names kb beliefs outputs cert = ⊥

-- ---- how they are read, of so many beliefs and outputs
-- what the lines of a default theory may name
abbrev pub terms_with : List Name → List (List ℕ) → List Item → ℕ → Terms
terms_with names numbers items beliefs = record { atoms = names; numbers = numbers; justs = map (λ (d : Default). length d.justs) (defaults_of items); beliefs = beliefs }

abbrev pub certificate_at : List Name → List (List ℕ) → ℕ → Kb → ℕ → At → Reading Certificate
certificate_at names numbers beliefs (OfKind ClassicalKind formulas) count at = mapped_reading OfFormulas (many_at (entailment_at names) beliefs at)
certificate_at names numbers beliefs (OfKind DefaultKind items) count at = mapped_reading OfDefaults (verdicts_at (terms_with names numbers items beliefs) at)
certificate_at names numbers beliefs (OfKind ProgramKind rules) count at = mapped_reading OfProgram (program_at names count at)
