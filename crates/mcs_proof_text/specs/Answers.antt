-- An answer with its certificate, its lines, and what they may be.
use Rattle.std.specs.Prelude.{◌≡◌, ℕ, List, ◌∷◌, [], ◌++◌, map, codes, Some, slice_get}
use Rattle.std.specs.List.{AllByRecursion}
use Rattle.mcs_sets.specs.Sets.{size, Within}
use Rattle.mcs_sets.specs.Orders.{StateBefore}
use Rattle.mcs_base.specs.Listings.{IsAscending}
use Rattle.mcs_system.specs.Plain.{Context, System}
use Rattle.mcs_system.specs.Atoms.{atoms_of}
use Rattle.mcs_system.specs.Imports.{rules_into}
use Rattle.mcs_system.specs.Systems.{variables_of}
use Rattle.mcs_asking.specs.Certificates.{Certificate}
use Rattle.mcs_proof_text.specs.Lines.{line_text, question_text, output_text}
pub use Rattle.mcs_proof_text.specs.EvidenceLines.{trace_lines, entailment_lines, all_entailment_lines, absence_lines, verdict_lines, set_lines, model_lines, program_lines}
pub use Rattle.mcs_proof_text.specs.Kinds.{certificate_lines}
use Rattle.mcs_proof_text.specs.Kinds.{IsCertificate}

-- what context i is said to accept with the heads of the rules of x: the states that are put out, and why
pub record Answer : Type 0 where
  pub context : ℕ
  pub active : ℕ
  pub outputs : List ℕ
  pub cert : Certificate

-- ---- the lines of the answer, as bytes without line feeds
abbrev pub answer_lines : System → Answer → List (List ℕ)
answer_lines m a =
    question_text m a.context a.active ∷ (map (output_text m) a.outputs ++ (map (line_text (atoms_of m a.context)) (certificate_lines a.cert) ++ codes "done" ∷ []))

-- an answer of a context of the system: rules into it, states of it in strictly ascending order, a certificate of its kind
pub record IsInShape (m : System) (a : Answer) : Type 0 where
  pub context : Context
  pub is_it : slice_get m.contexts a.context ≡ Some context
  pub rules : Within a.active (rules_into m a.context)
  pub states : AllByRecursion (λ σ. Within σ (variables_of m a.context)) a.outputs
  pub ascending : IsAscending StateBefore a.outputs
  pub cert : IsCertificate (atoms_of m a.context) context.kb (size (variables_of m a.context)) a.outputs a.cert
