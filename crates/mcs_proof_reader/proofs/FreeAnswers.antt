-- No line of an answer has a line feed, where the names are names.
use Rattle.std.proofs.Common.{ℕ, List, [], ◌∷◌, ◌++◌, map, codes, slice_get, refl}
use Rattle.std.specs.List.{AllByRecursion, flat_map}
use Rattle.mcs_base.proofs.Each.{all_append}
use Rattle.mcs_system.specs.Plain.{System}
use Rattle.mcs_system.specs.Atoms.{atoms_of}
use Rattle.mcs_system.specs.Naming.{IsSystemNamed}
use Rattle.mcs_system.specs.Texts.{name_of_context}
use Rattle.mcs_report.specs.Members.{state_text, rules_text}
use Rattle.mcs_proof_text.specs.Lines.{line_text, question_text, output_text}
use Rattle.mcs_proof_text.specs.Answers.{Answer, certificate_lines, answer_lines}
use Rattle.mcs_proof_text.specs.Reports.{IsLineFeedFree}
use Rattle.mcs_proof_text.proofs.FreeTexts.{append_free, told_free, each_free, context_free, rules_free, state_free}
use Rattle.mcs_proof_reader.proofs.AtomNames.{atom_names}
use Rattle.mcs_proof_reader.proofs.FreeLines.{line_free}

module _ (m : System) (named : IsSystemNamed m) where
  question_free : (i x : ℕ) → IsLineFeedFree (question_text m i x)
  unfolding question_text
  question_free i x = append_free (codes "answer ") (name_of_context (slice_get m.contexts i) ++ (codes " " ++ rules_text m x)) (told_free (codes "answer ") refl)
      (append_free (name_of_context (slice_get m.contexts i)) (codes " " ++ rules_text m x) (context_free m named i (slice_get m.contexts i) refl)
      (append_free (codes " ") (rules_text m x) (told_free (codes " ") refl) (rules_free m named x)))

  output_free : (σ : ℕ) → IsLineFeedFree (output_text m σ)
  unfolding output_text
  output_free σ = append_free (codes "state ") (state_text m σ) (told_free (codes "state ") refl) (state_free m named σ)

  answer_free : (a : Answer) → AllByRecursion IsLineFeedFree (answer_lines m a)
  answer_free a =
      let cert = map (line_text (atoms_of m a.context)) (certificate_lines a.cert) in (
        question_free a.context a.active,
        all_append IsLineFeedFree (map (output_text m) a.outputs) (cert ++ codes "done" ∷ []) (each_free (output_text m) output_free a.outputs)
            (all_append IsLineFeedFree cert (codes "done" ∷ []) (each_free (line_text (atoms_of m a.context)) (line_free (atoms_of m a.context) (atom_names m named a.context)) (certificate_lines a.cert)) (told_free (codes "done") refl, tt)),
      )

  pub answers_free : (as' : List Answer) → AllByRecursion IsLineFeedFree (flat_map (answer_lines m) as')
  answers_free [] = tt
  answers_free (a ∷ as') = all_append IsLineFeedFree (answer_lines m a) (flat_map (answer_lines m) as') (answer_free a) (answers_free as')
