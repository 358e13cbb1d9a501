-- What is found of a report that was read.
use Rattle.std.proofs.Common.{◌≡◌, ℕ, List, length, sym, ap, ◌∙◌, subst}
use Rattle.mcs_spelling.specs.Lines.{complete_lines}
use Rattle.mcs_system.specs.Plain.{System}
use Rattle.mcs_report.specs.Solutions.{IsWholeListing}
use Rattle.mcs_proof_text.specs.Answers.{Answer}
use Rattle.mcs_proof_text.specs.Lines.{text_of_lines}
use Rattle.mcs_proof_text.specs.Reports.{SpellsReport, report_lines}
use Rattle.mcs_proof_reader.proofs.TextLines.{free_lines}
use Rattle.std.specs.List.{AllByRecursion}
use Rattle.mcs_proof_text.specs.Proofs.{HasAcceptedCertificate}
use Rattle.mcs_check.specs.Validity.{IsValidReport, LacksAnswer, HasOtherListing, DifferFirst}
use Rattle.mcs_check.specs.Answers.{AreEnough, oracles_for}
use Rattle.mcs_check.specs.Relisting.{LackOne}
use Rattle.mcs_check.proofs.LineEnds.{listing_lines}
use Rattle.mcs_check.proofs.RelistingLemmas.{not_answered}

module _ (m : System) (bytes : List ℕ) (listing : List (List ℕ)) (answers : List Answer) (spelled : SpellsReport m bytes listing answers) where
  pub lack_found : (line : ℕ) → line ≡ length (report_lines m listing answers) → AllByRecursion (HasAcceptedCertificate m) answers → LackOne m (oracles_for m answers) → LacksAnswer m bytes line
  lack_found line ends right lack = record {
    listing = listing;
    answers = answers;
    spelled = spelled;
    right = right;
    context = lack.context;
    active = lack.active;
    needed = lack.needed;
    unanswered = not_answered m answers lack;
    line_is = ends;
  }

  module _ (enough : AreEnough m answers) (due : List ℕ) (whole : IsWholeListing m due) where
    pub valid_found : listing ≡ complete_lines due → IsValidReport m bytes
    valid_found same = record {
      listing = listing;
      answers = answers;
      spelled = spelled;
      right = enough.right;
      complete = enough.complete;
      same = subst (IsWholeListing m) (sym (ap text_of_lines same ∙ listing_lines m due whole)) whole;
    }

    pub other_found : (line : ℕ) → DifferFirst (listing) (complete_lines due) line → HasOtherListing m bytes line
    other_found line differ = record {
      listing = listing;
      answers = answers;
      spelled = spelled;
      right = enough.right;
      complete = enough.complete;
      due = complete_lines due;
      free = free_lines due;
      whole = subst (IsWholeListing m) (sym (listing_lines m due whole)) whole;
      differ = differ;
    }
