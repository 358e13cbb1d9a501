use Rattle.std.proofs.Common.{◌≡◌, ℕ, ◌+◌, List, length, codes, Ok, sym, ap, ◌∙◌, subst}
use Rattle.mcs_system.specs.Plain.{System}
use Rattle.mcs_spelling.specs.Lines.{complete_lines, incomplete}
use Rattle.mcs_proof_lines.specs.Walks.{At, expect_at}
use Rattle.mcs_proof_lines.specs.Readings.{here}
use Rattle.mcs_proof_reader.specs.Listings.{listing_at}
use Rattle.mcs_proof_reader.specs.Keeping.{EachIsKept}
use Rattle.mcs_proof_reader.specs.Whole.{end_at}
use Rattle.mcs_proof_reader.proofs.WholeSteps.{no_listing, no_proof, no_end, all_right, answers_begin_at, told_fault, fault_on, answers_fault, taken_one}
use Rattle.mcs_proof_reader.proofs.report.read_kept.Goals as goal

pub returns-in_err-listing-clause-read : goal.returns-in_err-listing-clause-read
returns-in_err-listing-clause-read g c =
    let m : System = c.args.system.now in
    let bytes = c.args.bytes.now in
    let texts = c.in_ok-texts.ensures in
    fault_on m texts.valid texts.named bytes _ _ (listing_at c.new-lines.result) _ c.from_residual-in_err-listing.ensures.1 c.in_err-listing.ensures.read
    (λ k e. no_listing m texts.valid texts.named bytes k (ap listing_at (sym c.new-lines.ensures) ∙ e))

pub returns-in_err-expect-clause-read : goal.returns-in_err-expect-clause-read
returns-in_err-expect-clause-read g c =
    let m : System = c.args.system.now in
    let bytes = c.args.bytes.now in
    let texts = c.in_ok-texts.ensures in
    let ls : List (List ℕ) = complete_lines c.in_ok-listing.listing.now in
    let first : At = c.take_listing.new.lines in
    let listed : listing_at (here 0 (complete_lines bytes) (incomplete bytes)) ≡ Ok (ls, first) = ap listing_at (sym c.new-lines.ensures) ∙ c.in_ok-listing.ensures.read in
    fault_on m texts.valid texts.named bytes _ _ (expect_at (codes "proof") first) _ c.from_residual-in_err-expect.ensures.1 c.in_err-expect.ensures
    (no_proof m texts.valid texts.named bytes ls first listed)

pub returns-in_err-answers-clause-read : goal.returns-in_err-answers-clause-read
returns-in_err-answers-clause-read g c =
    let m : System = c.args.system.now in
    let bytes = c.args.bytes.now in
    let texts = c.in_ok-texts.ensures in
    let ls : List (List ℕ) = complete_lines c.in_ok-listing.listing.now in
    let first : At = c.take_listing.new.lines in
    let second : At = c.expect.new.lines in
    let listed : listing_at (here 0 (complete_lines bytes) (incomplete bytes)) ≡ Ok (ls, first) = ap listing_at (sym c.new-lines.ensures) ∙ c.in_ok-listing.ensures.read in
    answers_fault m texts.valid texts.named bytes _ ls first listed second c.in_ok-expect.ensures _ _ c.from_residual-in_err-answers.ensures.1 c.in_err-answers.ensures

pub returns-in-Ok-clause-read : goal.returns-in-Ok-clause-read
returns-in-Ok-clause-read g c =
    let m : System = c.args.system.now in
    let bytes = c.args.bytes.now in
    let texts = c.in_ok-texts.ensures in
    let ls : List (List ℕ) = complete_lines c.in_ok-listing.listing.now in
    let first : At = c.take_listing.new.lines in
    let second : At = c.expect.new.lines in
    let third : At = c.keep_answers.new.lines in
    let read = c.in_ok-answers.ensures in
    let listed : listing_at (here 0 (complete_lines bytes) (incomplete bytes)) ≡ Ok (ls, first) = ap listing_at (sym c.new-lines.ensures) ∙ c.in_ok-listing.ensures.read in
    let (spells, number, closed) = all_right m texts.valid texts.named bytes ls first listed second c.in_ok-expect.ensures read.answers third read.read c.end_of.new.lines c.in-Ok.ensures in
    let from : second.taken + 1 ≡ length ls + 2 = answers_begin_at m texts.valid texts.named bytes ls first listed second c.in_ok-expect.ensures in
    record {
      answers = read.answers;
      spelled = spells;
      kept = subst (λ (k : ℕ). EachIsKept g.K.Keep.Keeps m k read.answers c.in_ok-answers.answers.items) from read.kept;
      ends = c.number-last_line.ensures ∙ (sym (taken_one (codes "end of proof") third c.end_of.new.lines closed) ∙ number);
    }

pub returns-clause-read : goal.returns-clause-read
returns-clause-read g c =
    let m : System = c.args.system.now in
    let bytes = c.args.bytes.now in
    let texts = c.in_ok-texts.ensures in
    let ls : List (List ℕ) = complete_lines c.in_ok-listing.listing.now in
    let first : At = c.take_listing.new.lines in
    let second : At = c.expect.new.lines in
    let third : At = c.keep_answers.new.lines in
    let read = c.in_ok-answers.ensures in
    let listed : listing_at (here 0 (complete_lines bytes) (incomplete bytes)) ≡ Ok (ls, first) = ap listing_at (sym c.new-lines.ensures) ∙ c.in_ok-listing.ensures.read in
    told_fault m texts.valid texts.named bytes c.in-Err.fault (end_at third) c.in-Err.ensures (no_end m texts.valid texts.named bytes ls first listed second c.in_ok-expect.ensures read.answers third read.read)
