use Rattle.std.proofs.Common.{◌≡◌, ℕ, List, ◌++◌, Ok, sym, ap, ◌∙◌}
use Rattle.mcs_spelling.specs.Lines.{complete_lines, incomplete}
use Rattle.mcs_proof_lines.specs.Walks.{At, Reading}
use Rattle.mcs_proof_reader.specs.Listings.{listing_at, IsFrontOf}
use Rattle.mcs_proof_reader.proofs.ReportReadings.{reads_listing}
use Rattle.mcs_proof_reader.proofs.listing.take_listing.Goals as goal

-- the lines that were passed precede those that are left
passed : (old new : At) (listing : List (List ℕ)) (bytes rest : List ℕ) → listing_at old ≡ Ok (listing, new) → complete_lines bytes ≡ old.rest → incomplete bytes ≡ old.tail
    → complete_lines rest ≡ new.rest → incomplete rest ≡ new.tail → IsFrontOf listing bytes rest
passed old new listing bytes rest e lines tail lines' tail' =
    let read = reads_listing.sound old new listing e in
    record { lines = lines ∙ read.rest ∙ ap (λ (ls : List (List ℕ)). listing ++ ls) (sym lines'); tail = tail ∙ sym read.tail ∙ sym tail' }

pub front_of-requires : goal.front_of-requires
front_of-requires c =
    let (listing, e) = c.in_ok-pass_listing.ensures in
    (listing, passed c.args.lines.now c.pass_listing.new.lines listing c.left-bytes.result.now c.left.result.now e c.left-bytes.ensures.lines c.left-bytes.ensures.tail c.left.ensures.lines c.left.ensures.tail)

pub returns-clause-read : goal.returns-clause-read
returns-clause-read c =
    let (listing, e) = c.in_ok-pass_listing.ensures in
    let same : complete_lines c.front_of.result.now ≡ listing =
    c.front_of.ensures.lines listing (passed c.args.lines.now c.pass_listing.new.lines listing c.left-bytes.result.now c.left.result.now e c.left-bytes.ensures.lines c.left-bytes.ensures.tail c.left.ensures.lines c.left.ensures.tail) in
    e ∙ ap (λ (ls : List (List ℕ)). (let r : Reading (List (List ℕ)) = Ok (ls, c.pass_listing.new.lines) in r)) (sym same)
