use Rattle.std.proofs.Common.{◌≡◌, ℕ, List, [], sym, subst}
use Rattle.mcs_spelling.specs.Lines.{complete_lines, incomplete}
use Rattle.mcs_check.specs.Validity.{DifferFirst}
use Rattle.mcs_check.proofs.FindingLemmas.{valid_found, other_found}
use Rattle.mcs_check.proofs.LineEnds.{listing_whole}
use Rattle.mcs_check.proofs.checking.compared.Goals as goal

pub first_difference-requires-clause-pieces : goal.first_difference-requires-clause-pieces
first_difference-requires-clause-pieces c =
    subst (λ (text : List ℕ). incomplete text ≡ []) c.pieces.ensures (listing_whole c.requires.due.0 c.args.due.now.text c.requires.due.1)

pub returns-in-Some : goal.returns-in-Some
returns-in-Some c m bytes as' spelled enough whole =
    other_found m bytes (complete_lines c.args.listing.now) as' spelled enough c.args.due.now.text whole c.in-Some.line
    (subst (λ (text : List ℕ). DifferFirst (complete_lines c.args.listing.now) (complete_lines text) c.in-Some.line) (sym c.pieces.ensures) c.in-Some.ensures)

pub returns-in-None : goal.returns-in-None
returns-in-None c m bytes as' spelled enough whole =
    valid_found m bytes (complete_lines c.args.listing.now) as' spelled enough c.args.due.now.text whole
    (subst (λ (text : List ℕ). complete_lines c.args.listing.now ≡ complete_lines text) (sym c.pieces.ensures) c.in-None.ensures)
