use Rattle.mcs_proof_reader.proofs.TextLines.{rest_short, front_lines, front_whole}
use Rattle.mcs_proof_reader.proofs.listing.front_of.Goals as goal

pub slice_bounds-result-count : goal.slice_bounds-result-count
slice_bounds-result-count c = rest_short c.requires.0 c.args.bytes.now c.args.rest.now c.requires.1

pub returns-clause-lines : goal.returns-clause-lines
returns-clause-lines c front is = front_lines front c.args.bytes.now c.args.rest.now is

pub returns-clause-whole : goal.returns-clause-whole
returns-clause-whole c = front_whole c.requires.0 c.args.bytes.now c.args.rest.now c.requires.1
