use Rattle.mcs_search.proofs.PartLemmas.{gathered-more, over-whole}
use Rattle.mcs_search.proofs.part.take_in.Goals as goal

pub returns : goal.returns
returns c = gathered-more c.args.whole.now c.args.part.now.state c.add.new.state c.args.part.now.numbers.items c.push.new.self.items c.args.index c.row.result.now c.requires.gathered c.add.ensures.kept c.in_ok-add.ensures.ok c.row.ensures c.in_ok-push.ensures.items

pub add-requires-clause-clause : goal.add-requires-clause-clause
add-requires-clause-clause c = over-whole c.args.whole.now c.args.part.now.state c.args.part.now.numbers.items c.args.index c.row.result.now c.requires.gathered.taken c.row.ensures
