use Rattle.std.proofs.Common.{length, refl}
use Rattle.std.proofs.lemmas.Option.{slice_get_read}
use Rattle.mcs_check.proofs.SortedAnswers.{put_sorted}
use Rattle.mcs_check.proofs.oracles.put.Goals as goal

pub returns : goal.returns
returns c = λ n before sorted.
    let lists = c.args.lists.now.items in
    let was = slice_get_read lists (length lists) c.args.answer.context c.index_mut.result.now refl c.requires c.index_mut.ensures.value in
    put_sorted n before lists c.index_mut.result.now c.push.new.self _ c.args.answer was c.in_ok-push.ensures.items refl sorted
