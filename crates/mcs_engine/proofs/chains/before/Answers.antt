use Rattle.std.proofs.Common.{arith, Ok, Err}
use Rattle.std.proofs.lemmas.List.Sorted.{searched}
use Rattle.mcs_engine.proofs.ChainLemmas.{cut-found, spaced-rise}
use Rattle.mcs_engine.proofs.chains.before.Goals as goal

pub returns-in-Ok : goal.returns-in-Ok
returns-in-Ok c =
    let xs = c.args.indices.now in
    let (within, is) = searched xs c.args.index (Ok c.in-Ok.place) c.in-Ok.ensures.position (spaced-rise xs c.requires) in
    cut-found xs c.in-Ok.place c.args.index c.requires within is

pub returns-in-Err : goal.returns-in-Err
returns-in-Err c =
    let xs = c.args.indices.now in
    let (within, before, after) = searched xs c.args.index (Err c.in-Err.place) c.in-Err.ensures.position (spaced-rise xs c.requires) in
    record {
      within = within;
      before = before;
      after = λ j low less. let h = after j low less in omega arith;
    }
