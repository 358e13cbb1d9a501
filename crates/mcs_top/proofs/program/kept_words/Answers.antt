use Rattle.std.proofs.Common.{refl}
use Rattle.std.specs.Vec.Iter.{into_iter_items}
use Rattle.std.proofs.lemmas.Iterator.{items_from_collect}
use Rattle.std.proofs.lemmas.Iterator.Adapters.{YieldsList-from_vec}
use Rattle.mcs_top.proofs.program.kept_words.Goals as goal

pub returns-in-Ok-clause-kept : goal.returns-in-Ok-clause-kept
returns-in-Ok-clause-kept c = rw c.in-Ok.is (items_from_collect c.collect.result c.collect.ensures.ran (YieldsList-from_vec {s = c.in-Ok.words} (into_iter_items c.in-Ok.words) refl c.in-Ok.words.rest.ok.0))
