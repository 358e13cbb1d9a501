use Rattle.std.proofs.Common.{drop, length}
use Rattle.std.proofs.lemmas.Bool.Decides.{Decides-eqb}
use Rattle.std.proofs.lemmas.Slice.Eq.{starts_is}
use Rattle.mcs_words.proofs.KindLemmas.{front_is}
use Rattle.mcs_words.proofs.kind.has_front.Goals as goal

pub returns : goal.returns
returns c =
    let tests = starts_is Decides-eqb c.as_bytes.result.now c.as_bytes-2.result.now c.starts_with.result c.starts_with.ensures.value in
    let found = front_is c.as_bytes-2.result.now c.as_bytes.result.now (drop (length c.as_bytes-2.result.now) c.as_bytes.result.now) c.starts_with.result tests.0 tests.1 in
    cc (found, c.as_bytes.ensures.value, c.as_bytes-2.ensures.value)
