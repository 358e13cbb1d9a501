use Rattle.std.proofs.Common.{arith, sym}
use Rattle.mcs_words.specs.Reading.{read, texts_of}
use Rattle.mcs_words.specs.declared.reading.Place.TheVariants.{Open}
use Rattle.mcs_words.proofs.ReadingLemmas.{counted_none, next_read, stop_read, end_read, ended}
use Rattle.mcs_words.proofs.reading.tally.Goals as goal

pub returns-in-None : goal.returns-in-None
returns-in-None c = sym (stop_read _ c.loop-word.tally c.args.words.now c.loop-word.word-index c.loop-word.place c.loop-word.invariant.read c.word-item.result c.as_str.result.now
    c.loop-word-test.true c.word-item.is c.as_str.ensures.value (λ rest. rw c.in-None.is at (c.take.ensures.read rest)))

pub loop-word-preserved : goal.loop-word-preserved
loop-word-preserved c = record {
  read = next_read _ c.loop-word.tally c.args.words.now c.loop-word.word-index c.loop-word.place c.loop-word.invariant.read c.in-Some.more c.in-Some.next c.word-item.result c.as_str.result.now
      c.loop-word-test.true c.word-item.is c.as_str.ensures.value (λ rest. rw c.in-Some.is at (c.take.ensures.read rest));
  few = let few = rw c.in-Some.is at c.take.ensures.few in omega (arith, c.loop-word.invariant.few, few);
}

pub returns-in-Open : goal.returns-in-Open
returns-in-Open c =
    let past = end_read _ c.loop-word.tally c.args.words.now c.loop-word.word-index c.loop-word.place c.loop-word.invariant.read (omega arith) in
    sym (ended _ c.loop-word.tally c.loop-word.place c.in-Open.is past)

pub returns-in-Value : goal.returns-in-Value
returns-in-Value c =
    let past = end_read _ c.loop-word.tally c.args.words.now c.loop-word.word-index c.loop-word.place c.loop-word.invariant.read (omega arith) in
    sym (rw c.in-Value.is at past)

pub loop-word-init : goal.loop-word-init
loop-word-init c = record {
  read = rw c.new-tally.ensures (counted_none (read (texts_of c.args.words.now) Open));
  few = rw c.new-tally.ensures (omega arith);
}
