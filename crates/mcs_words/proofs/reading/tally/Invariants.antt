use Rattle.std.proofs.Common.{◌≡◌, ◌≤◌, drop, option_map}
use Rattle.mcs_words.specs.Reading.{texts_of, counted_command, tally_of, total_of, read}
use Rattle.mcs_words.specs.declared.reading.Place.TheVariants.{Open}
use Rattle.mcs_words.proofs.reading.tally.Given as goal

-- what is counted, and what is left to read, are what all the words give
abbrev pub invariant-loop-word : goal.invariant-loop-word
invariant-loop-word l = record {
  read : option_map (counted_command l.tally) (read (texts_of (drop l.word-index l.words)) l.place) ≡ option_map tally_of (read (texts_of l.words) Open);
  few : total_of l.tally ≤ l.word-index;
}
