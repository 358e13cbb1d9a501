use Rattle.std.proofs.Common.{refl}
use Rattle.mcs_words.specs.Reading.{command_of, targets_of}
use Rattle.mcs_words.proofs.JobLemmas.{named_first}
use Rattle.mcs_words.proofs.asked.job.Goals as goal

pub returns-in_default : goal.returns-in_default
returns-in_default c fault request asks =
    let first = named_first (command_of c.args.given.now) c.args.given.now.job.now (targets_of c.args.given.now) request refl asks in
    c.in_default.ensures first.0 first.1
