use Rattle.std.proofs.Common.{◌≡◌, ap, sym, subst, ◌∙◌, Some, option_map, Bor}
use Rattle.clap.specs.Words.{App, HasMatchesOf, takes}
use Rattle.mcs_words.specs.Commands.{Word, Command}
use Rattle.mcs_words.specs.Reading.{texts_of}
use Rattle.mcs_words.specs.Line.{line}
use Rattle.mcs_words.proofs.RowLemmas.{value_at, job, file, report, budget, workers}
use Rattle.mcs_words.proofs.WalkLemmas.{taken, text_is, flag_told, command_is, job_there, file_there}
use Rattle.mcs_words.proofs.given.given_by.Goals as goal

pub returns-in-Err : goal.returns-in-Err
returns-in-Err c =
    let known = taken (texts_of c.args.words.now) c.requires.0 c.requires.1 c.requires.2 in
    c.fault_of-fault.ensures (c.in-Err.ensures.passes (ap (λ (a : App). takes a (texts_of c.args.words.now)) c.in_ok-line.ensures ∙ known.takes))

pub unreachable-requires : goal.unreachable-requires
unreachable-requires c =
    let words = texts_of c.args.words.now in
    let known = taken words c.requires.0 c.requires.1 c.requires.2 in
    let matches : HasMatchesOf line words c.in-Ok.matches = subst (λ (a : App). HasMatchesOf a words c.in-Ok.matches) c.in_ok-line.ensures c.in-Ok.ensures.matches in
    job_there c.requires.0 c.get_str.result c.requires.2 (text_is job words c.requires.0 c.in-Ok.matches c.get_str.result tt matches known c.get_str.ensures) c.in_default.is

pub unreachable-requires-in_default-get_str : goal.unreachable-requires-in_default-get_str
unreachable-requires-in_default-get_str c =
    let words = texts_of c.args.words.now in
    let known = taken words c.requires.0 c.requires.1 c.requires.2 in
    let matches : HasMatchesOf line words c.in-Ok.matches = subst (λ (a : App). HasMatchesOf a words c.in-Ok.matches) c.in_ok-line.ensures c.in-Ok.ensures.matches in
    file_there c.requires.0 c.get_str-2.result c.requires.2 (text_is file words c.requires.0 c.in-Ok.matches c.get_str-2.result tt matches known c.get_str-2.ensures) c.in_default-get_str.is

pub returns : goal.returns
returns c =
    let words = texts_of c.args.words.now in
    let known = taken words c.requires.0 c.requires.1 c.requires.2 in
    let matches : HasMatchesOf line words c.in-Ok.matches = subst (λ (a : App). HasMatchesOf a words c.in-Ok.matches) c.in_ok-line.ensures c.in-Ok.ensures.matches in
    let job_is : Some c.in-Some.job.now ≡ value_at job c.requires.0 = sym (ap (option_map (λ (v : Bor Word). v.now)) c.in-Some.is) ∙ text_is job words c.requires.0 c.in-Ok.matches c.get_str.result tt matches known c.get_str.ensures in
    let file_is : Some c.in-Some-get_str.file.now ≡ value_at file c.requires.0 =
    sym (ap (option_map (λ (v : Bor Word). v.now)) c.in-Some-get_str.is) ∙ text_is file words c.requires.0 c.in-Ok.matches c.get_str-2.result tt matches known c.get_str-2.ensures in
    c.requires.1 ∙ ap (λ (d : Command). Some d) (command_is c.requires.0 c.in-Some.job.now c.in-Some-get_str.file.now c.get_str-3.result c.get_str-4.result c.get_str-5.result c.get_flag.result c.requires.2 job_is file_is
    (text_is report words c.requires.0 c.in-Ok.matches c.get_str-3.result tt matches known c.get_str-3.ensures)
    (text_is budget words c.requires.0 c.in-Ok.matches c.get_str-4.result tt matches known c.get_str-4.ensures)
    (text_is workers words c.requires.0 c.in-Ok.matches c.get_str-5.result tt matches known c.get_str-5.ensures)
    (flag_told words c.requires.0 c.in-Ok.matches c.get_flag.result c.requires.2 matches known c.get_flag.ensures.value c.get_flag.ensures.other))
