use Rattle.std.proofs.Common.{◌≡◌, ℕ, ◌+◌, List, length, IsTrue, sym, subst}
use Rattle.std.specs.Arc.{arc_value}
use Rattle.std.specs.List.{AllByRecursion}
use Rattle.mcs_spelling.specs.Lines.{complete_lines}
use Rattle.mcs_system.specs.Plain.{System}
use Rattle.mcs_states.specs.Oracles.{OracleState}
use Rattle.mcs_check.specs.Answers.{AreEnough, oracles_for}
use Rattle.mcs_check.specs.Findings.{IsReportFinding}
use Rattle.mcs_check.specs.Judging.{IsFirstWrong}
use Rattle.mcs_check.specs.declared.finding.Finding.{Finding}
use Rattle.mcs_check.specs.declared.judging.Judged as code
use Rattle.mcs_check.specs.Relisting.{AreWholeOracles, HoldAll, LackOne}
use Rattle.mcs_check.proofs.AnswerLines.{all_right, wrong_found}
use Rattle.mcs_check.proofs.FindingLemmas.{lack_found}
use Rattle.mcs_check.proofs.RelistingLemmas.{all_answered, own_oracles}
use Rattle.mcs_check.proofs.checking.checked_by.Goals as goal

pub returns-in-Some : goal.returns-in-Some
returns-in-Some c bytes read =
    let found = wrong_found (arc_value c.args.system) bytes (complete_lines c.args.report.listing.now) c.args.report.answers.items c.args.report.last_line c.in-Some.line read
    (subst (λ (js : List code.Judged). IsFirstWrong js c.in-Some.line) c.deref.ensures.value c.in-Some.ensures) in
    record { found = found; holds = tt }

pub oracles_of-requires : goal.oracles_of-requires
oracles_of-requires c =
    let read = c.requires.judged.1 in
    let n = length (complete_lines c.args.report.listing.now) + 2 in
    record {
      first_line = n;
      answers = read.answers;
      stand_for = read.kept;
      right = all_right (arc_value c.args.system) n read.answers c.args.report.answers.items read.kept (subst (AllByRecursion (λ (j : code.Judged). IsTrue j.is_right)) c.deref.ensures.value c.in_default.ensures);
      ascending = read.spelled.report.ascending;
    }

pub listing_by-requires-clause-own : goal.listing_by-requires-clause-own
listing_by-requires-clause-own c = let read = c.requires.judged.1 in own_oracles (arc_value c.args.system) read.answers c.in_ok-oracles.oracles.items (c.in_ok-oracles.ensures.oracles _ read.answers read.kept)

pub returns-in_default-2 : goal.returns-in_default-2
returns-in_default-2 c bytes read =
    let m : System = arc_value c.args.system in
    let ls : List (List ℕ) = complete_lines c.args.report.listing.now in
    let right = all_right m (length ls + 2) read.answers c.args.report.answers.items read.kept (subst (AllByRecursion (λ (j : code.Judged). IsTrue j.is_right)) c.deref.ensures.value c.in_default.ensures) in
    let same : c.in_ok-oracles.oracles.items ≡ oracles_for m read.answers = c.in_ok-oracles.ensures.oracles _ read.answers read.kept in
    let found = lack_found m bytes ls read.answers read.spelled c.args.report.last_line read.ends right (subst (λ (os : List OracleState). LackOne m os) same (rw c.in_default-2.is at c.in_ok-listed.ensures)) in
    record { found = found; holds = tt }

pub compared-requires-clause-due : goal.compared-requires-clause-due
compared-requires-clause-due c =
    let told = rw c.in-Some-2.is at c.in_ok-listed.ensures in
    (arc_value c.args.system, told.whole)

pub returns-in-Valid : goal.returns-in-Valid
returns-in-Valid c bytes read =
    let m : System = arc_value c.args.system in
    let ls : List (List ℕ) = complete_lines c.args.report.listing.now in
    let right = all_right m (length ls + 2) read.answers c.args.report.answers.items read.kept (subst (AllByRecursion (λ (j : code.Judged). IsTrue j.is_right)) c.deref.ensures.value c.in_default.ensures) in
    let same : c.in_ok-oracles.oracles.items ≡ oracles_for m read.answers = c.in_ok-oracles.ensures.oracles _ read.answers read.kept in
    let told = rw c.in-Some-2.is at c.in_ok-listed.ensures in
    let enough : AreEnough m read.answers = record { right = right; complete = all_answered m read.answers (subst (λ (os : List OracleState). HoldAll m os) same told.hold) } in
    record {
      found = subst (λ (f : Finding). IsReportFinding m bytes f) c.in-Valid.is (c.compared.ensures m bytes read.answers read.spelled enough told.whole);
      holds = record {
        whole = subst (λ (os : List OracleState). AreWholeOracles m os) (sym told.same) (record { own = own_oracles m read.answers c.in_ok-oracles.oracles.items same; hold = told.hold });
        right = told.right;
      };
    }

pub returns : goal.returns
returns c bytes read =
    let m : System = arc_value c.args.system in
    let ls : List (List ℕ) = complete_lines c.args.report.listing.now in
    let right = all_right m (length ls + 2) read.answers c.args.report.answers.items read.kept (subst (AllByRecursion (λ (j : code.Judged). IsTrue j.is_right)) c.deref.ensures.value c.in_default.ensures) in
    let same : c.in_ok-oracles.oracles.items ≡ oracles_for m read.answers = c.in_ok-oracles.ensures.oracles _ read.answers read.kept in
    let told = rw c.in-Some-2.is at c.in_ok-listed.ensures in
    let enough : AreEnough m read.answers = record { right = right; complete = all_answered m read.answers (subst (λ (os : List OracleState). HoldAll m os) same told.hold) } in
    record {
      found = subst (λ (f : Finding). IsReportFinding m bytes f) c.in-Fails.is (c.compared.ensures m bytes read.answers read.spelled enough told.whole);
      holds = tt;
    }
