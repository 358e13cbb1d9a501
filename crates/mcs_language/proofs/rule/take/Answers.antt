use Rattle.std.proofs.Common.{Option, subst, refl, arith}
use Rattle.mcs_grammar.specs.Entries.{Token}
use Rattle.mcs_account.specs.declared.reader.Taken as code_taken
use Rattle.mcs_account.specs.Taken.{IsTokenTaken}
use Rattle.mcs_faults.specs.declared.fault.Fault as code_fault
use Rattle.mcs_faults.specs.Told.{IsLowestTold}
use Rattle.mcs_language.proofs.RuleSteps.{rule-untaken, rule_here, rule-said, rule-context, rule-number, rule-fault, rule-more}
use Rattle.mcs_language.proofs.rule.take.Goals as goal

pub returns-in_default : goal.returns-in_default
returns-in_default c names ts h =
    let untaken = subst (λ (o : Option code_taken.Taken). IsTokenTaken o c.args.reader.now c.take.new.self c.args.token.now) c.in_default.is c.in_ok-taken.ensures in
    rule-untaken names c.args.reader.now ts c.args.token.now h untaken.0 untaken.1 untaken.2

pub returns-in-Some-told_fault : goal.returns-in-Some-told_fault
returns-in-Some-told_fault c names ts h =
    let t : Token = c.args.token.now in
    let old = c.args.reader.now in
    let w = subst (λ (o : Option code_taken.Taken). IsTokenTaken o old c.take.new.self t) c.in-Some.is c.in_ok-taken.ensures in
    let here = rule_here names old ts t h c.take.new.self c.in-Some.taken w.0 w.1.0 w.1.1 in
    let is = rule-context names old ts t h c.take.new.self c.in-Some.taken w.0 w.1.0 w.1.1 c.number_of-number.result c.len.result c.number_of-number.ensures (omega (arith, c.len.ensures, c.args.reader.now.account.contexts.ok.0)) in
    rule-fault names old ts t h c.take.new.self c.in-Some.taken w.0 w.1.0 w.1.1 c.in-Some-told_fault.fault
    (subst (λ (o : Option code_fault.Fault). IsLowestTold o names here) c.in-Some-told_fault.is (c.told_fault.ensures names here _ refl (rule-said names old ts t h c.take.new.self c.in-Some.taken w.0 w.1.0 w.1.1) (λ _. is)))

pub returns : goal.returns
returns c names ts h =
    let t : Token = c.args.token.now in
    let old = c.args.reader.now in
    let w = subst (λ (o : Option code_taken.Taken). IsTokenTaken o old c.take.new.self t) c.in-Some.is c.in_ok-taken.ensures in
    let here = rule_here names old ts t h c.take.new.self c.in-Some.taken w.0 w.1.0 w.1.1 in
    let is = rule-context names old ts t h c.take.new.self c.in-Some.taken w.0 w.1.0 w.1.1 c.number_of-number.result c.len.result c.number_of-number.ensures (omega (arith, c.len.ensures, c.args.reader.now.account.contexts.ok.0)) in
    let none = subst (λ (o : Option code_fault.Fault). IsLowestTold o names here) c.in_default-told_fault.is (c.told_fault.ensures names here _ refl (rule-said names old ts t h c.take.new.self c.in-Some.taken w.0 w.1.0 w.1.1) (λ _. is)) in
    rule-more names old ts t h c.take.new.self c.in-Some.taken w.0 w.1.0 w.1.1 none c.number_of-number.result (rule-number names old ts t h c.take.new.self c.in-Some.taken w.0 w.1.0 w.1.1 c.number_of-number.result c.number_of-number.ensures)
    c.pass.new.self c.in_ok-pass.ensures.reader c.in_ok-pass.ensures.account c.in_ok-pass.ensures.place c.in_ok-pass.ensures.context
