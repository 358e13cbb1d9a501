use Rattle.std.proofs.Common.{◌≤◌, length, arith}
use Rattle.std.proofs.lemmas.List.{length-map}
use Rattle.mcs_system.specs.declared.knowledge.Context as code_context
use Rattle.mcs_account.specs.Account.{greatest_number}
use Rattle.mcs_account.specs.Images.{names_of}
use Rattle.mcs_language.proofs.RuleEnds.{own-ready, first-ready}
use Rattle.mcs_language.proofs.rules.RuleReader.new.Goals as goal

pub invariant_of-result : goal.invariant_of-result
invariant_of-result c =
    let few : length (names_of c.args.contexts.now) ≤ greatest_number = omega (arith, length-map c.args.contexts.now (λ (d : code_context.Context). d.name), c.in_ok-reader.ensures.few) in
    own-ready (names_of c.args.contexts.now) c.in_ok-reader.reader (first-ready (names_of c.args.contexts.now) c.in_ok-reader.reader c.in_ok-reader.ensures.read few)

pub returns : goal.returns
returns c =
    let few : length (names_of c.args.contexts.now) ≤ greatest_number = omega (arith, length-map c.args.contexts.now (λ (d : code_context.Context). d.name), c.in_ok-reader.ensures.few) in
    (first-ready (names_of c.args.contexts.now) c.in_ok-reader.reader c.in_ok-reader.ensures.read few).names_are
