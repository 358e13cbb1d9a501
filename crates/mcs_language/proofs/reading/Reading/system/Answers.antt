use Rattle.std.proofs.Common.{map, length, refl, sym, ap, subst, ◌∙◌, true≢false}
use Rattle.mcs_system.specs.Seen.{bridge_of, context_of}
use Rattle.mcs_grammar.specs.Texts.{Spells}
use Rattle.mcs_account.specs.Account.{Account}
use Rattle.mcs_language.proofs.ToldLemmas.{told-end}
use Rattle.mcs_language.proofs.EndLemmas.{is-valid, spells-system}
use Rattle.mcs_language.proofs.reading.Reading.system.Goals as goal

pub returns-then-not-can_end-clause-fault : goal.returns-then-not-can_end-clause-fault
returns-then-not-can_end-clause-fault c =
    let read = c.requires in
    told-end c.args.bytes.now read.spans c.args.self c.at.result (length c.args.bytes.now) read.tokens read.all (λ xs r. absurd (true≢false (sym (c.can_end.ensures.1 (xs, r)) ∙ c.if-not-can_end.true))) refl c.at.ensures

pub of_valid-requires : goal.of_valid-requires
of_valid-requires c =
    let read = c.requires in
    let ends = c.can_end.ensures.0 c.if-not-can_end.false in
    let account = read.all.reader.reader.account in
    is-valid c.args.bytes.now read.spans c.args.self read.tokens read.all ends.0 ends.1 c.into_parts-contexts.result.0.items c.into_parts-contexts.result.1.items
    (ap (λ p. map context_of p.0.items) c.into_parts-contexts.ensures ∙ ap (λ (a : Account). a.contexts) account) (ap (λ p. map bridge_of p.1.items) c.into_parts-contexts.ensures ∙ ap (λ (a : Account). a.bridges) account)

pub returns-clause-system : goal.returns-clause-system
returns-clause-system c =
    let read = c.requires in
    let ends = c.can_end.ensures.0 c.if-not-can_end.false in
    let account = read.all.reader.reader.account in
    subst (Spells c.args.bytes.now) (sym c.in_ok-system.ensures)
    (spells-system c.args.bytes.now read.spans c.args.self read.tokens read.all ends.0 ends.1 c.into_parts-contexts.result.0.items c.into_parts-contexts.result.1.items
    (ap (λ p. map context_of p.0.items) c.into_parts-contexts.ensures ∙ ap (λ (a : Account). a.contexts) account) (ap (λ p. map bridge_of p.1.items) c.into_parts-contexts.ensures ∙ ap (λ (a : Account). a.bridges) account))
