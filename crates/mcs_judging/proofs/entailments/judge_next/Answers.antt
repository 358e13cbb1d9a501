use Rattle.std.proofs.Common.{map, sym, ◌∙◌, refl}
use Rattle.mcs_system.specs.Seen.{formula_of}
use Rattle.mcs_cnf.proofs.GrowingLemmas.{room_known}
use Rattle.mcs_judging.proofs.Readings.{told_err, either_yes, either_no, either_failed}
use Rattle.mcs_judging.proofs.SoFar.{told_yes, told_no}
use Rattle.mcs_judging.proofs.entailments.judge_next.Goals as goal

pub judge_yes-requires-clause-room : goal.judge_yes-requires-clause-room
judge_yes-requires-clause-room c = room_known c.args.named.now.asked.now.atoms.now c.args.known.now (map (λ f. formula_of f.now) c.args.claim.now.premises.now) c.requires.made

pub returns-in_err-shown-clause-exact : goal.returns-in_err-shown-clause-exact
returns-in_err-shown-clause-exact c =
    let fs = map (λ f. formula_of f.now) c.args.claim.now.premises.now in
    told_err _ _ _ _ _ c.from_residual.ensures.1 (either_failed c.args.named.now.texts.now c.args.lines.now _ _ (either_yes c.args.named.now.texts.now c.args.lines.now (sym c.is_next.ensures ∙ c.if-is_next.true)) (c.in_err-shown.ensures.exact fs c.requires.made))

pub returns-then-is_next-clause-exact : goal.returns-then-is_next-clause-exact
returns-then-is_next-clause-exact c =
    let fs = map (λ f. formula_of f.now) c.args.claim.now.premises.now in
    told_yes c.args.named.now.asked.now.atoms.now fs (formula_of c.args.claim.now.goal.now) c.args.claim.now.index c.args.told _ c.args.lines.now c.judge_yes.new.lines c.in_ok-shown.shown c.both.ensures c.requires.model _ (either_yes c.args.named.now.texts.now c.args.lines.now (sym c.is_next.ensures ∙ c.if-is_next.true))
    c.with.ensures (c.in_ok-shown.ensures.exact fs c.requires.made)

pub returns-in_err-denied-clause-exact : goal.returns-in_err-denied-clause-exact
returns-in_err-denied-clause-exact c =
    told_err _ _ _ _ _ c.from_residual-in_err-denied.ensures.1 (either_failed c.args.named.now.texts.now c.args.lines.now _ _ (either_no c.args.named.now.texts.now c.args.lines.now (sym c.is_next.ensures ∙ c.if-is_next.false)) c.in_err-denied.ensures.exact)

pub returns-clause-exact : goal.returns-clause-exact
returns-clause-exact c =
    told_no c.args.named.now.asked.now.atoms.now (map (λ f. formula_of f.now) c.args.claim.now.premises.now) (formula_of c.args.claim.now.goal.now) c.args.claim.now.index c.args.told _ c.args.lines.now c.judge_no.new.lines c.in_ok-denied.denied c.both-2.ensures c.in_ok-denied.ensures.known c.args.named.now.texts.now _
    (either_no c.args.named.now.texts.now c.args.lines.now (sym c.is_next.ensures ∙ c.if-is_next.false)) refl c.in_ok-denied.ensures.exact
