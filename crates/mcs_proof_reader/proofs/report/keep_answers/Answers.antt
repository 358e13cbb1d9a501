use Rattle.std.proofs.Common.{◌+◌, ◌-◌, ℕ, Some, length, refl, sym, subst, arith}
use Rattle.mcs_proof_reader.proofs.AnswerPlaces.{IsKeptSoFar, kept_first, kept_next}
use Rattle.mcs_proof_reader.proofs.StepLemmas.{answers_end, answers_failed}
use Rattle.mcs_proof_reader.proofs.report.keep_answers.Goals as goal

pub loop-alloc-preserved : goal.loop-alloc-preserved
loop-alloc-preserved g c =
    let next = c.in-Ok.ensures.read in
    subst (λ (q : ℕ × ℕ). IsKeptSoFar g.K.Keep.Keeps c.args.system.now c.args.lines.now c.push.new.self.items (Some q) c.keep_next.new.lines) next.asked
    (kept_next g.K.Keep.Keeps c.args.system.now c.requires.valid c.requires.named c.args.lines.now c.loop-alloc.lines c.keep_next.new.lines c.loop-alloc.kept.items c.push.new.self.items c.in-Ok.item c.loop-alloc.last next.answer
    (c.loop-alloc.lines.taken + 1) c.loop-alloc.invariant (sym c.loop-alloc-test.ensures) next.read c.in-Ok.ensures.shorter c.in_ok-push-in-Ok.ensures.items refl next.keeps_it)

pub returns-in-Err : goal.returns-in-Err
returns-in-Err g c = λ n enough.
    let known = c.loop-alloc.invariant in
    let few = known.few in
    answers_failed c.args.system.now known.answers (n - length known.answers) c.loop-alloc.last c.loop-alloc.lines c.in-Err.fault _ (sym c.loop-alloc-test.ensures) (omega (arith, few, enough)) c.in-Err.ensures.read (known.read n enough)

pub returns : goal.returns
returns g c =
    let known = c.loop-alloc.invariant in
    record {
      answers = known.answers;
      read = λ n enough. answers_end c.args.system.now known.answers (n - length known.answers) c.loop-alloc.last c.loop-alloc.lines _ (sym c.loop-alloc-test.ensures) (known.read n enough);
      kept = known.kept;
    }

pub loop-alloc-init : goal.loop-alloc-init
loop-alloc-init g c = kept_first g.K.Keep.Keeps c.args.system.now c.new-kept.result.items c.args.lines.now c.new-kept.ensures.items
