use Rattle.std.proofs.Common.{◌≡◌, ℕ, length, ap, subst, arith}
use Rattle.std.proofs.lemmas.List.{length-map}
use Rattle.mcs_system.specs.Seen.{context_of}
use Rattle.mcs_proof_writer.specs.Gathered.{AreOfFirst}
use Rattle.mcs_proof_writer.proofs.GatheringLemmas.{first_more_at}
use Rattle.mcs_proof_writer.proofs.asking.all_questions.Goals as goal

pub loop-context-preserved : goal.loop-context-preserved
loop-context-preserved c = first_more_at c.args.solvers.now c.loop-context.context c.index-solvers-context.result _ _ (omega (arith, c.requires, ap length c.contexts.ensures.value, length-map c.contexts.result.now context_of)) c.index-solvers-context.is c.loop-context.invariant c.in_ok-push_asked.ensures

pub returns : goal.returns
returns c =
    let all : c.loop-context.context ≡ length c.args.system.now.contexts = omega (arith, c.loop-context-test.false, c.loop-context.auto.context-end, ap length c.contexts.ensures.value, length-map c.contexts.result.now context_of) in
    subst (λ (n : ℕ). AreOfFirst c.args.solvers.now n c.loop-context.questions.items) all c.loop-context.invariant
