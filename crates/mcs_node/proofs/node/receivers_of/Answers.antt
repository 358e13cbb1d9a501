use Rattle.std.proofs.Common.{◌≡◌, ℕ, ◌+◌, ◌<◌, List, length, ap, sym, subst, ◌∙◌, inl, inr, arith}
use Rattle.std.proofs.lemmas.List.{length-map}
use Rattle.mcs_system.specs.Plain.{System}
use Rattle.mcs_system.specs.Seen.{context_of}
use Rattle.mcs_base.proofs.Among.{known_more, known_same}
use Rattle.mcs_base.proofs.Ascending.{ascending_push}
use Rattle.mcs_node.specs.Rounds.{Supplies}
use Rattle.mcs_node.proofs.node.receivers_of.Goals as goal
use Rattle.mcs_node.proofs.node.receivers_of.Goals.{then-is_supplied+in_ok-push, else-is_supplied}

pub loop-other-preserved : goal.loop-other-preserved
loop-other-preserved c =
    let IsReceiver : ℕ → Type 0 = λ j. Supplies c.args.plan.now c.args.context j in
    let known = c.loop-other.invariant.known in
    elim c.if-is_supplied.branch [
      | then-is_supplied+in_ok-push w ↦ rw (w.receivers-is, w.in_ok-push.ensures.items) (record {
        known = known_more IsReceiver c.loop-other.receivers.items c.loop-other.other known (c.is_supplied.ensures.0 w.if-is_supplied.true);
        ascending = ascending_push (λ (a b : ℕ). a < b) c.loop-other.receivers.items c.loop-other.other c.loop-other.invariant.ascending (λ x h. ((known x).0 h).0);
      })
      | else-is_supplied w ↦ rw w.receivers-is (record {
        known = known_same IsReceiver c.loop-other.receivers.items c.loop-other.other known (λ s. let t = c.is_supplied.ensures.1 s in let f = w.if-is_supplied.false in absurd (Rattle.std.proofs.Common.true≢false (sym t ∙ f)));
        ascending = c.loop-other.invariant.ascending;
      })
    ]

pub returns : goal.returns
returns c =
    let known = c.loop-other.invariant.known in record {
      exactly = λ j. (
        λ h. ((known j).0 h).1,
        λ s. (known j).1 (let (order, ordered, low, among) = s in let f = c.loop-other-test.false in omega (arith, low, f, ap length c.contexts.ensures.value, length-map c.contexts.result.now context_of, ap (λ (m : System). length m.contexts) c.system.ensures), s),
      );
      ascending = c.loop-other.invariant.ascending;
    }
