use Rattle.std.proofs.Common.{◌∙◌, inl, inr, sym, ap, true≢false, arith}
use Rattle.std.proofs.lemmas.Grind.{common_steps}
use Rattle.mcs_sets.specs.Sets.{has}
use Rattle.mcs_sets.proofs.SetLemmas.{has-empty}
use Rattle.mcs_transversal.proofs.CriticalLemmas.{critical-more}
use Rattle.mcs_transversal.proofs.critical_edges.is_critical.Goals as goal

pub loop-edge-init : goal.loop-edge-init
loop-edge-init c k = (λ h. inr h, λ either. elim either [ inl is ↦ absurd (true≢false (sym is ∙ ap (λ s. has s k) c.empty-marks.ensures ∙ has-empty k)) | inr h ↦ h ])

pub loop-edge-preserved : goal.loop-edge-preserved
loop-edge-preserved c k =
    let before = c.loop-edge.invariant k in
    let more = critical-more c.args.edges.now c.args.t k c.loop-edge.edge-index c.edge-item.result c.loop-edge-test.true c.edge-item.is in
    let now = c.with_critical-marks.ensures k in (
      λ h. elim (before.0 h) [ inl is ↦ inl (now.1 (inl is)) | inr rest ↦ elim (more.0 rest) [ inl alone ↦ inl (now.1 (inr alone)) | inr later ↦ inr later ] ],
      λ either. before.1 (elim either [ inl is ↦ elim (now.0 is) [ inl is' ↦ inl is' | inr alone ↦ inr (more.1 (inl alone)) ] | inr later ↦ inr (more.1 (inr later)) ]),
    )

pub returns : goal.returns
returns c = (λ yes k h. (c.loop-edge.invariant k).1 (inl (c.within.ensures.0 yes k h)), grind (arith, common_steps))
