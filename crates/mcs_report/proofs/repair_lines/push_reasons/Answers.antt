use Rattle.std.proofs.Common.{◌≡◌, ℕ, ◌<◌, ◌*◌, ◌++◌, List, false, decimal, map, codes, length, sym, ap, ◌∙◌, subst, append_assoc}
use Rattle.std.proofs.lemmas.List.Elements.{recursion_from_All}
use Rattle.std.specs.List.{AllByRecursion}
use Rattle.mcs_sets.specs.Sets.{members}
use Rattle.mcs_text.specs.Separated.{separated}
use Rattle.mcs_transversal.specs.Transversals.{HasCriticalEdge}
use Rattle.mcs_report.specs.Repairs.{mark_text, reason_text}
use Rattle.mcs_text.proofs.Members.{left, left-step}
use Rattle.mcs_costs.proofs.CostLemmas.{marks_below}
use Rattle.mcs_report.proofs.RepairLemmas.{each_critical, critical_some, critical_number}
use Rattle.mcs_report.proofs.repair_lines.push_reasons.Goals as goal

pub loop-mark-init : goal.loop-mark-init
loop-mark-init c =
    let all : c.into_iter-mark-iterator.result ≡ members c.args.t = c.into_iter-mark-iterator.ensures.into_iter_gives ∙ c.members-mark-items.ensures.list in
    record {
      written = ap (λ marks. c.push.new.self ++ separated (map (reason_text c.args.system.now c.args.edges.now c.args.t) marks)) all
          ∙ ap (λ text. text ++ separated (map (reason_text c.args.system.now c.args.edges.now c.args.t) (members c.args.t))) c.in_ok-push.ensures.ok
          ∙ append_assoc c.args.text.now (codes "{") _;
      below = rw c.into_iter-mark-iterator.ensures.into_iter_gives (recursion_from_All _ _ c.members-mark-items.ensures.below);
      known = subst (AllByRecursion (λ k. k < 2 * length c.args.system.now.bridges)) (sym all) (marks_below c.args.system.now c.args.t c.requires.of_rules);
      critical = subst (AllByRecursion (HasCriticalEdge c.args.edges.now c.args.t)) (sym all) (each_critical c.args.edges.now c.args.t c.requires.critical);
    }

pub unwrap-first-requires : goal.unwrap-first-requires
unwrap-first-requires c =
    let low = (subst (AllByRecursion (λ k. k < 128)) c.in-Some.ensures.steps c.loop-mark.invariant.below).0 in
    let critical = (subst (AllByRecursion (HasCriticalEdge c.args.edges.now c.args.t)) c.in-Some.ensures.steps c.loop-mark.invariant.critical).0 in
    critical_some c.args.edges.now c.args.t c.in-Some.mark _ critical (c.first_critical_edges-firsts.ensures.each c.in-Some.mark low)

pub push_reason-requires : goal.push_reason-requires
push_reason-requires c = (subst (AllByRecursion (λ k. k < 2 * length c.args.system.now.bridges)) c.in-Some.ensures.steps c.loop-mark.invariant.known).0

pub loop-mark-preserved : goal.loop-mark-preserved
loop-mark-preserved c =
    let steps = c.in-Some.ensures.steps in
    let reason = λ (k : ℕ). reason_text c.args.system.now c.args.edges.now c.args.t k in
    let low = subst (AllByRecursion (λ k. k < 128)) steps c.loop-mark.invariant.below in
    let known = subst (AllByRecursion (λ k. k < 2 * length c.args.system.now.bridges)) steps c.loop-mark.invariant.known in
    let critical = subst (AllByRecursion (HasCriticalEdge c.args.edges.now c.args.t)) steps c.loop-mark.invariant.critical in
    let number = critical_number c.args.edges.now c.args.t c.in-Some.mark _ c.unwrap-first.result c.unwrap-first.ensures (c.first_critical_edges-firsts.ensures.each c.in-Some.mark low.0) in
    let with_reason : c.push_reason.new.text ≡ c.push_separator.new.text ++ reason c.in-Some.mark =
    c.in_ok-push_reason.ensures ∙ ap (λ (n : ℕ). c.push_separator.new.text ++ (mark_text c.args.system.now c.in-Some.mark ++ (codes " by " ++ decimal n))) number in
    record {
      written =
          ap (λ (text : List ℕ). text ++ left false (map reason c.next.new.self)) (with_reason ∙ ap (λ (text : List ℕ). text ++ reason c.in-Some.mark) c.in_ok-push_separator.ensures.ok)
          ∙ left-step c.loop-mark.is_first c.loop-mark.text (reason c.in-Some.mark) (map reason c.next.new.self)
          ∙ ap (λ (marks : List ℕ). c.loop-mark.text ++ left c.loop-mark.is_first (map reason marks)) (sym steps)
          ∙ c.loop-mark.invariant.written;
      below = low.1;
      known = known.1;
      critical = critical.1;
    }
