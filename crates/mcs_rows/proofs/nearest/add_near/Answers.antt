use Rattle.std.proofs.Common.{◌≡◌, ◌++◌, ◌∷◌, [], List, not, filter, sym, ap, ◌∙◌, subst, true≢false, rules}
use Rattle.std.proofs.lemmas.Fn.{filter_same}
use Rattle.mcs_sets.specs.Sets.{minus, union}
use Rattle.mcs_base.specs.Antichains.{lies_within}
use Rattle.mcs_base.proofs.AntichainLemmas.{answers_not}
use Rattle.mcs_rows.specs.Nearest.{changed, HasNearWithin}
use Rattle.mcs_rows.specs.declared.nearest.Near.{Near}
use Rattle.mcs_rows.proofs.NearestLemmas.{out_of_reach, adds_none, adds_one}
use Rattle.mcs_rows.proofs.nearest.add_near.Goals.{then-is_out-via-then-is_out, then-is_out-via-else-is_out+then-has_near_within}
use Rattle.mcs_rows.proofs.nearest.add_near.Goals as goal

pub returns-then-is_out : goal.returns-then-is_out
returns-then-is_out c m i state at of_rules =
    let r = c.args.reach.now in let x = c.args.question in
    let changes : c.union-changes.result ≡ changed c.args.applying x = c.union-changes.ensures ∙ ap (λ s. union s c.minus-forced.result) c.minus-removed.ensures ∙ ap (union (minus c.args.applying x)) c.minus-forced.ensures in
    adds_none m i state r c.args.applying x c.args.found.now.items (λ can. elim c.then-is_out.branch [
      | then-is_out-via-then-is_out w ↦ absurd (true≢false (sym can ∙ out_of_reach m i state x c.minus-removed.result c.minus-forced.result r at.reach
          (record { of_rules = of_rules; removes = c.minus-removed.ensures ∙ ap (λ a. minus a x) at.applies; forces = c.minus-forced.ensures ∙ ap (minus x) at.applies })
          (λ n s reach for. c.is_out.ensures n s reach w.if-is_out.true for)))
      | then-is_out-via-else-is_out+then-has_near_within w ↦
          subst (λ (found : List Near). HasNearWithin found (changed c.args.applying x)) w.deref.ensures.value (subst (HasNearWithin w.deref.result.now) changes (w.has_near_within.ensures w.if-has_near_within.true))
    ])

pub returns-in_default : goal.returns-in_default
returns-in_default c m i state at of_rules =
    adds_none m i state c.args.reach.now c.args.applying c.args.question c.args.found.now.items (λ can. absurd (true≢false (sym can ∙ c.in_default.ensures m i state c.args.question
    (record { of_rules = of_rules; removes = c.minus-removed.ensures ∙ ap (λ a. minus a c.args.question) at.applies; forces = c.minus-forced.ensures ∙ ap (minus c.args.question) at.applies }) at.reach.allowed)))

pub returns : goal.returns
returns c m i state at of_rules =
    let x = c.args.question in
    let changes : c.union-changes.result ≡ changed c.args.applying x = c.union-changes.ensures ∙ ap (λ s. union s c.minus-forced.result) c.minus-removed.ensures ∙ ap (union (minus c.args.applying x)) c.minus-forced.ensures in
    let (marks, can) = c.in-Some.ensures m i state x (record { of_rules = of_rules; removes = c.minus-removed.ensures ∙ ap (λ a. minus a x) at.applies; forces = c.minus-forced.ensures ∙ ap (minus x) at.applies }) at.reach.allowed in
    let kept : c.retain.new.self.items ≡ filter (λ (o : Near). not (lies_within c.union-changes.result o.changes)) c.args.found.now.items = filter_same _ _ _ (λ o b f' k. search (rules, answers_not)) _ _ c.retain.ensures.filtered in
    let n : Near = record { changes = c.union-changes.result; marks = c.in-Some.marks } in
    adds_one m i state c.args.reach.now c.args.applying x c.args.found.now.items n (record { can = can; changes = changes; marks = marks }) c.push.new.self.items
    (c.in_ok-push.ensures.items ∙ ap (λ (xs : List Near). xs ++ n ∷ []) kept)
