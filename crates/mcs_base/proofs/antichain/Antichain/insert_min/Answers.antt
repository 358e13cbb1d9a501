use Rattle.std.proofs.Common.{◌≡◌, ◌++◌, [], ◌∷◌, ℕ, List, sym, ap, ◌∙◌, subst, true≢false, rules}
use Rattle.std.proofs.lemmas.Fn.{filter_same}
use Rattle.mcs_base.proofs.AntichainLemmas.{antichain-insert, answers_not}
use Rattle.mcs_base.specs.Antichains.{HasOneWithin, not_containing}
use Rattle.mcs_base.proofs.antichain.Antichain.insert_min.Goals as goal

-- what is there after the insert, and that no member lay within the new set
inserted : (c : goal.In_ok-push) → (¬ HasOneWithin c.self.inside.sets.items c.args.m) × (c.push.new.self.items ≡ not_containing c.args.m c.self.inside.sets.items ++ c.args.m ∷ [])
inserted c =
    let kept : c.retain.new.self.items ≡ not_containing c.args.m c.reserve.new.self.items = filter_same _ _ _ (λ x b f' k. search (rules, answers_not)) _ _ c.retain.ensures.filtered in (
      λ there. true≢false (sym (c.has_one_within.ensures.1 (subst (λ (xs : List ℕ). HasOneWithin xs c.args.m) (sym c.deref.ensures.value) there)) ∙ c.if-has_one_within.false),
      c.in_ok-push.ensures.items ∙ ap (λ xs. xs ++ c.args.m ∷ []) (kept ∙ ap (not_containing c.args.m) c.reserve.ensures.items),
    )

pub invariant_of-self-2 : goal.invariant_of-self-2
invariant_of-self-2 c = let (none, is) = inserted c in rw is (antichain-insert _ _ c.self.invariant none)

pub returns-clause-answer : goal.returns-clause-answer
returns-clause-answer c = let v = c.self.view_is in rw (← v) (inserted c)
