use Rattle.std.proofs.Common.{◌≡◌, ◌<◌, ◌↔◌, List, ℕ, sym, subst, ◌∙◌}
use Rattle.std.proofs.lemmas.List.Elements.{recursion_from_All}
use Rattle.std.specs.List.{AllByRecursion}
use Rattle.mcs_sets.specs.Sets.{members}
use Rattle.mcs_import.specs.States.{SomeGrows}
use Rattle.mcs_import.proofs.StateLemmas.{grows_step, grows_end}
use Rattle.mcs_import.proofs.states.guessed_states.Goals as goal

pub loop-variable-init : goal.loop-variable-init
loop-variable-init c =
    let all : c.into_iter-variable-iterator.result ≡ members c.args.guessed = c.into_iter-variable-iterator.ensures.into_iter_gives ∙ c.members-variable-items.ensures.list in record {
      grows = λ s. subst (λ (vs : List ℕ). SomeGrows vs c.args.states.items s ↔ SomeGrows (members c.args.guessed) c.args.states.items s) (sym all) (λ h. h, λ h. h);
      known = subst (AllByRecursion (λ k. k < 64)) (sym c.into_iter-variable-iterator.ensures.into_iter_gives) (recursion_from_All (λ k. k < 64) c.members-variable-items.result c.members-variable-items.ensures.below);
    }

pub loop-variable-preserved : goal.loop-variable-preserved
loop-variable-preserved c = record {
  grows = λ s. (let step = grows_step c.in-Some.variable c.next.new.self c.loop-variable.states.items c.add_with.new.states.items c.in_ok-add_with.ensures s in
      let old = subst (λ (vs : List ℕ). SomeGrows vs c.loop-variable.states.items s ↔ SomeGrows (members c.args.guessed) c.args.states.items s) c.in-Some.ensures.steps (c.loop-variable.invariant.grows s) in
      (λ h. old.0 (step.0 h), λ h. step.1 (old.1 h)));
  known = (subst (AllByRecursion (λ k. k < 64)) c.in-Some.ensures.steps c.loop-variable.invariant.known).1;
}

pub returns : goal.returns
returns c = λ s. let old = c.loop-variable.invariant.grows s in
    let over = subst (λ (vs : List ℕ). SomeGrows vs c.loop-variable.states.items s ↔ SomeGrows (members c.args.guessed) c.args.states.items s) c.in-None.ensures.steps.0 old in
    let e = grows_end c.loop-variable.states.items s in (λ among. over.0 (e.1 among), λ h. e.0 (over.1 h))
