-- The greatest total of a round in which every node is done.
use Rattle.std.proofs.Common.{◌≡◌, ℕ, ◌<◌, List, [], ◌∷◌, length, Option, Some, None, slice_get, slice_set, is_some, refl, sym, ap, ◌∙◌, subst, inl, inr, ◌⊎◌}
use Rattle.std.proofs.lemmas.Bool.{cases_eq}
use Rattle.std.proofs.lemmas.Option.{slice_get_within}
use Rattle.mcs_base.proofs.Lists.{slice_get_below}
use Rattle.mcs_base.proofs.Written.{slice_get-set_other, slice_get-set_same, length-slice_set}
use Rattle.mcs_base.proofs.Results.{some_same, no_none}
use Rattle.mcs_system.specs.Levels.{IsCount}
use Rattle.mcs_import.proofs.CountLemmas.{counts_agree}
use Rattle.mcs_node.specs.declared.event.Event.{Event}
use Rattle.mcs_node.specs.declared.event.Event.TheVariants.{Begin, Grant, Deliver}
use Rattle.mcs_node.specs.Rounds.{Round, NodeState}
use Rattle.mcs_node.specs.Configurations.{Configuration, HasNode, first_configuration, IsSound, IsDone}
use Rattle.mcs_node.specs.Steps.{IsTotal, Changes, TakesPlace, Outcome, Skipped, Ignored, Taken, Step, Runs}
use Rattle.mcs_node.specs.Laws.{IsOnward, GreatestTotalIsTheCount}
use Rattle.mcs_node.proofs.RuleLemmas.{done_finishes}
use Rattle.mcs_node.proofs.StepLemmas.{new_at, first_is_sound, runs_are_sound, after_at, other_at, was_at}
use Rattle.mcs_node.proofs.TotalLemmas.{total_alike, totals_count_questions, AreGranted, runs_grant}

-- a node was granted the total of all that were granted so far
record IsLast (r : Round) (c : Configuration) : Type 0 where
  context : ℕ
  node : NodeState
  total : ℕ
  at : HasNode c context node
  granted : node.granted ≡ Some total
  counted : IsTotal r c.nodes total

abbrev HasLast : Round → Configuration → Type 0
HasLast r c = ((i : ℕ) (s : NodeState) → HasNode c i s → s.granted ≡ None) ⊎ IsLast r c

module _ (r : Round) (c d : Configuration) (e : Event) (step : TakesPlace r c e d) where
  -- an event that grants nothing leaves the last total
  module _ (same : step.after.granted ≡ step.old.granted) where
    none_still : ((i : ℕ) (s : NodeState) → HasNode c i s → s.granted ≡ None) → (i : ℕ) (s : NodeState) → HasNode d i s → s.granted ≡ None
    none_still none i s at = elim (was_at r c d e step i s at) [
      | inl (here, is) ↦ ap (λ (p : NodeState). p.granted) is ∙ same ∙ none step.context step.old step.node
      | inr (differ, was) ↦ none i s was
    ]

    still_counted : (total : ℕ) → IsTotal r c.nodes total → IsTotal r d.nodes total
    still_counted total counted = total_alike r c.nodes d.nodes total (ap (λ (l : List NodeState). length l) step.nodes ∙ length-slice_set c.nodes step.context step.after) was counted
      where
        was : (k : ℕ) (q : NodeState) → slice_get d.nodes k ≡ Some q → (p : NodeState) × (slice_get c.nodes k ≡ Some p) × (is_some p.granted ≡ is_some q.granted)
        was k q there = elim (was_at r c d e step k q there) [
          | inl (here, is) ↦ (
            step.old,
            subst (λ (j : ℕ). slice_get c.nodes j ≡ Some step.old) (sym here) step.node,
            ap (λ (o : Option ℕ). is_some o) (sym same ∙ ap (λ (p : NodeState). p.granted) (sym is)),
          )
          | inr (differ, old) ↦ (q, old, refl)
        ]

    last_still : IsLast r c → IsLast r d
    last_still last = elim (cases_eq last.context step.context) [
      | inl here ↦ (let one : last.node ≡ step.old = some_same (slice_get c.nodes step.context) last.node step.old (subst (λ (j : ℕ). HasNode c j last.node) here last.at) step.node in record {
        context = step.context;
        node = step.after;
        total = last.total;
        at = after_at r c d e step;
        granted = same ∙ ap (λ (p : NodeState). p.granted) (sym one) ∙ last.granted;
        counted = still_counted last.total last.counted;
      })
      | inr differ ↦ record {
        context = last.context;
        node = last.node;
        total = last.total;
        at = other_at r c d e step last.context last.node differ last.at;
        granted = last.granted;
        counted = still_counted last.total last.counted;
      }
    ]

    has_still : HasLast r c → HasLast r d
    has_still (inl none) = inl (none_still none)
    has_still (inr last) = inr (last_still last)

  -- a grant makes its own the last
  module _ (total : ℕ) (counted : IsTotal r (slice_set c.nodes step.context step.changed) total) (got : step.changed.granted ≡ Some total) where
    grant_counted : IsTotal r d.nodes total
    grant_counted = total_alike r (slice_set c.nodes step.context step.changed) d.nodes total
        (ap (λ (l : List NodeState). length l) step.nodes ∙ length-slice_set c.nodes step.context step.after ∙ sym (length-slice_set c.nodes step.context step.changed)) was counted
      where
        was : (k : ℕ) (q : NodeState) → slice_get d.nodes k ≡ Some q
            → (p : NodeState) × (slice_get (slice_set c.nodes step.context step.changed) k ≡ Some p) × (is_some p.granted ≡ is_some q.granted)
        was k q there = elim (was_at r c d e step k q there) [
          | inl (here, is) ↦ (
            step.changed,
            subst (λ (j : ℕ). slice_get (slice_set c.nodes step.context step.changed) j ≡ Some step.changed) (sym here)
                (slice_get-set_same c.nodes step.context step.changed (slice_get_within c.nodes step.context step.old step.node)),
            ap (λ (o : Option ℕ). is_some o) (sym step.reacts.granted ∙ ap (λ (p : NodeState). p.granted) (sym is)),
          )
          | inr (differ, old) ↦ (q, slice_get-set_other c.nodes step.context k step.changed differ ∙ old, refl)
        ]

    grant_last : IsLast r d
    grant_last = record { context = step.context; node = step.after; total = total; at = after_at r c d e step; granted = step.reacts.granted ∙ got; counted = grant_counted }

taken_last : (r : Round) (c d : Configuration) (e : Event) (step : TakesPlace r c e d) → Changes r c e step.context step.old step.changed → HasLast r c → HasLast r d
taken_last r c d (Begin i) step (here, unbegun, is) has = has_still r c d (Begin i) step (step.reacts.granted ∙ ap (λ (p : NodeState). p.granted) is) has
taken_last r c d (Deliver n) step (x, there, takes, is) has = has_still r c d (Deliver n) step (step.reacts.granted ∙ ap (λ (p : NodeState). p.granted) is) has
taken_last r c d (Grant i) step (here, awaits, total, counted, is) has = inr (grant_last r c d (Grant i) step total counted (ap (λ (p : NodeState). p.granted) is))

step_last : (r : Round) (c d : Configuration) (e : Event) (o : Outcome) → Step r c e o d → HasLast r c → HasLast r d
step_last r c d e Skipped step has = subst (λ (b : Configuration). HasLast r b) (sym step.1) has
step_last r c d e Ignored step has = subst (λ (b : Configuration). HasLast r b) (sym step.1) has
step_last r c d e Taken step has = taken_last r c d e step step.changes has

runs_last : (r : Round) (es : List Event) (os : List Outcome) (c d : Configuration) → HasLast r c → Runs r c es os d → HasLast r d
runs_last r [] [] c d has is = subst (λ (b : Configuration). HasLast r b) (sym is) has
runs_last r [] (o ∷ os) c d has none = absurd none
runs_last r (e ∷ es) [] c d has none = absurd none
runs_last r (e ∷ es) (o ∷ os) c d has (next, step, rest) = runs_last r es os next d (step_last r c next e o step has) rest

-- ---- where every node is done
module _ (r : Round) (es : List Event) (os : List Outcome) (d : Configuration) (onward : IsOnward r) (run : Runs r (first_configuration r.system) es os d) (done : IsDone d) where
  sound : IsSound r d
  sound = runs_are_sound r es os d run

  all_granted : (i : ℕ) (s : NodeState) → HasNode d i s → (total : ℕ) × (s.granted ≡ Some total)
  all_granted i s at = let (total, is, within) = (done_finishes r i s (sound.nodes i s at).rule (done i s at)).granted in (total, is)

  granted_questions : AreGranted r d
  granted_questions = runs_grant r onward es os (first_configuration r.system) d (first_is_sound r)
      (λ j t total there got. absurd (no_none t.granted total (ap (λ (p : NodeState). p.granted) (new_at r j t there)) got)) run

  last_exists : 0 < length d.nodes → HasLast r d → IsLast r d
  last_exists many (inl none) =
      let (s, at) = slice_get_below d.nodes 0 many in
      let (total, is) = all_granted 0 s at in
      absurd (no_none s.granted total (none 0 s at) is)
  last_exists many (inr last) = last

  is_count : (last : IsLast r d) → IsCount r.system r.level last.total
  is_count last = (totals_count_questions r d.nodes last.total onward sound.one_each last.counted).1
      (λ i s at. let (total, is) = all_granted i s at in ap (λ (o : Option ℕ). is_some o) is)

pub greatest_total_is_the_count : GreatestTotalIsTheCount
greatest_total_is_the_count r es os d onward run done many =
    let first : HasLast r (first_configuration r.system) = inl (λ i s at. ap (λ (p : NodeState). p.granted) (new_at r i s at)) in
    let last = last_exists r es os d onward run done many (runs_last r es os (first_configuration r.system) d first run) in
    let count = is_count r es os d onward run done last in (
      last.total,
      count,
      (last.context, last.node, last.at, last.granted),
      λ i s n at got. (counts_agree r.system r.level last.total n count).0 (granted_questions r es os d onward run done i s n at got),
    )
