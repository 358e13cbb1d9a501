-- Steps keep soundness.
use Rattle.std.proofs.Common.{◌≡◌, ℕ, true, true≢false, List, [], ◌∷◌, ◌++◌, length, Option, Some, slice_get, is_some, refl, sym, ap, ◌∙◌, subst, inl, inr, ◌⊎◌}
use Rattle.std.proofs.lemmas.List.{length-map}
use Rattle.std.proofs.lemmas.Option.{slice_get_within}
use Rattle.std.proofs.lemmas.Bool.{cases_eq}
use Rattle.mcs_base.specs.Listings.{IsAmong, AreApart, IsInventory}
use Rattle.mcs_base.proofs.Among.{among_left, among_right, among_either, among_push, among_get}
use Rattle.mcs_base.proofs.Distinct.{distinct_append, distinct_push, distinct_parts}
use Rattle.mcs_base.proofs.Lists.{map_slice_get}
use Rattle.mcs_base.proofs.Written.{slice_get-slice_set, slice_get-set_other, slice_get-set_same, length-slice_set}
use Rattle.mcs_base.proofs.Results.{some_same, no_none}
use Rattle.mcs_system.specs.Plain.{Context}
use Rattle.mcs_states.specs.declared.halt.Halt.{Halt}
use Rattle.mcs_node.specs.declared.event.Event.{Event}
use Rattle.mcs_node.specs.declared.event.Event.TheVariants.{Begin, Grant, Deliver}
use Rattle.mcs_node.specs.Rounds.{Stamp, Round, NodeState, waits}
use Rattle.mcs_node.specs.Configurations.{Configuration, HasNode, new_node, first_configuration, IsPutOut, IsFromSender, IsHaltOfSender, IsSoundNode, IsSound}
use Rattle.mcs_node.specs.Steps.{Changes, TakesPlace, Outcome, Skipped, Ignored, Taken, Runs}
use Rattle.mcs_node.specs.Laws.{FirstIsSound, StepsKeepSoundness, RunsAreSound}
use Rattle.mcs_node.proofs.RuleLemmas.{put_out_from, put_out_apart, letter_from_sender}

-- the second part of a list without repeats
distinct_right : {A : Type 0} (xs ys : List A) → AreApart (xs ++ ys) → AreApart ys
distinct_right [] ys d = d
distinct_right (x ∷ xs) ys d = distinct_right xs ys d.1

-- ---- the first configuration
pub new_at : (r : Round) (i : ℕ) (s : NodeState) → HasNode (first_configuration r.system) i s → s ≡ new_node
new_at r i s at = let (x, there, is) = map_slice_get (λ (x : Context). new_node) r.system.contexts i s at in sym is

new_is_sound : (r : Round) (i : ℕ) → IsSoundNode r (first_configuration r.system) i new_node
new_is_sound r i = record {
  addressed = (λ x h. absurd h);
  sent = (λ x h. absurd h);
  once = tt;
  rule = waits (record { granted = refl; no_stop = (λ x h. absurd h); put_out = refl; done = refl; halt = refl; by_itself = refl });
  unbegun = (λ e. refl);
  halted = (λ halt is by_itself. absurd (no_none new_node.halt halt refl is));
}

pub first_is_sound : FirstIsSound
first_is_sound r = record {
  one_each = length-map r.system.contexts (λ (x : Context). new_node);
  letters = record { exactly = (λ x. ((λ h. absurd h), (λ p. none x p))); apart = tt };
  nodes = (λ i s at. subst (λ (t : NodeState). IsSoundNode r (first_configuration r.system) i t) (sym (new_at r i s at)) (new_is_sound r i));
}
  where
    none : (x : Stamp) → IsPutOut (first_configuration r.system) x → ⊥
    none x (i, s, at, h) = subst (λ (t : NodeState). IsAmong x t.put_out) (new_at r i s at) h

-- ---- what an event changes of a node
record IsChange (c : Configuration) (i : ℕ) (s t : NodeState) : Type 0 where
  begun : t.begun ≡ true
  put_out : t.put_out ≡ s.put_out
  halt : t.halt ≡ s.halt
  addressed : (x : Stamp) → IsAmong x t.had → x.to ≡ i
  sent : (x : Stamp) → IsAmong x t.had → IsFromSender c x
  once : AreApart t.had

change_of : (r : Round) (c : Configuration) → IsSound r c → (e : Event) (i : ℕ) (s t : NodeState) → HasNode c i s → Changes r c e i s t → IsChange c i s t
change_of r c sound (Begin context) i s t at (here, unbegun, is) = let n = sound.nodes i s at in
    subst (λ (u : NodeState). IsChange c i s u) (sym is) (record { begun = refl; put_out = refl; halt = refl; addressed = n.addressed; sent = n.sent; once = n.once })
change_of r c sound (Grant context) i s t at (here, awaits, total, counted, is) = let n = sound.nodes i s at in
    subst (λ (u : NodeState). IsChange c i s u) (sym is) (record { begun = awaits.begun; put_out = refl; halt = refl; addressed = n.addressed; sent = n.sent; once = n.once })
change_of r c sound (Deliver number) i s t at (x, there, takes, is) = let n = sound.nodes i s at in
    subst (λ (u : NodeState). IsChange c i s u) (sym is) (record {
      begun = takes.begun;
      put_out = refl;
      halt = refl;
      addressed = (λ y h. elim ((among_push y s.had x).0 h) [ inl old ↦ n.addressed y old | inr e ↦ ap (λ (z : Stamp). z.to) e ∙ takes.addressed ]);
      sent = (λ y h. elim ((among_push y s.had x).0 h) [
        | inl old ↦ n.sent y old
        | inr e ↦ subst (λ (z : Stamp). IsFromSender c z) (sym e)
            (letter_from_sender r c sound x ((sound.letters.exactly x).0 (among_get x c.letters number there)))
      ]);
      once = distinct_push s.had x n.once (λ h. takes.first x h refl);
    })

-- ---- one step
-- the node of context k still has put out all that p has, and still has its halt
pub record IsKept (d : Configuration) (k : ℕ) (p : NodeState) : Type 0 where
  pub node : NodeState
  pub at : HasNode d k node
  pub put_out : (x : Stamp) → IsAmong x p.put_out → IsAmong x node.put_out
  pub halt : (h : Halt) → p.halt ≡ Some h → node.halt ≡ Some h

-- what stands in the new configuration
module _ (r : Round) (c d : Configuration) (e : Event) (step : TakesPlace r c e d) where
  pub after_at : HasNode d step.context step.after
  after_at = subst (λ (l : List NodeState). slice_get l step.context ≡ Some step.after) (sym step.nodes)
      (slice_get-set_same c.nodes step.context step.after (slice_get_within c.nodes step.context step.old step.node))

  pub other_at : (k : ℕ) (p : NodeState) → ¬ (k ≡ step.context) → HasNode c k p → HasNode d k p
  other_at k p differ at = subst (λ (l : List NodeState). slice_get l k ≡ Some p) (sym step.nodes) (slice_get-set_other c.nodes step.context k step.after differ ∙ at)

  pub was_at : (k : ℕ) (q : NodeState) → HasNode d k q → ((k ≡ step.context) × (q ≡ step.after)) ⊎ ((¬ (k ≡ step.context)) × HasNode c k q)
  was_at k q at = slice_get-slice_set c.nodes step.context k step.after q (subst (λ (l : List NodeState). slice_get l k ≡ Some q) step.nodes at)

module _ (r : Round) (c d : Configuration) (e : Event) (sound : IsSound r c) (step : TakesPlace r c e d) where
  change : IsChange c step.context step.old step.changed
  change = change_of r c sound e step.context step.old step.changed step.node step.changes

  grown : (x : Stamp) → IsAmong x step.old.put_out → IsAmong x step.after.put_out
  grown x h = subst (λ (l : List Stamp). IsAmong x l) (sym step.reacts.put_out)
      (among_left x step.changed.put_out step.new (subst (λ (l : List Stamp). IsAmong x l) (sym change.put_out) h))

  halt_kept : (h : Halt) → step.old.halt ≡ Some h → step.after.halt ≡ Some h
  halt_kept h is =
      let was : step.changed.halt ≡ Some h = change.halt ∙ is in
      ap (λ (s : NodeState). s.halt) (step.reacts.halt_stays (ap (λ (o : Option Halt). is_some o) was)) ∙ was

  pub later : (k : ℕ) (p : NodeState) → HasNode c k p → IsKept d k p
  later k p at = elim (cases_eq k step.context) [
    | inl same ↦ (let one : p ≡ step.old = some_same (slice_get c.nodes step.context) p step.old (subst (λ (j : ℕ). HasNode c j p) same at) step.node in record {
      node = step.after;
      at = subst (λ (j : ℕ). HasNode d j step.after) (sym same) (after_at r c d e step);
      put_out = (λ x h. grown x (subst (λ (s : NodeState). IsAmong x s.put_out) one h));
      halt = (λ h is. halt_kept h (subst (λ (s : NodeState). s.halt ≡ Some h) one is));
    })
    | inr differ ↦ record { node = p; at = other_at r c d e step k p differ at; put_out = (λ x h. h); halt = (λ h is. is) }
  ]

  sent_still : (x : Stamp) → IsFromSender c x → IsFromSender d x
  sent_still x (s, at, h) = let kept = later x.from s at in (kept.node, kept.at, kept.put_out x h)

  halt_still : (had : List Stamp) (h : Halt) → IsHaltOfSender c had h → IsHaltOfSender d had h
  halt_still had h (x, s, among, stop, at, is) = let kept = later x.from s at in (x, kept.node, among, stop, kept.at, kept.halt h is)

  out_still : (x : Stamp) → IsPutOut c x → IsPutOut d x
  out_still x (k, s, at, h) = let kept = later k s at in (k, kept.node, kept.at, kept.put_out x h)

  -- ---- the nodes
  changed_is_sound : IsSoundNode r d step.context step.after
  changed_is_sound = record {
    addressed = (λ x h. change.addressed x (subst (λ (l : List Stamp). IsAmong x l) step.reacts.had h));
    sent = (λ x h. sent_still x (change.sent x (subst (λ (l : List Stamp). IsAmong x l) step.reacts.had h)));
    once = subst (λ (l : List Stamp). AreApart l) (sym step.reacts.had) change.once;
    rule = step.reacts.rule;
    unbegun = (λ none. absurd (true≢false (sym change.begun ∙ sym step.reacts.begun ∙ none)));
    halted = (λ h is by_letter. halt_still step.after.had h (step.reacts.halted h is by_letter));
  }

  other_is_sound : (k : ℕ) (p : NodeState) → IsSoundNode r c k p → IsSoundNode r d k p
  other_is_sound k p n = record {
    addressed = n.addressed;
    sent = (λ x h. sent_still x (n.sent x h));
    once = n.once;
    rule = n.rule;
    unbegun = n.unbegun;
    halted = (λ h is by_letter. halt_still p.had h (n.halted h is by_letter));
  }

  nodes_are_sound : (k : ℕ) (q : NodeState) → HasNode d k q → IsSoundNode r d k q
  nodes_are_sound k q at = elim (was_at r c d e step k q at) [
    | inl (same, is) ↦ subst (λ (j : ℕ). IsSoundNode r d j q) (sym same) (subst (λ (s : NodeState). IsSoundNode r d step.context s) (sym is) changed_is_sound)
    | inr (differ, was) ↦ other_is_sound k q (sound.nodes k q was)
  ]

  -- ---- the letters
  out_is : step.after.put_out ≡ step.old.put_out ++ step.new
  out_is = step.reacts.put_out ∙ ap (λ (l : List Stamp). l ++ step.new) change.put_out

  out_apart : AreApart (step.old.put_out ++ step.new)
  out_apart = subst (λ (l : List Stamp). AreApart l) out_is (put_out_apart r step.context step.after step.reacts.rule)

  new_is_out : (x : Stamp) → IsAmong x step.new → IsAmong x step.after.put_out
  new_is_out x h = subst (λ (l : List Stamp). IsAmong x l) (sym out_is) (among_right x step.old.put_out step.new h)

  -- a new letter was not put out before
  new_is_new : (x : Stamp) → IsAmong x c.letters → ¬ IsAmong x step.new
  new_is_new x old new =
      let (k, p, at, h) = (sound.letters.exactly x).0 old in
      let from : x.from ≡ k = put_out_from r k p x (sound.nodes k p at).rule h in
      let mine : x.from ≡ step.context = put_out_from r step.context step.after x step.reacts.rule (new_is_out x new) in
      let one : p ≡ step.old = some_same (slice_get c.nodes step.context) p step.old (subst (λ (j : ℕ). HasNode c j p) (sym from ∙ mine) at) step.node in
      distinct_parts step.old.put_out step.new x out_apart (subst (λ (s : NodeState). IsAmong x s.put_out) one h) new

  to_out : (x : Stamp) → IsAmong x (c.letters ++ step.new) → IsPutOut d x
  to_out x h = elim (among_either x c.letters step.new h) [
    | inl old ↦ out_still x ((sound.letters.exactly x).0 old)
    | inr new ↦ (step.context, step.after, after_at r c d e step, new_is_out x new)
  ]

  from_out : (x : Stamp) → IsPutOut d x → IsAmong x (c.letters ++ step.new)
  from_out x (k, q, at, h) = elim (was_at r c d e step k q at) [
    | inl (same, is) ↦ elim (among_either x step.old.put_out step.new (subst (λ (l : List Stamp). IsAmong x l) out_is (subst (λ (s : NodeState). IsAmong x s.put_out) is h))) [
      | inl old ↦ among_left x c.letters step.new ((sound.letters.exactly x).1 (step.context, step.old, step.node, old))
      | inr new ↦ among_right x c.letters step.new new
    ]
    | inr (differ, was) ↦ among_left x c.letters step.new ((sound.letters.exactly x).1 (k, q, was, h))
  ]

  letters_are_sound : IsInventory (IsPutOut d) (c.letters ++ step.new)
  letters_are_sound = record {
    exactly = (λ x. (to_out x, from_out x));
    apart = distinct_append c.letters step.new sound.letters.apart (distinct_right step.old.put_out step.new out_apart) new_is_new;
  }

  taken_is_sound : IsSound r d
  taken_is_sound = record {
    one_each = ap (λ (l : List NodeState). length l) step.nodes ∙ length-slice_set c.nodes step.context step.after ∙ sound.one_each;
    letters = subst (λ (l : List Stamp). IsInventory (IsPutOut d) l) (sym step.letters) letters_are_sound;
    nodes = nodes_are_sound;
  }

pub steps_keep_soundness : StepsKeepSoundness
steps_keep_soundness r c d e Skipped sound (impossible, is) = subst (λ (b : Configuration). IsSound r b) (sym is) sound
steps_keep_soundness r c d e Ignored sound (ignored, is) = subst (λ (b : Configuration). IsSound r b) (sym is) sound
steps_keep_soundness r c d e Taken sound step = taken_is_sound r c d e sound step

-- ---- runs
runs_from_sound : (r : Round) (es : List Event) (os : List Outcome) (c d : Configuration) → IsSound r c → Runs r c es os d → IsSound r d
runs_from_sound r [] [] c d sound is = subst (λ (b : Configuration). IsSound r b) (sym is) sound
runs_from_sound r [] (o ∷ os) c d sound none = absurd none
runs_from_sound r (e ∷ es) [] c d sound none = absurd none
runs_from_sound r (e ∷ es) (o ∷ os) c d sound (next, step, rest) = runs_from_sound r es os next d (steps_keep_soundness r c next e o sound step) rest

pub runs_are_sound : RunsAreSound
runs_are_sound r es os d run = runs_from_sound r es os (first_configuration r.system) d (first_is_sound r) run
