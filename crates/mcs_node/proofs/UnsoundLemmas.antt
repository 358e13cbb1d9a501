-- Configurations that are not sound.
use Rattle.std.proofs.Common.{◌≡◌, ℕ, ◌<◌, ◌≤◌, true, false, true≢false, List, [], ◌∷◌, Option, Some, None, refl, sym, ap, ◌∙◌, subst, inl, inr, arith}
use Rattle.mcs_base.specs.Listings.{IsAmong}
use Rattle.mcs_base.proofs.Results.{some_same, no_none}
use Rattle.mcs_base.proofs.Each.{each_of_two}
use Rattle.mcs_states.specs.declared.halt.Halt.{Halt}
use Rattle.mcs_states.specs.declared.halt.Halt.TheVariants.{Spent, Missing, Memory}
use Rattle.mcs_node.specs.Rounds.{Stamp, Round, NodeState, IsOwnHalt, IsNewQuestion, Waits, IsStopped, Stops, ObeysRule, waits, finishes, is_stopped, stops}
use Rattle.mcs_node.specs.Configurations.{HasNode, IsSound}
use Rattle.mcs_node.specs.Worked.{AreTwo, letter, both, IsCalm, begun_node, finished, overdrawn, stopped_by, halted_at, AreUnsound, UnsoundIsRefused}
use Rattle.mcs_node.proofs.RuleLemmas.{done_finishes}

-- ---- which case of the rule a node is
as_waits : (r : Round) (i : ℕ) (s : NodeState) → ObeysRule r i s → s.done ≡ false → s.halt ≡ None → Waits s
as_waits r i s (waits w) done halt = w
as_waits r i s (finishes f) done halt = absurd (true≢false (sym f.done ∙ done))
as_waits r i s (is_stopped w) done halt = absurd (no_none s.halt w.cause halt w.halt)
as_waits r i s (stops w) done halt = absurd (no_none s.halt w.cause halt w.halt)

as_stopped : (r : Round) (i : ℕ) (s : NodeState) (h : Halt) → ObeysRule r i s → s.halt ≡ Some h → s.by_itself ≡ false → IsStopped r i s
as_stopped r i s h (waits w) halt by_letter = absurd (no_none s.halt h w.halt halt)
as_stopped r i s h (finishes f) halt by_letter = absurd (no_none s.halt h f.halt halt)
as_stopped r i s h (is_stopped w) halt by_letter = w
as_stopped r i s h (stops w) halt by_letter = absurd (true≢false (sym w.by_itself ∙ by_letter))

as_stops : (r : Round) (i : ℕ) (s : NodeState) (h : Halt) → ObeysRule r i s → s.halt ≡ Some h → s.by_itself ≡ true → Stops r i s
as_stops r i s h (waits w) halt own = absurd (no_none s.halt h w.halt halt)
as_stops r i s h (finishes f) halt own = absurd (no_none s.halt h f.halt halt)
as_stops r i s h (is_stopped w) halt own = absurd (true≢false (sym own ∙ w.by_itself))
as_stops r i s h (stops w) halt own = w

module _ (r : Round) (base first second total : ℕ) (two : AreTwo r base first second) where
  not_put_out : ¬ IsSound r (both begun_node begun_node (letter r false ∷ []))
  not_put_out sound =
      let (i, s, at, h) = (sound.letters.exactly (letter r false)).0 (inl refl) in
      each_of_two (λ (p : NodeState). ¬ IsAmong (letter r false) p.put_out) begun_node begun_node (λ n. n) (λ n. n) i s at h

  had_from_none : ¬ IsSound r (both begun_node (record begun_node { had = letter r false ∷ [] }) [])
  had_from_none sound =
      let (s, at, h) = (sound.nodes 1 (record begun_node { had = letter r false ∷ [] }) refl).sent (letter r false) (inl refl) in
      subst (λ (p : NodeState). IsAmong (letter r false) p.put_out) (some_same (Some begun_node) s begun_node at refl) h

  done_above : r.budget < total → ¬ IsSound r (both (finished [] total (letter r false ∷ [])) begun_node (letter r false ∷ []))
  done_above above sound =
      let f = done_finishes r 0 (finished [] total (letter r false ∷ [])) (sound.nodes 0 (finished [] total (letter r false ∷ [])) refl).rule refl in
      let (n, got, within) = f.granted in
      let e = some_same (Some total) total n refl got in
      omega (arith, above, within, e)

  both_letters : ¬ IsSound r (both (overdrawn r total (letter r false ∷ letter r true ∷ [])) begun_node (letter r false ∷ letter r true ∷ []))
  both_letters sound =
      let w = as_stops r 0 (overdrawn r total (letter r false ∷ letter r true ∷ [])) (Spent r.level total) (sound.nodes 0 (overdrawn r total (letter r false ∷ letter r true ∷ [])) refl).rule refl refl in
      let (j, supplies, is) = (w.put_out.exactly (letter r false)).0 (inl refl) in
      true≢false (sym (ap (λ (y : Stamp). y.stop) is))

  keeps_stop : ¬ IsSound r (both (overdrawn r total []) begun_node [])
  keeps_stop sound =
      let w = as_stops r 0 (overdrawn r total []) (Spent r.level total) (sound.nodes 0 (overdrawn r total []) refl).rule refl refl in
      (w.put_out.exactly (letter r true)).1 (1, two.supplies, refl)

  spent_within : total ≤ r.budget → ¬ IsSound r (both (overdrawn r total (letter r true ∷ [])) begun_node (letter r true ∷ []))
  spent_within within sound =
      let w = as_stops r 0 (overdrawn r total (letter r true ∷ [])) (Spent r.level total) (sound.nodes 0 (overdrawn r total (letter r true ∷ [])) refl).rule refl refl in
      let cause : w.cause ≡ Spent r.level total = some_same (Some (Spent r.level total)) w.cause (Spent r.level total) w.halt refl in
      let own = subst (λ (h : Halt). IsOwnHalt r 0 (Some total) h) cause w.own in
      omega (arith, within, own.2)

  other_halt : ¬ IsSound r (both (overdrawn r total (letter r true ∷ [])) (stopped_by (letter r true ∷ []) Memory) (letter r true ∷ []))
  other_halt sound = not_so ((sound.nodes 1 (stopped_by (letter r true ∷ []) Memory) refl).halted Memory refl refl)
    where
      not_so : (x : Stamp) × (s : NodeState) × IsAmong x (letter r true ∷ []) × (x.stop ≡ true) × HasNode (both (overdrawn r total (letter r true ∷ [])) (stopped_by (letter r true ∷ []) Memory) (letter r true ∷ [])) x.from s × (s.halt ≡ Some Memory) → ⊥
      not_so (x, s, inr none, stop, at, is) = none
      not_so (x, s, inl e, stop, at, is) =
          let here : HasNode (both (overdrawn r total (letter r true ∷ [])) (stopped_by (letter r true ∷ []) Memory) (letter r true ∷ [])) 0 s =
          subst (λ (j : ℕ). HasNode (both (overdrawn r total (letter r true ∷ [])) (stopped_by (letter r true ∷ []) Memory) (letter r true ∷ [])) j s) (ap (λ (y : Stamp). y.from) e) at in
          let one : s ≡ overdrawn r total (letter r true ∷ []) = some_same (Some (overdrawn r total (letter r true ∷ []))) s (overdrawn r total (letter r true ∷ [])) here refl in
          subst (λ (o : Option Halt). IsCalm o) (sym (ap (λ (p : NodeState). p.halt) one) ∙ is) tt

  -- why a node that stopped by itself did
  own_of : (granted : Option ℕ) (halt : Halt) → IsSound r (both (halted_at granted (letter r true ∷ []) halt) begun_node (letter r true ∷ [])) → IsOwnHalt r 0 granted halt
  own_of granted halt sound =
      let w = as_stops r 0 (halted_at granted (letter r true ∷ []) halt) halt (sound.nodes 0 (halted_at granted (letter r true ∷ []) halt) refl).rule refl refl in
      subst (λ (h : Halt). IsOwnHalt r 0 granted h) (some_same (Some halt) w.cause halt w.halt refl) w.own

  lacks_other : (x : ℕ) → ¬ IsSound r (both (halted_at (Some total) (letter r true ∷ []) (Missing 1 x)) begun_node (letter r true ∷ []))
  lacks_other x sound = let own = own_of (Some total) (Missing 1 x) sound in let e = own.0 in omega (arith, e)

  lacks_early : (x : ℕ) → ¬ IsSound r (both (halted_at None (letter r true ∷ []) (Missing 0 x)) begun_node (letter r true ∷ []))
  lacks_early x sound = let own = own_of None (Missing 0 x) sound in let (n, got, within) = own.1 in no_none None n refl got

  lacks_old : (x : ℕ) → ¬ IsNewQuestion r 0 x → ¬ IsSound r (both (halted_at (Some total) (letter r true ∷ []) (Missing 0 x)) begun_node (letter r true ∷ []))
  lacks_old x old sound = let own = own_of (Some total) (Missing 0 x) sound in old own.2

  early_supply : ¬ IsSound r (both (record begun_node { put_out = letter r false ∷ [] }) begun_node (letter r false ∷ []))
  early_supply sound =
      let w = as_waits r 0 (record begun_node { put_out = letter r false ∷ [] }) (sound.nodes 0 (record begun_node { put_out = letter r false ∷ [] }) refl).rule refl refl in
      subst (λ (l : List Stamp). IsAmong (letter r false) l) w.put_out (inl refl)

  stopped_granted : ¬ IsSound r (both (overdrawn r total (letter r true ∷ [])) (record (stopped_by (letter r true ∷ []) (Spent r.level total)) { granted = Some total }) (letter r true ∷ []))
  stopped_granted sound =
      let w = as_stopped r 1 (record (stopped_by (letter r true ∷ []) (Spent r.level total)) { granted = Some total }) (Spent r.level total)
      (sound.nodes 1 (record (stopped_by (letter r true ∷ []) (Spent r.level total)) { granted = Some total }) refl).rule refl refl in
      no_none (Some total) total w.granted refl

  are_unsound : AreUnsound r total
  are_unsound = record {
    no_second = (λ sound. let e = sound.one_each in omega (arith, e, two.two));
    listed_twice = (λ sound. sound.letters.apart.0 (inl refl));
    unlisted = (λ sound. (sound.letters.exactly (letter r false)).1 (0, finished [] total (letter r false ∷ []), refl, inl refl));
    not_put_out = not_put_out;
    had_twice = (λ sound. (sound.nodes 1 (record begun_node { had = letter r false ∷ letter r false ∷ [] }) refl).once.0 (inl refl));
    had_from_none = had_from_none;
    had_by_another = (λ sound. let e = (sound.nodes 0 (record (overdrawn r total (letter r true ∷ [])) { had = letter r true ∷ [] }) refl).addressed (letter r true) (inl refl) in omega (arith, e));
    unbegun = (λ sound. true≢false (ap (λ (p : NodeState). p.done) ((sound.nodes 0 (record (finished [] total (letter r false ∷ [])) { begun = false }) refl).unbegun refl)));
    waits_on = (λ sound. true≢false ((as_waits r 1 (record begun_node { had = letter r true ∷ [] }) (sound.nodes 1 (record begun_node { had = letter r true ∷ [] }) refl).rule refl refl).no_stop (letter r true) (inl refl)));
    waits_by_itself = (λ sound. true≢false (as_waits r 0 (record begun_node { by_itself = true }) (sound.nodes 0 (record begun_node { by_itself = true }) refl).rule refl refl).by_itself);
    lacks_supply = (λ sound. ((done_finishes r 1 (finished [] total []) (sound.nodes 1 (finished [] total []) refl).rule refl).had.exactly (letter r false)).1 (0, two.supplies, refl));
    keeps_supply = (λ sound. ((done_finishes r 0 (finished [] total []) (sound.nodes 0 (finished [] total []) refl).rule refl).put_out.exactly (letter r false)).1 (1, two.supplies, refl));
    done_above = done_above;
    both_letters = both_letters;
    keeps_stop = keeps_stop;
    spent_within = spent_within;
    other_halt = other_halt;
    stopped_by_none = (λ sound. (as_stopped r 1 (stopped_by [] Memory) Memory (sound.nodes 1 (stopped_by [] Memory) refl).rule refl refl).had);
    waits_granted = (λ sound. no_none (Some total) total (as_waits r 0 (record begun_node { granted = Some total }) (sound.nodes 0 (record begun_node { granted = Some total }) refl).rule refl refl).granted refl);
    early_supply = early_supply;
    done_by_itself = (λ sound. true≢false (done_finishes r 0 (record (finished [] total (letter r false ∷ [])) { by_itself = true }) (sound.nodes 0 (record (finished [] total (letter r false ∷ [])) { by_itself = true }) refl).rule refl).by_itself);
    done_stopped = (λ sound. true≢false (as_stops r 0 (record (overdrawn r total (letter r true ∷ [])) { done = true }) (Spent r.level total) (sound.nodes 0 (record (overdrawn r total (letter r true ∷ [])) { done = true }) refl).rule refl refl).done);
    stopped_granted = stopped_granted;
    lacks_other = lacks_other;
    lacks_early = lacks_early;
    lacks_old = lacks_old;
  }

pub unsound_is_refused : UnsoundIsRefused
unsound_is_refused r base first second total two = are_unsound r base first second total two
