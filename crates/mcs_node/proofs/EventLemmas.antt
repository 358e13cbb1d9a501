-- What an event may come to, and what it leaves where no answer is missing and memory does not run out.
use Rattle.std.proofs.Common.{◌≡◌, ℕ, ◌<◌, ◌≤◌, Bool, true, false, true≢false, List, [], ◌∷◌, ◌++◌, Option, Some, None, slice_get, is_some, append-nil, refl, sym, ap, ap₂, ◌∙◌, subst, arith}
use Rattle.std.proofs.lemmas.Option.{slice_get_within}
use Rattle.mcs_base.specs.Listings.{IsAmong, IsInventory}
use Rattle.mcs_base.proofs.Results.{some_same, no_none}
use Rattle.mcs_states.specs.declared.halt.Halt.{Halt}
use Rattle.mcs_states.specs.declared.halt.Halt.TheVariants.{Spent, Missing, Memory}
use Rattle.mcs_node.specs.declared.event.Event.{Event}
use Rattle.mcs_node.specs.declared.event.Event.TheVariants.{Begin, Grant, Deliver}
use Rattle.mcs_node.specs.Rounds.{Stamp, Round, NodeState, HasNoStop, IsSupplyTo, IsSentBy, IsGrantedWithin, IsOwnHalt, ObeysRule, waits, finishes, is_stopped, stops}
use Rattle.mcs_node.specs.Configurations.{Configuration, HasNode, IsHaltOfSender, IsSound, AwaitsGrant}
use Rattle.mcs_node.specs.Steps.{Takes, IsPossible, IsIgnored, Reacts, TakesPlace, Outcome, Skipped, Ignored, Taken, Step, Runs}
use Rattle.mcs_node.specs.Worked.{IsCalm, AreCalm, LeadTo}
use Rattle.mcs_node.proofs.StepLemmas.{later, steps_keep_soundness}

-- ---- outcomes
pub ignored_possible : (r : Round) (c : Configuration) (e : Event) → IsIgnored c e → IsPossible r c e
ignored_possible r c (Begin i) none = absurd none
ignored_possible r c (Grant i) none = absurd none
ignored_possible r c (Deliver n) (x, at, untaken) = slice_get_within c.letters n x at

pub taken_possible : (r : Round) (c : Configuration) (e : Event) (d : Configuration) → TakesPlace r c e d → IsPossible r c e
taken_possible r c (Begin i) d step = let (here, unbegun, is) = step.changes in (step.old, subst (λ (j : ℕ). HasNode c j step.old) (sym here) step.node, unbegun)
taken_possible r c (Grant i) d step = let (here, awaits, total, counted, is) = step.changes in
    (step.old, subst (λ (j : ℕ). HasNode c j step.old) (sym here) step.node, subst (λ (j : ℕ). AwaitsGrant r j step.old) (sym here) awaits)
taken_possible r c (Deliver n) d step = let (x, at, takes, is) = step.changes in slice_get_within c.letters n x at

pub ignored_untaken : (r : Round) (c : Configuration) (e : Event) (d : Configuration) → IsIgnored c e → TakesPlace r c e d → ⊥
ignored_untaken r c (Begin i) d none step = none
ignored_untaken r c (Grant i) d none step = none
ignored_untaken r c (Deliver n) d (x, at, untaken) step =
    let (y, at', takes, is) = step.changes in
    let same : y ≡ x = some_same (slice_get c.letters n) y x at' at in
    let to : x.to ≡ step.context = sym (ap (λ (z : Stamp). z.to) same) ∙ takes.addressed in
    untaken step.old (subst (λ (j : ℕ). HasNode c j step.old) (sym to) step.node)
    (subst (λ (j : ℕ). Takes j step.old x) (sym to) (subst (λ (z : Stamp). Takes step.context step.old z) same takes))

-- the one outcome and the one configuration that is left, where no answer is missing and memory does not run out
pub record IsCertain (r : Round) (c : Configuration) (e : Event) (o : Outcome) (d : Configuration) : Type 0 where
  pub may : Step r c e o d
  pub alone : (other : Outcome) (b : Configuration) → Step r c e other b → AreCalm b → (other ≡ o) × (b ≡ d)

pub certain_skipped : (r : Round) (c : Configuration) (e : Event) → ¬ IsPossible r c e → IsCertain r c e Skipped c
certain_skipped r c e impossible = record { may = (impossible, refl); alone = alone }
  where
    alone : (other : Outcome) (b : Configuration) → Step r c e other b → AreCalm b → (other ≡ Skipped) × (b ≡ c)
    alone Skipped b step calm = (refl, step.1)
    alone Ignored b step calm = absurd (impossible (ignored_possible r c e step.0))
    alone Taken b step calm = absurd (impossible (taken_possible r c e b step))

pub certain_ignored : (r : Round) (c : Configuration) (e : Event) → IsIgnored c e → IsCertain r c e Ignored c
certain_ignored r c e ignored = record { may = (ignored, refl); alone = alone }
  where
    alone : (other : Outcome) (b : Configuration) → Step r c e other b → AreCalm b → (other ≡ Ignored) × (b ≡ c)
    alone Skipped b step calm = absurd (step.0 (ignored_possible r c e ignored))
    alone Ignored b step calm = (refl, step.1)
    alone Taken b step calm = absurd (ignored_untaken r c e b ignored step)

pub certain_taken : (r : Round) (c : Configuration) (e : Event) (d : Configuration) → TakesPlace r c e d
    → ((b : Configuration) → TakesPlace r c e b → AreCalm b → b ≡ d) → IsCertain r c e Taken d
certain_taken r c e d may unique = record { may = may; alone = alone }
  where
    alone : (other : Outcome) (b : Configuration) → Step r c e other b → AreCalm b → (other ≡ Taken) × (b ≡ d)
    alone Skipped b step calm = absurd (step.0 (taken_possible r c e d may))
    alone Ignored b step calm = absurd (ignored_untaken r c e d step.0 may)
    alone Taken b step calm = (refl, unique b step calm)

-- ---- halts last, so that a calm end had calm configurations before it
calm_by : (o p : Option Halt) → IsCalm p → ((h : Halt) → o ≡ Some h → p ≡ Some h) → IsCalm o
calm_by None p calm kept = tt
calm_by (Some h) p calm kept = subst (λ (q : Option Halt). IsCalm q) (kept h refl) calm

calm_step : (r : Round) (c d : Configuration) (e : Event) (o : Outcome) → IsSound r c → Step r c e o d → AreCalm d → AreCalm c
calm_step r c d e Skipped sound step calm = subst (λ (b : Configuration). AreCalm b) step.1 calm
calm_step r c d e Ignored sound step calm = subst (λ (b : Configuration). AreCalm b) step.1 calm
calm_step r c d e Taken sound step calm = λ k p at. let kept = later r c d e sound step k p at in calm_by p.halt kept.node.halt (calm k kept.node kept.at) kept.halt

calm_run : (r : Round) (c d : Configuration) (es : List Event) (os : List Outcome) → IsSound r c → Runs r c es os d → AreCalm d → AreCalm c
calm_run r c d [] [] sound is calm = subst (λ (b : Configuration). AreCalm b) is calm
calm_run r c d [] (o ∷ os) sound none calm = absurd none
calm_run r c d (e ∷ es) [] sound none calm = absurd none
calm_run r c d (e ∷ es) (o ∷ os) sound (next, step, rest) calm = calm_step r c next e o sound step (calm_run r next d es os (steps_keep_soundness r c next e o sound step) rest calm)

-- ---- runs, one event at a time
pub lead_nil : (r : Round) (c : Configuration) → LeadTo r c [] [] c
lead_nil r c = record { may = refl; alone = alone }
  where
    alone : (others : List Outcome) (other : Configuration) → Runs r c [] others other → AreCalm other → (others ≡ []) × (other ≡ c)
    alone [] other is calm = (refl, is)
    alone (o ∷ os) other none calm = absurd none

pub lead_cons : (r : Round) (c next d : Configuration) (e : Event) (o : Outcome) (es : List Event) (os : List Outcome) → IsSound r c → IsCertain r c e o next
    → (IsSound r next → LeadTo r next es os d) → LeadTo r c (e ∷ es) (o ∷ os) d
lead_cons r c next d e o es os sound certain rest = record { may = (next, certain.may, more.may); alone = alone }
  where
    more : LeadTo r next es os d
    more = rest (steps_keep_soundness r c next e o sound certain.may)

    alone : (others : List Outcome) (other : Configuration) → Runs r c (e ∷ es) others other → AreCalm other → (others ≡ o ∷ os) × (other ≡ d)
    alone [] other none calm = absurd none
    alone (o' ∷ os') other (next', step, run) calm =
        let sound' = steps_keep_soundness r c next' e o' sound step in
        let (same, is) = certain.alone o' next' step (calm_run r next' other es os' sound' run calm) in
        let (all, end) = more.alone os' other (subst (λ (b : Configuration). Runs r b es os' other) is run) calm in
        (ap₂ (λ (p : Outcome) (ps : List Outcome). p ∷ ps) same all, end)

-- ---- what a node becomes
node_same : (a b : NodeState) → a.begun ≡ b.begun → a.had ≡ b.had → a.granted ≡ b.granted → a.put_out ≡ b.put_out → a.done ≡ b.done → a.halt ≡ b.halt → a.by_itself ≡ b.by_itself → a ≡ b
node_same a b begun had granted put_out done halt by_itself =
    ap (λ (v : Bool). record a { begun = v }) begun
    ∙ ap (λ (v : List Stamp). record a { begun = b.begun; had = v }) had
    ∙ ap (λ (v : Option ℕ). record a { begun = b.begun; had = b.had; granted = v }) granted
    ∙ ap (λ (v : List Stamp). record a { begun = b.begun; had = b.had; granted = b.granted; put_out = v }) put_out
    ∙ ap (λ (v : Bool). record a { begun = b.begun; had = b.had; granted = b.granted; put_out = b.put_out; done = v }) done
    ∙ ap (λ (v : Option Halt). record a { begun = b.begun; had = b.had; granted = b.granted; put_out = b.put_out; done = b.done; halt = v }) halt
    ∙ ap (λ (v : Bool). record b { by_itself = v }) by_itself

-- it is not done and has no halt
pub record IsOpen (t : NodeState) : Type 0 where
  pub put_out : t.put_out ≡ []
  pub done : t.done ≡ false
  pub halt : t.halt ≡ None
  pub by_itself : t.by_itself ≡ false

pub granted_open : (s : NodeState) → IsOpen s → (n : ℕ) → IsOpen (record s { granted = Some n })
granted_open s is_open n = record { put_out = is_open.put_out; done = is_open.done; halt = is_open.halt; by_itself = is_open.by_itself }

module _ (r : Round) (c : Configuration) (i : ℕ) (t : NodeState) (is_open : IsOpen t) where
  -- ---- what it may do
  done_stays_open : (u : NodeState) → t.done ≡ true → u ≡ t
  done_stays_open u done = absurd (true≢false (sym done ∙ is_open.done))

  halt_stays_open : (u : NodeState) → is_some t.halt ≡ true → u ≡ t
  halt_stays_open u halt = absurd (true≢false (sym halt ∙ ap (λ (o : Option Halt). is_some o) is_open.halt))

  out_of : (new : List Stamp) → new ≡ t.put_out ++ new
  out_of new = ap (λ (l : List Stamp). l ++ new) (sym is_open.put_out)

  pub may_wait : t.granted ≡ None → HasNoStop t.had → Reacts r c i t [] t
  may_wait granted no_stop = record {
    begun = refl;
    had = refl;
    granted = refl;
    put_out = sym (append-nil t.put_out);
    rule = waits (record { granted = granted; no_stop = no_stop; put_out = is_open.put_out; done = is_open.done; halt = is_open.halt; by_itself = is_open.by_itself });
    done_stays = (λ e. refl);
    halt_stays = (λ e. refl);
    halted = (λ h is by_letter. absurd (no_none t.halt h is_open.halt is));
  }

  pub may_finish : (new : List Stamp) → IsGrantedWithin r t.granted → IsInventory (IsSupplyTo r i) t.had → IsInventory (IsSentBy r i false) new → Reacts r c i t new (record t { put_out = new; done = true })
  may_finish new granted had sent = record {
    begun = refl;
    had = refl;
    granted = refl;
    put_out = out_of new;
    rule = finishes (record { granted = granted; had = had; put_out = sent; done = refl; halt = is_open.halt; by_itself = is_open.by_itself });
    done_stays = done_stays_open _;
    halt_stays = halt_stays_open _;
    halted = (λ h is by_letter. absurd (no_none t.halt h is_open.halt is));
  }

  pub may_stop : (new : List Stamp) (halt : Halt) → IsOwnHalt r i t.granted halt → IsInventory (IsSentBy r i true) new → Reacts r c i t new (record t { put_out = new; halt = Some halt; by_itself = true })
  may_stop new halt own sent = record {
    begun = refl;
    had = refl;
    granted = refl;
    put_out = out_of new;
    rule = stops (record { put_out = sent; done = is_open.done; cause = halt; own = own; halt = refl; by_itself = refl });
    done_stays = done_stays_open _;
    halt_stays = halt_stays_open _;
    halted = (λ h is by_letter. absurd (true≢false by_letter));
  }

  pub may_be_stopped : (new : List Stamp) (halt : Halt) (x : Stamp) (s : NodeState) → IsAmong x t.had → x.stop ≡ true → HasNode c x.from s → s.halt ≡ Some halt → t.granted ≡ None → IsInventory (IsSentBy r i true) new
      → Reacts r c i t new (record t { put_out = new; halt = Some halt })
  may_be_stopped new halt x s among stop at is granted sent = record {
    begun = refl;
    had = refl;
    granted = refl;
    put_out = out_of new;
    rule = is_stopped (record { letter = x; had = among; stop = stop; granted = granted; put_out = sent; done = is_open.done; cause = halt; halt = refl; by_itself = is_open.by_itself });
    done_stays = done_stays_open _;
    halt_stays = halt_stays_open _;
    halted = (λ h is' by_letter. (x, s, among, stop, at, is ∙ is'));
  }

  -- ---- what it does where no answer is missing and memory does not run out
  calm_own : (granted : Option ℕ) (cause : Halt) → IsOwnHalt r i granted cause → IsCalm (Some cause) → (total : ℕ) × (granted ≡ Some total) × (r.budget < total) × (cause ≡ Spent r.level total)
  calm_own granted (Spent level total) (same, got, more) calm = (total, got, more, ap (λ (l : ℕ). Spent l total) same)
  calm_own granted (Missing context x) own calm = absurd calm
  calm_own granted Memory own calm = absurd calm

  module _ (new : List Stamp) (u : NodeState) (reacts : Reacts r c i t new u) (calm : IsCalm u.halt) where
    out_is : u.put_out ≡ new
    out_is = reacts.put_out ∙ ap (λ (l : List Stamp). l ++ new) is_open.put_out

    spent : (cause : Halt) → u.halt ≡ Some cause → IsOwnHalt r i u.granted cause → (total : ℕ) × (t.granted ≡ Some total) × (r.budget < total) × (cause ≡ Spent r.level total)
    spent cause is own = let (total, got, more, same) = calm_own u.granted cause own (subst (λ (o : Option Halt). IsCalm o) is calm) in (total, sym reacts.granted ∙ got, more, same)

    pub does_wait : t.granted ≡ None → HasNoStop t.had → (new ≡ []) × (u ≡ t)
    does_wait granted no_stop = by_rule reacts.rule
      where
        by_rule : ObeysRule r i u → (new ≡ []) × (u ≡ t)
        by_rule (waits w) = (sym out_is ∙ w.put_out, node_same u t reacts.begun reacts.had reacts.granted (w.put_out ∙ sym is_open.put_out) (w.done ∙ sym is_open.done) (w.halt ∙ sym is_open.halt) (w.by_itself ∙ sym is_open.by_itself))
        by_rule (finishes f) = let (total, got, within) = f.granted in absurd (no_none t.granted total granted (sym reacts.granted ∙ got))
        by_rule (is_stopped w) = absurd (true≢false (sym w.stop ∙ no_stop w.letter (subst (λ (l : List Stamp). IsAmong w.letter l) reacts.had w.had)))
        by_rule (stops w) = let (total, got, more, same) = spent w.cause w.halt w.own in absurd (no_none t.granted total granted got)

    pub does_finish : (total : ℕ) → t.granted ≡ Some total → total ≤ r.budget → IsInventory (IsSentBy r i false) new × (u ≡ record t { put_out = new; done = true })
    does_finish total granted within = by_rule reacts.rule
      where
        by_rule : ObeysRule r i u → IsInventory (IsSentBy r i false) new × (u ≡ record t { put_out = new; done = true })
        by_rule (waits w) = absurd (no_none t.granted total (sym reacts.granted ∙ w.granted) granted)
        by_rule (finishes f) = (
          subst (λ (l : List Stamp). IsInventory (IsSentBy r i false) l) out_is f.put_out,
          node_same u (record t { put_out = new; done = true }) reacts.begun reacts.had reacts.granted out_is f.done (f.halt ∙ sym is_open.halt) (f.by_itself ∙ sym is_open.by_itself),
        )
        by_rule (is_stopped w) = absurd (no_none t.granted total (sym reacts.granted ∙ w.granted) granted)
        by_rule (stops w) = let (other, got, more, same) = spent w.cause w.halt w.own in let e = some_same t.granted total other granted got in absurd (omega (arith, e, more, within))

    pub does_stop : (total : ℕ) → t.granted ≡ Some total → r.budget < total → IsInventory (IsSentBy r i true) new × (u ≡ record t { put_out = new; halt = Some (Spent r.level total); by_itself = true })
    does_stop total granted over = by_rule reacts.rule
      where
        by_rule : ObeysRule r i u → IsInventory (IsSentBy r i true) new × (u ≡ record t { put_out = new; halt = Some (Spent r.level total); by_itself = true })
        by_rule (waits w) = absurd (no_none t.granted total (sym reacts.granted ∙ w.granted) granted)
        by_rule (finishes f) = let (other, got, within) = f.granted in let e = some_same t.granted total other granted (sym reacts.granted ∙ got) in absurd (omega (arith, e, over, within))
        by_rule (is_stopped w) = absurd (no_none t.granted total (sym reacts.granted ∙ w.granted) granted)
        by_rule (stops w) =
            let (other, got, more, same) = spent w.cause w.halt w.own in
            let e : other ≡ total = some_same t.granted other total got granted in (
              subst (λ (l : List Stamp). IsInventory (IsSentBy r i true) l) out_is w.put_out,
              node_same u (record t { put_out = new; halt = Some (Spent r.level total); by_itself = true }) reacts.begun reacts.had reacts.granted out_is (w.done ∙ sym is_open.done)
                  (w.halt ∙ ap (λ (h : Halt). Some h) same ∙ ap (λ (n : ℕ). Some (Spent r.level n)) e) w.by_itself,
            )

    pub is_halted : (halt : Halt) (x : Stamp) → t.granted ≡ None → IsAmong x t.had → x.stop ≡ true → ((other : Halt) → IsHaltOfSender c t.had other → other ≡ halt)
        → IsInventory (IsSentBy r i true) new × (u ≡ record t { put_out = new; halt = Some halt })
    is_halted halt x granted among stop only = by_rule reacts.rule
      where
        by_rule : ObeysRule r i u → IsInventory (IsSentBy r i true) new × (u ≡ record t { put_out = new; halt = Some halt })
        by_rule (waits w) = absurd (true≢false (sym stop ∙ w.no_stop x (subst (λ (l : List Stamp). IsAmong x l) (sym reacts.had) among)))
        by_rule (finishes f) = let (total, got, within) = f.granted in absurd (no_none t.granted total granted (sym reacts.granted ∙ got))
        by_rule (is_stopped w) =
            let e : w.cause ≡ halt = only w.cause (subst (λ (l : List Stamp). IsHaltOfSender c l w.cause) reacts.had (reacts.halted w.cause w.halt w.by_itself)) in (
              subst (λ (l : List Stamp). IsInventory (IsSentBy r i true) l) out_is w.put_out,
              node_same u (record t { put_out = new; halt = Some halt }) reacts.begun reacts.had reacts.granted out_is (w.done ∙ sym is_open.done)
                  (w.halt ∙ ap (λ (h : Halt). Some h) e) (w.by_itself ∙ sym is_open.by_itself),
            )
        by_rule (stops w) = let (total, got, more, same) = spent w.cause w.halt w.own in absurd (no_none t.granted total granted got)
