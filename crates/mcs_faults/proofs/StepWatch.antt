-- The watch goes on with one use more.
use Rattle.std.proofs.Common.{◌≡◌, ℕ, ◌+◌, ◌≤◌, cond, List, [], ◌∷◌, ◌++◌, map, length, Some, sym, ap, ◌∙◌, subst, inl, inr, arith, slice_get, slice_set}
use Rattle.std.proofs.lemmas.List.{append-nil}
use Rattle.std.specs.List.{AllByRecursion}
use Rattle.mcs_base.proofs.Distinct.{distinct_push}
use Rattle.mcs_base.proofs.Among.{among_push}
use Rattle.mcs_base.proofs.Sums.{count_by_push}
use Rattle.mcs_system.specs.Plain.{Name, Formula}
use Rattle.mcs_faults.specs.declared.watch.Watch.{Watch}
use Rattle.mcs_faults.specs.declared.watch.ContextSeen.{ContextSeen}
use Rattle.mcs_grammar.specs.Entries.{Use, BeginsContext, BeginsBridge, NamesContext, NamesBridge, NamesTarget, EndsRead}
use Rattle.mcs_grammar.specs.Faults.{begins_context, begins_bridge, AreDifferent, WasRead}
use Rattle.mcs_account.specs.Images.{named_read_of}
use Rattle.mcs_account.specs.Known.{context_named, contexts_named}
use Rattle.mcs_faults.specs.Watching.{bridge_named, bridges_named, ListsEach, IsContextSeen, names_seen, IsWatch, IsUseAllowed}
use Rattle.mcs_account.specs.Images.{IsSpokenOf}
use Rattle.mcs_faults.proofs.LaterLemmas.{earlier, spoken-later, reads-later, named-later, bridges-later}
use Rattle.mcs_faults.proofs.SeenLater.{IsApart, not-longer, all-later, all-set, names-set}
use Rattle.mcs_faults.proofs.WatchFacts.{context-named, bridge-named}

module _ (w : Watch) (before : List Use) (watch : IsWatch w before) (u : Use) (spoken : IsSpokenOf before u) (allowed : IsUseAllowed before u) where
  abbrev after : List Use
  after = before ++ u ∷ []

  different-contexts : AreDifferent (contexts_named before ++ context_named u)
  different-contexts = go u allowed
    where
      go : (v : Use) → IsUseAllowed before v → AreDifferent (contexts_named before ++ context_named v)
      go (NamesContext c) new = distinct_push (contexts_named before) c watch.different.0 (λ h. new ((context-named c before).1 h))
      go v new = subst (λ (ns : List Name). AreDifferent ns) (sym (append-nil (contexts_named before))) watch.different.0

  different-bridges : AreDifferent (bridges_named before ++ bridge_named u)
  different-bridges = go u allowed
    where
      go : (v : Use) → IsUseAllowed before v → AreDifferent (bridges_named before ++ bridge_named v)
      go (NamesBridge b) new = distinct_push (bridges_named before) b watch.different.1 (λ h. new ((bridge-named b before).1 h))
      go v new = subst (λ (ns : List Name). AreDifferent ns) (sym (append-nil (bridges_named before))) watch.different.1

  few-contexts : w.contexts_begun + cond (begins_context u) 1 0 ≤ 64
  few-contexts = go u allowed
    where
      go : (v : Use) → IsUseAllowed before v → w.contexts_begun + cond (begins_context v) 1 0 ≤ 64
      go BeginsContext new = let few = watch.few.0 in let is = watch.begun in let other : w.contexts_begun ≡ 64 → ⊥ = λ e. new (sym is ∙ e) in omega arith
      go v new = let few = watch.few.0 in omega arith

  few-bridges : w.bridges_begun + cond (begins_bridge u) 1 0 ≤ 64
  few-bridges = go u allowed
    where
      go : (v : Use) → IsUseAllowed before v → w.bridges_begun + cond (begins_bridge v) 1 0 ≤ 64
      go BeginsBridge new = let few = watch.few.1 in let is = watch.bridges_begun in let other : w.bridges_begun ≡ 64 → ⊥ = λ e. new (sym is ∙ e) in omega arith
      go v new = let few = watch.few.1 in omega arith

  pub watch-step : (w' : Watch) → w'.contexts_begun ≡ w.contexts_begun + cond (begins_context u) 1 0 → w'.bridges_begun ≡ w.bridges_begun + cond (begins_bridge u) 1 0
      → names_seen w' ≡ names_seen w ++ context_named u → w'.bridges ≡ w.bridges ++ bridge_named u
      → ListsEach (map named_read_of w'.variables.items) (WasRead after) → length w'.variables.items ≤ 64
      → AllByRecursion (IsContextSeen (map named_read_of w'.variables.items) after) w'.contexts.items → IsWatch w' after
  watch-step w' begun bridges_begun names bridges variables few seen = record {
    begun = begun ∙ ap (λ (n : ℕ). n + cond (begins_context u) 1 0) watch.begun ∙ sym (count_by_push begins_context before u);
    bridges_begun = bridges_begun ∙ ap (λ (n : ℕ). n + cond (begins_bridge u) 1 0) watch.bridges_begun ∙ sym (count_by_push begins_bridge before u);
    named = names ∙ ap (λ (ns : List Name). ns ++ context_named u) watch.named ∙ sym (named-later before u);
    bridges = bridges ∙ ap (λ (ns : List Name). ns ++ bridge_named u) watch.bridges ∙ sym (bridges-later before u);
    different = (
      subst (λ (ns : List Name). AreDifferent ns) (sym (named-later before u)) different-contexts,
      subst (λ (ns : List Name). AreDifferent ns) (sym (bridges-later before u)) different-bridges,
    );
    variables = variables;
    seen = seen;
    few = (let less = few-contexts in omega arith, let less = few-bridges in omega arith, few);
    spoken = λ v h. elim ((among_push v before u).0 h) [
      | inl there ↦ spoken-later before u v (watch.spoken v there)
      | inr e ↦ spoken-later before u v (subst (IsSpokenOf before) (sym e) spoken)
    ];
    targets = λ c h. elim ((among_push (NamesTarget c) before u).0 h) [
      | inl there ↦ earlier before u (NamesContext c) (watch.targets c there)
      | inr e ↦ let known : IsUseAllowed before (NamesTarget c) = subst (IsUseAllowed before) (sym e) allowed in earlier before u (NamesContext c) known.0
    ];
    short = λ t c f h. elim ((among_push (EndsRead t c f) before u).0 h) [
      | inl there ↦ watch.short t c f there
      | inr e ↦ let known : IsUseAllowed before (EndsRead t c f) = subst (IsUseAllowed before) (sym e) allowed in known.0
    ];
  }

  -- no read ends
  module _ (no-read : (t c : Name) (f : Formula) → ¬ (EndsRead t c f ≡ u)) where
    -- nothing is said of a context
    pub plain-step : ((n : Name) → IsApart n u) → (w' : Watch) → w'.contexts_begun ≡ w.contexts_begun + cond (begins_context u) 1 0 → w'.bridges_begun ≡ w.bridges_begun + cond (begins_bridge u) 1 0
        → w'.bridges ≡ w.bridges ++ bridge_named u → w'.variables.items ≡ w.variables.items → w'.contexts.items ≡ w.contexts.items → context_named u ≡ [] → IsWatch w' after
    plain-step apart w' begun bridges_begun bridges variables contexts none =
        watch-step w' begun bridges_begun
        (ap (map (λ (s : ContextSeen). s.name)) contexts ∙ sym (append-nil (names_seen w)) ∙ ap (λ (ns : List Name). names_seen w ++ ns) (sym none))
        bridges
        (subst (λ (vs : List _). ListsEach (map named_read_of vs) (WasRead after)) (sym variables) (reads-later before u (map named_read_of w.variables.items) no-read watch.variables))
        (subst (λ (vs : List _). length vs ≤ 64) (sym variables) watch.few.2)
        (subst (λ (vs : List _). AllByRecursion (IsContextSeen (map named_read_of vs) after) w'.contexts.items) (sym variables)
        (subst (AllByRecursion (IsContextSeen (map named_read_of w.variables.items) after)) (sym contexts)
        (all-later _ _ before u (not-longer before (map named_read_of w.variables.items)) w.contexts.items (λ c h. apart c.name) watch.seen)))

    -- more is said of the context at this place
    pub context-step : (k : ℕ) (c c' : ContextSeen) → slice_get w.contexts.items k ≡ Some c → c'.name ≡ c.name → ((n : Name) → ¬ (n ≡ c.name) → IsApart n u) → IsContextSeen (map named_read_of w.variables.items) after c'
        → (w' : Watch) → w'.contexts_begun ≡ w.contexts_begun + cond (begins_context u) 1 0 → w'.bridges_begun ≡ w.bridges_begun + cond (begins_bridge u) 1 0
        → w'.bridges ≡ w.bridges ++ bridge_named u → w'.variables.items ≡ w.variables.items → w'.contexts.items ≡ slice_set w.contexts.items k c' → context_named u ≡ [] → IsWatch w' after
    context-step k c c' here same apart new w' begun bridges_begun bridges variables contexts none =
        watch-step w' begun bridges_begun
        (ap (map (λ (s : ContextSeen). s.name)) contexts ∙ names-set w.contexts.items k c c' here same ∙ sym (append-nil (names_seen w)) ∙ ap (λ (ns : List Name). names_seen w ++ ns) (sym none))
        bridges
        (subst (λ (vs : List _). ListsEach (map named_read_of vs) (WasRead after)) (sym variables) (reads-later before u (map named_read_of w.variables.items) no-read watch.variables))
        (subst (λ (vs : List _). length vs ≤ 64) (sym variables) watch.few.2)
        (subst (λ (vs : List _). AllByRecursion (IsContextSeen (map named_read_of vs) after) w'.contexts.items) (sym variables)
        (subst (AllByRecursion (IsContextSeen (map named_read_of w.variables.items) after)) (sym contexts)
        (all-set _ _ before u (not-longer before (map named_read_of w.variables.items)) w.contexts.items k c c' here
        (subst (λ (ns : List Name). AreDifferent ns) (sym watch.named) watch.different.0) apart new watch.seen)))
