-- A text over which the watch found no fault is within the limits, and its contexts and its rules have different names.
use Rattle.std.proofs.Common.{◌≡◌, ℕ, ◌≤◌, List, [], map, length, sym, ap, subst, inl, inr, arith}
use Rattle.std.specs.Prelude.{count_by}
use Rattle.std.proofs.lemmas.List.{length-map}
use Rattle.mcs_base.specs.Listings.{IsAmong}
use Rattle.mcs_sets.specs.Sets.{size}
use Rattle.mcs_base.proofs.Among.{map_among, nil_from_none}
use Rattle.mcs_base.proofs.Distinct.{distinct_fits}
use Rattle.mcs_base.proofs.Each.{all_among}
use Rattle.mcs_system.specs.Plain.{Name, Truth}
use Rattle.mcs_faults.specs.declared.watch.Watch.{Watch}
use Rattle.mcs_faults.specs.declared.watch.ContextSeen.{ContextSeen}
use Rattle.mcs_grammar.specs.Entries.{Use, NamesContext, EndsRead, AtomOf}
use Rattle.mcs_grammar.specs.Faults.{names_target, begins_default_of, begins_item_of, AreDifferent, NamedRead, WasReadInto, WasAtom}
use Rattle.mcs_account.specs.Images.{named_read_of}
use Rattle.mcs_faults.specs.Watching.{ListsEach, IsContextSeen, named_read, IsWatch}
use Rattle.mcs_faults.proofs.Within.{IsWithin}
use Rattle.mcs_faults.proofs.DifferentLemmas.{values-at}
use Rattle.mcs_faults.proofs.WatchFacts.{named-there, no-rules, no-defaults, no-items, is-context}

-- there is no more of one context than the limits allow
record IsFew (uses : List Use) (c : Name) : Type 0 where
  rules : count_by (names_target c) uses ≤ 12
  defaults : count_by (begins_default_of c) uses ≤ 10
  items : count_by (begins_item_of c) uses ≤ 4096
  atoms : (names : List Name) → AreDifferent names → ((a : Name) → IsAmong a names → WasAtom uses c a) → length names ≤ 64
  inputs : (rs : List NamedRead) → AreDifferent rs → ((r : NamedRead) → IsAmong r rs → WasReadInto uses c r) → length rs ≤ 16

module _ (w : Watch) (uses : List Use) (watch : IsWatch w uses) where
  abbrev variables : List NamedRead
  variables = map named_read_of w.variables.items

  -- the reads of a context's inputs
  inputs-read : (s : ContextSeen) → IsContextSeen variables uses s → (rs : List NamedRead) × ListsEach rs (WasReadInto uses s.name) × (length rs ≡ size s.inputs)
  inputs-read s seen =
      values-at variables (named_read [] Truth) s.inputs (WasReadInto uses s.name) watch.variables.0 seen.inputs (λ r was. (watch.variables.1 r).1 (s.name, was))

  -- of a context that was seen
  few-seen : (s : ContextSeen) → IsContextSeen variables uses s → IsFew uses s.name
  few-seen s seen =
      let few = seen.few in
      let read = inputs-read s seen in
      record {
        rules = subst (λ (n : ℕ). n ≤ 12) seen.rules few.0;
        defaults = subst (λ (n : ℕ). n ≤ 10) seen.defaults few.1;
        items = subst (λ (n : ℕ). n ≤ 4096) seen.items few.2;
        atoms = λ names d each. let short = distinct_fits names s.atoms d (λ a h. (seen.atoms.1 a).1 (each a h)) in omega (arith, few.3);
        inputs = λ rs d each. let short = distinct_fits rs read.0 d (λ r h. (read.1.1 r).1 (each r h)) in omega (arith, few.4, read.2);
      }

  -- of a name that no context has
  few-unseen : (c : Name) → ¬ IsAmong (NamesContext c) uses → IsFew uses c
  few-unseen c unseen =
      let rules = no-rules w uses watch c unseen in
      let defaults = no-defaults w uses watch c unseen in
      let items = no-items w uses watch c unseen in
      record {
        rules = omega arith;
        defaults = omega arith;
        items = omega arith;
        atoms = λ names d each. omega (arith, ap length (nil_from_none names (λ a h. unseen (watch.spoken (AtomOf c a) (each a h)))));
        inputs = λ rs d each. omega (arith, ap length (nil_from_none rs (λ r h. unseen (watch.spoken (EndsRead c r.context r.belief) (each r h)).0)));
      }

  few : (c : Name) → IsFew uses c
  few c = elim (is-context w uses watch c) [
    | inl named ↦ let (s, there, is) = map_among (λ (s : ContextSeen). s.name) c w.contexts.items ((named-there w uses watch c).1 named) in
        subst (IsFew uses) (sym is) (few-seen s (all_among (IsContextSeen variables uses) w.contexts.items s watch.seen there))
    | inr unseen ↦ few-unseen c unseen
  ]

  pub within : IsWithin uses
  within =
      let most = watch.few in
      record {
        contexts = subst (λ (n : ℕ). n ≤ 64) watch.begun most.0;
        bridges = subst (λ (n : ℕ). n ≤ 64) watch.bridges_begun most.1;
        rules = λ c. (few c).rules;
        variables = λ rs d each.
            let short = distinct_fits rs variables d (λ r h. (watch.variables.1 r).1 (each r h)) in
            let same = length-map w.variables.items named_read_of in
            omega (arith, most.2);
        inputs = λ t. (few t).inputs;
        atoms = λ c. (few c).atoms;
        defaults = λ c. (few c).defaults;
        items = λ c. (few c).items;
        different_contexts = watch.different.0;
        different_bridges = watch.different.1;
      }
