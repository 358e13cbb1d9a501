-- What is found by an answer, and that nothing else changes by it.
use Rattle.std.proofs.Common.{◌≡◌, ℕ, ◌≤◌, Bool, true, false, if◌then◌else◌, not, ◌&&◌, ltb, List, [], ◌∷◌, ◌++◌, length, arith, sym, ap, ◌∙◌, subst, Some, None, slice_get, IsTrue, true≢false}
use Rattle.std.proofs.lemmas.Bool.Decides.{nat_tests}
use Rattle.std.proofs.lemmas.Option.{slice_get_within}
use Rattle.std.specs.List.{AllByRecursion}
use Rattle.mcs_sets.specs.Sets.{has, single, such_that}
use Rattle.mcs_sets.proofs.SetLemmas.{has-such_that}
use Rattle.mcs_sets.proofs.Lattice.{no_member_of_none, only_member}
use Rattle.mcs_base.proofs.Each.{all_left, all_weaker, all_pushed}
use Rattle.mcs_system.specs.Plain.{Name, Formula, Not, Default, Item}
use Rattle.mcs_system.specs.Logic.{holds, holds_all, true_names, Entails}
use Rattle.mcs_trace.specs.Clauses.{ClauseList}
use Rattle.mcs_cnf.specs.Entailments.{IsRefuted}
use Rattle.mcs_classical.specs.Models.{IsCounterexample}
use Rattle.mcs_evidence.specs.Defaults.{facts_of, defaults_of, generated}
use Rattle.mcs_system.proofs.Consequence.{each_holds}
use Rattle.mcs_evidence.proofs.DefaultLemmas.{generated_each}
use Rattle.mcs_grounding.specs.Theories.{AreClausesOf, AreParts, consequents}
use Rattle.mcs_default.specs.Assignments.{holds_part, holds_part_of, holds_part_at, with_part}
use Rattle.mcs_default.specs.Searches.{IsSupportedAt, IsUnsupportedAt, IsAllowedAt, IsBlockedAt, IsConflict, IsLower, IsUpper, CanBeAsked}
use Rattle.mcs_default.specs.declared.models.Part as part
use Rattle.mcs_default.specs.declared.models.Part.TheVariants as parts
use Rattle.mcs_default.specs.declared.findings.Lower as lower
use Rattle.mcs_default.specs.declared.findings.Upper as upper
use Rattle.mcs_default.specs.declared.findings.Findings as findings

-- ---- what an assignment shows
module _ (a : List Name) (ds : List Default) where
  part_is : (p : part.Part) (s k : ℕ) (d : Default) → s ≡ such_that (length ds) (holds_part_at a p ds) → slice_get ds k ≡ Some d → has s k ≡ holds_part a p d
  part_is p s k d is at =
      let less = slice_get_within ds k d at in
      let below : ltb k (length ds) ≡ true = grind (arith, nat_tests) in
      ap (λ (t : ℕ). has t k) is ∙ has-such_that (length ds) (holds_part_at a p ds) k ∙ ap (λ (c : Bool). c && holds_part_at a p ds k) below ∙ ap (holds_part_of a p) at

module _ (names : List Name) (items : List Item) (x : upper.Upper) (shown : IsUpper names items x) where
  all_hold : IsTrue (holds_all (true_names 0 names x.values) (generated items x.set))
  all_hold = let a : List Name = true_names 0 names x.values in
      (each_holds a (generated items x.set)).0 (generated_each items x.set (λ p. IsTrue (holds a p)) ((each_holds a (facts_of items)).1 shown.model)
      (λ k d at member. sym (part_is a (defaults_of items) parts.Consequent x.set k d shown.set at) ∙ member))

  pub denied : (g : Formula) → holds (true_names 0 names x.values) g ≡ false → ¬ Entails (generated items x.set) g
  denied g out follows = true≢false (sym (follows (true_names 0 names x.values) all_hold) ∙ out)

  pub nothing_contradicts : ¬ IsConflict items x.set
  nothing_contradicts all = true≢false (sym (all (true_names 0 names x.values) all_hold))

  pub others_unsupported : (k : ℕ) → has x.supported k ≡ false → IsUnsupportedAt items x.set k
  others_unsupported k out d at follows =
      let a : List Name = true_names 0 names x.values in
      true≢false (sym (follows a all_hold) ∙ sym (part_is a (defaults_of items) parts.Prerequisite x.supported k d shown.supported at) ∙ out)

  pub these_allowed : (k : ℕ) → has x.allowed k ≡ true → IsAllowedAt items x.set k
  these_allowed k member d at =
      let a : List Name = true_names 0 names x.values in
      all_weaker (λ j. IsTrue (holds a j)) (λ j. ¬ Entails (generated items x.set) (Not j)) (λ j h follows. true≢false (sym (follows a all_hold) ∙ ap not h)) d.justs
      ((each_holds a d.justs).1 (sym (part_is a (defaults_of items) parts.Justifications x.allowed k d shown.allowed at) ∙ member))

-- what the assignment shows by which a goal is refuted
pub refuted_upper : (names : List Name) (items : List Item) (ds : List Default) (n set places : ℕ) (g : Formula) (x : upper.Upper) → ds ≡ defaults_of items → n ≡ length ds → IsRefuted names (facts_of items ++ consequents ds set) g places
    → x.values ≡ places → x.set ≡ such_that n (holds_part_at (true_names 0 names places) parts.Consequent ds) → x.supported ≡ such_that n (holds_part_at (true_names 0 names places) parts.Prerequisite ds)
    → x.allowed ≡ such_that n (holds_part_at (true_names 0 names places) parts.Justifications ds) → IsUpper names items x
refuted_upper names items ds n set places g x same size refuted is_values is_set is_supported is_allowed =
    let a : List Name = true_names 0 names places in
    let facts : IsTrue (holds_all a (facts_of items)) = (each_holds a (facts_of items)).0 (all_left (λ p. IsTrue (holds a p)) (facts_of items) (consequents ds set) ((each_holds a (facts_of items ++ consequents ds set)).1 refuted.model.formulas)) in
    record {
      model = subst (λ (v : ℕ). IsTrue (holds_all (true_names 0 names v) (facts_of items))) (sym is_values) facts;
      set = is_set ∙ moved parts.Consequent;
      supported = is_supported ∙ moved parts.Prerequisite;
      allowed = is_allowed ∙ moved parts.Justifications;
    }
  where
    moved : (p : part.Part) → such_that n (holds_part_at (true_names 0 names places) p ds) ≡ with_part (true_names 0 names x.values) p (defaults_of items)
    moved p = ap (λ (m : ℕ). such_that m (holds_part_at (true_names 0 names places) p ds)) size ∙ ap (λ (xs : List Default). with_part (true_names 0 names places) p xs) same
        ∙ ap (λ (v : ℕ). with_part (true_names 0 names v) p (defaults_of items)) (sym is_values)

-- ---- what an answer says
pub none_follows : (names : List Name) (items : List Item) (ds : List Default) (known : ClauseList) (set : ℕ) (g : Formula) → AreParts names items ds known
    → ((fs : List Formula) → AreClausesOf names fs known → IsCounterexample names (fs ++ consequents ds set) g None) → Entails (generated items set) g
none_follows names items ds known set g parts told = subst (λ (xs : List Default). Entails (facts_of items ++ consequents xs set) g) parts.0 (told (facts_of items) parts.1)

pub some_denies : (names : List Name) (items : List Item) (ds : List Default) (known : ClauseList) (set places : ℕ) (g : Formula) → AreParts names items ds known
    → ((fs : List Formula) → AreClausesOf names fs known → IsCounterexample names (fs ++ consequents ds set) g (Some places)) → ¬ Entails (generated items set) g
some_denies names items ds known set places g parts told =
    subst (λ (xs : List Default). ¬ Entails (facts_of items ++ consequents xs set) g) parts.0
    (λ follows. (let refuted = told (facts_of items) parts.1 in true≢false (sym (follows (true_names 0 names places) refuted.model.formulas) ∙ refuted.goal)))

-- ---- what was found before stays right
module _ (names : List Name) (ds : List Default) (f f' : findings.Findings) (ready : CanBeAsked names ds f) (kept : f'.facts ≡ f.facts) where
  parts_before : (items : List Item) → AreParts names items ds f'.facts → AreParts names items ds f.facts
  parts_before items parts = subst (AreParts names items ds) kept parts

  room_after : length names ≤ f'.facts.vars
  room_after = subst (λ (k : ClauseList). length names ≤ k.vars) (sym kept) ready.room

  pub ready_upper : (b : Bool) (x : upper.Upper) → f'.conflicts.items ≡ f.conflicts.items → f'.lower.items ≡ f.lower.items → f'.upper.items ≡ (if b then f.upper.items ++ x ∷ [] else f.upper.items) → ((items : List Item) → AreParts names items ds f.facts → IsUpper names items x) → CanBeAsked names ds f'
  ready_upper b x conflicts lows pushed is = record {
    room = room_after;
    right = λ items parts. (let right = ready.right items (parts_before items parts) in (subst (AllByRecursion (IsLower items)) (sym lows) right.0, subst (AllByRecursion (IsUpper names items)) (sym pushed) (all_pushed (IsUpper names items) b f.upper.items x right.1 (is items (parts_before items parts))), subst (AllByRecursion (IsConflict items)) (sym conflicts) right.2));
  }

  pub ready_lower : (b : Bool) (x : lower.Lower) → f'.conflicts.items ≡ f.conflicts.items → f'.upper.items ≡ f.upper.items → f'.lower.items ≡ (if b then f.lower.items ++ x ∷ [] else f.lower.items) → ((items : List Item) → AreParts names items ds f.facts → IsLower items x) → CanBeAsked names ds f'
  ready_lower b x conflicts ups pushed is = record {
    room = room_after;
    right = λ items parts. (let right = ready.right items (parts_before items parts) in (subst (AllByRecursion (IsLower items)) (sym pushed) (all_pushed (IsLower items) b f.lower.items x right.0 (is items (parts_before items parts))), subst (AllByRecursion (IsUpper names items)) (sym ups) right.1, subst (AllByRecursion (IsConflict items)) (sym conflicts) right.2));
  }

  pub ready_conflict : (b : Bool) (set : ℕ) → f'.lower.items ≡ f.lower.items → f'.upper.items ≡ f.upper.items → f'.conflicts.items ≡ (if b then f.conflicts.items ++ set ∷ [] else f.conflicts.items) → ((items : List Item) → AreParts names items ds f.facts → IsConflict items set) → CanBeAsked names ds f'
  ready_conflict b set lows ups pushed is = record {
    room = room_after;
    right = λ items parts. (let right = ready.right items (parts_before items parts) in (subst (AllByRecursion (IsLower items)) (sym lows) right.0, subst (AllByRecursion (IsUpper names items)) (sym ups) right.1, subst (AllByRecursion (IsConflict items)) (sym pushed) (all_pushed (IsConflict items) b f.conflicts.items set right.2 (is items (parts_before items parts)))));
  }

-- ---- one default that is supported, or blocked
pub lower_supported : (items : List Item) (x : lower.Lower) (set i : ℕ) → x.set ≡ set → x.supported ≡ single i → x.blocked ≡ 0 → IsSupportedAt items set i → IsLower items x
lower_supported items x set i is one none supported = record {
  supported = λ k member. subst (λ (j : ℕ). IsSupportedAt items x.set j) (sym (only_member x.supported i one k member)) (subst (λ (s : ℕ). IsSupportedAt items s i) (sym is) supported);
  blocked = λ k member. absurd (no_member_of_none x.blocked none k member);
}

pub lower_blocked : (items : List Item) (x : lower.Lower) (set i : ℕ) → x.set ≡ set → x.supported ≡ 0 → x.blocked ≡ single i → IsBlockedAt items set i → IsLower items x
lower_blocked items x set i is none one blocked = record {
  supported = λ k member. absurd (no_member_of_none x.supported none k member);
  blocked = λ k member. subst (λ (j : ℕ). IsBlockedAt items x.set j) (sym (only_member x.blocked i one k member)) (subst (λ (s : ℕ). IsBlockedAt items s i) (sym is) blocked);
}
