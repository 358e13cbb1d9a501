-- What is known of a set of defaults, finding by finding, and what that tells of a node of the search.
use Rattle.std.proofs.Common.{◌≡◌, ℕ, Bool, true, false, ◌&&◌, ltb, List, [], ◌∷◌, length, map, Some, slice_get, arith, sym, ap, ◌∙◌, subst, inl, inr, true≢false}
use Rattle.std.proofs.lemmas.Bool.Decides.{nat_tests}
use Rattle.std.proofs.lemmas.Option.{slice_get_within}
use Rattle.std.specs.Bool.{◌==◌}
use Rattle.std.specs.List.{AllByRecursion}
use Rattle.mcs_sets.specs.Sets.{has, union, common, minus, Within}
use Rattle.mcs_sets.proofs.SetLemmas.{has-such_that}
use Rattle.mcs_sets.proofs.Lattice.{in_union, in_common, in_minus, no_member_of_none}
use Rattle.mcs_system.specs.Plain.{Name, Formula, Falsity, Not, Default, Item}
use Rattle.mcs_system.specs.Logic.{Entails}
use Rattle.mcs_evidence.specs.Defaults.{defaults_of, generated}
use Rattle.mcs_evidence.specs.Theories.{IsDefaultAt}
use Rattle.mcs_default.specs.Searches.{IsConflict, IsLower, IsUpper, IsOpenAt}
use Rattle.mcs_default.specs.Known.{IsKnown, is_none, lacks_justs, lacks_justs_at, without_justs}
use Rattle.mcs_default.specs.declared.findings.Lower as lower
use Rattle.mcs_default.specs.declared.findings.Upper as upper
use Rattle.mcs_default.specs.declared.known.Known as known
use Rattle.mcs_default.proofs.FindingLemmas.{others_unsupported, these_allowed}
use Rattle.mcs_default.proofs.SearchLemmas.{follows_more, allowed_less, open_undecided}

pub known_nothing : (items : List Item) (e : known.Known) → e.supported ≡ 0 → e.unsupported ≡ 0 → e.allowed ≡ 0 → e.blocked ≡ 0 → IsKnown items e
known_nothing items e supported unsupported allowed blocked = record {
  supported = λ k member. absurd (no_member_of_none e.supported supported k member);
  unsupported = λ k member. absurd (no_member_of_none e.unsupported unsupported k member);
  allowed = λ k member. absurd (no_member_of_none e.allowed allowed k member);
  blocked = λ k member. absurd (no_member_of_none e.blocked blocked k member);
}

-- ---- a set by which everything follows
pub none_of : {A : Type 0} (f : A → Formula) (xs : List A) (b : Bool) → b ≡ (length xs == 0) → b ≡ is_none (map f xs)
none_of f [] b e = e
none_of f (x ∷ xs) b e = e ∙ (let no : (length (x ∷ xs) == 0) ≡ false = grind (arith, nat_tests) in no)

lacks_is : (ds : List Default) (k : ℕ) (d : Default) → slice_get ds k ≡ Some d → has (without_justs ds) k ≡ is_none d.justs
lacks_is ds k d at =
    let less = slice_get_within ds k d at in
    let below : ltb k (length ds) ≡ true = grind (arith, nat_tests) in
    has-such_that (length ds) (lacks_justs_at ds) k ∙ ap (λ (b : Bool). b && lacks_justs_at ds k) below ∙ ap lacks_justs at

module _ (fs : List Formula) where
  none_allowed : (js : List Formula) → is_none js ≡ true → AllByRecursion (λ j. ¬ Entails fs (Not j)) js
  none_allowed [] e = tt
  none_allowed (j ∷ js) e = absurd (true≢false (sym e))

  some_blocked : (js : List Formula) → Entails fs Falsity → is_none js ≡ false → ¬ AllByRecursion (λ j. ¬ Entails fs (Not j)) js
  some_blocked [] conflict e allowed = true≢false e
  some_blocked (j ∷ js) conflict e allowed = allowed.0 (λ a h. absurd (true≢false (sym (conflict a h))))

pub known_conflict : (items : List Item) (e : known.Known) (all free : ℕ) → e.unsupported ≡ 0 → e.allowed ≡ free → e.blocked ≡ minus all free → free ≡ without_justs (defaults_of items) → IsConflict items e.set → IsKnown items e
known_conflict items e all free is_unsupported is_allowed is_blocked is_free conflict = record {
  supported = λ k _ d at a h. absurd (true≢false (sym (conflict a h)));
  unsupported = λ k member. absurd (no_member_of_none e.unsupported is_unsupported k member);
  allowed = λ k member d at. none_allowed (generated items e.set) d.justs
      (sym (lacks_is (defaults_of items) k d at) ∙ sym (ap (λ (s : ℕ). has s k) (is_allowed ∙ is_free)) ∙ member);
  blocked = λ k member d at. some_blocked (generated items e.set) d.justs conflict
      (sym (lacks_is (defaults_of items) k d at) ∙ sym (ap (λ (s : ℕ). has s k) is_free) ∙ (in_minus all free k (subst (λ (s : ℕ). has s k ≡ true) is_blocked member)).1);
}

-- ---- one more finding
module _ (items : List Item) (e : known.Known) (before : IsKnown items e) where
  pub known_lower : (x : lower.Lower) (supported blocked : ℕ) → Within x.set e.set → supported ≡ union e.supported x.supported → blocked ≡ union e.blocked x.blocked → IsLower items x
      → IsKnown items (record { set = e.set; supported = supported; unsupported = e.unsupported; allowed = e.allowed; blocked = blocked })
  known_lower x supported blocked within is_supported is_blocked right = record {
    supported = λ k member d at. (elim (in_union e.supported x.supported k (subst (λ (s : ℕ). has s k ≡ true) is_supported member)) [
      | inl old ↦ before.supported k old d at
      | inr new ↦ follows_more items x.set e.set within d.pre (right.supported k new d at)
    ]);
    unsupported = before.unsupported;
    allowed = before.allowed;
    blocked = λ k member d at is_allowed. (elim (in_union e.blocked x.blocked k (subst (λ (s : ℕ). has s k ≡ true) is_blocked member)) [
      | inl old ↦ before.blocked k old d at is_allowed
      | inr new ↦ right.blocked k new d at (allowed_less items x.set e.set within d is_allowed)
    ]);
  }

  pub known_upper : (names : List Name) (x : upper.Upper) (among unsupported allowed : ℕ) → Within e.set x.set → unsupported ≡ union e.unsupported (minus among x.supported) → allowed ≡ union e.allowed x.allowed → IsUpper names items x
      → IsKnown items (record { set = e.set; supported = e.supported; unsupported = unsupported; allowed = allowed; blocked = e.blocked })
  known_upper names x among unsupported allowed within is_unsupported is_allowed shown = record {
    supported = before.supported;
    unsupported = λ k member d at follows. (elim (in_union e.unsupported (minus among x.supported) k (subst (λ (s : ℕ). has s k ≡ true) is_unsupported member)) [
      | inl old ↦ before.unsupported k old d at follows
      | inr new ↦ others_unsupported names items x shown k (in_minus among x.supported k new).1 d at (follows_more items e.set x.set within d.pre follows)
    ]);
    allowed = λ k member d at. (elim (in_union e.allowed x.allowed k (subst (λ (s : ℕ). has s k ≡ true) is_allowed member)) [
      | inl old ↦ before.allowed k old d at
      | inr new ↦ allowed_less items e.set x.set within d (these_allowed names items x shown k new d at)
    ]);
    blocked = before.blocked;
  }

-- ---- a node between two sets
module _ (items : List Item) (t a : known.Known) (of_taken : IsKnown items t) (of_all : IsKnown items a) where
  pub open_known : Within t.set a.set → (k : ℕ) → has (union (union (minus a.set t.set) (common t.set (common a.supported t.allowed))) (minus (union t.unsupported a.blocked) a.set)) k ≡ true → IsOpenAt items t.set a.set k
  open_known within k member = elim (in_union (union (minus a.set t.set) (common t.set (common a.supported t.allowed))) (minus (union t.unsupported a.blocked) a.set) k member) [
    | inl decided ↦ elim (in_union (minus a.set t.set) (common t.set (common a.supported t.allowed)) k decided) [
      | inl free ↦ let h = in_minus a.set t.set k free in open_undecided items t.set a.set k within h.1 h.0
      | inr inside ↦
          let h = in_common t.set (common a.supported t.allowed) k inside in
          let both = in_common a.supported t.allowed k h.1 in
          record {
            inside = λ _ d at. (of_all.supported k both.0 d at, of_taken.allowed k both.1 d at);
            outside = λ out. absurd (true≢false (sym (within k h.0) ∙ out));
          }
    ]
    | inr outside ↦
        let h = in_minus (union t.unsupported a.blocked) a.set k outside in
        record {
          inside = λ taken. absurd (true≢false (sym (within k taken) ∙ h.1));
          outside = λ _ d at applies. (elim (in_union t.unsupported a.blocked k h.0) [
            | inl never ↦ of_taken.unsupported k never d at applies.0
            | inr blocked ↦ of_all.blocked k blocked d at applies.1
          ]);
        }
  ]

  pub closed_known : (k : ℕ) → has (union (common t.set (union a.unsupported t.blocked)) (minus (common t.supported a.allowed) a.set)) k ≡ true → (d : Default) → IsDefaultAt items k d → ¬ IsOpenAt items t.set a.set k
  closed_known k member d at stays = elim (in_union (common t.set (union a.unsupported t.blocked)) (minus (common t.supported a.allowed) a.set) k member) [
    | inl inside ↦
        let h = in_common t.set (union a.unsupported t.blocked) k inside in
        let applies = stays.inside h.0 d at in
        elim (in_union a.unsupported t.blocked k h.1) [
          | inl never ↦ of_all.unsupported k never d at applies.0
          | inr blocked ↦ of_taken.blocked k blocked d at applies.1
        ]
    | inr outside ↦
        let h = in_minus (common t.supported a.allowed) a.set k outside in
        let both = in_common t.supported a.allowed k h.0 in
        stays.outside h.1 d at (of_taken.supported k both.0 d at, of_all.allowed k both.1 d at)
  ]
