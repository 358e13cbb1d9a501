-- What a program accepts has a listing.
use Rattle.std.proofs.Common.{◌≡◌, ℕ, ◌^◌, ◌<◌, Bool, true, false, not, ◌&&◌, ◌||◌, ltb, eqb, IsTrue, List, ◌++◌, ◌↔◌, ◌⊎◌, inl, inr, length, map, Option, Some, None, slice_get, arith, refl, sym, ap, ap₂, ◌∙◌, subst, true≢false}
use Rattle.std.proofs.lemmas.Bool.{and_parts, and_from}
use Rattle.std.proofs.lemmas.Bool.Decides.{nat_tests}
use Rattle.std.proofs.lemmas.Option.{slice_get_within}
use Rattle.std.specs.Cmp.{both_ways}
use Rattle.std.specs.List.{AllByRecursion, flat_map}
use Rattle.mcs_sets.specs.Sets.{has, such_that}
use Rattle.mcs_sets.specs.Orders.{StateBefore}
use Rattle.mcs_sets.proofs.SetLemmas.{first_below, has-such_that, same_set}
use Rattle.mcs_sets.proofs.Lattice.{below_from_within}
use Rattle.mcs_base.specs.Listings.{IsAmong}
use Rattle.mcs_base.proofs.Booleans.{test_of, test_of-tells}
use Rattle.mcs_base.proofs.Each.{all_from_among}
use Rattle.mcs_base.proofs.ListingLemmas.{states_of_test, IsListing-same}
use Rattle.mcs_system.specs.Plain.{Name, Formula, Truth, Falsity, Atom, Not, Joined, ProgramRule, Program}
use Rattle.mcs_system.specs.Logic.{is_in, holds_all, true_names, IsAnswerSet, BeliefSet, Theory, Atoms, Believes, Accepts}
use Rattle.mcs_system.specs.Views.{Shows, IsAcceptedView}
use Rattle.mcs_system.specs.Faults.{has_twins}
use Rattle.mcs_system.specs.Atoms.{first_names, rule_atoms}
use Rattle.mcs_system.proofs.Deciding.{decide}
use Rattle.mcs_system.proofs.NameLemmas.{is_in-among, is_in-filter, is_in_flat_map, is_in_left, is_in_right, is_in-first_names, first_names-single}
use Rattle.mcs_evidence.specs.Programs.{rule_formula, smaller_formulas, IsOverRule, AreOverRules}
use Rattle.mcs_evidence.specs.Laws.{ProgramsHaveAListing}
use Rattle.mcs_system.proofs.Tables.{places, true_names-places, places-lt}
use Rattle.mcs_evidence.proofs.Models.{all_in, any_in, all_in_each, all_in_from, any_in_some, any_in_from, reduct_each, reduct_from, answer_set_from_model, no_answer_set, answer_set-holds, answer_set-known, shows-below}

-- ---- the atoms of a program
names_of : List ProgramRule → List Name
names_of rules = first_names (flat_map rule_atoms rules)

names-single : (rules : List ProgramRule) → has_twins (names_of rules) ≡ false
unfolding names_of
names-single rules = first_names-single (flat_map rule_atoms rules)

names-over : (rules : List ProgramRule) → AreOverRules (names_of rules) rules
unfolding names_of
names-over rules = all_from_among (IsOverRule (names_of rules)) rules (λ r among. (
  each r among r.head (λ n h. is_in_left n r.head (r.pos ++ r.neg) h),
  each r among r.pos (λ n h. is_in_right n r.head (r.pos ++ r.neg) (is_in_left n r.pos r.neg h)),
  each r among r.neg (λ n h. is_in_right n r.head (r.pos ++ r.neg) (is_in_right n r.pos r.neg h)),
))
  where
    each : (r : ProgramRule) → IsAmong r rules → (ns : List Name) → ((n : Name) → is_in n ns ≡ true → is_in n (rule_atoms r) ≡ true) → AllByRecursion (λ n. is_in n (names_of rules) ≡ true) ns
    each r among ns part = all_from_among (λ n. is_in n (names_of rules) ≡ true) ns (λ n h.
        is_in-first_names n (flat_map rule_atoms rules) (is_in_flat_map rule_atoms n r rules among (part n ((is_in-among n ns).1 h))))

-- ---- sets with the same members
abbrev Same : List Name → List Name → Type 0
Same a b = (n : Name) → is_in n a ≡ is_in n b

any_same : (a b ns : List Name) → Same a b → any_in a ns ≡ any_in b ns
any_same a b ns same = both_ways (any_in a ns) (any_in b ns)
    (λ h. let (n, there, here) = any_in_some a ns h in any_in_from b ns n there (sym (same n) ∙ here))
    (λ h. let (n, there, here) = any_in_some b ns h in any_in_from a ns n there (same n ∙ here))

all_same : (a b ns : List Name) → Same a b → all_in a ns ≡ all_in b ns
all_same a b ns same = both_ways (all_in a ns) (all_in b ns)
    (λ h. all_in_from b ns (λ n there. sym (same n) ∙ all_in_each a ns h n there))
    (λ h. all_in_from a ns (λ n there. same n ∙ all_in_each b ns h n there))

answer_set_same : (rules : List ProgramRule) (a b : List Name) → Same a b → IsAnswerSet rules a → IsAnswerSet rules b
answer_set_same rules a b same is = record {
  model = reduct_from b b rules (λ r among left.
      ap₂ (λ u v. not u || v) (sym (all_same a b r.pos same)) (sym (any_same a b r.head same)) ∙ reduct_each a a rules is.model r among (any_same a b r.neg same ∙ left));
  minimal = λ c less sat. is.minimal c (record {
    within = λ n h. same n ∙ less.within n h;
    more = less.more;
    in_second = same less.more ∙ less.in_second;
    not_in_first = less.not_in_first;
  }) (reduct_from a c rules (λ r among left. reduct_each b c rules sat r among (sym (any_same a b r.neg same) ∙ left)));
}

-- ---- the view of a set of atoms
believed : List Name → Formula → Bool
believed a (Atom n) = is_in n a
believed a Truth = false
believed a Falsity = false
believed a (Not f) = false
believed a (Joined c f g) = false

believed-tells : (a : List Name) (p : Formula) → (believed a p ≡ true) ↔ Believes (Atoms a) p
unfolding believed
believed-tells a (Atom n) = (λ h. h, λ h. h)
believed-tells a Truth = (λ h. absurd (true≢false (sym h)), λ h. absurd h)
believed-tells a Falsity = (λ h. absurd (true≢false (sym h)), λ h. absurd h)
believed-tells a (Not f) = (λ h. absurd (true≢false (sym h)), λ h. absurd h)
believed-tells a (Joined c f g) = (λ h. absurd (true≢false (sym h)), λ h. absurd h)

believes_same : (a b : List Name) → Same a b → (p : Formula) → Believes (Atoms a) p → Believes (Atoms b) p
unfolding believed
believes_same a b same p h = (believed-tells b p).0 (at p ((believed-tells a p).1 h))
  where
    at : (p : Formula) → believed a p ≡ true → believed b p ≡ true
    at (Atom n) h = sym (same n) ∙ h
    at Truth h = h
    at Falsity h = h
    at (Not f) h = h
    at (Joined c f g) h = h

shown_at : List Name → Option Formula → Bool
shown_at a None = false
shown_at a (Some p) = believed a p

view_of : List Name → List Formula → ℕ
view_of a beliefs = such_that (length beliefs) (λ j. shown_at a (slice_get beliefs j))

view-shows : (a : List Name) (beliefs : List Formula) → Shows (Atoms a) beliefs (view_of a beliefs)
unfolding view_of shown_at
view-shows a beliefs j = (
  λ h. to (slice_get beliefs j) refl (and_parts (ltb j (length beliefs)) (shown_at a (slice_get beliefs j)) (sym (has-such_that (length beliefs) (λ j. shown_at a (slice_get beliefs j)) j) ∙ h)).1,
  λ (p, is, h). has-such_that (length beliefs) (λ j. shown_at a (slice_get beliefs j)) j
      ∙ and_from (ltb j (length beliefs)) (shown_at a (slice_get beliefs j)) (let less = slice_get_within beliefs j p is in grind (arith, nat_tests)) (ap (shown_at a) is ∙ (believed-tells a p).1 h),
)
  where
    to : (o : Option Formula) → slice_get beliefs j ≡ o → shown_at a o ≡ true → (p : Formula) × (slice_get beliefs j ≡ Some p) × Believes (Atoms a) p
    to None e h = absurd (true≢false (sym h))
    to (Some p) e h = (p, e, (believed-tells a p).0 h)

-- sets with the same members have one view
one_view : (a b : List Name) (beliefs : List Formula) (x y : ℕ) → Same a b → Shows (Atoms a) beliefs x → Shows (Atoms b) beliefs y → x ≡ y
one_view a b beliefs x y same shows shows' = same_set x y (λ j. both_ways (has x j) (has y j)
    (λ h. let (p, is, there) = (shows j).0 h in (shows' j).1 (p, is, believes_same a b same p there))
    (λ h. let (p, is, there) = (shows' j).0 h in (shows j).1 (p, is, believes_same b a (λ n. sym (same n)) p there)))

-- ---- which sets of the atoms are answer sets
set_at : List ProgramRule → ℕ → List Name
set_at rules s = true_names 0 (names_of rules) s

decided : (rules : List ProgramRule) (s : ℕ) → IsAnswerSet rules (set_at rules s) ⊎ (¬ IsAnswerSet rules (set_at rules s))
unfolding set_at
decided rules s = at (holds_all (true_names 0 (names_of rules) s) (map rule_formula rules)) refl
  where
    at : (v : Bool) → holds_all (true_names 0 (names_of rules) s) (map rule_formula rules) ≡ v → IsAnswerSet rules (set_at rules s) ⊎ (¬ IsAnswerSet rules (set_at rules s))
    at false e = inr (λ is. true≢false (sym (answer_set-holds rules (true_names 0 (names_of rules) s) is) ∙ e))
    at true e = elim (decide (smaller_formulas (names_of rules) rules s) Falsity) [
      | inl none ↦ inl (answer_set_from_model (names_of rules) rules s (names-single rules) e (λ b h. true≢false (sym (none b h))))
      | inr other ↦ inr (no_answer_set (names_of rules) rules s other.0 (names-over rules) other.1)
    ]

-- each answer set has the members of one of these sets
place_of : List ProgramRule → List Name → ℕ
place_of rules a = places (λ n. is_in n a) (names_of rules)

place-same : (rules : List ProgramRule) (a : List Name) → IsAnswerSet rules a → Same a (set_at rules (place_of rules a))
unfolding set_at place_of
place-same rules a is n =
    let e : is_in n (true_names 0 (names_of rules) (places (λ n. is_in n a) (names_of rules))) ≡ (is_in n (names_of rules) && is_in n a) = ap (is_in n) (true_names-places (λ n. is_in n a) (names_of rules)) ∙ is_in-filter (λ n. is_in n a) n (names_of rules) in
    both_ways (is_in n a) (is_in n (true_names 0 (names_of rules) (places (λ n. is_in n a) (names_of rules))))
    (λ h. e ∙ and_from (is_in n (names_of rules)) (is_in n a) (answer_set-known (names_of rules) rules a (names-over rules) is n h) h)
    (λ h. (and_parts (is_in n (names_of rules)) (is_in n a) (sym e ∙ h)).1)

-- ---- whether a state is a view
hits : List ProgramRule → List Formula → ℕ → ℕ → Bool
hits rules beliefs x s = eqb x (view_of (set_at rules s) beliefs) && test_of (decided rules s)

view_decided : (rules : List ProgramRule) (beliefs : List Formula) (x : ℕ) → IsAcceptedView (Program rules) beliefs x ⊎ (¬ IsAcceptedView (Program rules) beliefs x)
unfolding hits place_of
view_decided rules beliefs x = elim (first_below (2 ^ length (names_of rules)) (hits rules beliefs x)) [ inl none ↦ inr (λ view. outside none view.belief_set view.accepted view.shown) | inr found ↦ inl (inside found.0 found.2) ]
  where
    outside : ((s : ℕ) → s < 2 ^ length (names_of rules) → hits rules beliefs x s ≡ false) → (b : BeliefSet) → Accepts (Program rules) b → Shows b beliefs x → ⊥
    outside none (Theory e) no_way shows = absurd no_way
    outside none (Atoms a) is shows =
        let s = place_of rules a in
        let same = place-same rules a is in
        let one : x ≡ view_of (set_at rules s) beliefs = one_view a (set_at rules s) beliefs x (view_of (set_at rules s) beliefs) same shows (view-shows (set_at rules s) beliefs) in
        let e : eqb x (view_of (set_at rules s) beliefs) ≡ true = grind (arith, nat_tests) in
        true≢false (sym (and_from (eqb x (view_of (set_at rules s) beliefs)) (test_of (decided rules s)) e ((test_of-tells (decided rules s)).1 (answer_set_same rules a (set_at rules s) same is)))
        ∙ none s (places-lt (λ n. is_in n a) (names_of rules)))

    inside : (s : ℕ) → hits rules beliefs x s ≡ true → IsAcceptedView (Program rules) beliefs x
    inside s hit =
        let (e, is) = and_parts (eqb x (view_of (set_at rules s) beliefs)) (test_of (decided rules s)) hit in
        let one : view_of (set_at rules s) beliefs ≡ x = grind (arith, nat_tests) in
        record { belief_set = Atoms (set_at rules s); accepted = (test_of-tells (decided rules s)).0 is; shown = subst (Shows (Atoms (set_at rules s)) beliefs) one (view-shows (set_at rules s) beliefs) }

view_below : (rules : List ProgramRule) (beliefs : List Formula) (x : ℕ) → IsAcceptedView (Program rules) beliefs x → x < 2 ^ length beliefs
view_below rules beliefs x view = below_from_within x (length beliefs) (λ j h. has-such_that (length beliefs) (λ k. true) j ∙ (let less = low view.belief_set view.accepted view.shown j h in let e : ltb j (length beliefs) ≡ true = grind (arith, nat_tests) in rw e refl))
  where
    low : (b : BeliefSet) → Accepts (Program rules) b → Shows b beliefs x → (j : ℕ) → has x j ≡ true → j < length beliefs
    low (Theory e) no_way shows = absurd no_way
    low (Atoms a) is shows = shows-below a beliefs x shows

pub program_views_listed : ProgramsHaveAListing
program_views_listed rules beliefs =
    let (xs, listing) = states_of_test (length beliefs) (λ x. test_of (view_decided rules beliefs x)) in (
      xs,
      IsListing-same StateBefore (λ x. (x < 2 ^ length beliefs) × IsTrue (test_of (view_decided rules beliefs x))) (IsAcceptedView (Program rules) beliefs) xs (λ x. (
        λ h. (test_of-tells (view_decided rules beliefs x)).0 h.1,
        λ view. (view_below rules beliefs x view, (test_of-tells (view_decided rules beliefs x)).1 view),
      )) listing,
    )
