-- A program has the same answer sets without a rule whose twin it has, and rules at the same places are twins.
use Rattle.std.proofs.Common.{◌≡◌, ℕ, ◌+◌, ◌-◌, true, false, Bool, not, ◌||◌, cond, Ordering, List, [], ◌∷◌, ◌++◌, inl, arith, refl, sym, ap, ◌∙◌, subst, true≢false}
use Rattle.std.proofs.lemmas.Bool.{eqb-true, false_from_ne_true, not-false}
use Rattle.std.proofs.lemmas.List.Elements.{All-contains}
use Rattle.std.proofs.lemmas.Map.Views.{All-insert_key, Contains-from_any}
use Rattle.std.specs.declared.cmp.Ordering.TheVariants.{Less, Equal, Greater}
use Rattle.std.specs.Cmp.{both_ways, Equal-is}
use Rattle.std.specs.Ordering.{ordering_then, is_lt, is_eq, is_gt}
use Rattle.std.specs.BTreeSet.{insert_key}
use Rattle.std.specs.List.{All, AllByRecursion, Contains, list_all, list_any}
use Rattle.mcs_sets.specs.Sets.{single}
use Rattle.mcs_sets.specs.Orders.{StateBefore}
use Rattle.mcs_sets.proofs.SetLemmas.{has-single}
use Rattle.mcs_sets.proofs.Lattice.{has-single_itself}
use Rattle.mcs_base.specs.Listings.{IsAmong, IsListing}
use Rattle.mcs_base.proofs.Among.{among_left, among_right}
use Rattle.mcs_base.specs.StateOrder.{state_cmp, equal_is}
use Rattle.mcs_base.proofs.Each.{all_among, all_from_among, all_weaker, all_append, all_push}
use Rattle.mcs_base.proofs.ListingLemmas.{IsListing-same}
use Rattle.mcs_system.specs.Plain.{Name, Formula, ProgramRule, Program}
use Rattle.mcs_system.specs.Faults.{has_twins}
use Rattle.mcs_system.specs.Logic.{same_name, is_in, satisfies, reduct, true_names, BeliefSet, Theory, Atoms, Accepts, IsAnswerSet}
use Rattle.mcs_system.specs.Views.{IsAcceptedView}
use Rattle.mcs_system.proofs.NameLemmas.{is_in-among}
use Rattle.mcs_system.proofs.Sameness.{same_name-is}
use Rattle.mcs_cnf.specs.ClauseLists.{atom_number}
use Rattle.mcs_cnf.proofs.NumberLemmas.{atom_positive}
use Rattle.mcs_evidence.specs.Programs.{IsOverRule, AreOverRules}
use Rattle.mcs_evidence.specs.Pushing.{AreNamesOf}
use Rattle.mcs_evidence.proofs.Models.{all_in, any_in, all_in_each, all_in_from, any_in_some, any_in_from, reduct_each, reduct_from, satisfies_from, satisfies_head, true_names-known}
use Rattle.mcs_program.specs.declared.placing.PlacedRule.{PlacedRule}
use Rattle.mcs_program.specs.Placing.{ArePlaces, IsPlacedRule}
use Rattle.mcs_program.specs.Once.{AreAlike, AreTwins, HasTwin, IsOnce}
use Rattle.mcs_program.proofs.PlaceLemmas.{place_is}

-- ---- lists with the same names
pub alike_itself : (ns : List Name) → AreAlike ns ns
alike_itself ns n = refl

alike_any : (a ns ms : List Name) → AreAlike ns ms → any_in a ns ≡ true → any_in a ms ≡ true
alike_any a ns ms alike h = let (n, there, here) = any_in_some a ns h in any_in_from a ms n (sym (alike n) ∙ there) here

alike_all : (a ns ms : List Name) → AreAlike ns ms → all_in a ns ≡ true → all_in a ms ≡ true
alike_all a ns ms alike h = all_in_from a ms (λ n there. all_in_each a ns h n (alike n ∙ there))

turned : (ns ms : List Name) → AreAlike ns ms → AreAlike ms ns
turned ns ms alike n = sym (alike n)

-- ---- twins
pub twin_itself : (r : ProgramRule) → AreTwins r r
twin_itself r = record { head = alike_itself r.head; positive = alike_itself r.pos; negative = alike_itself r.neg }

twin_satisfied : (b : List Name) (r s : ProgramRule) → AreTwins r s → satisfies b s ≡ true → satisfies b r ≡ true
twin_satisfied b r s twin h = satisfies_from b r (λ body. alike_any b s.head r.head (turned r.head s.head twin.head) (satisfies_head b s h (alike_all b r.pos s.pos twin.positive body)))

twin_negative : (a : List Name) (r s : ProgramRule) → AreTwins r s → any_in a r.neg ≡ false → any_in a s.neg ≡ false
twin_negative a r s twin none = false_from_ne_true (any_in a s.neg) (λ h. true≢false (sym (alike_any a s.neg r.neg (turned r.neg s.neg twin.negative) h) ∙ none))

-- each reduct has the same models
once_reduct : (rules once : List ProgramRule) → IsOnce rules once → (a b : List Name) → list_all (satisfies b) (reduct a rules) ≡ list_all (satisfies b) (reduct a once)
once_reduct rules once is a b = both_ways _ _ to from
  where
    to : list_all (satisfies b) (reduct a rules) ≡ true → list_all (satisfies b) (reduct a once) ≡ true
    to h = reduct_from a b once (λ r among none. reduct_each a b rules h r (all_among (λ s. IsAmong s rules) once r is.within among) none)

    from : list_all (satisfies b) (reduct a once) ≡ true → list_all (satisfies b) (reduct a rules) ≡ true
    from h = reduct_from a b rules (λ r among none.
        let (s, there, twin) = all_among (HasTwin once) rules r is.twins among in
        twin_satisfied b r s twin (reduct_each a b once h s there (twin_negative a r s twin none)))

answer_set_once : (rules once : List ProgramRule) (a : List Name) → IsOnce rules once → IsAnswerSet rules a → IsAnswerSet once a
answer_set_once rules once a is given = record {
  model = sym (once_reduct rules once is a a) ∙ given.model;
  minimal = λ b less h. given.minimal b less (once_reduct rules once is a b ∙ h);
}

answer_set_all : (rules once : List ProgramRule) (a : List Name) → IsOnce rules once → IsAnswerSet once a → IsAnswerSet rules a
answer_set_all rules once a is given = record {
  model = once_reduct rules once is a a ∙ given.model;
  minimal = λ b less h. given.minimal b less (sym (once_reduct rules once is a b) ∙ h);
}

-- so they have the same views
view_again : (rules once : List ProgramRule) (beliefs : List Formula) → ((a : List Name) → IsAnswerSet rules a → IsAnswerSet once a) → (x : ℕ) → IsAcceptedView (Program rules) beliefs x → IsAcceptedView (Program once) beliefs x
view_again rules once beliefs to x view = record { belief_set = view.belief_set; accepted = at view.belief_set view.accepted; shown = view.shown }
  where
    at : (b : BeliefSet) → Accepts (Program rules) b → Accepts (Program once) b
    at (Theory e) none = absurd none
    at (Atoms a) is = to a is

pub once_listing : (rules once : List ProgramRule) (beliefs : List Formula) (xs : List ℕ) → IsOnce rules once → IsListing (IsAcceptedView (Program once) beliefs) StateBefore xs → IsListing (IsAcceptedView (Program rules) beliefs) StateBefore xs
once_listing rules once beliefs xs is = IsListing-same StateBefore (IsAcceptedView (Program once) beliefs) (IsAcceptedView (Program rules) beliefs) xs (λ x. (
  view_again once rules beliefs (λ a. answer_set_all rules once a is) x,
  view_again rules once beliefs (λ a. answer_set_once rules once a is) x,
))

-- ---- further rules
pub once_more : (rules once more : List ProgramRule) → IsOnce rules once → IsOnce (rules ++ more) (once ++ more)
once_more rules once more is = record {
  within = all_append (λ r. IsAmong r (rules ++ more)) once more (all_weaker (λ r. IsAmong r rules) (λ r. IsAmong r (rules ++ more)) (λ r h. among_left r rules more h) once is.within) (all_from_among (λ r. IsAmong r (rules ++ more)) more (λ r h. among_right r rules more h));
  twins = all_append (HasTwin (once ++ more)) rules more (all_weaker (HasTwin once) (HasTwin (once ++ more)) (λ r (s, there, twin). (s, among_left s once more there, twin)) rules is.twins) (all_from_among (HasTwin (once ++ more)) more (λ r h. (r, among_right r once more h, twin_itself r)));
}

pub once_over : (names : List Name) (rules once : List ProgramRule) → IsOnce rules once → AreOverRules names rules → AreOverRules names once
once_over names rules once is over = all_weaker (λ r. IsAmong r rules) (IsOverRule names) (λ r h. all_among (IsOverRule names) rules r over h) once is.within

-- ---- places tell names apart
same_number : (names : List Name) (m n : Name) → is_in n names ≡ true → atom_number names m ≡ atom_number names n → m ≡ n
same_number [] m n known e = absurd (true≢false (sym known))
same_number (x ∷ names) m n known e = at (same_name m x) (same_name n x) refl refl e known (λ there number. same_number names m n there number)
  where
    at : (u v : Bool) → same_name m x ≡ u → same_name n x ≡ v → cond u 1 (atom_number names m + 1) ≡ cond v 1 (atom_number names n + 1) → (v || is_in n names) ≡ true
        → (is_in n names ≡ true → atom_number names m ≡ atom_number names n → m ≡ n) → m ≡ n
    at true true um vn e known later = same_name-is m x um ∙ sym (same_name-is n x vn)
    at true false um vn e known later = absurd (omega (arith, atom_positive names n, e))
    at false true um vn e known later = absurd (omega (arith, atom_positive names m, e))
    at false false um vn e known later = later known (omega (arith, e))

module _ (names : List Name) (apart : has_twins names ≡ false) where
  at_places : (these those : List Name) (p : ℕ) → AreNamesOf names these → ArePlaces names these p → ArePlaces names those p → (n : Name) → is_in n these ≡ true → is_in n those ≡ true
  at_places these those p over a b n here =
      let known : is_in n names ≡ true = all_among (λ (x : Name). is_in x names ≡ true) these n over ((is_in-among n these).0 here) in
      let j : ℕ = atom_number names n - 1 in
      let one = true_names 0 names (single j) in
      let in_these : any_in one these ≡ true = any_in_from one these n here ((place_is names n j apart known refl).tells (single j) ∙ has-single_itself j) in
      let (m, there, same) = any_in_some one those (sym (b.some (single j)) ∙ a.some (single j) ∙ in_these) in
      let known' : is_in m names ≡ true = true_names-known m 0 names (single j) same in
      let e : atom_number names m - 1 ≡ j = eqb-true (atom_number names m - 1) j (sym (has-single j (atom_number names m - 1)) ∙ sym ((place_is names m (atom_number names m - 1) apart known' refl).tells (single j)) ∙ same) in
      let equal : m ≡ n = same_number names m n known (omega (arith, e, atom_positive names m, atom_positive names n)) in
      subst (λ (x : Name). is_in x those ≡ true) equal there

  alike : (these those : List Name) (p : ℕ) → AreNamesOf names these → AreNamesOf names those → ArePlaces names these p → ArePlaces names those p → AreAlike these those
  alike these those p over over' a b n = both_ways _ _ (at_places these those p over a b n) (at_places those these p over' b a n)

  pub placed_twins : (r s : ProgramRule) (p : PlacedRule) → IsOverRule names r → IsOverRule names s → IsPlacedRule names r p → IsPlacedRule names s p → AreTwins r s
  placed_twins r s p over over' a b = record {
    head = alike r.head s.head p.head over.0 over'.0 a.head b.head;
    positive = alike r.pos s.pos p.pos over.1 over'.1 a.positive b.positive;
    negative = alike r.neg s.neg p.neg over.2 over'.2 a.negative b.negative;
  }

-- ---- rules that are taken one after the other
abbrev pub IsPlacedOf : List Name → List ProgramRule → PlacedRule → Type 0
IsPlacedOf names once p = (s : ProgramRule) × IsAmong s once × IsPlacedRule names s p

-- what was seen is what was taken, and each rule so far has a twin there
pub record IsTaken (names : List Name) (rules past : List ProgramRule) (seen : List PlacedRule) (once : List ProgramRule) : Type 0 where
  pub within : AllByRecursion (λ r. IsAmong r rules) once
  pub twins : AllByRecursion (HasTwin once) past
  pub placed : All (IsPlacedOf names once) seen

pub none_taken : (names : List Name) (rules : List ProgramRule) (seen : List PlacedRule) (once : List ProgramRule) → seen ≡ [] → once ≡ [] → IsTaken names rules [] seen once
none_taken names rules seen once e f = subst (λ (xs : List PlacedRule). IsTaken names rules [] xs once) (sym e) (subst (IsTaken names rules [] []) (sym f) (record { within = tt; twins = tt; placed = λ k d less. absurd (omega (arith, less)) }))

module _ (cmp : PlacedRule → PlacedRule → Ordering) (names : List Name) (rules past : List ProgramRule) (seen : List PlacedRule) (once : List ProgramRule) (r : ProgramRule) (p : PlacedRule) (is : IsTaken names rules past seen once) (placed : IsPlacedRule names r p) where
  pub new_taken : (once' : List ProgramRule) → IsAmong r rules → once' ≡ once ++ r ∷ [] → IsTaken names rules (past ++ r ∷ []) (insert_key cmp seen p) once'
  new_taken once' among e = subst (IsTaken names rules (past ++ r ∷ []) (insert_key cmp seen p)) (sym e) (record {
    within = all_push (λ s. IsAmong s rules) once r is.within among;
    twins = all_push (HasTwin (once ++ r ∷ [])) past r (all_weaker (HasTwin once) (HasTwin (once ++ r ∷ [])) (λ s (t, there, twin). (t, among_left t once (r ∷ []) there, twin)) past is.twins) (r, among_right r once (r ∷ []) (inl refl), twin_itself r);
    placed = All-insert_key cmp p (IsPlacedOf names (once ++ r ∷ [])) seen (λ k d less. let (s, there, at) = is.placed k d less in (s, among_left s once (r ∷ []) there, at)) (r, among_right r once (r ∷ []) (inl refl), placed);
  })

  pub twin_taken : has_twins names ≡ false → AreOverRules names rules → IsOverRule names r → Contains seen p → IsTaken names rules (past ++ r ∷ []) (insert_key cmp seen p) once
  twin_taken single over over_r there =
      let (s, among, at) = All-contains (IsPlacedOf names once) seen p is.placed there in
      let over_s : IsOverRule names s = all_among (IsOverRule names) rules s over (all_among (λ t. IsAmong t rules) once s is.within among) in record {
        within = is.within;
        twins = all_push (HasTwin once) past r is.twins (s, among, placed_twins names single r s p over_r over_s placed at);
        placed = All-insert_key cmp p (IsPlacedOf names once) seen is.placed (s, among, at);
      }

pub all_taken : (names : List Name) (rules : List ProgramRule) (seen : List PlacedRule) (once : List ProgramRule) → IsTaken names rules rules seen once → IsOnce rules once
all_taken names rules seen once is = record { within = is.within; twins = is.twins }

-- ---- the order of placed rules tells them apart
abbrev pub placed_cmp : PlacedRule → PlacedRule → Ordering
placed_cmp x y = ordering_then (state_cmp x.head y.head) (ordering_then (state_cmp x.pos y.pos) (state_cmp x.neg y.neg))

both_equal : (a b : Ordering) → ordering_then a b ≡ Equal → (a ≡ Equal) × (b ≡ Equal)
both_equal Less b e = absurd (true≢false (ap is_lt e))
both_equal Equal b e = (refl, e)
both_equal Greater b e = absurd (true≢false (ap is_gt e))

pub same_places : (x y : PlacedRule) → placed_cmp x y ≡ Equal → x ≡ y
same_places x y e =
    let (first, rest) = both_equal (state_cmp x.head y.head) (ordering_then (state_cmp x.pos y.pos) (state_cmp x.neg y.neg)) e in
    let (second, third) = both_equal (state_cmp x.pos y.pos) (state_cmp x.neg y.neg) rest in
    λ i. record { head = equal_is x.head y.head first i; pos = equal_is x.pos y.pos second i; neg = equal_is x.neg y.neg third i }

pub seen_before : (seen : List PlacedRule) (p : PlacedRule) (added : Bool) → added ≡ not (list_any (λ q. is_eq (placed_cmp p q)) seen) → added ≡ false → Contains seen p
seen_before seen p added e old = Contains-from_any (λ x y h. same_places x y ((Equal-is (placed_cmp x y)).0 h)) p seen (not-false (list_any (λ q. is_eq (placed_cmp p q)) seen) (sym e ∙ old))
