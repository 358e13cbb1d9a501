-- What follows with assumptions follows with more of them, and what a model of the formulas shows of goals.
use Rattle.std.proofs.Common.{◌≡◌, ℕ, ◌+◌, ◌<◌, ◌≤◌, Bool, true, false, ◌&&◌, ◌||◌, ltb, cond, List, [], ◌∷◌, ◌++◌, ◌⊎◌, inl, inr, map, filter, length, get_or, refl, sym, ap, ◌∙◌, subst, IsTrue, Some, None, slice_get, arith, true≢false}
use Rattle.std.proofs.lemmas.Bool.{and_parts, cases_eq}
use Rattle.std.proofs.lemmas.Bool.Decides.{nat_tests}
use Rattle.std.proofs.lemmas.Option.{slice_get_read, slice_get_within}
use Rattle.std.specs.List.{AllByRecursion, list_any}
use Rattle.std.specs.Prelude.{Option}
use Rattle.mcs_sets.specs.Sets.{has, single, union, common, minus, such_that, Within}
use Rattle.mcs_sets.proofs.SetLemmas.{has-empty, has-common, has-minus, has-such_that}
use Rattle.mcs_sets.proofs.Lattice.{in_union, in_with, only_member, has-common_kept, has-without_itself}
use Rattle.mcs_base.specs.Listings.{IsAmong}
use Rattle.mcs_base.proofs.Among.{among_left}
use Rattle.mcs_base.proofs.Each.{all_get, all_left, all_right, all_append, all_weaker}
use Rattle.mcs_system.specs.Plain.{Name, Formula}
use Rattle.mcs_system.specs.Logic.{Theory, holds, holds_all, true_names}
use Rattle.mcs_system.specs.Seen.{formula_of}
use Rattle.mcs_system.specs.Views.{Shows}
use Rattle.mcs_system.specs.Equality.{same_formula-is}
use Rattle.mcs_system.specs.Systems.{same_formula}
use Rattle.mcs_system.proofs.Consequence.{each_holds, member_follows}
use Rattle.mcs_cnf.specs.ClauseLists.{IsOver, AreOver}
use Rattle.mcs_cnf.specs.Entailments.{IsRefuted}
use Rattle.mcs_classical.specs.Assumptions.{assumed, HoldsAt}
use Rattle.mcs_classical.specs.Consequences.{with_assumed, holds_there, holds_goal, FollowsAt, DoFollow, NoOthersFollow, IsLowerConsequence, IsUpperConsequence, AreConsequences, AreGoalsTold, IsGoalAnswer, is_one_of, stands_at}
use Rattle.mcs_classical.specs.declared.assumptions.Assumption.{Assumption}
use Rattle.mcs_classical.specs.declared.bounds.Lower.{Lower}
use Rattle.mcs_classical.specs.declared.bounds.Upper.{Upper}
use Rattle.mcs_classical.specs.declared.consequences.Consequences.{Consequences}
use Rattle.mcs_classical.specs.declared.consequences.Told.{Told}

-- ---- the formulas of assumptions
-- what holds of each assumption of the set holds of their formulas
assumed_each : (P : Formula → Type 0) (set : ℕ) (xs : List Assumption) → AllByRecursion (λ (a : Assumption). IsTrue (has set a.number) → P (formula_of a.formula.now)) xs → AllByRecursion P (assumed set xs)
assumed_each P set [] all = tt
assumed_each P set (x ∷ xs) all = at (has set x.number) refl (assumed_each P set xs all.1)
  where
    at : (b : Bool) → has set x.number ≡ b → AllByRecursion P (assumed set xs) → AllByRecursion P (map (λ (a : Assumption). formula_of a.formula.now) (cond b (x ∷ filter (λ (a : Assumption). has set a.number) xs) (filter (λ (a : Assumption). has set a.number) xs)))
    at true is rest = (all.0 is, rest)
    at false out rest = rest

-- and back
each_assumed : (P : Formula → Type 0) (set : ℕ) (xs : List Assumption) → AllByRecursion P (assumed set xs) → AllByRecursion (λ (a : Assumption). IsTrue (has set a.number) → P (formula_of a.formula.now)) xs
each_assumed P set [] all = tt
each_assumed P set (x ∷ xs) all = at (has set x.number) refl (each_assumed P set xs) all
  where
    at : (b : Bool) → has set x.number ≡ b → (AllByRecursion P (assumed set xs) → AllByRecursion (λ (a : Assumption). IsTrue (has set a.number) → P (formula_of a.formula.now)) xs)
        → AllByRecursion P (map (λ (a : Assumption). formula_of a.formula.now) (cond b (x ∷ filter (λ (a : Assumption). has set a.number) xs) (filter (λ (a : Assumption). has set a.number) xs)))
        → AllByRecursion (λ (a : Assumption). IsTrue (has set a.number) → P (formula_of a.formula.now)) (x ∷ xs)
    at true is later rest = (λ _. rest.0, later rest.1)
    at false out later rest = (λ is. absurd (true≢false (sym is ∙ out)), later rest)

-- numbers of no assumption change nothing
pub assumed_common : (set numbers : ℕ) (xs : List Assumption) → AllByRecursion (λ (a : Assumption). IsTrue (has numbers a.number)) xs → assumed (common set numbers) xs ≡ assumed set xs
assumed_common set numbers [] all = refl
assumed_common set numbers (x ∷ xs) all =
    ap (λ (b : Bool). map (λ (a : Assumption). formula_of a.formula.now) (cond b (x ∷ filter (λ (a : Assumption). has (common set numbers) a.number) xs) (filter (λ (a : Assumption). has (common set numbers) a.number) xs)))
    (has-common_kept set numbers x.number all.0)
    ∙ at (has set x.number) (assumed_common set numbers xs all.1)
  where
    at : (b : Bool) → assumed (common set numbers) xs ≡ assumed set xs
        → map (λ (a : Assumption). formula_of a.formula.now) (cond b (x ∷ filter (λ (a : Assumption). has (common set numbers) a.number) xs) (filter (λ (a : Assumption). has (common set numbers) a.number) xs))
        ≡ map (λ (a : Assumption). formula_of a.formula.now) (cond b (x ∷ filter (λ (a : Assumption). has set a.number) xs) (filter (λ (a : Assumption). has set a.number) xs))
    at true rest = ap (λ (fs : List Formula). formula_of x.formula.now ∷ fs) rest
    at false rest = rest

pub assumed_over : (names : List Name) (set : ℕ) (xs : List Assumption) → AreOver names (map (λ (a : Assumption). formula_of a.formula.now) xs) → AreOver names (assumed set xs)
assumed_over names set xs over = assumed_each (IsOver names) set xs (go xs over)
  where
    go : (ys : List Assumption) → AreOver names (map (λ (a : Assumption). formula_of a.formula.now) ys) → AllByRecursion (λ (a : Assumption). IsTrue (has set a.number) → IsOver names (formula_of a.formula.now)) ys
    go [] h = tt
    go (y ∷ ys) h = ((λ _. h.0), go ys h.1)

-- ---- more assumptions
module _ (fs : List Formula) (xs : List Assumption) (some more : ℕ) (within : Within some more) where
  fewer_hold : (a : List Name) → IsTrue (holds_all a (with_assumed fs xs more)) → IsTrue (holds_all a (with_assumed fs xs some))
  fewer_hold a all =
      let each = (each_holds a (with_assumed fs xs more)).1 all in
      (each_holds a (with_assumed fs xs some)).0 (all_append (λ p. IsTrue (holds a p)) fs (assumed some xs) (all_left (λ p. IsTrue (holds a p)) fs (assumed more xs) each)
      (assumed_each (λ p. IsTrue (holds a p)) some xs (all_weaker (λ (x : Assumption). IsTrue (has more x.number) → IsTrue (holds a (formula_of x.formula.now))) (λ (x : Assumption). IsTrue (has some x.number) → IsTrue (holds a (formula_of x.formula.now)))
      (λ x h is. h (within x.number is)) xs (each_assumed (λ p. IsTrue (holds a p)) more xs (all_right (λ p. IsTrue (holds a p)) fs (assumed more xs) each)))))

  pub follows_more : (goals : List Formula) (k : ℕ) → FollowsAt (with_assumed fs xs some) goals k → FollowsAt (with_assumed fs xs more) goals k
  follows_more goals k (p, is, follows) = (p, is, λ a all. follows a (fewer_hold a all))

-- ---- what was found
pub entailed_none : (fs goals : List Formula) (places : ℕ) → places ≡ 0 → DoFollow fs goals places
entailed_none fs goals places none k is = absurd (true≢false (sym is ∙ ap (λ (s : ℕ). has s k) none ∙ has-empty k))

module _ (fs : List Formula) (xs : List Assumption) (goals : List Formula) (set places places' i : ℕ) where
  pub entailed_more : (ls : List Lower) (l : Lower) → i < length ls → l ≡ get_or ls i l → Within l.assumed set → places' ≡ union places l.entailed → AllByRecursion (IsLowerConsequence fs xs goals) ls
      → DoFollow (with_assumed fs xs set) goals places → DoFollow (with_assumed fs xs set) goals places'
  entailed_more ls l less is within next all before k member = elim (in_union places l.entailed k (ap (λ (s : ℕ). has s k) (sym next) ∙ member)) [
    | inl old ↦ before k old
    | inr new ↦ follows_more fs xs l.assumed set within goals k (all_get (IsLowerConsequence fs xs goals) ls i l all (slice_get_read ls (length ls) i l refl less is) k new)
  ]

  pub possible_fewer : (us : List Upper) (u : Upper) → i < length us → u ≡ get_or us i u → Within set u.assumed → places' ≡ common places u.possible → AllByRecursion (IsUpperConsequence fs xs goals) us
      → NoOthersFollow (with_assumed fs xs set) goals places → NoOthersFollow (with_assumed fs xs set) goals places'
  possible_fewer us u less is within next all before k follows =
      let here : has u.possible k ≡ true = all_get (IsUpperConsequence fs xs goals) us i u all (slice_get_read us (length us) i u refl less is) k (follows_more fs xs set u.assumed within goals k follows) in
      ap (λ (s : ℕ). has s k) next ∙ has-common_kept places u.possible k here ∙ before k follows

-- the places of a list of goals
pub possible_all : (fs goals : List Formula) (count places : ℕ) → length goals ≡ count → places ≡ such_that count (λ k. true) → NoOthersFollow fs goals places
possible_all fs goals count places size is k (p, at, follows) =
    let less : k < count = omega (arith, size, slice_get_within goals k p at) in
    let below : ltb k count ≡ true = grind (arith, nat_tests) in
    ap (λ (s : ℕ). has s k) is ∙ has-such_that count (λ _. true) k ∙ ap (λ (b : Bool). b && true) below

-- ---- what is told before any goal is asked
pub told_first : (fs goals : List Formula) (possible : ℕ) (t : Told) → DoFollow fs goals t.entailed → NoOthersFollow fs goals possible → t.left ≡ minus possible t.entailed → AreGoalsTold fs goals 0 t
told_first fs goals possible t follow others left = record {
  follow = follow;
  others = λ k follows. at k (has t.entailed k) refl (others k follows);
  asked = λ k less. absurd (omega arith);
}
  where
    at : (k : ℕ) (b : Bool) → has t.entailed k ≡ b → has possible k ≡ true → (has t.entailed k ≡ true) ⊎ (has t.left k ≡ true)
    at k true is may = inl is
    at k false out may = inr (ap (λ (s : ℕ). has s k) left ∙ has-minus possible t.entailed k ∙ rw (may, out) refl)

-- ---- with one more answer
either_off : (a b : Bool) → (a ≡ false) ⊎ (b ≡ false) → (a && b) ≡ false
either_off false b h = refl
either_off true b (inl e) = absurd (true≢false e)
either_off true b (inr e) = e

pub told_follows : (fs goals : List Formula) (place : ℕ) (t t' : Told) → t'.entailed ≡ union t.entailed (single place) → t'.left ≡ minus t.left (single place) → FollowsAt fs goals place → AreGoalsTold fs goals place t → AreGoalsTold fs goals (place + 1) t'
told_follows fs goals place t t' entailed left answer told = record {
  follow = λ k is. elim ((in_with t.entailed place k).0 (ap (λ (s : ℕ). has s k) (sym entailed) ∙ is)) [
    | inl old ↦ told.follow k old
    | inr same ↦ subst (FollowsAt fs goals) (sym same) answer
  ];
  others = λ k follows. elim (told.others k follows) [ inl old ↦ inl (in_entailed k (inl old)) | inr is ↦ at k (has (single place) k) refl is ];
  asked = λ k less. ap (λ (s : ℕ). has s k) left ∙ gone k less;
}
  where
    in_entailed : (k : ℕ) → (has t.entailed k ≡ true) ⊎ (k ≡ place) → has t'.entailed k ≡ true
    in_entailed k h = ap (λ (s : ℕ). has s k) entailed ∙ (in_with t.entailed place k).1 h

    at : (k : ℕ) (b : Bool) → has (single place) k ≡ b → has t.left k ≡ true → (has t'.entailed k ≡ true) ⊎ (has t'.left k ≡ true)
    at k true here is = inl (in_entailed k (inr (only_member (single place) place refl k here)))
    at k false other is = inr (ap (λ (s : ℕ). has s k) left ∙ has-minus t.left (single place) k ∙ rw (is, other) refl)

    gone : (k : ℕ) → k < place + 1 → has (minus t.left (single place)) k ≡ false
    gone k less = elim (cases_eq k place) [
      | inl same ↦ ap (λ (j : ℕ). has (minus t.left (single place)) j) same ∙ has-without_itself t.left place
      | inr differ ↦ has-minus t.left (single place) k ∙ rw (told.asked k (omega arith)) refl
    ]

pub told_model : (fs goals : List Formula) (place possible : ℕ) (t t' : Told) → t'.entailed ≡ t.entailed → t'.left ≡ common t.left possible → NoOthersFollow fs goals possible × (has possible place ≡ false) → AreGoalsTold fs goals place t → AreGoalsTold fs goals (place + 1) t'
told_model fs goals place possible t t' entailed left answer told = record {
  follow = λ k is. told.follow k (ap (λ (s : ℕ). has s k) (sym entailed) ∙ is);
  others = λ k follows. elim (told.others k follows) [
    | inl old ↦ inl (ap (λ (s : ℕ). has s k) entailed ∙ old)
    | inr is ↦ inr (ap (λ (s : ℕ). has s k) left ∙ has-common t.left possible k ∙ rw (is, answer.0 k follows) refl)
  ];
  asked = λ k less. ap (λ (s : ℕ). has s k) left ∙ has-common t.left possible k ∙ either_off (has t.left k) (has possible k) (gone k less);
}
  where
    gone : (k : ℕ) → k < place + 1 → (has t.left k ≡ false) ⊎ (has possible k ≡ false)
    gone k less = elim (cases_eq k place) [
      | inl same ↦ inr (ap (λ (j : ℕ). has possible j) same ∙ answer.1)
      | inr differ ↦ inl (told.asked k (omega arith))
    ]

-- the goal at the place is told already
pub told_already : (fs goals : List Formula) (place : ℕ) (t t' : Told) → t' ≡ t → has t.left place ≡ false → AreGoalsTold fs goals place t → AreGoalsTold fs goals (place + 1) t'
told_already fs goals place t t' is out told = subst (AreGoalsTold fs goals (place + 1)) (sym is) (record {
  follow = told.follow;
  others = told.others;
  asked = λ k less. elim (cases_eq k place) [ inl same ↦ ap (λ (j : ℕ). has t.left j) same ∙ out | inr differ ↦ told.asked k (omega arith) ];
})

-- ---- all is told
shown : (fs goals : List Formula) (place : ℕ) (t : Told) → ((k : ℕ) (p : Formula) → slice_get goals k ≡ Some p → has t.left k ≡ false) → AreGoalsTold fs goals place t → Shows (Theory fs) goals t.entailed
shown fs goals place t none told k = (told.follow k, λ follows. elim (told.others k follows) [ inl is ↦ is | inr left ↦ absurd (true≢false (sym left ∙ none k follows.0 follows.1)) ])

pub told_all : (fs goals : List Formula) (place : ℕ) (t : Told) → length goals ≤ place → AreGoalsTold fs goals place t → Shows (Theory fs) goals t.entailed
told_all fs goals place t past told = shown fs goals place t (λ k p at. told.asked k (omega (arith, past, slice_get_within goals k p at))) told

pub told_none : (fs goals : List Formula) (t : Told) → t.left ≡ 0 → AreGoalsTold fs goals 0 t → Shows (Theory fs) goals t.entailed
told_none fs goals t none told = shown fs goals 0 t (λ k p at. ap (λ (s : ℕ). has s k) none ∙ has-empty k) told

-- ---- a model of formulas
module _ (a : List Name) (goals : List Formula) (places : ℕ) (are : places ≡ such_that (length goals) (holds_goal a goals)) where
  pub model_others : (fs : List Formula) → IsTrue (holds_all a fs) → NoOthersFollow fs goals places
  model_others fs all k (p, at, follows) =
      let less : k < length goals = slice_get_within goals k p at in
      let below : ltb k (length goals) ≡ true = grind (arith, nat_tests) in
      ap (λ (s : ℕ). has s k) are ∙ has-such_that (length goals) (holds_goal a goals) k ∙ ap (λ (b : Bool). b && holds_goal a goals k) below ∙ ap (holds_there a) at ∙ follows a all

  pub model_out : (k : ℕ) (p : Formula) → slice_get goals k ≡ Some p → holds a p ≡ false → has places k ≡ false
  model_out k p at out = ap (λ (s : ℕ). has s k) are ∙ has-such_that (length goals) (holds_goal a goals) k ∙ either_off (ltb k (length goals)) (holds_goal a goals k) (inr (ap (holds_there a) at ∙ out))

-- with the assumptions that hold there too, and so of whatever it is a model
pub model_upper : (names : List Name) (fs : List Formula) (xs : List Assumption) (goals : List Formula) (set values : ℕ) (g : Formula) (u : Upper) → IsRefuted names (with_assumed fs xs set) g values
    → AllByRecursion (λ (a : Assumption). IsTrue (has u.assumed a.number) → HoldsAt names values a) xs → u.possible ≡ such_that (length goals) (holds_goal (true_names 0 names values) goals) → IsUpperConsequence fs xs goals u
model_upper names fs xs goals set values g u refuted each are = model_others a goals u.possible are (with_assumed fs xs u.assumed)
    ((each_holds a (with_assumed fs xs u.assumed)).0 (all_append (λ p. IsTrue (holds a p)) fs (assumed u.assumed xs)
    (all_left (λ p. IsTrue (holds a p)) fs (assumed set xs) ((each_holds a (with_assumed fs xs set)).1 refuted.model.formulas)) (assumed_each (λ p. IsTrue (holds a p)) u.assumed xs each)))
  where
    a : List Name
    a = true_names 0 names values

pub model_answer : (names : List Name) (fs goals : List Formula) (k values places : ℕ) (g : Formula) → slice_get goals k ≡ Some g → IsRefuted names fs g values → places ≡ such_that (length goals) (holds_goal (true_names 0 names values) goals)
    → IsGoalAnswer fs goals k (Some places)
model_answer names fs goals k values places g at refuted are = (
  model_others (true_names 0 names values) goals places are fs refuted.model.formulas,
  model_out (true_names 0 names values) goals places are k g at refuted.goal,
)

-- ---- goals that stand among formulas
among_formulas : (p : Formula) (fs : List Formula) → list_any (same_formula p) fs ≡ true → IsAmong p fs
among_formulas p [] e = absurd (true≢false (sym e))
among_formulas p (f ∷ fs) e = at (same_formula p f) refl e (among_formulas p fs)
  where
    at : (b : Bool) → same_formula p f ≡ b → (b || list_any (same_formula p) fs) ≡ true → (list_any (same_formula p) fs ≡ true → IsAmong p fs) → (p ≡ f) ⊎ IsAmong p fs
    at true is e rest = inl (same_formula-is p f is)
    at false is e rest = inr (rest e)

-- they follow, with more formulas too
pub standing_follow : (fs more goals : List Formula) (places : ℕ) → places ≡ such_that (length goals) (stands_at fs goals) → DoFollow (fs ++ more) goals places
standing_follow fs more goals places are k is = at (slice_get goals k) refl
  where
    stands : stands_at fs goals k ≡ true
    stands = (and_parts (ltb k (length goals)) (stands_at fs goals k) (sym (has-such_that (length goals) (stands_at fs goals) k) ∙ ap (λ (s : ℕ). has s k) (sym are) ∙ is)).1

    at : (o : Option Formula) → slice_get goals k ≡ o → FollowsAt (fs ++ more) goals k
    at None there = absurd (true≢false (sym stands ∙ ap (is_one_of fs) there))
    at (Some p) there = (p, there, member_follows (fs ++ more) p (among_left p fs more (among_formulas p fs (sym (ap (is_one_of fs) there) ∙ stands))))

-- ---- what was found
-- it is right of all assumptions with the same formulas
pub same_found : (fs goals : List Formula) (xs ys : List Assumption) (found : Consequences) → ((set : ℕ) → assumed set ys ≡ assumed set xs) → AreConsequences fs xs goals found → AreConsequences fs ys goals found
same_found fs goals xs ys found same are = record {
  lower = all_weaker (IsLowerConsequence fs xs goals) (IsLowerConsequence fs ys goals) (λ (l : Lower) h. subst (λ (hs : List Formula). DoFollow (fs ++ hs) goals l.entailed) (sym (same l.assumed)) h) found.lower.items are.lower;
  upper = all_weaker (IsUpperConsequence fs xs goals) (IsUpperConsequence fs ys goals) (λ (u : Upper) h. subst (λ (hs : List Formula). NoOthersFollow (fs ++ hs) goals u.possible) (sym (same u.assumed)) h) found.upper.items are.upper;
}
