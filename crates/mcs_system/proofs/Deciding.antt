-- Consequence is decided, since only the atoms that occur matter.
use Rattle.std.proofs.Common.{◌≡◌, Bool, true, false, not, ◌||◌, List, [], ◌∷◌, ◌++◌, map, filter, cond, refl, sym, ap, ap₂, ◌∙◌, inl, inr, ◌⊎◌, arith, IsTrue, true≢false}
use Rattle.std.proofs.lemmas.Bool.{and_parts}
use Rattle.std.proofs.lemmas.Bool.Decides.{nat_tests}
use Rattle.std.proofs.lemmas.List.Folds.{list_any-append, list_all-append, list_all-map}
use Rattle.std.specs.List.{list_all}
use Rattle.mcs_system.specs.Trees.{Truth, Falsity, Atom, Not, Joined, joined_value}
use Rattle.mcs_system.specs.Plain.{Name, Formula}
use Rattle.mcs_system.specs.Logic.{atoms, all_atoms, same_name, is_in, holds, holds_all, Entails}
use Rattle.mcs_system.proofs.Sameness.{same_name-itself}
use Rattle.mcs_system.proofs.NameLemmas.{is_in_left, is_in_right, is_in-filter}

pub is_in-append : (n : Name) (xs ys : List Name) → is_in n (xs ++ ys) ≡ (is_in n xs || is_in n ys)
is_in-append n xs ys = list_any-append (same_name n) xs ys

-- two assignments agree on these names
unfoldable pub Agree : List Name → List Name → List Name → Type 0
Agree names a b = (n : Name) → is_in n names ≡ true → is_in n a ≡ is_in n b

pub agree_left : (xs ys a b : List Name) → Agree (xs ++ ys) a b → Agree xs a b
unfolding Agree
agree_left xs ys a b same n h = same n (is_in_left n xs ys h)

pub agree_right : (xs ys a b : List Name) → Agree (xs ++ ys) a b → Agree ys a b
unfolding Agree
agree_right xs ys a b same n h = same n (is_in_right n xs ys h)

pub same_truth : (a b : List Name) (f : Formula) → Agree (atoms f) a b → holds a f ≡ holds b f
unfolding Agree
same_truth a b Truth same = refl
same_truth a b Falsity same = refl
same_truth a b (Atom n) same = same n (rw (same_name-itself n) refl)
same_truth a b (Not f) same = ap not (same_truth a b f same)
same_truth a b (Joined c f g) same = ap₂ (joined_value c) (same_truth a b f (agree_left (atoms f) (atoms g) a b same)) (same_truth a b g (agree_right (atoms f) (atoms g) a b same))

pub same_truths : (a b : List Name) (fs : List Formula) → Agree (all_atoms fs) a b → holds_all a fs ≡ holds_all b fs
same_truths a b [] same = refl
same_truths a b (f ∷ fs) same = rw (same_truth a b f (agree_left (atoms f) (all_atoms fs) a b same), same_truths a b fs (agree_right (atoms f) (all_atoms fs) a b same)) refl

-- an assignment, as far as these names go
pub agree_filter : (a names : List Name) → Agree names a (filter (λ x. is_in x a) names)
unfolding Agree
agree_filter a names n known = sym (is_in-filter (λ x. is_in x a) n names ∙ rw known refl)

abbrev sublists : List Name → List (List Name)
sublists [] = [] ∷ []
sublists (n ∷ ns) = sublists ns ++ map (λ xs. n ∷ xs) (sublists ns)

-- a test that every sublist passes
passes_filter : (q : Name → Bool) (names : List Name) (p : List Name → Bool) → list_all p (sublists names) ≡ true → p (filter q names) ≡ true
passes_filter q [] p all = grind (arith, nat_tests)
passes_filter q (n ∷ ns) p all = at (q n) (passes_filter q ns p both.0) (passes_filter q ns (λ xs. p (n ∷ xs)) (sym (list_all-map p (λ xs. n ∷ xs) (sublists ns)) ∙ both.1))
  where
    both : (list_all p (sublists ns) ≡ true) × (list_all p (map (λ xs. n ∷ xs) (sublists ns)) ≡ true)
    both = and_parts _ _ (sym (list_all-append p (sublists ns) (map (λ xs. n ∷ xs) (sublists ns))) ∙ all)

    at : (v : Bool) → p (filter q ns) ≡ true → p (n ∷ filter q ns) ≡ true → p (cond v (n ∷ filter q ns) (filter q ns)) ≡ true
    at true without with = with
    at false without with = without

-- and one that some sublist fails
some_fails : (p : List Name → Bool) (xs : List (List Name)) → list_all p xs ≡ false → (x : List Name) × (p x ≡ false)
some_fails p [] e = absurd (true≢false e)
some_fails p (x ∷ xs) e = at (p x) refl (some_fails p xs)
  where
    at : (v : Bool) → p x ≡ v → (list_all p xs ≡ false → (x : List Name) × (p x ≡ false)) → (x : List Name) × (p x ≡ false)
    at true is rest = rest (grind (arith, nat_tests))
    at false is rest = (x, is)

-- whether p follows: yes, or an assignment that shows the contrary
pub decide : (fs : List Formula) (p : Formula) → Entails fs p ⊎ ((a : List Name) × IsTrue (holds_all a fs) × (holds a p ≡ false))
decide fs p = at (list_all test (sublists names)) refl
  where
    names : List Name
    names = all_atoms fs ++ atoms p

    test : List Name → Bool
    test a = not (holds_all a fs) || holds a p

    at : (v : Bool) → list_all test (sublists names) ≡ v → Entails fs p ⊎ ((a : List Name) × IsTrue (holds_all a fs) × (holds a p ≡ false))
    at true all = inl (λ a h. follows a h)
      where
        follows : (a : List Name) → holds_all a fs ≡ true → holds a p ≡ true
        follows a h =
            let b : List Name = filter (λ x. is_in x a) names in
            let agree : Agree names a b = agree_filter a names in
            let passed : test b ≡ true = passes_filter (λ x. is_in x a) names test all in
            let e1 : holds_all a fs ≡ holds_all b fs = same_truths a b fs (agree_left (all_atoms fs) (atoms p) a b agree) in
            let e2 : holds a p ≡ holds b p = same_truth a b p (agree_right (all_atoms fs) (atoms p) a b agree) in
            implied (holds_all b fs) (holds b p) passed (sym e1 ∙ h) e2
          where
            implied : (u v : Bool) → (not u || v) ≡ true → u ≡ true → holds a p ≡ v → holds a p ≡ true
            implied true v h e e2 = e2 ∙ h
            implied false v h e e2 = absurd (true≢false (sym e))
    at false some = let (a, fails) = some_fails test (sublists names) some in let both : (holds_all a fs ≡ true) × (holds a p ≡ false) = refuted (holds_all a fs) (holds a p) fails in inr (a, both.0, both.1)
      where
        refuted : (u v : Bool) → (not u || v) ≡ false → (u ≡ true) × (v ≡ false)
        refuted true v e = (refl, e)
        refuted false v e = absurd (true≢false e)
