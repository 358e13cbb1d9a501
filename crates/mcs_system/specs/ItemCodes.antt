-- By what a proof tells items of knowledge bases apart.
use Rattle.std.specs.Prelude.{◌≡◌, ℕ, List, [], ◌∷◌, ◌++◌, length, refl}
use Rattle.std.specs.Coded.{Coded, code_by, coded×, coded⊎, coded_ℕ, coded_list}
use base.Stored.{coded_via}
use Rattle.std.proofs.Common.{ap, sym, ◌∙◌, eqb, eq-eqb, arith, false, true≢false, ◌⊎◌, inl, inr}
use Rattle.mcs_system.specs.Trees.{Connective, Conjunction, Disjunction, Implication, Equivalence, Tree, Truth, Falsity, Atom, Not, Joined, connective_number, tree_code}
use Rattle.mcs_system.specs.Plain.{Name, Formula, Default, ProgramRule, Item, Fact, Rule}

first : List ℕ → ℕ
first [] = 0
first (x ∷ xs) = x

rest_of : List ℕ → List ℕ
rest_of [] = []
rest_of (x ∷ xs) = xs

pub differ : (m n : ℕ) → eqb m n ≡ false → m ≡ n → ⊥
differ m n e same = true≢false (sym (eq-eqb m n same) ∙ e)

append_apart : (m n r s : List ℕ) → length m ≡ length n → m ++ r ≡ n ++ s → (m ≡ n) × (r ≡ s)
unfolding first rest_of
append_apart [] [] r s long same = (refl, same)
append_apart [] (y ∷ n) r s long same = absurd (omega (arith, long))
append_apart (x ∷ m) [] r s long same = absurd (omega (arith, long))
append_apart (x ∷ m) (y ∷ n) r s long same =
    let both : (m ≡ n) × (r ≡ s) = append_apart m n r s (omega (arith, long)) (ap rest_of same) in
    (ap (λ z. z ∷ m) (ap first same) ∙ ap (λ zs. y ∷ zs) both.0, both.1)

connectives_apart : (c d : Connective) → connective_number c ≡ connective_number d → c ≡ d
connectives_apart Conjunction Conjunction e = refl
connectives_apart Disjunction Disjunction e = refl
connectives_apart Implication Implication e = refl
connectives_apart Equivalence Equivalence e = refl
connectives_apart c d e = absurd (differ (connective_number c) (connective_number d) refl e)

joined_alike : {A : Type 0} (c d : Connective) (t t' u u' : Tree A) → c ≡ d → t ≡ u → t' ≡ u' → Joined c t t' ≡ Joined d u u'
joined_alike c d t t' u u' same left right = ap (λ x. Joined x t t') same ∙ ap (λ x. Joined d x t') left ∙ ap (λ x. Joined d u x) right

module _ {A : Type 0} (leaf : A → List ℕ → List ℕ) (leaves_apart : (x y : A) (r s : List ℕ) → leaf x r ≡ leaf y s → (x ≡ y) × (r ≡ s)) where
  pub trees_apart : (t u : Tree A) (r s : List ℕ) → tree_code leaf t r ≡ tree_code leaf u s → (t ≡ u) × (r ≡ s)
  unfolding tree_code first rest_of
  trees_apart Truth Truth r s e = (refl, ap rest_of e)
  trees_apart Falsity Falsity r s e = (refl, ap rest_of e)
  trees_apart (Atom x) (Atom y) r s e = let both = leaves_apart x y r s (ap rest_of e) in (ap (λ z. Atom z) both.0, both.1)
  trees_apart (Not t) (Not u) r s e = let both = trees_apart t u r s (ap rest_of e) in (ap (λ z. Not z) both.0, both.1)
  trees_apart (Joined c t t') (Joined d u u') r s e =
      let same = connectives_apart c d (ap first (ap rest_of e)) in
      let left = trees_apart t u (tree_code leaf t' r) (tree_code leaf u' s) (ap rest_of (ap rest_of e)) in
      let right = trees_apart t' u' r s left.1 in
      (joined_alike c d t t' u u' same left.0 right.0, right.1)
  trees_apart t u r s e = absurd (differ (first (tree_code leaf t r)) (first (tree_code leaf u s)) refl (ap first e))

  abbrev pub coded_tree : Coded (Tree A)
  coded_tree = coded_via (coded_list coded_ℕ) (λ t. tree_code leaf t []) (λ t u e. (trees_apart t u [] [] e).0)

abbrev pub name_code : Name → List ℕ → List ℕ
name_code n rest = length n ∷ (n ++ rest)

pub names_apart : (m n : Name) (r s : List ℕ) → name_code m r ≡ name_code n s → (m ≡ n) × (r ≡ s)
unfolding first rest_of
names_apart m n r s e = append_apart m n r s (ap first e) (ap rest_of e)

abbrev pub coded_formula : Coded Formula
coded_formula = coded_tree name_code names_apart

abbrev pub coded_name : Coded Name
coded_name = coded_list coded_ℕ

abbrev pub coded_default : Coded Default
coded_default = code_by (Formula × (List Formula × Formula)) (coded× coded_formula (coded× (coded_list coded_formula) coded_formula)) (λ d. (d.pre, (d.justs, d.conclusion))) (λ t. record { pre = t.0; justs = t.1.0; conclusion = t.1.1 }) (λ _. refl)

abbrev pub coded_rule : Coded ProgramRule
coded_rule = code_by (List Name × (List Name × List Name)) (coded× (coded_list coded_name) (coded× (coded_list coded_name) (coded_list coded_name))) (λ r. (r.head, (r.pos, r.neg))) (λ t. record { head = t.0; pos = t.1.0; neg = t.1.1 }) (λ _. refl)

abbrev pub item_parts : Item → Formula ⊎ Default
item_parts (Fact f) = inl f
item_parts (Rule d) = inr d

abbrev pub item_from : Formula ⊎ Default → Item
item_from (inl f) = Fact f
item_from (inr d) = Rule d

pub item-again : (i : Item) → item_from (item_parts i) ≡ i
item-again (Fact f) = refl
item-again (Rule d) = refl

abbrev pub coded_item : Coded Item
coded_item = code_by (Formula ⊎ Default) (coded⊎ coded_formula coded_default) item_parts item_from item-again
