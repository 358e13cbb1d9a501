-- Formulas that pass the test of sameness are equal, so the test is an equivalence.
use Rattle.std.specs.Prelude.{◌≡◌, Bool, true, ◌&&◌}
use Rattle.std.specs.Cmp.{IsPartialEquivalence, both_ways}
use Rattle.std.proofs.Common.{refl, sym, ap, ap₂, ◌∙◌, true≢false}
use Rattle.std.proofs.lemmas.Bool.{and_parts, and_from}
use Rattle.std.proofs.lemmas.Slice.Eq.{bytes_eq-Decides}
use Rattle.mcs_system.specs.Trees.{Connective, Conjunction, Disjunction, Implication, Equivalence, Tree, Truth, Falsity, Atom, Not, Joined, same_connective, same_tree}
use Rattle.mcs_system.specs.Plain.{Name, Formula}
use Rattle.mcs_system.specs.Logic.{same_name}
use Rattle.mcs_system.specs.Systems.{same_formula}

pub same_name-is : (x y : Name) → same_name x y ≡ true → x ≡ y
same_name-is x y e = (bytes_eq-Decides x y).0 e

pub same_name-itself : (x : Name) → same_name x x ≡ true
same_name-itself x = (bytes_eq-Decides x x).1 refl

same_connective-is : (c d : Connective) → same_connective c d ≡ true → c ≡ d
same_connective-is Conjunction Conjunction e = refl
same_connective-is Disjunction Disjunction e = refl
same_connective-is Implication Implication e = refl
same_connective-is Equivalence Equivalence e = refl
same_connective-is c d e = absurd (true≢false (sym e))

same_connective-itself : (c : Connective) → same_connective c c ≡ true
same_connective-itself Conjunction = refl
same_connective-itself Disjunction = refl
same_connective-itself Implication = refl
same_connective-itself Equivalence = refl

-- trees of one shape, by a test of leaves
module _ {A : Type 0} (same : A → A → Bool) where
  pub same_tree-is : ((x y : A) → same x y ≡ true → x ≡ y) → (t u : Tree A) → same_tree same t u ≡ true → t ≡ u
  same_tree-is is Truth Truth e = refl
  same_tree-is is Falsity Falsity e = refl
  same_tree-is is (Atom x) (Atom y) e = ap (λ z. Atom z) (is x y e)
  same_tree-is is (Not t) (Not u) e = ap (λ z. Not z) (same_tree-is is t u e)
  same_tree-is is (Joined c t t') (Joined d u u') e =
      let first = and_parts (same_connective c d) (same_tree same t u && same_tree same t' u') e in
      let parts = and_parts (same_tree same t u) (same_tree same t' u') first.1 in
      ap (λ z. Joined z t t') (same_connective-is c d first.0) ∙ ap₂ (λ x y. Joined d x y) (same_tree-is is t u parts.0) (same_tree-is is t' u' parts.1)
  same_tree-is is t u e = absurd (true≢false (sym e))

  pub same_tree-itself : ((x : A) → same x x ≡ true) → (t : Tree A) → same_tree same t t ≡ true
  same_tree-itself itself Truth = refl
  same_tree-itself itself Falsity = refl
  same_tree-itself itself (Atom x) = itself x
  same_tree-itself itself (Not t) = same_tree-itself itself t
  same_tree-itself itself (Joined c t u) =
      and_from (same_connective c c) (same_tree same t t && same_tree same u u) (same_connective-itself c)
      (and_from (same_tree same t t) (same_tree same u u) (same_tree-itself itself t) (same_tree-itself itself u))

pub same_formula-is : (f g : Formula) → same_formula f g ≡ true → f ≡ g
same_formula-is f g e = same_tree-is same_name same_name-is f g e

pub same_formula-itself : (f : Formula) → same_formula f f ≡ true
same_formula-itself f = same_tree-itself same_name same_name-itself f

pub same_formula-laws : IsPartialEquivalence same_formula
same_formula-laws = record {
  symm = λ f g. both_ways _ _ (λ e. back f g e) (λ e. back g f e);
  trans = λ f g h e e'. ap (λ x. same_formula x h) (same_formula-is f g e) ∙ e';
}
  where
    back : (f g : Formula) → same_formula f g ≡ true → same_formula g f ≡ true
    back f g e = ap (λ x. same_formula x f) (sym (same_formula-is f g e)) ∙ same_formula-itself f
