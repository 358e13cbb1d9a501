-- A theory that is searched stays the same.
use Rattle.std.proofs.Common.{◌≡◌, ◌∙◌, ℕ, List, sym, subst}
use Rattle.std.specs.Borrow.{Bor}
use Rattle.mcs_sets.specs.Sets.{Within}
use Rattle.mcs_system.specs.Plain.{Formula, Item}
use Rattle.mcs_trace.specs.Clauses.{ClauseList}
use Rattle.mcs_cnf.specs.ClauseLists.{IsOver}
use Rattle.mcs_evidence.specs.Theories.{all_of}
use Rattle.mcs_grounding.specs.Asked.{AreItemsOf, theory_names, theory_defaults}
use Rattle.mcs_grounding.specs.declared.asked.Theory as theory

module _ {t t' : Bor theory.Theory} {k k' : ClauseList} where
  pub same_items : (items : List Item) → (t' ≡ t) × (k' ≡ k) → AreItemsOf t.now k items → AreItemsOf t'.now k' items
  same_items items same of =
      subst (λ (b : Bor theory.Theory). AreItemsOf b.now k' items) (sym same.0) (subst (λ (c : ClauseList). AreItemsOf t.now c items) (sym same.1) of)

  pub same_before : (items : List Item) → (t' ≡ t) × (k' ≡ k) → AreItemsOf t'.now k' items → AreItemsOf t.now k items
  same_before items same of = subst (λ (b : Bor theory.Theory). AreItemsOf b.now k items) same.0 (subst (λ (c : ClauseList). AreItemsOf t'.now c items) same.1 of)

  pub same_on : {t'' : Bor theory.Theory} {k'' : ClauseList} → (t'' ≡ t') × (k'' ≡ k') → (t' ≡ t) × (k' ≡ k) → (t'' ≡ t) × (k'' ≡ k)
  same_on next same = (next.0 ∙ same.0, next.1 ∙ same.1)

  pub over_kept : (t' ≡ t) × (k' ≡ k) → (f : Formula) → IsOver (theory_names t.now) f → IsOver (theory_names t'.now) f
  over_kept same f over = subst (λ (b : Bor theory.Theory). IsOver (theory_names b.now) f) (sym same.0) over

  pub inside_kept : (t' ≡ t) × (k' ≡ k) → (set : ℕ) → Within set (all_of (theory_defaults t.now)) → Within set (all_of (theory_defaults t'.now))
  inside_kept same set inside = subst (λ (b : Bor theory.Theory). Within set (all_of (theory_defaults b.now))) (sym same.0) inside
