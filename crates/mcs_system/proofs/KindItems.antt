-- What is proved of the items of each kind of knowledge base.
use Rattle.std.proofs.Common.{◌≡◌, ◌+◌, ◌≤◌, true, false, List, length, refl, sym, ap, ◌∙◌, subst, true≢false}
use Rattle.std.proofs.lemmas.Bool.{or_parts, ltb-false}
use Rattle.std.proofs.lemmas.Bool.Decides.{Decides-and, Decides-like}
use Rattle.std.proofs.lemmas.Grind.{flat_map-append}
use Rattle.std.proofs.lemmas.Slice.Eq.{bytes_eq-Decides, slice_eq-Decides}
use Rattle.std.specs.Bool.{Decides}
use Rattle.std.specs.Cmp.Lexicographic.{pointwise}
use Rattle.std.specs.List.{list_any, flat_map, AllByRecursion}
use Rattle.mcs_base.proofs.Each.{all_from_no_any}
use Rattle.mcs_base.proofs.Ranges.{pointwise_images}
use Rattle.mcs_system.specs.declared.formula.Formula as code
use Rattle.mcs_system.specs.declared.knowledge.Default as code_default
use Rattle.mcs_system.specs.declared.knowledge.ProgRule as code_rule
use Rattle.mcs_system.specs.declared.knowledge.TheoryItem as code_item
use Rattle.mcs_system.specs.declared.knowledge.TheoryItem.TheVariants as item
use Rattle.mcs_system.specs.declared.knowledge.Kb as code_kb
use Rattle.mcs_system.specs.declared.knowledge.Kb.TheVariants as kb
use Rattle.mcs_system.specs.contracts.knowledge.DefaultPartialEq.TheImpl as default_eq
use Rattle.mcs_system.specs.contracts.knowledge.ProgRulePartialEq.TheImpl as rule_eq
use Rattle.mcs_system.specs.contracts.knowledge.TheoryItemPartialEq.TheImpl as item_eq
use Rattle.mcs_system.specs.contracts.knowledge.KbPartialEq.TheImpl as kb_eq
use Rattle.mcs_system.specs.Plain.{Name, Formula, Default, ProgramRule, Item, Fact, Rule, Kind, ClassicalKind, DefaultKind, ProgramKind, ItemOf, Kb, OfKind}
use Rattle.mcs_system.specs.Logic.{same_name, is_in, told_to, with_heads}
use Rattle.mcs_system.specs.Seen.{formula_of, formula_size, default_of, rule_of, item_of, kb_of}
use Rattle.mcs_system.specs.Systems.{same_formula}
use Rattle.mcs_system.specs.Items.{is_large, has_large_formula, is_large_rule}
use Rattle.mcs_system.specs.Kinds.{atoms_in, is_large_in}
use Rattle.mcs_system.specs.Atoms.{kb_atoms}
use Rattle.mcs_system.specs.Equality.{same_formula-is, same_formula-itself}
use Rattle.mcs_system.specs.Codes.{same_items}
use Rattle.mcs_system.proofs.NameLemmas.{is_in_left}

-- ---- what is small
abbrev pub IsSmall : Formula → Type 0
IsSmall f = formula_size f ≤ 512

pub record IsSmallDefault (d : Default) : Type 0 where
  pub pre : IsSmall d.pre
  pub justs : AllByRecursion IsSmall d.justs
  pub conclusion : IsSmall d.conclusion

abbrev pub IsSmallItem : Item → Type 0
IsSmallItem (Fact f) = IsSmall f
IsSmallItem (Rule d) = IsSmallDefault d

abbrev pub IsSmallRule : ProgramRule → Type 0
IsSmallRule r = length r.head + (length r.pos + length r.neg) ≤ 512

abbrev pub IsSmallIn : (k : Kind) → ItemOf k → Type 0
IsSmallIn ClassicalKind = IsSmall
IsSmallIn DefaultKind = IsSmallItem
IsSmallIn ProgramKind = IsSmallRule

-- by the tests
pub small : (f : Formula) → is_large f ≡ false → IsSmall f
small f e = ltb-false 512 (formula_size f) e

small_item : (item : Item) → has_large_formula item ≡ false → IsSmallItem item
small_item (Fact f) e = small f e
small_item (Rule d) e =
    let first = or_parts (is_large d.pre) _ e in
    let rest = or_parts (list_any is_large d.justs) (is_large d.conclusion) first.1 in
    record { pre = small d.pre first.0; justs = all_from_no_any IsSmall is_large small d.justs rest.0; conclusion = small d.conclusion rest.1 }

small_rule : (rule : ProgramRule) → is_large_rule rule ≡ false → IsSmallRule rule
small_rule r e = ltb-false 512 (length r.head + (length r.pos + length r.neg)) e

pub small_in : (k : Kind) (item : ItemOf k) → is_large_in k item ≡ false → IsSmallIn k item
small_in ClassicalKind = small
small_in DefaultKind = small_item
small_in ProgramKind = small_rule

-- ---- what `==` tells of the code's values
pub formulas_tell : (f g : code.Formula) → Decides (same_formula (formula_of f) (formula_of g)) (formula_of f ≡ formula_of g)
formulas_tell f g = (same_formula-is (formula_of f) (formula_of g), λ e. ap (λ h. same_formula h (formula_of g)) e ∙ same_formula-itself (formula_of g))

names_tell : (xs ys : List Name) → Decides (pointwise same_name xs ys) (xs ≡ ys)
names_tell xs ys = slice_eq-Decides bytes_eq-Decides xs ys _ refl

defaults_tell : (d e : code_default.Default) → Decides (default_eq.eq-value.it d e) (default_of d ≡ default_of e)
defaults_tell d e = Decides-like _ (λ p. cc) (λ e. (ap (λ (x : Default). x.pre) e, (ap (λ (x : Default). x.justs) e, ap (λ (x : Default). x.conclusion) e)))
    (Decides-and _ _ (formulas_tell d.pre e.pre) (Decides-and _ _ (pointwise_images _ formula_of formulas_tell d.justs.items e.justs.items) (formulas_tell d.conclusion e.conclusion)))

rules_tell : (r s : code_rule.ProgRule) → Decides (rule_eq.eq-value.it r s) (rule_of r ≡ rule_of s)
rules_tell r s = Decides-like _ (λ p. cc) (λ e. (ap (λ (x : ProgramRule). x.head) e, (ap (λ (x : ProgramRule). x.pos) e, ap (λ (x : ProgramRule). x.neg) e)))
    (Decides-and _ _ (names_tell r.head.items s.head.items) (Decides-and _ _ (names_tell r.pos.items s.pos.items) (names_tell r.neg.items s.neg.items)))

items_tell : (i j : code_item.TheoryItem) → Decides (item_eq.eq-value.it i j) (item_of i ≡ item_of j)
items_tell (item.Fact f) (item.Fact g) = Decides-like _ (λ e. cc) (λ e. cc) (formulas_tell f g)
items_tell (item.Rule d) (item.Rule d') = Decides-like _ (λ e. cc) (λ e. cc) (defaults_tell d d')
items_tell (item.Fact f) (item.Rule d) = (λ e. absurd (true≢false (sym e)), λ e. cc)
items_tell (item.Rule d) (item.Fact f) = (λ e. absurd (true≢false (sym e)), λ e. cc)

pub kbs_tell : (k l : code_kb.Kb) → Decides (kb_eq.eq-value.it k l) (kb_of k ≡ kb_of l)
kbs_tell (kb.Classical fs) (kb.Classical gs) = Decides-like _ (ap (OfKind ClassicalKind)) (same_items ClassicalKind _ _) (pointwise_images _ formula_of formulas_tell fs.items gs.items)
kbs_tell (kb.DefaultTheory is) (kb.DefaultTheory js) = Decides-like _ (ap (OfKind DefaultKind)) (same_items DefaultKind _ _) (pointwise_images _ item_of items_tell is.items js.items)
kbs_tell (kb.Program rs) (kb.Program ss) = Decides-like _ (ap (OfKind ProgramKind)) (same_items ProgramKind _ _) (pointwise_images _ rule_of rules_tell rs.items ss.items)
kbs_tell k l = (λ e. absurd (true≢false (sym e)), λ e. cc)

-- ---- heads that are told
-- they leave its atoms to a knowledge base
pub told_atoms : (kb : Kb) (heads : List Formula) (n : Name) → is_in n (kb_atoms kb) ≡ true → is_in n (kb_atoms (with_heads kb heads)) ≡ true
told_atoms (OfKind k items) heads n there =
    subst (λ (ns : List Name). is_in n ns ≡ true) (sym (flat_map-append (atoms_in k) items (told_to k heads)))
    (is_in_left n (flat_map (atoms_in k) items) (flat_map (atoms_in k) (told_to k heads)) there)
