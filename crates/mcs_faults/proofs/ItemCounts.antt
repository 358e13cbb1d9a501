-- How many items and defaults the tokens of an item begin.
use Rattle.std.proofs.Common.{◌≡◌, Bool, true, false, cond, codes, List, [], ◌∷◌, ◌++◌, length, refl, sym, ap, ◌∙◌, arith, true≢false}
use Rattle.std.specs.Prelude.{count_by}
use Rattle.std.specs.List.{flat_map}
use Rattle.mcs_base.proofs.Sums.{count_by-cons, count_by-append, count_none, sum_by_none, count_by-flat_map}
use Rattle.mcs_system.specs.Plain.{Name}
use Rattle.mcs_system.specs.Faults.{is_default}
use Rattle.mcs_grammar.specs.Written.{Written, WrittenItem, Fact, Rule, WrittenRule, IsRule}
use Rattle.mcs_grammar.specs.Entries.{Use, BeginsItem, BeginsDefault, Entry, whole_entries, item_entries, head_entries, optional, body_entries, rule_entries, uses_of}
use Rattle.mcs_grammar.specs.Saying.{item_in}
use Rattle.mcs_grammar.specs.Faults.{begins_default_of, begins_item_of}
use Rattle.mcs_account.proofs.EntryLists.{formula-some, some-append}
use Rattle.mcs_account.proofs.ContextUses.{formula_uses, later_formulas, default-all, in_formula, formula-in, rule-in}
use Rattle.mcs_account.proofs.BridgeUses.{in_read}
use Rattle.mcs_account.specs.Reading.{HasSome}

-- ---- what they are not
pub default-no-formula : (c : Name) (u : Use) → in_formula u ≡ true → begins_default_of c u ≡ false
default-no-formula c (BeginsDefault d) e = absurd (true≢false (sym e))
default-no-formula c u e = refl

pub default-no-read : (c : Name) (u : Use) → in_read u ≡ true → begins_default_of c u ≡ false
default-no-read c (BeginsDefault d) e = absurd (true≢false (sym e))
default-no-read c u e = refl

pub item-no-formula : (c : Name) (u : Use) → in_formula u ≡ true → begins_item_of c u ≡ false
item-no-formula c (BeginsItem d) e = absurd (true≢false (sym e))
item-no-formula c u e = refl

pub item-no-read : (c : Name) (u : Use) → in_read u ≡ true → begins_item_of c u ≡ false
item-no-read c (BeginsItem d) e = absurd (true≢false (sym e))
item-no-read c u e = refl

-- ---- an item
module _ (p : Use → Bool) (n : Name) where
  pub formula-none : (f : Written) → ((u : Use) → in_formula u ≡ true → p u ≡ false) → count_by p (formula_uses n f) ≡ 0
  formula-none f none = count_none p (formula_uses n f) (λ u here. none u (formula-in n f u here))

  pub rule-none : (r : WrittenRule) → ((u : Use) → in_formula u ≡ true → p u ≡ false) → count_by p (uses_of (rule_entries n r)) ≡ 0
  rule-none r none = count_none p (uses_of (rule_entries n r)) (λ u here. none u (rule-in n r u here))

  -- of an item: its first colon, where it is a default
  pub item-parts : (i : WrittenItem) → ((u : Use) → in_formula u ≡ true → p u ≡ false) → count_by p (uses_of (item_entries n i)) ≡ cond (is_default (item_in i)) (cond (p (BeginsDefault n)) 1 0) 0
  item-parts (Fact f) none = formula-none f none
  item-parts (Rule d) none =
      let whole = ap (count_by p) (default-all n d) ∙ count_by-append p (formula_uses n d.pre) (BeginsDefault n ∷ flat_map (formula_uses n) (later_formulas d)) in
      let first = formula-none d.pre none in
      let step = count_by-cons p (BeginsDefault n) (flat_map (formula_uses n) (later_formulas d)) in
      let later = count_by-flat_map p (formula_uses n) (later_formulas d) ∙ sum_by_none (λ (f : Written). count_by p (formula_uses n f)) (later_formulas d) (λ f here. formula-none f none) in
      omega arith

pub item-has : (c : Name) (i : WrittenItem) → HasSome (item_entries c i)
item-has c (Fact f) = formula-some c 0 0 f
item-has c (Rule d) = some-append (whole_entries c d.pre) _ (formula-some c 0 0 d.pre)

pub rule-has : (c : Name) (r : WrittenRule) → IsRule r → HasSome (rule_entries c r)
rule-has c r h = at r.head r.has_sign h.head_or_sign
  where
    rest : List Entry
    rest = body_entries c (length r.head) r.body

    signed : (sign : Bool) → sign ≡ true → HasSome (optional sign (codes ":-") ++ rest)
    signed true e = tt
    signed false e = absurd (true≢false (sym e))

    at : (head : List Name) (sign : Bool) → (head ≡ [] → sign ≡ true) → HasSome (head_entries c head ++ (optional sign (codes ":-") ++ rest))
    at [] sign e = signed sign (e refl)
    at (a ∷ names) sign e = tt
