-- What holds of the items of each kind of context, and of the word that says the kind, where faults are looked for: a line a
-- kind. All else is proved of all kinds at once.
use Rattle.std.proofs.Common.{◌≡◌, ℕ, ◌≤◌, Bool, true, false, cond, List, refl, sym, ap, ◌∙◌, inl, inr}
use Rattle.std.specs.Prelude.{count_by}
use Rattle.std.specs.List.{list_all, sum_by}
use Rattle.mcs_base.specs.Listings.{IsAmong}
use Rattle.mcs_base.proofs.Sums.{sum_by_none}
use Rattle.mcs_base.proofs.Booleans.{cond-cond, cond-same}
use Rattle.mcs_system.specs.Plain.{Name, Kind, ClassicalKind, DefaultKind, ProgramKind, ItemOf}
use Rattle.mcs_system.specs.Plain as plain
use Rattle.mcs_system.specs.Kinds.{is_large_in}
use Rattle.mcs_system.specs.Faults.{is_default, default_count, is_large, is_large_rule}
use Rattle.mcs_grammar.specs.Written.{Written, Fact, WrittenRule, WrittenOf, IsWrittenIn}
use Rattle.mcs_grammar.specs.Entries.{Use, SaysProgram, BeginsDefault, formula_in, size_of, entries_in, kind_uses, uses_of}
use Rattle.mcs_grammar.specs.Saying.{item_in, rule_in, said_in}
use Rattle.mcs_account.specs.Items.{formulas_in, rules_in}
use Rattle.mcs_account.specs.Reading.{HasSome}
use Rattle.mcs_account.proofs.UsesParts.{rule_size}
use Rattle.mcs_account.proofs.EntryLists.{formula-some}
use Rattle.mcs_account.proofs.ContextUses.{in_formula}
use Rattle.mcs_faults.proofs.ItemBegins.{is_other, BeginNone, none-formula, none-item, none-rule}
use Rattle.mcs_faults.proofs.ItemSizes.{large-item, large-rule, item-small}
use Rattle.mcs_faults.proofs.ItemCounts.{formula-none, rule-none, item-parts, item-has, rule-has}

-- ---- the word
pub word-other : (k : Kind) (c : Name) → list_all is_other (kind_uses k c) ≡ true
word-other ProgramKind c = refl
word-other k c = refl

pub word-none : (p : Use → Bool) (k : Kind) (n : Name) → p (SaysProgram n) ≡ false → count_by p (kind_uses k n) ≡ 0
word-none p ProgramKind n e = rw e refl
word-none p k n e = refl

-- ---- the tokens of an item
pub none-in : (k : Kind) (c : Name) (i : WrittenOf k) → BeginNone (entries_in k c i)
none-in ClassicalKind c f = none-formula c 0 0 f
none-in DefaultKind c i = none-item c i
none-in ProgramKind c r = none-rule c r

pub has-in : (k : Kind) (c : Name) (i : WrittenOf k) → IsWrittenIn k i → HasSome (entries_in k c i)
has-in ClassicalKind c f h = formula-some c 0 0 f
has-in DefaultKind c i h = item-has c i
has-in ProgramKind c r h = rule-has c r h

-- how many defaults an item is
abbrev pub default_in : (k : Kind) → ItemOf k → ℕ
default_in DefaultKind i = cond (is_default i) 1 0
default_in k i = 0

pub defaults-of : (k : Kind) (items : List (ItemOf k)) → default_count (plain.OfKind k items) ≡ sum_by (default_in k) items
defaults-of DefaultKind items = refl
defaults-of k items = sym (sum_by_none (default_in k) items (λ i here. refl))

-- its uses that are of no formula: one for each default
pub parts-in : (p : Use → Bool) (k : Kind) (n : Name) (i : WrittenOf k) → ((u : Use) → in_formula u ≡ true → p u ≡ false) → count_by p (uses_of (entries_in k n i)) ≡ cond (p (BeginsDefault n)) (default_in k (said_in k i)) 0
parts-in p ClassicalKind n f none = formula-none p n f none ∙ sym (cond-same (p (BeginsDefault n)) 0)
parts-in p DefaultKind n i none = item-parts p n i none ∙ cond-cond (is_default (item_in i)) (p (BeginsDefault n)) 1
parts-in p ProgramKind n r none = rule-none p n r none ∙ sym (cond-same (p (BeginsDefault n)) 0)

-- ---- sizes
pub large-in : (k : Kind) (i : WrittenOf k) (f : Written) → IsAmong f (formulas_in k i) → 513 ≤ size_of f → is_large_in k (said_in k i) ≡ true
large-in ClassicalKind g f there h = large-item (Fact g) f there h
large-in DefaultKind i f there h = large-item i f there h
large-in k i f there h = absurd there

pub large-rule-in : (k : Kind) (i : WrittenOf k) (r : WrittenRule) → IsAmong r (rules_in k i) → 513 ≤ rule_size r → is_large_in k (said_in k i) ≡ true
large-rule-in ProgramKind q r (inl e) h = ap (λ (x : WrittenRule). is_large_rule (rule_in x)) (sym e) ∙ large-rule r h
large-rule-in ProgramKind q r (inr none) h = absurd none
large-rule-in k i r there h = absurd there

pub small-in : (k : Kind) (i : WrittenOf k) → ((f : Written) → IsAmong f (formulas_in k i) → is_large (formula_in f) ≡ false) → ((r : WrittenRule) → IsAmong r (rules_in k i) → is_large_rule (rule_in r) ≡ false) → is_large_in k (said_in k i) ≡ false
small-in ClassicalKind f each each' = each f (inl refl)
small-in DefaultKind i each each' = item-small i each
small-in ProgramKind r each each' = each' r (inl refl)
