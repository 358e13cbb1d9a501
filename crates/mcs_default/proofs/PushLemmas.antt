-- The clauses of the facts of a theory, one after the other.
use Rattle.std.proofs.Common.{◌≡◌, ℕ, ◌+◌, ◌<◌, ◌≤◌, List, [], ◌∷◌, map, length, get_or, drop, sym, ap, ◌∙◌, subst}
use Rattle.std.proofs.lemmas.List.{drop_all}
use Rattle.mcs_base.proofs.Mapped.{map-drop_more}
use Rattle.mcs_system.specs.Plain.{Name, Formula}
use Rattle.mcs_system.specs.Seen.{formula_of, item_of}
use Rattle.mcs_system.specs.declared.knowledge.TheoryItem as code_item
use Rattle.mcs_system.specs.declared.knowledge.Default as code_default
use Rattle.mcs_system.specs.declared.formula.Formula as code_formula
use Rattle.mcs_system.specs.declared.knowledge.TheoryItem.TheVariants as items
use Rattle.mcs_trace.specs.Clauses.{ClauseList}
use Rattle.mcs_cnf.specs.ClauseLists.{with_formulas}
use Rattle.mcs_cnf.proofs.ListLemmas.{with_append}
use Rattle.mcs_cnf.proofs.GrowingLemmas.{none-with}
use Rattle.mcs_evidence.specs.Defaults.{facts_of, defaults_of, AreOverItems, IsOverItem}

-- ---- the items of a theory
pub items_over : (names : List Name) (xs : List code_item.TheoryItem) (i : ℕ) (x : code_item.TheoryItem) → i < length xs → x ≡ get_or xs i x → AreOverItems names (map item_of (drop i xs)) → IsOverItem names (item_of x) × AreOverItems names (map item_of (drop (i + 1) xs))
items_over names xs i x less is over = subst (AreOverItems names) (map-drop_more item_of xs i x less is) over

pub facts_next : (xs : List code_item.TheoryItem) (i : ℕ) (x : code_item.TheoryItem) → i < length xs → x ≡ get_or xs i x → facts_of (map item_of (drop i xs)) ≡ facts_of (item_of x ∷ map item_of (drop (i + 1) xs))
facts_next xs i x less is = ap facts_of (map-drop_more item_of xs i x less is)

pub fact_next : (xs : List code_item.TheoryItem) (i : ℕ) (x : code_item.TheoryItem) (f : code_formula.Formula) → i < length xs → x ≡ get_or xs i x → x ≡ items.Fact f → facts_of (map item_of (drop i xs)) ≡ formula_of f ∷ facts_of (map item_of (drop (i + 1) xs))
fact_next xs i x f less is fact = facts_next xs i x less is ∙ ap (λ (y : code_item.TheoryItem). facts_of (item_of y ∷ map item_of (drop (i + 1) xs))) fact

pub rule_next : (xs : List code_item.TheoryItem) (i : ℕ) (x : code_item.TheoryItem) (d : code_default.Default) → i < length xs → x ≡ get_or xs i x → x ≡ items.Rule d → facts_of (map item_of (drop i xs)) ≡ facts_of (map item_of (drop (i + 1) xs))
rule_next xs i x d less is rule = facts_next xs i x less is ∙ ap (λ (y : code_item.TheoryItem). facts_of (item_of y ∷ map item_of (drop (i + 1) xs))) rule

pub defaults_next : (xs : List code_item.TheoryItem) (i : ℕ) (x : code_item.TheoryItem) → i < length xs → x ≡ get_or xs i x → defaults_of (map item_of (drop i xs)) ≡ defaults_of (item_of x ∷ map item_of (drop (i + 1) xs))
defaults_next xs i x less is = ap defaults_of (map-drop_more item_of xs i x less is)

pub fact_pushed : (names : List Name) (c c' : ClauseList) (f : Formula) (more whole : List Formula) (target : ClauseList) → c' ≡ with_formulas names c (f ∷ []) → whole ≡ f ∷ more → with_formulas names c whole ≡ target → with_formulas names c' more ≡ target
fact_pushed names c c' f more whole target pushed split all =
    ap (λ (y : ClauseList). with_formulas names y more) pushed ∙ with_append names c (f ∷ []) more ∙ ap (with_formulas names c) (sym split) ∙ all

pub facts_end : (names : List Name) (c c0 : ClauseList) (xs : List code_item.TheoryItem) (i : ℕ) → length xs ≤ i → with_formulas names c (facts_of (map item_of (drop i xs))) ≡ with_formulas names c0 (facts_of (map item_of xs)) → c ≡ with_formulas names c0 (facts_of (map item_of xs))
facts_end names c c0 xs i past all = sym (none-with names c) ∙ ap (λ (ys : List code_item.TheoryItem). with_formulas names c (facts_of (map item_of ys))) (sym (drop_all i xs past)) ∙ all
