-- A text that says a valid system keeps the limits on sizes, and where it is shallow and its names are short also
-- those on parentheses and names.
use Rattle.std.proofs.Common.{◌≡◌, ℕ, ◌≤◌, true, ◌++◌, map, take, Some, refl, sym, ap, subst, ◌∙◌, inl, inr, arith, true≢false, slice_get}
use Rattle.std.specs.List.{list_any}
use Rattle.std.proofs.lemmas.Bool.{or_left, or_right}
use Rattle.mcs_base.specs.Listings.{IsAmong}
use Rattle.mcs_base.proofs.Among.{among_map, among_get, flat_map_among, among_any}
use Rattle.mcs_system.specs.Plain as plain
use Rattle.mcs_system.specs.Faults.{is_large, has_large_item, has_large_part, exceeds, IsValid}
use Rattle.mcs_system.specs.declared.limit.Limit.TheVariants.{FormulaSize, OpenParentheses, NameBytes}
use Rattle.mcs_system.proofs.ValidLemmas.{limit_kept}
use Rattle.mcs_grammar.specs.Written.{Written, WrittenRule, WrittenKb, OfKind, WrittenContext, WrittenText}
use Rattle.mcs_grammar.specs.Entries.{IsNumber, OpensWithin, Entry, formula_in, size_of, text_entries, uses_of}
use Rattle.mcs_grammar.specs.Saying.{said_in, kb_in, context_in, SaysSystem}
use Rattle.mcs_grammar.specs.Faults.{ExceedsLimit}
use Rattle.mcs_grammar.proofs.TextSplits.{uses-split, among-here}
use Rattle.mcs_faults.proofs.SaidParts.{SaidOf, AsHead, AsRead, said-place}
use Rattle.mcs_faults.proofs.TextConditions.{HasShortNames}
use Rattle.mcs_faults.proofs.UsesLemmas.{text_uses, kb_formulas, rule_size, kb_rules, IsSizeOf, OfFormula, OfRule, OfPlace, numbers-there, IsShallow, opens-there}
use Rattle.mcs_system.specs.Kinds.{is_large_in}
use Rattle.mcs_account.specs.Items.{formulas_in, rules_in}
use Rattle.mcs_faults.proofs.ItemSizes.{large-said}
use Rattle.mcs_faults.proofs.KindItems.{large-in, large-rule-in}

-- ---- what is too large
large-kb : (kb : WrittenKb) (f : Written) → IsAmong f (kb_formulas kb) → 513 ≤ size_of f → has_large_item (kb_in kb) ≡ true
large-kb (OfKind k items) f there h =
    let (i, inside, among) = flat_map_among (formulas_in k) f items there in
    among_any (is_large_in k) (map (said_in k) items) (said_in k i) (among_map (said_in k) i items inside) (large-in k i f among h)

large-program : (kb : WrittenKb) (r : WrittenRule) → IsAmong r (kb_rules kb) → 513 ≤ rule_size r → has_large_item (kb_in kb) ≡ true
large-program (OfKind k items) r there h =
    let (i, inside, among) = flat_map_among (rules_in k) r items there in
    among_any (is_large_in k) (map (said_in k) items) (said_in k i) (among_map (said_in k) i items inside) (large-rule-in k i r among h)

large-place : (m : plain.System) (i : ℕ) (f : plain.Formula) → SaidOf m i f → is_large f ≡ true → list_any has_large_part m.bridges ≡ true
large-place m i f (AsHead b there into is) large = among_any has_large_part m.bridges b there (or_left (is_large b.head) _ (ap is_large is ∙ large))
large-place m i f (AsRead b there r read of is) large =
    among_any has_large_part m.bridges b there (or_right (is_large b.head) (list_any (λ (q : plain.Read). is_large q.belief) (b.pos ++ b.neg)) (among_any (λ (q : plain.Read). is_large q.belief) (b.pos ++ b.neg) r read (ap is_large is ∙ large)))

module _ (t : WrittenText) (m : plain.System) (says : SaysSystem t m) where
  large-context : (x : WrittenContext) → IsAmong x t.contexts → has_large_item (kb_in x.kb) ≡ true → list_any (λ (c : plain.Context). has_large_item c.kb) m.contexts ≡ true
  large-context x there large =
      let inside : IsAmong (context_in x) m.contexts = subst (IsAmong (context_in x)) (sym says.contexts) (among_map context_in x t.contexts there) in
      among_any (λ (c : plain.Context). has_large_item c.kb) m.contexts (context_in x) inside large

  pub some-large : (n : ℕ) → IsSizeOf t n → 513 ≤ n → exceeds m FormulaSize ≡ true
  unfolding exceeds
  some-large n (OfFormula x there f among is) h = or_left (list_any (λ (c : plain.Context). has_large_item c.kb) m.contexts) _ (large-context x there (large-kb x.kb f among (omega (arith, is))))
  some-large n (OfRule x there r among is) h = or_left (list_any (λ (c : plain.Context). has_large_item c.kb) m.contexts) _ (large-context x there (large-program x.kb r among (omega (arith, is))))
  some-large n (OfPlace p place is) h =
      let said = said-place t m says p place in
      or_right (list_any (λ (c : plain.Context). has_large_item c.kb) m.contexts) _ (large-place m said.number (formula_in p.belief) said.said (large-said p.belief (omega (arith, is))))

  pub small-formulas : IsValid m → (k : ℕ) (here : Entry) → slice_get (text_entries t) k ≡ Some here → ¬ ExceedsLimit FormulaSize (uses_of (take k (text_entries t))) here
  small-formulas valid k here is h =
      let found = (numbers-there t 513).0 (among-here (text_uses t) (uses_of (take k (text_entries t))) here.uses (IsNumber 513) (uses-split (text_entries t) k here is) h) in
      let (n, size, most) = found.1 in
      true≢false (sym (some-large n size most) ∙ limit_kept m valid FormulaSize (inr (inr (inr (inr (inr (inr (inr (inr (inr (inl refl)))))))))))

pub few-parentheses : (t : WrittenText) → IsShallow t → (k : ℕ) (here : Entry) → slice_get (text_entries t) k ≡ Some here → ¬ ExceedsLimit OpenParentheses (uses_of (take k (text_entries t))) here
few-parentheses t shallow k here is h =
    let below = opens-there t 512 shallow (among-here (text_uses t) (uses_of (take k (text_entries t))) here.uses (OpensWithin 512) (uses-split (text_entries t) k here is) h) in
    omega arith

pub short-names : (t : WrittenText) → HasShortNames t → (k : ℕ) (here : Entry) → slice_get (text_entries t) k ≡ Some here → ¬ ExceedsLimit NameBytes (uses_of (take k (text_entries t))) here
short-names t short k here is (word, long) =
    let most = short here (among_get here (text_entries t) k is) word in
    omega arith
