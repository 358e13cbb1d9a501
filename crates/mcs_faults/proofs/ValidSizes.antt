-- In the system that a text without faults says no formula and no program rule is too large.
use Rattle.std.proofs.Common.{◌≡◌, ℕ, ◌+◌, ◌≤◌, false, map, length, refl, ap, ◌∙◌, inl, inr, arith}
use Rattle.std.specs.List.{list_any}
use Rattle.std.proofs.lemmas.Bool.{cases_lt, or_from, le-ltb}
use Rattle.mcs_base.specs.Listings.{IsAmong}
use Rattle.mcs_base.proofs.Among.{map_among, any_none, get_among, among_flat_map, flat_map_among}
use Rattle.mcs_system.specs.Plain.{Context, Read, Bridge, System}
use Rattle.mcs_system.specs.Seen.{formula_size}
use Rattle.mcs_system.specs.declared.limit.Limit.TheVariants.{FormulaSize}
use Rattle.mcs_system.specs.Faults.{reads_of, is_large, is_large_rule, has_large_item, has_large_part, exceeds}
use Rattle.mcs_grammar.specs.Written.{Written, WrittenRule, WrittenKb, OfKind, WrittenContext, WrittenPlace, WrittenText}
use Rattle.mcs_grammar.specs.Entries.{IsNumber, Entry, formula_in, size_of, text_entries}
use Rattle.mcs_grammar.specs.Saying.{rule_in, said_in, kb_in, positive_atoms, negative_atoms, SaysPlace, SaysSystem, names_of}
use Rattle.mcs_grammar.specs.Faults.{Exceeds}
use Rattle.mcs_faults.proofs.UsesLemmas.{text_uses, IsPlaceOf, OfHead, OfRead, kb_formulas, rule_size, kb_rules, IsSizeOf, OfFormula, OfRule, OfPlace, numbers-there}
use Rattle.mcs_faults.proofs.Within.{NoFaults}
use Rattle.mcs_grammar.proofs.SaidSystem.{read-written, context-written, bridge-written}
use Rattle.mcs_account.proofs.UsesParts.{literals-count}
use Rattle.mcs_system.specs.Kinds.{is_large_in}
use Rattle.mcs_account.specs.Items.{formulas_in, rules_in}
pub use Rattle.mcs_faults.proofs.ItemSizes.{size-said}
use Rattle.mcs_faults.proofs.KindItems.{small-in}

-- ---- sizes
module _ (t : WrittenText) (none : NoFaults (text_entries t)) where
  -- no token is one too many
  not-beyond : IsAmong (IsNumber 513) (text_uses t) → ⊥
  not-beyond h =
      let (m, there, here) = flat_map_among (λ (x : Entry). x.uses) (IsNumber 513) (text_entries t) h in
      let (k, at) = get_among m (text_entries t) there in
      none k m (Exceeds FormulaSize) at here

  pub sizes-kept : (k : ℕ) → IsSizeOf t k → k ≤ 512
  sizes-kept k size = elim (cases_lt 512 k) [
    | inl less ↦ absurd (not-beyond ((numbers-there t 513).1 (omega arith, (k, size, less))))
    | inr most ↦ most
  ]

  small : (f : Written) → IsSizeOf t (size_of f) → is_large (formula_in f) ≡ false
  small f size = let same = size-said f in let most = sizes-kept (size_of f) size in le-ltb 512 (formula_size (formula_in f)) (omega arith)

  of-kb : (x : WrittenContext) → IsAmong x t.contexts → (f : Written) → IsAmong f (kb_formulas x.kb) → is_large (formula_in f) ≡ false
  of-kb x there f h = small f (OfFormula x there f h refl)

  rule-small : (r : WrittenRule) → IsSizeOf t (rule_size r) → is_large_rule (rule_in r) ≡ false
  rule-small r size = let both = literals-count r.body in let most = sizes-kept (rule_size r) size in le-ltb 512 (length r.head + (length (positive_atoms r.body) + length (negative_atoms r.body))) (omega arith)

  kb-small : (kb : WrittenKb) → ((f : Written) → IsAmong f (kb_formulas kb) → is_large (formula_in f) ≡ false) → ((r : WrittenRule) → IsAmong r (kb_rules kb) → is_large_rule (rule_in r) ≡ false) → has_large_item (kb_in kb) ≡ false
  kb-small (OfKind k items) each each' = any_none (is_large_in k) (map (said_in k) items) (λ y here.
      let (i, there, is) = map_among (said_in k) y items here in
      ap (is_large_in k) is ∙ small-in k i (λ f h. each f (among_flat_map (formulas_in k) i f items there h)) (λ r h. each' r (among_flat_map (rules_in k) i r items there h)))

  module _ (m : System) (says : SaysSystem t m) where
    place-small : (p : WrittenPlace) (r : Read) → IsPlaceOf t p → SaysPlace (names_of t.contexts) p r → is_large r.belief ≡ false
    place-small p r place s = ap is_large s.belief ∙ small p.belief (OfPlace p place refl)

    part-small : (b : Bridge) → IsAmong b m.bridges → has_large_part b ≡ false
    part-small b h =
        let (w, there, s) = bridge-written t m says b h in
        or_from (is_large b.head) (list_any (λ (r : Read). is_large r.belief) (reads_of b))
        (place-small w.head (record { context = b.target; belief = b.head }) (OfHead w there refl) s.head)
        (any_none (λ (r : Read). is_large r.belief) (reads_of b) (λ r here.
        let (q, in_reads, place) = read-written (names_of t.contexts) w b r s here in
        place-small q.place r (OfRead w there q in_reads refl) place))

    pub no-large : exceeds m FormulaSize ≡ false
    unfolding exceeds
    no-large = or_from (list_any (λ (c : Context). has_large_item c.kb) m.contexts) (list_any has_large_part m.bridges)
        (any_none (λ (c : Context). has_large_item c.kb) m.contexts (λ c here.
        let (x, there, is) = context-written t m says c here in
        ap (λ (d : Context). has_large_item d.kb) is ∙ kb-small x.kb (of-kb x there) (λ r h. rule-small r (OfRule x there r h refl))))
        (any_none has_large_part m.bridges part-small)
