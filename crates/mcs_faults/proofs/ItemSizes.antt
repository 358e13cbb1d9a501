-- The sizes of the items of contexts, by those of their formulas and of the program rules that they are.
use Rattle.std.proofs.Common.{◌≡◌, ℕ, ◌+◌, ◌≤◌, true, [], ◌∷◌, ◌++◌, map, length, refl, sym, ap, ◌∙◌, inl, inr, arith, false, List}
use Rattle.std.specs.List.{list_any}
use Rattle.std.proofs.lemmas.Bool.{or_left, or_right, lt-ltb, or_from}
use Rattle.mcs_base.specs.Listings.{IsAmong}
use Rattle.mcs_base.proofs.Among.{among_map, among_either, among_any, map_among, any_none, among_left, among_right}
use Rattle.mcs_system.specs.Seen.{formula_size}
use Rattle.mcs_system.specs.Faults.{is_large, has_large_formula, is_large_rule}
use Rattle.mcs_grammar.specs.Written.{Written, WrittenDefault, WrittenItem, Fact, Rule, WrittenRule, True', False', Named, Prefixed, Grouped, Joins}
use Rattle.mcs_grammar.specs.Entries.{formula_in, size_of}
use Rattle.mcs_grammar.specs.Saying.{item_in, positive_atoms, negative_atoms, rule_in}
use Rattle.mcs_account.proofs.UsesParts.{item_formulas, rule_size}
use Rattle.mcs_account.proofs.Signs.{prefix-size}
use Rattle.mcs_account.proofs.UsesParts.{literals-count}

-- ---- sizes
pub size-said : (f : Written) → formula_size (formula_in f) ≡ size_of f
size-said True' = refl
size-said False' = refl
size-said (Named a) = refl
size-said (Prefixed p f) = prefix-size p (formula_in f) ∙ ap (λ (n : ℕ). n + 1) (size-said f)
size-said (Grouped f) = size-said f
size-said (Joins j f g) = rw (size-said f, size-said g) refl

-- ---- what is too large
pub large-said : (f : Written) → 513 ≤ size_of f → is_large (formula_in f) ≡ true
large-said f h = lt-ltb 512 (formula_size (formula_in f)) (omega (arith, size-said f))

pub large-rule : (r : WrittenRule) → 513 ≤ rule_size r → is_large_rule (rule_in r) ≡ true
large-rule r h = lt-ltb 512 (length r.head + (length (positive_atoms r.body) + length (negative_atoms r.body))) (omega (arith, literals-count r.body))

large-default : (d : WrittenDefault) (f : Written) → IsAmong f (item_formulas (Rule d)) → 513 ≤ size_of f → has_large_formula (item_in (Rule d)) ≡ true
large-default d f there h = go there
  where
    large : is_large (formula_in f) ≡ true
    large = large-said f h

    of-justs : IsAmong (formula_in f) (formula_in d.first_just ∷ map formula_in d.justs) → has_large_formula (item_in (Rule d)) ≡ true
    of-justs among = or_right (is_large (formula_in d.pre)) _ (or_left (list_any is_large (formula_in d.first_just ∷ map formula_in d.justs)) (is_large (formula_in d.conclusion)) (among_any is_large (formula_in d.first_just ∷ map formula_in d.justs) (formula_in f) among large))

    go : IsAmong f (item_formulas (Rule d)) → has_large_formula (item_in (Rule d)) ≡ true
    go (inl e) = or_left (is_large (formula_in d.pre)) _ (ap (λ (g : Written). is_large (formula_in g)) (sym e) ∙ large)
    go (inr (inl e)) = of-justs (inl (ap formula_in e))
    go (inr (inr rest)) = elim (among_either f d.justs (d.conclusion ∷ []) rest) [
      | inl here ↦ of-justs (inr (among_map formula_in f d.justs here))
      | inr last ↦ at last
    ]
      where
        at : IsAmong f (d.conclusion ∷ []) → has_large_formula (item_in (Rule d)) ≡ true
        at (inl e) = or_right (is_large (formula_in d.pre)) _ (or_right (list_any is_large (formula_in d.first_just ∷ map formula_in d.justs)) (is_large (formula_in d.conclusion)) (ap (λ (g : Written). is_large (formula_in g)) (sym e) ∙ large))
        at (inr none) = absurd none

pub large-item : (i : WrittenItem) (f : Written) → IsAmong f (item_formulas i) → 513 ≤ size_of f → has_large_formula (item_in i) ≡ true
large-item (Fact g) f (inl e) h = ap (λ (x : Written). is_large (formula_in x)) (sym e) ∙ large-said f h
large-item (Fact g) f (inr none) h = absurd none
large-item (Rule d) f there h = large-default d f there h

-- ---- what is small
pub all-small : (fs : List Written) → ((f : Written) → IsAmong f fs → is_large (formula_in f) ≡ false) → list_any is_large (map formula_in fs) ≡ false
all-small fs each = any_none is_large (map formula_in fs) (λ p here. let (f, there, is) = map_among formula_in p fs here in ap is_large is ∙ each f there)

pub item-small : (i : WrittenItem) → ((f : Written) → IsAmong f (item_formulas i) → is_large (formula_in f) ≡ false) → has_large_formula (item_in i) ≡ false
item-small (Fact f) each = each f (inl refl)
item-small (Rule d) each = or_from (is_large (formula_in d.pre)) _ (each d.pre (inl refl))
    (or_from (list_any is_large (map formula_in (d.first_just ∷ d.justs))) (is_large (formula_in d.conclusion))
    (all-small (d.first_just ∷ d.justs) (λ f h. each f (inr (just f h))))
    (each d.conclusion (inr (inr (among_right d.conclusion d.justs (d.conclusion ∷ []) (inl refl))))))
  where
    just : (f : Written) → IsAmong f (d.first_just ∷ d.justs) → IsAmong f (d.first_just ∷ (d.justs ++ d.conclusion ∷ []))
    just f (inl e) = inl e
    just f (inr h) = inr (among_left f d.justs (d.conclusion ∷ []) h)
