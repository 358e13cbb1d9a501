-- What the tokens of the items of contexts are there for, and their atoms.
use Rattle.std.proofs.Common.{◌≡◌, codes, List, [], ◌∷◌, ◌++◌, refl, sym, ap, ◌∙◌, inl, inr, ◌⊎◌, subst, append-nil, append_assoc, map}
use Rattle.std.specs.List.{flat_map}
use Rattle.std.proofs.lemmas.Grind.{flat_map-append}
use Rattle.std.proofs.lemmas.List.Folds.{flat_map-map}
use Rattle.mcs_base.specs.Listings.{IsAmong}
use Rattle.mcs_base.proofs.Among.{among_left, among_right, among_either, among_flat_map, flat_map_among}
use Rattle.mcs_system.specs.Plain.{Name, Kind}
use Rattle.mcs_system.specs.Logic.{atoms}
use Rattle.mcs_system.specs.Atoms.{item_atoms, rule_atoms}
use Rattle.mcs_grammar.specs.Saying.{item_in, rule_in}
use Rattle.mcs_grammar.specs.Written.{Written, WrittenDefault, WrittenItem, Fact, Rule, WrittenOf, WrittenRule}
use Rattle.mcs_grammar.specs.Entries.{Use, BeginsDefault, Entry, entry, whole_entries, after_sign, default_entries, item_entries, rule_entries, uses_of, formula_in}
use Rattle.mcs_account.proofs.EntryLists.{uses-append, uses-flat_map}
use Rattle.mcs_account.specs.Items.{item_formulas, formulas_in, rules_in}

abbrev pub formula_uses : Name → Written → List Use
formula_uses c f = uses_of (whole_entries c f)

-- ---- items
-- the formulas of a default after its prerequisite
abbrev pub later_formulas : WrittenDefault → List Written
later_formulas d = d.first_just ∷ (d.justs ++ d.conclusion ∷ [])

pub default-all : (c : Name) (d : WrittenDefault) → uses_of (default_entries c d) ≡ formula_uses c d.pre ++ (BeginsDefault c ∷ flat_map (formula_uses c) (later_formulas d))
default-all c d =
    uses-append (whole_entries c d.pre) (entry (codes ":") (BeginsDefault c ∷ []) ∷ (whole_entries c d.first_just ++ (justs ++ after_sign (codes "/") c d.conclusion)))
    ∙ ap (λ (us : List Use). formula_uses c d.pre ++ (BeginsDefault c ∷ us)) (uses-append (whole_entries c d.first_just) (justs ++ after_sign (codes "/") c d.conclusion) ∙ ap (λ (us : List Use). formula_uses c d.first_just ++ us) rest)
  where
    justs : List Entry
    justs = flat_map (after_sign (codes ",") c) d.justs

    last : formula_uses c d.conclusion ≡ flat_map (formula_uses c) (d.conclusion ∷ [])
    last = sym (append-nil (formula_uses c d.conclusion))

    rest : uses_of (flat_map (after_sign (codes ",") c) d.justs ++ after_sign (codes "/") c d.conclusion) ≡ flat_map (formula_uses c) (d.justs ++ d.conclusion ∷ [])
    rest =
        uses-append (flat_map (after_sign (codes ",") c) d.justs) (after_sign (codes "/") c d.conclusion)
        ∙ ap (λ (us : List Use). us ++ formula_uses c d.conclusion) (uses-flat_map (after_sign (codes ",") c) d.justs)
        ∙ ap (λ (us : List Use). flat_map (formula_uses c) d.justs ++ us) last
        ∙ sym (flat_map-append (formula_uses c) d.justs (d.conclusion ∷ []))

-- a use of one of the formulas
abbrev pub IsOfFormulas : Name → List Written → Use → Type 0
IsOfFormulas c fs u = (f : Written) × IsAmong f fs × IsAmong u (formula_uses c f)

pub item-uses : (c : Name) (i : WrittenItem) (u : Use) → IsAmong u (uses_of (item_entries c i)) → (u ≡ BeginsDefault c) ⊎ IsOfFormulas c (item_formulas i) u
item-uses c (Fact f) u h = inr (f, inl refl, h)
item-uses c (Rule d) u h = at (among_either u (formula_uses c d.pre) (BeginsDefault c ∷ flat_map (formula_uses c) (later_formulas d)) (subst (IsAmong u) (default-all c d) h))
  where
    at : IsAmong u (formula_uses c d.pre) ⊎ ((u ≡ BeginsDefault c) ⊎ IsAmong u (flat_map (formula_uses c) (later_formulas d))) → (u ≡ BeginsDefault c) ⊎ IsOfFormulas c (item_formulas (Rule d)) u
    at (inl a) = inr (d.pre, inl refl, a)
    at (inr (inl e)) = inl e
    at (inr (inr b)) = let (f, there, here) = flat_map_among (formula_uses c) u (later_formulas d) b in inr (f, inr there, here)

pub uses-item : (c : Name) (i : WrittenItem) (u : Use) (f : Written) → IsAmong f (item_formulas i) → IsAmong u (formula_uses c f) → IsAmong u (uses_of (item_entries c i))
uses-item c (Fact g) u f (inl e) h = subst (λ (x : Written). IsAmong u (formula_uses c x)) e h
uses-item c (Fact g) u f (inr there) h = absurd there
uses-item c (Rule d) u f there h = subst (IsAmong u) (sym (default-all c d)) (at there)
  where
    at : (f ≡ d.pre) ⊎ IsAmong f (later_formulas d) → IsAmong u (formula_uses c d.pre ++ (BeginsDefault c ∷ flat_map (formula_uses c) (later_formulas d)))
    at (inl e) = among_left u (formula_uses c d.pre) _ (subst (λ (x : Written). IsAmong u (formula_uses c x)) e h)
    at (inr later) = among_right u (formula_uses c d.pre) (BeginsDefault c ∷ flat_map (formula_uses c) (later_formulas d)) (inr (among_flat_map (formula_uses c) f u (later_formulas d) later h))

-- ---- a use of an item, by its formulas and the program rules that it is
pub data ItemUse (c : Name) (k : Kind) (i : WrittenOf k) (u : Use) : Type 0 where
  IsDefault : (is : u ≡ BeginsDefault c) → ItemUse c k i u
  InFormula : (f : Written) (there : IsAmong f (formulas_in k i)) (here : IsAmong u (formula_uses c f)) → ItemUse c k i u
  InRule : (r : WrittenRule) (there : IsAmong r (rules_in k i)) (here : IsAmong u (uses_of (rule_entries c r))) → ItemUse c k i u

-- ---- their atoms
abbrev pub formula_names : Written → List Name
formula_names f = atoms (formula_in f)

abbrev pub rule_names : WrittenRule → List Name
rule_names r = rule_atoms (rule_in r)

pub item-atoms : (i : WrittenItem) → item_atoms (item_in i) ≡ flat_map formula_names (item_formulas i)
item-atoms (Fact f) = sym (append-nil (formula_names f))
item-atoms (Rule d) = ap (λ (xs : List Name). formula_names d.pre ++ xs)
    (append_assoc (formula_names d.first_just) (flat_map atoms (map formula_in d.justs)) (formula_names d.conclusion)
    ∙ ap (λ (xs : List Name). formula_names d.first_just ++ xs)
    (ap (λ (xs : List Name). xs ++ formula_names d.conclusion) (flat_map-map atoms formula_in d.justs)
    ∙ ap (λ (xs : List Name). flat_map formula_names d.justs ++ xs) (sym (append-nil (formula_names d.conclusion)))
    ∙ sym (flat_map-append formula_names d.justs (d.conclusion ∷ []))))
