-- The tokens of the items of contexts begin no belief.
use Rattle.std.proofs.Common.{◌≡◌, ℕ, length, ◌+◌, Bool, true, false, List, [], ◌∷◌, ◌++◌, refl, sym, ap, subst, ◌∙◌, inl, inr, true≢false}
use Rattle.std.specs.Prelude.{codes}
use Rattle.std.specs.List.{flat_map, list_all}
use Rattle.std.proofs.lemmas.Bool.{and_parts}
use Rattle.mcs_base.specs.Listings.{IsAmong}
use Rattle.mcs_base.proofs.Among.{among_either, flat_map_among}
use Rattle.mcs_system.specs.Plain.{Name}
use Rattle.mcs_grammar.specs.Written.{Written, True', False', Named, Prefixed, Grouped, Joins, WrittenDefault, WrittenItem, Fact, Rule, WrittenLiteral, WrittenRule}
use Rattle.mcs_grammar.specs.Entries.{Token, Use, BeginsBelief, Entry, entry, with_first, size_of, formula_entries, after_sign, default_entries, item_entries, atom_entry, further_heads, head_entries, optional, literal_entries, further_literals, body_entries, rule_entries}

-- ---- entries that begin no belief
abbrev pub is_other : Use → Bool
is_other (BeginsBelief c) = false
is_other u = true

pub not-among : (us : List Use) → list_all is_other us ≡ true → (c : Name) → ¬ IsAmong (BeginsBelief c) us
not-among [] e c h = h
not-among (u ∷ us) e c (inl same) = true≢false (sym (and_parts (is_other u) (list_all is_other us) e).0 ∙ ap is_other (sym same))
not-among (u ∷ us) e c (inr h) = not-among us (and_parts (is_other u) (list_all is_other us) e).1 c h

abbrev pub BeginNone : List Entry → Type 0
BeginNone ms = (m : Entry) → IsAmong m ms → (c : Name) → ¬ IsAmong (BeginsBelief c) m.uses

pub none-cons : (m : Entry) (ms : List Entry) → list_all is_other m.uses ≡ true → BeginNone ms → BeginNone (m ∷ ms)
none-cons m ms e rest n (inl same) c h = not-among m.uses e c (subst (λ (x : Entry). IsAmong (BeginsBelief c) x.uses) same h)
none-cons m ms e rest n (inr there) c h = rest n there c h

pub none-nil : BeginNone []
none-nil n there c h = there

pub none-append : (ms ns : List Entry) → BeginNone ms → BeginNone ns → BeginNone (ms ++ ns)
none-append ms ns f g m there c h = elim (among_either m ms ns there) [ inl here ↦ f m here c h | inr later ↦ g m later c h ]

pub none-flat_map : {A : Type 0} (f : A → List Entry) → ((x : A) → BeginNone (f x)) → (xs : List A) → BeginNone (flat_map f xs)
none-flat_map f each xs m there c h = let (x, inside, here) = flat_map_among f m xs there in each x m here c h

pub none-first : (us : List Use) → list_all is_other us ≡ true → (ms : List Entry) → BeginNone ms → BeginNone (with_first us ms)
none-first us e [] none m there c h = there
none-first us e (x ∷ xs) none m (inl same) c h =
    elim (among_either (BeginsBelief c) us x.uses (subst (λ (y : Entry). IsAmong (BeginsBelief c) y.uses) same h)) [ inl here ↦ not-among us e c here | inr later ↦ none x (inl refl) c later ]
none-first us e (x ∷ xs) none m (inr there) c h = none m (inr there) c h

-- ---- formulas
pub none-formula : (c : Name) (n opened : ℕ) (f : Written) → BeginNone (formula_entries c n opened f)
none-formula c n opened True' = none-cons _ [] refl none-nil
none-formula c n opened False' = none-cons _ [] refl none-nil
none-formula c n opened (Named name) = none-cons _ [] refl none-nil
none-formula c n opened (Prefixed p f) = none-cons _ _ refl (none-formula c (n + 1) opened f)
none-formula c n opened (Grouped f) = none-cons _ _ refl (none-append _ _ (none-formula c n (opened + 1) f) (none-cons _ [] refl none-nil))
none-formula c n opened (Joins j f g) = none-append _ _ (none-formula c n opened f) (none-cons _ _ refl (none-formula c (n + size_of f + 1) opened g))

-- ---- items
none-after : (sign : Token) (c : Name) (f : Written) → BeginNone (after_sign sign c f)
none-after sign c f = none-cons _ _ refl (none-formula c 0 0 f)

none-default : (c : Name) (d : WrittenDefault) → BeginNone (default_entries c d)
none-default c d =
    none-append _ _ (none-formula c 0 0 d.pre)
    (none-cons _ _ refl
    (none-append _ _ (none-formula c 0 0 d.first_just)
    (none-append _ _ (none-flat_map (after_sign (codes ",") c) (none-after (codes ",") c) d.justs)
    (none-after (codes "/") c d.conclusion))))

pub none-item : (c : Name) (i : WrittenItem) → BeginNone (item_entries c i)
none-item c (Fact f) = none-formula c 0 0 f
none-item c (Rule d) = none-default c d

none-heads : (c : Name) (n : ℕ) (names : List Name) → BeginNone (further_heads c n names)
none-heads c n [] = none-nil
none-heads c n (a ∷ names) = none-cons (entry (codes "|") []) (atom_entry c (n + 1) a ∷ further_heads c (n + 1) names) refl (none-cons (atom_entry c (n + 1) a) (further_heads c (n + 1) names) refl (none-heads c (n + 1) names))

none-head : (c : Name) (names : List Name) → BeginNone (head_entries c names)
none-head c [] = none-nil
none-head c (a ∷ names) = none-cons (atom_entry c 1 a) (further_heads c 1 names) refl (none-heads c 1 names)

pub none-optional : (b : Bool) (token : Token) → BeginNone (optional b token)
none-optional true token = none-cons _ [] refl none-nil
none-optional false token = none-nil

none-literal : (c : Name) (n : ℕ) (l : WrittenLiteral) → BeginNone (literal_entries c n l)
none-literal c n l = none-append _ _ (none-optional l.denied (codes "not")) (none-cons _ [] refl none-nil)

none-literals : (c : Name) (n : ℕ) (ls : List WrittenLiteral) → BeginNone (further_literals c n ls)
none-literals c n [] = none-nil
none-literals c n (l ∷ ls) = none-cons _ _ refl (none-append _ _ (none-literal c n l) (none-literals c (n + 1) ls))

none-body : (c : Name) (n : ℕ) (ls : List WrittenLiteral) → BeginNone (body_entries c n ls)
none-body c n [] = none-nil
none-body c n (l ∷ ls) = none-append _ _ (none-literal c n l) (none-literals c (n + 1) ls)

pub none-rule : (c : Name) (r : WrittenRule) → BeginNone (rule_entries c r)
none-rule c r = none-append _ _ (none-head c r.head) (none-append _ _ (none-optional r.has_sign (codes ":-")) (none-body c (length r.head) r.body))
