-- What the tokens of a context are there for.
use Rattle.std.proofs.Common.{◌≡◌, ℕ, Bool, true, false, codes, List, [], ◌∷◌, ◌++◌, refl, sym, ap, inl, inr, ◌⊎◌, subst}
use Rattle.std.specs.List.{flat_map}
use Rattle.mcs_base.specs.Listings.{IsAmong}
use Rattle.mcs_base.proofs.Among.{among_right, among_either, among_flat_map, flat_map_among}
use Rattle.mcs_system.specs.Plain.{Name, Kind, ProgramKind}
use Rattle.mcs_grammar.specs.Written.{Written, WrittenOf, WrittenKb, OfKind, WrittenRule}
use Rattle.mcs_grammar.specs.Entries.{Use, SaysProgram, BeginsItem, BeginsDefault, AtomOf, IsNumber, OpensWithin, Entry, entry, with_first, rule_entries, ended, kind_uses, entries_in, kb_entries, uses_of}
use Rattle.mcs_account.proofs.UsesParts.{kb_formulas, kb_rules, IsProgramKb}
use Rattle.mcs_account.proofs.EntryLists.{uses-end, among-first, first-among, among-append, append-left, among-parts, parts-among}
use Rattle.mcs_account.proofs.FormulaUses.{IsPartUse, whole-part}
use Rattle.mcs_account.proofs.RuleUses.{rule-part}
pub use Rattle.mcs_account.proofs.ItemUses.{formula_uses, later_formulas, default-all, IsOfFormulas}
use Rattle.mcs_account.proofs.ItemUses.{ItemUse, IsDefault, InFormula, InRule}
use Rattle.mcs_account.proofs.KindItems.{word-uses, uses-in, formula-uses-in, rule-uses-in}
use Rattle.mcs_account.specs.Items.{formulas_in, rules_in}

-- ---- items and the periods after them
ended-uses : (c : Name) (ms : List Entry) (u : Use) → IsAmong u (uses_of (ended c ms)) → (u ≡ BeginsItem c) ⊎ IsAmong u (uses_of ms)
ended-uses c ms u h = at (among-append u (with_first (BeginsItem c ∷ []) ms) (entry (codes ".") [] ∷ []) h)
  where
    first : IsAmong u (BeginsItem c ∷ []) ⊎ IsAmong u (uses_of ms) → (u ≡ BeginsItem c) ⊎ IsAmong u (uses_of ms)
    first (inl (inl e)) = inl e
    first (inl (inr no')) = absurd no'
    first (inr b) = inr b

    at : IsAmong u (uses_of (with_first (BeginsItem c ∷ []) ms)) ⊎ IsAmong u [] → (u ≡ BeginsItem c) ⊎ IsAmong u (uses_of ms)
    at (inl a) = first (among-first u (BeginsItem c ∷ []) ms a)
    at (inr no') = absurd no'

uses-ended : (c : Name) (ms : List Entry) (u : Use) → IsAmong u (uses_of ms) → IsAmong u (uses_of (ended c ms))
uses-ended c ms u h = append-left u (with_first (BeginsItem c ∷ []) ms) (entry (codes ".") [] ∷ []) (first-among u (BeginsItem c ∷ []) ms h)

-- ---- knowledge bases
pub data KbUse (c : Name) (kb : WrittenKb) (u : Use) : Type 0 where
  OfWord : (is : u ≡ SaysProgram c) (program : IsProgramKb kb) → KbUse c kb u
  OfItem : (is : u ≡ BeginsItem c) → KbUse c kb u
  OfDefault : (is : u ≡ BeginsDefault c) → KbUse c kb u
  WithinFormula : (f : Written) (there : IsAmong f (kb_formulas kb)) (here : IsAmong u (formula_uses c f)) → KbUse c kb u
  WithinRule : (r : WrittenRule) (there : IsAmong r (kb_rules kb)) (here : IsAmong u (uses_of (rule_entries c r))) → KbUse c kb u

items-all : {A : Type 0} (c : Name) (f : A → List Entry) (xs : List A) → uses_of (flat_map (λ x. ended c (f x)) xs ++ entry (codes "}") [] ∷ []) ≡ uses_of (flat_map (λ x. ended c (f x)) xs)
items-all c f xs = uses-end (flat_map (λ x. ended c (f x)) xs) (entry (codes "}") []) refl

pub items-among : {A : Type 0} (c : Name) (f : A → List Entry) (xs : List A) (u : Use) → IsAmong u (uses_of (flat_map (λ x. ended c (f x)) xs ++ entry (codes "}") [] ∷ [])) → (u ≡ BeginsItem c) ⊎ ((x : A) × IsAmong x xs × IsAmong u (uses_of (f x)))
items-among {A} c f xs u h =
    let (x, there, here) = among-parts u (λ y. ended c (f y)) xs (subst (IsAmong u) (items-all c f xs) h) in at x there (ended-uses c (f x) u here)
  where
    at : (x : A) → IsAmong x xs → (u ≡ BeginsItem c) ⊎ IsAmong u (uses_of (f x)) → (u ≡ BeginsItem c) ⊎ ((x : A) × IsAmong x xs × IsAmong u (uses_of (f x)))
    at x there (inl e) = inl e
    at x there (inr here) = inr (x, there, here)

among-items : {A : Type 0} (c : Name) (f : A → List Entry) (xs : List A) (u : Use) (x : A) → IsAmong x xs → IsAmong u (uses_of (f x)) → IsAmong u (uses_of (flat_map (λ x. ended c (f x)) xs ++ entry (codes "}") [] ∷ []))
among-items c f xs u x there here = subst (IsAmong u) (sym (items-all c f xs)) (parts-among u (λ y. ended c (f y)) xs x there (uses-ended c (f x) u here))

pub kb-uses : (c : Name) (kb : WrittenKb) (u : Use) → IsAmong u (uses_of (kb_entries c kb)) → KbUse c kb u
kb-uses c (OfKind k items) u h = at (among_either u (kind_uses k c) (uses_of (flat_map (λ i. ended c (entries_in k c i)) items ++ entry (codes "}") [] ∷ [])) h)
  where
    within : (i : WrittenOf k) → IsAmong i items → ItemUse c k i u → KbUse c (OfKind k items) u
    within i there (IsDefault e) = OfDefault e
    within i there (InFormula f in_item here) = WithinFormula f (among_flat_map (formulas_in k) i f items there in_item) here
    within i there (InRule r in_item here) = WithinRule r (among_flat_map (rules_in k) i r items there in_item) here

    of_items : (u ≡ BeginsItem c) ⊎ ((i : WrittenOf k) × IsAmong i items × IsAmong u (uses_of (entries_in k c i))) → KbUse c (OfKind k items) u
    of_items (inl e) = OfItem e
    of_items (inr (i, there, here)) = within i there (uses-in k c i u here)

    at : IsAmong u (kind_uses k c) ⊎ IsAmong u (uses_of (flat_map (λ i. ended c (entries_in k c i)) items ++ entry (codes "}") [] ∷ [])) → KbUse c (OfKind k items) u
    at (inl word) = let (is, program) = word-uses k c u word in OfWord is (program items)
    at (inr more) = of_items (items-among c (entries_in k c) items u more)

pub kind-among : (c : Name) (kb : WrittenKb) → IsProgramKb kb → IsAmong (SaysProgram c) (uses_of (kb_entries c kb))
kind-among c (OfKind ProgramKind items) h = inl refl
kind-among c kb h = absurd h

-- what is of an item is of the knowledge base
of-item : (c : Name) (k : Kind) (items : List (WrittenOf k)) (u : Use) (i : WrittenOf k) → IsAmong i items → IsAmong u (uses_of (entries_in k c i)) → IsAmong u (uses_of (kb_entries c (OfKind k items)))
of-item c k items u i there here = among_right u (kind_uses k c) (uses_of (flat_map (λ i. ended c (entries_in k c i)) items ++ entry (codes "}") [] ∷ [])) (among-items c (entries_in k c) items u i there here)

pub formula-among : (c : Name) (kb : WrittenKb) (u : Use) (f : Written) → IsAmong f (kb_formulas kb) → IsAmong u (formula_uses c f) → IsAmong u (uses_of (kb_entries c kb))
formula-among c (OfKind k items) u f there here = let (i, in_items, in_item) = flat_map_among (formulas_in k) f items there in of-item c k items u i in_items (formula-uses-in k c i u f in_item here)

pub rule-among : (c : Name) (kb : WrittenKb) (u : Use) (r : WrittenRule) → IsAmong r (kb_rules kb) → IsAmong u (uses_of (rule_entries c r)) → IsAmong u (uses_of (kb_entries c kb))
rule-among c (OfKind k items) u r there here = let (i, in_items, in_item) = flat_map_among (rules_in k) r items there in of-item c k items u i in_items (rule-uses-in k c i u r in_item here)

-- ---- of which kind they are
abbrev pub in_formula : Use → Bool
in_formula (AtomOf c a) = true
in_formula (IsNumber n) = true
in_formula (OpensWithin n) = true
in_formula u = false

abbrev pub in_kb : Use → Bool
in_kb (SaysProgram c) = true
in_kb (BeginsItem c) = true
in_kb (BeginsDefault c) = true
in_kb u = in_formula u

part-in : (c : Name) (names : List Name) (from to low high : ℕ) (u : Use) → IsPartUse c names from to low high u → (in_formula u ≡ true) × (in_kb u ≡ true)
part-in c names from to low high (AtomOf d a) h = (refl, refl)
part-in c names from to low high (IsNumber k) h = (refl, refl)
part-in c names from to low high (OpensWithin k) h = (refl, refl)
part-in c names from to low high u h = absurd h

pub formula-in : (c : Name) (f : Written) (u : Use) → IsAmong u (formula_uses c f) → in_formula u ≡ true
formula-in c f u h = (part-in c _ 0 _ 0 _ u ((whole-part c f).are u h)).0

pub rule-in : (c : Name) (r : WrittenRule) (u : Use) → IsAmong u (uses_of (rule_entries c r)) → in_formula u ≡ true
rule-in c r u h = (part-in c _ 0 _ 0 _ u ((rule-part c r).are u h)).0

pub kb-in : (c : Name) (kb : WrittenKb) (u : Use) → IsAmong u (uses_of (kb_entries c kb)) → in_kb u ≡ true
kb-in c kb u h = at (kb-uses c kb u h)
  where
    at : KbUse c kb u → in_kb u ≡ true
    at (OfWord is program) = ap in_kb is
    at (OfItem is) = ap in_kb is
    at (OfDefault is) = ap in_kb is
    at (WithinFormula f there here) = (part-in c _ 0 _ 0 _ u ((whole-part c f).are u here)).1
    at (WithinRule r there here) = (part-in c _ 0 _ 0 _ u ((rule-part c r).are u here)).1
