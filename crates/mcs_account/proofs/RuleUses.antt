-- What the tokens of a program rule are there for.
use Rattle.std.proofs.Common.{◌≡◌, ℕ, ◌+◌, max, Bool, true, false, not, codes, List, [], ◌∷◌, ◌++◌, map, filter, length, refl, sym, ap, ◌∙◌, inl, inr, subst, arith}
use Rattle.std.proofs.lemmas.List.{length-map}
use Rattle.mcs_base.specs.Listings.{IsAmong}
use Rattle.mcs_base.proofs.Among.{map_among, among_map, among_left, among_right, among_either, among_filter, filter_among}
use Rattle.mcs_system.specs.Plain.{Name}
use Rattle.mcs_system.specs.Atoms.{rule_atoms}
use Rattle.mcs_grammar.specs.Written.{WrittenLiteral, WrittenRule}
use Rattle.mcs_grammar.specs.Entries.{Token, Use, AtomOf, IsNumber, OpensWithin, Entry, atom_entry, further_heads, head_entries, optional, literal_entries, further_literals, body_entries, rule_entries, uses_of}
use Rattle.mcs_grammar.specs.Saying.{rule_in, positive_atoms, negative_atoms}
use Rattle.mcs_account.proofs.UsesParts.{rule_size}
use Rattle.mcs_account.proofs.EntryLists.{uses-append}
use Rattle.mcs_account.proofs.FormulaUses.{IsPartUse, ArePartUses, join-parts, same-part, none-part, atom-part}

-- an atom that is the next of the names, and what comes after it
next-part : (c : Name) (a : Name) (names : List Name) (n : ℕ) (us : List Use) → ArePartUses c names (n + 1) (n + 1 + length names) 0 0 us → ArePartUses c (a ∷ names) n (n + length (a ∷ names)) 0 0 (AtomOf c a ∷ IsNumber (n + 1) ∷ us)
next-part c a names n us h = same-part c (a ∷ names) (a ∷ names) n (n + 1 + length names) (n + length (a ∷ names)) 0 (max 0 0) 0 _ _ refl (omega arith) (omega arith) refl
    (join-parts c (a ∷ []) names n (n + 1) (n + 1 + length names) 0 0 0 (omega arith) (omega arith) (AtomOf c a ∷ IsNumber (n + 1) ∷ []) us (atom-part c n 0 a) h)

no-part : (c : Name) (n : ℕ) → ArePartUses c [] n (n + 0) 0 0 []
no-part c n = same-part c [] [] n n (n + 0) 0 0 0 [] [] refl (omega arith) refl refl (none-part c n 0)

further-part : (c : Name) (n : ℕ) (names : List Name) → ArePartUses c names n (n + length names) 0 0 (uses_of (further_heads c n names))
further-part c n [] = no-part c n
further-part c n (a ∷ names) = next-part c a names n (uses_of (further_heads c (n + 1) names)) (further-part c (n + 1) names)

head-part : (c : Name) (names : List Name) → ArePartUses c names 0 (length names) 0 0 (uses_of (head_entries c names))
head-part c [] = none-part c 0 0
head-part c (a ∷ names) = same-part c (a ∷ names) (a ∷ names) 0 (0 + length (a ∷ names)) (length (a ∷ names)) 0 0 0 _ _ refl (omega arith) refl refl (next-part c a names 0 (uses_of (further_heads c 1 names)) (further-part c 1 names))

pub optional-uses : (b : Bool) (t : Token) (ms : List Entry) → uses_of (optional b t ++ ms) ≡ uses_of ms
optional-uses true t ms = refl
optional-uses false t ms = refl

abbrev atoms_written : List WrittenLiteral → List Name
atoms_written ls = map (λ (l : WrittenLiteral). l.atom) ls

literal-at : (b : Bool) (t : Token) (m : Entry) (ms : List Entry) → uses_of ((optional b t ++ m ∷ []) ++ ms) ≡ m.uses ++ uses_of ms
literal-at true t m ms = refl
literal-at false t m ms = refl

literal-uses : (c : Name) (n : ℕ) (l : WrittenLiteral) (ms : List Entry) → uses_of (literal_entries c n l ++ ms) ≡ AtomOf c l.atom ∷ IsNumber (n + 1) ∷ uses_of ms
literal-uses c n l ms = literal-at l.denied (codes "not") (atom_entry c (n + 1) l.atom) ms

literals-part : (c : Name) (n : ℕ) (ls : List WrittenLiteral) → ArePartUses c (atoms_written ls) n (n + length (atoms_written ls)) 0 0 (uses_of (further_literals c n ls))
literals-part c n [] = no-part c n
literals-part c n (l ∷ ls) = same-part c _ _ n _ _ 0 0 0 _ _ refl refl refl (sym (literal-uses c n l (further_literals c (n + 1) ls)))
    (next-part c l.atom (atoms_written ls) n (uses_of (further_literals c (n + 1) ls)) (literals-part c (n + 1) ls))

body-part : (c : Name) (n : ℕ) (ls : List WrittenLiteral) → ArePartUses c (atoms_written ls) n (n + length (atoms_written ls)) 0 0 (uses_of (body_entries c n ls))
body-part c n [] = no-part c n
body-part c n (l ∷ ls) = literals-part c n (l ∷ ls)

-- ---- the atoms of the body, by their sign
among-signs : (a : Name) (ls : List WrittenLiteral) → IsAmong a (atoms_written ls) → IsAmong a (positive_atoms ls ++ negative_atoms ls)
among-signs a ls h = let (l, there, is) = map_among (λ (x : WrittenLiteral). x.atom) a ls h in at l there is l.denied refl
  where
    at : (l : WrittenLiteral) → IsAmong l ls → a ≡ l.atom → (b : Bool) → l.denied ≡ b → IsAmong a (positive_atoms ls ++ negative_atoms ls)
    at l there is true e = among_right a (positive_atoms ls) (negative_atoms ls) (subst (λ (x : Name). IsAmong x (negative_atoms ls)) (sym is)
        (among_map (λ (x : WrittenLiteral). x.atom) l (filter (λ (x : WrittenLiteral). x.denied) ls) (among_filter (λ (x : WrittenLiteral). x.denied) l ls there e)))
    at l there is false e = among_left a (positive_atoms ls) (negative_atoms ls) (subst (λ (x : Name). IsAmong x (positive_atoms ls)) (sym is)
        (among_map (λ (x : WrittenLiteral). x.atom) l (filter (λ (x : WrittenLiteral). not x.denied) ls) (among_filter (λ (x : WrittenLiteral). not x.denied) l ls there (ap not e))))

of-sign : (a : Name) (q : WrittenLiteral → Bool) (ls : List WrittenLiteral) → IsAmong a (atoms_written (filter q ls)) → IsAmong a (atoms_written ls)
of-sign a q ls h = let (l, there, is) = map_among (λ (x : WrittenLiteral). x.atom) a (filter q ls) h in
    subst (λ (x : Name). IsAmong x (atoms_written ls)) (sym is) (among_map (λ (x : WrittenLiteral). x.atom) l ls (filter_among q l ls there).0)

signs-among : (a : Name) (ls : List WrittenLiteral) → IsAmong a (positive_atoms ls ++ negative_atoms ls) → IsAmong a (atoms_written ls)
signs-among a ls h = elim (among_either a (positive_atoms ls) (negative_atoms ls) h) [
  | inl p ↦ of-sign a (λ (x : WrittenLiteral). not x.denied) ls p
  | inr n ↦ of-sign a (λ (x : WrittenLiteral). x.denied) ls n
]

rule-among : (a : Name) (r : WrittenRule) → IsAmong a (r.head ++ atoms_written r.body) → IsAmong a (rule_atoms (rule_in r))
rule-among a r h = elim (among_either a r.head (atoms_written r.body) h) [
  | inl x ↦ among_left a r.head (positive_atoms r.body ++ negative_atoms r.body) x
  | inr y ↦ among_right a r.head (positive_atoms r.body ++ negative_atoms r.body) (among-signs a r.body y)
]

among-rule : (a : Name) (r : WrittenRule) → IsAmong a (rule_atoms (rule_in r)) → IsAmong a (r.head ++ atoms_written r.body)
among-rule a r h = elim (among_either a r.head (positive_atoms r.body ++ negative_atoms r.body) h) [
  | inl x ↦ among_left a r.head (atoms_written r.body) x
  | inr y ↦ among_right a r.head (atoms_written r.body) (signs-among a r.body y)
]

-- the same names in another order
same-names : (c : Name) (xs ys : List Name) (from to low high : ℕ) (us : List Use) → ((a : Name) → IsAmong a xs → IsAmong a ys) → ((a : Name) → IsAmong a ys → IsAmong a xs) → ArePartUses c xs from to low high us → ArePartUses c ys from to low high us
same-names c xs ys from to low high us onward back h = record { are = λ u among. are u (h.are u among); there = λ u part. h.there u (there u part) }
  where
    are : (u : Use) → IsPartUse c xs from to low high u → IsPartUse c ys from to low high u
    are (AtomOf d a) p = (p.0, onward a p.1)
    are (IsNumber k) p = p
    are (OpensWithin k) p = p
    are u p = p

    there : (u : Use) → IsPartUse c ys from to low high u → IsPartUse c xs from to low high u
    there (AtomOf d a) p = (p.0, back a p.1)
    there (IsNumber k) p = p
    there (OpensWithin k) p = p
    there u p = p

pub rule-part : (c : Name) (r : WrittenRule) → ArePartUses c (rule_atoms (rule_in r)) 0 (rule_size r) 0 0 (uses_of (rule_entries c r))
rule-part c r =
    let body : List Name = atoms_written r.body in
    let long : length body ≡ length r.body = length-map r.body (λ (l : WrittenLiteral). l.atom) in
    let all : uses_of (rule_entries c r) ≡ uses_of (head_entries c r.head) ++ uses_of (body_entries c (length r.head) r.body) = uses-append (head_entries c r.head) (optional r.has_sign (codes ":-") ++ body_entries c (length r.head) r.body) ∙ ap (λ (us : List Use). uses_of (head_entries c r.head) ++ us) (optional-uses r.has_sign (codes ":-") (body_entries c (length r.head) r.body)) in
    same-names c (r.head ++ body) (rule_atoms (rule_in r)) 0 (rule_size r) 0 0 (uses_of (rule_entries c r)) (λ a. rule-among a r) (λ a. among-rule a r)
    (same-part c (r.head ++ body) (r.head ++ body) 0 (length r.head + length body) (rule_size r) 0 (max 0 0) 0 _ _ refl (omega arith) (omega arith) (sym all)
    (join-parts c r.head body 0 (length r.head) (length r.head + length body) 0 0 0 (omega arith) (omega arith) _ _ (head-part c r.head) (body-part c (length r.head) r.body)))
