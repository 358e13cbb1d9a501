-- A belief is read off its printed form, so that different beliefs are printed in different ways.
use Rattle.std.proofs.Common.{◌≡◌, ℕ, ◌+◌, ◌<◌, ◌≤◌, zero, suc, Bool, true, false, cond, not, ◌&&◌, nat_eq, nat_le, IsTrue, List, [], ◌∷◌, ◌++◌, length, codes, Option, Some, None, refl, sym, ap, ◌∙◌, subst, arith, true≢false, append_assoc}
use Rattle.std.proofs.lemmas.Bool.{and_parts, false_from_ne_true}
use Rattle.std.proofs.lemmas.Bool.Decides.{nat_tests}
use Rattle.std.proofs.lemmas.Option.{same_Some}
use Rattle.std.proofs.lemmas.Slice.Eq.{bytes_eq-Decides}
use Rattle.std.specs.List.{list_all}
use Rattle.std.specs.Option.{option_and_then, option_map}
use Rattle.std.specs.Str.{bytes_eq}
use Rattle.mcs_base.specs.Words.{is_word_byte, is_word, is_reserved, most_name_bytes}
use Rattle.mcs_base.specs.declared.keyword.Keyword.TheVariants as keywords
use Rattle.mcs_base.proofs.WordLemmas.{EndsWord, keyword_word, name_is_word}
use Rattle.mcs_system.specs.Plain.{Name, Formula, Truth, Falsity, Atom, Not, Joined, Connective, Conjunction, Disjunction, Implication, Equivalence}
use Rattle.mcs_system.specs.Naming.{IsName, IsNamedFormula}
use Rattle.mcs_system.specs.Texts.{connective_sign, primary, in_parentheses}
use Rattle.mcs_spelling.specs.Words.{after_prefix}
use Rattle.mcs_spelling.proofs.LiteralTexts.{after_front}
use Rattle.mcs_proof_text.proofs.PlainTexts.{all_word}

-- ---- words
pub munch : (v w r s : List ℕ) → IsTrue (list_all is_word_byte v) → IsTrue (list_all is_word_byte w) → EndsWord r → EndsWord s → v ++ r ≡ w ++ s → (v ≡ w) × (r ≡ s)
munch [] [] r s av aw er es e = (refl, e)
munch [] (b ∷ w) r s av aw er es e = absurd (true≢false (sym (and_parts (is_word_byte b) (list_all is_word_byte w) aw).0 ∙ subst EndsWord e er))
munch (a ∷ v) [] r s av aw er es e = absurd (true≢false (sym (and_parts (is_word_byte a) (list_all is_word_byte v) av).0 ∙ subst EndsWord (sym e) es))
munch (a ∷ v) (b ∷ w) r s av aw er es e =
    let first : a ≡ b = cc in
    let rest : v ++ r ≡ w ++ s = cc in
    let again = munch v w r s (and_parts (is_word_byte a) (list_all is_word_byte v) av).1 (and_parts (is_word_byte b) (list_all is_word_byte w) aw).1 er es rest in
    (ap (λ (x : ℕ). x ∷ v) first ∙ ap (λ (xs : List ℕ). b ∷ xs) again.0, again.1)

-- the word in front, and what follows it
abbrev word_in : List ℕ → List ℕ × List ℕ
word_in [] = ([], [])
word_in (b ∷ bs) = cond (is_word_byte b) (b ∷ (word_in bs).0, (word_in bs).1) ([], b ∷ bs)

word_end : (r : List ℕ) → EndsWord r → word_in r ≡ ([], r)
word_end [] ends = refl
word_end (b ∷ bs) ends = ap (λ (v : Bool). cond v (b ∷ (word_in bs).0, (word_in bs).1) ([], b ∷ bs)) ends

word_is : (v r : List ℕ) → IsTrue (list_all is_word_byte v) → EndsWord r → word_in (v ++ r) ≡ (v, r)
word_is [] r all ends = word_end r ends
word_is (b ∷ v) r all ends =
    let (first, rest) = and_parts (is_word_byte b) (list_all is_word_byte v) all in
    ap (λ (x : Bool). cond x (b ∷ (word_in (v ++ r)).0, (word_in (v ++ r)).1) ([], b ∷ (v ++ r))) first ∙ ap (λ (p : List ℕ × List ℕ). (let q : List ℕ × List ℕ = (b ∷ p.0, p.1) in q)) (word_is v r rest ends)

abbrev formula_of_word : List ℕ → Formula
formula_of_word w = cond (bytes_eq w (codes "true")) Truth (cond (bytes_eq w (codes "false")) Falsity (Atom w))

-- a name is no reserved word
other_word : (k : List ℕ) (n : Name) → is_reserved k ≡ true → IsName n → bytes_eq n k ≡ false
other_word k n reserved named = false_from_ne_true (bytes_eq n k) (λ e.
    let same : n ≡ k = (bytes_eq-Decides n k).0 e in
    let rest = (and_parts (is_word n) (not (is_reserved n) && nat_le (length n) most_name_bytes) named).1 in
    let free : not (is_reserved n) ≡ true = (and_parts (not (is_reserved n)) (nat_le (length n) most_name_bytes) rest).0 in
    true≢false (sym free ∙ (ap (λ (x : List ℕ). not (is_reserved x)) same ∙ ap not reserved)))

-- ---- signs
abbrev Sign : Type 0
Sign = Connective × List ℕ

abbrev or_else : Option (List ℕ) → Connective → Option Sign → Option Sign
or_else None c other = other
or_else (Some rest) c other = Some (c, rest)

abbrev sign_in : List ℕ → Option Sign
sign_in bytes = or_else (after_prefix (codes " & ") bytes) Conjunction (or_else (after_prefix (codes " | ") bytes) Disjunction (or_else (after_prefix (codes " -> ") bytes) Implication (or_else (after_prefix (codes " <-> ") bytes) Equivalence None)))

-- ---- formulas
abbrev Found : Type 0
Found = Option (Formula × List ℕ)

abbrev negated : Formula × List ℕ → Formula × List ℕ
negated fr = (Not fr.0, fr.1)

abbrev closed : Connective → Formula → Formula × List ℕ → Found
closed c f gr = option_map (λ rest. (Joined c f gr.0, rest)) (after_prefix (codes ")") gr.1)

abbrev signed : (List ℕ → Found) → Formula → Sign → Found
signed p f s = option_and_then (closed s.0 f) (p s.1)

abbrev two : (List ℕ → Found) → Formula × List ℕ → Found
two p fr = option_and_then (signed p fr.0) (sign_in fr.1)

abbrev one_word : List ℕ × List ℕ → Found
one_word wr = Some (formula_of_word wr.0, wr.1)

abbrev formula_in : ℕ → List ℕ → Found
formula_in zero bytes = None
formula_in (suc n) [] = None
formula_in (suc n) (b ∷ bs) = cond (nat_eq b 126) (option_map negated (formula_in n bs)) (cond (nat_eq b 40) (option_and_then (two (formula_in n)) (formula_in n bs)) (one_word (word_in (b ∷ bs))))

abbrev depth : Formula → ℕ
depth Truth = 1
depth Falsity = 1
depth (Atom n) = 1
depth (Not f) = depth f + 1
depth (Joined c f g) = depth f + depth g + 1

some_depth : (f : Formula) → 0 < depth f
some_depth Truth = omega arith
some_depth Falsity = omega arith
some_depth (Atom n) = omega arith
some_depth (Not f) = omega arith
some_depth (Joined c f g) = omega arith

no_mark : (b m : ℕ) → is_word_byte b ≡ true → is_word_byte m ≡ false → nat_eq b m ≡ false
no_mark b m word plain = false_from_ne_true (nat_eq b m) (λ e. (let same : b ≡ m = grind (arith, nat_tests) in true≢false (sym word ∙ (ap is_word_byte same ∙ plain))))

-- a word is read
word_found : (n : ℕ) (v r : List ℕ) → IsTrue (is_word v) → EndsWord r → formula_in (suc n) (v ++ r) ≡ Some (formula_of_word v, r)
word_found n [] r is ends = absurd (true≢false (sym is))
word_found n (b ∷ v) r is ends =
    let all = all_word (b ∷ v) is in
    let first : is_word_byte b ≡ true = (and_parts (is_word_byte b) (list_all is_word_byte v) all).0 in
    let no_not : nat_eq b 126 ≡ false = no_mark b 126 first refl in
    let no_open : nat_eq b 40 ≡ false = no_mark b 40 first refl in
    ap (λ (x : Bool). cond x (option_map negated (formula_in n (v ++ r))) (cond (nat_eq b 40) (option_and_then (two (formula_in n)) (formula_in n (v ++ r))) (one_word (word_in (b ∷ (v ++ r)))))) no_not
    ∙ (ap (λ (x : Bool). cond x (option_and_then (two (formula_in n)) (formula_in n (v ++ r))) (one_word (word_in (b ∷ (v ++ r))))) no_open ∙ ap one_word (word_is (b ∷ v) r all ends))

true_word : is_reserved (codes "true") ≡ true
true_word = (keyword_word keywords.True).1

false_word : is_reserved (codes "false") ≡ true
false_word = (keyword_word keywords.False).1

atom_found : (n : Name) → IsName n → formula_of_word n ≡ Atom n
atom_found n named = ap (λ (x : Bool). cond x Truth (cond (bytes_eq n (codes "false")) Falsity (Atom n))) (other_word (codes "true") n true_word named) ∙ ap (λ (x : Bool). cond x Falsity (Atom n)) (other_word (codes "false") n false_word named)

-- two parts in parentheses, and what follows
regroup : (p sign q r : List ℕ) → in_parentheses p sign q ++ r ≡ 40 ∷ (p ++ (sign ++ (q ++ (41 ∷ r))))
regroup p sign q r =
    ap (λ (x : List ℕ). 40 ∷ x) (append_assoc p (sign ++ (q ++ codes ")")) r ∙ ap (λ (x : List ℕ). p ++ x) (append_assoc sign (q ++ codes ")") r ∙ ap (λ (x : List ℕ). sign ++ x) (append_assoc q (codes ")") r)))

abbrev IsFound : Formula → Type 0
IsFound f = (n : ℕ) (r : List ℕ) → depth f ≤ n → IsNamedFormula f → EndsWord r → formula_in n (primary f ++ r) ≡ Some (f, r)

pair_found : (c : Connective) (s : List ℕ) (f g : Formula) (n : ℕ) (r : List ℕ) → EndsWord (s ++ (primary g ++ (41 ∷ r))) → ((x : List ℕ) → sign_in (s ++ x) ≡ Some (c, x))
    → formula_in n (primary f ++ (s ++ (primary g ++ (41 ∷ r)))) ≡ Some (f, s ++ (primary g ++ (41 ∷ r))) → formula_in n (primary g ++ (41 ∷ r)) ≡ Some (g, 41 ∷ r)
    → formula_in (suc n) (in_parentheses (primary f) s (primary g) ++ r) ≡ Some (Joined c f g, r)
pair_found c s f g n r ends signs left right =
    let rest = s ++ (primary g ++ (41 ∷ r)) in
    ap (formula_in (suc n)) (regroup (primary f) s (primary g) r)
    ∙ (ap (option_and_then (two (formula_in n))) left
    ∙ (ap (option_and_then (signed (formula_in n) f)) (signs (primary g ++ (41 ∷ r)))
    ∙ (ap (option_and_then (closed c f)) right ∙ ap (option_map (λ rest. (Joined c f g, rest))) (after_front (codes ")") r))))

not_found : (f : Formula) → IsFound f → IsFound (Not f)
not_found f again zero r deep named ends = absurd (omega (arith, deep))
not_found f again (suc n) r deep named ends = ap (option_map negated) (again n r (omega (arith, deep)) named ends)

sign_read : (c : Connective) (x : List ℕ) → sign_in (connective_sign c ++ x) ≡ Some (c, x)
unfolding after_prefix
sign_read Conjunction x = ap (λ (o : Option (List ℕ)). or_else o Conjunction (or_else (after_prefix (codes " | ") (codes " & " ++ x)) Disjunction (or_else (after_prefix (codes " -> ") (codes " & " ++ x)) Implication (or_else (after_prefix (codes " <-> ") (codes " & " ++ x)) Equivalence None)))) (after_front (codes " & ") x)
sign_read Disjunction x = ap (λ (o : Option (List ℕ)). or_else o Disjunction (or_else (after_prefix (codes " -> ") (codes " | " ++ x)) Implication (or_else (after_prefix (codes " <-> ") (codes " | " ++ x)) Equivalence None))) (after_front (codes " | ") x)
sign_read Implication x = ap (λ (o : Option (List ℕ)). or_else o Implication (or_else (after_prefix (codes " <-> ") (codes " -> " ++ x)) Equivalence None)) (after_front (codes " -> ") x)
sign_read Equivalence x = ap (λ (o : Option (List ℕ)). or_else o Equivalence None) (after_front (codes " <-> ") x)

sign_ends : (c : Connective) (x : List ℕ) → EndsWord (connective_sign c ++ x)
sign_ends Conjunction x = refl
sign_ends Disjunction x = refl
sign_ends Implication x = refl
sign_ends Equivalence x = refl

joined_found : (c : Connective) (f g : Formula) → IsFound f → IsFound g → IsFound (Joined c f g)
joined_found c f g first second zero r deep named ends = absurd (omega (arith, deep))
joined_found c f g first second (suc n) r deep named ends =
    let rest : List ℕ = primary g ++ (41 ∷ r) in
    pair_found c (connective_sign c) f g n r (sign_ends c rest) (sign_read c) (first n (connective_sign c ++ rest) (omega (arith, deep)) named.0 (sign_ends c rest)) (second n (41 ∷ r) (omega (arith, deep)) named.1 refl)

word_at : (n : ℕ) (v r : List ℕ) → 1 ≤ n → IsTrue (is_word v) → EndsWord r → formula_in n (v ++ r) ≡ Some (formula_of_word v, r)
word_at zero v r some is ends = absurd (omega (arith, some))
word_at (suc n) v r some is ends = word_found n v r is ends

found : (f : Formula) → IsFound f
found Truth = λ n r deep named ends. word_at n (codes "true") r deep refl ends
found Falsity = λ n r deep named ends. word_at n (codes "false") r deep refl ends
found (Atom m) = λ n r deep named ends. word_at n m r deep (name_is_word m named) ends ∙ ap (λ (f : Formula). Some (f, r)) (atom_found m named)
found (Not f) = not_found f (found f)
found (Joined c f g) = joined_found c f g (found f) (found g)

pub same_primary : (f g : Formula) (r s : List ℕ) → IsNamedFormula f → IsNamedFormula g → EndsWord r → EndsWord s → primary f ++ r ≡ primary g ++ s → (f ≡ g) × (r ≡ s)
same_primary f g r s nf ng er es e =
    let n = depth f + depth g in
    let same : ◌≡◌ {A = Formula × List ℕ} (f, r) (g, s) = same_Some (f, r) (g, s) (sym (found f n r (omega arith) nf er) ∙ (ap (formula_in n) e ∙ found g n s (omega arith) ng es)) in
    (ap (λ (p : Formula × List ℕ). p.0) same, ap (λ (p : Formula × List ℕ). p.1) same)
