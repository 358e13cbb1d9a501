-- The text of a formula has the tokens of what is written.
use Rattle.std.proofs.Common.{◌≡◌, ℕ, ◌+◌, List, [], ◌∷◌, ◌++◌, codes, refl, sym, ap, ◌∙◌, true≢false, append_assoc, arith}
use Rattle.std.proofs.lemmas.Bool.{and_parts}
use Rattle.mcs_base.specs.Words.{is_letter}
use Rattle.mcs_base.proofs.WordLemmas.{EndsWord, name_is_word, name_is_short}
use Rattle.mcs_system.specs.Plain.{Name, Formula, Truth, Falsity, Atom, Not, Joined, Connective, Conjunction, Disjunction, Implication, Equivalence}
use Rattle.mcs_system.specs.Texts.{connective_sign, primary, in_parentheses}
use Rattle.mcs_tokens.specs.Spelling.{sign_bytes}
use Rattle.mcs_tokens.specs.Tokens.{BeginsWith}
use Rattle.mcs_tokens.specs.declared.sign.Sign.{Sign}
use Rattle.mcs_tokens.specs.declared.sign.Sign.TheVariants as signs
use Rattle.mcs_writer.specs.Canonical.{formula_text}
use Rattle.mcs_grammar.specs.Entries.{joint_sign, Use, AtomOf, IsNumber, OpensWithin, Entry, entry, size_of, formula_entries}
use Rattle.mcs_system.specs.Naming.{IsName, IsNamedFormula}
use Rattle.mcs_writer.proofs.ItemsWritten.{primary_written, formula_written}
use Rattle.mcs_grammar.proofs.Spelled.{IsSpelled, beside, text-as, one-word, no-hyphen, MayFollow, a_sign, one-sign, blank-sign-blank}

pub one-name : (n : Name) (uses : List Use) (next : List ℕ) → IsName n → EndsWord next → IsSpelled n (entry n uses ∷ []) next
one-name n uses next h ends = one-word n uses next (name_is_word n h) (name_is_short n h) ends

name-no-hyphen : (n : Name) (next : List ℕ) → IsName n → ¬ BeginsWith (n ++ next) (codes "-")
name-no-hyphen [] next h = absurd (true≢false (sym (name_is_word [] h)))
name-no-hyphen (b ∷ bs) next h = no-hyphen b _ (λ e. true≢false (sym ((and_parts (is_letter b) _ (name_is_word (b ∷ bs) h)).0) ∙ ap is_letter e))

pub primary-no-hyphen : (f : Formula) (next : List ℕ) → IsNamedFormula f → ¬ BeginsWith (primary f ++ next) (codes "-")
primary-no-hyphen Truth next h = no-hyphen 116 _ (λ e. omega arith)
primary-no-hyphen Falsity next h = no-hyphen 102 _ (λ e. omega arith)
primary-no-hyphen (Atom n) next h = name-no-hyphen n next h
primary-no-hyphen (Not f) next h = no-hyphen 126 _ (λ e. omega arith)
primary-no-hyphen (Joined j f g) next h = no-hyphen 40 _ (λ e. omega arith)

-- ---- two formulas with a sign between them
abbrev between_spaces : Sign → List ℕ
between_spaces s = 32 ∷ (sign_bytes s ++ 32 ∷ [])

sides : (a b : List ℕ) (ms ns : List Entry) (s : Sign) (uses : List Use) (next : List ℕ) → MayFollow s (32 ∷ (b ++ next)) → IsSpelled a ms ((between_spaces s ++ b) ++ next) → IsSpelled b ns next
    → IsSpelled (a ++ (between_spaces s ++ b)) (ms ++ a_sign s uses ∷ ns) next
sides a b ms ns s uses next may left right = beside a (between_spaces s ++ b) ms (a_sign s uses ∷ ns) next left
    (beside (between_spaces s) b (a_sign s uses ∷ []) ns next (blank-sign-blank s uses 32 (b ++ next) refl may) right)

-- a line a connective
joint-sides : (j : Connective) (a b : List ℕ) (ms ns : List Entry) (uses : List Use) (next : List ℕ) → IsSpelled a ms ((connective_sign j ++ b) ++ next) → IsSpelled b ns next
    → IsSpelled (a ++ (connective_sign j ++ b)) (ms ++ entry (joint_sign j) uses ∷ ns) next
joint-sides Conjunction a b ms ns uses next left right = sides a b ms ns signs.Ampersand uses next tt left right
joint-sides Disjunction a b ms ns uses next left right = sides a b ms ns signs.Bar uses next tt left right
joint-sides Implication a b ms ns uses next left right = sides a b ms ns signs.Arrow uses next tt left right
joint-sides Equivalence a b ms ns uses next left right = sides a b ms ns signs.DoubleArrow uses next tt left right

joint-ends : (j : Connective) (b next : List ℕ) → EndsWord ((connective_sign j ++ b) ++ next)
joint-ends Conjunction b next = refl
joint-ends Disjunction b next = refl
joint-ends Implication b next = refl
joint-ends Equivalence b next = refl

grouped : (a sign b : List ℕ) (ms : List Entry) (opens : List Use) (next : List ℕ) → IsSpelled (a ++ (sign ++ b)) ms (codes ")" ++ next) → IsSpelled (in_parentheses a sign b) (entry (codes "(") opens ∷ (ms ++ entry (codes ")") [] ∷ [])) next
grouped a sign b ms opens next h =
    let inner = beside (a ++ (sign ++ b)) (codes ")") ms (entry (codes ")") [] ∷ []) next h (one-sign signs.CloseParenthesis [] next tt) in
    let same : codes "(" ++ ((a ++ (sign ++ b)) ++ codes ")") ≡ in_parentheses a sign b = ap (λ l. codes "(" ++ l) (append_assoc a (sign ++ b) (codes ")") ∙ ap (λ l. a ++ l) (append_assoc sign b (codes ")"))) in
    let whole = beside (codes "(") ((a ++ (sign ++ b)) ++ codes ")") (entry (codes "(") opens ∷ []) (ms ++ entry (codes ")") [] ∷ []) next
    (one-sign signs.OpenParenthesis opens (((a ++ (sign ++ b)) ++ codes ")") ++ next) tt) inner in
    text-as _ (in_parentheses a sign b) (entry (codes "(") opens ∷ (ms ++ entry (codes ")") [] ∷ [])) next same whole

-- ---- formulas
-- how many tokens come before the sign
abbrev sign_number : ℕ → Formula → ℕ
sign_number n f = n + size_of (primary_written f) + 1

pub primary-spelled : (c : Name) (f : Formula) (n o : ℕ) (next : List ℕ) → IsNamedFormula f → EndsWord next → IsSpelled (primary f) (formula_entries c n o (primary_written f)) next
primary-spelled c Truth n o next h ends = one-word (codes "true") (IsNumber (n + 1) ∷ []) next refl (omega arith) ends
primary-spelled c Falsity n o next h ends = one-word (codes "false") (IsNumber (n + 1) ∷ []) next refl (omega arith) ends
primary-spelled c (Atom a) n o next h ends = one-name a (AtomOf c a ∷ IsNumber (n + 1) ∷ []) next h ends
primary-spelled c (Not f) n o next h ends = beside (codes "~") (primary f) (entry (codes "~") (IsNumber (n + 1) ∷ []) ∷ []) (formula_entries c (n + 1) o (primary_written f)) next
    (one-sign signs.Tilde (IsNumber (n + 1) ∷ []) (primary f ++ next) tt) (primary-spelled c f (n + 1) o next h ends)
primary-spelled c (Joined j f g) n o next h ends = grouped (primary f) (connective_sign j) (primary g) _ (OpensWithin o ∷ []) next
    (joint-sides j (primary f) (primary g) _ _ (IsNumber (sign_number n f) ∷ []) (codes ")" ++ next) (primary-spelled c f n (o + 1) _ h.0 (joint-ends j (primary g) (codes ")" ++ next))) (primary-spelled c g (sign_number n f) (o + 1) (codes ")" ++ next) h.1 refl))

pub formula-spelled : (c : Name) (f : Formula) (n o : ℕ) (next : List ℕ) → IsNamedFormula f → EndsWord next → IsSpelled (formula_text f) (formula_entries c n o (formula_written f)) next
formula-spelled c (Joined j f g) n o next h ends = joint-sides j (primary f) (primary g) _ _ (IsNumber (sign_number n f) ∷ []) next (primary-spelled c f n o _ h.0 (joint-ends j (primary g) next)) (primary-spelled c g (sign_number n f) o next h.1 ends)
formula-spelled c f n o next h ends = primary-spelled c f n o next h ends
