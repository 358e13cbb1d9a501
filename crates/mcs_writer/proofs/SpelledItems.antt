-- The text of an item of a context has the tokens of what is written.
use Rattle.std.proofs.Common.{◌≡◌, ℕ, ◌+◌, true, false, nat_eq, true≢false, List, [], ◌∷◌, ◌++◌, codes, map, length, refl, sym, append_assoc, arith}
use Rattle.std.specs.List.{AllByRecursion, flat_map}
use Rattle.mcs_base.proofs.WordLemmas.{EndsWord, ends_regrouped}
use Rattle.mcs_system.specs.Faults.{is_unjustified}
use Rattle.mcs_system.specs.Plain.{Name, Formula, Default, ProgramRule, Item, Kb, Context}
use Rattle.mcs_system.specs.Plain as plain
use Rattle.mcs_text.specs.Separated.{separated, further}
use Rattle.mcs_tokens.specs.declared.sign.Sign.TheVariants as signs
use Rattle.mcs_writer.specs.Canonical.{formula_text, theory_item_text, denied, further_by, joined_by, rule_sign, program_rule_text}
use Rattle.mcs_grammar.specs.Entries.{AtomOf, BeginsDefault, IsNumber, Entry, entry, whole_entries, after_sign, item_entries, atom_entry, further_heads, head_entries, optional, literal_entries, further_literals, body_entries, rule_entries}
use Rattle.mcs_system.specs.Naming.{IsName, AreNames, IsNamedFormula, IsNamedDefault, IsNamedItem, IsNamedRule}
use Rattle.mcs_writer.proofs.ItemsWritten.{formula_written, with_justs, item_written, literal_written, body_written, has_sign, rule_written}
use Rattle.mcs_grammar.proofs.Spelled.{no-hyphen, IsSpelled, beside, text-as, nothing, one-sign, sign-blank, blank-sign-blank, word-space}
use Rattle.mcs_writer.proofs.SpelledFormulas.{one-name, formula-spelled}

-- a formula on its own
pub alone : (c : Name) (f : Formula) (next : List ℕ) → IsNamedFormula f → EndsWord next → IsSpelled (formula_text f) (whole_entries c (formula_written f)) next
alone c f next h ends = formula-spelled c f 0 0 next h ends

comma : (next : List ℕ) → IsSpelled (codes ", ") (entry (codes ",") [] ∷ []) next
comma next = sign-blank signs.Comma [] 32 next refl tt

-- what was said of some text, after a comma
pub after-comma : (a : List ℕ) (ms : List Entry) (next : List ℕ) → IsSpelled a ms next → IsSpelled (codes ", " ++ a) (entry (codes ",") [] ∷ ms) next
after-comma a ms next h = beside (codes ", ") a (entry (codes ",") [] ∷ []) ms next (comma (a ++ next)) h

-- nothing, or a comma, comes next
pub further-ends : (ts : List (List ℕ)) (next : List ℕ) → EndsWord next → EndsWord (further ts ++ next)
further-ends [] next ends = ends
further-ends (t ∷ ts) next ends = refl

-- ---- defaults
further-justs : (c : Name) (js : List Formula) (next : List ℕ) → AllByRecursion IsNamedFormula js → EndsWord next → IsSpelled (further (map formula_text js)) (flat_map (after_sign (codes ",") c) (map formula_written js)) next
further-justs c [] next h ends = nothing next
further-justs c (j ∷ js) next h ends =
    let rest = further (map formula_text js) in
    beside (codes ", " ++ formula_text j) rest (after_sign (codes ",") c (formula_written j)) (flat_map (after_sign (codes ",") c) (map formula_written js)) next
    (after-comma (formula_text j) (whole_entries c (formula_written j)) (rest ++ next) (alone c j (rest ++ next) h.0 (further-ends (map formula_text js) next ends)))
    (further-justs c js next h.1 ends)

justs-spelled : (c : Name) (d : Default) (j : Formula) (js : List Formula) (next : List ℕ) → IsNamedDefault d → AllByRecursion IsNamedFormula (j ∷ js) → EndsWord next
    → IsSpelled (formula_text d.pre ++ (codes " : " ++ (separated (map formula_text (j ∷ js)) ++ (codes " / " ++ formula_text d.conclusion)))) (item_entries c (with_justs d (j ∷ js))) next
justs-spelled c d j js next h k ends =
    let rest = further (map formula_text js) in
    let rest_entries = flat_map (after_sign (codes ",") c) (map formula_written js) in
    let end = codes " / " ++ formula_text d.conclusion in
    let end_entries = after_sign (codes "/") c (formula_written d.conclusion) in
    let last : IsSpelled end end_entries next = beside (codes " / ") (formula_text d.conclusion) (entry (codes "/") [] ∷ []) (whole_entries c (formula_written d.conclusion)) next
    (blank-sign-blank signs.Slash [] 32 (formula_text d.conclusion ++ next) refl tt) (alone c d.conclusion next h.conclusion ends) in
    let more : IsSpelled (rest ++ end) (rest_entries ++ end_entries) next = beside rest end rest_entries end_entries next (further-justs c js (end ++ next) k.1 refl) last in
    let all : IsSpelled (formula_text j ++ (rest ++ end)) (whole_entries c (formula_written j) ++ (rest_entries ++ end_entries)) next =
    beside (formula_text j) (rest ++ end) (whole_entries c (formula_written j)) (rest_entries ++ end_entries) next (alone c j ((rest ++ end) ++ next) k.0 (ends_regrouped rest end next (further-ends (map formula_text js) (end ++ next) refl))) more in
    let same : formula_text j ++ (rest ++ end) ≡ separated (map formula_text (j ∷ js)) ++ end = sym (append_assoc (formula_text j) rest end) in
    let colon = beside (codes " : ") (separated (map formula_text (j ∷ js)) ++ end) (entry (codes ":") (BeginsDefault c ∷ []) ∷ []) (whole_entries c (formula_written j) ++ (rest_entries ++ end_entries)) next
    (blank-sign-blank signs.Colon (BeginsDefault c ∷ []) 32 ((separated (map formula_text (j ∷ js)) ++ end) ++ next) refl (no-hyphen 32 _ (λ e. omega arith))) (text-as _ _ _ next same all) in
    beside (formula_text d.pre) (codes " : " ++ (separated (map formula_text (j ∷ js)) ++ end)) (whole_entries c (formula_written d.pre)) (entry (codes ":") (BeginsDefault c ∷ []) ∷ (whole_entries c (formula_written j) ++ (rest_entries ++ end_entries))) next
    (alone c d.pre _ h.pre refl) colon

-- of a default that has a justification
pub item-spelled : (c : Name) (i : Item) (next : List ℕ) → IsNamedItem i → is_unjustified i ≡ false → EndsWord next → IsSpelled (theory_item_text i) (item_entries c (item_written i)) next
item-spelled c (plain.Fact f) next h some ends = alone c f next h ends
item-spelled c (plain.Rule d) next h some ends = at d.justs refl some h.justs
  where
    at : (js : List Formula) → d.justs ≡ js → nat_eq (length js) 0 ≡ false → AllByRecursion IsNamedFormula js
        → IsSpelled (formula_text d.pre ++ (codes " : " ++ (separated (map formula_text js) ++ (codes " / " ++ formula_text d.conclusion)))) (item_entries c (with_justs d js)) next
    at [] is some' k = absurd (true≢false some')
    at (j ∷ js) is some' k = justs-spelled c d j js next h k ends

-- ---- program rules
literal-spelled : (c : Name) (n : ℕ) (a : Name) (next : List ℕ) → IsName a → EndsWord next → IsSpelled a (literal_entries c n (literal_written false a)) next
literal-spelled c n a next h ends = one-name a (AtomOf c a ∷ IsNumber (n + 1) ∷ []) next h ends

denied-spelled : (c : Name) (n : ℕ) (a : Name) (next : List ℕ) → IsName a → EndsWord next → IsSpelled (denied a) (literal_entries c n (literal_written true a)) next
denied-spelled c n a next h ends = beside (codes "not ") a (entry (codes "not") [] ∷ []) (atom_entry c (n + 1) a ∷ []) next (word-space (codes "not") [] (a ++ next) refl (omega arith)) (literal-spelled c n a next h ends)

further-literals : (c : Name) (n : ℕ) (pos neg : List Name) (next : List ℕ) → AreNames pos → AreNames neg → EndsWord next → IsSpelled (further (pos ++ map denied neg)) (further_literals c n (body_written pos neg)) next
further-literals c n [] [] next h k ends = nothing next
further-literals c n [] (m ∷ ms) next h k ends =
    let rest = further (map denied ms) in
    beside (codes ", " ++ denied m) rest (entry (codes ",") [] ∷ literal_entries c n (literal_written true m)) (further_literals c (n + 1) (body_written [] ms)) next
    (after-comma (denied m) (literal_entries c n (literal_written true m)) (rest ++ next) (denied-spelled c n m (rest ++ next) k.0 (further-ends (map denied ms) next ends)))
    (further-literals c (n + 1) [] ms next h k.1 ends)
further-literals c n (p ∷ ps) neg next h k ends =
    let rest = further (ps ++ map denied neg) in
    beside (codes ", " ++ p) rest (entry (codes ",") [] ∷ literal_entries c n (literal_written false p)) (further_literals c (n + 1) (body_written ps neg)) next
    (after-comma p (literal_entries c n (literal_written false p)) (rest ++ next) (literal-spelled c n p (rest ++ next) h.0 (further-ends (ps ++ map denied neg) next ends)))
    (further-literals c (n + 1) ps neg next h.1 k ends)

body-spelled : (c : Name) (n : ℕ) (pos neg : List Name) (next : List ℕ) → AreNames pos → AreNames neg → EndsWord next → IsSpelled (separated (pos ++ map denied neg)) (body_entries c n (body_written pos neg)) next
body-spelled c n [] [] next h k ends = nothing next
body-spelled c n [] (m ∷ ms) next h k ends =
    let rest = further (map denied ms) in
    beside (denied m) rest (literal_entries c n (literal_written true m)) (further_literals c (n + 1) (body_written [] ms)) next
    (denied-spelled c n m (rest ++ next) k.0 (further-ends (map denied ms) next ends)) (further-literals c (n + 1) [] ms next h k.1 ends)
body-spelled c n (p ∷ ps) neg next h k ends =
    let rest = further (ps ++ map denied neg) in
    beside p rest (literal_entries c n (literal_written false p)) (further_literals c (n + 1) (body_written ps neg)) next
    (literal-spelled c n p (rest ++ next) h.0 (further-ends (ps ++ map denied neg) next ends)) (further-literals c (n + 1) ps neg next h.1 k ends)

heads-end : (ns : List Name) (next : List ℕ) → EndsWord next → EndsWord (further_by (codes " | ") ns ++ next)
heads-end [] next ends = ends
heads-end (n ∷ ns) next ends = refl

further-names : (c : Name) (n : ℕ) (ns : List Name) (next : List ℕ) → AreNames ns → EndsWord next → IsSpelled (further_by (codes " | ") ns) (further_heads c n ns) next
further-names c n [] next h ends = nothing next
further-names c n (a ∷ ns) next h ends =
    let rest = further_by (codes " | ") ns in
    let one : IsSpelled a (atom_entry c (n + 1) a ∷ []) (rest ++ next) = one-name a (AtomOf c a ∷ IsNumber (n + 1) ∷ []) (rest ++ next) h.0 (heads-end ns next ends) in
    let bar = beside (codes " | ") a (entry (codes "|") [] ∷ []) (atom_entry c (n + 1) a ∷ []) (rest ++ next) (blank-sign-blank signs.Bar [] 32 (a ++ (rest ++ next)) refl tt) one in
    beside (codes " | " ++ a) rest (entry (codes "|") [] ∷ atom_entry c (n + 1) a ∷ []) (further_heads c (n + 1) ns) next bar (further-names c (n + 1) ns next h.1 ends)

head-spelled : (c : Name) (a : Name) (ns : List Name) (next : List ℕ) → AreNames (a ∷ ns) → EndsWord next → IsSpelled (joined_by (codes " | ") true (a ∷ ns)) (head_entries c (a ∷ ns)) next
head-spelled c a ns next h ends =
    let rest = further_by (codes " | ") ns in
    beside a rest (atom_entry c 1 a ∷ []) (further_heads c 1 ns) next (one-name a (AtomOf c a ∷ IsNumber 1 ∷ []) (rest ++ next) h.0 (heads-end ns next ends)) (further-names c 1 ns next h.1 ends)

-- the sign with the body after it
abbrev signed : List Name → List Name → List Name → List ℕ
signed head pos neg = rule_sign head (pos ++ neg) ++ separated (pos ++ map denied neg)

abbrev signed_entries : Name → ℕ → List Name → List Name → List Name → List Entry
signed_entries c n head pos neg = optional (has_sign head (body_written pos neg)) (codes ":-") ++ body_entries c n (body_written pos neg)

first-sign : (c : Name) (n : ℕ) (pos neg : List Name) (next : List ℕ) → AreNames pos → AreNames neg → EndsWord next → IsSpelled (codes ":- " ++ separated (pos ++ map denied neg)) (entry (codes ":-") [] ∷ body_entries c n (body_written pos neg)) next
first-sign c n pos neg next h k ends =
    let body = separated (pos ++ map denied neg) in
    beside (codes ":- ") body (entry (codes ":-") [] ∷ []) (body_entries c n (body_written pos neg)) next (sign-blank signs.If [] 32 (body ++ next) refl tt) (body-spelled c n pos neg next h k ends)

later-sign : (c : Name) (n : ℕ) (pos neg : List Name) (next : List ℕ) → AreNames pos → AreNames neg → EndsWord next → IsSpelled (codes " :- " ++ separated (pos ++ map denied neg)) (entry (codes ":-") [] ∷ body_entries c n (body_written pos neg)) next
later-sign c n pos neg next h k ends =
    let body = separated (pos ++ map denied neg) in
    beside (codes " :- ") body (entry (codes ":-") [] ∷ []) (body_entries c n (body_written pos neg)) next (blank-sign-blank signs.If [] 32 (body ++ next) refl tt) (body-spelled c n pos neg next h k ends)

signed-spelled : (c : Name) (n : ℕ) (head pos neg : List Name) (next : List ℕ) → AreNames pos → AreNames neg → EndsWord next → IsSpelled (signed head pos neg) (signed_entries c n head pos neg) next
signed-spelled c n [] [] [] next h k ends = one-sign signs.If [] next tt
signed-spelled c n [] [] (m ∷ ms) next h k ends = first-sign c n [] (m ∷ ms) next h k ends
signed-spelled c n [] (p ∷ ps) neg next h k ends = first-sign c n (p ∷ ps) neg next h k ends
signed-spelled c n (a ∷ ns) [] [] next h k ends = nothing next
signed-spelled c n (a ∷ ns) [] (m ∷ ms) next h k ends = later-sign c n [] (m ∷ ms) next h k ends
signed-spelled c n (a ∷ ns) (p ∷ ps) neg next h k ends = later-sign c n (p ∷ ps) neg next h k ends

signed-ends : (a : Name) (ns pos neg : List Name) (next : List ℕ) → EndsWord next → EndsWord (signed (a ∷ ns) pos neg ++ next)
signed-ends a ns [] [] next ends = ends
signed-ends a ns [] (m ∷ ms) next ends = refl
signed-ends a ns (p ∷ ps) neg next ends = refl

parts-spelled : (c : Name) (head pos neg : List Name) (next : List ℕ) → AreNames head → AreNames pos → AreNames neg → EndsWord next
    → IsSpelled (joined_by (codes " | ") true head ++ signed head pos neg) (head_entries c head ++ signed_entries c (length head) head pos neg) next
parts-spelled c [] pos neg next g h k ends = signed-spelled c 0 [] pos neg next h k ends
parts-spelled c (a ∷ ns) pos neg next g h k ends = beside (joined_by (codes " | ") true (a ∷ ns)) (signed (a ∷ ns) pos neg) (head_entries c (a ∷ ns)) (signed_entries c (length (a ∷ ns)) (a ∷ ns) pos neg) next
    (head-spelled c a ns (signed (a ∷ ns) pos neg ++ next) g (signed-ends a ns pos neg next ends)) (signed-spelled c (length (a ∷ ns)) (a ∷ ns) pos neg next h k ends)

pub rule-spelled : (c : Name) (r : ProgramRule) (next : List ℕ) → IsNamedRule r → EndsWord next → IsSpelled (program_rule_text r) (rule_entries c (rule_written r)) next
rule-spelled c r next h ends = parts-spelled c r.head r.pos r.neg next h.head h.pos h.neg ends
