-- The text of a context has the tokens of what is written.
use Rattle.std.proofs.Common.{◌≡◌, ℕ, ◌≤◌, false, IsTrue, List, [], ◌∷◌, ◌++◌, codes, map, length, refl, arith}
use Rattle.std.specs.List.{AllByRecursion, flat_map}
use Rattle.mcs_base.specs.Words.{is_word, most_name_bytes}
use Rattle.mcs_base.proofs.Each.{all_both}
use Rattle.mcs_base.proofs.WordLemmas.{EndsWord}
use Rattle.mcs_system.specs.Faults.{has_unjustified}
use Rattle.mcs_system.specs.Plain.{Name, Formula, Default, ProgramRule, Item, Kb, Context}
use Rattle.mcs_system.specs.Plain as plain
use Rattle.mcs_tokens.specs.declared.sign.Sign.TheVariants as signs
use Rattle.mcs_writer.specs.Canonical.{text_in, kb_word, item_line, items_text, context_text}
use Rattle.mcs_grammar.specs.Entries.{Use, BeginsContext, NamesContext, BeginsItem, Entry, entry, with_first, ended, kind_word, kind_uses, entries_in, kb_entries, context_entries}
use Rattle.mcs_system.specs.Naming.{IsNamedKb, IsNamedContext}
use Rattle.mcs_writer.proofs.CanonicalWritten.{kb_written, context_written}
use Rattle.mcs_grammar.proofs.Spelled.{IsSpelled, beside, entries-as, first-tokens, nothing, one-word, blank, sign-blank, blank-sign-blank, word-space}
use Rattle.mcs_writer.proofs.SpelledFormulas.{one-name}
pub use Rattle.mcs_writer.proofs.SpelledItems.{after-comma, further-ends, item-spelled}
use Rattle.mcs_writer.proofs.KindItems.{word-spelled, written_in, IsFitIn, fit-items, spelled-in}
use Rattle.mcs_system.specs.Kinds.{IsNamedIn}

-- ---- lines
line-spelled : (c : Name) (text : List ℕ) (ms : List Entry) (next : List ℕ) → IsSpelled text ms (codes ".\n" ++ next) → IsSpelled (item_line text) (ended c ms) next
line-spelled c text ms next h =
    let first = with_first (BeginsItem c ∷ []) ms in
    let item : IsSpelled text first (codes ".\n" ++ next) = entries-as text ms first (codes ".\n" ++ next) (first-tokens (BeginsItem c ∷ []) ms) h in
    let period = beside text (codes ".\n") first (entry (codes ".") [] ∷ []) next item (sign-blank signs.Period [] 10 next refl tt) in
    let second = beside (32 ∷ []) (text ++ codes ".\n") [] (first ++ entry (codes ".") [] ∷ []) next (blank 32 _ refl) period in
    beside (32 ∷ []) (32 ∷ (text ++ codes ".\n")) [] (first ++ entry (codes ".") [] ∷ []) next (blank 32 _ refl) second

lines-spelled : {A W : Type 0} (c : Name) (text : A → List ℕ) (written : A → W) (entries : W → List Entry) (P : A → Type 0) → ((x : A) (next : List ℕ) → P x → EndsWord next → IsSpelled (text x) (entries (written x)) next)
    → (xs : List A) (next : List ℕ) → AllByRecursion P xs → IsSpelled (flat_map item_line (map text xs)) (flat_map (λ w. ended c (entries w)) (map written xs)) next
lines-spelled c text written entries P each [] next h = nothing next
lines-spelled c text written entries P each (x ∷ xs) next h =
    let rest = flat_map item_line (map text xs) in
    beside (item_line (text x)) rest (ended c (entries (written x))) (flat_map (λ w. ended c (entries w)) (map written xs)) next
    (line-spelled c (text x) (entries (written x)) (rest ++ next) (each x (codes ".\n" ++ (rest ++ next)) h.0 refl))
    (lines-spelled c text written entries P each xs next h.1)

-- ---- contexts
braces-spelled : (word : List ℕ) (uses : List Use) (items : List ℕ) (ms : List Entry) (next : List ℕ) → IsTrue (is_word word) → length word ≤ most_name_bytes → IsSpelled items ms (codes "}\n" ++ next)
    → IsSpelled (word ++ (codes " {\n" ++ (items ++ codes "}\n"))) (entry word uses ∷ entry (codes "{") [] ∷ (ms ++ entry (codes "}") [] ∷ [])) next
braces-spelled word uses items ms next named short h =
    let end = beside items (codes "}\n") ms (entry (codes "}") [] ∷ []) next h (sign-blank signs.CloseBrace [] 10 next refl tt) in
    let braces = beside (codes " {\n") (items ++ codes "}\n") (entry (codes "{") [] ∷ []) (ms ++ entry (codes "}") [] ∷ []) next (blank-sign-blank signs.OpenBrace [] 10 ((items ++ codes "}\n") ++ next) refl tt) end in
    beside word (codes " {\n" ++ (items ++ codes "}\n")) (entry word uses ∷ []) (entry (codes "{") [] ∷ (ms ++ entry (codes "}") [] ∷ [])) next (one-word word uses _ named short refl) braces

kb-spelled : (c : Name) (kb : Kb) (next : List ℕ) → IsNamedKb kb → has_unjustified kb ≡ false → IsSpelled (kb_word kb ++ (codes " {\n" ++ (items_text kb ++ codes "}\n"))) (kb_entries c (kb_written kb)) next
kb-spelled c (plain.OfKind k items) next h some = let word = word-spelled k in
    braces-spelled (kind_word k) (kind_uses k c) _ _ next word.0 word.1
    (lines-spelled c (text_in k) (written_in k) (entries_in k c) (λ i. IsNamedIn k i × IsFitIn k i) (λ i next' f ends. spelled-in k c i next' f.0 f.1 ends) items (codes "}\n" ++ next)
    (all_both (IsNamedIn k) (IsFitIn k) items h (fit-items k items some)))

pub context-spelled : (c : Context) (next : List ℕ) → IsNamedContext c → has_unjustified c.kb ≡ false → IsSpelled (context_text c) (context_entries (context_written c)) next
context-spelled c next h some =
    let known = kb_word c.kb ++ (codes " {\n" ++ (items_text c.kb ++ codes "}\n")) in
    let kb_entries' = kb_entries c.name (kb_written c.kb) in
    let space = beside (codes " ") known [] kb_entries' next (blank 32 (known ++ next) refl) (kb-spelled c.name c.kb next h.kb some) in
    let named = beside c.name (codes " " ++ known) (entry c.name (NamesContext c.name ∷ []) ∷ []) kb_entries' next (one-name c.name (NamesContext c.name ∷ []) _ h.name refl) space in
    beside (codes "context ") (c.name ++ (codes " " ++ known)) (entry (codes "context") (BeginsContext ∷ []) ∷ []) (entry c.name (NamesContext c.name ∷ []) ∷ kb_entries') next (word-space (codes "context") (BeginsContext ∷ []) _ refl (omega arith)) named
