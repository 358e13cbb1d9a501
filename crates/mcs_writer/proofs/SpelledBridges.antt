-- The text of a bridge rule, and that of a system, has the tokens of what is written.
use Rattle.std.proofs.Common.{◌≡◌, ℕ, ◌≤◌, Bool, true, false, ◌||◌, nat_eq, cond, IsTrue, List, [], ◌∷◌, ◌++◌, codes, length, map, Some, None, slice_get, refl, ap, append_assoc, arith, true≢false}
use Rattle.std.specs.Fmt.{decimal}
use Rattle.std.proofs.lemmas.Fmt.{length-decimal-le}
use Rattle.mcs_base.specs.Numbers.{value_of_digits}
use Rattle.mcs_base.specs.Words.{is_word, most_name_bytes}
use Rattle.std.specs.List.{AllByRecursion, flat_map, list_any}
use Rattle.mcs_base.proofs.Each.{all_both, all_from_no_any}
use Rattle.mcs_base.proofs.WordLemmas.{EndsWord, ends_regrouped}
use Rattle.mcs_system.specs.Faults.{has_unjustified, IsValid}
use Rattle.mcs_system.specs.Plain.{Name, Context, Read, Bridge, System}
use Rattle.mcs_system.specs.Texts.{primary, belief_text, name_of_context}
use Rattle.mcs_text.specs.Separated.{separated, further}
use Rattle.mcs_system.proofs.ValidLemmas.{tests_pass}
use Rattle.mcs_tokens.specs.declared.sign.Sign.TheVariants as signs
use Rattle.mcs_writer.specs.Canonical.{denied, context_text, head_place, if_word, weight_text, marks_text, bridge_text, is_marked, version_line, canonical_text}
use Rattle.mcs_grammar.specs.Entries.{Use, BeginsBridge, NamesBridge, Weighs, NamesTarget, NamesSource, BeginsBelief, EndsRead, Entry, entry, formula_in, with_first, with_last, whole_entries, optional, place_entries, read_entries, further_read, reads_entries, weight_entries, mark_entries, context_entries, bridge_entries, version_entries, text_entries}
use Rattle.mcs_system.specs.Naming.{IsNamedContext, IsSystemNamed}
use Rattle.mcs_writer.proofs.CanonicalGrammar.{IsPlaced, IsPlacedBridge, placed-name, all-placed}
use Rattle.mcs_writer.proofs.CanonicalWritten.{primary_written, place_written, read_written, reads_written, weight_written, marks_written, bridge_written, context_written, canonical_written}
use Rattle.mcs_grammar.proofs.Spelled.{no-hyphen, IsSpelled, beside, text-as, entries-as, first-tokens, last-tokens, nothing, one-word, one-number, one-sign, blank, sign-blank, word-space}
use Rattle.mcs_tokens.proofs.Numbers.{decimal_is}
use Rattle.mcs_writer.proofs.SpelledFormulas.{one-name, primary-no-hyphen, primary-spelled}
use Rattle.mcs_writer.proofs.SpelledContexts.{after-comma, further-ends, context-spelled}

-- ---- places
module _ (m : System) (named : IsSystemNamed m) where
  place-spelled : (role : Use) (r : Read) (next : List ℕ) → IsPlaced m r → EndsWord next → IsSpelled (belief_text m r) (place_entries role (place_written m r)) next
  place-spelled role r next h ends =
      let c = name_of_context (slice_get m.contexts r.context) in
      let begins = BeginsBelief c ∷ [] in
      let formula = whole_entries c (primary_written r.belief) in
      let belief : IsSpelled (primary r.belief) (with_first begins formula) next =
      entries-as (primary r.belief) formula (with_first begins formula) next (first-tokens begins formula) (primary-spelled c r.belief 0 0 next h.1 ends) in
      let colon = beside (codes ":") (primary r.belief) (entry (codes ":") [] ∷ []) (with_first begins formula) next (one-sign signs.Colon [] (primary r.belief ++ next) (primary-no-hyphen r.belief next h.1)) belief in
      beside c (codes ":" ++ primary r.belief) (entry c (role ∷ []) ∷ []) (entry (codes ":") [] ∷ with_first begins formula) next (one-name c (role ∷ []) _ (placed-name m named r h) refl) colon

  -- ---- reads
  module _ (target : Name) where
    read-spelled : (r : Read) (next : List ℕ) → IsPlaced m r → EndsWord next → IsSpelled (belief_text m r) (read_entries target (read_written m false r)) next
    read-spelled r next h ends =
        let p = place_written m r in
        let place = place_entries (NamesSource p.context) p in
        let last = EndsRead target p.context (formula_in p.belief) ∷ [] in
        entries-as (belief_text m r) place (with_last last place) next (last-tokens last place) (place-spelled (NamesSource p.context) r next h ends)

    denied-spelled : (r : Read) (next : List ℕ) → IsPlaced m r → EndsWord next → IsSpelled (denied (belief_text m r)) (read_entries target (read_written m true r)) next
    denied-spelled r next h ends = beside (codes "not ") (belief_text m r) (entry (codes "not") [] ∷ []) (read_entries target (read_written m false r)) next
        (word-space (codes "not") [] (belief_text m r ++ next) refl (omega arith)) (read-spelled r next h ends)

    abbrev texts : List Read → List Read → List (List ℕ)
    texts pos neg = map (belief_text m) pos ++ map (λ (r : Read). denied (belief_text m r)) neg

    further-reads : (pos neg : List Read) (next : List ℕ) → AllByRecursion (IsPlaced m) pos → AllByRecursion (IsPlaced m) neg → EndsWord next → IsSpelled (further (texts pos neg)) (flat_map (further_read target) (reads_written m pos neg)) next
    further-reads [] [] next h k ends = nothing next
    further-reads [] (r ∷ rs) next h k ends =
        let rest = further (texts [] rs) in
        beside (codes ", " ++ denied (belief_text m r)) rest (further_read target (read_written m true r)) (flat_map (further_read target) (reads_written m [] rs)) next
        (after-comma (denied (belief_text m r)) (read_entries target (read_written m true r)) (rest ++ next) (denied-spelled r (rest ++ next) k.0 (further-ends (texts [] rs) next ends)))
        (further-reads [] rs next h k.1 ends)
    further-reads (r ∷ rs) neg next h k ends =
        let rest = further (texts rs neg) in
        beside (codes ", " ++ belief_text m r) rest (further_read target (read_written m false r)) (flat_map (further_read target) (reads_written m rs neg)) next
        (after-comma (belief_text m r) (read_entries target (read_written m false r)) (rest ++ next) (read-spelled r (rest ++ next) h.0 (further-ends (texts rs neg) next ends)))
        (further-reads rs neg next h.1 k ends)

    after-if : (a : List ℕ) (ms : List Entry) (next : List ℕ) → IsSpelled a ms next → IsSpelled (codes " if " ++ a) (entry (codes "if") [] ∷ ms) next
    after-if a ms next h =
        let word = beside (codes "if ") a (entry (codes "if") [] ∷ []) ms next (word-space (codes "if") [] (a ++ next) refl (omega arith)) h in
        beside (codes " ") (codes "if " ++ a) [] (entry (codes "if") [] ∷ ms) next (blank 32 _ refl) word

    reads-spelled : (pos neg : List Read) (next : List ℕ) → AllByRecursion (IsPlaced m) pos → AllByRecursion (IsPlaced m) neg → EndsWord next → IsSpelled (if_word (pos ++ neg) ++ separated (texts pos neg)) (reads_entries target (reads_written m pos neg)) next
    reads-spelled [] [] next h k ends = nothing next
    reads-spelled [] (r ∷ rs) next h k ends =
        let rest = further (texts [] rs) in
        after-if (denied (belief_text m r) ++ rest) (read_entries target (read_written m true r) ++ flat_map (further_read target) (reads_written m [] rs)) next
        (beside (denied (belief_text m r)) rest (read_entries target (read_written m true r)) (flat_map (further_read target) (reads_written m [] rs)) next
        (denied-spelled r (rest ++ next) k.0 (further-ends (texts [] rs) next ends)) (further-reads [] rs next h k.1 ends))
    reads-spelled (r ∷ rs) neg next h k ends =
        let rest = further (texts rs neg) in
        after-if (belief_text m r ++ rest) (read_entries target (read_written m false r) ++ flat_map (further_read target) (reads_written m rs neg)) next
        (beside (belief_text m r) rest (read_entries target (read_written m false r)) (flat_map (further_read target) (reads_written m rs neg)) next
        (read-spelled r (rest ++ next) h.0 (further-ends (texts rs neg) next ends)) (further-reads rs neg next h.1 k ends))

    reads-end : (pos neg : List Read) (next : List ℕ) → EndsWord next → EndsWord ((if_word (pos ++ neg) ++ separated (texts pos neg)) ++ next)
    reads-end [] [] next ends = ends
    reads-end [] (r ∷ rs) next ends = refl
    reads-end (r ∷ rs) neg next ends = refl

  -- ---- rules
  -- a word after a space, where it stands
  mark-spelled : (v : Bool) (word next : List ℕ) → IsTrue (is_word word) → length word ≤ most_name_bytes → EndsWord next → IsSpelled (cond v (32 ∷ word) []) (optional v word) next
  mark-spelled true word next named short ends = beside (32 ∷ []) word [] (entry word [] ∷ []) next (blank 32 (word ++ next) refl) (one-word word [] next named short ends)
  mark-spelled false word next named short ends = nothing next

  weight-spelled : (w : ℕ) (next : List ℕ) → w ≤ 1000000 → EndsWord next → IsSpelled (weight_text w) (weight_entries (weight_written w)) next
  weight-spelled w next few ends = at (nat_eq w 1)
    where
      number : IsSpelled (decimal w) (entry (decimal w) (Weighs (value_of_digits (decimal w)) ∷ []) ∷ []) next
      number =
          let short = length-decimal-le 7 w (omega arith) (omega (arith, few)) (omega (arith, few)) in
          one-number (decimal w) (Weighs (value_of_digits (decimal w)) ∷ []) next ((decimal_is w (omega (arith, few))).number) (omega (arith, short)) ends

      at : (v : Bool) → IsSpelled (cond v [] (codes " weight " ++ decimal w)) (weight_entries (cond v None (Some (decimal w)))) next
      at true = nothing next
      at false = beside (codes " weight ") (decimal w) (entry (codes "weight") [] ∷ []) (entry (decimal w) (Weighs (value_of_digits (decimal w)) ∷ []) ∷ []) next
          (beside (codes " ") (codes "weight ") [] (entry (codes "weight") [] ∷ []) (decimal w ++ next) (blank 32 _ refl) (word-space (codes "weight") [] (decimal w ++ next) refl (omega arith))) number

  -- a space comes first, or what comes next
  weight-ends : (w : ℕ) (next : List ℕ) → EndsWord next → EndsWord (weight_text w ++ next)
  weight-ends w next ends = at (nat_eq w 1)
    where
      at : (v : Bool) → EndsWord (cond v [] (codes " weight " ++ decimal w) ++ next)
      at true = ends
      at false = refl

  word-ends : (v : Bool) (word rest next : List ℕ) → EndsWord (rest ++ next) → EndsWord ((cond v (32 ∷ word) [] ++ rest) ++ next)
  word-ends true word rest next ends = refl
  word-ends false word rest next ends = ends

  marks-end : (b : Bridge) (next : List ℕ) → EndsWord next → EndsWord (marks_text b ++ next)
  marks-end b next ends = word-ends b.keep (codes "keep") _ next (word-ends b.closed (codes "closed") (weight_text b.weight) next (weight-ends b.weight next ends))

  marks-spelled : (b : Bridge) (next : List ℕ) → b.weight ≤ 1000000 → EndsWord next → IsSpelled (marks_text b) (mark_entries (marks_written b)) next
  marks-spelled b next few ends =
      let weight = weight_text b.weight in
      let weighing = weight_entries (weight_written b.weight) in
      let closed = cond b.closed (codes " closed") [] in
      let closing = optional b.closed (codes "closed") in
      beside (cond b.keep (codes " keep") []) (closed ++ weight) (optional b.keep (codes "keep")) (closing ++ weighing) next
      (mark-spelled b.keep (codes "keep") ((closed ++ weight) ++ next) refl (omega arith) (word-ends b.closed (codes "closed") weight next (weight-ends b.weight next ends)))
      (beside closed weight closing weighing next
      (mark-spelled b.closed (codes "closed") (weight ++ next) refl (omega arith) (weight-ends b.weight next ends)) (weight-spelled b.weight next few ends))

  bridge-spelled : (b : Bridge) (next : List ℕ) → IsPlacedBridge m b → IsSpelled (bridge_text m b) (bridge_entries (bridge_written m b)) next
  bridge-spelled b next h =
      let w = bridge_written m b in
      let target = (w.head).context in
      let word = if_word (b.pos ++ b.neg) in
      let reads = separated (texts target b.pos b.neg) in
      let reading = reads_entries target w.reads in
      let end = codes ".\n" ++ next in
      let tail = beside (word ++ reads) (codes ".\n") reading (entry (codes ".") [] ∷ []) next (reads-spelled target b.pos b.neg end h.pos h.neg refl) (sign-blank signs.Period [] 10 next refl tt) in
      let head = beside (belief_text m (head_place b)) ((word ++ reads) ++ codes ".\n") (place_entries (NamesTarget target) w.head) (reading ++ entry (codes ".") [] ∷ []) next
      (place-spelled (NamesTarget target) (head_place b) _ h.head (ends_regrouped (word ++ reads) (codes ".\n") next (reads-end target b.pos b.neg end refl))) tail in
      let same : belief_text m (head_place b) ++ ((word ++ reads) ++ codes ".\n") ≡ belief_text m (head_place b) ++ (word ++ (reads ++ codes ".\n")) = ap (λ l. belief_text m (head_place b) ++ l) (append_assoc word reads (codes ".\n")) in
      let body = belief_text m (head_place b) ++ (word ++ (reads ++ codes ".\n")) in
      let body_entries = place_entries (NamesTarget target) w.head ++ (reading ++ entry (codes ".") [] ∷ []) in
      let colon = beside (codes ": ") body (entry (codes ":") [] ∷ []) body_entries next (sign-blank signs.Colon [] 32 (body ++ next) refl (no-hyphen 32 _ (λ e. omega arith))) (text-as _ body body_entries next same head) in
      let place = codes ": " ++ body in
      let place_entries' = entry (codes ":") [] ∷ body_entries in
      let marks = beside (marks_text b) place (mark_entries w.marks) place_entries' next (marks-spelled b (place ++ next) h.weight.1 refl) colon in
      let name = beside b.name (marks_text b ++ place) (entry b.name (NamesBridge b.name ∷ []) ∷ []) (mark_entries w.marks ++ place_entries') next
      (one-name b.name (NamesBridge b.name ∷ []) ((marks_text b ++ place) ++ next) h.name (ends_regrouped (marks_text b) place next (marks-end b (place ++ next) refl))) marks in
      beside (codes "bridge ") (b.name ++ (marks_text b ++ place)) (entry (codes "bridge") (BeginsBridge ∷ []) ∷ []) (entry b.name (NamesBridge b.name ∷ []) ∷ (mark_entries w.marks ++ place_entries')) next
      (word-space (codes "bridge") (BeginsBridge ∷ []) _ refl (omega arith)) name

-- ---- the whole text
all-spelled : {A W : Type 0} (text : A → List ℕ) (written : A → W) (entries : W → List Entry) (P : A → Type 0) → ((x : A) (next : List ℕ) → P x → IsSpelled (text x) (entries (written x)) next)
    → (xs : List A) (next : List ℕ) → AllByRecursion P xs → IsSpelled (flat_map text xs) (flat_map entries (map written xs)) next
all-spelled text written entries P each [] next h = nothing next
all-spelled text written entries P each (x ∷ xs) next h = beside (text x) (flat_map text xs) (entries (written x)) (flat_map entries (map written xs)) next (each x _ h.0) (all-spelled text written entries P each xs next h.1)

-- a context with names that is justified
abbrev IsFit : Context → Type 0
IsFit c = IsNamedContext c × (has_unjustified c.kb ≡ false)

all-fit : (m : System) → IsSystemNamed m → IsValid m → AllByRecursion IsFit m.contexts
all-fit m named valid =
    let Fits : Context → Type 0 = λ c. has_unjustified c.kb ≡ false in
    all_both IsNamedContext Fits m.contexts named.contexts (all_from_no_any Fits (λ (c : Context). has_unjustified c.kb) (λ c e. e) m.contexts (first (list_any (λ (c : Context). has_unjustified c.kb) m.contexts) _ (tests_pass m valid).fitting))
  where
    first : (a b : Bool) → (a || b) ≡ false → a ≡ false
    first true b e = absurd (true≢false e)
    first false b e = refl

version-spelled : (v : Bool) (next : List ℕ) → IsSpelled (cond v (codes "version 2.\n") []) (version_entries v) next
version-spelled true next =
    let rest = beside (codes "2") (codes ".\n") (entry (codes "2") [] ∷ []) (entry (codes ".") [] ∷ []) next (one-number (codes "2") [] (codes ".\n" ++ next) refl (omega arith) refl) (sign-blank signs.Period [] 10 next refl tt) in
    beside (codes "version ") (codes "2.\n") (entry (codes "version") [] ∷ []) (entry (codes "2") [] ∷ entry (codes ".") [] ∷ []) next (word-space (codes "version") [] _ refl (omega arith)) rest
version-spelled false next = nothing next

pub canonical-spelled : (m : System) → IsSystemNamed m → IsValid m → IsSpelled (canonical_text m) (text_entries (canonical_written m)) []
canonical-spelled m named valid =
    let texts = flat_map context_text m.contexts ++ flat_map (bridge_text m) m.bridges in
    let entries = flat_map context_entries (map context_written m.contexts) ++ flat_map bridge_entries (map (bridge_written m) m.bridges) in
    let parts = beside (flat_map context_text m.contexts) (flat_map (bridge_text m) m.bridges) (flat_map context_entries (map context_written m.contexts)) (flat_map bridge_entries (map (bridge_written m) m.bridges)) []
    (all-spelled context_text context_written context_entries IsFit (λ c next h. context-spelled c next h.0 h.1) m.contexts _ (all-fit m named valid))
    (all-spelled (bridge_text m) (bridge_written m) bridge_entries (IsPlacedBridge m) (bridge-spelled m named) m.bridges [] (all-placed m named valid)) in
    beside (version_line m) texts (version_entries (list_any is_marked m.bridges)) entries [] (version-spelled (list_any is_marked m.bridges) (texts ++ [])) parts
