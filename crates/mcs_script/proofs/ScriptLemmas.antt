-- Scripts that are read edit by edit.
use Rattle.std.proofs.Common.{◌≡◌, ℕ, ◌+◌, ◌<◌, ◌≤◌, List, [], ◌∷◌, ◌++◌, map, length, None, refl, sym, ap, ◌∙◌, subst, inl, inr, arith}
use Rattle.std.proofs.lemmas.List.{map-append}
use Rattle.mcs_tokens.specs.Tokens.{IsNextToken}
use Rattle.mcs_tokens.specs.declared.scan.Span.{Span}
use Rattle.mcs_system.specs.Plain.{Name, Context, System}
use Rattle.mcs_system.specs.Faults.{IsValid}
use Rattle.mcs_grammar.specs.Alone.{AreFirstTokens, SpellsOne}
use Rattle.mcs_grammar.specs.Texts.{token_texts}
use Rattle.mcs_grammar.specs.Entries.{tokens_of}
use Rattle.mcs_faults.specs.declared.fault.TextFault as code_text
use Rattle.mcs_faults.specs.declared.fault.TextFault.TheVariants as texts
use Rattle.mcs_language.proofs.SpanLemmas.{inside}
use Rattle.mcs_script.specs.declared.edit.Edit as code
use Rattle.mcs_script.specs.declared.reading.ReadEdit.{ReadEdit}
use Rattle.mcs_script.specs.declared.script.Script.{Script}
use Rattle.mcs_script.specs.Edits.{Edit, Added, Dropped, Listed, context_names, edited, system_after, IsThere, WrittenEdit, Adds, Drops, Lists, IsWrittenEdit, edit_entries, SaysEdit}
use Rattle.mcs_script.specs.Reading.{IsEditOf, IsToldOfEdit}
use Rattle.mcs_script.specs.Scripts.{BeginsAt, ReadsEdit, SpellsEdit, SpellsEdits, DropsNone}
use Rattle.mcs_script.specs.Seen.{edit_of}
use Rattle.mcs_script.specs.Told.{IsToldOfScript, IsRefusedAt, IsAllowed, IsReadUpTo, IsEditNext}

-- ---- the systems
pub edited_contexts : (m : System) (e : Edit) → (edited m e).contexts ≡ m.contexts
edited_contexts m (Added b) = refl
edited_contexts m (Dropped n) = refl
edited_contexts m Listed = refl

pub names_stay : (m : System) (es : List Edit) → context_names (system_after m es) ≡ context_names m
names_stay m [] = refl
names_stay m (e ∷ es) = names_stay (edited m e) es ∙ ap (map (λ (c : Context). c.name)) (edited_contexts m e)

pub after_more : (m : System) (es : List Edit) (e : Edit) → system_after m (es ++ e ∷ []) ≡ edited (system_after m es) e
after_more m [] e = refl
after_more m (d ∷ es) e = after_more (edited m d) es e

pub spelled_more : (m : System) (bytes : List ℕ) (at mid end : ℕ) (es : List Edit) (e : Edit) → SpellsEdits m bytes at es mid → SpellsEdit (system_after m es) bytes mid e end → SpellsEdits m bytes at (es ++ e ∷ []) end
spelled_more m bytes at mid end [] e spelled last = (end, subst (λ (k : ℕ). SpellsEdit m bytes k e end) spelled last, refl)
spelled_more m bytes at mid end (d ∷ es) e (next, first, others) last = (next, first, spelled_more (edited m d) bytes next mid end es e others last)

-- ---- where an edit ends
some_tokens : (bytes : List ℕ) (at end : ℕ) (spans : List Span) → AreFirstTokens bytes at spans end → at ≤ length bytes → (at + length spans ≤ end) × (end ≤ length bytes)
some_tokens bytes at end [] is here = (omega arith, omega arith)
some_tokens bytes at end (s ∷ spans) (next, less, rest) here =
    let there = inside bytes at s.from s.to next (λ e. omega arith) in
    let more = some_tokens bytes s.to end spans rest there.2 in
    (omega (arith, next.after, there.1, more.0), more.1)

no_empty : (w : WrittenEdit) → ¬ (tokens_of (edit_entries w) ≡ [])
no_empty (Adds b) e = cc
no_empty (Drops n) e = cc
no_empty Lists e = cc

pub edit_ends : (names : List Name) (bytes : List ℕ) (at end : ℕ) (w : WrittenEdit) → at ≤ length bytes → SpellsOne IsWrittenEdit edit_entries names bytes at w end → (at < end) × (end ≤ length bytes)
edit_ends names bytes at end w here one = on one.spans refl
  where
    on : (spans : List Span) → one.spans ≡ spans → (at < end) × (end ≤ length bytes)
    on [] is = absurd (no_empty w (sym one.written ∙ ap (token_texts bytes) is))
    on (s ∷ spans) is =
        let bounds = some_tokens bytes at end (s ∷ spans) (subst (λ (xs : List Span). AreFirstTokens bytes at xs end) is one.tokens) here in
        (omega (arith, bounds.0), bounds.1)

-- an edit begins with a token
pub begun : (names : List Name) (bytes : List ℕ) (at end : ℕ) (w : WrittenEdit) → SpellsOne IsWrittenEdit edit_entries names bytes at w end → (from to : ℕ) × (IsNextToken bytes at from to × (from < length bytes))
begun names bytes at end w one = on one.spans refl
  where
    on : (spans : List Span) → one.spans ≡ spans → (from to : ℕ) × (IsNextToken bytes at from to × (from < length bytes))
    on [] is = absurd (no_empty w (sym one.written ∙ ap (token_texts bytes) is))
    on (s ∷ spans) is = let first = subst (λ (xs : List Span). AreFirstTokens bytes at xs end) is one.tokens in (s.from, s.to, (first.0, first.1))

-- each edit takes a byte at least
pub edits_take_bytes : (m : System) (bytes : List ℕ) (at end : ℕ) (es : List Edit) → SpellsEdits m bytes at es end → at + length es ≤ end
edits_take_bytes m bytes at end [] spelled = omega (arith, spelled)
edits_take_bytes m bytes at end (e ∷ es) (next, one, rest) =
    let (from, to, (first, some)) = begun (context_names m) bytes at next one.read.written one.read.spelled in
    let bounds = edit_ends (context_names m) bytes at next one.read.written (omega (arith, first.after, some)) one.read.spelled in
    omega (arith, bounds.0, edits_take_bytes (edited m e) bytes next end es rest)

-- ---- one more edit
module _ (m : System) (bytes : List ℕ) (es : List Edit) (at : ℕ) (spelled : SpellsEdits m bytes 0 es at) (from to : ℕ) (next : IsNextToken bytes at from to) (more : from < length bytes) where
  abbrev now : System
  now = system_after m es

  abbrev begins : BeginsAt bytes at from
  begins = (to, next, more)

  told_edit : (told : code_text.TextFault) → IsToldOfEdit (context_names now) bytes at told → IsToldOfScript m bytes told
  told_edit texts.Memory h = tt
  told_edit (texts.Fault number offset limit) h = record { edits = es; end = at; spelled = spelled; first = from; more = begins; fault_is = inl h }

  -- it is misspelled
  pub told_alone : (names : List Name) → names ≡ context_names m → (told : code_text.TextFault) → IsToldOfEdit names bytes at told → IsToldOfScript m bytes told
  told_alone names is told h = told_edit told (subst (λ (ns : List Name). IsToldOfEdit ns bytes at told) (is ∙ sym (names_stay m es)) h)

  module _ (r : ReadEdit) (read : IsEditOf (context_names m) bytes at r) where
    abbrev e : Edit
    e = edit_of r.edit

    same : context_names m ≡ context_names now
    same = sym (names_stay m es)

    reads : ReadsEdit now bytes at e r.end
    reads = record {
      written = read.written;
      spelled = subst (λ (ns : List Name). SpellsOne IsWrittenEdit edit_entries ns bytes at read.written r.end) same read.spelled;
      says = subst (λ (ns : List Name). SaysEdit ns read.written e) same read.says;
    }

    -- it is refused
    pub told_refused : (told : code_text.TextFault) → IsRefusedAt now e from told → IsToldOfScript m bytes told
    told_refused texts.Memory h = tt
    told_refused (texts.Fault number offset limit) (here, why) = record {
      edits = es;
      end = at;
      spelled = spelled;
      first = from;
      more = begins;
      fault_is = inr (elim why [
        | inl (missing, six, none) ↦ inl (missed e refl missing six none)
        | inr (there, is_fault) ↦ inr (record { edit = e; end = r.end; read = reads; there = there; fault_is = is_fault; begins = at_offset })
      ]);
    }
      where
        at_offset : BeginsAt bytes at offset
        at_offset = subst (BeginsAt bytes at) (sym here) begins

        missed : (d : Edit) → e ≡ d → ¬ IsThere now d → number ≡ 6 → limit ≡ None → DropsNone now bytes at number limit offset
        missed (Added b) is_d missing six none = absurd (missing tt)
        missed Listed is_d missing six none = absurd (missing tt)
        missed (Dropped n) is_d missing six none = record { rule = n; end = r.end; read = subst (λ (d : Edit). ReadsEdit now bytes at d r.end) is_d reads; missing = missing; number_is = six; limit_is = none; begins = at_offset }

    -- it is allowed
    pub spelled_edit : (after : System) → IsAllowed now e after → SpellsEdits m bytes 0 (es ++ e ∷ []) r.end
    spelled_edit after allowed = spelled_more m bytes 0 at r.end es e spelled (record { read = reads; there = allowed.there; valid = subst (λ (s : System). IsValid s) allowed.next_is allowed.valid })

    pub next_system : (after : System) → IsAllowed now e after → after ≡ system_after m (es ++ e ∷ [])
    next_system after allowed = allowed.next_is ∙ sym (after_more m es e)

    pub further : at ≤ length bytes → (at < r.end) × (r.end ≤ length bytes)
    further within = edit_ends (context_names m) bytes at r.end read.written within read.spelled

pub edit_told : (m : System) (bytes : List ℕ) (at from : ℕ) (draft : System) (edits : List code.Edit) (r : ReadEdit) → IsEditNext m bytes at from draft edits r → (told : code_text.TextFault) → IsRefusedAt draft (edit_of r.edit) from told → IsToldOfScript m bytes told
edit_told m bytes at from draft edits r next told refused = told_refused m bytes (map edit_of edits) at next.spelled from next.to next.first next.some r next.read told (subst (λ (s : System). IsRefusedAt s (edit_of r.edit) from told) next.draft_is refused)

pub script_grown : (m : System) (bytes : List ℕ) (at from : ℕ) (draft after : System) (edits : List code.Edit) (r : ReadEdit) (s : Script) → IsEditNext m bytes at from draft edits r → IsAllowed draft (edit_of r.edit) after
    → s.rules ≡ r.rules → s.draft ≡ after → s.edits.items ≡ edits ++ r.edit ∷ [] → s.end ≡ r.end → IsReadUpTo m bytes s × (at < s.end)
script_grown m bytes at from draft after edits r s next allowed rules_are draft_is edits_are end_is =
    let es : List Edit = map edit_of edits in
    let now : System = system_after m es in
    let ok : IsAllowed now (edit_of r.edit) after = subst (λ (t : System). IsAllowed t (edit_of r.edit) after) next.draft_is allowed in
    let all : map edit_of s.edits.items ≡ es ++ edit_of r.edit ∷ [] = ap (map edit_of) edits_are ∙ map-append edit_of edits (r.edit ∷ []) in
    let bounds = further m bytes es at next.spelled from next.to next.first next.some r next.read next.inside in (
      record {
        rules = rules_are ∙ next.read.rules;
        draft = draft_is ∙ (next_system m bytes es at next.spelled from next.to next.first next.some r next.read after ok ∙ ap (system_after m) (sym all));
        spelled = subst (λ (k : ℕ). SpellsEdits m bytes 0 (map edit_of s.edits.items) k) (sym end_is) (subst (λ (ds : List Edit). SpellsEdits m bytes 0 ds r.end) (sym all) (spelled_edit m bytes es at next.spelled from next.to next.first next.some r next.read after ok));
        inside = omega (arith, end_is, bounds.1);
      },
      omega (arith, end_is, bounds.0),
    )

-- before the first edit
pub none_read : (m : System) (bytes : List ℕ) (s : Script) → s.rules ≡ context_names m → s.draft ≡ m → s.edits.items ≡ [] → s.end ≡ 0 → IsReadUpTo m bytes s
none_read m bytes s rules_are draft_is none begin =
    let empty : map edit_of s.edits.items ≡ [] = ap (map edit_of) none in
    record {
      rules = rules_are;
      draft = draft_is ∙ ap (system_after m) (sym empty);
      spelled = subst (λ (es : List Edit). SpellsEdits m bytes 0 es s.end) (sym empty) begin;
      inside = omega (arith, begin);
    }
