-- A script has one fault at most, none where it is spelled, and spells one list of edits at most.
use Rattle.std.proofs.Common.{◌≡◌, ℕ, ◌<◌, ◌≤◌, List, [], ◌∷◌, ◌++◌, length, Option, Some, None, refl, sym, ap, ◌∙◌, subst, inl, inr, arith}
use Rattle.std.proofs.lemmas.Bool.{cases_lt}
use Rattle.std.proofs.lemmas.List.{append-nil, length-append, length-map, nil_from_length}
use Rattle.std.proofs.lemmas.Option.{same_Some}
use Rattle.mcs_base.specs.Listings.{IsAmong}
use Rattle.mcs_tokens.specs.Tokens.{IsNextToken}
use Rattle.mcs_tokens.proofs.Unique.{next_is_unique}
use Rattle.mcs_system.specs.Plain.{Name, Context, System}
use Rattle.mcs_system.specs.Faults.{Fault, fault, fault_of, IsValid}
use Rattle.mcs_system.specs.declared.limit.Limit.{Limit}
use Rattle.mcs_system.proofs.ValidLemmas.{few_contexts}
use Rattle.mcs_script.specs.Edits.{Edit, Dropped, context_names, rule_names, edited, system_after, IsThere, IsWrittenEdit, edit_entries}
use Rattle.mcs_script.specs.Scripts.{BeginsAt, ReadsEdit, SpellsEdit, IsMisspelled, EditHasFault, SpellsEdits}
use Rattle.mcs_script.specs.Laws.{ScriptsHaveOneFault, SpelledScriptsHaveNoFault, ScriptsAreUnambiguous}
use Rattle.mcs_script.proofs.OneReading.{one-first-fault, spelled-no-fault, one-spelled}
use Rattle.mcs_script.proofs.OneRule.{light-edit, edit-same}
use Rattle.mcs_script.proofs.Periods.{alone-edit}
use Rattle.mcs_script.proofs.ScriptLemmas.{begun, edited_contexts}

-- ---- one edit
module _ (m : System) (few : length m.contexts ≤ 64) (bytes : List ℕ) (at : ℕ) where
  few-names : length (context_names m) ≤ 64
  few-names = omega (arith, few, length-map m.contexts (λ (c : Context). c.name))

  one-read : (e d : Edit) (end end' : ℕ) → ReadsEdit m bytes at e end → ReadsEdit m bytes at d end' → (end ≡ end') × (e ≡ d)
  one-read e d end end' h k =
      let names : List Name = context_names m in
      let one = one-spelled bytes IsWrittenEdit edit_entries names alone-edit at end end' h.written k.written h.spelled k.spelled in
      (one.0, edit-same names few-names h.written k.written e d h.spelled.grammar k.spelled.grammar (light-edit names bytes at end h.written h.spelled) (light-edit names bytes at end' k.written k.spelled) one.1 h.says k.says)

  read-no-fault : (e : Edit) (end number : ℕ) (limit : Option Limit) (offset : ℕ) → ReadsEdit m bytes at e end → ¬ IsMisspelled m bytes at number limit offset
  read-no-fault e end number limit offset h k = spelled-no-fault bytes IsWrittenEdit edit_entries (context_names m) alone-edit at end number limit offset h.written h.spelled k

  one-begin : (offset offset' : ℕ) → BeginsAt bytes at offset → BeginsAt bytes at offset' → offset ≡ offset'
  one-begin offset offset' (to, n, less) (to', n', less') = (next_is_unique bytes at offset to offset' to' n n').0

  there-not : (d : Edit) (n : Name) → d ≡ Dropped n → IsThere m d → IsAmong n (rule_names m)
  there-not d n is there = subst (IsThere m) is there

  valid-not : (e d : Edit) (number : ℕ) (limit : Option Limit) → e ≡ d → IsValid (edited m e) → ¬ (fault_of (edited m d) ≡ Some (fault number limit))
  valid-not e d number limit is valid f = let no : None ≡ Some (fault number limit) = sym (subst (λ (x : Edit). IsValid (edited m x)) is valid) ∙ f in cc

  spelled-no-edit-fault : (e : Edit) (end number : ℕ) (limit : Option Limit) (offset : ℕ) → SpellsEdit m bytes at e end → ¬ EditHasFault m bytes at number limit offset
  spelled-no-edit-fault e end number limit offset h (inl k) = read-no-fault e end number limit offset h.read k
  spelled-no-edit-fault e end number limit offset h (inr (inl k)) = k.missing (there-not e k.rule (one-read e (Dropped k.rule) end k.end h.read k.read).1 h.there)
  spelled-no-edit-fault e end number limit offset h (inr (inr k)) = valid-not e k.edit number limit (one-read e k.edit end k.end h.read k.read).1 h.valid k.fault_is

  abbrev Same : ℕ → ℕ → Option Limit → Option Limit → ℕ → ℕ → Type 0
  Same number number' limit limit' offset offset' = (number ≡ number') × (limit ≡ limit') × (offset ≡ offset')

  one-edit-fault : (number number' : ℕ) (limit limit' : Option Limit) (offset offset' : ℕ) → EditHasFault m bytes at number limit offset → EditHasFault m bytes at number' limit' offset' → Same number number' limit limit' offset offset'
  one-edit-fault number number' limit limit' offset offset' (inl h) (inl k) = one-first-fault bytes IsWrittenEdit edit_entries (context_names m) at number number' limit limit' offset offset' h k
  one-edit-fault number number' limit limit' offset offset' (inl h) (inr (inl k)) = absurd (read-no-fault (Dropped k.rule) k.end number limit offset k.read h)
  one-edit-fault number number' limit limit' offset offset' (inl h) (inr (inr k)) = absurd (read-no-fault k.edit k.end number limit offset k.read h)
  one-edit-fault number number' limit limit' offset offset' (inr (inl h)) (inl k) = absurd (read-no-fault (Dropped h.rule) h.end number' limit' offset' h.read k)
  one-edit-fault number number' limit limit' offset offset' (inr (inr h)) (inl k) = absurd (read-no-fault h.edit h.end number' limit' offset' h.read k)
  one-edit-fault number number' limit limit' offset offset' (inr (inl h)) (inr (inl k)) = (h.number_is ∙ sym k.number_is, h.limit_is ∙ sym k.limit_is, one-begin offset offset' h.begins k.begins)
  one-edit-fault number number' limit limit' offset offset' (inr (inl h)) (inr (inr k)) = absurd (h.missing (there-not k.edit h.rule (one-read k.edit (Dropped h.rule) k.end h.end k.read h.read).1 k.there))
  one-edit-fault number number' limit limit' offset offset' (inr (inr h)) (inr (inl k)) = absurd (k.missing (there-not h.edit k.rule (one-read h.edit (Dropped k.rule) h.end k.end h.read k.read).1 h.there))
  one-edit-fault number number' limit limit' offset offset' (inr (inr h)) (inr (inr k)) =
      let is : h.edit ≡ k.edit = (one-read h.edit k.edit h.end k.end h.read k.read).1 in
      let one : fault number limit ≡ fault number' limit' = same_Some _ _ (sym h.fault_is ∙ ap (λ (e : Edit). fault_of (edited m e)) is ∙ k.fault_is) in
      (ap (λ (f : Fault). f.number) one, ap (λ (f : Fault). f.limit) one, one-begin offset offset' h.begins k.begins)

-- ---- several edits
few-edited : (m : System) (e : Edit) → length m.contexts ≤ 64 → length (edited m e).contexts ≤ 64
few-edited m e few = omega (arith, few, ap (λ (cs : List Context). length cs) (edited_contexts m e))

few-after : (m : System) (es : List Edit) → length m.contexts ≤ 64 → length (system_after m es).contexts ≤ 64
few-after m [] few = few
few-after m (e ∷ es) few = few-after (edited m e) es (few-edited m e few)

-- the longer list goes on after the shorter one
edit-parts : (m : System) → length m.contexts ≤ 64 → (bytes : List ℕ) (at : ℕ) (es ds : List Edit) (end end' : ℕ) → SpellsEdits m bytes at es end → SpellsEdits m bytes at ds end' → length es ≤ length ds
    → (rest : List Edit) × (ds ≡ es ++ rest) × SpellsEdits (system_after m es) bytes end rest end'
edit-parts m few bytes at [] ds end end' h k short = (ds, refl, subst (λ (i : ℕ). SpellsEdits m bytes i ds end') (sym h) k)
edit-parts m few bytes at (e ∷ es) [] end end' h k short = absurd (omega (arith, short))
edit-parts m few bytes at (e ∷ es) (d ∷ ds) end end' (next, h, hs) (next', k, ks) short =
    let one = one-read m few bytes at e d next next' h.read k.read in
    let later : SpellsEdits (edited m e) bytes next ds end' = subst (λ (x : Edit). SpellsEdits (edited m x) bytes next ds end') (sym one.1) (subst (λ (i : ℕ). SpellsEdits (edited m d) bytes i ds end') (sym one.0) ks) in
    let more = edit-parts (edited m e) (few-edited m e few) bytes next es ds end end' hs later (omega (arith, short)) in
    (more.0, ap (λ (x : Edit). x ∷ ds) (sym one.1) ∙ ap (λ (l : List Edit). e ∷ l) more.1, more.2)

-- a system of which an edit is spelled has few contexts, since the edited one is valid
few-of-edit : (m : System) (bytes : List ℕ) (at end : ℕ) (es : List Edit) → SpellsEdits m bytes at es end → 0 < length es → length m.contexts ≤ 64
few-of-edit m bytes at end [] h some = absurd (omega (arith, some))
few-of-edit m bytes at end (e ∷ es) (next, first, rest) some = omega (arith, few_contexts (edited m e) first.valid, ap (λ (cs : List Context). length cs) (edited_contexts m e))

-- the same of a whole script, whatever the system
edit-rest : (m : System) (bytes : List ℕ) (es ds : List Edit) (end end' : ℕ) → SpellsEdits m bytes 0 es end → SpellsEdits m bytes 0 ds end' → length es ≤ length ds
    → (rest : List Edit) × (ds ≡ es ++ rest) × SpellsEdits (system_after m es) bytes end rest end'
edit-rest m bytes [] ds end end' h k short = (ds, refl, subst (λ (i : ℕ). SpellsEdits m bytes i ds end') (sym h) k)
edit-rest m bytes (e ∷ es) ds end end' h k short = edit-parts m (few-of-edit m bytes 0 end (e ∷ es) h (omega arith)) bytes 0 (e ∷ es) ds end end' h k short

-- one more is spelled there
one-more : (m : System) (bytes : List ℕ) (end end' : ℕ) (rest : List Edit) → 0 < length rest → SpellsEdits m bytes end rest end' → (e : Edit) × (next : ℕ) × SpellsEdit m bytes end e next
one-more m bytes end end' [] some h = absurd (omega (arith, some))
one-more m bytes end end' (e ∷ es) some (next, h, hs) = (e, next, h)

some-left : (es ds rest : List Edit) → ds ≡ es ++ rest → length es < length ds → 0 < length rest
some-left es ds rest e less = omega (arith, less, ap (λ (l : List Edit). length l) e, length-append es rest)

none-left : (es ds rest : List Edit) → ds ≡ es ++ rest → length ds ≤ length es → es ≡ ds
none-left es ds rest e over =
    let none : length rest ≡ 0 = omega (arith, over, ap (λ (l : List Edit). length l) e, length-append es rest) in
    sym (e ∙ ap (λ (l : List Edit). es ++ l) (nil_from_length rest none) ∙ append-nil es)

same-place : (m : System) (bytes : List ℕ) (end end' : ℕ) (rest : List Edit) → length rest ≡ 0 → SpellsEdits m bytes end rest end' → end' ≡ end
same-place m bytes end end' [] none h = h
same-place m bytes end end' (e ∷ es) none h = absurd (omega (arith, none))

-- an edit begins with a token
begins-somewhere : (m : System) (bytes : List ℕ) (at end : ℕ) (e : Edit) → ReadsEdit m bytes at e end → ¬ IsNextToken bytes at (length bytes) (length bytes)
begins-somewhere m bytes at end e h ended =
    let first = begun (context_names m) bytes at end h.written h.spelled in
    omega (arith, first.2.1, (next_is_unique bytes at first.0 first.1 (length bytes) (length bytes) first.2.0 ended).0)

pub one-script-fault : ScriptsHaveOneFault
one-script-fault m bytes number number' limit limit' offset offset' valid h k = elim (cases_lt (length h.edits) (length k.edits)) [
  | inl less ↦ absurd (cut h.edits k.edits h.end k.end number limit offset h.spelled k.spelled less h.fault_is)
  | inr past ↦ elim (cases_lt (length k.edits) (length h.edits)) [
    | inl less ↦ absurd (cut k.edits h.edits k.end h.end number' limit' offset' k.spelled h.spelled less k.fault_is)
    | inr also ↦
        let parts = edit-parts m few bytes 0 h.edits k.edits h.end k.end h.spelled k.spelled (omega (arith, also)) in
        let same : h.edits ≡ k.edits = none-left h.edits k.edits parts.0 parts.1 (omega (arith, past)) in
        let none : length parts.0 ≡ 0 = omega (arith, past, also, ap (λ (l : List Edit). length l) parts.1, length-append h.edits parts.0) in
        let place = same-place (system_after m h.edits) bytes h.end k.end parts.0 none parts.2 in
        one-edit-fault (system_after m h.edits) (few-after m h.edits few) bytes h.end number number' limit limit' offset offset' h.fault_is
        (subst (λ (i : ℕ). EditHasFault (system_after m h.edits) bytes i number' limit' offset') place (subst (λ (l : List Edit). EditHasFault (system_after m l) bytes k.end number' limit' offset') (sym same) k.fault_is))
  ]
]
  where
    few : length m.contexts ≤ 64
    few = few_contexts m valid

    cut : (es ds : List Edit) (end end' n : ℕ) (l : Option Limit) (o : ℕ) → SpellsEdits m bytes 0 es end → SpellsEdits m bytes 0 ds end' → length es < length ds → ¬ EditHasFault (system_after m es) bytes end n l o
    cut es ds end end' n l o hs ks less f =
        let parts = edit-parts m few bytes 0 es ds end end' hs ks (omega (arith, less)) in
        let more = one-more (system_after m es) bytes end end' parts.0 (some-left es ds parts.0 parts.1 less) parts.2 in
        spelled-no-edit-fault (system_after m es) (few-after m es few) bytes end more.0 more.1 n l o more.2 f

pub spelled-script-no-fault : SpelledScriptsHaveNoFault
spelled-script-no-fault m bytes number limit offset es h k = elim (cases_lt (length k.edits) (length es)) [
  | inl less ↦
      let few = few-of-edit m bytes 0 h.end es h.spelled (omega (arith, less)) in
      let parts = edit-parts m few bytes 0 k.edits es k.end h.end k.spelled h.spelled (omega (arith, less)) in
      let more = one-more (system_after m k.edits) bytes k.end h.end parts.0 (some-left k.edits es parts.0 parts.1 less) parts.2 in
      spelled-no-edit-fault (system_after m k.edits) (few-after m k.edits few) bytes k.end more.0 more.1 number limit offset more.2 k.fault_is
  | inr past ↦
      let parts = edit-rest m bytes es k.edits h.end k.end h.spelled k.spelled (omega (arith, past)) in
      on parts.0 parts.2
]
  where
    on : (rest : List Edit) → SpellsEdits (system_after m es) bytes h.end rest k.end → ⊥
    on [] place =
        let (to, next, less) = k.more in
        let next' : IsNextToken bytes h.end k.first to = subst (λ (i : ℕ). IsNextToken bytes i k.first to) place next in
        omega (arith, less, (next_is_unique bytes h.end k.first to (length bytes) (length bytes) next' h.ended).0)
    on (e ∷ rest) (next, first, others) = begins-somewhere (system_after m es) bytes h.end next e first.read h.ended

pub one-script : ScriptsAreUnambiguous
one-script m bytes es ds h k = elim (cases_lt (length es) (length ds)) [
  | inl less ↦ absurd (cut es ds h.end k.end h.spelled k.spelled h.ended less)
  | inr past ↦ elim (cases_lt (length ds) (length es)) [
    | inl less ↦ absurd (cut ds es k.end h.end k.spelled h.spelled k.ended less)
    | inr also ↦
        let parts = edit-rest m bytes es ds h.end k.end h.spelled k.spelled (omega (arith, also)) in
        none-left es ds parts.0 parts.1 (omega (arith, past))
  ]
]
  where
    cut : (xs ys : List Edit) (end end' : ℕ) → SpellsEdits m bytes 0 xs end → SpellsEdits m bytes 0 ys end' → IsNextToken bytes end (length bytes) (length bytes) → ¬ (length xs < length ys)
    cut xs ys end end' hs ks ended less =
        let parts = edit-rest m bytes xs ys end end' hs ks (omega (arith, less)) in
        let more = one-more (system_after m xs) bytes end end' parts.0 (some-left xs ys parts.0 parts.1 less) parts.2 in
        begins-somewhere (system_after m xs) bytes end more.1 more.0 more.2.read ended
