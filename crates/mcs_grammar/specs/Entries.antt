-- The tokens of a written text, each with what it is there for. What a token is there for is told by it and
-- the tokens before it.
use Rattle.std.specs.Prelude.{Bool, true, false, List, [], ◌∷◌, ◌++◌, map, codes, Option, Some, None}
use Rattle.std.specs.List.{flat_map}
use Rattle.mcs_base.specs.Numbers.{value_of_digits}
use Rattle.mcs_system.specs.Plain.{Name}
pub use Rattle.mcs_grammar.specs.Items.{Token, prefix_sign, prefixed, joint_sign, formula_in, Use, BeginsContext, BeginsBridge, NamesContext, NamesBridge, Weighs, SaysProgram, BeginsItem, BeginsDefault, NamesTarget, NamesSource, BeginsBelief, EndsRead, AtomOf, IsNumber, OpensWithin, Entry, entry, optional, size_of, formula_entries, whole_entries, after_sign, default_entries, item_entries, atom_entry, further_heads, head_entries, literal_entries, further_literals, body_entries, rule_entries, entries_in, kind_word, kind_uses}
use Rattle.mcs_grammar.specs.Written.{WrittenKb, OfKind, WrittenContext, WrittenPlace, WrittenRead, WrittenMarks, WrittenBridge, WrittenText}

-- the first one, or the last one, is there for this too
abbrev pub with_first : List Use → List Entry → List Entry
with_first uses [] = []
with_first uses (m ∷ ms) = entry m.token (uses ++ m.uses) ∷ ms

abbrev pub with_last : List Use → List Entry → List Entry
with_last uses [] = []
with_last uses (m ∷ []) = entry m.token (uses ++ m.uses) ∷ []
with_last uses (m ∷ n ∷ ms) = m ∷ with_last uses (n ∷ ms)

-- ---- contexts

-- an item and the period after it
abbrev pub ended : Name → List Entry → List Entry
ended c entries = with_first (BeginsItem c ∷ []) entries ++ entry (codes ".") [] ∷ []

abbrev pub kb_entries : Name → WrittenKb → List Entry
kb_entries c (OfKind k items) = entry (kind_word k) (kind_uses k c) ∷ entry (codes "{") [] ∷ (flat_map (λ i. ended c (entries_in k c i)) items ++ entry (codes "}") [] ∷ [])

abbrev pub context_entries : WrittenContext → List Entry
context_entries c = entry (codes "context") (BeginsContext ∷ []) ∷ entry c.name (NamesContext c.name ∷ []) ∷ kb_entries c.name c.kb

-- ---- bridge rules

-- the context's name, the colon and the belief
abbrev pub place_entries : Use → WrittenPlace → List Entry
place_entries role p = entry p.context (role ∷ []) ∷ entry (codes ":") [] ∷ with_first (BeginsBelief p.context ∷ []) (whole_entries p.context p.belief)

abbrev pub read_entries : Name → WrittenRead → List Entry
read_entries target r =
    optional r.denied (codes "not") ++ with_last (EndsRead target r.place.context (formula_in r.place.belief) ∷ []) (place_entries (NamesSource r.place.context) r.place)

abbrev pub further_read : Name → WrittenRead → List Entry
further_read target r = entry (codes ",") [] ∷ read_entries target r

abbrev pub reads_entries : Name → List WrittenRead → List Entry
reads_entries target [] = []
reads_entries target (r ∷ rs) = entry (codes "if") [] ∷ (read_entries target r ++ flat_map (further_read target) rs)

abbrev pub weight_entries : Option Token → List Entry
weight_entries None = []
weight_entries (Some digits) = entry (codes "weight") [] ∷ entry digits (Weighs (value_of_digits digits) ∷ []) ∷ []

abbrev pub mark_entries : WrittenMarks → List Entry
mark_entries marks = optional marks.keep (codes "keep") ++ (optional marks.closed (codes "closed") ++ weight_entries marks.weight)

abbrev pub bridge_entries : WrittenBridge → List Entry
bridge_entries b =
    entry (codes "bridge") (BeginsBridge ∷ []) ∷ entry b.name (NamesBridge b.name ∷ []) ∷ (mark_entries b.marks ++ entry (codes ":") []
    ∷ (place_entries (NamesTarget b.head.context) b.head ++ (reads_entries b.head.context b.reads ++ entry (codes ".") [] ∷ [])))

-- ---- texts

abbrev pub version_entries : Bool → List Entry
version_entries true = entry (codes "version") [] ∷ entry (codes "2") [] ∷ entry (codes ".") [] ∷ []
version_entries false = []

abbrev pub text_entries : WrittenText → List Entry
text_entries t = version_entries t.has_version ++ (flat_map context_entries t.contexts ++ flat_map bridge_entries t.bridges)

abbrev pub tokens_of : List Entry → List Token
tokens_of entries = map (λ (m : Entry). m.token) entries

-- what all of the tokens are there for, in order
abbrev pub uses_of : List Entry → List Use
uses_of entries = flat_map (λ (m : Entry). m.uses) entries
