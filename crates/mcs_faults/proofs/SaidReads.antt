-- The variables of the system that a text says are what the text reads.
use Rattle.std.proofs.Common.{◌≡◌, ℕ, ◌<◌, eqb, List, [], ◌++◌, length, get_or, Some, refl, sym, ap, ◌∙◌, subst, arith}
use Rattle.std.specs.Prelude.{slice_get}
use Rattle.std.specs.List.{range_with_len, position}
use Rattle.std.proofs.lemmas.Option.{get_or_from_slice_get, slice_get-get_or, same_Some}
use Rattle.mcs_base.specs.Listings.{IsAmong}
use Rattle.mcs_base.proofs.Distinct.{distinct_from_places, one_place}
use Rattle.mcs_base.proofs.Among.{filter_among, get_among, flat_map_among}
use Rattle.mcs_system.specs.Plain.{Name, Formula, Read, Bridge, System}
use Rattle.mcs_system.specs.Logic.{same_name}
use Rattle.mcs_system.specs.Systems.{occurrences, context_variables, variables}
use Rattle.mcs_system.proofs.VariableLemmas.{firsts_among, variable_in_range}
use Rattle.mcs_system.proofs.Distinct.{one_number}
use Rattle.mcs_system.proofs.NameLemmas.{position-there}
use Rattle.mcs_grammar.specs.Written.{WrittenContext, WrittenBridge, WrittenText}
use Rattle.mcs_grammar.specs.Saying.{SaysBridge, SaysSystem, names_of}
use Rattle.mcs_grammar.specs.Faults.{AreDifferent, NamedRead, WasReadInto}
use Rattle.mcs_account.specs.Images.{read_in}
use Rattle.mcs_faults.proofs.UsesLemmas.{text_uses, names-there, reads-there}
use Rattle.mcs_account.proofs.TextUses.{same-named}
use Rattle.mcs_faults.proofs.Within.{IsWithin}
use Rattle.mcs_grammar.proofs.SaidSystem.{read-written, as-many-contexts, as-many-names, IsContextAt}

-- ---- variables
pub variable-occurs : (m : System) (r : Read) → IsAmong r (variables m) → IsAmong r (occurrences m)
unfolding variables
variable-occurs m r h =
    let (i, in_range, here) = flat_map_among (context_variables m) r (range_with_len 0 (length m.contexts)) h in
    (filter_among (λ (q : Read). eqb q.context i) r (occurrences m) (firsts_among r _ here)).0

pub variable-below : (m : System) (r : Read) → IsAmong r (variables m) → r.context < length m.contexts
variable-below m r h = let (v, at) = get_among r (variables m) h in variable_in_range m v r at

pub variables-different : (m : System) → AreDifferent (variables m)
variables-different m = distinct_from_places (variables m) (one_number m)

-- ---- reads by the names of their contexts
abbrev pub named_read : List Name → Read → NamedRead
named_read names r = record { context = get_or names r.context []; belief = r.belief }

abbrev read_at : ℕ → Formula → Read
read_at c f = record { context = c; belief = f }

same-read : (q r : Read) → q.context ≡ r.context → q.belief ≡ r.belief → q ≡ r
same-read q r e e' = ap (λ (c : ℕ). read_at c q.belief) e ∙ ap (λ (f : Formula). read_at r.context f) e'

-- among different names no two reads are named alike
pub named-once : (names : List Name) → AreDifferent names → (q r : Read) → q.context < length names → r.context < length names → named_read names q ≡ named_read names r → q ≡ r
named-once names d q r below below' same =
    let n : Name = get_or names q.context [] in
    let at : slice_get names q.context ≡ Some n = slice_get-get_or names q.context [] below in
    let alike : get_or names r.context [] ≡ n = sym (ap (λ (x : NamedRead). x.context) same) in
    let at' : slice_get names r.context ≡ Some n = slice_get-get_or names r.context [] below' ∙ ap (λ (x : Name). Some x) alike in
    same-read q r (one_place names d q.context r.context n at at') (ap (λ (x : NamedRead). x.belief) same)

-- the same name at the number of a context
pub name-same : (t : WrittenText) (m : System) (i : ℕ) (x : WrittenContext) (n : Name) → IsContextAt t m i x.name x → position (same_name n) (names_of t.contexts) ≡ Some i → n ≡ x.name
name-same t m i x n at is = same_Some _ _ (sym (position-there n (names_of t.contexts) i is) ∙ at.name_at)

module _ (t : WrittenText) (m : System) (says : SaysSystem t m) where
  pub read-into : (w : WrittenBridge) (b : Bridge) (r : Read) → IsAmong w t.bridges → SaysBridge (names_of t.contexts) w b → IsAmong r (b.pos ++ b.neg) → WasReadInto (text_uses t) (w.head).context (named_read (names_of t.contexts) r)
  read-into w b r there s h =
      let names : List Name = names_of t.contexts in
      let (q, in_reads, place) = read-written names w b r s h in
      let named : get_or names r.context [] ≡ (q.place).context = get_or_from_slice_get names r.context (q.place).context [] (position-there (q.place).context names r.context place.number) in
      (reads-there t (w.head).context (named_read names r)).1 (record {
        bridge = w;
        is_there = there;
        into = refl;
        read = q;
        is_read = in_reads;
        says = same-named (read_in q.place) (named_read names r) (sym named) (sym place.belief);
      })

  -- where it is read
  pub occurs-in : (r : Read) → IsAmong r (occurrences m) → (b : Bridge) × IsAmong b m.bridges × IsAmong r (b.pos ++ b.neg)
  occurs-in r h = flat_map_among (λ (b : Bridge). b.pos ++ b.neg) r m.bridges h

  pub below-names : (r : Read) → r.context < length m.contexts → r.context < length (names_of t.contexts)
  below-names r less = let many = as-many-contexts t m says in let named = as-many-names t m says in omega arith

  pub names-different : IsWithin (text_uses t) → AreDifferent (names_of t.contexts)
  names-different within = subst AreDifferent (names-there t) within.different_contexts
