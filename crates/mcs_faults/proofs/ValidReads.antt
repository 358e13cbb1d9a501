-- The system that a text without faults says keeps the limits on variables and on inputs.
use Rattle.std.proofs.Common.{◌≡◌, ℕ, ◌+◌, ◌<◌, Bool, true, false, ◌&&◌, nat_lt, nat_eq, ltb, List, ◌++◌, map, filter, length, Some, refl, sym, ap, ◌∙◌, subst, arith}
use Rattle.std.specs.Prelude.{slice_get}
use Rattle.std.specs.List.{list_any}
use Rattle.std.proofs.lemmas.Bool.{and_parts, le-ltb}
use Rattle.std.proofs.lemmas.Bool.Decides.{nat_tests}
use Rattle.std.proofs.lemmas.List.{length-map}
use Rattle.std.proofs.lemmas.Option.{slice_get_within}
use Rattle.mcs_base.specs.Listings.{IsAmong}
use Rattle.mcs_sets.specs.Sets.{has, such_that, size}
use Rattle.mcs_sets.proofs.SetLemmas.{size-count, has-such_that, such_that-lt}
use Rattle.mcs_base.proofs.Among.{map_among, filter_among, among_get, any_get}
use Rattle.mcs_base.proofs.Distinct.{distinct_filter, distinct_map}
use Rattle.mcs_system.specs.Plain.{Name, Read, Bridge, System}
use Rattle.mcs_system.specs.Systems.{same_read, variables}
use Rattle.mcs_system.specs.Rows.{is_read_into, inputs_of}
use Rattle.mcs_system.specs.declared.limit.Limit.TheVariants.{Variables, InputsPerContext}
use Rattle.mcs_system.specs.Faults.{exceeds}
use Rattle.mcs_system.proofs.Sameness.{same_read-is}
use Rattle.mcs_grammar.specs.Written.{WrittenContext, WrittenText}
use Rattle.mcs_grammar.specs.Saying.{SaysSystem, names_of}
use Rattle.mcs_grammar.specs.Faults.{AreDifferent, WasReadInto, WasRead}
use Rattle.mcs_faults.proofs.UsesLemmas.{text_uses}
use Rattle.mcs_faults.proofs.Within.{IsWithin}
use Rattle.mcs_grammar.proofs.WithoutRepeats.{count-places}
use Rattle.mcs_grammar.proofs.SaidSystem.{as-many-contexts, bridge-written, IsContextAt, context-below}
use Rattle.mcs_faults.proofs.SaidReads.{variable-occurs, variable-below, variables-different, named_read, named-once, name-same, read-into, occurs-in, below-names, names-different}
use Rattle.mcs_faults.proofs.ValidCounts.{no-context}

module _ (t : WrittenText) (m : System) (says : SaysSystem t m) (within : IsWithin (text_uses t)) where
  -- named, they are as different
  named-different : (rs : List Read) → AreDifferent rs → ((r : Read) → IsAmong r rs → IsAmong r (variables m)) → AreDifferent (map (named_read (names_of t.contexts)) rs)
  named-different rs d all = distinct_map (named_read (names_of t.contexts)) rs
      (λ q r here there same. named-once (names_of t.contexts) (names-different t m says within) q r (below-names t m says q (variable-below m q (all q here))) (below-names t m says r (variable-below m r (all r there))) same)
      d

  was-read : (r : Read) → IsAmong r (variables m) → WasRead (text_uses t) (named_read (names_of t.contexts) r)
  was-read r h =
      let (b, in_rules, in_reads) = occurs-in t m says r (variable-occurs m r h) in
      let (w, there, s) = bridge-written t m says b in_rules in
      ((w.head).context, read-into t m says w b r there s in_reads)

  pub few-variables : exceeds m Variables ≡ false
  unfolding exceeds
  few-variables =
      let vs : List Read = variables m in
      let long = length-map vs (named_read (names_of t.contexts)) in
      let few = within.variables (map (named_read (names_of t.contexts)) vs) (named-different vs (variables-different m) (λ r h. h)) (λ n h.
      let (r, there, is) = map_among (named_read (names_of t.contexts)) n vs h in subst (WasRead (text_uses t)) (sym is) (was-read r there)) in
      le-ltb 64 (length vs) (omega arith)

  -- ---- inputs
  abbrev inputs : ℕ → List Read
  inputs i = filter (λ (r : Read). is_read_into m i (Some r)) (variables m)

  inputs-size : (i : ℕ) → size (inputs_of m i) ≡ length (inputs i)
  unfolding inputs_of
  inputs-size i =
      let vs : List Read = variables m in
      let p : ℕ → Bool = λ v. is_read_into m i (slice_get vs v) in
      size-count (such_that (length vs) p) (length vs) (such_that-lt (length vs) p)
      ∙ count-places (λ (r : Read). is_read_into m i (Some r)) (has (such_that (length vs) p)) 0 vs (λ j r at.
      let less : j < length vs = slice_get_within vs j r at in
      let below : ltb j (length vs) ≡ true = grind (arith, nat_tests) in
      let first : 0 + j ≡ j = omega arith in
      ap (has (such_that (length vs) p)) first ∙ has-such_that (length vs) p j ∙ rw (below, at) refl)

  was-input : (i : ℕ) (x : WrittenContext) (r : Read) → IsContextAt t m i x.name x → is_read_into m i (Some r) ≡ true → WasReadInto (text_uses t) x.name (named_read (names_of t.contexts) r)
  was-input i x r at e =
      let (k, b, here, both) = any_get (λ (c : Bridge). nat_eq c.target i && list_any (λ (q : Read). same_read r q) (c.pos ++ c.neg)) m.bridges e in
      let parts = and_parts (nat_eq b.target i) (list_any (λ (q : Read). same_read r q) (b.pos ++ b.neg)) both in
      let (j, q, in_reads, same) = any_get (λ (q : Read). same_read r q) (b.pos ++ b.neg) parts.1 in
      let into : b.target ≡ i = let test : nat_eq b.target i ≡ true = parts.0 in grind (arith, nat_tests) in
      let (w, there, s) = bridge-written t m says b (among_get b m.bridges k here) in
      let alike : r ≡ q = same_read-is r q same in
      let target : (w.head).context ≡ x.name = name-same t m i x (w.head).context at ((s.head).number ∙ ap (λ (n : ℕ). Some n) into) in
      subst (λ (n : Name). WasReadInto (text_uses t) n (named_read (names_of t.contexts) r)) target
      (read-into t m says w b r there s (subst (λ (y : Read). IsAmong y (b.pos ++ b.neg)) (sym alike) (among_get q (b.pos ++ b.neg) j in_reads)))

  pub few-inputs : exceeds m InputsPerContext ≡ false
  unfolding exceeds
  few-inputs = no-context m (λ i. nat_lt 16 (size (inputs_of m i))) (λ i less.
      let many = as-many-contexts t m says in
      let (x, at) = context-below t m says i (omega arith) in
      let passes : Read → Bool = λ r. is_read_into m i (Some r) in
      let rs : List Read = inputs i in
      let long = length-map rs (named_read (names_of t.contexts)) in
      let few = within.inputs x.name (map (named_read (names_of t.contexts)) rs)
      (named-different rs (distinct_filter passes (variables m) (variables-different m)) (λ r h. (filter_among passes r (variables m) h).0))
      (λ n h. let (r, there, is) = map_among (named_read (names_of t.contexts)) n rs h in subst (WasReadInto (text_uses t) x.name) (sym is) (was-input i x r at (filter_among passes r (variables m) there).1)) in
      let sized = inputs-size i in
      le-ltb 16 (size (inputs_of m i)) (omega arith))
