-- The sets that a system keeps of its contexts and rules.
use Rattle.std.proofs.Common.{◌≡◌, ℕ, ◌+◌, ◌-◌, ◌<◌, ◌≤◌, Bool, true, false, ◌&&◌, ◌||◌, eqb, ltb, get_or, drop, List, [], ◌∷◌, map, length, Option, Some, None, refl, sym, ap, ◌∙◌, arith, slice_get}
use Rattle.std.proofs.lemmas.List.{at_drop_more, at_drop_all, length-map}
use Rattle.std.proofs.lemmas.List.Folds.{list_any-append}
use Rattle.std.specs.List.{list_any, range_with_len}
use Rattle.mcs_sets.specs.Sets.{has, union, size}
use Rattle.mcs_sets.proofs.SetLemmas.{same_set, has-such_that, has-union, has-empty}
use Rattle.mcs_system.specs.declared.bridge.Bridge as code
use Rattle.mcs_system.specs.declared.knowledge.Context as code'
use Rattle.mcs_system.specs.declared.limit.Limit.TheVariants.{InputsPerContext, AtomsPerContext}
use Rattle.mcs_system.specs.Plain.{Name, Read, Bridge, System}
use Rattle.mcs_system.specs.Seen.{context_of, bridge_of, system_of}
use Rattle.mcs_system.specs.Systems.{same_read, variables, variables_of}
use Rattle.mcs_system.specs.Rows.{inputs_of, is_read_into}
use Rattle.mcs_system.specs.Imports.{rules_into}
use Rattle.mcs_system.specs.Atoms.{atoms_of}
use Rattle.mcs_system.specs.Faults.{exceeds}
use Rattle.std.proofs.lemmas.Option.{slice_get-get_or}
use Rattle.mcs_base.proofs.Lists.{same_image_at, length_same_images, slice_get-map_some}
use Rattle.mcs_system.specs.declared.parts.RuleReads.{RuleReads}
use Rattle.mcs_system.specs.Parts.{ContextPart, rule_part, rule_part_of, context_part, variables_among, variables_read, inputs_among, is_read_among, read_into}
use Rattle.mcs_sets.proofs.Lattice.{has-if, union_assoc, union-none}
use Rattle.mcs_base.proofs.Ranges.{some_from}

abbrev of_rules : List Bridge → System
of_rules bs = record { contexts = []; bridges = bs }

pub has-variables_read : (vs reads : List Read) (v : ℕ) → has (variables_read vs reads) v ≡ (ltb v (length vs) && is_read_among reads (slice_get vs v))
unfolding variables_read
has-variables_read vs reads v = has-such_that (length vs) (λ w. is_read_among reads (slice_get vs w)) v

pub has-inputs_among : (vs : List Read) (bs : List Bridge) (i v : ℕ) → has (inputs_among vs bs i) v ≡ (ltb v (length vs) && is_read_into (of_rules bs) i (slice_get vs v))
unfolding inputs_among
has-inputs_among vs bs i v = has-such_that (length vs) (λ w. is_read_into (of_rules bs) i (slice_get vs w)) v

-- ---- the walk over the rules into a context
inputs-none : (vs : List Read) (i : ℕ) → inputs_among vs [] i ≡ 0
inputs-none vs i = same_set (inputs_among vs [] i) 0 (λ v. has-inputs_among vs [] i v ∙ none (ltb v (length vs)) (slice_get vs v) ∙ sym (has-empty v))
  where
    none : (u : Bool) (r : Option Read) → (u && is_read_into (of_rules []) i r) ≡ false
    none true None = refl
    none true (Some r) = refl
    none false r = refl

inputs-step : (vs : List Read) (b : Bridge) (bs : List Bridge) (i : ℕ) → inputs_among vs (b ∷ bs) i ≡ union (read_into vs i b) (inputs_among vs bs i)
inputs-step vs b bs i = same_set _ _ (λ v.
    has-inputs_among vs (b ∷ bs) i v
    ∙ at (ltb v (length vs)) (slice_get vs v)
    ∙ sym (has-union (read_into vs i b) (inputs_among vs bs i) v
    ∙ rw (has-if (eqb b.target i) (union (variables_read vs b.pos) (variables_read vs b.neg)) v, has-union (variables_read vs b.pos) (variables_read vs b.neg) v, has-variables_read vs b.pos v, has-variables_read vs b.neg v, has-inputs_among vs bs i v) refl))
  where
    each : (u t x y z : Bool) → (u && ((t && (x || y)) || z)) ≡ ((t && ((u && x) || (u && y))) || (u && z))
    each true t x y z = refl
    each false true x y z = refl
    each false false x y z = refl

    neither : (u t : Bool) → (u && false) ≡ ((t && ((u && false) || (u && false))) || (u && false))
    neither true true = refl
    neither true false = refl
    neither false true = refl
    neither false false = refl

    at : (u : Bool) (r : Option Read) → (u && is_read_into (of_rules (b ∷ bs)) i r) ≡ ((eqb b.target i && ((u && is_read_among b.pos r) || (u && is_read_among b.neg r))) || (u && is_read_into (of_rules bs) i r))
    at u None = neither u (eqb b.target i)
    at u (Some r) = rw (list_any-append (same_read r) b.pos b.neg) (each u (eqb b.target i) (list_any (same_read r) b.pos) (list_any (same_read r) b.neg) (is_read_into (of_rules bs) i (Some r)))

-- what the rules from k on read, if they go into context i
abbrev pub inputs_from : List Read → List code.Bridge → ℕ → ℕ → ℕ
inputs_from vs bs k i = inputs_among vs (map bridge_of (drop k bs)) i

pub inputs_go_on : (vs : List Read) (bs : List code.Bridge) (k : ℕ) (b : code.Bridge) → k < length bs → b ≡ get_or bs k b → (i s whole : ℕ) → union s (inputs_from vs bs k i) ≡ whole → union (union s (read_into vs i (bridge_of b))) (inputs_from vs bs (k + 1) i) ≡ whole
inputs_go_on vs bs k b less is i s whole e = union_assoc s (read_into vs i (bridge_of b)) (inputs_from vs bs (k + 1) i) ∙ ap (union s) (sym step) ∙ e
  where
    step : inputs_from vs bs k i ≡ union (read_into vs i (bridge_of b)) (inputs_from vs bs (k + 1) i)
    step =
        at_drop_more (λ (cs : List code.Bridge). inputs_among vs (map bridge_of cs) i) bs k b less
        ∙ ap (λ (c : code.Bridge). inputs_among vs (bridge_of c ∷ map bridge_of (drop (k + 1) bs)) i) (sym is)
        ∙ inputs-step vs (bridge_of b) (map bridge_of (drop (k + 1) bs)) i

pub inputs_end : (vs : List Read) (bs : List code.Bridge) (k i s whole : ℕ) → length bs ≤ k → union s (inputs_from vs bs k i) ≡ whole → s ≡ whole
inputs_end vs bs k i s whole over e = sym (union-none s) ∙ ap (union s) (sym (at_drop_all (λ (cs : List code.Bridge). inputs_among vs (map bridge_of cs) i) bs k over ∙ inputs-none vs i)) ∙ e

-- ---- of the system
pub variables_of-is : (m : System) (i : ℕ) → variables_of m i ≡ variables_among (variables m) i
unfolding variables_of variables_among
variables_of-is m i = refl

pub inputs_of-is : (m : System) (i : ℕ) → inputs_of m i ≡ inputs_among (variables m) m.bridges i
unfolding inputs_of inputs_among
inputs_of-is m i = refl

pub inputs-exceed : (cs : List code'.Context) (bs : List code.Bridge) → exceeds (system_of cs bs) InputsPerContext ≡ some_from (λ i. ltb 16 (size (inputs_of (system_of cs bs) i))) 0 (length cs)
unfolding exceeds
inputs-exceed cs bs = let e : length (map context_of cs) ≡ length cs - 0 = omega (arith, length-map cs context_of) in ap (λ n. list_any (λ i. ltb 16 (size (inputs_of (system_of cs bs) i))) (range_with_len 0 n)) e

pub atoms-exceed : (cs : List code'.Context) (bs : List code.Bridge) → exceeds (system_of cs bs) AtomsPerContext ≡ some_from (λ i. ltb 64 (length (atoms_of (system_of cs bs) i))) 0 (length cs)
unfolding exceeds
atoms-exceed cs bs = let e : length (map context_of cs) ≡ length cs - 0 = omega (arith, length-map cs context_of) in ap (λ n. list_any (λ i. ltb 64 (length (atoms_of (system_of cs bs) i))) (range_with_len 0 n)) e

pub variables_known : (m : System) (vs : List Read) (i v : ℕ) → vs ≡ variables m → v ≡ variables_among vs i → v ≡ variables_of m i
variables_known m vs i v all e = e ∙ ap (λ us. variables_among us i) all ∙ sym (variables_of-is m i)

pub inputs_known : (m : System) (vs : List Read) (i v : ℕ) → vs ≡ variables m → v ≡ inputs_among vs m.bridges i → v ≡ inputs_of m i
inputs_known m vs i v all e = e ∙ ap (λ us. inputs_among us m.bridges i) all ∙ sym (inputs_of-is m i)

abbrev part_with : List Name → ℕ → ℕ → ℕ → ContextPart
part_with a v n r = record { atoms = a; variables = v; inputs = n; rules = r }

pub part_made : (m : System) (i : ℕ) (a : List Name) (v n r : ℕ) → a ≡ atoms_of m i → v ≡ variables_of m i → n ≡ inputs_of m i → r ≡ rules_into m i → part_with a v n r ≡ context_part m i
part_made m i a v n r ea ev en er = ap (λ x. part_with x v n r) ea ∙ ap (λ x. part_with (atoms_of m i) x n r) ev ∙ ap (λ x. part_with (atoms_of m i) (variables_of m i) x r) en ∙ ap (λ x. part_with (atoms_of m i) (variables_of m i) (inputs_of m i) x) er

-- what is kept of a rule, read from a list
pub part_at : (vs : List Read) (reads : List RuleReads) (bs : List code.Bridge) (k : ℕ) (d : RuleReads) (b : code.Bridge) → map rule_part_of reads ≡ map (rule_part vs) (map bridge_of bs) → k < length bs → b ≡ get_or bs k b → rule_part_of (get_or reads k d) ≡ rule_part vs (bridge_of b)
part_at vs reads bs k d b same less is = same_image_at rule_part_of (rule_part vs) reads (map bridge_of bs) k d (bridge_of b) same (slice_get-map_some bridge_of bs k b (slice_get-get_or bs k b less ∙ ap Some (sym is)))

pub as_many_parts : (vs : List Read) (reads : List RuleReads) (bs : List code.Bridge) → map rule_part_of reads ≡ map (rule_part vs) (map bridge_of bs) → length reads ≡ length bs
as_many_parts vs reads bs same = length_same_images rule_part_of (rule_part vs) reads (map bridge_of bs) same ∙ length-map bs bridge_of
