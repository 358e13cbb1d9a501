-- What is known of a valid system: its numbers are in range, its names differ, and it keeps the limits.
use Rattle.std.proofs.Common.{◌≡◌, ℕ, ◌<◌, ◌≤◌, zero, suc, Bool, true, false, not, ◌||◌, ◌&&◌, nat_lt, nat_eq, List, [], ◌∷◌, map, length, count_by, Option, Some, None, slice_get, option_map, refl, sym, ap, ◌∙◌, inl, inr, arith, true≢false}
use Rattle.std.proofs.lemmas.Bool.{or_parts, ltb-true, ltb-false, eqb-false, not-false}
use Rattle.std.proofs.lemmas.Option.{slice_get-map}
use Rattle.std.proofs.lemmas.Slice.Eq.{bytes_eq-Decides}
use Rattle.std.specs.List.{list_any, range_with_len, AllByRecursion}
use Rattle.mcs_sets.specs.Sets.{size}
use Rattle.mcs_base.specs.Listings.{IsAmong}
use Rattle.mcs_system.specs.Plain.{Name, Context, Read, Bridge, System}
use Rattle.mcs_system.specs.Logic.{is_in, same_name}
use Rattle.mcs_system.specs.Systems.{variables}
use Rattle.mcs_system.specs.Rows.{inputs_of}
use Rattle.mcs_system.specs.Atoms.{atoms_of}
use Rattle.mcs_system.specs.declared.limit.Limit.{Limit}
use Rattle.mcs_system.specs.declared.limit.Limit.TheVariants.{Contexts, Bridges, RulesPerContext, Variables, InputsPerContext, AtomsPerContext, DefaultsPerContext, Weight}
use Rattle.mcs_system.specs.Faults.{reads_of, points_outside, is_atom, is_program, has_misfit, has_unjustified, default_count, has_unknown_context, has_twins, has_twin_names, has_misfits, exceeds, first_exceeded, limits, limit_fault, fault, fault_of, IsValid}
use Rattle.mcs_base.proofs.Among.{none_get, none_any, among_range}
use Rattle.mcs_base.proofs.Each.{all_both, all_from_no_any}
use Rattle.mcs_base.proofs.Booleans.{cond_none_parts, implied}

-- ---- a valid system passes each test
no_limit : (o : Option Limit) → limit_fault o ≡ None → o ≡ None
no_limit None e = refl
no_limit (Some l) e = absurd (let no : Some (fault 5 (Some l)) ≡ None = e in cc)

pub record PassesTests (m : System) : Type 0 where
  pub known : has_unknown_context m ≡ false
  pub apart : has_twin_names m ≡ false
  pub fitting : has_misfits m ≡ false
  pub limited : first_exceeded m limits ≡ None

pub tests_pass : (m : System) → IsValid m → PassesTests m
unfolding fault_of
tests_pass m valid =
    let a = cond_none_parts (has_unknown_context m) (fault 2 None) _ valid in
    let b = cond_none_parts (has_twin_names m) (fault 3 None) _ a.1 in
    let c = cond_none_parts (has_misfits m) (fault 4 None) _ b.1 in
    record { known = a.0; apart = b.0; fitting = c.0; limited = no_limit (first_exceeded m limits) c.1 }

not_exceeded : (m : System) (ls : List Limit) (l : Limit) → first_exceeded m ls ≡ None → IsAmong l ls → exceeds m l ≡ false
not_exceeded m [] l none among = absurd among
not_exceeded m (k ∷ ks) l none (inl e) = ap (exceeds m) e ∙ (cond_none_parts (exceeds m k) k (first_exceeded m ks) none).0
not_exceeded m (k ∷ ks) l none (inr among) = not_exceeded m ks l (cond_none_parts (exceeds m k) k (first_exceeded m ks) none).1 among

-- a valid system keeps each limit
pub limit_kept : (m : System) → IsValid m → (l : Limit) → IsAmong l limits → exceeds m l ≡ false
limit_kept m valid l among = not_exceeded m limits l (tests_pass m valid).limited among

-- ---- targets and reads are in range
bridge_parts : (n : ℕ) (b : Bridge) → points_outside n b ≡ false → (b.target < n) × (list_any (λ (r : Read). not (nat_lt r.context n)) (reads_of b) ≡ false)
bridge_parts n b e = let both = or_parts (not (nat_lt b.target n)) (list_any (λ (r : Read). not (nat_lt r.context n)) (reads_of b)) e in (ltb-true b.target n (not-false _ both.0), both.1)

pub targets_in_range : (m : System) → IsValid m → AllByRecursion (λ (b : Bridge). b.target < length m.contexts) m.bridges
targets_in_range m valid = all_from_no_any _ (points_outside (length m.contexts)) (λ b e. (bridge_parts (length m.contexts) b e).0) m.bridges (tests_pass m valid).known

pub target_in_range : (m : System) → IsValid m → (k : ℕ) (b : Bridge) → slice_get m.bridges k ≡ Some b → b.target < length m.contexts
target_in_range m valid k b at = (bridge_parts (length m.contexts) b (none_get (points_outside (length m.contexts)) m.bridges k b (tests_pass m valid).known at)).0

pub reads_in_range : (m : System) → IsValid m → AllByRecursion (λ (b : Bridge). AllByRecursion (λ (r : Read). r.context < length m.contexts) (reads_of b)) m.bridges
reads_in_range m valid = all_from_no_any _ (points_outside (length m.contexts))
    (λ b e. all_from_no_any _ (λ (r : Read). not (nat_lt r.context (length m.contexts))) (λ r e'. ltb-true r.context (length m.contexts) (not-false _ e')) (reads_of b) (bridge_parts (length m.contexts) b e).1)
    m.bridges (tests_pass m valid).known

pub read_in_range : (m : System) → IsValid m → (k j : ℕ) (b : Bridge) (r : Read) → slice_get m.bridges k ≡ Some b → slice_get (reads_of b) j ≡ Some r → r.context < length m.contexts
read_in_range m valid k j b r at at' = ltb-true r.context (length m.contexts) (not-false _
    (none_get (λ (q : Read). not (nat_lt q.context (length m.contexts))) (reads_of b) j r
    (bridge_parts (length m.contexts) b (none_get (points_outside (length m.contexts)) m.bridges k b (tests_pass m valid).known at)).1 at'))

-- ---- what goes into a program or is read of one is an atom
abbrev has_misfit_part : List Context → Bridge → Bool
has_misfit_part cs b = is_program (slice_get cs b.target) && not (is_atom b.head) || list_any (λ (r : Read). is_program (slice_get cs r.context) && not (is_atom r.belief)) (reads_of b)

misfit_parts : (cs : List Context) (b : Bridge) → has_misfit cs b ≡ false → ((is_program (slice_get cs b.target) && not (is_atom b.head)) ≡ false) × (list_any (λ (r : Read). is_program (slice_get cs r.context) && not (is_atom r.belief)) (reads_of b) ≡ false)
misfit_parts cs b e = or_parts (is_program (slice_get cs b.target) && not (is_atom b.head)) (list_any (λ (r : Read). is_program (slice_get cs r.context) && not (is_atom r.belief)) (reads_of b)) (or_parts (nat_eq b.weight 0) (has_misfit_part cs b) e).1

rule_fits : (m : System) → IsValid m → (k : ℕ) (b : Bridge) → slice_get m.bridges k ≡ Some b → has_misfit m.contexts b ≡ false
rule_fits m valid k b at = none_get (has_misfit m.contexts) m.bridges k b (or_parts (list_any (λ (c : Context). has_unjustified c.kb) m.contexts) (list_any (has_misfit m.contexts) m.bridges) (tests_pass m valid).fitting).1 at

pub head_is_atom : (m : System) → IsValid m → (k : ℕ) (b : Bridge) → slice_get m.bridges k ≡ Some b → is_program (slice_get m.contexts b.target) ≡ true → is_atom b.head ≡ true
head_is_atom m valid k b at there = implied (is_program (slice_get m.contexts b.target)) (is_atom b.head) (misfit_parts m.contexts b (rule_fits m valid k b at)).0 there

pub belief_is_atom : (m : System) → IsValid m → (k j : ℕ) (b : Bridge) (r : Read) → slice_get m.bridges k ≡ Some b → slice_get (reads_of b) j ≡ Some r → is_program (slice_get m.contexts r.context) ≡ true → is_atom r.belief ≡ true
belief_is_atom m valid k j b r at at' there =
    implied (is_program (slice_get m.contexts r.context)) (is_atom r.belief)
    (none_get (λ (q : Read). is_program (slice_get m.contexts q.context) && not (is_atom q.belief)) (reads_of b) j r (misfit_parts m.contexts b (rule_fits m valid k b at)).1 at')
    there

-- ---- names differ
-- a name is none of those after it
unlike : (x : Name) (xs : List Name) (j : ℕ) (n : Name) → is_in x xs ≡ false → x ≡ n → slice_get xs j ≡ Some n → ⊥
unlike x xs j n none e at = true≢false (sym ((bytes_eq-Decides x n).1 e) ∙ none_get (same_name x) xs j n none at)

pub twins_are_one : (ns : List Name) → has_twins ns ≡ false → (i j : ℕ) (n : Name) → slice_get ns i ≡ Some n → slice_get ns j ≡ Some n → i ≡ j
twins_are_one [] none i j n at at' = absurd (let e : None ≡ Some n = at in cc)
twins_are_one (x ∷ xs) none zero zero n at at' = refl
twins_are_one (x ∷ xs) none zero (suc j) n at at' = absurd (unlike x xs j n (or_parts (is_in x xs) (has_twins xs) none).0 (let e : x ≡ n = cc at in e) at')
twins_are_one (x ∷ xs) none (suc i) zero n at at' = absurd (unlike x xs i n (or_parts (is_in x xs) (has_twins xs) none).0 (let e : x ≡ n = cc at' in e) at)
twins_are_one (x ∷ xs) none (suc i) (suc j) n at at' = ap suc (twins_are_one xs (or_parts (is_in x xs) (has_twins xs) none).1 i j n at at')

pub context_names_differ : (m : System) → IsValid m → (i j : ℕ) (c d : Context) → slice_get m.contexts i ≡ Some c → slice_get m.contexts j ≡ Some d → c.name ≡ d.name → i ≡ j
context_names_differ m valid i j c d at at' same =
    let name : Context → Name = λ c. c.name in
    twins_are_one (map name m.contexts) (or_parts (has_twins (map name m.contexts)) (has_twins (map (λ (b : Bridge). b.name) m.bridges)) (tests_pass m valid).apart).0 i j d.name
    (slice_get-map name m.contexts i ∙ (ap (option_map name) at ∙ ap Some same)) (slice_get-map name m.contexts j ∙ ap (option_map name) at')

pub bridge_names_differ : (m : System) → IsValid m → (i j : ℕ) (b d : Bridge) → slice_get m.bridges i ≡ Some b → slice_get m.bridges j ≡ Some d → b.name ≡ d.name → i ≡ j
bridge_names_differ m valid i j b d at at' same =
    let name : Bridge → Name = λ b. b.name in
    twins_are_one (map name m.bridges) (or_parts (has_twins (map (λ (c : Context). c.name) m.contexts)) (has_twins (map name m.bridges)) (tests_pass m valid).apart).1 i j d.name
    (slice_get-map name m.bridges i ∙ (ap (option_map name) at ∙ ap Some same)) (slice_get-map name m.bridges j ∙ ap (option_map name) at')

-- ---- weights
pub weights_in_range : (m : System) → IsValid m → AllByRecursion (λ (b : Bridge). (1 ≤ b.weight) × (b.weight ≤ 1000000)) m.bridges
unfolding exceeds
weights_in_range m valid = all_both (λ (b : Bridge). 1 ≤ b.weight) (λ (b : Bridge). b.weight ≤ 1000000) m.bridges
    (all_from_no_any (λ (b : Bridge). 1 ≤ b.weight) (has_misfit m.contexts) (λ b e. omega (arith, eqb-false b.weight 0 (or_parts (nat_eq b.weight 0) (has_misfit_part m.contexts b) e).0)) m.bridges
    (or_parts (list_any (λ (c : Context). has_unjustified c.kb) m.contexts) (list_any (has_misfit m.contexts) m.bridges) (tests_pass m valid).fitting).1)
    (all_from_no_any (λ (b : Bridge). b.weight ≤ 1000000) (λ (b : Bridge). nat_lt 1000000 b.weight) (λ b e. ltb-false 1000000 b.weight e) m.bridges
    (limit_kept m valid Weight (inr (inr (inr (inr (inr (inr (inr (inr (inl refl)))))))))))

-- ---- limits
pub few_contexts : (m : System) → IsValid m → length m.contexts ≤ 64
unfolding exceeds
few_contexts m valid = ltb-false 64 (length m.contexts) (limit_kept m valid Contexts (inl refl))

pub few_bridges : (m : System) → IsValid m → length m.bridges ≤ 64
unfolding exceeds
few_bridges m valid = ltb-false 64 (length m.bridges) (limit_kept m valid Bridges (inr (inl refl)))

pub few_rules : (m : System) → IsValid m → (i : ℕ) → i < length m.contexts → count_by (λ (b : Bridge). nat_eq b.target i) m.bridges ≤ 12
unfolding exceeds
few_rules m valid i less = ltb-false 12 _ (none_any (λ j. nat_lt 12 (count_by (λ (b : Bridge). nat_eq b.target j) m.bridges)) (range_with_len 0 (length m.contexts)) i (limit_kept m valid RulesPerContext (inr (inr (inl refl)))) (among_range i 0 (length m.contexts) (omega arith) (omega arith)))

pub few_variables : (m : System) → IsValid m → length (variables m) ≤ 64
unfolding exceeds
few_variables m valid = ltb-false 64 (length (variables m)) (limit_kept m valid Variables (inr (inr (inr (inl refl)))))

pub few_inputs : (m : System) → IsValid m → (i : ℕ) → i < length m.contexts → size (inputs_of m i) ≤ 16
unfolding exceeds
few_inputs m valid i less = ltb-false 16 _ (none_any (λ j. nat_lt 16 (size (inputs_of m j))) (range_with_len 0 (length m.contexts)) i (limit_kept m valid InputsPerContext (inr (inr (inr (inr (inl refl)))))) (among_range i 0 (length m.contexts) (omega arith) (omega arith)))

pub few_atoms : (m : System) → IsValid m → (i : ℕ) → i < length m.contexts → length (atoms_of m i) ≤ 64
unfolding exceeds
few_atoms m valid i less = ltb-false 64 _ (none_any (λ j. nat_lt 64 (length (atoms_of m j))) (range_with_len 0 (length m.contexts)) i (limit_kept m valid AtomsPerContext (inr (inr (inr (inr (inr (inl refl))))))) (among_range i 0 (length m.contexts) (omega arith) (omega arith)))

pub few_defaults : (m : System) → IsValid m → (i : ℕ) (c : Context) → slice_get m.contexts i ≡ Some c → default_count c.kb ≤ 10
unfolding exceeds
few_defaults m valid i c at = ltb-false 10 _ (none_get (λ (d : Context). nat_lt 10 (default_count d.kb)) m.contexts i c (limit_kept m valid DefaultsPerContext (inr (inr (inr (inr (inr (inr (inl refl)))))))) at)
