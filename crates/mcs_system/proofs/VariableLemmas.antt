-- What the variables of a system are, and the sets that are made of them.
use Rattle.std.proofs.Common.{◌≡◌, ℕ, ◌+◌, ◌-◌, ◌<◌, ◌≤◌, cond, map, zero, suc, Bool, true, false, not, ◌&&◌, ◌||◌, eqb, ltb, List, [], ◌∷◌, ◌++◌, filter, length, Some, refl, sym, ap, ◌∙◌, inl, inr, ◌⊎◌, arith, true≢false, slice_get}
use Rattle.std.proofs.lemmas.Bool.Decides.{nat_tests}
use Rattle.std.proofs.lemmas.List.{length-map}
use Rattle.std.specs.List.{range_with_len, list_any, enumerate_from, flat_map}
use Rattle.mcs_sets.specs.Sets.{has}
use Rattle.mcs_sets.proofs.SetLemmas.{has-such_that}
use Rattle.mcs_base.specs.Listings.{IsAmong}
use Rattle.mcs_system.specs.declared.knowledge.Context as code
use Rattle.mcs_system.specs.declared.bridge.Bridge as code'
use Rattle.mcs_base.specs.Listings.{firsts}
use Rattle.mcs_system.specs.Plain.{Read, Bridge, System}
use Rattle.mcs_system.specs.Seen.{context_of, system_of}
use Rattle.mcs_system.specs.Systems.{same_read, occurrences, context_variables, variables, variables_of, IsVariable, applies_at, applicable}
use Rattle.mcs_system.specs.Imports.{rules_into}
use Rattle.mcs_system.specs.Rows.{inputs_of}
use Rattle.mcs_system.proofs.Sameness.{same_read-is, same_read-itself}
use Rattle.mcs_base.proofs.Among.{among_filter, filter_among, get_among, among_get, among_flat_map, flat_map_among, among_range, range_among, get_any, among_any, filter_all, filter_none}
use Rattle.std.proofs.lemmas.Option.{slice_get_within}
use Rattle.mcs_base.proofs.Lists.{range_more, range_none, filter-flat_map, flat_map_same, flat_map_range_at}
use Rattle.std.proofs.lemmas.Bool.{or_right}

-- ---- the variables
pub among_firsts : (r : Read) (xs : List Read) → IsAmong r xs → IsAmong r (firsts same_read xs)
among_firsts r [] h = absurd h
among_firsts r (x ∷ xs) (inl e) = inl e
among_firsts r (x ∷ xs) (inr h) = at (same_read x r) refl (among_firsts r xs h)
  where
    at : (v : Bool) → same_read x r ≡ v → IsAmong r (firsts same_read xs) → (r ≡ x) ⊎ IsAmong r (filter (λ q. not (same_read x q)) (firsts same_read xs))
    at true e rest = inl (sym (same_read-is x r e))
    at false e rest = inr (among_filter (λ q. not (same_read x q)) r (firsts same_read xs) rest (ap not e))

pub firsts_among : (r : Read) (xs : List Read) → IsAmong r (firsts same_read xs) → IsAmong r xs
firsts_among r [] h = absurd h
firsts_among r (x ∷ xs) (inl e) = inl e
firsts_among r (x ∷ xs) (inr h) = inr (firsts_among r xs (filter_among (λ q. not (same_read x q)) r (firsts same_read xs) h).0)

-- a variable belongs to a context of the system
pub variable_in_range : (m : System) (v : ℕ) (r : Read) → IsVariable m v r → r.context < length m.contexts
unfolding variables
variable_in_range m v r is =
    let (i, in_range, here) = flat_map_among (context_variables m) r (range_with_len 0 (length m.contexts)) (among_get r _ v is) in
    let own : eqb r.context i ≡ true = (filter_among (λ q. eqb q.context i) r (occurrences m) (firsts_among r _ here)).1 in
    let (from, less) = range_among i 0 (length m.contexts) in_range in
    let same : r.context ≡ i = grind (arith, nat_tests) in omega arith

-- and what a rule reads of a context of the system is a variable
pub read_is_variable : (m : System) (k : ℕ) (b : Bridge) (r : Read) → slice_get m.bridges k ≡ Some b → IsAmong r (b.pos ++ b.neg) → r.context < length m.contexts → (v : ℕ) × IsVariable m v r
unfolding variables
read_is_variable m k b r is here less =
    get_among r _ (among_flat_map (context_variables m) r.context r (range_with_len 0 (length m.contexts))
    (among_range r.context 0 (length m.contexts) (omega arith) (omega arith))
    (among_firsts r _ (among_filter (λ q. eqb q.context r.context) r (occurrences m)
    (among_flat_map (λ (c : Bridge). c.pos ++ c.neg) b r m.bridges (among_get b m.bridges k is) here)
    (grind (arith, nat_tests)))))

-- ---- what is believed at a set of variables
pub believed_from : (σ k : ℕ) (r : Read) (xs : List Read) → list_any (λ v. has σ v.0 && same_read v.1 r) (enumerate_from k xs) ≡ true → (v : ℕ) × (slice_get xs v ≡ Some r) × (has σ (k + v) ≡ true)
believed_from σ k r [] e = absurd (true≢false (sym e))
believed_from σ k r (x ∷ xs) e = at (has σ k) refl (same_read x r) refl e (believed_from σ (k + 1) r xs)
  where
    later : ((v : ℕ) × (slice_get xs v ≡ Some r) × (has σ (k + 1 + v) ≡ true)) → (v : ℕ) × (slice_get (x ∷ xs) v ≡ Some r) × (has σ (k + v) ≡ true)
    later found = (suc found.0, found.1, ap (has σ) (omega arith) ∙ found.2)

    at : (u : Bool) → has σ k ≡ u → (v : Bool) → same_read x r ≡ v → ((u && v) || list_any (λ v. has σ v.0 && same_read v.1 r) (enumerate_from (k + 1) xs)) ≡ true → (list_any (λ v. has σ v.0 && same_read v.1 r) (enumerate_from (k + 1) xs) ≡ true → (v : ℕ) × (slice_get xs v ≡ Some r) × (has σ (k + 1 + v) ≡ true)) → (v : ℕ) × (slice_get (x ∷ xs) v ≡ Some r) × (has σ (k + v) ≡ true)
    at true is true same e rest = (0, ap (λ y. Some y) (same_read-is x r same), ap (has σ) (omega arith) ∙ is)
    at true is false same e rest = later (rest e)
    at false is v same e rest = later (rest e)

pub from_believed : (σ k : ℕ) (r : Read) (xs : List Read) (v : ℕ) → slice_get xs v ≡ Some r → has σ (k + v) ≡ true → list_any (λ v. has σ v.0 && same_read v.1 r) (enumerate_from k xs) ≡ true
from_believed σ k r [] v is member = cc
from_believed σ k r (x ∷ xs) zero is member =
    let same : r ≡ x = cc in
    let known : has σ k ≡ true = ap (has σ) (omega arith) ∙ member in
    let alike : same_read x r ≡ true = ap (λ y. same_read x y) same ∙ same_read-itself x in
    rw (known, alike) refl
from_believed σ k r (x ∷ xs) (suc v) is member =
    let rest = from_believed σ (k + 1) r xs v is (ap (has σ) (omega arith) ∙ member) in
    or_right (has σ k && same_read x r) _ rest

-- ---- what is in the sets
pub has-applicable : (m : System) (σ k : ℕ) (b : Bridge) → slice_get m.bridges k ≡ Some b → has (applicable m σ) k ≡ applies_at m σ b
unfolding applicable
has-applicable m σ k b is = has-such_that _ _ k ∙ (let less = slice_get_within m.bridges k b is in let e : ltb k (length m.bridges) ≡ true = grind (arith, nat_tests) in rw (e, is) refl)

pub has-variables_of : (m : System) (i v : ℕ) (r : Read) → IsVariable m v r → has (variables_of m i) v ≡ eqb r.context i
unfolding variables_of
has-variables_of m i v r is = has-such_that _ _ v ∙ (let less = slice_get_within (variables m) v r is in let e : ltb v (length (variables m)) ≡ true = grind (arith, nat_tests) in rw (e, is) refl)

pub has-rules_into : (m : System) (i k : ℕ) (b : Bridge) → slice_get m.bridges k ≡ Some b → has (rules_into m i) k ≡ eqb b.target i
unfolding rules_into
has-rules_into m i k b is = has-such_that _ _ k ∙ (let less = slice_get_within m.bridges k b is in let e : ltb k (length m.bridges) ≡ true = grind (arith, nat_tests) in rw (e, is) refl)

pub has-inputs_of : (m : System) (i k v : ℕ) (b : Bridge) (r q : Read) → slice_get m.bridges k ≡ Some b → b.target ≡ i → IsAmong r (b.pos ++ b.neg) → IsVariable m v q → same_read q r ≡ true → has (inputs_of m i) v ≡ true
unfolding inputs_of
has-inputs_of m i k v b r q is target here var alike = has-such_that _ _ v ∙ (let less = slice_get_within (variables m) v q var in let e : ltb v (length (variables m)) ≡ true = grind (arith, nat_tests) in rw (e, var)
    (get_any (λ (c : Bridge). eqb c.target i && list_any (λ (p : Read). same_read q p) (c.pos ++ c.neg)) m.bridges k b is
    (let t : eqb b.target i ≡ true = grind (arith, nat_tests) in let a = among_any (λ (p : Read). same_read q p) (b.pos ++ b.neg) r here alike in rw (t, a) refl)))

-- ---- the walk over the contexts
-- the variables of context i and of those after it
abbrev pub variables_from : List code.Context → List code'.Bridge → ℕ → List Read
variables_from cs bs i = flat_map (context_variables (system_of [] bs)) (range_with_len i (length cs - i))

pub variables_from-step : (cs : List code.Context) (bs : List code'.Bridge) (i : ℕ) → i < length cs → variables_from cs bs i ≡ context_variables (system_of [] bs) i ++ variables_from cs bs (i + 1)
variables_from-step cs bs i less = ap (flat_map (context_variables (system_of [] bs))) (range_more i (length cs) less)

pub variables_from-over : (cs : List code.Context) (bs : List code'.Bridge) (i : ℕ) → length cs ≤ i → variables_from cs bs i ≡ []
variables_from-over cs bs i over = ap (flat_map (context_variables (system_of [] bs))) (range_none i (length cs) over)

pub variables-all : (cs : List code.Context) (bs : List code'.Bridge) → variables (system_of cs bs) ≡ variables_from cs bs 0
unfolding variables
variables-all cs bs = let e : length (map context_of cs) ≡ length cs - 0 = omega (arith, length-map cs context_of) in ap (λ n. flat_map (context_variables (system_of [] bs)) (range_with_len 0 n)) e

-- ---- the variables of one context are those of the system that are of it
of_context : (m : System) (i j : ℕ) (r : Read) → IsAmong r (context_variables m j) → eqb r.context i ≡ eqb j i
of_context m i j r here =
    let own : eqb r.context j ≡ true = (filter_among (λ q. eqb q.context j) r (occurrences m) (firsts_among r _ here)).1 in
    let same : r.context ≡ j = grind (arith, nat_tests) in ap (λ n. eqb n i) same

own_part : (m : System) (i j : ℕ) → filter (λ (r : Read). eqb r.context i) (context_variables m j) ≡ cond (eqb j i) (context_variables m j) []
own_part m i j = at (eqb j i) refl
  where
    at : (v : Bool) → eqb j i ≡ v → filter (λ (r : Read). eqb r.context i) (context_variables m j) ≡ cond v (context_variables m j) []
    at true e = filter_all (λ (r : Read). eqb r.context i) (context_variables m j) (λ r here. of_context m i j r here ∙ e)
    at false e = filter_none (λ (r : Read). eqb r.context i) (context_variables m j) (λ r here. of_context m i j r here ∙ e)

pub variables_own : (m : System) (i : ℕ) → i < length m.contexts → filter (λ (r : Read). eqb r.context i) (variables m) ≡ context_variables m i
unfolding variables
variables_own m i less =
    filter-flat_map (λ (r : Read). eqb r.context i) (context_variables m) (range_with_len 0 (length m.contexts))
    ∙ flat_map_same (λ j. filter (λ (r : Read). eqb r.context i) (context_variables m j)) (λ j. cond (eqb j i) (context_variables m j) []) (range_with_len 0 (length m.contexts)) (own_part m i)
    ∙ flat_map_range_at (context_variables m) i 0 (length m.contexts) (omega arith) (omega arith)
