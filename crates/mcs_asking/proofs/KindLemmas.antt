-- What goes into a context of a valid system, and what is asked of it, is of its kind.
use Rattle.std.proofs.Common.{◌≡◌, ℕ, true, IsTrue, List, [], ◌∷◌, filter, eqb, length, count_by, Some, slice_get, refl, ap, ◌∙◌, arith}
use Rattle.std.proofs.lemmas.Bool.Decides.{nat_tests}
use Rattle.std.specs.List.{AllByRecursion}
use Rattle.mcs_sets.specs.Sets.{members}
use Rattle.mcs_base.specs.Listings.{IsAmong}
use Rattle.mcs_base.proofs.ListingLemmas.{members_listing}
use Rattle.mcs_base.proofs.Among.{get_among, map_among, filter_among, flat_map_among}
use Rattle.mcs_base.proofs.Each.{all_from_among}
use Rattle.mcs_base.proofs.Sums.{count_by-cons}
use Rattle.mcs_system.specs.Plain.{Formula, Item, Fact, Rule, ProgramKind, Kb, OfKind, Program, ProgramRule, Context, Read, Bridge, System}
use Rattle.mcs_system.specs.Faults.{IsValid, is_atom, is_program, is_default, reads_of}
use Rattle.mcs_system.specs.Systems.{variables_of, occurrences, heads_into, IsVariable}
use Rattle.mcs_system.specs.Views.{belief_of, belief_at, beliefs_at}
use Rattle.mcs_system.proofs.ContextSets.{variable_there}
use Rattle.mcs_system.proofs.ValidLemmas.{head_is_atom, belief_is_atom}
use Rattle.mcs_system.proofs.VariableLemmas.{firsts_among}
use Rattle.mcs_evidence.specs.Defaults.{defaults_of}
use Rattle.mcs_asking.specs.Kinds.{AreOfKind}
use Rattle.mcs_asking.proofs.CoverLemmas.{head_among, own_variable}

-- the defaults of a theory are its items that are defaults
pub defaults_counted : (items : List Item) → length (defaults_of items) ≡ count_by is_default items
defaults_counted [] = refl
defaults_counted (Fact f ∷ items) = let rest = defaults_counted items in omega (arith, count_by-cons is_default (Fact f) items)
defaults_counted (Rule d ∷ items) = let rest = defaults_counted items in omega (arith, count_by-cons is_default (Rule d) items)

program_there : (m : System) (i : ℕ) (c : Context) (rules : List ProgramRule) → slice_get m.contexts i ≡ Some c → c.kb ≡ Program rules → is_program (slice_get m.contexts i) ≡ true
program_there m i c rules is kb = ap is_program is ∙ ap (λ (k : Kb). is_program (Some (record { name = c.name; kb = k }))) kb

head_fits : (m : System) → IsValid m → (i : ℕ) → is_program (slice_get m.contexts i) ≡ true → (b : Bridge) → IsAmong b (filter (λ (b : Bridge). eqb b.target i) m.bridges) → is_atom b.head ≡ true
head_fits m valid i there b among =
    let (known, own) = filter_among (λ (b : Bridge). eqb b.target i) b m.bridges among in
    let (k, at) = get_among b m.bridges known in
    let same : b.target ≡ i = (let mine : eqb b.target i ≡ true = own in grind (arith, nat_tests)) in
    head_is_atom m valid k b at (ap (λ (j : ℕ). is_program (slice_get m.contexts j)) same ∙ there)

program_heads : (m : System) → IsValid m → (i x : ℕ) → is_program (slice_get m.contexts i) ≡ true → AllByRecursion (λ (f : Formula). IsTrue (is_atom f)) (heads_into m i x)
program_heads m valid i x there = all_from_among (λ (f : Formula). IsTrue (is_atom f)) (heads_into m i x) (λ f among.
    let (b, inside, is) = map_among (λ (b : Bridge). b.head) f (filter (λ (b : Bridge). eqb b.target i) m.bridges) (head_among 0 m.bridges i x f among) in
    ap is_atom is ∙ head_fits m valid i there b inside)

belief_fits : (m : System) → IsValid m → (i v : ℕ) (r : Read) → is_program (slice_get m.contexts i) ≡ true → IsVariable m v r → r.context ≡ i → is_atom r.belief ≡ true
belief_fits m valid i v r there var own =
    let read : IsAmong r (occurrences m) = (filter_among (λ (q : Read). eqb q.context i) r (occurrences m) (firsts_among r _ (own_variable m i v r var own))).0 in
    let (b, known, here) = flat_map_among reads_of r m.bridges read in
    let (k, at) = get_among b m.bridges known in
    let (j, at') = get_among r (reads_of b) here in
    belief_is_atom m valid k j b r at at' (ap (λ (j : ℕ). is_program (slice_get m.contexts j)) own ∙ there)

program_beliefs : (m : System) → IsValid m → (i : ℕ) → is_program (slice_get m.contexts i) ≡ true → AllByRecursion (λ (f : Formula). IsTrue (is_atom f)) (beliefs_at m (variables_of m i))
program_beliefs m valid i there = all_from_among (λ (f : Formula). IsTrue (is_atom f)) (beliefs_at m (variables_of m i)) (λ f among.
    let (v, inside, is) = map_among (belief_at m) f (members (variables_of m i)) among in
    let (r, var, own) = variable_there m i v (((members_listing (variables_of m i)).exactly v).0 inside) in
    ap is_atom (is ∙ ap belief_of var) ∙ belief_fits m valid i v r there var own)

-- where a program wants atoms, they are atoms
of_kind : (m : System) (i : ℕ) (c : Context) (fs : List Formula) → slice_get m.contexts i ≡ Some c → (is_program (slice_get m.contexts i) ≡ true → AllByRecursion (λ (f : Formula). IsTrue (is_atom f)) fs) → AreOfKind c.kb fs
of_kind m i c fs is fit = at c.kb refl
  where
    at : (k : Kb) → c.kb ≡ k → AreOfKind k fs
    at (OfKind ProgramKind rules) e = fit (program_there m i c rules is e)
    at (OfKind k items) e = tt

pub heads_of_kind : (m : System) → IsValid m → (i x : ℕ) (c : Context) → slice_get m.contexts i ≡ Some c → AreOfKind c.kb (heads_into m i x)
heads_of_kind m valid i x c is = of_kind m i c (heads_into m i x) is (program_heads m valid i x)

pub beliefs_of_kind : (m : System) → IsValid m → (i : ℕ) (c : Context) → slice_get m.contexts i ≡ Some c → AreOfKind c.kb (beliefs_at m (variables_of m i))
beliefs_of_kind m valid i c is = of_kind m i c (beliefs_at m (variables_of m i)) is (program_beliefs m valid i)
