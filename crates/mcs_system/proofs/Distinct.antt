-- The variables of a system are a list without repeats.
use Rattle.std.proofs.Common.{◌≡◌, ℕ, ◌+◌, zero, suc, Bool, true, false, not, eqb, List, [], ◌∷◌, length, refl, sym, ◌∙◌, arith, true≢false}
use Rattle.std.proofs.lemmas.Bool.Decides.{nat_tests}
use Rattle.std.specs.List.{range_with_len, flat_map}
use Rattle.mcs_base.specs.Listings.{IsAmong, firsts, AreApart}
use Rattle.mcs_system.specs.Plain.{Read, System}
use Rattle.mcs_system.specs.Systems.{same_read, occurrences, context_variables, variables, IsVariable}
use Rattle.mcs_system.proofs.Sameness.{same_read-itself}
use Rattle.mcs_base.proofs.Among.{filter_among, flat_map_among, range_among}
use Rattle.mcs_system.proofs.VariableLemmas.{firsts_among}
use Rattle.mcs_base.proofs.Distinct.{distinct_filter, distinct_append, one_place}

firsts_distinct : (rs : List Read) → AreApart (firsts same_read rs)
firsts_distinct [] = tt
firsts_distinct (r ∷ rs) = (
  λ h. let no = (filter_among (λ q. not (same_read r q)) r (firsts same_read rs) h).1 in true≢false (sym (same_read-itself r) ∙ flip (same_read r r) no),
  distinct_filter (λ q. not (same_read r q)) (firsts same_read rs) (firsts_distinct rs),
)
  where
    flip : (b : Bool) → not b ≡ true → b ≡ false
    flip true e = absurd (true≢false (sym e))
    flip false e = refl

owned : (m : System) (i : ℕ) (r : Read) → IsAmong r (context_variables m i) → r.context ≡ i
owned m i r h = let own : eqb r.context i ≡ true = (filter_among (λ q. eqb q.context i) r (occurrences m) (firsts_among r _ h)).1 in grind (arith, nat_tests)

all_distinct : (m : System) (k n : ℕ) → AreApart (flat_map (context_variables m) (range_with_len k n))
all_distinct m k zero = tt
all_distinct m k (suc n) = distinct_append (context_variables m k) (flat_map (context_variables m) (range_with_len (k + 1) n)) (firsts_distinct _) (all_distinct m (k + 1) n)
    (λ r here there. let (i, in_range, in_i) = flat_map_among (context_variables m) r (range_with_len (k + 1) n) there in
    let a = owned m k r here in let b = owned m i r in_i in let low = (range_among i (k + 1) n in_range).0 in omega arith)

-- each variable has one number
pub one_number : (m : System) (v w : ℕ) (r : Read) → IsVariable m v r → IsVariable m w r → v ≡ w
unfolding variables
one_number m v w r = one_place (variables m) (all_distinct m 0 (length m.contexts)) v w r
