-- The test of a clause says what a clause is.
use Rattle.std.proofs.Common.{◌≡◌, ℕ, ◌<◌, ◌^◌, true, false, List, [], ◌∷◌, ℤ, pos, negsuc, arith, refl, inl, inr, nat_lt}
use Rattle.std.proofs.lemmas.Bool.{cases_Bool, and_parts, and_from, ltb-true, lt-ltb}
use Rattle.std.specs.Int.RustNames.{unsigned_abs}
use Rattle.std.specs.List.{AllByRecursion}
use Rattle.mcs_base.specs.Listings.{IsAscending}
use Rattle.mcs_base.proofs.Each.{all_weaker}
use Rattle.mcs_trace.specs.Clauses.{IsLiteral, LiteralBefore, IsClause, place}
use Rattle.mcs_spelling.specs.Words.{ascend_from}

to : (last : ℕ) (ls : List ℤ) → ascend_from last ls ≡ true → AllByRecursion IsLiteral ls × AllByRecursion (λ l. last < place l) ls × IsAscending LiteralBefore ls
to last [] e = (tt, tt, tt)
to last (l ∷ ls) e =
    let some = and_parts (nat_lt 0 (unsigned_abs l)) _ e in
    let few = and_parts (nat_lt (unsigned_abs l) (2 ^ 63)) _ some.1 in
    let up = and_parts (nat_lt last (place l)) _ few.1 in
    let rest = to (place l) ls up.1 in
    let more : last < place l = ltb-true last (place l) up.0 in
    (((ltb-true 0 (unsigned_abs l) some.0, ltb-true (unsigned_abs l) (2 ^ 63) few.0), rest.0), (more, all_weaker (λ k. place l < place k) (λ k. last < place k) (λ k next. omega (arith, more, next)) ls rest.1), (rest.1, rest.2))

from : (last : ℕ) (ls : List ℤ) → AllByRecursion IsLiteral ls → AllByRecursion (λ l. last < place l) ls → IsAscending LiteralBefore ls → ascend_from last ls ≡ true
from last [] lits after asc = refl
from last (l ∷ ls) lits after asc =
    and_from (nat_lt 0 (unsigned_abs l)) _ (lt-ltb 0 (unsigned_abs l) lits.0.0)
    (and_from (nat_lt (unsigned_abs l) (2 ^ 63)) _ (lt-ltb (unsigned_abs l) (2 ^ 63) lits.0.1)
    (and_from (nat_lt last (place l)) _ (lt-ltb last (place l) after.0) (from (place l) ls lits.1 asc.0 asc.1)))

positive : (l : ℤ) → IsLiteral l → 0 < place l
positive (pos n) h = let a : 0 < n = h.0 in omega arith
positive (negsuc n) h = omega arith

all_positive : (ls : List ℤ) → AllByRecursion IsLiteral ls → AllByRecursion (λ l. 0 < place l) ls
all_positive [] h = tt
all_positive (l ∷ ls) h = (positive l h.0, all_positive ls h.1)

pub ascends : (ls : List ℤ) → IsClause ls → ascend_from 0 ls ≡ true
ascends ls clause = from 0 ls clause.0 (all_positive ls clause.0) clause.1

pub is_clause : (ls : List ℤ) → ascend_from 0 ls ≡ true → IsClause ls
is_clause ls e = let h = to 0 ls e in (h.0, h.2)

pub ascends_not : (ls : List ℤ) → ¬ IsClause ls → ascend_from 0 ls ≡ false
ascends_not ls none = elim (cases_Bool (ascend_from 0 ls)) [ inl e ↦ absurd (none (is_clause ls e)) | inr e ↦ e ]
