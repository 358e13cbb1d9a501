-- The clauses of a formula whose denials are added one by one.
use Rattle.std.proofs.Common.{◌≡◌, ℕ, ◌+◌, ◌≤◌, List, ◌++◌, length, refl, sym, ap, ◌∙◌, append_assoc, arith}
use Rattle.mcs_system.specs.Denials.{denied, with_denials}
use Rattle.mcs_system.specs.Plain.{Name, Formula, Truth, Falsity, Atom, Not, Joined}
use Rattle.mcs_system.proofs.DenialLemmas.{denied_again}
use Rattle.mcs_trace.specs.Clauses.{ClauseList}
use Rattle.mcs_cnf.specs.ClauseLists.{taken, number, formula_clauses, not_clauses, IsAdded, IsOver}
use Rattle.mcs_cnf.specs.Denials.{denials_added}
use Rattle.mcs_cnf.proofs.NumberLemmas.{taken_grows}

-- the list with the occurrences of one more formula
abbrev with_occurrences : List Name → ClauseList → Formula → ClauseList
with_occurrences names c f = record { vars = taken c.vars f; clauses = c.clauses ++ formula_clauses names c.vars f }

-- what is denied is over the names of the formula
pub over_denied : (names : List Name) (f : Formula) → IsOver names f → IsOver names (denied f)
over_denied names Truth over = over
over_denied names Falsity over = over
over_denied names (Atom n) over = over
over_denied names (Not f) over = over_denied names f over
over_denied names (Joined c f g) over = over

-- ---- how many occurrences a formula has, by which the recursion falls
pub taken_least : (k : ℕ) (f : Formula) → taken 0 f ≤ taken k f
taken_least k f = omega (arith, taken_from 0 f, taken_from k f)
  where
    taken_from : (k : ℕ) (f : Formula) → taken k f ≡ k + taken 0 f
    taken_from k Truth = omega arith
    taken_from k Falsity = omega arith
    taken_from k (Atom n) = omega arith
    taken_from k (Not f) = omega (arith, taken_from k f)
    taken_from k (Joined c f g) = omega (arith, taken_from k f, taken_from (taken k f) g, taken_from (taken 0 f) g)

pub denied_least : (f : Formula) → taken 0 (denied f) ≤ taken 0 f
denied_least Truth = omega arith
denied_least Falsity = omega arith
denied_least (Atom n) = omega arith
denied_least (Not f) = omega (arith, denied_least f)
denied_least (Joined c f g) = omega arith

-- ---- the code's loop
pub one_more : (f g : Formula) (old new : ClauseList) (x n : ℕ) → f ≡ Not g → IsAdded (λ n. not_clauses n x) old new n → denials_added g new n ≡ denials_added f old x
one_more f g old new x n is added = rw (is, added.0, added.1) refl

-- ---- after the occurrences of what is denied
denials_of : (names : List Name) (c : ClauseList) (f p : Formula) → denials_added f (with_occurrences names c p) (number names c.vars p) ≡ (with_occurrences names c (with_denials f p), number names c.vars (with_denials f p))
denials_of names c Truth p = refl
denials_of names c Falsity p = refl
denials_of names c (Atom n) p = refl
denials_of names c (Not f) p =
    let n = taken c.vars p + 1 in
    ap (λ cs. denials_added f (record { vars = n; clauses = cs }) n) (append_assoc c.clauses (formula_clauses names c.vars p) (not_clauses n (number names c.vars p)))
    ∙ denials_of names c f (Not p)
denials_of names c (Joined _ f g) p = refl

-- the list and the number of the whole formula
module _ (names : List Name) (c c' : ClauseList) (f g core : Formula) (x : ℕ) (is : f ≡ Not g) (below : core ≡ denied g) (numbered : x ≡ number names c.vars core) (added : c' ≡ with_occurrences names c core) where
  whole : denials_added f c' x ≡ (with_occurrences names c f, number names c.vars f)
  whole =
      let again : with_denials f core ≡ f = ap (with_denials f) (below ∙ sym (ap denied is)) ∙ denied_again f in
      ap (λ (l : ClauseList). denials_added f l x) added
      ∙ ap (denials_added f (with_occurrences names c core)) numbered
      ∙ denials_of names c f core
      ∙ ap (λ (h : Formula). (with_occurrences names c h, number names c.vars h)) again

  pub whole_added : (c'' : ClauseList) → c'' ≡ (denials_added f c' x).0 → c'' ≡ record { vars = taken c.vars f; clauses = c.clauses ++ formula_clauses names c.vars f }
  whole_added c'' so = so ∙ ap (λ (p : ClauseList × ℕ). p.0) whole

  pub whole_number : (n : ℕ) → n ≡ (denials_added f c' x).1 → n ≡ number names c.vars f
  whole_number n so = so ∙ ap (λ (p : ClauseList × ℕ). p.1) whole

  pub whole_room : (c'' : ClauseList) → c'' ≡ (denials_added f c' x).0 → length names ≤ c.vars → length names ≤ c''.vars
  whole_room c'' so room =
      let same : c''.vars ≡ taken c.vars f = ap (λ (l : ClauseList). l.vars) (whole_added c'' so) in
      omega (arith, same, taken_grows c.vars f)
