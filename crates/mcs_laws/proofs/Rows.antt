-- What holds the rows of tiny systems back: the marks, and what earlier contexts supply.
use Rattle.std.proofs.Common.{◌≡◌, ℕ, ◌≤◌, zero, suc, Bool, true, false, ◌&&◌, cond, [], ◌∷◌, refl, ap, ◌∙◌, subst, inl, inr, arith}
use Rattle.std.proofs.lemmas.Bool.{and_from}
use Rattle.mcs_sets.specs.Sets.{has, common, union, minus, single, such_that, size}
use Rattle.mcs_sets.proofs.SetLemmas.{Within-le, has-common}
use Rattle.mcs_sets.proofs.Lattice.{none_within, size-single, in_common}
use Rattle.mcs_base.specs.Listings.{IsAmong}
use Rattle.mcs_system.specs.Plain.{Context, Read}
use Rattle.mcs_system.specs.Logic.{BeliefSet, Theory, Atoms, Believes, Accepts, SameModels, with_heads}
use Rattle.mcs_system.specs.Systems.{variables, variables_of, IsVariable, heads_into, AcceptsWith, IsAcceptedPart, applicable}
use Rattle.mcs_system.specs.Repairs.{marks_of}
use Rattle.mcs_system.specs.Imports.{rules_into, marks_at}
use Rattle.mcs_system.specs.Rows.{inputs_of, local_of}
use Rattle.mcs_system.specs.Levels.{IsLocalRow}
use Rattle.mcs_system.proofs.MarkLemmas.{marks_known}
use Rattle.mcs_laws.specs.Laws.{RowsHaveFewMarks, RowsKeepToSupplies}
use Rattle.mcs_laws.specs.Examples.{p, p_of_0, example_context, against_itself, one_reads_other}
use Rattle.mcs_laws.proofs.Free.{all_allowed}
use Rattle.mcs_laws.proofs.Need.{alone_first}
use Rattle.mcs_laws.proofs.Tiny.{has-1, p_is_open, all_variables-against, variables_of-against, rests, acts_and_may_not, rests_and_must_act}
use Rattle.mcs_base.proofs.Ranges.{zero_or_one}

-- ---- the rule against its own context
rules_into-against : rules_into against_itself 0 ≡ 1
unfolding rules_into such_that union single
rules_into-against = refl

one_removed : size (marks_at against_itself 0 0 0) ≡ 1
unfolding applicable rules_into variables marks_of such_that union single common minus has
one_removed = size-single 0

one_forced : size (marks_at against_itself 0 1 1) ≡ 1
unfolding applicable rules_into variables marks_of such_that union single common minus has
one_forced = size-single 1

no_row : (state marks : ℕ) → ¬ IsLocalRow against_itself 0 0 state marks
no_row state marks (order, is, row) = by (zero_or_one row.whole (rw (all_variables-against false false) at (Within-le row.whole _ row.of_variables))) (zero_or_one row.rules (rw rules_into-against at (Within-le row.rules _ row.of_rules)))
  where
    marked : (w x : ℕ) → row.whole ≡ w → row.rules ≡ x → size (marks_at against_itself 0 w x) ≤ 0
    marked w x e e' = rw (← e, ← e', row.marks_is) row.few

    part : (w x : ℕ) → row.whole ≡ w → row.rules ≡ x → IsAcceptedPart against_itself 0 x (common w 1)
    part w x e e' = subst (λ (s : ℕ). IsAcceptedPart against_itself 0 x (common w s)) (variables_of-against false false) (rw (← e, ← e') row.accepted)

    by : IsAmong row.whole (1 ∷ 0 ∷ []) → IsAmong row.rules (1 ∷ 0 ∷ []) → ⊥
    by (inl w) (inr (inr none)) = absurd none
    by (inr (inr none)) x = absurd none
    by (inr (inl w)) (inr (inr none)) = absurd none
    by (inl w) (inl x) = let few = marked 1 1 w x in let some = one_forced in omega arith
    by (inl w) (inr (inl x)) = rests_and_must_act false false (part 1 0 w x)
    by (inr (inl w)) (inl x) = acts_and_may_not false false (part 0 1 w x)
    by (inr (inl w)) (inr (inl x)) = let few = marked 0 0 w x in let some = one_removed in omega arith

one_row : IsLocalRow against_itself 1 0 0 1
unfolding applicable rules_into variables variables_of inputs_of marks_of such_that union single common minus has
one_row = (
  0 ∷ [],
  alone_first against_itself refl,
  record {
    whole = 0;
    of_variables = none_within _;
    rules = 0;
    of_rules = none_within _;
    accepted = rests false false;
    supplies = λ j nothing. absurd nothing;
    state_is = refl;
    marks_is = refl;
    allowed = rw (all_allowed against_itself ((refl, refl), tt)) (marks_known against_itself 1 0);
    few = let some = one_removed in omega arith;
  },
)

pub rows_have_few_marks : RowsHaveFewMarks
rows_have_few_marks = (no_row, one_row)

-- ---- one context reads another
local-other : local_of one_reads_other 1 ≡ 1
unfolding variables variables_of inputs_of such_that union single
local-other = refl

pub variables_of-first : variables_of one_reads_other 0 ≡ 1
unfolding variables_of variables such_that union single
variables_of-first = refl

pub only_read : (v : ℕ) (r : Read) → IsVariable one_reads_other v r → r ≡ p_of_0
unfolding variables
only_read zero r is = cc
only_read (suc v) r is = cc

pub no_heads : (x : ℕ) → heads_into one_reads_other 0 x ≡ []
no_heads x = at (has x 0)
  where
    at : (v : Bool) → cond (v && false) (p ∷ []) [] ≡ []
    at true = refl
    at false = refl

-- the first context believes nothing that does not follow from nothing
disbelieves : (x : ℕ) (b : BeliefSet) → AcceptsWith one_reads_other 0 x b → ¬ Believes b p
disbelieves x (Theory e) (c, is, accepts) believes =
    let same : c ≡ example_context = cc in
    let models : SameModels e [] = rw no_heads at (subst (λ (d : Context). Accepts (with_heads d.kb (heads_into one_reads_other 0 x)) (Theory e)) same accepts) in
    p_is_open (λ a h. believes a (models a ∙ h))
disbelieves x (Atoms names) (c, is, accepts) believes =
    let same : c ≡ example_context = cc in absurd (subst (λ (d : Context). Accepts (with_heads d.kb (heads_into one_reads_other 0 x)) (Atoms names)) same accepts)

-- so it supplies no state with p
pub supplies_no_p : (x whole : ℕ) → has whole 0 ≡ true → ¬ IsAcceptedPart one_reads_other 0 x (common whole (variables_of one_reads_other 0))
supplies_no_p x whole inside accepted =
    let member : has (common whole (variables_of one_reads_other 0)) 0 ≡ true = rw variables_of-first (has-common whole 1 0 ∙ and_from _ _ inside has-1) in
    let (r, var, own, believes) = (accepted.part 0).0 member in
    disbelieves x accepted.belief accepted.accepted (subst (λ (q : Read). Believes accepted.belief q.belief) (only_read 0 r var) believes)

pub rows_keep_to_supplies : RowsKeepToSupplies
rows_keep_to_supplies marks row =
    let state : common row.whole 1 ≡ 1 = rw local-other at row.state_is in
    let inside : has row.whole 0 ≡ true = (in_common row.whole 1 0 (ap (λ s. has s 0) state ∙ has-1)).0 in
    let (x, question, accepted) = row.supplies 0 (inl refl) refl in
    supplies_no_p x row.whole inside accepted
