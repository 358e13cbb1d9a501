-- What holds of each sign before a formula, and of each sign between two: a line a sign.
use Rattle.std.proofs.Common.{◌≡◌, ◌+◌, Bool, true, List, [], ◌∷◌, ◌++◌, refl, sym, true≢false, eqb, false}
use Rattle.std.specs.Prelude.{slice_index}
use Rattle.mcs_base.specs.Words.{reserved_words}
use Rattle.mcs_system.specs.Plain.{Connective, Conjunction, Disjunction, Implication, Equivalence}
use Rattle.mcs_system.specs.Plain as plain
use Rattle.mcs_system.specs.Logic.{atoms}
use Rattle.mcs_system.specs.Seen.{formula_size}
use Rattle.mcs_grammar.specs.Items.{Token, Prefix, Denial, prefix_sign, prefixed, joint_sign, joint_level, IsNameWord, IsNumber, Entry, entry}
use Rattle.mcs_productions.specs.declared.class.Class.{Class}
use Rattle.mcs_productions.specs.declared.production.Action.{Action}
use Rattle.mcs_account.specs.Mark.{Mark, Seen, IsFilled}
use Rattle.mcs_account.specs.Items.{prefix_class, prefix_action, joint_class, joint_action, Fill, bytes_for}
use Rattle.mcs_account.specs.Account.{Account, pushed, took, told, Place, next_counted, Course, course_step, course_told}
use Rattle.mcs_account.specs.Turns.{Depth, turn, turn_took, turn_told, Free, Due}

-- ---- what it is
-- no name is spelled as a sign
pub prefix-no-name : (p : Prefix) → IsNameWord (prefix_sign p) → ⊥
unfolding reserved_words
prefix-no-name Denial e = true≢false (sym e)

pub prefix-atoms : (p : Prefix) (x : plain.Formula) → atoms (prefixed p x) ≡ atoms x
prefix-atoms Denial x = refl

pub joined-high : (j : Connective) → joint_level j ≡ 0 → ⊥
joined-high Conjunction e = cc
joined-high Disjunction e = cc
joined-high Implication e = cc
joined-high Equivalence e = cc

-- nor begins a sign with a period
pub prefix-no-period : (p : Prefix) → eqb (slice_index (prefix_sign p) 0) 46 ≡ false
prefix-no-period Denial = refl

pub joint-no-period : (j : Connective) → eqb (slice_index (joint_sign j) 0) 46 ≡ false
joint-no-period Conjunction = refl
joint-no-period Disjunction = refl
joint-no-period Implication = refl
joint-no-period Equivalence = refl

pub prefix-size : (p : Prefix) (x : plain.Formula) → formula_size (prefixed p x) ≡ formula_size x + 1
prefix-size Denial x = refl

-- ---- its class and its action
-- a token that may be there for this
abbrev pub IsOne : Mark Class Action Token → Type 0
IsOne m = IsFilled Fill bytes_for m

pub prefix-filled : (p : Prefix) → IsOne (Seen (prefix_class p) (prefix_sign p))
prefix-filled Denial = (tt, refl)

pub joint-filled : (j : Connective) → IsOne (Seen (joint_class j) (joint_sign j))
joint-filled Conjunction = (tt, refl)
joint-filled Disjunction = (tt, refl)
joint-filled Implication = (tt, refl)
joint-filled Equivalence = (tt, refl)

-- ---- in the account
pub prefix-takes : (p : Prefix) (a : Account) → took a (prefix_class p) (prefix_sign p) ≡ a
prefix-takes Denial a = refl

pub prefix-told : (p : Prefix) (a : Account) (x : plain.Formula) → told (pushed a x) (prefix_action p) ≡ pushed a (prefixed p x)
prefix-told Denial a x = refl

pub joint-takes : (j : Connective) (a : Account) → took a (joint_class j) (joint_sign j) ≡ a
joint-takes Conjunction a = refl
joint-takes Disjunction a = refl
joint-takes Implication a = refl
joint-takes Equivalence a = refl

pub joint-told : (j : Connective) (a : Account) (x y : plain.Formula) → told (pushed (pushed a x) y) (joint_action j) ≡ pushed a (plain.Joined j x y)
joint-told Conjunction a x y = refl
joint-told Disjunction a x y = refl
joint-told Implication a x y = refl
joint-told Equivalence a x y = refl

-- ---- in what the tokens are there for
abbrev pub course_at : Place → List plain.Formula → List Entry → Course
course_at p fs es = record { place = p; operands = fs; entries = es }

-- a sign that counts
abbrev pub after_sign : Course → Token → Course
after_sign s sign = course_at (next_counted s.place) s.operands (s.entries ++ entry sign (s.place.begins ++ IsNumber (s.place.counted + 1) ∷ []) ∷ [])

pub prefix-steps : (p : Prefix) (s : Course) → course_step s (Seen (prefix_class p) (prefix_sign p)) ≡ after_sign s (prefix_sign p)
prefix-steps Denial s = refl

pub prefix-tells : (p : Prefix) (o : Place) (x : plain.Formula) (fs : List plain.Formula) (es : List Entry) → course_told (course_at o (x ∷ fs) es) (prefix_action p) ≡ course_at o (prefixed p x ∷ fs) es
prefix-tells Denial o x fs es = refl

pub joint-steps : (j : Connective) (s : Course) → course_step s (Seen (joint_class j) (joint_sign j)) ≡ after_sign s (joint_sign j)
joint-steps Conjunction s = refl
joint-steps Disjunction s = refl
joint-steps Implication s = refl
joint-steps Equivalence s = refl

pub joint-tells : (j : Connective) (p : Place) (x y : plain.Formula) (fs : List plain.Formula) (es : List Entry) → course_told (course_at p (y ∷ x ∷ fs) es) (joint_action j) ≡ course_at p (plain.Joined j x y ∷ fs) es
joint-tells Conjunction p x y fs es = refl
joint-tells Disjunction p x y fs es = refl
joint-tells Implication p x y fs es = refl
joint-tells Equivalence p x y fs es = refl

-- ---- in the order of events
pub prefix-comes : (p : Prefix) (r b : Bool) (d : Depth) → turn_took (turn r d b true Free) (prefix_class p) ≡ turn r d b true Free
prefix-comes Denial r b d = refl

pub prefix-passes : (p : Prefix) (r b : Bool) (d : Depth) → turn_told (turn r d b true Free) (prefix_action p) ≡ turn r d b true Free
prefix-passes Denial r b d = refl

pub joint-comes : (j : Connective) (r b : Bool) (d : Depth) → turn_took (turn r d b true Free) (joint_class j) ≡ turn r d b true Free
joint-comes Conjunction r b d = refl
joint-comes Disjunction r b d = refl
joint-comes Implication r b d = refl
joint-comes Equivalence r b d = refl

pub joint-passes : (j : Connective) (r b : Bool) (d : Depth) → turn_told (turn r d b true Free) (joint_action j) ≡ turn r d b true Free
joint-passes Conjunction r b d = refl
joint-passes Disjunction r b d = refl
joint-passes Implication r b d = refl
joint-passes Equivalence r b d = refl

-- where the belief of a read has ended
pub prefix-due : (p : Prefix) (r b : Bool) (d : Depth) → turn_told (turn r d b true Due) (prefix_action p) ≡ turn r d b true Due
prefix-due Denial r b d = refl
