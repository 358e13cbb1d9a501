-- What holds of the items of each kind of context, and of the word that says the kind: a line a kind. All else is proved of
-- all kinds at once.
use Rattle.std.proofs.Common.{◌≡◌, ℕ, Bool, true, false, List, [], ◌∷◌, ◌++◌, refl, sym, ◌∙◌, inl, inr, ◌⊎◌, subst, append-nil}
use Rattle.std.specs.List.{flat_map}
use Rattle.mcs_base.specs.Listings.{IsAmong}
use Rattle.mcs_system.specs.Plain.{Name, Kind, ClassicalKind, DefaultKind, ProgramKind, ItemOf}
use Rattle.mcs_system.specs.Plain as plain
use Rattle.mcs_system.specs.Kinds.{atoms_in}
use Rattle.mcs_grammar.specs.Written.{Written, WrittenItem, Fact, WrittenRule, OfKind, WrittenOf, IsWrittenIn}
use Rattle.mcs_grammar.specs.Entries.{Use, SaysProgram, BeginsDefault, Entry, entry, entries_in, kind_word, kind_uses, rule_entries, uses_of}
use Rattle.mcs_grammar.specs.Saying.{said_in}
use Rattle.mcs_account.specs.Mark.{Seen}
use Rattle.mcs_account.specs.Marks.{Filled, marks_in, kind_class, ended_marks}
use Rattle.mcs_account.specs.Items.{item_formulas, formulas_in, rules_in}
use Rattle.mcs_account.specs.Account.{Account, took, accounted, in_last, with_kb, course_step}
use Rattle.mcs_account.specs.Turns.{calm, turn_took}
use Rattle.mcs_account.proofs.Courses.{course_at, free_place}
use Rattle.mcs_account.proofs.UsesParts.{IsProgramKb}
use Rattle.mcs_account.proofs.ItemMarks.{IsOne, formula-filled, item-filled, rule-filled}
use Rattle.mcs_account.proofs.ItemCourses.{ItemFollows, fact-follows, item-follows, rule-follows}
use Rattle.mcs_account.proofs.ItemAccounts.{filling, fact-accounts, item-accounts, rule-accounts}
use Rattle.mcs_account.proofs.ItemTurns.{Leads', formula-calm, item-calm, rule-stays}
use Rattle.mcs_account.proofs.ItemUses.{formula_uses, IsOfFormulas, item-uses, uses-item, ItemUse, IsDefault, InFormula, InRule, formula_names, rule_names, item-atoms}

-- ---- the word
pub word-filled : (k : Kind) → IsOne (Seen (kind_class k) (kind_word k))
word-filled ClassicalKind = (tt, refl)
word-filled DefaultKind = (tt, refl)
word-filled ProgramKind = (tt, refl)

pub word-follows : (k : Kind) (c t : Name) (n : ℕ) (es : List Entry) → course_step (course_at (free_place c t n) [] es) (Seen (kind_class k) (kind_word k)) ≡ course_at (free_place c t n) [] (es ++ entry (kind_word k) (kind_uses k c) ∷ [])
word-follows ClassicalKind c t n es = refl
word-follows DefaultKind c t n es = refl
word-follows ProgramKind c t n es = refl

pub word-accounts : (k : Kind) (a : Account) → took a (kind_class k) (kind_word k) ≡ record a { contexts = in_last (with_kb (plain.OfKind k [])) a.contexts }
word-accounts ClassicalKind a = refl
word-accounts DefaultKind a = refl
word-accounts ProgramKind a = refl

pub word-comes : (k : Kind) → turn_took (calm false) (kind_class k) ≡ calm false
word-comes ClassicalKind = refl
word-comes DefaultKind = refl
word-comes ProgramKind = refl

pub word-uses : (k : Kind) (c : Name) (u : Use) → IsAmong u (kind_uses k c) → (u ≡ SaysProgram c) × ((items : List (WrittenOf k)) → IsProgramKb (OfKind k items))
word-uses ProgramKind c u (inl e) = (e, λ items. tt)
word-uses ProgramKind c u (inr none) = absurd none
word-uses k c u h = absurd h

-- ---- an item
pub filled-in : (k : Kind) (i : WrittenOf k) → IsWrittenIn k i → Filled (marks_in k i)
filled-in ClassicalKind f h = formula-filled f h.1
filled-in DefaultKind i h = item-filled i h
filled-in ProgramKind r h = rule-filled r h

pub follows-in : (k : Kind) (c : Name) (i : WrittenOf k) → IsWrittenIn k i → ItemFollows c (marks_in k i) (entries_in k c i)
follows-in ClassicalKind c f h = fact-follows c f
follows-in DefaultKind c i h = item-follows c i
follows-in ProgramKind c r h = rule-follows c r h

pub accounts-in : (k : Kind) (i : WrittenOf k) → IsWrittenIn k i → (a : Account) (n : Name) (xs : List (ItemOf k)) → accounted (filling a n (plain.OfKind k xs)) (ended_marks (marks_in k i)) ≡ filling a n (plain.OfKind k (xs ++ said_in k i ∷ []))
accounts-in ClassicalKind f h a n xs = fact-accounts f a n (plain.Classical xs)
accounts-in DefaultKind i h a n xs = item-accounts i a n xs
accounts-in ProgramKind r h a n xs = rule-accounts r h a n xs

-- whether a formula is whole after it
pub calm-in : (k : Kind) (i : WrittenOf k) → (b : Bool) × Leads' (calm false) (calm b) (marks_in k i)
calm-in ClassicalKind f = (true, formula-calm false f)
calm-in DefaultKind i = (true, item-calm i)
calm-in ProgramKind r = (false, rule-stays r)

-- ---- what the tokens of an item are there for
of-default : (c : Name) (i : WrittenItem) (u : Use) → (u ≡ BeginsDefault c) ⊎ IsOfFormulas c (item_formulas i) u → ItemUse c DefaultKind i u
of-default c i u (inl e) = IsDefault e
of-default c i u (inr (f, there, here)) = InFormula f there here

pub uses-in : (k : Kind) (c : Name) (i : WrittenOf k) (u : Use) → IsAmong u (uses_of (entries_in k c i)) → ItemUse c k i u
uses-in ClassicalKind c f u h = InFormula f (inl refl) h
uses-in DefaultKind c i u h = of-default c i u (item-uses c i u h)
uses-in ProgramKind c r u h = InRule r (inl refl) h

pub formula-uses-in : (k : Kind) (c : Name) (i : WrittenOf k) (u : Use) (f : Written) → IsAmong f (formulas_in k i) → IsAmong u (formula_uses c f) → IsAmong u (uses_of (entries_in k c i))
formula-uses-in ClassicalKind c g u f there h = uses-item c (Fact g) u f there h
formula-uses-in DefaultKind c i u f there h = uses-item c i u f there h
formula-uses-in k c i u f there h = absurd there

pub rule-uses-in : (k : Kind) (c : Name) (i : WrittenOf k) (u : Use) (r : WrittenRule) → IsAmong r (rules_in k i) → IsAmong u (uses_of (rule_entries c r)) → IsAmong u (uses_of (entries_in k c i))
rule-uses-in ProgramKind c q u r (inl e) h = subst (λ (x : WrittenRule). IsAmong u (uses_of (rule_entries c x))) e h
rule-uses-in ProgramKind c q u r (inr none) h = absurd none
rule-uses-in k c i u r there h = absurd there

-- its atoms, by its formulas and rules
pub names-in : (k : Kind) (i : WrittenOf k) → atoms_in k (said_in k i) ≡ flat_map formula_names (formulas_in k i) ++ flat_map rule_names (rules_in k i)
names-in ClassicalKind f = sym (append-nil (formula_names f ++ []) ∙ append-nil (formula_names f))
names-in DefaultKind i = item-atoms i ∙ sym (append-nil (flat_map formula_names (item_formulas i)))
names-in ProgramKind r = sym (append-nil (rule_names r))
