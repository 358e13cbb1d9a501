-- What is written of the items of contexts is accounted for.
use Rattle.std.proofs.Common.{◌≡◌, Bool, true, false, codes, List, [], ◌∷◌, ◌++◌, map, refl, sym, ap, ◌∙◌, append_assoc, append-nil}
use Rattle.std.specs.List.{flat_map}
use Rattle.mcs_system.specs.Plain.{Name}
use Rattle.mcs_system.specs.Plain as plain
use Rattle.mcs_grammar.specs.Written.{Written, WrittenDefault, WrittenItem, Fact, WrittenLiteral, WrittenRule, IsRule}
use Rattle.mcs_grammar.specs.Written as written
use Rattle.mcs_grammar.specs.Entries.{formula_in}
use Rattle.mcs_grammar.specs.Saying.{default_said, item_in, positive_atoms, negative_atoms, rule_in}
use Rattle.mcs_productions.specs.declared.class.Class.TheVariants as class
use Rattle.mcs_account.specs.Mark.{Seen}
use Rattle.mcs_account.specs.Marks.{Marked, formula_marks, after_marks, default_marks, item_marks, head_marks, further_head_marks, literal_denial, literal_marks, further_literal_marks, sign_marks, rule_marks, ended_marks}
use Rattle.mcs_account.specs.Account.{Account, no_rule, pushed, item_of, more_kb, with_item, with_literal, accounted}
use Rattle.mcs_account.proofs.Accounts.{accounted-append, formula-accounts, last-changed}

-- the last context so far has this knowledge base, which may still grow; nothing waits
abbrev pub filling : Account → Name → plain.Kb → Account
filling a n kb = record a { contexts = a.contexts ++ record { name = n; kb = kb } ∷ []; operands = []; rule = no_rule; denied = false }

-- an item and its period
abbrev ItemAccounts : Marked → (plain.Kb → plain.Kb) → Type 0
ItemAccounts ms more = (a : Account) (n : Name) (kb : plain.Kb) → accounted (filling a n kb) (ended_marks ms) ≡ filling a n (more kb)

-- the period after the operands
ended-account : (a : Account) (n : Name) (kb : plain.Kb) (fs : List plain.Formula) (r : plain.ProgramRule)
    → accounted (record (filling a n kb) { operands = fs; rule = r }) (Seen class.EndsItem (codes ".") ∷ []) ≡ filling a n (more_kb fs r kb)
ended-account a n kb fs r = ap (λ l. record a { contexts = l; operands = []; rule = no_rule; denied = false }) (last-changed (with_item fs r) a.contexts (record { name = n; kb = kb }))

pub fact-accounts : (f : Written) → ItemAccounts (formula_marks f) (more_kb (formula_in f ∷ []) no_rule)
fact-accounts f a n kb = simp (accounted-append, formula-accounts, last-changed)

-- the operands of formulas after others
abbrev over : List Written → List plain.Formula → List plain.Formula
over [] fs = fs
over (j ∷ js) fs = over js (formula_in j ∷ fs)

justs-account : (a : Account) (js : List Written) → accounted a (flat_map (after_marks class.SeparatesJustifications (codes ",")) js) ≡ record a { operands = over js a.operands }
justs-account a [] = refl
justs-account a (j ∷ js) =
    accounted-append a (formula_marks j) (flat_map (after_marks class.SeparatesJustifications (codes ",")) js)
    ∙ ap (λ (r : Account). accounted r (flat_map (after_marks class.SeparatesJustifications (codes ",")) js)) (formula-accounts j a)
    ∙ justs-account (pushed a (formula_in j)) js

-- the item of the operands of a default
item-over : (c f : plain.Formula) (js : List Written) (fs ks : List plain.Formula) → item_of c (over js (f ∷ fs)) ks ≡ item_of c (f ∷ fs) (map formula_in js ++ ks)
item-over c f [] fs ks = refl
item-over c f (j ∷ js) fs ks = item-over c (formula_in j) js (f ∷ fs) ks

default-accounts : (d : WrittenDefault) (a : Account) (n : Name) (items : List plain.Item)
    → accounted (filling a n (plain.DefaultTheory items)) (ended_marks (default_marks d)) ≡ filling a n (plain.DefaultTheory (items ++ plain.Rule (default_said d) ∷ []))
default-accounts d a n items = simp (append_assoc, accounted-append, formula-accounts, justs-account, last-changed, item-over, append-nil)

pub item-accounts : (i : WrittenItem) (a : Account) (n : Name) (items : List plain.Item) → accounted (filling a n (plain.DefaultTheory items)) (ended_marks (item_marks i)) ≡ filling a n (plain.DefaultTheory (items ++ item_in i ∷ []))
item-accounts (Fact f) a n items = fact-accounts f a n (plain.DefaultTheory items)
item-accounts (written.Rule d) a n items = default-accounts d a n items

-- ---- program rules
abbrev ruling : Account → plain.ProgramRule → Account
ruling a r = record a { rule = r; denied = false }

heads-account : (a : Account) (r : plain.ProgramRule) (names : List Name) → accounted (ruling a r) (flat_map further_head_marks names) ≡ ruling a (record r { head = r.head ++ names })
heads-account a r [] = ap (λ (l : List Name). ruling a (record r { head = l })) (sym (append-nil r.head))
heads-account a r (n ∷ names) = heads-account a (record r { head = r.head ++ n ∷ [] }) names ∙ ap (λ (l : List Name). ruling a (record r { head = l })) (append_assoc r.head (n ∷ []) names)

literal-account : (a : Account) (r : plain.ProgramRule) (l : WrittenLiteral) → accounted (ruling a r) (literal_marks l) ≡ ruling a (with_literal l.denied l.atom r)
literal-account a r l = at l.denied
  where
    at : (b : Bool) → accounted (ruling a r) (literal_denial b ++ Seen class.IsBodyAtom l.atom ∷ []) ≡ ruling a (with_literal b l.atom r)
    at true = refl
    at false = refl

abbrev with_literals : List WrittenLiteral → plain.ProgramRule → plain.ProgramRule
with_literals ls r = record r { pos = r.pos ++ positive_atoms ls; neg = r.neg ++ negative_atoms ls }

literal-before : (l : WrittenLiteral) (ls : List WrittenLiteral) (r : plain.ProgramRule) → with_literals ls (with_literal l.denied l.atom r) ≡ with_literals (l ∷ ls) r
literal-before l ls r = at l.denied refl
  where
    at : (b : Bool) → l.denied ≡ b → with_literals ls (with_literal l.denied l.atom r) ≡ with_literals (l ∷ ls) r
    at true is = rw is (ap (λ (x : List Name). record r { pos = r.pos ++ positive_atoms ls; neg = x }) (append_assoc r.neg (l.atom ∷ []) (negative_atoms ls)))
    at false is = rw is (ap (λ (x : List Name). record r { pos = x; neg = r.neg ++ negative_atoms ls }) (append_assoc r.pos (l.atom ∷ []) (positive_atoms ls)))

literals-account : (a : Account) (r : plain.ProgramRule) (ls : List WrittenLiteral) → accounted (ruling a r) (flat_map further_literal_marks ls) ≡ ruling a (with_literals ls r)
literals-account a r [] = ap (λ (x : List Name). ruling a (record r { pos = x })) (sym (append-nil r.pos)) ∙ ap (λ (x : List Name). ruling a (record r { pos = r.pos ++ []; neg = x })) (sym (append-nil r.neg))
literals-account a r (l ∷ ls) =
    accounted-append (ruling a r) (literal_marks l) (flat_map further_literal_marks ls) ∙ ap (λ (x : Account). accounted x (flat_map further_literal_marks ls)) (literal-account a r l)
    ∙ literals-account a (with_literal l.denied l.atom r) ls ∙ ap (ruling a) (literal-before l ls r)

body-account : (a : Account) (r : plain.ProgramRule) (sign : Bool) (ls : List WrittenLiteral) → (sign ≡ false → ls ≡ []) → accounted (ruling a r) (sign_marks sign ls) ≡ ruling a (with_literals ls r)
body-account a r true [] h = literals-account a r []
body-account a r true (l ∷ ls) h = literals-account a r (l ∷ ls)
body-account a r false ls h = literals-account a r [] ∙ ap (λ (x : List WrittenLiteral). ruling a (with_literals x r)) (sym (h refl))

pub rule-accounts : (r : WrittenRule) → IsRule r → (a : Account) (n : Name) (rules : List plain.ProgramRule) → accounted (filling a n (plain.Program rules)) (ended_marks (rule_marks r)) ≡ filling a n (plain.Program (rules ++ rule_in r ∷ []))
rule-accounts r h a n rules =
    let b : Account = filling a n (plain.Program rules) in
    let dot : Marked = Seen class.EndsItem (codes ".") ∷ [] in
    accounted-append b (rule_marks r) dot
    ∙ ap (λ (x : Account). accounted x dot) (accounted-append b (head_marks r.head) (sign_marks r.has_sign r.body) ∙ ap (λ (x : Account). accounted x (sign_marks r.has_sign r.body)) (at r.head) ∙ body-account b (record no_rule { head = r.head }) r.has_sign r.body h.body_after_sign)
    ∙ ended-account a n (plain.Program rules) [] (rule_in r)
  where
    at : (names : List Name) → accounted (filling a n (plain.Program rules)) (head_marks names) ≡ ruling (filling a n (plain.Program rules)) (record no_rule { head = names })
    at [] = refl
    at (m ∷ names) = heads-account (filling a n (plain.Program rules)) (record no_rule { head = m ∷ [] }) names
