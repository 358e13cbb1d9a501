-- The items of contexts as they are written in canonical texts: parentheses around what has two parts, where a primary has to
-- stand. They are of the grammar, and say what they are written of.
use Rattle.std.proofs.Common.{Bool, true, false, nat_eq, List, [], ◌∷◌, ◌++◌, map, ◌≡◌, not, ◌&&◌, nat_le, IsTrue, length, refl, true≢false, arith, ap, ap₂, ◌∙◌}
use Rattle.std.specs.List.{AllByRecursion}
use Rattle.mcs_system.specs.Plain.{Name, Formula, Truth, Falsity, Atom, Not, Joined, Connective, Default, ProgramRule, Item, Kb, Context, Read, Bridge, System}
use Rattle.mcs_system.specs.Plain as plain
use Rattle.mcs_grammar.specs.Written.{Written, True', False', Named, Denial, Prefixed, Grouped, Joins, WrittenItem, Fact, Rule, WrittenLiteral, WrittenRule, level, IsNameWord, IsFormula, IsItem, IsRule}
use Rattle.mcs_base.specs.Words.{is_word, is_reserved, most_name_bytes}
use Rattle.mcs_base.proofs.Each.{all_map, all_weaker, all_append}
use Rattle.mcs_system.specs.Faults.{is_unjustified}
use Rattle.mcs_system.specs.Naming.{IsName, AreNames, IsNamedFormula, IsNamedDefault, IsNamedItem, IsNamedRule}
use Rattle.mcs_base.proofs.Among.{map_back}
use Rattle.mcs_grammar.specs.Entries.{formula_in}
use Rattle.mcs_grammar.specs.Saying.{item_in, positive_atoms, negative_atoms, rule_in}

-- ---- formulas
abbrev pub primary_written : Formula → Written
primary_written Truth = True'
primary_written Falsity = False'
primary_written (Atom n) = Named n
primary_written (Not f) = Prefixed Denial (primary_written f)
primary_written (Joined c f g) = Grouped (Joins c (primary_written f) (primary_written g))

abbrev pub formula_written : Formula → Written
formula_written (Joined c f g) = Joins c (primary_written f) (primary_written g)
formula_written f = primary_written f

-- ---- items
-- a default has a justification
abbrev pub with_justs : Default → List Formula → WrittenItem
with_justs d [] = Fact (formula_written d.pre)
with_justs d (j ∷ js) = Rule (record { pre = formula_written d.pre; first_just = formula_written j; justs = map formula_written js; conclusion = formula_written d.conclusion })

abbrev pub item_written : Item → WrittenItem
item_written (plain.Fact f) = Fact (formula_written f)
item_written (plain.Rule d) = with_justs d d.justs

abbrev pub literal_written : Bool → Name → WrittenLiteral
literal_written denied n = record { denied = denied; atom = n }

abbrev pub body_written : List Name → List Name → List WrittenLiteral
body_written pos neg = map (literal_written false) pos ++ map (literal_written true) neg

abbrev pub has_sign : List Name → List WrittenLiteral → Bool
has_sign [] body = true
has_sign (n ∷ ns) [] = false
has_sign (n ∷ ns) (l ∷ ls) = true

abbrev pub rule_written : ProgramRule → WrittenRule
rule_written r = record { head = r.head; has_sign = has_sign r.head (body_written r.pos r.neg); body = body_written r.pos r.neg }

-- ---- names and formulas
pub name-word : (n : Name) → IsName n → IsNameWord n
name-word n h = at (is_word n) (is_reserved n) (nat_le (length n) most_name_bytes) h
  where
    at : (a b c : Bool) → IsTrue (a && (not b && c)) → IsTrue (a && not b)
    at true false c h' = refl
    at true true c h' = h'
    at false b c h' = h'

pub primary-level : (f : Formula) → level (primary_written f) ≡ 0
primary-level Truth = refl
primary-level Falsity = refl
primary-level (Atom n) = refl
primary-level (Not f) = refl
primary-level (Joined c f g) = refl

-- two primaries with a sign between them
sides : (c : Connective) (p q : Written) → level p ≡ 0 → level q ≡ 0 → IsFormula p → IsFormula q → IsFormula (Joins c p q)
sides c p q l l' h h' = ((h.0, omega (arith, l), h'.0, omega (arith, l')), (h.1, h'.1))

pub primary-right : (f : Formula) → IsNamedFormula f → IsFormula (primary_written f)
primary-right Truth h = (tt, tt)
primary-right Falsity h = (tt, tt)
primary-right (Atom n) h = (tt, name-word n h)
primary-right (Not f) h = let r = primary-right f h in ((r.0, primary-level f), r.1)
primary-right (Joined c f g) h = sides c (primary_written f) (primary_written g) (primary-level f) (primary-level g) (primary-right f h.0) (primary-right g h.1)

-- what has two parts differs from its primary by parentheses alone
pub formula-right : (f : Formula) → IsNamedFormula f → IsFormula (formula_written f)
formula-right (Joined c f g) h = primary-right (Joined c f g) h
formula-right f h = primary-right f h

-- ---- items
justs-right : (d : Default) (js : List Formula) → IsNamedDefault d → AllByRecursion IsNamedFormula js → IsItem (with_justs d js)
justs-right d [] h k = formula-right d.pre h.pre
justs-right d (j ∷ js) h k = (formula-right d.pre h.pre, (formula-right j k.0, all_map formula_written IsNamedFormula IsFormula formula-right js k.1), formula-right d.conclusion h.conclusion)

pub item-right : (i : Item) → IsNamedItem i → IsItem (item_written i)
item-right (plain.Fact f) h = formula-right f h
item-right (plain.Rule d) h = justs-right d d.justs h h.justs

body-right : (pos neg : List Name) → AreNames pos → AreNames neg → AllByRecursion (λ (l : WrittenLiteral). IsNameWord l.atom) (body_written pos neg)
body-right pos neg h k = all_append (λ (l : WrittenLiteral). IsNameWord l.atom) (map (literal_written false) pos) (map (literal_written true) neg)
    (all_map (literal_written false) IsName (λ (l : WrittenLiteral). IsNameWord l.atom) name-word pos h)
    (all_map (literal_written true) IsName (λ (l : WrittenLiteral). IsNameWord l.atom) name-word neg k)

head-or-sign : (head : List Name) (body : List WrittenLiteral) → head ≡ [] → has_sign head body ≡ true
head-or-sign [] body e = refl
head-or-sign (n ∷ ns) body e = absurd (let no : n ∷ ns ≡ [] = e in cc)

body-after-sign : (head : List Name) (body : List WrittenLiteral) → has_sign head body ≡ false → body ≡ []
body-after-sign [] body e = absurd (true≢false e)
body-after-sign (n ∷ ns) [] e = refl
body-after-sign (n ∷ ns) (l ∷ ls) e = absurd (true≢false e)

pub rule-right : (r : ProgramRule) → IsNamedRule r → IsRule (rule_written r)
rule-right r h = record {
  head_names = all_weaker IsName IsNameWord name-word r.head h.head;
  body_names = body-right r.pos r.neg h.pos h.neg;
  head_or_sign = head-or-sign r.head (body_written r.pos r.neg);
  body_after_sign = body-after-sign r.head (body_written r.pos r.neg);
}

-- ---- what formulas say
pub primary-said : (f : Formula) → formula_in (primary_written f) ≡ f
primary-said Truth = refl
primary-said Falsity = refl
primary-said (Atom n) = refl
primary-said (Not f) = ap (λ a. Not a) (primary-said f)
primary-said (Joined c f g) = ap₂ (λ a b. Joined c a b) (primary-said f) (primary-said g)

pub formula-said : (f : Formula) → formula_in (formula_written f) ≡ f
formula-said (Joined c f g) = primary-said (Joined c f g)
formula-said f = primary-said f

formulas-said : (fs : List Formula) → map formula_in (map formula_written fs) ≡ fs
formulas-said fs = map_back formula_written formula_in fs (λ x _. formula-said x)

-- ---- what items say
default : Formula → List Formula → Formula → Item
default pre justs conclusion = plain.Rule (record { pre = pre; justs = justs; conclusion = conclusion })

justs-said : (d : Default) (js : List Formula) → nat_eq (length js) 0 ≡ false → item_in (with_justs d js) ≡ default d.pre js d.conclusion
unfolding default
justs-said d [] some = absurd (true≢false some)
justs-said d (j ∷ js) some =
    ap (λ p. default p (formula_in (formula_written j) ∷ map formula_in (map formula_written js)) (formula_in (formula_written d.conclusion))) (formula-said d.pre)
    ∙ ap (λ l. default d.pre l (formula_in (formula_written d.conclusion))) (formulas-said (j ∷ js)) ∙ ap (λ c. default d.pre (j ∷ js) c) (formula-said d.conclusion)

pub item-said : (i : Item) → is_unjustified i ≡ false → item_in (item_written i) ≡ i
unfolding default
item-said (plain.Fact f) h = ap (λ g. plain.Fact g) (formula-said f)
item-said (plain.Rule d) h = justs-said d d.justs h

positive-said : (pos neg : List Name) → positive_atoms (body_written pos neg) ≡ pos
positive-said [] [] = refl
positive-said [] (n ∷ ns) = positive-said [] ns
positive-said (p ∷ ps) neg = ap (λ l. p ∷ l) (positive-said ps neg)

negative-said : (pos neg : List Name) → negative_atoms (body_written pos neg) ≡ neg
negative-said [] [] = refl
negative-said [] (n ∷ ns) = ap (λ l. n ∷ l) (negative-said [] ns)
negative-said (p ∷ ps) neg = negative-said ps neg

pub rule-said : (r : ProgramRule) → rule_in (rule_written r) ≡ r
rule-said r = ap₂ (λ (pos neg : List Name). (let said : ProgramRule = record { head = r.head; pos = pos; neg = neg } in said)) (positive-said r.pos r.neg) (negative-said r.pos r.neg)
