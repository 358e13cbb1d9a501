-- Each text of the grammar is one that is written, production by production.
use Rattle.std.proofs.Common.{◌≡◌, ℕ, ◌≤◌, List, [], ◌∷◌, ◌++◌, map, Option, Some, None, inl, inr, ◌⊎◌, refl, sym, ap, ◌∙◌, arith, append_assoc, Bool, true, false, cond, codes}
use Rattle.std.specs.Str.{bytes_eq}
use Rattle.std.proofs.lemmas.Bool.{false_from_ne_true}
use Rattle.std.proofs.lemmas.Slice.Eq.{bytes_eq-Decides}
use Rattle.mcs_syntax.specs.Grammar.{Take, Then, Or}
use Rattle.mcs_grammar.specs.Entries.{Token}
use Rattle.std.proofs.lemmas.List.{append-nil}
use Rattle.std.specs.List.{flat_map, AllByRecursion}
use Rattle.mcs_grammar.specs.Written.{Denial, True', False', Named, Prefixed, Grouped, Joins, IsFormula, WrittenRead, IsPlace, Fact, Rule, IsItem, WrittenLiteral, IsRule, OfKind, IsContext, WrittenBridge, IsWrittenBridge, IsWeight, no_marks, IsNameWord}
use Rattle.mcs_productions.specs.Productions.{rules}
use Rattle.mcs_productions.specs.declared.production.Production.{Production}
use Rattle.mcs_productions.specs.declared.production.Production.TheVariants as name
use Rattle.mcs_account.specs.Marks.{Marked, Fill, bytes_for, formula_marks, belief_marks, further_marks, read_marks, Filled, after_marks, further_head_marks, further_literal_marks, literal_marks, sign_marks, item_marks, rule_marks, ended_marks, context_marks, bridge_marks, word_marks, weight_marks, tail_marks, version_marks}
use Rattle.mcs_account.proofs.Trees.{Tree, flat, if_some}
use Rattle.mcs_account.proofs.Values.{UpTo, Value, value_marks, ReadValue, LiteralValue}
use Rattle.mcs_productions.specs.declared.class.Class.TheVariants as class
use Rattle.mcs_account.specs.Mark.{Seen, events_of}
use Rattle.mcs_system.specs.Plain.{Name, Conjunction, Disjunction, Implication, Equivalence, ClassicalKind, DefaultKind, ProgramKind}
use Rattle.mcs_productions.specs.declared.class.Class.{Class}
use Rattle.mcs_account.proofs.TreeLemmas.{AreMade, tree-of}
use Rattle.mcs_account.proofs.Forward.{Part, Of}

-- what the parts of the production say
abbrev pub Parts : Production → Type 0
Parts n = Tree Fill bytes_for Value value_marks (rules n)

abbrev pub written_parts : (n : Production) → Parts n → Marked
written_parts n t = flat Fill bytes_for Value value_marks (rules n) t

-- the parts of the production make one of its values, which is written as they are
abbrev pub Makes : Production → Type 0
Makes n = (t : Parts n) → (v : Value n) × (value_marks n v ≡ written_parts n t)

abbrev higher : (j k : ℕ) → j ≤ k → UpTo j → UpTo k
higher j k h v = let below = v.2 in (v.0, v.1, omega arith)

pub primary-made : Makes name.Primary
primary-made (inl t) = let v = t.1.0 in ((Prefixed Denial v.0, ((v.1.0, v.2), v.1.1), refl), refl)
primary-made (inr (inl t)) = let v = t.1.0 in ((Grouped v.0, (v.1.0, v.1.1), refl), refl)
primary-made (inr (inr (inl x))) = ((True', (tt, tt), refl), refl)
primary-made (inr (inr (inr (inl x)))) = ((False', (tt, tt), refl), refl)
primary-made (inr (inr (inr (inr x)))) = ((Named x.0, (tt, x.1), refl), refl)

-- a sign that groups to the left: a first formula, and any number of further ones
left-grouped : {E : Type 0} (k : ℕ) (step : E → Marked) → ((v : UpTo k) (x : E) → (w : UpTo k) × (formula_marks w.0 ≡ formula_marks v.0 ++ step x)) → (v : UpTo k) (xs : List E)
    → (w : UpTo k) × (formula_marks w.0 ≡ formula_marks v.0 ++ flat_map step xs)
left-grouped k step more v [] = (v, sym (append-nil (formula_marks v.0)))
left-grouped k step more v (x ∷ xs) =
    let one = more v x in
    let all = left-grouped k step more one.0 xs in
    (all.0, all.1 ∙ ap (λ (ms : Marked). ms ++ flat_map step xs) one.1 ∙ append_assoc (formula_marks v.0) (step x) (flat_map step xs))

pub conjunction-made : Makes name.Conjunction
conjunction-made t = left-grouped 1 _ (λ v x. let w = x.1.0 in ((Joins Conjunction v.0 w.0, ((v.1.0, v.2, w.1.0, (let e = w.2 in omega arith)), (v.1.1, w.1.1)), omega arith), refl)) (t.0.0, t.0.1, (let e = t.0.2 in omega arith)) t.1

pub disjunction-made : Makes name.Disjunction
disjunction-made t = left-grouped 2 _ (λ v x. let w = x.1.0 in ((Joins Disjunction v.0 w.0, ((v.1.0, v.2, w.1.0, w.2), (v.1.1, w.1.1)), omega arith), refl)) (higher 1 2 (omega arith) t.0) t.1

pub implication-made : Makes name.Implication
implication-made t = at t.1
  where
    at : (o : Option _) → (v : UpTo 3) × (formula_marks v.0 ≡ written_parts name.Implication (t.0, o))
    at None = (higher 2 3 (omega arith) t.0, sym (append-nil (formula_marks t.0.0)))
    at (Some x) = let w = x.1.0 in ((Joins Implication t.0.0 w.0, ((t.0.1.0, t.0.2, w.1.0, w.2), (t.0.1.1, w.1.1)), omega arith), refl)

pub equivalence-made : Makes name.Formula
equivalence-made t = at t.1
  where
    at : (o : Option _) → (v : UpTo 4) × (formula_marks v.0 ≡ written_parts name.Formula (t.0, o))
    at None = (higher 3 4 (omega arith) t.0, sym (append-nil (formula_marks t.0.0)))
    at (Some x) = let w = x.1.0 in ((Joins Equivalence t.0.0 w.0, ((t.0.1.0, t.0.2, w.1.0, w.2), (t.0.1.1, w.1.1)), omega arith), refl)

-- ---- any number of parts
-- values that parts have, and how they are written
pub listed : {E W : Type 0} (P : W → Type 0) (value : (x : E) → (w : W) × P w) (f : W → Marked) (xs : List E) → AllByRecursion P (map (λ x. (value x).0) xs) × (flat_map f (map (λ x. (value x).0) xs) ≡ flat_map (λ x. f (value x).0) xs)
listed P value f [] = (tt, refl)
listed P value f (x ∷ xs) = let more = listed P value f xs in (((value x).1, more.0), ap (λ (ms : Marked). f (value x).0 ++ ms) more.1)

pub place-made : Makes name.Place
place-made t = (t.1, refl)

pub read-made : Makes name.Read
read-made t = at t.0
  where
    at : (o : Option _) → (v : ReadValue) × (read_marks v.0 ≡ written_parts name.Read (o, t.1))
    at None = let x = t.1.0 in let v = t.1.1.0 in ((record { denied = false; place = record { context = x.0; belief = v.0 } }, (x.1, v.1, v.2)), refl)
    at (Some y) = let x = t.1.0 in let v = t.1.1.0 in ((record { denied = true; place = record { context = x.0; belief = v.0 } }, (x.1, v.1, v.2)), refl)

pub tail-made : Makes name.BridgeTail
tail-made t = at t.1.1.1.0
  where
    at : (o : Option _) → (v : Value name.BridgeTail) × (value_marks name.BridgeTail v ≡ written_parts name.BridgeTail (t.0, (t.1.0, (t.1.1.0, (o, t.1.1.1.1)))))
    at None = let x = t.1.0 in let p = t.1.1.0 in ((record { context = x.0; belief = p.0 }, [], (x.1, p.1, p.2), tt), refl)
    at (Some reads) =
        let x = t.1.0 in
        let p = t.1.1.0 in
        let r = reads.1.0 in
        let rs = listed (λ (q : WrittenRead). IsPlace q.place) (λ y. y.1) further_marks reads.1.1 in
        ((record { context = x.0; belief = p.0 }, r.0 ∷ map (λ y. (y.1).0) reads.1.1, (x.1, p.1, p.2), (r.1, rs.0)), ap (λ (ms : Marked). Seen class.EndsBridgeName (codes ":") ∷ Seen class.NamesTarget x.0 ∷ (belief_marks p.0 ++ ((Seen class.BeginsReads (codes "if") ∷ (read_marks r.0 ++ ms)) ++ Seen class.EndsBridge (codes ".") ∷ []))) rs.1)

pub bridge-made : Makes name.Bridge
bridge-made t = let y = t.1.0 in let v = t.1.1 in ((record { name = y.0; marks = no_marks; head = v.0; reads = v.1 }, (y.1, v.2, v.3, tt), refl), refl)

-- a word that may stand there
word-made : (c : Class) (word : Token) (o : Option (Unit {0})) → (b : Bool) × (word_marks c word b ≡ if_some (λ x. Seen c word ∷ []) o)
word-made c word None = (false, refl)
word-made c word (Some x) = (true, refl)

abbrev weight_part : Part
weight_part = Then (Take class.BeginsWeight) (Or (Take class.Weighs) (Take class.WeighsTwo))

weight-made : (o : Option (Tree Fill bytes_for Value value_marks weight_part)) → (w : Option Token) × IsWeight w × (weight_marks w ≡ if_some (flat Fill bytes_for Value value_marks weight_part) o)
weight-made None = (None, tt, refl)
weight-made (Some (u, inl x)) =
    let other : bytes_eq x.0 (codes "2") ≡ false = false_from_ne_true (bytes_eq x.0 (codes "2")) (λ e. x.3 ((bytes_eq-Decides x.0 (codes "2")).0 e)) in
    (Some x.0, (x.1, x.2), ap (λ (b : Bool). Seen class.BeginsWeight (codes "weight") ∷ Seen (cond b class.WeighsTwo class.Weighs) x.0 ∷ []) other)
weight-made (Some (u, inr x)) = (Some (codes "2"), (refl, λ e. absurd (omega (arith, e))), refl)

marked-made : Makes name.MarkedBridge
marked-made t =
    let y = t.1.0 in
    let k = word-made class.Keeps (codes "keep") t.1.1.0 in
    let c = word-made class.Closes (codes "closed") t.1.1.1.0 in
    let w = weight-made t.1.1.1.1.0 in
    let v = t.1.1.1.1.1 in (
      (record { name = y.0; marks = record { keep = k.0; closed = c.0; weight = w.0 }; head = v.0; reads = v.1 }, (y.1, v.2, v.3, w.1)),
      ap (λ (ms : Marked). Seen class.BeginsBridge (codes "bridge") ∷ Seen class.NamesBridge y.0 ∷ (ms ++ (word_marks class.Closes (codes "closed") c.0 ++ (weight_marks w.0 ++ tail_marks v.0 v.1)))) k.1
          ∙ ap (λ (ms : Marked). Seen class.BeginsBridge (codes "bridge") ∷ Seen class.NamesBridge y.0 ∷ (if_some (λ x. Seen class.Keeps (codes "keep") ∷ []) t.1.1.0 ++ (ms ++ (weight_marks w.0 ++ tail_marks v.0 v.1)))) c.1
          ∙ ap (λ (ms : Marked). Seen class.BeginsBridge (codes "bridge") ∷ Seen class.NamesBridge y.0 ∷ (if_some (λ x. Seen class.Keeps (codes "keep") ∷ []) t.1.1.0 ++ (if_some (λ x. Seen class.Closes (codes "closed") ∷ []) t.1.1.1.0 ++ (ms ++ tail_marks v.0 v.1)))) w.2,
    )

item-made : Makes name.Item
item-made t = at t.1
  where
    at : (o : Option _) → (v : Value name.Item) × (item_marks v.0 ≡ written_parts name.Item (t.0, o))
    at None = let f = t.0 in ((Fact f.0, f.1), sym (append-nil (formula_marks f.0)))
    at (Some d) =
        let f = t.0 in
        let j = d.1.0 in
        let js = listed IsFormula (λ y. ((y.1).0, (y.1).1)) (after_marks class.SeparatesJustifications (codes ",")) d.1.1.0 in
        let c = d.1.1.1.1 in (
          (Rule (record { pre = f.0; first_just = j.0; justs = map (λ y. (y.1).0) d.1.1.0; conclusion = c.0 }), (f.1, (j.1, js.0), c.1)),
          ap (λ (ms : Marked). formula_marks f.0 ++ Seen class.BeginsDefault (codes ":") ∷ (formula_marks j.0 ++ (ms ++ after_marks class.BeginsConclusion (codes "/") c.0))) js.1,
        )

literal-made : Makes name.Literal
literal-made t = at t.0
  where
    at : (o : Option _) → (v : LiteralValue) × (literal_marks v.0 ≡ written_parts name.Literal (o, t.1))
    at None = let x = t.1 in ((record { denied = false; atom = x.0 }, x.1), refl)
    at (Some y) = let x = t.1 in ((record { denied = true; atom = x.0 }, x.1), refl)

body-made : Makes name.Body
body-made t = at t.1
  where
    at : (o : Option _) → (v : Value name.Body) × (value_marks name.Body v ≡ written_parts name.Body (t.0, o))
    at None = (([], tt), refl)
    at (Some ls) =
        let l = ls.0 in
        let more = listed (λ (q : WrittenLiteral). IsNameWord q.atom) (λ y. y.1) further_literal_marks ls.1 in
        ((l.0 ∷ map (λ y. (y.1).0) ls.1, (l.1, more.0)), ap (λ (ms : Marked). Seen class.BeginsBody (codes ":-") ∷ (literal_marks l.0 ++ ms)) more.1)

some-is-none : (n : Name) (ns : List Name) → n ∷ ns ≡ [] → ⊥
some-is-none n ns e = cc

true-is-false : true ≡ false → ⊥
true-is-false e = cc

rule-made : Makes name.ProgramRule
rule-made (inr b) = ((record { head = []; has_sign = true; body = b.0 }, record { head_names = tt; body_names = b.1; head_or_sign = λ e. refl; body_after_sign = λ e. absurd (true-is-false e) }), refl)
rule-made (inl t) = at t.1.1
  where
    at : (o : Option _) → (v : Value name.ProgramRule) × (rule_marks v.0 ≡ written_parts name.ProgramRule (inl (t.0, (t.1.0, o))))
    at None =
        let a = t.0 in
        let more = listed IsNameWord (λ y. y.1) further_head_marks t.1.0 in
        let names : List Name = a.0 ∷ map (λ y. (y.1).0) t.1.0 in (
          (record { head = names; has_sign = false; body = [] }, record { head_names = (a.1, more.0); body_names = tt; head_or_sign = λ e. absurd (some-is-none _ _ e); body_after_sign = λ e. refl }),
          ap (λ (ms : Marked). Seen class.IsHeadAtom a.0 ∷ (ms ++ [])) more.1,
        )
    at (Some b) =
        let a = t.0 in
        let more = listed IsNameWord (λ y. y.1) further_head_marks t.1.0 in
        let names : List Name = a.0 ∷ map (λ y. (y.1).0) t.1.0 in (
          (record { head = names; has_sign = true; body = b.0 }, record { head_names = (a.1, more.0); body_names = b.1; head_or_sign = λ e. refl; body_after_sign = λ e. absurd (true-is-false e) }),
          ap (λ (ms : Marked). Seen class.IsHeadAtom a.0 ∷ (ms ++ sign_marks true b.0)) more.1,
        )

-- a context of a kind, from the brace on
items-part : (n : Name) (c : Class) (ms ns : Marked) (word : List _) → ms ≡ ns → Seen class.BeginsContext (codes "context") ∷ Seen class.NamesContext n ∷ Seen c word ∷ Seen class.OpensItems (codes "{") ∷ (ms ++ Seen class.ClosesItems (codes "}") ∷ [])
    ≡ Seen class.BeginsContext (codes "context") ∷ Seen class.NamesContext n ∷ Seen c word ∷ Seen class.OpensItems (codes "{") ∷ (ns ++ Seen class.ClosesItems (codes "}") ∷ [])
items-part n c ms ns word e = ap (λ (l : Marked). Seen class.BeginsContext (codes "context") ∷ Seen class.NamesContext n ∷ Seen c word ∷ Seen class.OpensItems (codes "{") ∷ (l ++ Seen class.ClosesItems (codes "}") ∷ [])) e

context-made : Makes name.Context
context-made t = at t.1.1
  where
    at : (o : _ ⊎ _) → (v : Value name.Context) × (context_marks v.0 ≡ written_parts name.Context (t.0, (t.1.0, o)))
    at (inl k) =
        let n = t.1.0 in
        let fs = listed IsFormula (λ y. ((y.0).0, (y.0).1)) (λ f. ended_marks (formula_marks f)) k.1.1.0 in
        ((record { name = n.0; kb = OfKind ClassicalKind (map (λ y. (y.0).0) k.1.1.0) }, (n.1, fs.0)), items-part n.0 class.SaysClassical _ _ (codes "classical") fs.1)
    at (inr (inl k)) =
        let n = t.1.0 in
        let is = listed IsItem (λ y. y.0) (λ i. ended_marks (item_marks i)) k.1.1.0 in
        ((record { name = n.0; kb = OfKind DefaultKind (map (λ y. (y.0).0) k.1.1.0) }, (n.1, is.0)), items-part n.0 class.SaysDefault _ _ (codes "default") is.1)
    at (inr (inr k)) =
        let n = t.1.0 in
        let rs = listed IsRule (λ y. y.0) (λ r. ended_marks (rule_marks r)) k.1.1.0 in
        ((record { name = n.0; kb = OfKind ProgramKind (map (λ y. (y.0).0) k.1.1.0) }, (n.1, rs.0)), items-part n.0 class.SaysProgram _ _ (codes "program") rs.1)

-- the contexts and the rules
all-parts : {B : Type 0} (v : Marked) (xs : List (Value name.Context)) (ys : List B) (bridge : B → WrittenBridge) → flat_map context_marks (map (λ x. x.0) xs) ≡ flat_map (λ x. context_marks x.0) xs
    → flat_map bridge_marks (map bridge ys) ≡ flat_map (λ y. bridge_marks (bridge y)) ys
    → v ++ (flat_map context_marks (map (λ x. x.0) xs) ++ flat_map bridge_marks (map bridge ys)) ≡ v ++ (flat_map (λ x. context_marks x.0) xs ++ flat_map (λ y. bridge_marks (bridge y)) ys)
all-parts v xs ys bridge cs bs = ap (λ (ms : Marked). v ++ (ms ++ flat_map bridge_marks (map bridge ys))) cs ∙ ap (λ (ms : Marked). v ++ (flat_map (λ x. context_marks x.0) xs ++ ms)) bs

text-made : Makes name.Text
text-made (inl t) =
    let xs = t.1.1.1.0 in
    let ys = t.1.1.1.1 in
    let cs = listed IsContext (λ v. v) context_marks xs in
    let bs = listed IsWrittenBridge (λ v. v) bridge_marks ys in (
      (record { has_version = true; contexts = map (λ v. v.0) xs; bridges = map (λ v. v.0) ys }, (cs.0, bs.0, λ e. absurd (true-is-false e))),
      all-parts (version_marks true) xs ys (λ v. v.0) cs.1 bs.1,
    )
text-made (inr t) =
    let cs = listed IsContext (λ v. v) context_marks t.0 in
    let bs = listed IsWrittenBridge (λ v. (v.0, v.1)) bridge_marks t.1 in
    let none = listed (λ (b : WrittenBridge). b.marks ≡ no_marks) (λ v. (v.0, v.2)) bridge_marks t.1 in (
      (record { has_version = false; contexts = map (λ v. v.0) t.0; bridges = map (λ v. v.0) t.1 }, (cs.0, bs.0, λ e. none.0)),
      all-parts [] t.0 t.1 (λ v. v.0) cs.1 bs.1,
    )

made : AreMade rules Fill bytes_for Value value_marks
made name.Text t = text-made t
made name.Context t = context-made t
made name.Item t = item-made t
made name.ProgramRule t = rule-made t
made name.Body t = body-made t
made name.Literal t = literal-made t
made name.Bridge t = bridge-made t
made name.MarkedBridge t = marked-made t
made name.BridgeTail t = tail-made t
made name.Read t = read-made t
made name.Place t = place-made t
made name.Formula t = equivalence-made t
made name.Implication t = implication-made t
made name.Disjunction t = disjunction-made t
made name.Conjunction t = conjunction-made t
made name.Primary t = primary-made t

-- each text of a production is one of its values, as it is written
pub written-back : (n : Production) (ms : Marked) → Of (rules n) ms → Filled ms → (v : Value n) × (value_marks n v ≡ ms)
written-back n ms m filled =
    let t = tree-of rules Fill bytes_for Value value_marks made (rules n) (events_of ms) m ms refl filled in
    let v = made n t.0 in
    (v.0, v.1 ∙ t.1)
