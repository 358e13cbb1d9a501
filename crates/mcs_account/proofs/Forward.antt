-- What is written is a text of the grammar.
use Rattle.std.proofs.Common.{◌≡◌, ◌≤◌, Bool, true, false, cond, codes, Option, Some, None, List, [], ◌∷◌, ◌++◌, refl, sym, subst, arith, append_assoc}
use Rattle.std.proofs.lemmas.List.{append-nil, map-append}
use Rattle.std.specs.List.{flat_map, AllByRecursion}
use Rattle.std.specs.Str.{bytes_eq}
use Rattle.mcs_base.proofs.Each.{all_both}
use Rattle.mcs_syntax.specs.Grammar.{Expr, Take, Say, Rule, Then, Or, Maybe, Many, Means, takes, says, by_rule, both, left, right, without, with_it, no_more, one_more}
use Rattle.mcs_syntax.specs.declared.part.Event.{Event}
use Rattle.mcs_syntax.specs.declared.part.Event.TheVariants.{Took}
use Rattle.mcs_account.specs.Mark.{Seen, Said, event_of, events_of}
use Rattle.mcs_grammar.specs.Entries.{Token}
use Rattle.mcs_grammar.specs.Written.{Written, Denial, True', False', Named, Prefixed, Grouped, Joins, level, IsGrouped, WrittenPlace, WrittenRead, WrittenMarks, WrittenBridge, no_marks, IsPlace, IsWrittenBridge, IsFormula, WrittenItem, Fact, IsItem, WrittenLiteral, WrittenRule, IsRule, WrittenKb, OfKind, IsKb, WrittenContext, IsContext, WrittenText, IsText, IsNameWord}
use Rattle.mcs_productions.specs.Productions.{rules}
use Rattle.mcs_productions.specs.declared.class.Class.{Class}
use Rattle.mcs_productions.specs.declared.class.Class.TheVariants as class
use Rattle.mcs_productions.specs.declared.production.Action.{Action}
use Rattle.mcs_productions.specs.declared.production.Action.TheVariants as action
use Rattle.mcs_productions.specs.declared.production.Production.{Production}
use Rattle.mcs_productions.specs.declared.production.Production.TheVariants as name
use Rattle.mcs_account.specs.Marks.{Marked, formula_marks, belief_marks, denial_marks, read_marks, further_marks, reads_marks, tail_marks, word_marks, weight_class, weight_marks, own_marks, bridge_marks, version_marks, after_marks, item_marks, further_head_marks, literal_denial, literal_marks, further_literal_marks, literals_marks, sign_marks, rule_marks, ended_marks, items_marks, kb_marks, context_marks, text_marks}
use Rattle.mcs_system.specs.Plain.{Name, Connective, Conjunction, Disjunction, Implication, Equivalence, ClassicalKind, DefaultKind, ProgramKind}
use Rattle.mcs_grammar.specs.Written as written
use Rattle.mcs_account.proofs.Signs.{joined-high}

abbrev pub Part : Type 0
Part = Expr Class Action Production

abbrev pub Of : Part → Marked → Type 0
Of e ms = Means Class Action Production rules e (events_of ms)

pub events-append : (ms ns : Marked) → events_of (ms ++ ns) ≡ events_of ms ++ events_of ns
events-append ms ns = map-append event_of ms ns

pub pair-of : (e f : Part) (ms ns : Marked) → Of e ms → Of f ns → Of (Then e f) (ms ++ ns)
pair-of e f ms ns h k = subst (Means Class Action Production rules (Then e f)) (sym (events-append ms ns)) (both e f (events_of ms) (events_of ns) h k)

more-of : (e : Part) (ms ns : Marked) → Of e ms → Of (Many e) ns → Of (Many e) (ms ++ ns)
more-of e ms ns h k = subst (Means Class Action Production rules (Many e)) (sym (events-append ms ns)) (one_more e (events_of ms) (events_of ns) h k)

-- any number of parts
pub many-of : {W : Type 0} (e : Part) (P : W → Type 0) (f : W → Marked) → ((w : W) → P w → Of e (f w)) → (ws : List W) → AllByRecursion P ws → Of (Many e) (flat_map f ws)
many-of e P f one [] h = no_more _
many-of e P f one (w ∷ ws) h = more-of e (f w) (flat_map f ws) (one w h.0) (many-of e P f one ws h.1)

-- one more at the end
last-of : (e : Part) (xs ys : List (Event Class Action)) → Means Class Action Production rules (Many e) xs → Means Class Action Production rules e ys → Means Class Action Production rules (Many e) (xs ++ ys)
last-of e xs ys (no_more a) k = subst (Means Class Action Production rules (Many a)) (append-nil ys) (one_more a ys [] k (no_more a))
last-of e xs ys (one_more a us vs m n) k = subst (Means Class Action Production rules (Many a)) (sym (append_assoc us vs ys)) (one_more a us (vs ++ ys) m (last-of a vs ys n k))

pub first-of : (c : Class) (t : Token) (f : Part) (ms : Marked) → Of f ms → Of (Then (Take c) f) (Seen c t ∷ ms)
first-of c t f ms k = both (Take c) f (Took c ∷ []) (events_of ms) (takes c) k

pub inside-rule : (n : Production) (xs : List (Event Class Action)) → Means Class Action Production rules (Rule n) xs → Means Class Action Production rules (rules n) xs
inside-rule n xs (by_rule k ys m) = m

-- a production that goes on with any number of further parts has one more
grown : (e step : Part) (ms ns : Marked) → Of (Then e (Many step)) ms → Of step ns → Of (Then e (Many step)) (ms ++ ns)
grown e step ms ns h k = subst (Means Class Action Production rules (Then e (Many step))) (sym (events-append ms ns)) (at (events_of ms) h)
  where
    at : (xs : List (Event Class Action)) → Means Class Action Production rules (Then e (Many step)) xs → Means Class Action Production rules (Then e (Many step)) (xs ++ events_of ns)
    at xs (both a b us vs m n) = subst (Means Class Action Production rules (Then e (Many step))) (sym (append_assoc us vs (events_of ns))) (both e (Many step) us (vs ++ events_of ns) m (last-of step vs (events_of ns) n k))

-- ---- formulas
joint_production : Connective → Production
joint_production Conjunction = name.Conjunction
joint_production Disjunction = name.Disjunction
joint_production Implication = name.Implication
joint_production Equivalence = name.Formula

own : Written → Production
own (Joins j f g) = joint_production j
own f = name.Primary

as-conjunction' : (ms : Marked) → Of (Rule name.Primary) ms → Of (Rule name.Conjunction) ms
as-conjunction' ms h = by_rule name.Conjunction _ (subst (Means Class Action Production rules (rules name.Conjunction)) (append-nil (events_of ms)) (both _ _ (events_of ms) [] h (no_more _)))

as-disjunction' : (ms : Marked) → Of (Rule name.Conjunction) ms → Of (Rule name.Disjunction) ms
as-disjunction' ms h = by_rule name.Disjunction _ (subst (Means Class Action Production rules (rules name.Disjunction)) (append-nil (events_of ms)) (both _ _ (events_of ms) [] h (no_more _)))

as-implication' : (ms : Marked) → Of (Rule name.Disjunction) ms → Of (Rule name.Implication) ms
as-implication' ms h = by_rule name.Implication _ (subst (Means Class Action Production rules (rules name.Implication)) (append-nil (events_of ms)) (both _ _ (events_of ms) [] h (without _)))

as-formula' : (ms : Marked) → Of (Rule name.Implication) ms → Of (Rule name.Formula) ms
as-formula' ms h = by_rule name.Formula _ (subst (Means Class Action Production rules (rules name.Formula)) (append-nil (events_of ms)) (both _ _ (events_of ms) [] h (without _)))

as-primary : (f : Written) (ms : Marked) → level f ≡ 0 → Of (Rule (own f)) ms → Of (Rule name.Primary) ms
unfolding own joint_production
as-primary (Joins j f g) ms l h = absurd (joined-high j l)
as-primary f ms l h = h

as-conjunction : (f : Written) (ms : Marked) → level f ≤ 1 → Of (Rule (own f)) ms → Of (Rule name.Conjunction) ms
unfolding own joint_production
as-conjunction (Joins Conjunction f g) ms l h = h
as-conjunction (Joins Disjunction f g) ms l h = absurd (omega arith)
as-conjunction (Joins Implication f g) ms l h = absurd (omega arith)
as-conjunction (Joins Equivalence f g) ms l h = absurd (omega arith)
as-conjunction f ms l h = as-conjunction' ms h

as-disjunction : (f : Written) (ms : Marked) → level f ≤ 2 → Of (Rule (own f)) ms → Of (Rule name.Disjunction) ms
unfolding own joint_production
as-disjunction (Joins Disjunction f g) ms l h = h
as-disjunction (Joins Implication f g) ms l h = absurd (omega arith)
as-disjunction (Joins Equivalence f g) ms l h = absurd (omega arith)
as-disjunction f ms l h = as-disjunction' ms (as-conjunction f ms (omega arith) h)

as-implication : (f : Written) (ms : Marked) → level f ≤ 3 → Of (Rule (own f)) ms → Of (Rule name.Implication) ms
unfolding own joint_production
as-implication (Joins Implication f g) ms l h = h
as-implication (Joins Equivalence f g) ms l h = absurd (omega arith)
as-implication f ms l h = as-implication' ms (as-disjunction f ms (omega arith) h)

as-formula : (f : Written) (ms : Marked) → Of (Rule (own f)) ms → Of (Rule name.Formula) ms
unfolding own joint_production
as-formula (Joins Equivalence f g) ms h = h
as-formula f ms h = as-formula' ms (as-implication f ms (omega arith) h)

-- a sign, its right part and what is whole then
sign-of : (c : Class) (t : Token) (n : Production) (a : Action) (ms : Marked) → Of (Rule n) ms → Of (Then (Take c) (Then (Rule n) (Say a))) (Seen c t ∷ (ms ++ Said a ∷ []))
sign-of c t n a ms h = first-of c t (Then (Rule n) (Say a)) (ms ++ Said a ∷ []) (pair-of (Rule n) (Say a) ms (Said a ∷ []) h (says a))

lowest : (f : Written) → level f ≤ 0 → level f ≡ 0
lowest f low = omega arith

written-of : (f : Written) → IsGrouped f → Of (Rule (own f)) (formula_marks f)
unfolding own joint_production
written-of True' h = by_rule name.Primary _ (right _ _ _ (right _ _ _ (left _ _ _ (takes class.IsTrue))))
written-of False' h = by_rule name.Primary _ (right _ _ _ (right _ _ _ (right _ _ _ (left _ _ _ (takes class.IsFalse)))))
written-of (Named n) h = by_rule name.Primary _ (right _ _ _ (right _ _ _ (right _ _ _ (right _ _ _ (takes class.IsAtom)))))
written-of (Prefixed Denial f) h = by_rule name.Primary _ (left _ _ _ (sign-of class.Negates (codes "~") name.Primary action.ToNot (formula_marks f) (as-primary f (formula_marks f) h.1 (written-of f h.0))))
written-of (Grouped f) h =
    by_rule name.Primary _ (right _ _ _ (left _ _ _ (first-of class.OpensParenthesis (codes "(") _ _
    (pair-of (Rule name.Formula) (Take class.ClosesParenthesis) (formula_marks f) (Seen class.ClosesParenthesis (codes ")") ∷ []) (as-formula f (formula_marks f) (written-of f h)) (takes class.ClosesParenthesis)))))
written-of (Joins Conjunction f g) h =
    by_rule name.Conjunction _ (grown (Rule name.Primary) _ (formula_marks f) _ (inside-rule name.Conjunction _ (as-conjunction f (formula_marks f) h.1 (written-of f h.0)))
    (sign-of class.Conjoins (codes "&") name.Primary action.ToAnd (formula_marks g) (as-primary g (formula_marks g) (lowest g h.3) (written-of g h.2))))
written-of (Joins Disjunction f g) h =
    by_rule name.Disjunction _ (grown (Rule name.Conjunction) _ (formula_marks f) _ (inside-rule name.Disjunction _ (as-disjunction f (formula_marks f) h.1 (written-of f h.0)))
    (sign-of class.Disjoins (codes "|") name.Conjunction action.ToOr (formula_marks g) (as-conjunction g (formula_marks g) h.3 (written-of g h.2))))
written-of (Joins Implication f g) h =
    by_rule name.Implication _ (pair-of (Rule name.Disjunction) _ (formula_marks f) _ (as-disjunction f (formula_marks f) h.1 (written-of f h.0))
    (with_it _ _ (sign-of class.Implies (codes "->") name.Implication action.ToImplies (formula_marks g) (as-implication g (formula_marks g) h.3 (written-of g h.2)))))
written-of (Joins Equivalence f g) h =
    by_rule name.Formula _ (pair-of (Rule name.Implication) _ (formula_marks f) _ (as-implication f (formula_marks f) h.1 (written-of f h.0))
    (with_it _ _ (sign-of class.Equates (codes "<->") name.Formula action.ToIff (formula_marks g) (as-formula g (formula_marks g) (written-of g h.2)))))

pub formula-of : (f : Written) → IsGrouped f → Of (Rule name.Formula) (formula_marks f)
formula-of f h = as-formula f (formula_marks f) (written-of f h)

-- ---- bridge rules
belief-of : (p : WrittenPlace) → IsPlace p → Of (Rule name.Place) (belief_marks p.belief)
belief-of p h = by_rule name.Place _ (first-of class.BeginsBelief (codes ":") _ (formula_marks p.belief) (as-primary p.belief (formula_marks p.belief) h.2 (written-of p.belief h.1.0)))

denial-of : (denied : Bool) → Of (Maybe (Take class.DeniesRead)) (denial_marks denied)
denial-of true = with_it _ _ (takes class.DeniesRead)
denial-of false = without _

read-of : (r : WrittenRead) → IsPlace r.place → Of (Rule name.Read) (read_marks r)
read-of r h =
    by_rule name.Read _ (pair-of (Maybe (Take class.DeniesRead)) _ (denial_marks r.denied) _ (denial-of r.denied) (first-of class.NamesSource r.place.context _ (belief_marks r.place.belief ++ Said action.EndsRead ∷ [])
    (pair-of (Rule name.Place) (Say action.EndsRead) (belief_marks r.place.belief) (Said action.EndsRead ∷ []) (belief-of r.place h) (says action.EndsRead))))

abbrev ArePlaces : List WrittenRead → Type 0
ArePlaces rs = AllByRecursion (λ (r : WrittenRead). IsPlace r.place) rs

further-of : (r : WrittenRead) → IsPlace r.place → Of (Then (Take class.SeparatesReads) (Rule name.Read)) (further_marks r)
further-of r h = first-of class.SeparatesReads (codes ",") _ (read_marks r) (read-of r h)

reads-of : (rs : List WrittenRead) → ArePlaces rs → Of (Maybe (Then (Take class.BeginsReads) (Then (Rule name.Read) (Many (Then (Take class.SeparatesReads) (Rule name.Read)))))) (reads_marks rs)
reads-of [] h = without _
reads-of (r ∷ rs) h = with_it _ _ (first-of class.BeginsReads (codes "if") _ (read_marks r ++ flat_map further_marks rs) (pair-of (Rule name.Read) _ (read_marks r) (flat_map further_marks rs) (read-of r h.0) (many-of _ (λ (q : WrittenRead). IsPlace q.place) further_marks further-of rs h.1)))

tail-of : (head : WrittenPlace) (rs : List WrittenRead) → IsPlace head → ArePlaces rs → Of (Rule name.BridgeTail) (tail_marks head rs)
tail-of head rs h hs =
    let end : Marked = Seen class.EndsBridge (codes ".") ∷ [] in
    by_rule name.BridgeTail _ (first-of class.EndsBridgeName (codes ":") _ (Seen class.NamesTarget head.context ∷ (belief_marks head.belief ++ (reads_marks rs ++ end))) (first-of class.NamesTarget head.context _ (belief_marks head.belief ++ (reads_marks rs ++ end))
    (pair-of (Rule name.Place) _ (belief_marks head.belief) (reads_marks rs ++ end) (belief-of head h) (pair-of _ (Take class.EndsBridge) (reads_marks rs) end (reads-of rs hs) (takes class.EndsBridge)))))

abbrev IsUnmarked : WrittenBridge → Type 0
IsUnmarked b = IsWrittenBridge b × (b.marks ≡ no_marks)

bridge-of : (b : WrittenBridge) → IsUnmarked b → Of (Rule name.Bridge) (bridge_marks b)
bridge-of b h = subst (λ (m : WrittenMarks). Of (Rule name.Bridge) (Seen class.BeginsBridge (codes "bridge") ∷ Seen class.NamesBridge b.name ∷ own_marks m (tail_marks b.head b.reads))) (sym h.1)
    (by_rule name.Bridge _ (first-of class.BeginsBridge (codes "bridge") _ (Seen class.NamesBridge b.name ∷ tail_marks b.head b.reads) (first-of class.NamesBridge b.name _ (tail_marks b.head b.reads) (tail-of b.head b.reads h.0.1 h.0.2))))

word-of : (c : Class) (word : Token) (b : Bool) → Of (Maybe (Take c)) (word_marks c word b)
word-of c word true = with_it _ _ (takes c)
word-of c word false = without _

abbrev weight_part : Part
weight_part = Then (Take class.BeginsWeight) (Or (Take class.Weighs) (Take class.WeighsTwo))

weight-of : (w : Option Token) → Of (Maybe weight_part) (weight_marks w)
weight-of None = without _
weight-of (Some digits) = with_it _ _ (first-of class.BeginsWeight (codes "weight") _ (Seen (weight_class digits) digits ∷ []) (at (bytes_eq digits (codes "2"))))
  where
    at : (b : Bool) → Of (Or (Take class.Weighs) (Take class.WeighsTwo)) (Seen (cond b class.WeighsTwo class.Weighs) digits ∷ [])
    at true = right _ _ _ (takes class.WeighsTwo)
    at false = left _ _ _ (takes class.Weighs)

pub marked-of : (b : WrittenBridge) → IsWrittenBridge b → Of (Rule name.MarkedBridge) (bridge_marks b)
marked-of b h =
    let tail : Marked = tail_marks b.head b.reads in
    let weighed : Marked = weight_marks b.marks.weight ++ tail in
    let closed : Marked = word_marks class.Closes (codes "closed") b.marks.closed ++ weighed in
    by_rule name.MarkedBridge _ (first-of class.BeginsBridge (codes "bridge") _ (Seen class.NamesBridge b.name ∷ own_marks b.marks tail) (first-of class.NamesBridge b.name _ (own_marks b.marks tail)
    (pair-of (Maybe (Take class.Keeps)) _ (word_marks class.Keeps (codes "keep") b.marks.keep) closed (word-of class.Keeps (codes "keep") b.marks.keep)
    (pair-of (Maybe (Take class.Closes)) _ (word_marks class.Closes (codes "closed") b.marks.closed) weighed (word-of class.Closes (codes "closed") b.marks.closed)
    (pair-of (Maybe weight_part) (Rule name.BridgeTail) (weight_marks b.marks.weight) tail (weight-of b.marks.weight) (tail-of b.head b.reads h.1 h.2))))))

-- ---- items
after-of : (c : Class) (sign : Token) (f : Written) → IsFormula f → Of (Then (Take c) (Rule name.Formula)) (after_marks c sign f)
after-of c sign f h = first-of c sign (Rule name.Formula) (formula_marks f) (formula-of f h.0)

item-of : (i : WrittenItem) → IsItem i → Of (Rule name.Item) (item_marks i)
item-of (Fact f) h = subst (Of (Rule name.Item)) (append-nil (formula_marks f)) (by_rule name.Item _ (pair-of (Rule name.Formula) _ (formula_marks f) [] (formula-of f h.0) (without _)))
item-of (written.Rule d) h =
    let js : Marked = flat_map (after_marks class.SeparatesJustifications (codes ",")) d.justs in
    let end : Marked = after_marks class.BeginsConclusion (codes "/") d.conclusion in
    by_rule name.Item _ (pair-of (Rule name.Formula) _ (formula_marks d.pre) (Seen class.BeginsDefault (codes ":") ∷ (formula_marks d.first_just ++ (js ++ end))) (formula-of d.pre h.0.0)
    (with_it _ _ (first-of class.BeginsDefault (codes ":") _ (formula_marks d.first_just ++ (js ++ end)) (pair-of (Rule name.Formula) _ (formula_marks d.first_just) (js ++ end) (formula-of d.first_just h.1.0.0)
    (pair-of (Many _) _ js end (many-of _ IsFormula (after_marks class.SeparatesJustifications (codes ",")) (after-of class.SeparatesJustifications (codes ",")) d.justs h.1.1) (after-of class.BeginsConclusion (codes "/") d.conclusion h.2))))))

-- ---- program rules
literal-denial-of : (denied : Bool) → Of (Maybe (Take class.DeniesLiteral)) (literal_denial denied)
literal-denial-of true = with_it _ _ (takes class.DeniesLiteral)
literal-denial-of false = without _

literal-of : (l : WrittenLiteral) → Of (Rule name.Literal) (literal_marks l)
literal-of l = by_rule name.Literal _ (pair-of (Maybe (Take class.DeniesLiteral)) (Take class.IsBodyAtom) (literal_denial l.denied) (Seen class.IsBodyAtom l.atom ∷ []) (literal-denial-of l.denied) (takes class.IsBodyAtom))

abbrev HaveNames : List WrittenLiteral → Type 0
HaveNames ls = AllByRecursion (λ (l : WrittenLiteral). IsNameWord l.atom) ls

body-of : (ls : List WrittenLiteral) → HaveNames ls → Of (Rule name.Body) (sign_marks true ls)
body-of [] h = by_rule name.Body _ (first-of class.BeginsBody (codes ":-") _ [] (without _))
body-of (l ∷ ls) h =
    by_rule name.Body _ (first-of class.BeginsBody (codes ":-") _ (literals_marks (l ∷ ls)) (with_it _ _ (pair-of (Rule name.Literal) (Many _) (literal_marks l) (flat_map further_literal_marks ls) (literal-of l)
    (many-of _ (λ (q : WrittenLiteral). IsNameWord q.atom) further_literal_marks (λ q n. first-of class.SeparatesLiterals (codes ",") (Rule name.Literal) (literal_marks q) (literal-of q)) ls h.1))))

maybe-body-of : (sign : Bool) (ls : List WrittenLiteral) → HaveNames ls → Of (Maybe (Rule name.Body)) (sign_marks sign ls)
maybe-body-of true ls h = with_it _ _ (body-of ls h)
maybe-body-of false ls h = without _

rule-of : (r : WrittenRule) → IsRule r → Of (Rule name.ProgramRule) (rule_marks r)
rule-of r h = at r.head refl
  where
    at : (names : List Name) → r.head ≡ names → Of (Rule name.ProgramRule) (rule_marks r)
    at [] e = rw e (rw (h.head_or_sign e) (by_rule name.ProgramRule _ (right _ _ _ (body-of r.body h.body_names))))
    at (a ∷ names) e =
        let all : AllByRecursion IsNameWord (a ∷ names) = subst (AllByRecursion IsNameWord) e h.head_names in
        rw e (by_rule name.ProgramRule _ (left _ _ _ (first-of class.IsHeadAtom a _ (flat_map further_head_marks names ++ sign_marks r.has_sign r.body) (pair-of (Many _) (Maybe (Rule name.Body)) (flat_map further_head_marks names) (sign_marks r.has_sign r.body)
        (many-of _ IsNameWord further_head_marks (λ n w. first-of class.SeparatesHeadAtoms (codes "|") (Take class.IsHeadAtom) (Seen class.IsHeadAtom n ∷ []) (takes class.IsHeadAtom)) names all.1) (maybe-body-of r.has_sign r.body h.body_names)))))

-- ---- contexts
ended-of : (n : Production) (ms : Marked) → Of (Rule n) ms → Of (Then (Rule n) (Take class.EndsItem)) (ended_marks ms)
ended-of n ms h = pair-of (Rule n) (Take class.EndsItem) ms (Seen class.EndsItem (codes ".") ∷ []) h (takes class.EndsItem)

abbrev items_part : Class → Production → Part
items_part c n = Then (Take c) (Then (Take class.OpensItems) (Then (Many (Then (Rule n) (Take class.EndsItem))) (Take class.ClosesItems)))

abbrev kb_part : Part
kb_part = Or (items_part class.SaysClassical name.Formula) (Or (items_part class.SaysDefault name.Item) (items_part class.SaysProgram name.ProgramRule))

items-of : (c : Class) (word : Token) (n : Production) (ms : Marked) → Of (Many (Then (Rule n) (Take class.EndsItem))) ms → Of (items_part c n) (items_marks c word ms)
items-of c word n ms h =
    let end : Marked = Seen class.ClosesItems (codes "}") ∷ [] in
    first-of c word _ (Seen class.OpensItems (codes "{") ∷ (ms ++ end)) (first-of class.OpensItems (codes "{") _ (ms ++ end) (pair-of (Many _) (Take class.ClosesItems) ms end h (takes class.ClosesItems)))

context-of : (c : WrittenContext) → IsContext c → Of (Rule name.Context) (context_marks c)
context-of c h = by_rule name.Context _ (first-of class.BeginsContext (codes "context") _ (Seen class.NamesContext c.name ∷ kb_marks c.kb) (first-of class.NamesContext c.name _ (kb_marks c.kb) (at c.kb h.1)))
  where
    at : (kb : WrittenKb) → IsKb kb → Of kb_part (kb_marks kb)
    at (OfKind ClassicalKind fs) h = left _ _ _ (items-of class.SaysClassical (codes "classical") name.Formula _ (many-of _ IsFormula (λ f. ended_marks (formula_marks f)) (λ f g. ended-of name.Formula (formula_marks f) (formula-of f g.0)) fs h))
    at (OfKind DefaultKind is) h = right _ _ _ (left _ _ _ (items-of class.SaysDefault (codes "default") name.Item _ (many-of _ IsItem (λ i. ended_marks (item_marks i)) (λ i g. ended-of name.Item (item_marks i) (item-of i g)) is h)))
    at (OfKind ProgramKind rs) h = right _ _ _ (right _ _ _ (items-of class.SaysProgram (codes "program") name.ProgramRule _ (many-of _ IsRule (λ r. ended_marks (rule_marks r)) (λ r g. ended-of name.ProgramRule (rule_marks r) (rule-of r g)) rs h)))

-- ---- the whole text
pub text-of : (t : WrittenText) → IsText t → Of (Rule name.Text) (text_marks t)
text-of t h = at t.has_version h.2
  where
    cs : Marked
    cs = flat_map context_marks t.contexts

    bs : Marked
    bs = flat_map bridge_marks t.bridges

    of_contexts : Of (Many (Rule name.Context)) cs
    of_contexts = many-of (Rule name.Context) IsContext context_marks context-of t.contexts h.0

    at : (v : Bool) → (v ≡ false → AllByRecursion (λ (b : WrittenBridge). b.marks ≡ no_marks) t.bridges) → Of (Rule name.Text) (version_marks v ++ (cs ++ bs))
    at true none =
        by_rule name.Text _ (left _ _ _ (first-of class.BeginsVersion (codes "version") _ (Seen class.NamesVersion (codes "2") ∷ Seen class.EndsVersion (codes ".") ∷ (cs ++ bs)) (first-of class.NamesVersion (codes "2") _ (Seen class.EndsVersion (codes ".") ∷ (cs ++ bs))
        (first-of class.EndsVersion (codes ".") _ (cs ++ bs) (pair-of (Many (Rule name.Context)) (Many (Rule name.MarkedBridge)) cs bs of_contexts (many-of (Rule name.MarkedBridge) IsWrittenBridge bridge_marks marked-of t.bridges h.1))))))
    at false none =
        by_rule name.Text _ (right _ _ _ (pair-of (Many (Rule name.Context)) (Many (Rule name.Bridge)) cs bs of_contexts
        (many-of (Rule name.Bridge) IsUnmarked bridge_marks bridge-of t.bridges (all_both IsWrittenBridge (λ (b : WrittenBridge). b.marks ≡ no_marks) t.bridges h.1 (none refl)))))
