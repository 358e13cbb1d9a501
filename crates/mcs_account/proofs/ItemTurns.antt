-- In what is written of items no read ends: a formula is whole after one, and none after a program rule.
use Rattle.std.proofs.Common.{◌≡◌, Bool, true, false, codes, List, [], ◌∷◌, ◌++◌, refl, ap, ◌∙◌}
use Rattle.std.proofs.lemmas.List.{map-append}
use Rattle.std.specs.List.{flat_map}
use Rattle.mcs_syntax.specs.declared.part.Event.TheVariants.{Took, Told}
use Rattle.mcs_system.specs.Plain.{Name, Connective}
use Rattle.mcs_grammar.specs.Entries.{joint_sign}
use Rattle.mcs_grammar.specs.Written.{Written, Prefix, True', False', Named, Prefixed, Grouped, Joins, level, WrittenItem, Fact, WrittenLiteral, WrittenRule, WrittenContext, WrittenRead, WrittenBridge, IsPlace, IsGrouped, IsWrittenBridge, WrittenText, IsText, IsContext}
use Rattle.mcs_grammar.specs.Written as written
use Rattle.mcs_productions.specs.declared.class.Class.TheVariants as class
use Rattle.mcs_account.specs.Mark.{Seen, Said, event_of, events_of}
use Rattle.mcs_account.specs.Reading.{Events}
use Rattle.mcs_account.specs.Turns.{Depth, Turn, turn, calm, at_top, free_or_due, turn_took, turn_told, passed, Top, In, Free}
use Rattle.mcs_account.specs.Marks.{Marked, prefix_action, joint_class, joint_action, formula_marks, after_marks, item_marks, head_marks, further_head_marks, literal_denial, literal_marks, further_literal_marks, sign_marks, rule_marks}
use Rattle.mcs_account.proofs.Signs.{prefix-comes, prefix-passes, joint-comes, joint-passes}

pub passed-append : (s : Turn) (xs ys : Events) → passed s (xs ++ ys) ≡ passed (passed s xs) ys
passed-append s [] ys = refl
passed-append s (Took c ∷ xs) ys = passed-append (turn_took s c) xs ys
passed-append s (Told a ∷ xs) ys = passed-append (turn_told s a) xs ys

abbrev pub after : Turn → Marked → Turn
after s ms = passed s (events_of ms)

after-append : (s : Turn) (ms ns : Marked) → after s (ms ++ ns) ≡ after (after s ms) ns
after-append s ms ns = ap (passed s) (map-append event_of ms ns) ∙ passed-append s (events_of ms) (events_of ns)

-- first these, which lead there
pub then-after : (s t : Turn) (ms ns : Marked) → after s ms ≡ t → after s (ms ++ ns) ≡ after t ns
then-after s t ms ns e = after-append s ms ns ∙ ap (λ (r : Turn). after r ns) e

-- ---- formulas
-- within parentheses, or of no read
within-in : (r : Bool) (d : Depth) → at_top r (In d) ≡ false
within-in true d = refl
within-in false d = refl

abbrev pub Leads' : Turn → Turn → Marked → Type 0
Leads' s t ms = after s ms ≡ t

abbrev pub Stays : Turn → Marked → Type 0
Stays s ms = after s ms ≡ s

-- a token that may end a belief
one-token : (r : Bool) (d : Depth) (e : Bool) → e ≡ false → turn r d true true (free_or_due e) ≡ turn r d true true Free
one-token r d e h = ap (λ (b : Bool). turn r d true true (free_or_due b)) h

-- from s, where a formula may be whole, to t, where one is
prefix-inside : (p : Prefix) (f : Written) (r b : Bool) (d : Depth) → Leads' (turn r d b true Free) (turn r d true true Free) (formula_marks f) → Leads' (turn r d b true Free) (turn r d true true Free) (formula_marks (Prefixed p f))
prefix-inside p f r b d h =
    let end : Marked = Said (prefix_action p) ∷ [] in
    ap (λ (s : Turn). after s (formula_marks f ++ end)) (prefix-comes p r b d) ∙ then-after (turn r d b true Free) (turn r d true true Free) (formula_marks f) end h ∙ prefix-passes p r true d

joins-inside : (j : Connective) (f g : Written) (r b : Bool) (d : Depth) → Leads' (turn r d b true Free) (turn r d true true Free) (formula_marks f) → Leads' (turn r d true true Free) (turn r d true true Free) (formula_marks g)
    → Leads' (turn r d b true Free) (turn r d true true Free) (formula_marks (Joins j f g))
joins-inside j f g r b d h k =
    let s : Turn = turn r d b true Free in
    let t : Turn = turn r d true true Free in
    let end : Marked = Said (joint_action j) ∷ [] in
    then-after s t (formula_marks f) (Seen (joint_class j) (joint_sign j) ∷ (formula_marks g ++ end)) h ∙ ap (λ (x : Turn). after x (formula_marks g ++ end)) (joint-comes j r true d) ∙ then-after t t (formula_marks g) end k ∙ joint-passes j r true d

pub inside : (f : Written) (r : Bool) (d : Depth) (b : Bool) → at_top r d ≡ false → Leads' (turn r d b true Free) (turn r d true true Free) (formula_marks f)
inside True' r d b h = one-token r d _ h
inside False' r d b h = one-token r d _ h
inside (Named n) r d b h = one-token r d _ h
inside (Prefixed p f) r d b h = prefix-inside p f r b d (inside f r d b h)
inside (Grouped f) r d b h = then-after (turn r (In d) b true Free) (turn r (In d) true true Free) (formula_marks f) (Seen class.ClosesParenthesis (codes ")") ∷ []) (inside f r (In d) b (within-in r d)) ∙ one-token r d _ h
inside (Joins j f g) r d b h = joins-inside j f g r b d (inside f r d b h) (inside g r d true h)

-- ---- parts one after another
pub both-lead : (s t u : Turn) (ms ns : Marked) → Leads' s t ms → Leads' t u ns → Leads' s u (ms ++ ns)
both-lead s t u ms ns h k = then-after s t ms ns h ∙ k

-- ---- items
pub any-stay : {W : Type 0} (s : Turn) (f : W → Marked) → ((w : W) → Stays s (f w)) → (ws : List W) → Stays s (flat_map f ws)
any-stay s f one [] = refl
any-stay s f one (w ∷ ws) = both-lead s s s (f w) (flat_map f ws) (one w) (any-stay s f one ws)

pub formula-calm : (b : Bool) (f : Written) → Leads' (calm b) (calm true) (formula_marks f)
formula-calm b f = inside f false Top b refl

pub item-calm : (i : WrittenItem) → Leads' (calm false) (calm true) (item_marks i)
item-calm (Fact f) = formula-calm false f
item-calm (written.Rule d) =
    both-lead (calm false) (calm true) (calm true) (formula_marks d.pre) _ (formula-calm false d.pre) (both-lead (calm true) (calm true) (calm true) (formula_marks d.first_just) _ (formula-calm true d.first_just)
    (both-lead (calm true) (calm true) (calm true) (flat_map (after_marks class.SeparatesJustifications (codes ",")) d.justs) _ (any-stay (calm true) (after_marks class.SeparatesJustifications (codes ",")) (formula-calm true) d.justs) (formula-calm true d.conclusion)))

literal-stays : (l : WrittenLiteral) → Stays (calm false) (literal_marks l)
literal-stays l = at l.denied
  where
    at : (b : Bool) → Stays (calm false) (literal_denial b ++ Seen class.IsBodyAtom l.atom ∷ [])
    at true = refl
    at false = refl

sign-stays : (sign : Bool) (ls : List WrittenLiteral) → Stays (calm false) (sign_marks sign ls)
sign-stays false ls = refl
sign-stays true [] = refl
sign-stays true (l ∷ ls) = both-lead (calm false) (calm false) (calm false) (literal_marks l) (flat_map further_literal_marks ls) (literal-stays l) (any-stay (calm false) further_literal_marks literal-stays ls)

head-stays : (names : List Name) → Stays (calm false) (head_marks names)
head-stays [] = refl
head-stays (n ∷ names) = any-stay (calm false) further_head_marks (λ m. refl) names

pub rule-stays : (r : WrittenRule) → Stays (calm false) (rule_marks r)
rule-stays r = both-lead (calm false) (calm false) (calm false) (head_marks r.head) (sign_marks r.has_sign r.body) (head-stays r.head) (sign-stays r.has_sign r.body)
