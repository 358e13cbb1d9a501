-- Each token of what is written of items may be there for what it is there for.
use Rattle.std.proofs.Common.{Bool, true, false, codes, List, [], ◌∷◌, ◌++◌, refl}
use Rattle.std.specs.List.{flat_map, AllByRecursion}
use Rattle.mcs_grammar.specs.Written.{Written, Prefix, Denial, True', False', Named, Prefixed, Grouped, Joins, HasNames, IsFormula, WrittenItem, Fact, IsItem, WrittenLiteral, WrittenRule, IsRule, WrittenContext, IsContext, WrittenRead, IsPlace, WrittenBridge, IsWrittenBridge, IsWeight, WrittenText, IsText, IsNameWord}
use Rattle.mcs_grammar.specs.Written as written
use Rattle.mcs_grammar.specs.Entries.{Token, joint_sign}
use Rattle.mcs_system.specs.Plain.{Name}
use Rattle.mcs_productions.specs.declared.class.Class.{Class}
use Rattle.mcs_productions.specs.declared.class.Class.TheVariants as class
use Rattle.mcs_productions.specs.declared.production.Action.{Action}
use Rattle.mcs_account.specs.Mark.{Seen, Said}
use Rattle.mcs_account.specs.Marks.{Marked, Filled, joint_class, joint_action, formula_marks, two_marks, after_marks, item_marks, head_marks, further_head_marks, literal_denial, literal_marks, further_literal_marks, sign_marks, rule_marks, ended_marks}
pub use Rattle.mcs_account.proofs.Signs.{IsOne}
use Rattle.mcs_account.proofs.Signs.{prefix-filled, joint-filled}

pub join-filled : (ms ns : Marked) → Filled ms → Filled ns → Filled (ms ++ ns)
join-filled [] ns h k = k
join-filled (m ∷ ms) ns h k = (h.0, join-filled ms ns h.1 k)

pub all-filled : {W : Type 0} (P : W → Type 0) (f : W → Marked) → ((w : W) → P w → Filled (f w)) → (ws : List W) → AllByRecursion P ws → Filled (flat_map f ws)
all-filled P f one [] h = tt
all-filled P f one (w ∷ ws) h = join-filled (f w) (flat_map f ws) (one w h.0) (all-filled P f one ws h.1)

two-filled : (c : Class) (sign : Token) (a : Action) (ms ns : Marked) → IsOne (Seen c sign) → Filled ms → Filled ns → Filled (two_marks c sign a ms ns)
two-filled c sign a ms ns e h k = join-filled ms _ h (e, join-filled ns (Said a ∷ []) k (tt, tt))

pub formula-filled : (f : Written) → HasNames f → Filled (formula_marks f)
formula-filled True' h = ((tt, refl), tt)
formula-filled False' h = ((tt, refl), tt)
formula-filled (Named n) h = (((n, h), refl), tt)
formula-filled (Prefixed p f) h = (prefix-filled p, join-filled (formula_marks f) _ (formula-filled f h) (tt, tt))
formula-filled (Grouped f) h = ((tt, refl), join-filled (formula_marks f) _ (formula-filled f h) ((tt, refl), tt))
formula-filled (Joins j f g) h = two-filled (joint_class j) (joint_sign j) (joint_action j) (formula_marks f) (formula_marks g) (joint-filled j) (formula-filled f h.0) (formula-filled g h.1)

pub item-filled : (i : WrittenItem) → IsItem i → Filled (item_marks i)
item-filled (Fact f) h = formula-filled f h.1
item-filled (written.Rule d) h =
    join-filled (formula_marks d.pre) _ (formula-filled d.pre h.0.1) (
      (tt, refl),
      join-filled (formula_marks d.first_just) _ (formula-filled d.first_just h.1.0.1)
          (join-filled (flat_map (after_marks class.SeparatesJustifications (codes ",")) d.justs) _ (all-filled IsFormula (after_marks class.SeparatesJustifications (codes ",")) (λ f g. ((tt, refl), formula-filled f g.1)) d.justs h.1.1) ((tt, refl), formula-filled d.conclusion h.2.1)),
    )

literal-filled : (l : WrittenLiteral) → IsNameWord l.atom → Filled (literal_marks l)
literal-filled l h = at l.denied
  where
    at : (b : Bool) → Filled (literal_denial b ++ Seen class.IsBodyAtom l.atom ∷ [])
    at true = ((tt, refl), (((l.atom, h), refl), tt))
    at false = (((l.atom, h), refl), tt)

sign-filled : (sign : Bool) (ls : List WrittenLiteral) → AllByRecursion (λ (l : WrittenLiteral). IsNameWord l.atom) ls → Filled (sign_marks sign ls)
sign-filled false ls h = tt
sign-filled true [] h = ((tt, refl), tt)
sign-filled true (l ∷ ls) h = ((tt, refl), join-filled (literal_marks l) _ (literal-filled l h.0) (all-filled (λ (q : WrittenLiteral). IsNameWord q.atom) further_literal_marks (λ q n. ((tt, refl), literal-filled q n)) ls h.1))

head-filled : (names : List Name) → AllByRecursion IsNameWord names → Filled (head_marks names)
head-filled [] h = tt
head-filled (a ∷ names) h = (((a, h.0), refl), all-filled IsNameWord further_head_marks (λ n w. ((tt, refl), (((n, w), refl), tt))) names h.1)

pub rule-filled : (r : WrittenRule) → IsRule r → Filled (rule_marks r)
rule-filled r h = join-filled (head_marks r.head) _ (head-filled r.head h.head_names) (sign-filled r.has_sign r.body h.body_names)

pub ended-filled : (ms : Marked) → Filled ms → Filled (ended_marks ms)
ended-filled ms h = join-filled ms _ h ((tt, refl), tt)
