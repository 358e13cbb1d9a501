-- The clauses of a program's formulas, rule by rule and belief by belief.
use Rattle.std.proofs.Common.{◌≡◌, ℕ, ◌+◌, ◌<◌, ◌≤◌, Bool, true, false, cond, List, [], ◌∷◌, ◌++◌, map, filter, length, drop, get_or, refl, sym, ap, ◌∙◌, subst, append_assoc, append-nil, Option}
use Rattle.std.proofs.lemmas.List.{drop_more}
use Rattle.std.specs.List.{AllByRecursion, list_any}
use Rattle.mcs_sets.specs.Sets.{has}
use Rattle.mcs_system.specs.Plain.{Name, Formula, Atom, Not, Implies, ProgramRule}
use Rattle.mcs_system.specs.Logic.{is_in, true_names, reduct, without_negation}
use Rattle.mcs_system.specs.Seen.{rule_of}
use Rattle.mcs_system.specs.declared.knowledge.ProgRule as code
use Rattle.mcs_trace.specs.Clauses.{ClauseList}
use Rattle.mcs_cnf.specs.ClauseLists.{with_formulas}
use Rattle.mcs_cnf.proofs.ListLemmas.{with_append}
use Rattle.mcs_evidence.specs.Programs.{atoms_as, conjunction, disjunction, false_names, rule_formula, positive_formula, beside_formula, is_broken_by, literals_of_state, AreOverRules}
use Rattle.mcs_evidence.specs.Pushing.{AreNamesOf, IsVariablePart, HasConjunction}
use Rattle.mcs_base.proofs.Mapped.{map-drop_more}
use Rattle.mcs_evidence.proofs.PushingLemmas.{pushed_more, IsJoining}
use Rattle.mcs_base.proofs.Each.{all_from_among}
use Rattle.mcs_system.proofs.NameLemmas.{is_in-among}

-- ---- names at places
pub true_more : (names : List Name) (k s : ℕ) (n : Name) → k < length names → n ≡ get_or names k n → true_names k (drop k names) s ≡ cond (has s k) (n ∷ true_names (k + 1) (drop (k + 1) names) s) (true_names (k + 1) (drop (k + 1) names) s)
true_more names k s n less is = ap (λ (ns : List Name). true_names k ns s) (drop_more names k n less ∙ ap (λ (m : Name). m ∷ drop (k + 1) names) (sym is))

pub false_more : (names : List Name) (k s : ℕ) (n : Name) → k < length names → n ≡ get_or names k n → false_names k (drop k names) s ≡ cond (has s k) (false_names (k + 1) (drop (k + 1) names) s) (n ∷ false_names (k + 1) (drop (k + 1) names) s)
false_more names k s n less is = ap (λ (ns : List Name). false_names k ns s) (drop_more names k n less ∙ ap (λ (m : Name). m ∷ drop (k + 1) names) (sym is))

each_true : (P : Name → Type 0) (names : List Name) (k s : ℕ) → AllByRecursion P names → AllByRecursion P (true_names k names s)
each_true P [] k s all = tt
each_true P (n ∷ names) k s all = at (has s k) (each_true P names (k + 1) s all.1)
  where
    at : (b : Bool) → AllByRecursion P (true_names (k + 1) names s) → AllByRecursion P (cond b (n ∷ true_names (k + 1) names s) (true_names (k + 1) names s))
    at true rest = (all.0, rest)
    at false rest = rest

each_false : (P : Name → Type 0) (names : List Name) (k s : ℕ) → AllByRecursion P names → AllByRecursion P (false_names k names s)
each_false P [] k s all = tt
each_false P (n ∷ names) k s all = at (has s k) (each_false P names (k + 1) s all.1)
  where
    at : (b : Bool) → AllByRecursion P (false_names (k + 1) names s) → AllByRecursion P (cond b (false_names (k + 1) names s) (n ∷ false_names (k + 1) names s))
    at true rest = rest
    at false rest = (all.0, rest)

own_names : (names : List Name) → AreNamesOf names names
own_names names = all_from_among (λ (n : Name). is_in n names ≡ true) names (λ n h. (is_in-among n names).1 h)

-- these names at places are among the names
pub within_names : (names these : List Name) (s : ℕ) → these ≡ true_names 0 names s → AreNamesOf names these
within_names names these s e = subst (AreNamesOf names) (sym e) (each_true (λ (n : Name). is_in n names ≡ true) names 0 s (own_names names))

pub beside_names : (names these : List Name) (s : ℕ) → these ≡ false_names 0 names s → AreNamesOf names these
beside_names names these s e = subst (AreNamesOf names) (sym e) (each_false (λ (n : Name). is_in n names ≡ true) names 0 s (own_names names))

-- ---- rules of the reduct
pub reduct_kept : (a : List Name) (r : ProgramRule) (rules : List ProgramRule) → list_any (λ n. is_in n a) r.neg ≡ false → reduct a (r ∷ rules) ≡ without_negation r ∷ reduct a rules
reduct_kept a r rules none = rw none refl

pub reduct_left : (a : List Name) (r : ProgramRule) (rules : List ProgramRule) → list_any (λ n. is_in n a) r.neg ≡ true → reduct a (r ∷ rules) ≡ reduct a rules
reduct_left a r rules some = rw some refl

positive_is : (head pos : List Name) → rule_formula (record { head = head; pos = pos; neg = [] }) ≡ positive_formula (record { head = head; pos = pos; neg = [] })
positive_is head pos = ap (λ (fs : List Formula). Implies (conjunction fs) (disjunction (atoms_as head))) (append-nil (atoms_as pos))

module _ (names a : List Name) (rules : List code.ProgRule) (i : ℕ) (r : code.ProgRule) (less : i < length rules) (is : r ≡ get_or rules i r) where
  abbrev rest : ℕ → List ProgramRule
  rest j = map rule_of (drop j rules)

  next : rest i ≡ rule_of r ∷ rest (i + 1)
  next = map-drop_more rule_of rules i r less is

  pub reduct_pushed : (c c' : ClauseList) → list_any (λ n. is_in n a) r.neg.items ≡ false → c' ≡ with_formulas names c (rule_formula (record { head = r.head.items; pos = r.pos.items; neg = [] }) ∷ [])
      → with_formulas names c' (map positive_formula (reduct a (map rule_of (drop (i + 1) rules)))) ≡ with_formulas names c (map positive_formula (reduct a (map rule_of (drop i rules))))
  reduct_pushed c c' none pushed =
      pushed_more names c c' (rule_formula (record { head = r.head.items; pos = r.pos.items; neg = [] })) (map positive_formula (reduct a (rest (i + 1)))) pushed
      ∙ ap (λ (f : Formula). with_formulas names c (f ∷ map positive_formula (reduct a (rest (i + 1))))) (positive_is r.head.items r.pos.items)
      ∙ ap (λ (rs : List ProgramRule). with_formulas names c (map positive_formula rs)) (sym (ap (reduct a) next ∙ reduct_kept a (rule_of r) (rest (i + 1)) none))

  pub reduct_skipped : (c : ClauseList) → list_any (λ n. is_in n a) r.neg.items ≡ true
      → with_formulas names c (map positive_formula (reduct a (map rule_of (drop (i + 1) rules)))) ≡ with_formulas names c (map positive_formula (reduct a (map rule_of (drop i rules))))
  reduct_skipped c some = ap (λ (rs : List ProgramRule). with_formulas names c (map positive_formula rs)) (sym (ap (reduct a) next ∙ reduct_left a (rule_of r) (rest (i + 1)) some))

-- the rules from the place on are over the atoms
abbrev pub AreLeftOver : List Name → List code.ProgRule → ℕ → Type 0
AreLeftOver names rules i = AreOverRules names (map rule_of (drop i rules))

-- the code's loop over the reduct
pub record IsReducing (names a : List Name) (rules : List code.ProgRule) (first : ClauseList) (i : ℕ) (c : ClauseList) : Type 0 where
  pub grows : first.vars ≤ c.vars
  pub over : AreLeftOver names rules i
  pub pushed : with_formulas names c (map positive_formula (reduct a (map rule_of (drop i rules)))) ≡ with_formulas names first (map positive_formula (reduct a (map rule_of rules)))

-- the code's loop over the broken rules
pub record IsBreaking (names a : List Name) (rules : List code.ProgRule) (first : ClauseList) (given : Option ℕ) (i : ℕ) (c : ClauseList) (o : Option ℕ) : Type 0 where
  pub grows : first.vars ≤ c.vars
  pub over : AreLeftOver names rules i
  pub part : IsVariablePart c o
  pub joined : (start : ClauseList) (fs : List Formula) → HasConjunction names fs start first given
      → IsJoining (λ gs p. HasConjunction names gs start c p)
      (fs ++ map (λ (r : ProgramRule). disjunction (atoms_as r.neg)) (filter (is_broken_by a) (map rule_of rules)))
      (map (λ (r : ProgramRule). disjunction (atoms_as r.neg)) (filter (is_broken_by a) (map rule_of (drop i rules)))) o

-- ---- broken rules
abbrev blocked : ProgramRule → Formula
blocked r = disjunction (atoms_as r.neg)

pub broken_more : (a : List Name) (rules : List code.ProgRule) (i : ℕ) (r : code.ProgRule) → i < length rules → r ≡ get_or rules i r → is_broken_by a (rule_of r) ≡ true
    → map blocked (filter (is_broken_by a) (map rule_of (drop i rules))) ≡ disjunction (atoms_as r.neg.items) ∷ map blocked (filter (is_broken_by a) (map rule_of (drop (i + 1) rules)))
broken_more a rules i r less is broken = ap (λ (rs : List ProgramRule). map blocked (filter (is_broken_by a) rs)) (map-drop_more rule_of rules i r less is) ∙ kept (map rule_of (drop (i + 1) rules))
  where
    kept : (rs : List ProgramRule) → map blocked (filter (is_broken_by a) (rule_of r ∷ rs)) ≡ disjunction (atoms_as r.neg.items) ∷ map blocked (filter (is_broken_by a) rs)
    kept rs = rw broken refl

pub broken_skipped : (a : List Name) (rules : List code.ProgRule) (i : ℕ) (r : code.ProgRule) → i < length rules → r ≡ get_or rules i r → is_broken_by a (rule_of r) ≡ false
    → map blocked (filter (is_broken_by a) (map rule_of (drop i rules))) ≡ map blocked (filter (is_broken_by a) (map rule_of (drop (i + 1) rules)))
broken_skipped a rules i r less is whole = ap (λ (rs : List ProgramRule). map blocked (filter (is_broken_by a) rs)) (map-drop_more rule_of rules i r less is) ∙ left (map rule_of (drop (i + 1) rules))
  where
    left : (rs : List ProgramRule) → map blocked (filter (is_broken_by a) (rule_of r ∷ rs)) ≡ map blocked (filter (is_broken_by a) rs)
    left rs = rw whole refl

-- ---- literals of beliefs
module _ {A : Type 0} (seen : A → Name) where
  pub literals_more : (beliefs : List A) (k s : ℕ) (b : A) → k < length beliefs → b ≡ get_or beliefs k b
      → literals_of_state k (map Atom (map seen (drop k beliefs))) s ≡ cond (has s k) (Atom (seen b)) (Not (Atom (seen b))) ∷ literals_of_state (k + 1) (map Atom (map seen (drop (k + 1) beliefs))) s
  literals_more beliefs k s b less is = ap (λ (ns : List Name). literals_of_state k (map Atom ns) s) (map-drop_more seen beliefs k b less is)

  pub rest_names : (names : List Name) (beliefs : List A) (k : ℕ) (b : A) → k < length beliefs → b ≡ get_or beliefs k b → AreNamesOf names (map seen (drop k beliefs)) → AreNamesOf names (seen b ∷ []) × AreNamesOf names (map seen (drop (k + 1) beliefs))
  rest_names names beliefs k b less is all = let both = subst (AreNamesOf names) (map-drop_more seen beliefs k b less is) all in ((both.0, tt), both.1)

-- ---- lists one after the other
pub three : (names : List Name) (c c1 c2 c3 : ClauseList) (fs gs hs : List Formula) → c1 ≡ with_formulas names c fs → c2 ≡ with_formulas names c1 gs → c3 ≡ with_formulas names c2 hs → c3 ≡ with_formulas names c (fs ++ (gs ++ hs))
three names c c1 c2 c3 fs gs hs e1 e2 e3 =
    e3 ∙ ap (λ (k : ClauseList). with_formulas names k hs) e2 ∙ with_append names c1 gs hs ∙ ap (λ (k : ClauseList). with_formulas names k (gs ++ hs)) e1 ∙ with_append names c fs (gs ++ hs)

pub beside_is : (names w b w' : List Name) (rules : List ProgramRule) (less : ℕ) → w ≡ true_names 0 names less → b ≡ false_names 0 names less → w' ≡ true_names 0 names less
    → Not (conjunction ((atoms_as w ++ disjunction (atoms_as b) ∷ []) ++ map (λ (r : ProgramRule). disjunction (atoms_as r.neg)) (filter (is_broken_by w') rules))) ≡ beside_formula names rules less
beside_is names w b w' rules less e e' e'' =
    ap (λ (fs : List Formula). Not (conjunction fs)) (append_assoc (atoms_as w) (disjunction (atoms_as b) ∷ []) (map blocked (filter (is_broken_by w') rules)))
    ∙ ap (λ (ns : List Name). Not (conjunction (atoms_as ns ++ disjunction (atoms_as b) ∷ map blocked (filter (is_broken_by w') rules)))) e
    ∙ ap (λ (ns : List Name). Not (conjunction (atoms_as (true_names 0 names less) ++ disjunction (atoms_as ns) ∷ map blocked (filter (is_broken_by w') rules)))) e'
    ∙ ap (λ (ns : List Name). Not (conjunction (atoms_as (true_names 0 names less) ++ disjunction (atoms_as (false_names 0 names less)) ∷ map blocked (filter (is_broken_by ns) rules)))) e''
