-- Answer sets give each set that they meet support from outside, and a smaller set that satisfies the reduct leaves one without it.
use Rattle.std.proofs.Common.{◌≡◌, Bool, true, false, not, ◌&&◌, ◌||◌, List, [], ◌∷◌, ◌++◌, map, filter, refl, sym, ap, ◌∙◌, true≢false}
use Rattle.std.proofs.lemmas.Bool.{and_parts, and_from, not-true, not_from_false, false_from_ne_true, true_from_ne_false}
use Rattle.std.proofs.lemmas.List.Folds.{list_all-append}
use Rattle.std.proofs.Math.Bool.{or-false}
use Rattle.std.specs.List.{list_any, list_all}
use Rattle.mcs_base.specs.Listings.{IsAmong}
use Rattle.mcs_base.proofs.Among.{among_any, among_filter, filter_among, any_get, among_get}
use Rattle.mcs_base.proofs.Each.{all_append, all_map, all_filter}
use Rattle.mcs_system.specs.Plain.{Name, ProgramRule}
use Rattle.mcs_system.specs.Logic.{same_name, is_in, holds, holds_all, reduct, satisfies, IsProperSubset, IsAnswerSet}
use Rattle.mcs_system.proofs.NameLemmas.{is_in-filter}
use Rattle.mcs_system.proofs.Sameness.{same_name-is}
use Rattle.mcs_cnf.specs.ClauseLists.{IsOver}
use Rattle.mcs_evidence.specs.Programs.{atoms_as, negated_atoms, disjunction, IsOverRule, AreOverRules}
use Rattle.mcs_evidence.specs.Pushing.{AreNamesOf}
use Rattle.mcs_evidence.specs.Supports.{IsOutsideSupport, HasOutsideSupport, IsBased, Based, may_support, outside_formula, support_formula}
use Rattle.mcs_evidence.specs.Laws.{AnswerSetsAreSupported, SupportedModelsAreAnswerSets}
use Rattle.mcs_evidence.proofs.Models.{all_in, any_in, all_in_each, all_in_from, any_in_some, any_in_from, none_in, none_in_from, atoms-all_hold, negated-all_hold, any_of-holds, conjunction-holds, disjunction-holds, satisfies_from, satisfies_head, reduct_each, reduct_from, conjunction-over, disjunction-over, atoms-over, negated-over}

-- the head atoms beside the set
abbrev pub beside : List Name → ProgramRule → List Name
beside u r = filter (λ n. not (is_in n u)) r.head

in_beside : (u : List Name) (r : ProgramRule) (n : Name) → is_in n r.head ≡ true → is_in n u ≡ false → is_in n (beside u r) ≡ true
in_beside u r n here out = is_in-filter (λ n. not (is_in n u)) n r.head ∙ and_from (is_in n r.head) (not (is_in n u)) here (not_from_false (is_in n u) out)

-- ---- what the formulas say
outside-holds : (u a : List Name) (r : ProgramRule) → holds a (outside_formula u r) ≡ ((all_in a r.pos && not (any_in a r.neg)) && not (any_in a (beside u r)))
outside-holds u a r =
    conjunction-holds a ((atoms_as r.pos ++ negated_atoms r.neg) ++ negated_atoms (beside u r))
    ∙ list_all-append (holds a) (atoms_as r.pos ++ negated_atoms r.neg) (negated_atoms (beside u r))
    ∙ ap (λ b. b && holds_all a (negated_atoms (beside u r))) (list_all-append (holds a) (atoms_as r.pos) (negated_atoms r.neg))
    ∙ ap (λ b. (b && holds_all a (negated_atoms r.neg)) && holds_all a (negated_atoms (beside u r))) (atoms-all_hold a r.pos)
    ∙ ap (λ b. (all_in a r.pos && b) && holds_all a (negated_atoms (beside u r))) (negated-all_hold a r.neg)
    ∙ ap (λ b. (all_in a r.pos && not (any_in a r.neg)) && b) (negated-all_hold a (beside u r))

-- a rule of which the formula holds supports the set
supports_from : (u a : List Name) (r : ProgramRule) → may_support u r ≡ true → holds a (outside_formula u r) ≡ true → IsOutsideSupport u a r
supports_from u a r may h =
    let (head, pos) = and_parts (any_in u r.head) (not (any_in u r.pos)) may in
    let (body, lone) = and_parts (all_in a r.pos && not (any_in a r.neg)) (not (any_in a (beside u r))) (sym (outside-holds u a r) ∙ h) in
    let (positive, negative) = and_parts (all_in a r.pos) (not (any_in a r.neg)) body in
    record {
      in_head = head;
      from_outside = not-true (any_in u r.pos) pos;
      positive = positive;
      negative = not-true (any_in a r.neg) negative;
      alone = λ n here there. true_from_ne_false (is_in n u) (λ out. true≢false (sym there ∙ none_in a (beside u r) n (not-true (any_in a (beside u r)) lone) (in_beside u r n here out)));
    }

some_outside : (u a : List Name) (rs : List ProgramRule) → list_any (holds a) (map (outside_formula u) rs) ≡ list_any (λ (r : ProgramRule). holds a (outside_formula u r)) rs
some_outside u a [] = refl
some_outside u a (r ∷ rs) = ap (λ b. holds a (outside_formula u r) || b) (some_outside u a rs)

abbrev some_supports : List ProgramRule → List Name → List Name → Bool
some_supports rules u a = list_any (λ (r : ProgramRule). holds a (outside_formula u r)) (filter (may_support u) rules)

pub support-holds : (rules : List ProgramRule) (u a : List Name) → holds a (support_formula rules u) ≡ (not (any_in a u) || some_supports rules u a)
support-holds rules u a =
    ap (λ b. not b || holds a (disjunction (map (outside_formula u) (filter (may_support u) rules)))) (any_of-holds a u)
    ∙ ap (λ b. not (any_in a u) || b) (disjunction-holds a (map (outside_formula u) (filter (may_support u) rules)) ∙ some_outside u a (filter (may_support u) rules))

-- where the formula holds, a set that is met has support
pub has_support : (rules : List ProgramRule) (u a : List Name) (n : Name) → holds a (support_formula rules u) ≡ true → is_in n u ≡ true → is_in n a ≡ true → HasOutsideSupport rules u a
has_support rules u a n h here there =
    let (k, r, at, supports) = any_get (λ (r : ProgramRule). holds a (outside_formula u r)) (filter (may_support u) rules) (met (any_in a u) (some_supports rules u a) (any_in_from a u n here there) (sym (support-holds rules u a) ∙ h)) in
    let (among, may) = filter_among (may_support u) r rules (among_get r (filter (may_support u) rules) k at) in
    (r, among, supports_from u a r may supports)
  where
    met : (x y : Bool) → x ≡ true → (not x || y) ≡ true → y ≡ true
    met true y e h = h
    met false y e h = absurd (true≢false (sym e))

-- ---- answer sets
module _ (rules : List ProgramRule) (u a : List Name) (is : IsAnswerSet rules a) where
  -- the atoms beside the set
  abbrev b : List Name
  b = filter (λ n. not (is_in n u)) a

  in_b : (n : Name) → is_in n b ≡ true → (is_in n a ≡ true) × (is_in n u ≡ false)
  in_b n h = let (here, out) = and_parts (is_in n a) (not (is_in n u)) (sym (is_in-filter (λ n. not (is_in n u)) n a) ∙ h) in (here, not-true (is_in n u) out)

  to_b : (n : Name) → is_in n a ≡ true → is_in n u ≡ false → is_in n b ≡ true
  to_b n here out = is_in-filter (λ n. not (is_in n u)) n a ∙ and_from (is_in n a) (not (is_in n u)) here (not_from_false (is_in n u) out)

  -- they satisfy the reduct if no rule supports the set
  each : some_supports rules u a ≡ false → (r : ProgramRule) → IsAmong r rules → any_in a r.neg ≡ false → satisfies b r ≡ true
  each none r among left = satisfies_from b r (λ body. at (any_in a (beside u r)) refl body)
    where
      at : (v : Bool) → any_in a (beside u r) ≡ v → all_in b r.pos ≡ true → any_in b r.head ≡ true
      at true e body =
          let (n, here, there) = any_in_some a (beside u r) e in
          let (head, out) = and_parts (is_in n r.head) (not (is_in n u)) (sym (is_in-filter (λ n. not (is_in n u)) n r.head) ∙ here) in
          any_in_from b r.head n head (to_b n there (not-true (is_in n u) out))
      at false e body = absurd (true≢false (sym supported ∙ none))
        where
          positive : all_in a r.pos ≡ true
          positive = all_in_from a r.pos (λ n h. (in_b n (all_in_each b r.pos body n h)).0)

          outside : any_in u r.pos ≡ false
          outside = none_in_from u r.pos (λ n h. (in_b n (all_in_each b r.pos body n h)).1)

          head : any_in u r.head ≡ true
          head =
              let (n, here, there) = any_in_some a r.head (satisfies_head a r (reduct_each a a rules is.model r among left) positive) in
              any_in_from u r.head n here (true_from_ne_false (is_in n u) (λ out. true≢false (sym there ∙ none_in a (beside u r) n e (in_beside u r n here out))))

          may : may_support u r ≡ true
          may = and_from (any_in u r.head) (not (any_in u r.pos)) head (not_from_false (any_in u r.pos) outside)

          supports : holds a (outside_formula u r) ≡ true
          supports = outside-holds u a r ∙ and_from (all_in a r.pos && not (any_in a r.neg)) (not (any_in a (beside u r)))
              (and_from (all_in a r.pos) (not (any_in a r.neg)) positive (not_from_false (any_in a r.neg) left)) (not_from_false (any_in a (beside u r)) e)

          supported : some_supports rules u a ≡ true
          supported = among_any (λ (r : ProgramRule). holds a (outside_formula u r)) (filter (may_support u) rules) r (among_filter (may_support u) r rules among may) supports

  pub answer_set_supports : holds a (support_formula rules u) ≡ true
  answer_set_supports = support-holds rules u a ∙ at (any_in a u) refl (some_supports rules u a) refl
    where
      at : (x : Bool) → any_in a u ≡ x → (y : Bool) → some_supports rules u a ≡ y → (not x || y) ≡ true
      at false e y e' = refl
      at true e true e' = refl
      at true e false e' =
          let (n, here, there) = any_in_some a u e in
          absurd (is.minimal b (record {
            within = λ m h. (in_b m h).0;
            more = n;
            in_second = there;
            not_in_first = false_from_ne_true (is_in n b) (λ h. true≢false (sym here ∙ (in_b n h).1));
          }) (reduct_from a b rules (each e')))

pub answer_sets_supported : AnswerSetsAreSupported
answer_sets_supported rules u a n is here there = has_support rules u a n (answer_set_supports rules u a is) here there

-- ---- a smaller set that satisfies the reduct
-- what it leaves has no support
pub left_unsupported : (rules : List ProgramRule) (u a b : List Name) → IsProperSubset b a → list_all (satisfies b) (reduct a rules) ≡ true
    → ((n : Name) → is_in n a ≡ true → is_in n b ≡ false → is_in n u ≡ true) → ((n : Name) → is_in n u ≡ true → is_in n b ≡ false) → holds a (support_formula rules u) ≡ false
left_unsupported rules u a b less sat left apart = false_from_ne_true (holds a (support_formula rules u)) (λ h.
    let (r, among, s) = has_support rules u a less.more h (left less.more less.in_second less.not_in_first) less.in_second in
    let body : all_in b r.pos ≡ true = all_in_from b r.pos (λ p here.
    true_from_ne_false (is_in p b) (λ out. true≢false (sym (left p (all_in_each a r.pos s.positive p here) out) ∙ none_in u r.pos p s.from_outside here))) in
    let (m, here, there) = any_in_some b r.head (satisfies_head b r (reduct_each a b rules sat r among s.negative) body) in
    true≢false (sym there ∙ apart m (s.alone m here (less.within m there))))

-- ---- without loops
own_name : (n m : Name) → is_in m (n ∷ []) ≡ true → m ≡ n
own_name n m h = same_name-is m n (sym (or-false (same_name m n)) ∙ h)

in_smaller : (rules : List ProgramRule) (a b : List Name) → IsProperSubset b a → list_all (satisfies b) (reduct a rules) ≡ true → ((n : Name) → is_in n a ≡ true → HasOutsideSupport rules (n ∷ []) a)
    → (n : Name) → IsBased rules n → is_in n a ≡ true → is_in n b ≡ true
in_smaller rules a b less sat supported n (Based m below) here =
    let (r, among, s) = supported n here in
    let (k, in_head, own) = any_in_some (n ∷ []) r.head s.in_head in
    let head : is_in n r.head ≡ true = ap (λ x. is_in x r.head) (sym (own_name n k own)) ∙ in_head in
    let body : all_in b r.pos ≡ true = all_in_from b r.pos (λ p there. in_smaller rules a b less sat supported p (below r among head p there) (all_in_each a r.pos s.positive p there)) in
    let (h, there, kept) = any_in_some b r.head (satisfies_head b r (reduct_each a b rules sat r among s.negative) body) in
    ap (λ x. is_in x b) (sym (own_name n h (s.alone h there (less.within h kept)))) ∙ kept

pub supported_models : SupportedModelsAreAnswerSets
supported_models rules a model each = record {
  model = model;
  minimal = λ b less sat. true≢false (sym (in_smaller rules a b less sat (λ n h. (each n h).1) less.more (each less.more less.in_second).0 less.in_second) ∙ less.not_in_first);
}

-- ---- the formula is over the names
apart_over : (names ns : List Name) (p : Name → Bool) → AreNamesOf names ns → AreNamesOf names (filter p ns)
apart_over names ns p over = all_filter (λ (n : Name). is_in n names ≡ true) p ns over

pub beside_over : (names u : List Name) (r : ProgramRule) → IsOverRule names r → AreNamesOf names (beside u r)
beside_over names u r over = apart_over names r.head (λ n. not (is_in n u)) over.0

outside-over : (names u : List Name) (r : ProgramRule) → IsOverRule names r → IsOver names (outside_formula u r)
outside-over names u r over =
    conjunction-over names ((atoms_as r.pos ++ negated_atoms r.neg) ++ negated_atoms (beside u r))
    (all_append (IsOver names) (atoms_as r.pos ++ negated_atoms r.neg) (negated_atoms (beside u r))
    (all_append (IsOver names) (atoms_as r.pos) (negated_atoms r.neg) (atoms-over names r.pos over.1) (negated-over names r.neg over.2)) (negated-over names (beside u r) (beside_over names u r over)))

pub support-over : (names : List Name) (rules : List ProgramRule) (u : List Name) → AreOverRules names rules → AreNamesOf names u → IsOver names (support_formula rules u)
support-over names rules u over known = (
  disjunction-over names (atoms_as u) (atoms-over names u known),
  disjunction-over names (map (outside_formula u) (filter (may_support u) rules))
      (all_map (outside_formula u) (IsOverRule names) (IsOver names) (outside-over names u) (filter (may_support u) rules) (all_filter (IsOverRule names) (may_support u) rules over)),
)
