-- Reducts of normal programs with facts: an answer set of them is the least model, there is one, and it grows with the rules.
use Rattle.std.proofs.Common.{◌≡◌, ℕ, ◌<◌, ◌≤◌, zero, suc, Bool, true, false, not, ◌&&◌, List, [], ◌∷◌, ◌++◌, inl, inr, ◌↔◌, filter, length, arith, refl, sym, ap, ◌∙◌, subst, true≢false, eqb}
use Rattle.std.proofs.lemmas.Bool.{and_parts, and_from, or_cases, or_left, or_right, not-true, not_from_false, not_from_true, false_from_ne_true, true_from_ne_false, eqb-true}
use Rattle.std.specs.List.{list_any, list_all, filter_map, flat_map}
use Rattle.mcs_base.specs.Listings.{IsAmong}
use Rattle.mcs_base.proofs.Among.{among_filter, filter_among, among_map, map_among, among_either, among_left, among_right, any_get, among_get, none_any, flat_map_among}
use Rattle.mcs_system.specs.Plain.{Name, Formula, Atom, ProgramRule}
use Rattle.mcs_system.specs.Logic.{same_name, is_in, fact_of, without_negation, reduct, satisfies, IsAnswerSet}
use Rattle.mcs_system.proofs.NameLemmas.{is_in-among, is_in-filter, is_in_flat_map}
use Rattle.mcs_system.proofs.Sameness.{same_name-is, same_name-itself}
use Rattle.mcs_evidence.proofs.Models.{all_in, any_in, all_in_each, all_in_from, any_in_some, any_in_from, satisfies_from, satisfies_head, reduct_each, reduct_from}
use Rattle.mcs_reduct.specs.Plain.{has_one_head}
use Rattle.mcs_reduct.proofs.Counting.{filter_lt}

-- ---- facts
abbrev pub fact : Name → ProgramRule
fact n = record { head = n ∷ []; pos = []; neg = [] }

abbrev pub facts : List Formula → List ProgramRule
facts hs = filter_map fact_of hs

pub facts_among : (hs : List Formula) (r : ProgramRule) → IsAmong r (facts hs) → (n : Name) × IsAmong (Atom n) hs × (r ≡ fact n)
facts_among [] r among = absurd among
facts_among (Atom n ∷ hs) r (inl same) = (n, inl refl, same)
facts_among (Atom m ∷ hs) r (inr among) = let (n, there, is) = facts_among hs r among in (n, inr there, is)
facts_among (f ∷ hs) r among = let (n, there, is) = facts_among hs r among in (n, inr there, is)

pub among_facts : (hs : List Formula) (n : Name) → IsAmong (Atom n) hs → IsAmong (fact n) (facts hs)
among_facts [] n among = absurd among
among_facts (Atom m ∷ hs) n (inl e) = inl (let same : n ≡ m = cc in ap fact same)
among_facts (Atom m ∷ hs) n (inr later) = inr (among_facts hs n later)
among_facts (f ∷ hs) n (inl e) = cc
among_facts (f ∷ hs) n (inr later) = among_facts hs n later

-- ---- small facts
pub one_head : (r : ProgramRule) → has_one_head r ≡ true → (h : Name) × (r.head ≡ h ∷ [])
one_head r e = at r.head e
  where
    at : (hs : List Name) → eqb (length hs) 1 ≡ true → (h : Name) × (hs ≡ h ∷ [])
    at [] e = absurd (true≢false (sym e))
    at (h ∷ []) e = (h, refl)
    at (h ∷ k ∷ hs) e = absurd (let same = eqb-true (length (h ∷ k ∷ hs)) 1 e in omega (arith, same))

pub in_head : (r : ProgramRule) (h : Name) → r.head ≡ h ∷ [] → is_in h r.head ≡ true
in_head r h is = ap (is_in h) is ∙ or_left (same_name h h) false (same_name-itself h)

pub head_in : (b : List Name) (r : ProgramRule) (h : Name) → r.head ≡ h ∷ [] → any_in b r.head ≡ true → is_in h b ≡ true
head_in b r h is any = elim (or_cases (is_in h b) false (sym (ap (any_in b) is) ∙ any)) [ inl here ↦ here | inr never ↦ absurd (true≢false (sym never)) ]

and_out : (u v : Bool) → v ≡ false → (u && v) ≡ false
and_out true v e = e
and_out false v e = refl

nothing_among : {A : Type 0} (xs : List A) (x : A) → length xs ≤ 0 → IsAmong x xs → ⊥
nothing_among [] x few among = among
nothing_among (y ∷ xs) x few among = omega (arith, few)

-- the rule is in the reduct by a, and c has its body and not its head
abbrev pub is_broken : List Name → List Name → ProgramRule → Bool
is_broken a c r = not (any_in a r.neg) && (all_in c r.pos && not (any_in c r.head))

abbrev pub lacks_head : List Name → ProgramRule → Bool
lacks_head c r = not (any_in c r.head)

unbroken : (a c : List Name) (r : ProgramRule) → any_in a r.neg ≡ false → is_broken a c r ≡ false → satisfies c r ≡ true
unbroken a c r left none = satisfies_from c r (λ body. true_from_ne_false (any_in c r.head) (λ lacks. true≢false (
    sym (and_from (not (any_in a r.neg)) (all_in c r.pos && not (any_in c r.head)) (not_from_false (any_in a r.neg) left)
    (and_from (all_in c r.pos) (not (any_in c r.head)) body (not_from_false (any_in c r.head) lacks))) ∙ none)))

still_lacks : (h : Name) (c : List Name) (r : ProgramRule) → lacks_head (h ∷ c) r ≡ true → lacks_head c r ≡ true
still_lacks h c r lacks = not_from_false (any_in c r.head) (false_from_ne_true (any_in c r.head) (λ any.
    let (n, in_r, in_c) = any_in_some c r.head any in
    true≢false (sym (any_in_from (h ∷ c) r.head n in_r (or_right (same_name n h) (is_in n c) in_c)) ∙ not-true (any_in (h ∷ c) r.head) lacks)))

has_now : (h : Name) (c : List Name) (r : ProgramRule) → r.head ≡ h ∷ [] → lacks_head (h ∷ c) r ≡ false
has_now h c r is = not_from_true (any_in (h ∷ c) r.head) (any_in_from (h ∷ c) r.head h (in_head r h is) (or_left (same_name h h) (is_in h c) (same_name-itself h)))

-- ---- models of the reduct by a, with the atoms among the formulas as facts
pub record Models (a : List Name) (rules : List ProgramRule) (hs : List Formula) (b : List Name) : Type 0 where
  pub each : (r : ProgramRule) → IsAmong r rules → any_in a r.neg ≡ false → satisfies b r ≡ true
  pub heads : (n : Name) → IsAmong (Atom n) hs → is_in n b ≡ true

-- the least of them
pub record IsLeastOf (a : List Name) (rules : List ProgramRule) (hs : List Formula) (c : List Name) : Type 0 where
  pub model : Models a rules hs c
  pub least : (b : List Name) → Models a rules hs b → (n : Name) → is_in n c ≡ true → is_in n b ≡ true

abbrev pub AreNormal : List ProgramRule → Type 0
AreNormal rules = (r : ProgramRule) → IsAmong r rules → has_one_head r ≡ true

-- a rule that is broken, and its head
pub record IsNext (a : List Name) (rules : List ProgramRule) (c : List Name) (h : Name) : Type 0 where
  pub rule : ProgramRule
  pub among : IsAmong rule rules
  pub left : any_in a rule.neg ≡ false
  pub body : all_in c rule.pos ≡ true
  pub lacks : lacks_head c rule ≡ true
  pub head : rule.head ≡ h ∷ []

module _ (a : List Name) (rules : List ProgramRule) (hs : List Formula) where
  abbrev pub reduced : List ProgramRule
  reduced = reduct a rules ++ facts hs

  -- no rule of it has negative literals, so it is its own reduct
  pub models_from : (c b : List Name) → list_all (satisfies b) (reduct c reduced) ≡ true → Models a rules hs b
  models_from c b sat = record {
    each = λ r among left. reduct_each c b reduced sat (without_negation r)
        (among_left (without_negation r) (reduct a rules) (facts hs) (among_map without_negation r (filter (λ r. not (any_in a r.neg)) rules)
        (among_filter (λ (r : ProgramRule). not (any_in a r.neg)) r rules among (not_from_false (any_in a r.neg) left)))) refl;
    heads = λ n among. elim (or_cases (is_in n b) false (reduct_each c b reduced sat (fact n) (among_right (fact n) (reduct a rules) (facts hs) (among_facts hs n among)) refl)) [
      | inl here ↦ here
      | inr never ↦ absurd (true≢false (sym never))
    ];
  }

  pub from_models : (c b : List Name) → Models a rules hs b → list_all (satisfies b) (reduct c reduced) ≡ true
  from_models c b m = reduct_from c b reduced (λ r among left. elim (among_either r (reduct a rules) (facts hs) among) [
    | inl own ↦ of_rule r own
    | inr told ↦ of_fact r told
  ])
    where
      of_rule : (r : ProgramRule) → IsAmong r (reduct a rules) → satisfies b r ≡ true
      of_rule r own =
          let (s, there, is) = map_among without_negation r (filter (λ (r : ProgramRule). not (any_in a r.neg)) rules) own in
          let (among, left) = filter_among (λ (r : ProgramRule). not (any_in a r.neg)) s rules there in
          ap (satisfies b) is ∙ m.each s among (not-true (any_in a s.neg) left)

      of_fact : (r : ProgramRule) → IsAmong r (facts hs) → satisfies b r ≡ true
      of_fact r told = let (n, there, is) = facts_among hs r told in ap (satisfies b) is ∙ or_left (is_in n b) false (m.heads n there)

  -- the same of the program with the facts, where the reduct is by a
  pub models_of_own : (b : List Name) → list_all (satisfies b) (reduct a (rules ++ facts hs)) ≡ true → Models a rules hs b
  models_of_own b sat = record {
    each = λ r among left. reduct_each a b (rules ++ facts hs) sat r (among_left r rules (facts hs) among) left;
    heads = λ n among. elim (or_cases (is_in n b) false (reduct_each a b (rules ++ facts hs) sat (fact n) (among_right (fact n) rules (facts hs) (among_facts hs n among)) refl)) [
      | inl here ↦ here
      | inr never ↦ absurd (true≢false (sym never))
    ];
  }

  pub own_of_models : (b : List Name) → Models a rules hs b → list_all (satisfies b) (reduct a (rules ++ facts hs)) ≡ true
  own_of_models b m = reduct_from a b (rules ++ facts hs) (λ r among left. elim (among_either r rules (facts hs) among) [
    | inl own ↦ m.each r own left
    | inr told ↦ (let (n, there, is) = facts_among hs r told in ap (satisfies b) is ∙ or_left (is_in n b) false (m.heads n there))
  ])

  -- so a is an answer set of its reduct with the facts exactly where it is one of the program with them
  pub answer_again : IsAnswerSet reduced a ↔ IsAnswerSet (rules ++ facts hs) a
  answer_again = (
    λ is. record { model = own_of_models a (models_from a a is.model); minimal = λ b sub sat. is.minimal b sub (from_models a b (models_of_own b sat)) },
    λ is. record { model = from_models a a (models_of_own a is.model); minimal = λ b sub sat. is.minimal b sub (own_of_models b (models_from a b sat)) },
  )

  -- the least model is an answer set
  pub answer_of : (c : List Name) → IsLeastOf a rules hs c → IsAnswerSet reduced c
  answer_of c l = record {
    model = from_models c c l.model;
    minimal = λ b sub sat. true≢false (sym (l.least b (models_from c b sat) sub.more sub.in_second) ∙ sub.not_in_first);
  }

  module _ (normal : AreNormal rules) where
    -- what two models have in common is one
    common_model : (b c : List Name) → Models a rules hs b → Models a rules hs c → Models a rules hs (filter (λ n. is_in n b) c)
    common_model b c mb mc = record { each = each; heads = λ n among. is_in-filter (λ n. is_in n b) n c ∙ and_from (is_in n c) (is_in n b) (mc.heads n among) (mb.heads n among) }
      where
        in_both : (n : Name) → is_in n (filter (λ n. is_in n b) c) ≡ true → (is_in n c ≡ true) × (is_in n b ≡ true)
        in_both n h = and_parts (is_in n c) (is_in n b) (sym (is_in-filter (λ n. is_in n b) n c) ∙ h)

        each : (r : ProgramRule) → IsAmong r rules → any_in a r.neg ≡ false → satisfies (filter (λ n. is_in n b) c) r ≡ true
        each r among left = satisfies_from (filter (λ n. is_in n b) c) r (λ body.
            let (h, is) = one_head r (normal r among) in
            let in_c = head_in c r h is (satisfies_head c r (mc.each r among left) (all_in_from c r.pos (λ n here. (in_both n (all_in_each (filter (λ n. is_in n b) c) r.pos body n here)).0))) in
            let in_b = head_in b r h is (satisfies_head b r (mb.each r among left) (all_in_from b r.pos (λ n here. (in_both n (all_in_each (filter (λ n. is_in n b) c) r.pos body n here)).1))) in
            any_in_from (filter (λ n. is_in n b) c) r.head h (in_head r h is) (is_in-filter (λ n. is_in n b) h c ∙ and_from (is_in h c) (is_in h b) in_c in_b))

    -- an answer set is the least model
    pub least_of : (c : List Name) → IsAnswerSet reduced c → IsLeastOf a rules hs c
    least_of c is = record {
      model = models_from c c is.model;
      least = λ b mb n here. true_from_ne_false (is_in n b) (λ out.
          let smaller : List Name = filter (λ n. is_in n b) c in
          is.minimal smaller (record {
            within = λ k inside. (and_parts (is_in k c) (is_in k b) (sym (is_in-filter (λ n. is_in n b) k c) ∙ inside)).0;
            more = n;
            in_second = here;
            not_in_first = is_in-filter (λ n. is_in n b) n c ∙ and_out (is_in n c) (is_in n b) out;
          }) (from_models c smaller (common_model b c mb (models_from c c is.model))));
    }

    -- ---- there is one
    abbrev Found : List Name → Type 0
    Found c = ((n : Name) → IsAmong (Atom n) hs → is_in n c ≡ true) × ((b : List Name) → Models a rules hs b → (n : Name) → is_in n c ≡ true → is_in n b ≡ true)

    whole : (c : List Name) → Found c → list_any (is_broken a c) rules ≡ false → IsLeastOf a rules hs c
    whole c found none = record { model = record { each = λ r among left. unbroken a c r left (none_any (is_broken a c) rules r none among); heads = found.0 }; least = found.1 }

    next : (c : List Name) → list_any (is_broken a c) rules ≡ true → (h : Name) × IsNext a rules c h
    next c some =
        let (k, r, there, is) = any_get (is_broken a c) rules some in
        let among = among_get r rules k there in
        let (kept, rest) = and_parts (not (any_in a r.neg)) (all_in c r.pos && not (any_in c r.head)) is in
        let (body, lacks) = and_parts (all_in c r.pos) (not (any_in c r.head)) rest in
        let (h, head) = one_head r (normal r among) in
        (h, record { rule = r; among = among; left = not-true (any_in a r.neg) kept; body = body; lacks = lacks; head = head })

    -- its head is in each model that has what was found so far
    found_more : (c : List Name) (h : Name) → IsNext a rules c h → Found c → Found (h ∷ c)
    found_more c h n found = (
      λ k told. or_right (same_name k h) (is_in k c) (found.0 k told),
      λ b mb k here. elim (or_cases (same_name k h) (is_in k c) here) [
        | inl same ↦ ap (λ x. is_in x b) (same_name-is k h same) ∙ head_in b n.rule h n.head (satisfies_head b n.rule (mb.each n.rule n.among n.left) (all_in_from b n.rule.pos (λ p inside. found.1 b mb p (all_in_each c n.rule.pos n.body p inside))))
        | inr old ↦ found.1 b mb k old
      ],
    )

    fewer : (c : List Name) (h : Name) → IsNext a rules c h → length (filter (lacks_head (h ∷ c)) rules) < length (filter (lacks_head c) rules)
    fewer c h n = filter_lt (lacks_head c) (lacks_head (h ∷ c)) (λ r e. still_lacks h c r e) rules n.rule n.among n.lacks (has_now h c n.rule n.head)

    grows : (most : ℕ) (c : List Name) → length (filter (lacks_head c) rules) ≤ most → Found c → (d : List Name) × IsLeastOf a rules hs d
    grows zero c few found = (c, whole c found (false_from_ne_true (list_any (is_broken a c) rules) (λ some. let (h, n) = next c some in nothing_among (filter (lacks_head c) rules) n.rule few (among_filter (lacks_head c) n.rule rules n.among n.lacks))))
    grows (suc most) c few found = at (list_any (is_broken a c) rules) refl (λ h n. grows most (h ∷ c) (omega (arith, fewer c h n, few)) (found_more c h n found))
      where
        at : (v : Bool) → list_any (is_broken a c) rules ≡ v → ((h : Name) → IsNext a rules c h → (d : List Name) × IsLeastOf a rules hs d) → (d : List Name) × IsLeastOf a rules hs d
        at false none more = (c, whole c found none)
        at true some more = let (h, n) = next c some in more h n

    first : List Name
    first = flat_map (λ (r : ProgramRule). r.head) (facts hs)

    first_found : Found first
    unfolding first
    first_found = (
      λ n told. is_in_flat_map (λ (r : ProgramRule). r.head) n (fact n) (facts hs) (among_facts hs n told) (or_left (same_name n n) false (same_name-itself n)),
      λ b mb n here.
          let (r, among, inside) = flat_map_among (λ (r : ProgramRule). r.head) n (facts hs) ((is_in-among n (flat_map (λ (r : ProgramRule). r.head) (facts hs))).0 here) in
          let (k, told, is) = facts_among hs r among in
          let own : IsAmong n (k ∷ []) = subst (λ (s : ProgramRule). IsAmong n s.head) is inside in
          elim own [ inl same ↦ ap (λ x. is_in x b) same ∙ mb.heads k told | inr never ↦ absurd never ],
    )

    pub least_exists : (c : List Name) × IsLeastOf a rules hs c
    least_exists = grows (length (filter (lacks_head first) rules)) first (omega arith) first_found

-- ---- with more facts
pub models_of_more : (a : List Name) (rules : List ProgramRule) (hs hs' : List Formula) (b : List Name) → ((f : Formula) → IsAmong f hs → IsAmong f hs') → Models a rules hs' b → Models a rules hs b
models_of_more a rules hs hs' b more m = record { each = m.each; heads = λ n among. m.heads n (more (Atom n) among) }
