-- The questions to which a part is accepted, and what has to be changed least to come to one of them.
use Rattle.std.proofs.Common.{◌≡◌, ℕ, zero, suc, ◌+◌, ◌*◌, ◌/◌, ◌%◌, ◌<◌, ◌≤◌, Bool, true, false, not, ◌&&◌, cond, eqb, ltb, true≢false, List, [], ◌∷◌, map, filter, ◌++◌, take, length, get_or, slice_get, slice_set, Some, refl, sym, ap, ◌∙◌, subst, ◌↔◌, ◌⊎◌, inl, inr, arith}
use Rattle.std.proofs.lemmas.Bool.{cases_eq, false_from_ne_true}
use Rattle.std.proofs.lemmas.Bool.Decides.{nat_tests}
use Rattle.std.specs.List.{AllByRecursion, flat_map}
use Rattle.mcs_sets.specs.Sets.{has, size, common, minus, Within}
use Rattle.mcs_sets.proofs.SetLemmas.{has-empty, same_set, sets}
use Rattle.mcs_sets.proofs.Lattice.{size-none}
use Rattle.mcs_base.specs.Antichains.{HasOneWithin, lies_within}
use Rattle.mcs_base.specs.Listings.{IsAmong}
use Rattle.mcs_base.proofs.AntichainLemmas.{lies_within-is}
use Rattle.mcs_base.proofs.Among.{among_get, get_among, among_append, among_either, among_left, among_right, among_filter, filter_among, among_flat_map, flat_map_among, among_map, map_among, among_take_more, among_push}
use Rattle.mcs_base.proofs.Each.{all_among, all_from_among}
use Rattle.mcs_base.proofs.Written.{slice_get-slice_set}
use Rattle.mcs_system.specs.Plain.{System}
use Rattle.mcs_system.specs.Imports.{marks_at, rules_into}
use Rattle.mcs_system.specs.Repairs.{marks_of}
use Rattle.mcs_system.specs.Rows.{inputs_of}
use Rattle.mcs_system.specs.Systems.{applicable, variables_of}
use Rattle.mcs_system.proofs.MarkLemmas.{has-marks_of}
use Rattle.mcs_table.specs.declared.row.Row.{Row}
use Rattle.mcs_table.specs.Tables.{Covers}
use Rattle.mcs_rows.specs.Making.{agrees, row_with, is_in_reach, rows_with, rows_of}
use Rattle.mcs_rows.specs.Nearest.{IsAnswered, IsSupported, AreSupported, AreOfRules, changed, AppliesAt, CanReach, IsNear, HasNearWithin, AddsNear, AreNearest, IsRowWith, IsRowOfOne, IsRowIn}
use Rattle.mcs_rows.specs.Reach.{IsReach, ComesTo, HasMarksFor, IsOut}
use Rattle.mcs_rows.specs.declared.answer.Answer.{Answer}
use Rattle.mcs_rows.specs.declared.local.Reach.{Reach}
use Rattle.mcs_rows.specs.declared.nearest.Supported.{Supported}
use Rattle.mcs_rows.specs.declared.nearest.Accepted.{Accepted}
use Rattle.mcs_rows.specs.declared.nearest.Near.{Near}
use Rattle.mcs_rows.proofs.MakingLemmas.{with_answer, answer_with, in_reach, no_marks, removed_known, forced_known, marks_are_at}
use Rattle.mcs_rows.proofs.ReachLemmas.{marks_for}

module _ {A : Type 0} where
  slice_get-slice_set_same : (xs : List A) (k : ℕ) (x y : A) → slice_get xs k ≡ Some x → slice_get (slice_set xs k y) k ≡ Some y
  slice_get-slice_set_same [] k x y is = absurd (cc)
  slice_get-slice_set_same (z ∷ xs) zero x y is = refl
  slice_get-slice_set_same (z ∷ xs) (suc k) x y is = slice_get-slice_set_same xs k x y is

  slice_get-slice_set_other : (xs : List A) (k j : ℕ) (y z : A) → ¬ (j ≡ k) → slice_get xs j ≡ Some z → slice_get (slice_set xs k y) j ≡ Some z
  slice_get-slice_set_other [] k j y z apart is = absurd (cc)
  slice_get-slice_set_other (x ∷ xs) zero zero y z apart is = absurd (apart refl)
  slice_get-slice_set_other (x ∷ xs) zero (suc j) y z apart is = is
  slice_get-slice_set_other (x ∷ xs) (suc k) zero y z apart is = is
  slice_get-slice_set_other (x ∷ xs) (suc k) (suc j) y z apart is = slice_get-slice_set_other xs k j y z (λ e. apart (ap suc e)) is

-- ---- parts with their questions
-- a question more for a part that is there
pub supported_push : (all : List Supported) (k : ℕ) (old new : Supported) (part question : ℕ) → slice_get all k ≡ Some old → old.part ≡ part → new.part ≡ old.part → new.questions.items ≡ old.questions.items ++ question ∷ []
    → (τ x : ℕ) → IsSupported (slice_set all k new) τ x ↔ (IsSupported all τ x ⊎ ((τ ≡ part) × (x ≡ question)))
supported_push all k old new part question at is same more τ x = (to, from)
  where
    questions : (y : ℕ) → IsAmong y new.questions.items ↔ (IsAmong y old.questions.items ⊎ IsAmong y (question ∷ []))
    questions y = subst (λ (ys : List ℕ). IsAmong y ys ↔ (IsAmong y old.questions.items ⊎ IsAmong y (question ∷ []))) (sym more) (among_append y old.questions.items (question ∷ []))

    to : IsSupported (slice_set all k new) τ x → IsSupported all τ x ⊎ ((τ ≡ part) × (x ≡ question))
    to h =
        let (j, there) = get_among h.one (slice_set all k new) h.among in
        elim (slice_get-slice_set all k j new h.one there) [
          | inl (e, here) ↦
              elim ((questions x).0 (subst (λ (s : Supported). IsAmong x s.questions.items) here h.question)) [
                | inl before ↦ inl (record { one = old; among = among_get old all k at; part = sym same ∙ ap (λ (s : Supported). s.part) (sym here) ∙ h.part; question = before })
                | inr (inl e') ↦ inr (sym h.part ∙ ap (λ (s : Supported). s.part) here ∙ same ∙ is, e')
                | inr (inr none) ↦ absurd none
              ]
          | inr (apart, here) ↦ inl (record { one = h.one; among = among_get h.one all j here; part = h.part; question = h.question })
        ]

    from : IsSupported all τ x ⊎ ((τ ≡ part) × (x ≡ question)) → IsSupported (slice_set all k new) τ x
    from (inl h) =
        let (j, there) = get_among h.one all h.among in
        elim (cases_eq j k) [
          | inl e ↦
              let here : h.one ≡ old = cc in
              record { one = new; among = among_get new (slice_set all k new) k (slice_get-slice_set_same all k old new at); part = same ∙ ap (λ (s : Supported). s.part) (sym here) ∙ h.part; question = (questions x).1 (inl (subst (λ (s : Supported). IsAmong x s.questions.items) here h.question)) }
          | inr apart ↦ record { one = h.one; among = among_get h.one (slice_set all k new) j (slice_get-slice_set_other all k j new h.one apart there); part = h.part; question = h.question }
        ]
    from (inr (e, e')) = record { one = new; among = among_get new (slice_set all k new) k (slice_get-slice_set_same all k old new at); part = same ∙ is ∙ sym e; question = (questions x).1 (inr (inl e')) }

-- a part more, with one question
pub supported_insert : (all next : List Supported) (new : Supported) (part question : ℕ) → ((one : Supported) → IsAmong one next ↔ ((one ≡ new) ⊎ IsAmong one all)) → new.part ≡ part → new.questions.items ≡ question ∷ []
    → (τ x : ℕ) → IsSupported next τ x ↔ (IsSupported all τ x ⊎ ((τ ≡ part) × (x ≡ question)))
supported_insert all next new part question are is only τ x = (to, from)
  where
    to : IsSupported next τ x → IsSupported all τ x ⊎ ((τ ≡ part) × (x ≡ question))
    to h = elim ((are h.one).0 h.among) [
      | inl here ↦ elim (subst (λ (ys : List ℕ). IsAmong x ys) (ap (λ (s : Supported). s.questions.items) here ∙ only) h.question) [
        | inl e ↦ inr (sym h.part ∙ ap (λ (s : Supported). s.part) here ∙ is, e)
        | inr none ↦ absurd none
      ]
      | inr there ↦ inl (record { one = h.one; among = there; part = h.part; question = h.question })
    ]

    from : IsSupported all τ x ⊎ ((τ ≡ part) × (x ≡ question)) → IsSupported next τ x
    from (inl h) = record { one = h.one; among = (are h.one).1 (inr h.among); part = h.part; question = h.question }
    from (inr (e, e')) = record { one = new; among = (are new).1 (inl refl); part = is ∙ sym e; question = subst (λ (ys : List ℕ). IsAmong x ys) (sym only) (inl e') }

same_accepted : (a b : Accepted) → a.part ≡ b.part → a.question ≡ b.question → a ≡ b
same_accepted a b e e' = ap (λ (p : ℕ). let z : Accepted = record { part = p; question = a.question } in z) e ∙ ap (λ (q : ℕ). let z : Accepted = record { part = b.part; question = q } in z) e'

-- part after part of an answer
pub part_more : (parts : List ℕ) (k part question : ℕ) (first old new : List Accepted) → k < length parts → part ≡ get_or parts k part
    → ((a : Accepted) → IsAmong a old ↔ (IsAmong a first ⊎ (IsAmong a.part (take k parts) × (a.question ≡ question)))) → new ≡ old ++ record { part = part; question = question } ∷ []
    → (a : Accepted) → IsAmong a new ↔ (IsAmong a first ⊎ (IsAmong a.part (take (k + 1) parts) × (a.question ≡ question)))
part_more parts k part question first old new less is so_far pushed a = subst (λ (xs : List Accepted). IsAmong a xs ↔ (IsAmong a first ⊎ (IsAmong a.part (take (k + 1) parts) × (a.question ≡ question)))) (sym pushed) (to, from)
  where
    one : Accepted
    one = record { part = part; question = question }

    more : (y : ℕ) → IsAmong y (take (k + 1) parts) ↔ (IsAmong y (take k parts) ⊎ (y ≡ part))
    more = among_take_more parts k part less is

    to : IsAmong a (old ++ one ∷ []) → IsAmong a first ⊎ (IsAmong a.part (take (k + 1) parts) × (a.question ≡ question))
    to h = elim ((among_push a old one).0 h) [
      | inl before ↦ elim ((so_far a).0 before) [ inl b ↦ inl b | inr (b, e) ↦ inr ((more a.part).1 (inl b), e) ]
      | inr e ↦ inr ((more a.part).1 (inr (ap (λ (z : Accepted). z.part) e)), ap (λ (z : Accepted). z.question) e)
    ]

    from : IsAmong a first ⊎ (IsAmong a.part (take (k + 1) parts) × (a.question ≡ question)) → IsAmong a (old ++ one ∷ [])
    from (inl h) = (among_push a old one).1 (inl ((so_far a).1 (inl h)))
    from (inr (h, e)) = elim ((more a.part).0 h) [
      | inl b ↦ (among_push a old one).1 (inl ((so_far a).1 (inr (b, e))))
      | inr b ↦ (among_push a old one).1 (inr (same_accepted a one b e))
    ]

-- answer after answer
pub accepted_more : (answers : List Answer) (k : ℕ) (b : Answer) (old new : List Accepted) → k < length answers → b ≡ get_or answers k b → ((a : Accepted) → IsAmong a old ↔ IsAnswered (take k answers) a.part a.question)
    → ((a : Accepted) → IsAmong a new ↔ (IsAmong a old ⊎ (IsAmong a.part b.parts.items × (a.question ≡ b.active)))) → (a : Accepted) → IsAmong a new ↔ IsAnswered (take (k + 1) answers) a.part a.question
accepted_more answers k b old new less is so_far adds a = (to, from)
  where
    more : (y : Answer) → IsAmong y (take (k + 1) answers) ↔ (IsAmong y (take k answers) ⊎ (y ≡ b))
    more = among_take_more answers k b less is

    to : IsAmong a new → IsAnswered (take (k + 1) answers) a.part a.question
    to h = elim ((adds a).0 h) [
      | inl before ↦ (let c = (so_far a).0 before in record { answer = c.answer; among = (more c.answer).1 (inl c.among); active = c.active; part = c.part })
      | inr (part, e) ↦ record { answer = b; among = (more b).1 (inr refl); active = sym e; part = part }
    ]

    from : IsAnswered (take (k + 1) answers) a.part a.question → IsAmong a new
    from h = elim ((more h.answer).0 h.among) [
      | inl before ↦ (adds a).1 (inl ((so_far a).1 (record { answer = h.answer; among = before; active = h.active; part = h.part })))
      | inr e ↦ (adds a).1 (inr (subst (λ (c : Answer). IsAmong a.part c.parts.items) e h.part, sym h.active ∙ ap (λ (c : Answer). c.active) e))
    ]

-- one after the other of these
pub supported_more : (accepted : List Accepted) (k : ℕ) (one : Accepted) (old new : List Supported) → k < length accepted → one ≡ get_or accepted k one → ((τ x : ℕ) → IsSupported old τ x ↔ IsAmong (record { part = τ; question = x }) (take k accepted))
    → ((τ x : ℕ) → IsSupported new τ x ↔ (IsSupported old τ x ⊎ ((τ ≡ one.part) × (x ≡ one.question)))) → (τ x : ℕ) → IsSupported new τ x ↔ IsAmong (record { part = τ; question = x }) (take (k + 1) accepted)
supported_more accepted k one old new less is so_far adds τ x = (to, from)
  where
    this : Accepted
    this = record { part = τ; question = x }

    more : (y : Accepted) → IsAmong y (take (k + 1) accepted) ↔ (IsAmong y (take k accepted) ⊎ (y ≡ one))
    more = among_take_more accepted k one less is

    to : IsSupported new τ x → IsAmong this (take (k + 1) accepted)
    to h = elim ((adds τ x).0 h) [
      | inl before ↦ (more this).1 (inl ((so_far τ x).0 before))
      | inr (e, e') ↦ (more this).1 (inr (same_accepted this one e e'))
    ]

    from : IsAmong this (take (k + 1) accepted) → IsSupported new τ x
    from h = elim ((more this).0 h) [
      | inl before ↦ (adds τ x).1 (inl ((so_far τ x).1 before))
      | inr e ↦ (adds τ x).1 (inr (ap (λ (z : Accepted). z.part) e, ap (λ (z : Accepted). z.question) e))
    ]

-- ---- changes
-- what changes some rules to those of a question changes none of the marks that it takes to come to a further one
pub near_marks : (m : System) (i state applying x y : ℕ) → applying ≡ common (applicable m state) (rules_into m i) → Within (changed applying x) (changed applying y) → Within (marks_at m i state x) (marks_at m i state y)
near_marks m i state applying x y applies within k h = has-marks_of m (minus a y) (minus y a) k ∙ at (eqb (k % 2) 0) (ltb k (2 * length m.bridges)) (sym (has-marks_of m (minus a x) (minus x a) k) ∙ h)
  where
    a : ℕ
    a = common (applicable m state) (rules_into m i)

    inside : (r : ℕ) → has (changed a x) r ≡ true → has (changed a y) r ≡ true
    inside r = subst (λ (s : ℕ). has (changed s x) r ≡ true → has (changed s y) r ≡ true) applies (within r)

    removed : (r : ℕ) → has (minus a x) r ≡ true → has (minus a y) r ≡ true
    removed r e = let h = inside r (let there : has (changed a x) r ≡ true = grind (arith, sets) in there) in grind (arith, sets)

    forced : (r : ℕ) → has (minus x a) r ≡ true → has (minus y a) r ≡ true
    forced r e = let h = inside r (let there : has (changed a x) r ≡ true = grind (arith, sets) in there) in grind (arith, sets)

    at : (even known : Bool) → (known && cond even (has (minus a x) (k / 2)) (has (minus x a) (k / 2))) ≡ true → (known && cond even (has (minus a y) (k / 2)) (has (minus y a) (k / 2))) ≡ true
    at true true e = removed (k / 2) e
    at false true e = forced (k / 2) e
    at true false e = absurd (true≢false (sym e))
    at false false e = absurd (true≢false (sym e))

-- what has to be changed to come to what applies
pub near_none : (m : System) (i state : ℕ) (r : Reach) (applying : ℕ) → applying ≡ common (applicable m state) (rules_into m i) → ¬ HasOneWithin r.known.now 0 → (n : Near) → n.changes ≡ 0 → n.marks ≡ 0 → IsNear m i state r applying applying n
near_none m i state r applying applies new n none none' = record {
  can = (in_reach m i r.level r.known.now state applying).1 (
    subst (λ (s : ℕ). size s ≤ r.level) (sym marks) (omega (arith, size-none)),
    (λ k h. absurd (true≢false (sym (ap (λ (s : ℕ). has s k) (sym marks) ∙ h) ∙ has-empty k))),
    subst (λ (s : ℕ). ¬ HasOneWithin r.known.now s) (sym marks) new,
  );
  changes = none ∙ sym same;
  marks = none' ∙ sym marks;
}
  where
    marks : marks_at m i state applying ≡ 0
    marks = ap (marks_at m i state) applies ∙ no_marks m i state

    same : changed applying applying ≡ 0
    same = same_set (changed applying applying) 0 (λ k. let e = has-empty k in let h : has (changed applying applying) k ≡ false = grind (arith, sets) in h ∙ sym e)

-- a question is out of reach if it is seen without its marks
pub out_of_reach : (m : System) (i state x removed forced : ℕ) (r : Reach) → IsReach m r → ComesTo m i state x removed forced → ((m : System) (s : ℕ) → IsReach m r → HasMarksFor removed forced s → IsOut r s) → is_in_reach m i r.level r.known.now state x ≡ false
out_of_reach m i state x removed forced r reach comes out =
    let a = common (applicable m state) (rules_into m i) in
    let of_removed = removed_known m i state x a removed refl comes.of_rules comes.removes in
    let of_forced = forced_known m i state x a forced refl comes.of_rules comes.forces in
    let marks : marks_of m removed forced ≡ marks_at m i state x = marks_are_at m i state x a removed forced (marks_of m removed forced) refl comes.of_rules comes.removes comes.forces (λ _ _. refl) in
    false_from_ne_true (is_in_reach m i r.level r.known.now state x) (λ e.
    let (few, within, none) = (in_reach m i r.level r.known.now state x).0 e in
    elim (out m (marks_of m removed forced) reach (marks_for m removed forced of_removed of_forced)) [
      | inl never ↦ never (subst (λ (s : ℕ). Within s r.allowed) (sym marks) (subst (λ (s : ℕ). Within (marks_at m i state x) s) (sym reach.allowed) within))
      | inr held ↦ none (subst (HasOneWithin r.known.now) marks held)
    ])

pub no_rows : (m : System) (i level : ℕ) (known : List ℕ) (state : ℕ) (a : Answer) → is_in_reach m i level known state a.active ≡ false → rows_with m i level known state a ≡ []
no_rows m i level known state a e = rw e refl

-- if what applies is asked, nothing has to be changed
pub only_none : (m : System) (i state : ℕ) (r : Reach) (applying : ℕ) → applying ≡ common (applicable m state) (rules_into m i) → ¬ HasOneWithin r.known.now 0 → (n : Near) → n.changes ≡ 0 → n.marks ≡ 0 → (questions : List ℕ) → IsAmong applying questions → (found : List Near) → found ≡ n ∷ [] → AreNearest m i state r applying questions found
only_none m i state r applying applies new n none none' questions among found is = subst (AreNearest m i state r applying questions) (sym is) (record {
  from = λ o h. elim h [ inl e ↦ (applying, among, subst (IsNear m i state r applying applying) (sym e) (near_none m i state r applying applies new n none none')) | inr h' ↦ absurd h' ];
  below = λ x h can. record { one = n; among = inl refl; within = λ k h'. absurd (true≢false (sym (ap (λ (s : ℕ). has s k) (sym none) ∙ h') ∙ has-empty k)) };
})

-- ---- one question more
-- where it is out of reach, or something is there within, all stays
pub adds_none : (m : System) (i state : ℕ) (r : Reach) (applying x : ℕ) (found : List Near) → (CanReach m i state r x → HasNearWithin found (changed applying x)) → AddsNear m i state r applying x found found
adds_none m i state r applying x found there = record {
  from = λ n h. inl h;
  kept = λ n h. record { one = n; among = h; within = λ k e. e };
  below = there;
}

-- else what lies around it goes, and it is put last
pub adds_one : (m : System) (i state : ℕ) (r : Reach) (applying x : ℕ) (old : List Near) (n : Near) → IsNear m i state r applying x n → (new : List Near) → new ≡ filter (λ (o : Near). not (lies_within n.changes o.changes)) old ++ n ∷ [] → AddsNear m i state r applying x old new
adds_one m i state r applying x old n near new is = subst (AddsNear m i state r applying x old) (sym is) (record {
  from = λ o h. elim (among_either o kept (n ∷ []) h) [
    | inl before ↦ inl (filter_among p o old before).0
    | inr (inl e) ↦ inr (subst (IsNear m i state r applying x) (sym e) near)
    | inr (inr none) ↦ absurd none
  ];
  kept = λ o h. at o h (lies_within n.changes o.changes) refl;
  below = λ can. record { one = n; among = last; within = subst (λ (s : ℕ). Within n.changes s) near.changes (λ k e. e) };
})
  where
    p : Near → Bool
    p o = not (lies_within n.changes o.changes)

    kept : List Near
    kept = filter p old

    last : IsAmong n (kept ++ n ∷ [])
    last = among_right n kept (n ∷ []) (inl refl)

    at : (o : Near) → IsAmong o old → (v : Bool) → lies_within n.changes o.changes ≡ v → HasNearWithin (kept ++ n ∷ []) o.changes
    at o h true e = record { one = n; among = last; within = (lies_within-is n.changes o.changes).0 e }
    at o h false e = record { one = o; among = among_left o kept (n ∷ []) (among_filter p o old h (ap not e)); within = λ k h'. h' }

pub nearest_more : (m : System) (i state : ℕ) (r : Reach) (applying : ℕ) (questions : List ℕ) (k x : ℕ) (old new : List Near) → k < length questions → x ≡ get_or questions k x → AreNearest m i state r applying (take k questions) old → AddsNear m i state r applying x old new → AreNearest m i state r applying (take (k + 1) questions) new
nearest_more m i state r applying questions k x old new less is are adds = record {
  from = λ n h. elim (adds.from n h) [
    | inl before ↦ (let (y, there, near) = are.from n before in (y, (more y).1 (inl there), near))
    | inr near ↦ (x, (more x).1 (inr refl), near)
  ];
  below = λ y h can. elim ((more y).0 h) [
    | inl before ↦ (let some = are.below y before can in let next = adds.kept some.one some.among in record { one = next.one; among = next.among; within = λ b e. some.within b (next.within b e) })
    | inr e ↦ subst (λ (z : ℕ). HasNearWithin new (changed applying z)) (sym e) (adds.below (subst (CanReach m i state r) e can))
  ];
}
  where
    more : (y : ℕ) → IsAmong y (take (k + 1) questions) ↔ (IsAmong y (take k questions) ⊎ (y ≡ x))
    more = among_take_more questions k x less is

-- ---- rows
-- those of what is nearest cover those of all questions in reach
pub nearest_cover : (m : System) (i state : ℕ) (r : Reach) (applying : ℕ) (one : Supported) → AppliesAt m i state applying r → agrees m i state one.part ≡ true → (found : List Near) → AreNearest m i state r applying one.questions.items found
    → (rows : List Row) → rows ≡ map (λ (n : Near). row_with m i state n.marks one.part) found → Covers (λ q. IsAmong q rows) (IsRowWith m i r.level r.known.now state one)
nearest_cover m i state r applying one at agree found are rows is = subst (λ (z : List Row). Covers (λ q. IsAmong q z) (IsRowWith m i r.level r.known.now state one)) (sym is) (record {
  from = λ q h.
      let (n, there, e) = map_among row q found h in
      let (x, among, near) = are.from n there in
      record { agree = agree; question = x; among = among; can = near.can; is = e ∙ ap (λ (s : ℕ). row_with m i state s one.part) near.marks };
  below = λ q h.
      let some = are.below h.question h.among h.can in
      let (y, among, near) = are.from some.one some.among in (
        row some.one,
        among_map row some.one found some.among,
        ap (λ (z : Row). z.state) (sym h.is),
        subst (λ (s : ℕ). Within s q.marks) (sym near.marks) (subst (Within (marks_at m i state y)) (ap (λ (z : Row). z.marks) (sym h.is))
            (near_marks m i state applying y h.question at.applies (subst (λ (s : ℕ). Within s (changed applying h.question)) near.changes some.within))),
      );
})
  where
    row : Near → Row
    row n = row_with m i state n.marks one.part

-- a part that does not agree has no rows
pub none_cover : (m : System) (i level : ℕ) (known : List ℕ) (state : ℕ) (one : Supported) → ¬ (agrees m i state one.part ≡ true) → (rows : List Row) → rows ≡ [] → Covers (λ q. IsAmong q rows) (IsRowWith m i level known state one)
none_cover m i level known state one apart rows is = subst (λ (z : List Row). Covers (λ q. IsAmong q z) (IsRowWith m i level known state one)) (sym is) (record {
  from = λ q h. absurd h;
  below = λ q h. absurd (apart h.agree);
})

-- rows of two kinds, one after the other
covers_both : (P Q R : Row → Type 0) (a b c : List Row) → Covers (λ r. IsAmong r a) P → Covers (λ r. IsAmong r b) Q → ((r : Row) → R r ↔ (P r ⊎ Q r)) → c ≡ a ++ b → Covers (λ r. IsAmong r c) R
covers_both P Q R a b c first second each is = subst (λ (z : List Row). Covers (λ r. IsAmong r z) R) (sym is) (record {
  from = λ r h. elim (among_either r a b h) [ inl h' ↦ (each r).1 (inl (first.from r h')) | inr h' ↦ (each r).1 (inr (second.from r h')) ];
  below = λ r h. elim ((each r).0 h) [
    | inl h' ↦ (let (q, there, same, within) = first.below r h' in (q, among_left q a b there, same, within))
    | inr h' ↦ (let (q, there, same, within) = second.below r h' in (q, among_right q a b there, same, within))
  ];
})

pub covers_none : (P : Row → Type 0) (rows : List Row) → rows ≡ [] → ((r : Row) → ¬ P r) → Covers (λ r. IsAmong r rows) P
covers_none P rows is none = subst (λ (z : List Row). Covers (λ r. IsAmong r z) P) (sym is) (record { from = λ r h. absurd h; below = λ r h. absurd (none r h) })

pub one_more : (m : System) (i level : ℕ) (known : List ℕ) (state : ℕ) (all : List Supported) (k : ℕ) (one : Supported) → k < length all → one ≡ get_or all k one → (old some new : List Row) → Covers (λ r. IsAmong r old) (IsRowOfOne m i level known state (take k all)) → Covers (λ r. IsAmong r some) (IsRowWith m i level known state one) → new ≡ old ++ some → Covers (λ r. IsAmong r new) (IsRowOfOne m i level known state (take (k + 1) all))
one_more m i level known state all k one less is old some new so_far step new_is =
    covers_both (IsRowOfOne m i level known state (take k all)) (IsRowWith m i level known state one) (IsRowOfOne m i level known state (take (k + 1) all)) old some new so_far step (λ r. (to r, from r)) new_is
  where
    more : (y : Supported) → IsAmong y (take (k + 1) all) ↔ (IsAmong y (take k all) ⊎ (y ≡ one))
    more = among_take_more all k one less is

    to : (r : Row) → IsRowOfOne m i level known state (take (k + 1) all) r → IsRowOfOne m i level known state (take k all) r ⊎ IsRowWith m i level known state one r
    to r h = elim ((more h.one).0 h.among) [
      | inl before ↦ inl (record { one = h.one; among = before; row = h.row })
      | inr e ↦ inr (subst (λ (z : Supported). IsRowWith m i level known state z r) e h.row)
    ]

    from : (r : Row) → IsRowOfOne m i level known state (take k all) r ⊎ IsRowWith m i level known state one r → IsRowOfOne m i level known state (take (k + 1) all) r
    from r (inl h) = record { one = h.one; among = (more h.one).1 (inl h.among); row = h.row }
    from r (inr h) = record { one = one; among = (more one).1 (inr refl); row = h }

pub state_more : (m : System) (i level : ℕ) (known states : List ℕ) (all : List Supported) (k s : ℕ) → k < length states → s ≡ get_or states k s → (old some new : List Row) → Covers (λ r. IsAmong r old) (IsRowIn m i level known (take k states) all) → Covers (λ r. IsAmong r some) (IsRowOfOne m i level known s all) → new ≡ old ++ some → Covers (λ r. IsAmong r new) (IsRowIn m i level known (take (k + 1) states) all)
state_more m i level known states all k s less is old some new so_far step new_is =
    covers_both (IsRowIn m i level known (take k states) all) (IsRowOfOne m i level known s all) (IsRowIn m i level known (take (k + 1) states) all) old some new so_far step (λ r. (to r, from r)) new_is
  where
    more : (y : ℕ) → IsAmong y (take (k + 1) states) ↔ (IsAmong y (take k states) ⊎ (y ≡ s))
    more = among_take_more states k s less is

    to : (r : Row) → IsRowIn m i level known (take (k + 1) states) all r → IsRowIn m i level known (take k states) all r ⊎ IsRowOfOne m i level known s all r
    to r h = elim ((more h.state).0 h.among) [
      | inl before ↦ inl (record { state = h.state; among = before; row = h.row })
      | inr e ↦ inr (subst (λ (z : ℕ). IsRowOfOne m i level known z all r) e h.row)
    ]

    from : (r : Row) → IsRowIn m i level known (take k states) all r ⊎ IsRowOfOne m i level known s all r → IsRowIn m i level known (take (k + 1) states) all r
    from r (inl h) = record { state = h.state; among = (more h.state).1 (inl h.among); row = h.row }
    from r (inr h) = record { state = s; among = (more s).1 (inr refl); row = h }

-- where no marks at all hold a known set, no row is in reach
pub known_none : (m : System) (i level : ℕ) (known states : List ℕ) (all : List Supported) → HasOneWithin known 0 → (r : Row) → ¬ IsRowIn m i level known states all r
known_none m i level known states all held r h =
    let (few, allowed, none) = (in_reach m i level known h.state h.row.row.question).0 h.row.row.can in
    none (record { inner = held.inner; among = held.among; within = λ k h'. absurd (true≢false (sym (held.within k h') ∙ has-empty k)) })

-- ---- they are the rows of the answers
module _ (m : System) (i level : ℕ) (known : List ℕ) (answers : List Answer) (all : List Supported) (are : AreSupported answers all) where
  row_made : (s : ℕ) (r : Row) → IsRowOfOne m i level known s all r ↔ IsAmong r (rows_of m i level known answers s)
  row_made s r = (to, from)
    where
      to : IsRowOfOne m i level known s all r → IsAmong r (rows_of m i level known answers s)
      to h =
          let a = (are h.one.part h.row.question).0 (record { one = h.one; among = h.among; part = refl; question = h.row.among }) in
          let e = h.row.agree in
          let same : common h.one.part (inputs_of m i) ≡ common s (variables_of m i) = grind (arith, nat_tests) in
          let (few, allowed, none) = (in_reach m i level known s a.answer.active).0 (subst (λ (x : ℕ). is_in_reach m i level known s x ≡ true) (sym a.active) h.row.can) in
          among_flat_map (rows_with m i level known s) a.answer r answers a.among
          (subst (λ (q : Row). IsAmong q (rows_with m i level known s a.answer)) (ap (λ (x : ℕ). row_with m i s (marks_at m i s x) h.one.part) a.active ∙ sym h.row.is)
          (answer_with m level i known s a.answer h.one.part few allowed none a.part same))

      from : IsAmong r (rows_of m i level known answers s) → IsRowOfOne m i level known s all r
      from h =
          let (a, here, there) = flat_map_among (rows_with m i level known s) r answers h in
          let (few, allowed, none, (τ, part, same, e)) = with_answer m level i known s a r there in
          let agree : agrees m i s τ ≡ true = grind (arith, nat_tests) in
          let one = (are τ a.active).1 (record { answer = a; among = here; active = refl; part = part }) in
          record {
            one = one.one;
            among = one.among;
            row = record {
              agree = subst (λ (z : ℕ). agrees m i s z ≡ true) (sym one.part) agree;
              question = a.active;
              among = one.question;
              can = (in_reach m i level known s a.active).1 (few, allowed, none);
              is = e ∙ ap (row_with m i s (marks_at m i s a.active)) (sym one.part);
            };
          }

  pub rows_made : (states : List ℕ) (rows : List Row) → Covers (λ r. IsAmong r rows) (IsRowIn m i level known states all) → Covers (λ r. IsAmong r rows) (λ r. IsAmong r (flat_map (rows_of m i level known answers) states))
  rows_made states rows covers = record {
    from = λ r h. (let row = covers.from r h in among_flat_map (rows_of m i level known answers) row.state r states row.among ((row_made row.state r).0 row.row));
    below = λ r h. (let (s, among, there) = flat_map_among (rows_of m i level known answers) r states h in covers.below r (record { state = s; among = among; row = (row_made s r).1 there }));
  }

  -- the questions are of rules into the context, as those of the answers are
  pub rules_supported : AllByRecursion (λ (a : Answer). Within a.active (rules_into m i)) answers → AllByRecursion (AreOfRules m i) all
  rules_supported of_rules = all_from_among (AreOfRules m i) all (λ one here. all_from_among (λ x. Within x (rules_into m i)) one.questions.items (λ x among.
      let a = (are one.part x).0 (record { one = one; among = here; part = refl; question = among }) in
      subst (λ (z : ℕ). Within z (rules_into m i)) a.active (all_among (λ (b : Answer). Within b.active (rules_into m i)) answers a.answer of_rules a.among)))

-- what was made of them, of the same system, level, sets, states and parts by other names
pub made_of_answers : (m n : System) (i level level' : ℕ) (known known' states states' : List ℕ) (answers : List Answer) (all all' : List Supported) (rows : List Row) → AreSupported answers all → n ≡ m → level' ≡ level → known' ≡ known → states' ≡ states → all' ≡ all
    → Covers (λ r. IsAmong r rows) (IsRowIn n i level' known' states' all') → Covers (λ r. IsAmong r rows) (λ r. IsAmong r (flat_map (rows_of m i level known answers) states))
made_of_answers m n i level level' known known' states states' answers all all' rows are same_system same_level same_known same_states same_all covers =
    rows_made m i level known answers all are states rows
    (subst (λ (ss : List ℕ). Covers (λ r. IsAmong r rows) (IsRowIn m i level known ss all)) same_states
    (subst (λ (xs : List Supported). Covers (λ r. IsAmong r rows) (IsRowIn m i level known states' xs)) same_all
    (subst (λ (ks : List ℕ). Covers (λ r. IsAmong r rows) (IsRowIn m i level ks states' all')) same_known
    (subst (λ (l : ℕ). Covers (λ r. IsAmong r rows) (IsRowIn m i l known' states' all')) same_level
    (subst (λ (z : System). Covers (λ r. IsAmong r rows) (IsRowIn z i level' known' states' all')) same_system covers)))))
