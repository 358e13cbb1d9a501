-- What was asked before, and what is new.
use Rattle.std.proofs.Common.{◌≡◌, ℕ, ◌+◌, ◌<◌, nat_eq, Bool, true, false, cond, List, [], ◌∷◌, ◌++◌, drop, take, length, get_or, map, slice_get, Result, Ok, Err, IfOk, IsOk, inl, inr, Option, Some, zero, suc, refl, sym, ap, ◌∙◌, subst, arith}
use Rattle.std.proofs.lemmas.List.{append_assoc, drop_more, drop-drop, map_push, take_more}
use Rattle.std.proofs.lemmas.Bool.Decides.{nat_tests}
use Rattle.mcs_base.specs.Listings.{IsAmong, IsInventory, IsListing}
use Rattle.mcs_base.proofs.Among.{among_either, among_left, among_right, cases_among}
use Rattle.mcs_base.proofs.Distinct.{ascending_distinct, distinct_append}
use Rattle.mcs_base.proofs.Each.{all_among, all_from_among, all_push}
use Rattle.mcs_states.specs.Oracles.{OracleState, IsLacking, with_journal}
use Rattle.mcs_rows.specs.Local.{Answered}
use Rattle.mcs_system.specs.Plain.{System}
use Rattle.mcs_node.specs.Known.{AreRight, HasAsked, HasAskedAll, IsAmongAsked, IsRight, IsTaken, first_is, new_of, questions_in}

-- the first of those from a place on is the one there
pub first_there : {A : Type 0} (f : A → ℕ) (xs : List A) (k x : ℕ) (a : A) → slice_get xs k ≡ Some a → first_is x (drop k (map f xs)) ≡ nat_eq (f a) x
first_there f [] k x a is = absurd (cc)
first_there f (y ∷ ys) zero x a is = let e : y ≡ a = cc in ap (λ z. nat_eq (f z) x) e
first_there f (y ∷ ys) (suc k) x a is = first_there f ys k x a is

module _ (before asked : List ℕ) (at k d x : ℕ) (less : k < length asked) (is : x ≡ get_or asked k d) where
  here : drop k asked ≡ x ∷ drop (k + 1) asked
  here = drop_more asked k d less ∙ ap (λ y. y ∷ drop (k + 1) asked) (sym is)

  -- a question that was asked before
  pub asked_there : first_is x (drop at before) ≡ true → new_of (drop at before) (drop k asked) ≡ new_of (drop (at + 1) before) (drop (k + 1) asked)
  asked_there was = ap (new_of (drop at before)) here ∙ ap (λ (b : Bool). cond b (new_of (drop 1 (drop at before)) (drop (k + 1) asked)) (x ∷ new_of (drop at before) (drop (k + 1) asked))) was
      ∙ ap (λ zs. new_of zs (drop (k + 1) asked)) (drop-drop 1 at before)

  -- one that was not
  pub new_there : first_is x (drop at before) ≡ false → new_of (drop at before) (drop k asked) ≡ x ∷ new_of (drop at before) (drop (k + 1) asked)
  new_there other = ap (new_of (drop at before)) here ∙ ap (λ (b : Bool). cond b (new_of (drop 1 (drop at before)) (drop (k + 1) asked)) (x ∷ new_of (drop at before) (drop (k + 1) asked))) other

  pub told_new : (new now : List ℕ) → first_is x (drop at before) ≡ false → now ≡ new ++ x ∷ [] → new ++ new_of (drop at before) (drop k asked) ≡ new_of before asked → now ++ new_of (drop at before) (drop (k + 1) asked) ≡ new_of before asked
  told_new new now other grown told = ap (λ zs. zs ++ new_of (drop at before) (drop (k + 1) asked)) grown ∙ append_assoc new (x ∷ []) (new_of (drop at before) (drop (k + 1) asked)) ∙ ap (λ zs. new ++ zs) (sym (new_there other)) ∙ told

-- ---- old and new answers, in one order
-- the first k questions have their answers, and those that are left are to the others
pub record IsMerging (asked : List ℕ) (k : ℕ) (old fresh all before new : List Answered) : Type 0 where
  pub questions : questions_in all ≡ take k asked
  pub left : questions_in new ≡ new_of (questions_in before) (drop k asked)
  pub right : (m : System) (i : ℕ) → AreRight m i old → AreRight m i fresh → AreRight m i all × AreRight m i before × AreRight m i new

module _ (asked : List ℕ) (k d x : ℕ) (old fresh all before new : List Answered) (less : k < length asked) (is : x ≡ get_or asked k d) (s : IsMerging asked k old fresh all before new) where
  now_left : drop k asked ≡ x ∷ drop (k + 1) asked
  now_left = drop_more asked k d less ∙ ap (λ y. y ∷ drop (k + 1) asked) (sym is)

  left_if : (b : Bool) → first_is x (questions_in before) ≡ b → questions_in new ≡ cond b (new_of (drop 1 (questions_in before)) (drop (k + 1) asked)) (x ∷ new_of (questions_in before) (drop (k + 1) asked))
  left_if b e = s.left ∙ ap (new_of (questions_in before)) now_left ∙ ap (λ (b : Bool). cond b (new_of (drop 1 (questions_in before)) (drop (k + 1) asked)) (x ∷ new_of (questions_in before) (drop (k + 1) asked))) e

  one_given : (a : Answered) → a.question ≡ x → questions_in (all ++ a ∷ []) ≡ take (k + 1) asked
  one_given a to = map_push (λ (b : Answered). b.question) all a ∙ ap (λ zs. zs ++ a.question ∷ []) s.questions ∙ ap (λ y. take k asked ++ y ∷ []) (to ∙ is) ∙ sym (take_more asked k d less)

  pub merged_on : (a : Answered) (now before' new' : List Answered) → a.question ≡ x → now ≡ all ++ a ∷ [] → IsTaken x a before before' new new' → IsMerging asked (k + 1) old fresh now before' new'
  merged_on a now before' new' to grown (inl h) = rw grown (record {
    questions = one_given a to;
    left = ap questions_in (sym h.2) ∙ left_if true h.0 ∙ ap (λ (zs : List Answered). new_of (drop 1 (questions_in zs)) (drop (k + 1) asked)) h.1;
    right = λ m i r t. let (all_right, before_right, new_right) = s.right m i r t in
        let parts : AreRight m i (a ∷ before') = subst (λ zs. AreRight m i zs) h.1 before_right in
        (all_push (IsRight m i) all a all_right parts.0, parts.1, subst (λ zs. AreRight m i zs) h.2 new_right);
  })
  merged_on a now before' new' to grown (inr h) = rw grown (record {
    questions = one_given a to;
    left = tail_of (questions_in new') (ap questions_in (sym h.2) ∙ left_if false h.0) ∙ ap (λ (zs : List Answered). new_of (questions_in zs) (drop (k + 1) asked)) h.1;
    right = λ m i r t. let (all_right, before_right, new_right) = s.right m i r t in
        let parts : AreRight m i (a ∷ new') = subst (λ zs. AreRight m i zs) h.2 new_right in
        (all_push (IsRight m i) all a all_right parts.0, subst (λ zs. AreRight m i zs) h.1 before_right, parts.1);
  })
    where
      tail_of : (ys : List ℕ) → a.question ∷ ys ≡ x ∷ new_of (questions_in before) (drop (k + 1) asked) → ys ≡ new_of (questions_in before) (drop (k + 1) asked)
      tail_of ys e = cc

-- ---- what is new is asked and was not asked before
new_found : (x y : ℕ) (xs ys : List ℕ) → IsAmongAsked (y ∷ ys) (x ∷ xs) → nat_eq y x ≡ true → IsAmongAsked ys xs
new_found x y xs ys h same = let e : y ≡ x = grind (arith, nat_tests, same) in record {
  before_ascending = h.before_ascending.1;
  ascending = h.ascending.1;
  among = λ z in_ys. elim (h.among z (inr in_ys)) [
    | inl this ↦ let l : y < z = all_among (λ w. y < w) ys z h.before_ascending.0 in_ys in absurd (omega (arith, l, this, e))
    | inr later ↦ later
  ];
}

new_first : (x y : ℕ) (xs ys : List ℕ) → IsAmongAsked (y ∷ ys) (x ∷ xs) → nat_eq y x ≡ false → x < y
new_first x y xs ys h other = elim (h.among y (inl refl)) [
  | inl same ↦ let s : nat_eq y x ≡ true = grind (arith, nat_tests, same) in absurd (cc)
  | inr later ↦ all_among (λ w. x < w) xs y h.ascending.0 later
]

new_left : (x y : ℕ) (xs ys : List ℕ) → IsAmongAsked (y ∷ ys) (x ∷ xs) → nat_eq y x ≡ false → (z : ℕ) → IsAmong z (y ∷ ys) → x < z
new_left x y xs ys h other z (inl e) = let k = new_first x y xs ys h other in omega (arith, k, e)
new_left x y xs ys h other z (inr in_ys) =
    let l : y < z = all_among (λ w. y < w) ys z h.before_ascending.0 in_ys in
    let k = new_first x y xs ys h other in omega (arith, l, k)

pub new_is_new : (asked before : List ℕ) → IsAmongAsked before asked → IsListing (λ x. IsAmong x asked × (¬ IsAmong x before)) (λ a b. a < b) (new_of before asked)
new_is_new [] before h = record { exactly = λ z. (λ n. absurd n, λ p. absurd p.0); ascending = tt }
new_is_new (x ∷ xs) [] h =
    let rest = new_is_new xs [] (record { before_ascending = tt; ascending = h.ascending.1; among = λ z none. absurd none }) in record {
      exactly = λ z. (
        λ n. elim n [ inl e ↦ (inl e, λ none. none) | inr later ↦ (inr ((rest.exactly z).0 later).0, λ none. none) ],
        λ p. elim p.0 [ inl e ↦ inl e | inr later ↦ inr ((rest.exactly z).1 (later, p.1)) ],
      );
      ascending = (all_from_among (λ w. x < w) (new_of [] xs) (λ w n. all_among (λ v. x < v) xs w h.ascending.0 ((rest.exactly w).0 n).0), rest.ascending);
    }
new_is_new (x ∷ xs) (y ∷ ys) h = at (nat_eq y x) refl (λ k. new_is_new xs ys k) (λ k. new_is_new xs (y ∷ ys) k)
  where
    IsNew : List ℕ → List ℕ → List ℕ → Type 0
    IsNew old asked new = IsListing (λ z. IsAmong z asked × (¬ IsAmong z old)) (λ a b. a < b) new

    at : (b : Bool) → nat_eq y x ≡ b → (IsAmongAsked ys xs → IsNew ys xs (new_of ys xs)) → (IsAmongAsked (y ∷ ys) xs → IsNew (y ∷ ys) xs (new_of (y ∷ ys) xs)) → IsListing (λ z. IsAmong z (x ∷ xs) × (¬ IsAmong z (y ∷ ys))) (λ a b. a < b) (cond b (new_of ys xs) (x ∷ new_of (y ∷ ys) xs))
    at true same found left =
        let e : y ≡ x = grind (arith, nat_tests, same) in
        let rest = found (new_found x y xs ys h same) in record {
          exactly = λ z. (
            λ n. let (later, not_ys) = (rest.exactly z).0 n in
                let l : x < z = all_among (λ w. x < w) xs z h.ascending.0 later in
                (inr later, λ there. elim there [ inl this ↦ absurd (omega (arith, l, this, e)) | inr in_ys ↦ not_ys in_ys ]),
            λ p. elim p.0 [ inl this ↦ absurd (p.1 (inl (this ∙ sym e))) | inr later ↦ (rest.exactly z).1 (later, λ in_ys. p.1 (inr in_ys)) ],
          );
          ascending = rest.ascending;
        }
    at false other found left =
        let rest = left (record {
          before_ascending = h.before_ascending;
          ascending = h.ascending.1;
          among = λ z there. elim (h.among z there) [
            | inl this ↦ let l : x < z = new_left x y xs ys h other z there in absurd (omega (arith, l, this))
            | inr later ↦ later
          ];
        }) in record {
          exactly = λ z. (
            λ n. elim n [
              | inl this ↦ (inl this, λ there. let l : x < z = new_left x y xs ys h other z there in absurd (omega (arith, l, this)))
              | inr later ↦ let (asked_later, not_before) = (rest.exactly z).0 later in (inr asked_later, not_before)
            ],
            λ p. elim p.0 [ inl this ↦ inl this | inr later ↦ inr ((rest.exactly z).1 (later, p.1)) ],
          );
          ascending = (all_from_among (λ w. x < w) (new_of (y ∷ ys) xs) (λ w n. all_among (λ v. x < v) xs w h.ascending.0 ((rest.exactly w).0 n).0), rest.ascending);
        }

-- the oracle that was asked what is new was asked all
pub asked_all : (m : System) (i : ℕ) (o p : OracleState) (old news all : List Answered) (asked : List ℕ) → HasAsked m i o old → IsAmongAsked (questions_in old) asked → HasAskedAll o p (new_of (questions_in old) asked) news → questions_in all ≡ asked → HasAsked m i p all
asked_all m i o p old news all asked was among new is =
    let listed = new_is_new asked (questions_in old) among in
    let same : with_journal [] p ≡ with_journal [] o = ap (with_journal []) new.journal in
    let holds : o.holds ≡ p.holds = sym (ap (λ z. z.holds) same) in
    record {
      system = ap (λ z. z.system) same ∙ was.system;
      context = ap (λ z. z.context) same ∙ was.context;
      journal = subst (λ (xs : List ℕ). IsInventory (λ x. IsAmong x (questions_in all)) xs) (sym (ap (λ z. z.journal) new.journal)) (record {
        exactly = λ x. (
          λ h. subst (λ xs. IsAmong x xs) (sym is) (elim (among_either x o.journal (new_of (questions_in old) asked) h) [
            | inl early ↦ among.among x ((was.journal.exactly x).0 early)
            | inr late ↦ ((listed.exactly x).0 late).0
          ]),
          λ h. let there = subst (λ xs. IsAmong x xs) is h in elim (cases_among x (questions_in old)) [
            | inl early ↦ among_left x o.journal (new_of (questions_in old) asked) ((was.journal.exactly x).1 early)
            | inr late ↦ among_right x o.journal (new_of (questions_in old) asked) ((listed.exactly x).1 (there, late))
          ],
        );
        apart = distinct_append o.journal (new_of (questions_in old) asked) was.journal.apart (ascending_distinct (new_of (questions_in old) asked) listed.ascending)
            (λ x early late. ((listed.exactly x).0 late).1 ((was.journal.exactly x).0 early));
      });
      held = λ x h. let there = subst (λ xs. IsAmong x xs) is h in subst (λ (sets : Option (List ℕ)). ¬ IsLacking sets x) holds (elim (cases_among x (questions_in old)) [
        | inl early ↦ was.held x early
        | inr late ↦ new.held x ((listed.exactly x).1 (there, late))
      ]);
    }

pub ok_has : {A E : Type 0} (P : A → Type 0) (r : Result A E) → IsOk r → IfOk r P → (x : A) × P x
ok_has P (Ok x) ok h = (x, h)
ok_has P (Err e) ok h = absurd (cc)

-- the number of the new questions is what the asked ones are more
pub new_count : (asked before : List ℕ) → IsAmongAsked before asked → length (new_of before asked) + length before ≡ length asked
new_count [] [] h = refl
new_count [] (y ∷ ys) h = absurd (h.among y (inl refl))
new_count (x ∷ xs) [] h = let rest = new_count xs [] (record { before_ascending = tt; ascending = h.ascending.1; among = λ z none. absurd none }) in omega (arith, rest)
new_count (x ∷ xs) (y ∷ ys) h = at (nat_eq y x) refl (λ k. new_count xs ys k) (λ k. new_count xs (y ∷ ys) k)
  where
    at : (b : Bool) → nat_eq y x ≡ b → (IsAmongAsked ys xs → length (new_of ys xs) + length ys ≡ length xs) → (IsAmongAsked (y ∷ ys) xs → length (new_of (y ∷ ys) xs) + length (y ∷ ys) ≡ length xs)
        → length (cond b (new_of ys xs) (x ∷ new_of (y ∷ ys) xs)) + length (y ∷ ys) ≡ length (x ∷ xs)
    at true same found left = let rest = found (new_found x y xs ys h same) in omega (arith, rest)
    at false other found left =
        let rest = left (record {
          before_ascending = h.before_ascending;
          ascending = h.ascending.1;
          among = λ z there. elim (h.among z there) [
            | inl this ↦ let l : x < z = new_left x y xs ys h other z there in absurd (omega (arith, l, this))
            | inr later ↦ later
          ];
        }) in omega (arith, rest)
