-- Each kind of step keeps the rule of a wire.
use Rattle.std.proofs.Common.{◌≡◌, ◌≢◌, ℕ, zero, suc, ◌+◌, ◌<◌, List, [], ◌∷◌, ◌++◌, set, length, refl, sym, ap, ◌∙◌, subst, ⊎_elim, arith}
use Rattle.std.proofs.lemmas.List.Elements.{All-append, All-nil, All-cons}
use Rattle.std.proofs.lemmas.List.Sums.{sum_by-append, sum_by-cons, sum_by_push}
use Rattle.std.specs.List.{sum_by}
use mathlib.Core.Option.{some, some-ne-none, some-injective}
use lib.ListN.{get_elem?}
use Rattle.atomic_table.proofs.Lists.{at_set, at_snoc, set_again, set_else}
use Rattle.mcs_base.proofs.Sums.{sum_by-ones}
use Rattle.mcs_system.specs.Plain.{System}
use Rattle.mcs_node.specs.Letters.{LetterData}
use Rattle.mcs_wire.specs.declared.view.View.{View}
use Rattle.mcs_wire.specs.Wires.{AllName, IsEndOf, WireRule, address_view, after_join, after_send, after_split, after_take, inbox_view, joined_away, no_system, split_off}
use Rattle.mcs_wire.specs.Laws.{IsState, WiresBeginWithTheRule, NamesKeepTheRule, SendsKeepTheRule, TakesKeepTheRule, LooksKeepTheRule, SplitsKeepTheRule, JoinsKeepTheRule, PartsFitAWord, WholeEndsKnowAllLetters}
use Rattle.mcs_wire.proofs.Weights.{Each, each_set, sum_at, sum_none, sum_set, sum_two, sum_whole}

-- ---- the numbers of an end
abbrev reads : View → ℕ
reads v = v.reads

abbrev parts : View → ℕ
parts v = v.parts

abbrev sent : (LetterData → ℕ) → View → ℕ
sent weight v = sum_by weight v.sent

abbrev taken : (LetterData → ℕ) → View → ℕ
taken weight v = sum_by weight v.taken

-- ---- letters that name a plan
abbrev Names : System → LetterData → Type 0
Names plan letter = letter.plan ≡ plan

names_none : (plan : System) → AllName plan []
names_none plan = All-nil (Names plan)

names_one : (plan : System) (x : LetterData) → x.plan ≡ plan → AllName plan (x ∷ [])
names_one plan x e = All-cons (Names plan) x [] e (names_none plan)

names_both : (plan : System) (xs ys : List LetterData) → AllName plan xs → AllName plan ys → AllName plan (xs ++ ys)
names_both plan xs ys a b = All-append (Names plan) xs ys a b

names_first : (plan : System) (x : LetterData) (xs : List LetterData) → AllName plan (x ∷ xs) → x.plan ≡ plan
names_first plan x xs a = a 0 x (omega arith)

names_rest : (plan : System) (x : LetterData) (xs : List LetterData) → AllName plan (x ∷ xs) → AllName plan xs
names_rest plan x xs a k d h = a (suc k) d (omega (arith, h))

names_empty : (plan : System) (xs : List LetterData) → length xs ≡ 0 → AllName plan xs
names_empty plan xs e k d h = absurd (omega (arith, e, h))

-- ---- ends
address_is : (plan : System) (addresses parts : ℕ) → IsEndOf plan addresses (address_view plan addresses parts [])
address_is plan addresses parts = record { taken = (λ _. refl); sent = (λ _. refl); names = (λ _. (refl, refl)); letters = (names_none plan, names_none plan) }

inbox_is : (plan : System) (addresses : ℕ) → IsEndOf plan addresses (inbox_view plan addresses [])
inbox_is plan addresses = record { taken = (λ _. refl); sent = (λ _. refl); names = (λ _. (refl, refl)); letters = (names_none plan, names_none plan) }

away_is : (plan : System) (addresses : ℕ) → IsEndOf plan addresses joined_away
away_is plan addresses = record { taken = (λ _. refl); sent = (λ _. refl); names = (λ h. absurd (omega (arith, h))); letters = (names_none plan, names_none plan) }

-- an end without reads and parts is one of any wire
nobody_is : (plan other : System) (addresses n : ℕ) (v : View) → v.reads ≡ 0 → v.parts ≡ 0 → IsEndOf other n v → IsEndOf plan addresses v
nobody_is plan other addresses n v no_reads no_parts is = record {
  taken = is.taken;
  sent = is.sent;
  names = (λ h. absurd (omega (arith, h, no_reads, no_parts)));
  letters = (names_empty plan v.sent (ap length (is.sent no_parts)), names_empty plan v.taken (ap length (is.taken no_reads)));
}

-- the plan and the number that an end of a wire names
names_of : (plan : System) (addresses port : ℕ) (queue : List LetterData) (views : List View) (v : View) → IsState plan addresses queue views port v → 0 < v.reads + v.parts → (v.plan ≡ plan) × (v.addresses ≡ addresses)
names_of plan addresses port queue views v s begun = (s.rule.each port v s.at).names begun

-- ---- the beginning
pub begins : WiresBeginWithTheRule
begins = record { small = omega arith; reads = refl; parts = refl; balance = (λ weight. refl); queued = names_none no_system; each = each }
  where
    each : Each (IsEndOf no_system 0) (inbox_view no_system 0 [] ∷ [])
    each zero v at = subst (IsEndOf no_system 0) (some-injective _ v at) (inbox_is no_system 0)
    each (suc i) v at = absurd (some-ne-none v (sym at))

-- without addresses nothing is queued
nothing_queued : (plan : System) (queue : List LetterData) (views : List View) → WireRule plan 0 queue views → length queue ≡ 0
nothing_queued plan queue views r =
    let ones : LetterData → ℕ = λ x. 1 in
    let none_sent : sum_by (sent ones) views ≡ 0 = sum_none (sent ones) parts views (λ i v at no_parts. ap (sum_by ones) ((r.each i v at).sent no_parts)) r.parts in
    omega (arith, r.balance ones, none_sent, sum_by-ones queue)

pub names : NamesKeepTheRule
names plan addresses port queue views s small =
    let v = inbox_view no_system 0 [] in
    let w = inbox_view plan addresses [] in
    let u = address_view plan addresses addresses [] in
    let vs = set views port w in
    let r = s.rule in
    let others : (j : ℕ) (y : View) → (j ≢ port) × (get_elem? views j ≡ some y) → IsEndOf plan addresses y =
    λ j y h. nobody_is plan no_system addresses 0 y (omega (arith, r.reads, sum_two reads views port j v y h.0 s.at h.1)) (omega (arith, r.parts, sum_at parts views j y h.1)) (r.each j y h.1) in
    let old : Each (IsEndOf plan addresses) vs =
    λ j y at. ⊎_elim (λ (h : (j ≡ port) × (w ≡ y)). subst (IsEndOf plan addresses) h.1 (inbox_is plan addresses)) (others j y) (at_set views port j w y at) in
    record {
      small = small;
      reads = omega (arith, r.reads, sum_set reads views port v w s.at, sum_by_push reads vs u);
      parts = omega (arith, r.parts, sum_set parts views port v w s.at, sum_by_push parts vs u);
      balance = (λ weight. omega (arith, r.balance weight, sum_set (sent weight) views port v w s.at, sum_set (taken weight) views port v w s.at, sum_by_push (sent weight) vs u, sum_by_push (taken weight) vs u));
      queued = names_empty plan queue (nothing_queued no_system queue views r);
      each = (λ j y at. ⊎_elim (λ h. old j y h) (λ (h : u ≡ y). subst (IsEndOf plan addresses) h (address_is plan addresses addresses)) (at_snoc vs u y j at));
    }

-- ---- letters
pub sends : SendsKeepTheRule
sends plan addresses port queue views v x s some_part named =
    let w = after_send x v in
    let r = s.rule in
    let is = r.each port v s.at in
    let own = is.names (omega (arith, some_part)) in
    let here : x.plan ≡ plan = named ∙ own.0 in
    record {
      small = r.small;
      reads = omega (arith, r.reads, sum_set reads views port v w s.at);
      parts = omega (arith, r.parts, sum_set parts views port v w s.at);
      balance = (λ weight. omega (arith, r.balance weight, sum_set (sent weight) views port v w s.at, sum_set (taken weight) views port v w s.at, sum_by_push weight v.sent x, sum_by_push weight queue x));
      queued = names_both plan queue (x ∷ []) r.queued (names_one plan x here);
      each = each_set (IsEndOf plan addresses) (IsEndOf plan addresses) views port w
          (record { taken = is.taken; sent = (λ e. absurd (omega (arith, e, some_part))); names = (λ _. own); letters = (names_both plan v.sent (x ∷ []) is.letters.0 (names_one plan x here), is.letters.1) })
          (λ y h. h) r.each;
    }

pub takes : TakesKeepTheRule
takes plan addresses port queue views v x s some_reads =
    let w = after_take x v in
    let r = s.rule in
    let is = r.each port v s.at in
    let own = is.names (omega (arith, some_reads)) in
    let here : x.plan ≡ plan = names_first plan x queue r.queued in (
      record {
        small = r.small;
        reads = omega (arith, r.reads, sum_set reads views port v w s.at);
        parts = omega (arith, r.parts, sum_set parts views port v w s.at);
        balance = (λ weight. omega (arith, r.balance weight, sum_set (sent weight) views port v w s.at, sum_set (taken weight) views port v w s.at, sum_by_push weight v.taken x, sum_by-cons weight x queue));
        queued = names_rest plan x queue r.queued;
        each = each_set (IsEndOf plan addresses) (IsEndOf plan addresses) views port w
            (record { taken = (λ e. absurd (omega (arith, e, some_reads))); sent = is.sent; names = (λ _. own); letters = (is.letters.0, names_both plan v.taken (x ∷ []) is.letters.1 (names_one plan x here)) })
            (λ y h. h) r.each;
      },
      here ∙ sym own.0,
    )

pub looks : LooksKeepTheRule
looks plan addresses port queue views v s = subst (WireRule plan addresses queue) (sym (set_again views port v s.at)) s.rule

-- ---- parts
pub splits : SplitsKeepTheRule
splits plan addresses port queue views v s two =
    let w = after_split v in
    let u = split_off v in
    let vs = set views port w in
    let r = s.rule in
    let is = r.each port v s.at in
    let own = is.names (omega (arith, two)) in
    let old : Each (IsEndOf plan addresses) vs = each_set (IsEndOf plan addresses) (IsEndOf plan addresses) views port w
    (record { taken = is.taken; sent = (λ e. absurd (omega (arith, e, two))); names = (λ _. own); letters = is.letters }) (λ y h. h) r.each in
    let new : IsEndOf plan addresses u = record { taken = (λ _. refl); sent = (λ _. refl); names = (λ _. own); letters = (names_none plan, names_none plan) } in
    record {
      small = r.small;
      reads = omega (arith, r.reads, sum_set reads views port v w s.at, sum_by_push reads vs u);
      parts = omega (arith, r.parts, two, sum_set parts views port v w s.at, sum_by_push parts vs u);
      balance = (λ weight. omega (arith, r.balance weight, sum_set (sent weight) views port v w s.at, sum_set (taken weight) views port v w s.at, sum_by_push (sent weight) vs u, sum_by_push (taken weight) vs u));
      queued = r.queued;
      each = (λ j y at. ⊎_elim (λ h. old j y h) (λ (h : u ≡ y). subst (IsEndOf plan addresses) h new) (at_snoc vs u y j at));
    }

pub joins : JoinsKeepTheRule
joins plan addresses port other queue views v w s begun apart at =
    let u = after_join w v in
    let once = set views port u in
    let there : get_elem? once other ≡ some w = set_else views port other u apart ∙ at in
    let r = s.rule in
    let is = r.each port v s.at in
    let its = r.each other w at in
    let own = is.names begun in
    let joined : IsEndOf plan addresses u = record {
      taken = (λ e. ap (λ l. l ++ w.taken) (is.taken (omega (arith, e))) ∙ its.taken (omega (arith, e)));
      sent = (λ e. ap (λ l. l ++ w.sent) (is.sent (omega (arith, e))) ∙ its.sent (omega (arith, e)));
      names = (λ _. own);
      letters = (names_both plan v.sent w.sent is.letters.0 its.letters.0, names_both plan v.taken w.taken is.letters.1 its.letters.1);
    } in
    record {
      small = r.small;
      reads = omega (arith, r.reads, sum_set reads views port v u s.at, sum_set reads once other w joined_away there);
      parts = omega (arith, r.parts, sum_set parts views port v u s.at, sum_set parts once other w joined_away there);
      balance = (λ weight. omega (
        arith,
        r.balance weight,
        sum_set (sent weight) views port v u s.at,
        sum_set (taken weight) views port v u s.at,
        sum_set (sent weight) once other w joined_away there,
        sum_set (taken weight) once other w joined_away there,
        sum_by-append weight v.sent w.sent,
        sum_by-append weight v.taken w.taken,
      ));
      queued = r.queued;
      each = each_set (IsEndOf plan addresses) (IsEndOf plan addresses) once other joined_away (away_is plan addresses) (λ y h. h)
          (each_set (IsEndOf plan addresses) (IsEndOf plan addresses) views port u joined (λ y h. h) r.each);
    }

-- ---- what ends know
pub fits : PartsFitAWord
fits plan addresses port queue views v s = omega (arith, s.rule.small, s.rule.parts, sum_at parts views port v s.at)

pub knows : WholeEndsKnowAllLetters
knows plan addresses port queue views v s reads_is parts_is weight =
    let r = s.rule in
    let own = names_of plan addresses port queue views v s (omega (arith, reads_is)) in
    let all_sent : sum_by (sent weight) views ≡ sum_by weight v.sent = sum_whole (sent weight) parts views port v (λ j y at none. ap (sum_by weight) ((r.each j y at).sent none)) s.at (r.parts ∙ sym own.1 ∙ sym parts_is) in
    let all_taken : sum_by (taken weight) views ≡ sum_by weight v.taken = sum_whole (taken weight) reads views port v (λ j y at none. ap (sum_by weight) ((r.each j y at).taken none)) s.at (r.reads ∙ sym reads_is) in
    omega (arith, r.balance weight, all_sent, all_taken)
