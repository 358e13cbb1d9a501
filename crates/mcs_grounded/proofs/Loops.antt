-- One step of each loop over rules, numbers and places.
use Rattle.std.proofs.Common.{◌≡◌, ℕ, ◌+◌, ◌-◌, ◌<◌, ◌≤◌, zero, suc, Bool, true, false, not, ◌||◌, cond, filter, List, [], ◌∷◌, ◌++◌, length, take, drop, append-nil, get_or, slice_get, slice_set, Some, inl, inr, arith, refl, sym, ap, ◌∙◌, subst, true≢false}
use Rattle.std.proofs.lemmas.Bool.{cases_lt}
use Rattle.std.proofs.lemmas.List.{take_more, take_all, drop_all, get_or-set_same, get_or-set_other}
use Rattle.std.proofs.lemmas.Option.{same_Some}
use Rattle.std.specs.List.{AllZip, list_any}
use Rattle.mcs_sets.specs.Sets.{has, minus, single, size, union, Within}
use Rattle.mcs_sets.proofs.Lattice.{in_minus, in_union, in_with, minus-minus, minus-union_back, nothing_missing, none_from_size, size-union_apart, within_union_left, within_union_right}
use Rattle.mcs_base.specs.Listings.{IsAmong}
use Rattle.mcs_base.proofs.Among.{among_at}
use Rattle.mcs_base.proofs.Each.{all_among, all_push}
use Rattle.mcs_system.specs.Plain.{Name, ProgramRule}
use Rattle.mcs_system.specs.Logic.{is_in, true_names}
use Rattle.mcs_grounded.specs.Derivations.{rules_for}
use Rattle.mcs_grounded.specs.Parts.{IsNormalRule, DoesFire, AreClosedUnder, HaveHeadsOf, IsLeastModel, AreDependent, HaveBodiesOf, IsDependent}
use Rattle.mcs_grounded.specs.declared.placed.NormalRule.{NormalRule}

-- what holds of the members before, and of them with the next one
pub next_of : {A : Type 0} (P : List A → Type 0) (xs : List A) (k : ℕ) (x : A) → k < length xs → x ≡ get_or xs k x → P (take k xs ++ x ∷ []) → P (take (k + 1) xs)
next_of P xs k x less is h = rw (take_more xs k x less, ← is) h

-- one of them is that at its place
pub own_of : {A : Type 0} (xs : List A) (k : ℕ) (x : A) → k < length xs → x ≡ get_or xs k x → IsAmong x xs
own_of xs k x less is = subst (λ y. IsAmong y xs) (sym is) (among_at xs k x less)

within_itself : (a : ℕ) → Within a a
within_itself a k h = h

within_through : (a b c : ℕ) → Within a b → Within b c → Within a c
within_through a b c first second k h = second k (first k h)

-- ---- the heads of rules, one after the other
pub heads_of_none : (all : List NormalRule) (against places : ℕ) → HaveHeadsOf all [] against places places
heads_of_none all against places = record { more_than = within_itself places; closed = λ within. tt; least = λ others within closed. within }

-- a rule that fires among more places fires among more still
more_fires : (against places more : ℕ) (r : NormalRule) → Within places more → DoesFire against places r → DoesFire against more r
more_fires against places more r within fire = record { in_reduct = fire.in_reduct; supported = within_through r.pos places more fire.supported within }

module _ (all rules : List NormalRule) (against places more : ℕ) (r : NormalRule) (have : HaveHeadsOf all rules against places more) where
  pub with_head : IsAmong r all → DoesFire against more r → HaveHeadsOf all (rules ++ r ∷ []) against places (union more (single r.head))
  with_head among fire = record {
    more_than = λ k h. within_union_left more (single r.head) k (have.more_than k h);
    closed = λ within. all_push (λ (r : NormalRule). DoesFire against places r → has places r.head ≡ true) rules r
        (have.closed (within_through more (union more (single r.head)) places (within_union_left more (single r.head)) within))
        (λ own. within r.head ((in_with more r.head r.head).1 (inr refl)));
    least = λ others within closed k h. elim ((in_with more r.head k).0 h) [
      | inl old ↦ have.least others within closed k old
      | inr same ↦ subst (λ (j : ℕ). has others j ≡ true) (sym same)
          (all_among (λ (r : NormalRule). DoesFire against others r → has others r.head ≡ true) all r closed among (more_fires against more others r (have.least others within closed) fire))
    ];
  }

  pub without_head : ¬ DoesFire against more r → HaveHeadsOf all (rules ++ r ∷ []) against places more
  without_head not = record {
    more_than = have.more_than;
    closed = λ within. all_push (λ (r : NormalRule). DoesFire against places r → has places r.head ≡ true) rules r (have.closed within)
        (λ own. absurd (not (more_fires against places more r have.more_than own)));
    least = have.least;
  }

-- ---- the bodies of rules, one after the other
pub bodies_of_none : (all : List NormalRule) (places : ℕ) → HaveBodiesOf all [] places places
bodies_of_none all places = record { more_than = within_itself places; dependent = λ within. tt; least = λ others within closed. within }

module _ (all rules : List NormalRule) (places more : ℕ) (r : NormalRule) (have : HaveBodiesOf all rules places more) where
  pub with_body : IsAmong r all → has more r.head ≡ true → HaveBodiesOf all (rules ++ r ∷ []) places (union (union more r.pos) r.neg)
  with_body among own = record {
    more_than = λ k h. within_union_left (union more r.pos) r.neg k (within_union_left more r.pos k (have.more_than k h));
    dependent = λ within. all_push (λ (r : NormalRule). has places r.head ≡ true → Within (union r.pos r.neg) places) rules r
        (have.dependent (λ k h. within k (within_union_left (union more r.pos) r.neg k (within_union_left more r.pos k h))))
        (λ own' k h. within k (elim (in_union r.pos r.neg k h) [
          | inl pos ↦ within_union_left (union more r.pos) r.neg k (within_union_right more r.pos k pos)
          | inr neg ↦ within_union_right (union more r.pos) r.neg k neg
        ]));
    least = λ top within closed k h. elim (in_union (union more r.pos) r.neg k h) [
      | inl first ↦ elim (in_union more r.pos k first) [
        | inl old ↦ have.least top within closed k old
        | inr pos ↦ body top within closed k (within_union_left r.pos r.neg k pos)
      ]
      | inr neg ↦ body top within closed k (within_union_right r.pos r.neg k neg)
    ];
  }
    where
      body : (top : ℕ) → Within places top → AreDependent all top → Within (union r.pos r.neg) top
      body top within closed = all_among (λ (r : NormalRule). has top r.head ≡ true → Within (union r.pos r.neg) top) all r closed among (have.least top within closed r.head own)

  pub without_body : has more r.head ≡ false → HaveBodiesOf all (rules ++ r ∷ []) places more
  without_body not = record {
    more_than = have.more_than;
    dependent = λ within. all_push (λ (r : NormalRule). has places r.head ≡ true → Within (union r.pos r.neg) places) rules r (have.dependent within)
        (λ own. absurd (true≢false (sym (have.more_than r.head own) ∙ not)));
    least = have.least;
  }

-- ---- again and again, until nothing changes
-- the places that are added
added : (places more : ℕ) → Within places more → size more ≡ size (minus more places) + size places
added places more within = ap (λ (t : ℕ). size t) (sym (minus-union_back more places within))
    ∙ size-union_apart (minus more places) places (λ meets. true≢false (sym meets.in_second ∙ (in_minus more places meets.member meets.in_first).1))

pub same_number : (places more : ℕ) → Within places more → size more ≡ size places → more ≡ places
same_number places more within same = sym (nothing_missing places more within (none_from_size (minus more places) (omega (arith, added places more within, same))))

pub more_in_number : (places more : ℕ) → Within places more → size more ≤ 64 → ¬ (size more ≡ size places) → 64 - size more < 64 - size places
more_in_number places more within few other = at (size (minus more places)) refl
  where
    at : (n : ℕ) → size (minus more places) ≡ n → 64 - size more < 64 - size places
    at zero none = absurd (other (omega (arith, added places more within, none)))
    at (suc n) some = omega (arith, few, added places more within, some)

-- ---- rules are added
-- fewer are left to be added
pub fewer_to_add : (goal rules fresh : ℕ) → Within fresh (minus goal rules) → ¬ (fresh ≡ 0) → size (minus goal (union rules fresh)) < size (minus goal rules)
fewer_to_add goal rules fresh within some = at (size fresh) refl
  where
    parted : size (minus goal rules) ≡ size (minus goal (union rules fresh)) + size fresh
    parted = ap (λ (t : ℕ). size t) (sym (minus-union_back (minus goal rules) fresh within))
        ∙ size-union_apart (minus (minus goal rules) fresh) fresh (λ meets. true≢false (sym meets.in_second ∙ (in_minus (minus goal rules) fresh meets.member meets.in_first).1))
        ∙ ap (λ (t : ℕ). size t + size fresh) (minus-minus goal rules fresh)

    at : (n : ℕ) → size fresh ≡ n → size (minus goal (union rules fresh)) < size (minus goal rules)
    at zero none = absurd (some (none_from_size fresh none))
    at (suc n) more = omega (arith, parted, more)

pub record IsUpTo (rules : List NormalRule) (against start places : ℕ) : Type 0 where
  pub more : Within start places
  pub least : (others : ℕ) → Within start others → AreClosedUnder rules against others → Within places others

pub up_to_first : (rules : List NormalRule) (against start : ℕ) → IsUpTo rules against start start
up_to_first rules against start = record { more = within_itself start; least = λ others within closed. within }

pub up_to_next : (rules : List NormalRule) (against start places more : ℕ) → IsUpTo rules against start places → HaveHeadsOf rules rules against places more → IsUpTo rules against start more
up_to_next rules against start places more up heads = record {
  more = within_through start places more up.more heads.more_than;
  least = λ others from closed. heads.least others (up.least others from closed) closed;
}

pub up_to_last : (rules : List NormalRule) (against start places more : ℕ) → IsUpTo rules against start places → HaveHeadsOf rules rules against places more → more ≡ places → IsLeastModel rules against start places
up_to_last rules against start places more up heads same =
    record { more = up.more; closed = heads.closed (subst (λ (x : ℕ). Within x places) (sym same) (within_itself places)); least = up.least }

pub record IsGathered (rules : List NormalRule) (start places : ℕ) : Type 0 where
  pub more : Within start places
  pub least : (others : ℕ) → Within start others → AreDependent rules others → Within places others

pub gathered_first : (rules : List NormalRule) (start : ℕ) → IsGathered rules start start
gathered_first rules start = record { more = within_itself start; least = λ others within closed. within }

pub gathered_next : (rules : List NormalRule) (start places more : ℕ) → IsGathered rules start places → HaveBodiesOf rules rules places more → IsGathered rules start more
gathered_next rules start places more up bodies = record {
  more = within_through start places more up.more bodies.more_than;
  least = λ others from closed. bodies.least others (up.least others from closed) closed;
}

pub gathered_last : (rules : List NormalRule) (start places more : ℕ) → IsGathered rules start places → HaveBodiesOf rules rules places more → more ≡ places → IsDependent rules start places
gathered_last rules start places more up bodies same =
    record { more = up.more; dependent = bodies.dependent (subst (λ (x : ℕ). Within x places) (sym same) (within_itself places)); least = up.least }

-- ---- the rules whose heads are at places
module _ (names : List Name) (places : ℕ) where
  -- where its one head is among the places, and only there, the rule is one of them
  head_here : (r : ProgramRule) (n : NormalRule) → IsNormalRule names r n → list_any (λ x. is_in x (true_names 0 names places)) r.head ≡ has places n.head
  head_here r n is = ap (λ (hs : List Name). list_any (λ x. is_in x (true_names 0 names places)) hs) is.one_head ∙ or_none (is_in is.atom (true_names 0 names places)) ∙ is.head.tells places
    where
      or_none : (v : Bool) → (v || false) ≡ v
      or_none true = refl
      or_none false = refl

  pub rules_at_all : (rules : List ProgramRule) (ns : List NormalRule) → AllZip (IsNormalRule names) rules ns → AllZip (IsNormalRule names) (rules_for (true_names 0 names places) rules) (filter (λ (n : NormalRule). has places n.head) ns)
  rules_at_all [] [] all = tt
  rules_at_all [] (n ∷ ns) all = absurd all
  rules_at_all (r ∷ rules) [] all = absurd all
  rules_at_all (r ∷ rules) (n ∷ ns) all = at (list_any (λ x. is_in x (true_names 0 names places)) r.head) (has places n.head) (head_here r n all.0) (rules_at_all rules ns all.1)
    where
      at : (u v : Bool) → u ≡ v → AllZip (IsNormalRule names) (rules_for (true_names 0 names places) rules) (filter (λ (n : NormalRule). has places n.head) ns)
          → AllZip (IsNormalRule names) (cond u (r ∷ rules_for (true_names 0 names places) rules) (rules_for (true_names 0 names places) rules)) (cond v (n ∷ filter (λ (n : NormalRule). has places n.head) ns) (filter (λ (n : NormalRule). has places n.head) ns))
      at true true e rest = (all.0, rest)
      at true false e rest = absurd (true≢false e)
      at false true e rest = absurd (true≢false (sym e))
      at false false e rest = rest

-- ---- a list that a call wrote
pub written_back : {A : Type 0} (n : ℕ) (xs ys : List A) → length ys ≡ length xs → n ≡ length xs → take n (ys ++ drop (length ys) xs) ≡ ys
written_back n xs ys same long =
    let none : drop (length ys) xs ≡ [] = drop_all (length ys) xs (omega (arith, same)) in
    ap (λ zs. take n (ys ++ zs)) none ∙ ap (take n) (append-nil ys) ∙ take_all n ys (omega (arith, same, long))

-- ---- one member more of what stands for each context
pub push_long : {A : Type 0} (xs : List A) (x : A) → length (xs ++ x ∷ []) ≡ length xs + 1
push_long [] x = refl
push_long (z ∷ xs) x = omega (arith, push_long xs x)

pub each_pushed : {A : Type 0} (P : ℕ → A → Type 0) (xs : List A) (x : A) (n : ℕ) → length xs ≡ n → ((i : ℕ) (y : A) → slice_get xs i ≡ Some y → P i y) → P n x → (i : ℕ) (y : A) → slice_get (xs ++ x ∷ []) i ≡ Some y → P i y
each_pushed P [] x n long own last zero y is = subst (P 0) (same_Some x y is) (subst (λ (k : ℕ). P k x) (sym long) last)
each_pushed P [] x n long own last (suc i) y is = cc
each_pushed P (z ∷ xs) x n long own last zero y is = own 0 y is
each_pushed P (z ∷ xs) x n long own last (suc i) y is = each_pushed (λ (k : ℕ). P (suc k)) xs x (length xs) refl (λ j w at. own (suc j) w at) (subst (λ (k : ℕ). P k x) (sym long) last) i y is

-- ---- one member written of what stands for each number
pub put_each : (P : ℕ → ℕ → Type 0) (xs : List ℕ) (n x : ℕ) → n < length xs → ((k : ℕ) → k < n → P k (get_or xs k 0)) → P n x → (k : ℕ) → k < n + 1 → P k (get_or (slice_set xs n x) k 0)
put_each P xs n x less before own k below = elim (cases_lt k n) [
  | inl earlier ↦ subst (P k) (sym (get_or-set_other xs n k x 0 (λ same. absurd (omega (arith, earlier, same))))) (before k earlier)
  | inr last ↦ (let same : n ≡ k = omega (arith, below, last) in subst (λ (j : ℕ). P j (get_or (slice_set xs n x) j 0)) same (subst (P n) (sym (get_or-set_same xs n x 0 less)) own))
]
