-- Rows that fit together are the parts of a choice.
use Rattle.std.proofs.Common.{◌≡◌, ℕ, ◌+◌, ◌<◌, Bool, true, false, not, ◌&&◌, ltb, List, ◌++◌, length, Some, refl, sym, ap, ◌∙◌, subst, arith, slice_get}
use Rattle.std.proofs.lemmas.Bool.{and_parts}
use Rattle.std.proofs.lemmas.Bool.Decides.{nat_tests}
use Rattle.std.specs.List.{list_any}
use Rattle.mcs_sets.specs.Sets.{has, common, minus, such_that, Within}
use Rattle.mcs_sets.proofs.SetLemmas.{same_set, has-such_that, has-common, has-union}
use Rattle.mcs_system.specs.Plain.{Formula, Read, Bridge, System}
use Rattle.mcs_system.specs.Logic.{Accepts, with_heads}
use Rattle.mcs_system.specs.Systems.{variables, variables_of, all_variables, all_rules, applicable, heads_into, believed_among, applies_among, IsAcceptedPart}
use Rattle.mcs_system.specs.Repairs.{allowed_marks, IsChoice, marks_of}
use Rattle.mcs_system.specs.Faults.{IsValid}
use Rattle.mcs_base.specs.Listings.{IsAmong}
use Rattle.mcs_system.specs.Imports.{rules_into, marks_at}
use Rattle.mcs_system.specs.Rows.{inputs_of, local_of, AgreeOnCommon, HasParts}
use Rattle.mcs_laws.specs.Laws.{RowsMakeChoices}
use Rattle.mcs_system.proofs.MarkLemmas.{has-all_rules}
use Rattle.mcs_base.proofs.Among.{any_get, get_any, among_left, among_right, all_same}
use Rattle.std.proofs.lemmas.Option.{slice_get_within}
use Rattle.mcs_base.proofs.Lists.{slice_get_below, choose_below}
use Rattle.mcs_system.proofs.VariableLemmas.{has-applicable, has-inputs_of}
use Rattle.mcs_laws.proofs.Questions.{heads-own, marks_are_united}
use Rattle.mcs_system.proofs.ContextSets.{same_believed, rule_there, rules_into_known}

-- ---- whether a rule into i applies is seen on the local variables
same_applies : (m : System) (i k σ τ : ℕ) (b : Bridge) → slice_get m.bridges k ≡ Some b → b.target ≡ i → common σ (local_of m i) ≡ common τ (local_of m i) → applies_among (variables m) σ b ≡ applies_among (variables m) τ b
same_applies m i k σ τ b is target same =
    rw (
      all_same (believed_among (variables m) σ) (believed_among (variables m) τ) b.pos (λ r here. one r (among_left r b.pos b.neg here)),
      all_same (λ r. not (believed_among (variables m) σ r)) (λ r. not (believed_among (variables m) τ r)) b.neg (λ r here. ap not (one r (among_right r b.pos b.neg here))),
    ) refl
  where
    seen : (v : ℕ) → has (inputs_of m i) v ≡ true → has σ v ≡ has τ v
    seen v inside = let e : has (common σ (local_of m i)) v ≡ has (common τ (local_of m i)) v = ap (λ s. has s v) same in
        let a = has-common σ (local_of m i) v in let c = has-common τ (local_of m i) v in let d = has-union (variables_of m i) (inputs_of m i) v in grind (arith, nat_tests)

    one : (r : Read) → IsAmong r (b.pos ++ b.neg) → believed_among (variables m) σ r ≡ believed_among (variables m) τ r
    one r here = same_believed σ τ r (variables m) 0 (λ v q var alike. let e : 0 + v ≡ v = omega arith in ap (has σ) e ∙ seen v (has-inputs_of m i k v b r q is target here var alike) ∙ ap (has τ) (sym e))

same_applicable : (m : System) (i σ τ : ℕ) → common σ (local_of m i) ≡ common τ (local_of m i) → common (applicable m σ) (rules_into m i) ≡ common (applicable m τ) (rules_into m i)
same_applicable m i σ τ same = same_set _ _ (λ k. has-common (applicable m σ) (rules_into m i) k ∙ at k (has (rules_into m i) k) refl ∙ sym (has-common (applicable m τ) (rules_into m i) k))
  where
    and-false : (u : Bool) → (u && false) ≡ false
    and-false true = refl
    and-false false = refl

    at : (k : ℕ) (v : Bool) → has (rules_into m i) k ≡ v → (has (applicable m σ) k && has (rules_into m i) k) ≡ (has (applicable m τ) k && has (rules_into m i) k)
    at k true e = let (b, is, target) = rule_there m i k e in rw (has-applicable m σ k b is, has-applicable m τ k b is, same_applies m i k σ τ b is target same) refl
    at k false e = rw (e, and-false (has (applicable m σ) k), and-false (has (applicable m τ) k)) refl

-- what context i shows of its row
record Shown (m : System) (i : ℕ) (p : ℕ × ℕ) (x : ℕ) : Type 0 where
  whole : ℕ
  of_variables : Within whole (all_variables m)
  of_rules : Within x (rules_into m i)
  accepted : IsAcceptedPart m i x (common whole (variables_of m i))
  state_is : common whole (local_of m i) ≡ p.0
  marks_is : marks_at m i whole x ≡ p.1
  allowed : Within p.1 (allowed_marks m)

module _ (m : System) (rows : List (ℕ × ℕ)) (long : length rows ≡ length m.contexts) (fit : AgreeOnCommon m rows) (xs : List ℕ) (many : length xs ≡ length m.contexts)
    (shown : (i : ℕ) (p : ℕ × ℕ) (x : ℕ) → slice_get rows i ≡ Some p → slice_get xs i ≡ Some x → Shown m i p x) where
  abbrev σ : ℕ
  σ = such_that (length (variables m)) (λ v. list_any (λ (p : ℕ × ℕ). has p.0 v) rows)

  abbrev x : ℕ
  x = such_that (length m.bridges) (λ k. list_any (λ y. has y k) xs)

  state_glued : (i : ℕ) (p : ℕ × ℕ) (y : ℕ) → slice_get rows i ≡ Some p → slice_get xs i ≡ Some y → common σ (local_of m i) ≡ p.0
  state_glued i p y is is' = same_set _ _ (λ v. two_ways (has (common σ (local_of m i)) v) (has p.0 v) (to v) (from v))
    where
      here : Shown m i p y
      here = shown i p y is is'

      two_ways : (u v : Bool) → (u ≡ true → v ≡ true) → (v ≡ true → u ≡ true) → u ≡ v
      two_ways true v f g = sym (f refl)
      two_ways false true f g = g refl
      two_ways false false f g = refl

      to : (v : ℕ) → has (common σ (local_of m i)) v ≡ true → has p.0 v ≡ true
      to v inside =
          let both : (has σ v ≡ true) × (has (local_of m i) v ≡ true) = and_parts (has σ v) (has (local_of m i) v) (sym (has-common σ (local_of m i) v) ∙ inside) in
          let (j, q, there, member) = any_get (λ (r : ℕ × ℕ). has r.0 v) rows (and_parts (ltb v (length (variables m))) (list_any (λ (r : ℕ × ℕ). has r.0 v) rows) (sym (has-such_that (length (variables m)) (λ w. list_any (λ (r : ℕ × ℕ). has r.0 w) rows) v) ∙ both.0)).1 in
          let alike : has (common q.0 (local_of m i)) v ≡ has (common p.0 (local_of m j)) v = ap (λ s. has s v) (fit j i q p there is) in
          let e1 = has-common q.0 (local_of m i) v in let e2 = has-common p.0 (local_of m j) v in let l = both.1 in grind (arith, nat_tests)

      from : (v : ℕ) → has p.0 v ≡ true → has (common σ (local_of m i)) v ≡ true
      from v member =
          let own : has (common here.whole (local_of m i)) v ≡ true = ap (λ s. has s v) here.state_is ∙ member in
          let both : (has here.whole v ≡ true) × (has (local_of m i) v ≡ true) = and_parts (has here.whole v) (has (local_of m i) v) (sym (has-common here.whole (local_of m i) v) ∙ own) in
          let known : ltb v (length (variables m)) ≡ true = (and_parts (ltb v (length (variables m))) true (sym (has-such_that (length (variables m)) (λ w. true) v) ∙ here.of_variables v both.0)).0 in
          let some : list_any (λ (r : ℕ × ℕ). has r.0 v) rows ≡ true = get_any (λ (r : ℕ × ℕ). has r.0 v) rows i p is member in
          let in_σ : has σ v ≡ true = has-such_that (length (variables m)) (λ w. list_any (λ (r : ℕ × ℕ). has r.0 w) rows) v ∙ rw (known, some) refl in
          has-common σ (local_of m i) v ∙ rw (in_σ, both.1) refl

  rules_glued : (i : ℕ) (p : ℕ × ℕ) (y : ℕ) → slice_get rows i ≡ Some p → slice_get xs i ≡ Some y → common x (rules_into m i) ≡ y
  rules_glued i p y is is' = same_set _ _ (λ k. two_ways (has (common x (rules_into m i)) k) (has y k) (to k) (from k))
    where
      here : Shown m i p y
      here = shown i p y is is'

      two_ways : (u v : Bool) → (u ≡ true → v ≡ true) → (v ≡ true → u ≡ true) → u ≡ v
      two_ways true v f g = sym (f refl)
      two_ways false true f g = g refl
      two_ways false false f g = refl

      same_place : (j k : ℕ) (z : ℕ) → slice_get xs j ≡ Some z → has z k ≡ true → has (rules_into m i) k ≡ true → has y k ≡ true
      same_place j k z there member inside =
          let (q, there') = slice_get_below rows j (let less = slice_get_within xs j z there in omega (arith, long, many)) in
          let other = (shown j q z there' there).of_rules k member in
          let (b, is_b, target) = rule_there m i k inside in
          let (b', is_b', target') = rule_there m j k other in
          let one : b ≡ b' = cc in
          let place : i ≡ j = sym target ∙ ap (λ (c : Bridge). c.target) one ∙ target' in
          let same : z ≡ y = (let e : slice_get xs i ≡ slice_get xs j = ap (slice_get xs) place in cc) in ap (λ s. has s k) (sym same) ∙ member

      to : (k : ℕ) → has (common x (rules_into m i)) k ≡ true → has y k ≡ true
      to k inside =
          let both : (has x k ≡ true) × (has (rules_into m i) k ≡ true) = and_parts (has x k) (has (rules_into m i) k) (sym (has-common x (rules_into m i) k) ∙ inside) in
          let (j, z, there, member) = any_get (λ z. has z k) xs (and_parts (ltb k (length m.bridges)) (list_any (λ z. has z k) xs) (sym (has-such_that (length m.bridges) (λ w. list_any (λ z. has z w) xs) k) ∙ both.0)).1 in
          same_place j k z there member both.1

      from : (k : ℕ) → has y k ≡ true → has (common x (rules_into m i)) k ≡ true
      from k member =
          let inside = here.of_rules k member in
          let known : ltb k (length m.bridges) ≡ true = sym (has-all_rules m k) ∙ rules_into_known m i k inside in
          let some : list_any (λ z. has z k) xs ≡ true = get_any (λ z. has z k) xs i y is' member in
          let in_x : has x k ≡ true = has-such_that (length m.bridges) (λ w. list_any (λ z. has z w) xs) k ∙ rw (known, some) refl in
          has-common x (rules_into m i) k ∙ rw (in_x, inside) refl

  own_variables : (i τ : ℕ) → common (common τ (local_of m i)) (variables_of m i) ≡ common τ (variables_of m i)
  own_variables i τ = same_set _ _ (λ v. let a = has-common (common τ (local_of m i)) (variables_of m i) v in let b = has-common τ (local_of m i) v in let c = has-common τ (variables_of m i) v in let d = has-union (variables_of m i) (inputs_of m i) v in grind (arith, nat_tests))

  parts : HasParts m σ x rows
  parts i p is = part (slice_get_below xs i (let less = slice_get_within rows i p is in omega (arith, long, many)))
    where
      part : ((y : ℕ) × (slice_get xs i ≡ Some y)) → (common σ (local_of m i) ≡ p.0) × (marks_at m i σ (common x (rules_into m i)) ≡ p.1)
      part (y, is') =
          let here = shown i p y is is' in
          let glued = state_glued i p y is is' in
          let rules = rules_glued i p y is is' in
          let alike = same_applicable m i σ here.whole (glued ∙ sym here.state_is) in
          (glued, ap (marks_at m i σ) rules ∙ ap (λ a. marks_of m (minus a y) (minus y a)) alike ∙ here.marks_is)

  choice : IsValid m → IsChoice m σ x
  choice valid = record {
    of_rules = of_rules;
    of_variables = λ v inside. has-such_that (length (variables m)) (λ w. true) v ∙ (let known : ltb v (length (variables m)) ≡ true = (and_parts (ltb v (length (variables m))) (list_any (λ (r : ℕ × ℕ). has r.0 v) rows) (sym (has-such_that (length (variables m)) (λ w. list_any (λ (r : ℕ × ℕ). has r.0 w) rows) v) ∙ inside)).0 in rw known refl);
    allowed = λ k inside. allowed k ((marks_are_united m σ x k valid of_rules).0 inside);
    accepted = λ i less. accepts i (slice_get_below rows i (omega arith)) (slice_get_below xs i (omega arith));
  }
    where
      of_rules : Within x (all_rules m)
      of_rules k inside = has-all_rules m k ∙ (and_parts (ltb k (length m.bridges)) (list_any (λ z. has z k) xs) (sym (has-such_that (length m.bridges) (λ w. list_any (λ z. has z w) xs) k) ∙ inside)).0

      -- each mark is one of a row, which has allowed ones alone
      allowed : (k : ℕ) → (i : ℕ) × (i < length m.contexts) × (has (marks_at m i σ (common x (rules_into m i))) k ≡ true) → has (allowed_marks m) k ≡ true
      allowed k (i, less, inside) =
          let (p, is) = slice_get_below rows i (omega (arith, long)) in let (y, is') = slice_get_below xs i (omega (arith, many)) in
          (shown i p y is is').allowed k (ap (λ s. has s k) (sym (parts i p is).1) ∙ inside)

      accepts : (i : ℕ) → ((p : ℕ × ℕ) × (slice_get rows i ≡ Some p)) → ((y : ℕ) × (slice_get xs i ≡ Some y)) → IsAcceptedPart m i x (common σ (variables_of m i))
      accepts i (p, is) (y, is') =
          let here = shown i p y is is' in
          let heads : heads_into m i y ≡ heads_into m i x = ap (heads_into m i) (sym (rules_glued i p y is is')) ∙ sym (heads-own m i x) in
          let states : common here.whole (variables_of m i) ≡ common σ (variables_of m i) = sym (own_variables i here.whole) ∙ ap (λ s. common s (variables_of m i)) (here.state_is ∙ sym (state_glued i p y is is')) ∙ own_variables i σ in
          let a : IsAcceptedPart m i y (common σ (variables_of m i)) = subst (IsAcceptedPart m i y) states here.accepted in
          let (c, is_c, accepts) = a.accepted in
          record { belief = a.belief; accepted = (c, is_c, subst (λ (hs : List Formula). Accepts (with_heads c.kb hs) a.belief) heads accepts); part = a.part }

pub rows_make_choices : RowsMakeChoices
rows_make_choices m order level rows valid long each fit =
    let (xs, many, shown) = choose_below Q (length m.contexts) pick in
    (σ m rows long fit xs many (all xs shown), x m rows long fit xs many (all xs shown), choice m rows long fit xs many (all xs shown) valid, parts m rows long fit xs many (all xs shown))
  where
    Q : ℕ → ℕ → Type 0
    Q i y = (p : ℕ × ℕ) → slice_get rows i ≡ Some p → Shown m i p y

    pick : (i : ℕ) → i < length m.contexts → (y : ℕ) × Q i y
    pick i less = let (p, is) = slice_get_below rows i (omega (arith, long)) in let row = each i p is in
        (row.rules, λ q is'. let same : p ≡ q = cc in subst (λ (r : ℕ × ℕ). Shown m i r row.rules) same (record { whole = row.whole; of_variables = row.of_variables; of_rules = row.of_rules; accepted = row.accepted; state_is = row.state_is; marks_is = row.marks_is; allowed = row.allowed }))

    all : (xs : List ℕ) → ((i y : ℕ) → slice_get xs i ≡ Some y → Q i y) → (i : ℕ) (p : ℕ × ℕ) (y : ℕ) → slice_get rows i ≡ Some p → slice_get xs i ≡ Some y → Shown m i p y
    all xs shown i p y is is' = shown i y is' p is
