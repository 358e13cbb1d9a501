-- Numbers of the members of a set, and the order in which defaults apply.
use Rattle.std.proofs.Common.{◌≡◌, ℕ, zero, suc, ◌+◌, ◌-◌, ◌<◌, ◌≤◌, Bool, true, false, IsTrue, List, [], ◌∷◌, ◌++◌, map, length, get_or, drop, arith, refl, sym, ap, ◌∙◌, subst, ◌⊎◌, ◌↔◌, inl, inr, Some, None, slice_get, true≢false}
use Rattle.std.proofs.lemmas.Bool.{cases_eq, eqb-true, eq-eqb}
use Rattle.std.proofs.lemmas.Bool.Decides.{nat_tests}
use Rattle.std.proofs.lemmas.List.{drop_more, drop_all, length-map}
use Rattle.std.proofs.lemmas.Option.{none-some}
use Rattle.std.specs.Prelude.{nat_eq}
use Rattle.mcs_sets.specs.Sets.{has, single, minus}
use Rattle.mcs_sets.proofs.SetLemmas.{has-empty}
use Rattle.mcs_sets.proofs.Lattice.{in_minus, has-without_itself, has-without_other, none_from_no_member}
use Rattle.mcs_base.specs.Listings.{IsAmong}
use Rattle.mcs_base.proofs.Mapped.{map-drop_more, slice_get-map_read}
use Rattle.mcs_system.specs.Plain.{Name, Formula, Default, Item}
use Rattle.mcs_trace.specs.Clauses.{ClauseList}
use Rattle.mcs_cnf.specs.ClauseLists.{with_formulas, clause_list}
use Rattle.mcs_cnf.specs.Entailments.{Entailment, entailment_of}
use Rattle.mcs_cnf.proofs.ListLemmas.{with_append}
use Rattle.mcs_trace.specs.declared.certificate.Entail.{Entail}
use Rattle.mcs_evidence.specs.Defaults.{defaults_of, numbered_default, IsEntailmentShown, AreGrounded}
use Rattle.mcs_extensions.specs.Checks.{at_number, IsNumberIn, AreNumbersOf}
use Rattle.mcs_cnf.proofs.GrowingLemmas.{list_of}

-- ---- numbers of members
-- the first number is a member's: the others are those of the other members
pub numbers_next : (s k n : ℕ) (rest : List ℕ) → n ≡ k + 1 → has s k ≡ true → AreNumbersOf s (n ∷ rest) ↔ AreNumbersOf (minus s (single k)) rest
numbers_next s k n rest is member = (to, from)
  where
    other : (j : ℕ) → ¬ (j ≡ k) → has s j ≡ true → has (minus s (single k)) j ≡ true
    other j differ there = has-without_other s k j there (elim (cases_eq j k) as (λ _. nat_eq j k ≡ false) [ inl same ↦ absurd (differ same) | inr not_same ↦ grind (arith, nat_tests) ])

    not_itself : (j : ℕ) → has (minus s (single k)) j ≡ true → ¬ (j ≡ k)
    not_itself j there same = true≢false (sym there ∙ ap (has (minus s (single k))) same ∙ has-without_itself s k)

    to : AreNumbersOf s (n ∷ rest) → AreNumbersOf (minus s (single k)) rest
    to (apart, exactly) = (
      apart.1,
      λ m. (
        λ among. (let (j, number, there) = (exactly m).0 (inr among) in
            (j, number, other j (λ same. apart.0 (subst (λ (x : ℕ). IsAmong x rest) (number ∙ ap (λ (x : ℕ). x + 1) same ∙ sym is) among)) there)),
        λ (j, number, there). elim ((exactly m).1 (j, number, (in_minus s (single k) j there).0)) as (λ _. IsAmong m rest) [
          | inl same ↦ absurd (not_itself j there (omega arith))
          | inr later ↦ later
        ],
      ),
    )

    from : AreNumbersOf (minus s (single k)) rest → AreNumbersOf s (n ∷ rest)
    from (apart, exactly) = (
      ((λ among. (let (j, number, there) = (exactly n).0 among in not_itself j there (omega arith))), apart),
      λ m. (
        λ among. elim among as (λ _. IsNumberIn s m) [
          | inl same ↦ (k, same ∙ is, member)
          | inr later ↦ let (j, number, there) = (exactly m).0 later in (j, number, (in_minus s (single k) j there).0)
        ],
        λ (j, number, there). elim (cases_eq j k) as (λ _. (m ≡ n) ⊎ IsAmong m rest) [
          | inl same ↦ inl (number ∙ ap (λ (x : ℕ). x + 1) same ∙ sym is)
          | inr differ ↦ inr ((exactly m).1 (j, number, other j differ there))
        ],
      ),
    )

pub numbers_stop : (s n : ℕ) (rest : List ℕ) → ¬ IsNumberIn s n → ¬ AreNumbersOf s (n ∷ rest)
numbers_stop s n rest not_there (apart, exactly) = not_there ((exactly n).0 (inl refl))

pub numbers_end : (s : ℕ) → (s ≡ 0) ↔ AreNumbersOf s []
numbers_end s = (
  λ none. (tt, λ m. (λ among. absurd among, λ (j, number, there). true≢false (sym there ∙ ap (λ (x : ℕ). has x j) none ∙ has-empty j))),
  λ (apart, exactly). none_from_no_member s (λ k. at k (has s k) refl (exactly (k + 1))),
)
  where
    at : (k : ℕ) (b : Bool) → has s k ≡ b → (IsAmong (k + 1) [] ↔ IsNumberIn s (k + 1)) → has s k ≡ false
    at k true is each = absurd (each.1 (k, refl, is))
    at k false is each = is

-- all are the numbers exactly where those from the index on are those of the members that are left
abbrev pub NumbersFrom : ℕ → List ℕ → ℕ → ℕ → Type 0
NumbersFrom set ns left i = AreNumbersOf set ns ↔ AreNumbersOf left (drop i ns)

pub numbers_on : (set : ℕ) (ns : List ℕ) (left left' i n k : ℕ) → i < length ns → n ≡ get_or ns i 0 → n ≡ k + 1 → has left k ≡ true → left' ≡ minus left (single k) → NumbersFrom set ns left i → NumbersFrom set ns left' (i + 1)
numbers_on set ns left left' i n k less is number member next go =
    let split : drop i ns ≡ n ∷ drop (i + 1) ns = drop_more ns i 0 less ∙ ap (λ (x : ℕ). x ∷ drop (i + 1) ns) (sym is) in
    let step = numbers_next left k n (drop (i + 1) ns) number member in
    subst (λ (s : ℕ). NumbersFrom set ns s (i + 1)) (sym next) (
      λ h. step.0 (subst (AreNumbersOf left) split (go.0 h)),
      λ h. go.1 (subst (AreNumbersOf left) (sym split) (step.1 h)),
    )

pub numbers_off : (set : ℕ) (ns : List ℕ) (left i n : ℕ) → i < length ns → n ≡ get_or ns i 0 → ¬ IsNumberIn left n → NumbersFrom set ns left i → ¬ AreNumbersOf set ns
numbers_off set ns left i n less is not_there go h =
    let split : drop i ns ≡ n ∷ drop (i + 1) ns = drop_more ns i 0 less ∙ ap (λ (x : ℕ). x ∷ drop (i + 1) ns) (sym is) in
    numbers_stop left n (drop (i + 1) ns) not_there (subst (AreNumbersOf left) split (go.0 h))

pub numbers_done : (set : ℕ) (ns : List ℕ) (left i : ℕ) → length ns ≤ i → NumbersFrom set ns left i → (left ≡ 0) ↔ AreNumbersOf set ns
numbers_done set ns left i past go =
    let none : drop i ns ≡ [] = drop_all i ns past in
    (λ h. go.1 (subst (AreNumbersOf left) (sym none) ((numbers_end left).0 h)), λ h. (numbers_end left).1 (subst (AreNumbersOf left) none (go.0 h)))

-- ---- what stands at a number
pub numbered_suc : {A : Type 0} (xs : List A) (k : ℕ) → at_number xs (k + 1) ≡ slice_get xs k
numbered_suc xs k = let e : k + 1 ≡ suc k = omega arith in ap (at_number xs) e

pub numbered_same : (items : List Item) (ds : List Default) (n : ℕ) → ds ≡ defaults_of items → numbered_default items n ≡ at_number ds n
numbered_same items ds zero same = refl
numbered_same items ds (suc k) same = ap (λ (xs : List Default). slice_get xs k) (sym same)

pub numbered_read : {A B : Type 0} (f : A → B) (xs : List A) (n : ℕ) (x : A) → ¬ (n ≡ 0) → n - 1 < length xs → x ≡ get_or xs (n - 1) x → at_number (map f xs) n ≡ Some (f x)
numbered_read f xs zero x some less is = absurd (some refl)
numbered_read f xs (suc k) x some less is =
    let e : suc k - 1 ≡ k = omega arith in
    slice_get-map_read f xs k x (omega arith) (is ∙ ap (λ (j : ℕ). get_or xs j x) e)

pub empty_tells : {P : Type 0} (b : Bool) (s none : ℕ) → b ≡ nat_eq s none → none ≡ 0 → (s ≡ 0) ↔ P → IsTrue b ↔ P
empty_tells b s none is zeroth tells = (
  λ h. tells.0 (eqb-true s none (sym is ∙ h) ∙ zeroth),
  λ p. is ∙ eq-eqb s none (tells.1 p ∙ sym zeroth),
)

-- ---- one prerequisite after the other
module _ (names : List Name) (items : List Item) (ds : List Default) (same : ds ≡ defaults_of items) where
  pub grounded_split : (fs : List Formula) (n : ℕ) (d : Default) (e : Entailment) (ns : List ℕ) (es : List Entailment) → at_number ds n ≡ Some d
      → AreGrounded names items fs (n ∷ ns) (e ∷ es) ↔ (IsEntailmentShown names fs d.pre e × AreGrounded names items (fs ++ d.conclusion ∷ []) ns es)
  grounded_split fs n d e ns es at = (
    λ (d', at', shown, rest). (let one : d' ≡ d = (let x : Some d' ≡ Some d = sym at' ∙ numbered_same items ds n same ∙ at in cc) in
        (subst (λ (x : Default). IsEntailmentShown names fs x.pre e) one shown, subst (λ (x : Default). AreGrounded names items (fs ++ x.conclusion ∷ []) ns es) one rest)),
    λ (shown, rest). (d, numbered_same items ds n same ∙ at, shown, rest),
  )

  grounded_none : (fs : List Formula) (n : ℕ) (e : Entailment) (ns : List ℕ) (es : List Entailment) → at_number ds n ≡ None → ¬ AreGrounded names items fs (n ∷ ns) (e ∷ es)
  grounded_none fs n e ns es none (d, at, shown, rest) = none-some d (sym (numbered_same items ds n same ∙ none) ∙ at)

-- after some steps the clauses are those of more formulas, by which the rest has to follow
pub record DerivesFrom (names : List Name) (items : List Item) (fs : List Formula) (order : List ℕ) (pres : List Entail) (known : ClauseList) (i : ℕ) : Type 0 where
  pub formulas : List Formula
  pub clauses : known ≡ clause_list names formulas
  pub rest : AreGrounded names items fs order (map entailment_of pres) ↔ AreGrounded names items formulas (drop i order) (map entailment_of (drop i pres))

pub derives_start : (names : List Name) (items : List Item) (fs : List Formula) (order : List ℕ) (pres : List Entail) (known : ClauseList) → known ≡ clause_list names fs → DerivesFrom names items fs order pres known 0
derives_start names items fs order pres known is = record { formulas = fs; clauses = is; rest = (λ h. h, λ h. h) }

module _ (names : List Name) (items : List Item) (ds : List Default) (same : ds ≡ defaults_of items) (fs : List Formula) (order : List ℕ) (pres : List Entail) (known : ClauseList) (i n : ℕ) (e : Entail)
    (less : i < length order) (less' : i < length pres) (is : n ≡ get_or order i 0) (is' : e ≡ get_or pres i e) (before : DerivesFrom names items fs order pres known i) where
  split : AreGrounded names items fs order (map entailment_of pres) ↔ AreGrounded names items before.formulas (n ∷ drop (i + 1) order) (entailment_of e ∷ map entailment_of (drop (i + 1) pres))
  split =
      let e1 : drop i order ≡ n ∷ drop (i + 1) order = drop_more order i 0 less ∙ ap (λ (x : ℕ). x ∷ drop (i + 1) order) (sym is) in
      let e2 : map entailment_of (drop i pres) ≡ entailment_of e ∷ map entailment_of (drop (i + 1) pres) = map-drop_more entailment_of pres i e less' is' in
      subst (λ (xs : List ℕ). AreGrounded names items fs order (map entailment_of pres) ↔ AreGrounded names items before.formulas xs (entailment_of e ∷ map entailment_of (drop (i + 1) pres))) e1
      (subst (λ (ys : List Entailment). AreGrounded names items fs order (map entailment_of pres) ↔ AreGrounded names items before.formulas (drop i order) ys) e2 before.rest)

  pub derives_none : at_number ds n ≡ None → ¬ AreGrounded names items fs order (map entailment_of pres)
  derives_none none h = grounded_none names items ds same before.formulas n (entailment_of e) (drop (i + 1) order) (map entailment_of (drop (i + 1) pres)) none (split.0 h)

  pub derives_off : (d : Default) → at_number ds n ≡ Some d → ¬ IsEntailmentShown names before.formulas d.pre (entailment_of e) → ¬ AreGrounded names items fs order (map entailment_of pres)
  derives_off d at not_shown h = not_shown ((grounded_split names items ds same before.formulas n d (entailment_of e) (drop (i + 1) order) (map entailment_of (drop (i + 1) pres)) at).0 (split.0 h)).0

  pub derives_on : (d : Default) (known' : ClauseList) → at_number ds n ≡ Some d → IsEntailmentShown names before.formulas d.pre (entailment_of e) → known' ≡ with_formulas names known (d.conclusion ∷ []) → DerivesFrom names items fs order pres known' (i + 1)
  derives_on d known' at shown pushed =
      let parts = grounded_split names items ds same before.formulas n d (entailment_of e) (drop (i + 1) order) (map entailment_of (drop (i + 1) pres)) at in
      record {
        formulas = before.formulas ++ d.conclusion ∷ [];
        clauses = pushed ∙ ap (λ (x : ClauseList). with_formulas names x (d.conclusion ∷ [])) before.clauses ∙ with_append names (list_of (length names) []) before.formulas (d.conclusion ∷ []);
        rest = (λ h. (parts.0 (split.0 h)).1, λ h. split.1 (parts.1 (shown, h)));
      }

pub derives_end : (names : List Name) (items : List Item) (fs : List Formula) (order : List ℕ) (pres : List Entail) (known : ClauseList) (i : ℕ) → length order ≤ i → length order ≡ length pres
    → DerivesFrom names items fs order pres known i → AreGrounded names items fs order (map entailment_of pres)
derives_end names items fs order pres known i past long d = d.rest.1 (
    subst (λ (xs : List ℕ). AreGrounded names items d.formulas xs (map entailment_of (drop i pres))) (sym (drop_all i order past))
    (subst (λ (ys : List Entail). AreGrounded names items d.formulas [] (map entailment_of ys)) (sym (drop_all i pres (omega arith))) tt))

grounded_long : (names : List Name) (items : List Item) (fs : List Formula) (ns : List ℕ) (es : List Entailment) → AreGrounded names items fs ns es → length ns ≡ length es
grounded_long names items fs [] [] h = refl
grounded_long names items fs [] (e ∷ es) h = absurd h
grounded_long names items fs (n ∷ ns) [] h = absurd h
grounded_long names items fs (n ∷ ns) (e ∷ es) (d, at, shown, rest) = ap suc (grounded_long names items (fs ++ d.conclusion ∷ []) ns es rest)

pub derives_short : (names : List Name) (items : List Item) (fs : List Formula) (order : List ℕ) (pres : List Entail) → ¬ (length order ≡ length pres) → ¬ AreGrounded names items fs order (map entailment_of pres)
derives_short names items fs order pres differ h = differ (grounded_long names items fs order (map entailment_of pres) h ∙ length-map pres entailment_of)
