-- The numbers of an order, taken from the front of its bytes, and its prerequisites, judged as they are read.
use Rattle.std.proofs.Common.{◌≡◌, ℕ, ◌+◌, ◌<◌, ◌≤◌, ◌==◌, Bool, true, false, ◌&&◌, cond, nat_le, IsTrue, List, [], ◌∷◌, ◌++◌, length, Option, Some, None, codes, ◌↔◌, refl, sym, ap, ◌∙◌, subst, arith, append_assoc, append-nil, true≢false}
use Rattle.std.proofs.lemmas.Bool.Decides.{nat_tests}
use Rattle.std.proofs.lemmas.Option.{same_Some, none-some}
use Rattle.std.specs.List.{AllByRecursion}
use Rattle.std.specs.Option.{option_and_then, option_map_or}
use Rattle.mcs_sets.specs.Sets.{has, single, minus}
use Rattle.mcs_system.specs.Plain.{Name, Formula, Default, Item}
use Rattle.mcs_trace.specs.Clauses.{ClauseList}
use Rattle.mcs_cnf.specs.ClauseLists.{with_formulas, clause_list}
use Rattle.mcs_cnf.specs.Entailments.{Entailment}
use Rattle.mcs_cnf.specs.Growing.{HasMoreFormulas}
use Rattle.mcs_cnf.proofs.GrowingLemmas.{list_of, grown_none, grown_more}
use Rattle.mcs_cnf.proofs.ListLemmas.{with_append}
use Rattle.mcs_evidence.specs.Defaults.{defaults_of, facts_of, AreGrounded, IsEntailmentShown}
use Rattle.mcs_extensions.specs.Checks.{at_number, IsNumberIn, AreNumbersOf}
use Rattle.mcs_extensions.proofs.OrderLemmas.{numbers_next, numbers_stop, numbers_end, grounded_split}
use Rattle.mcs_spelling.proofs.LiteralTexts.{after_is}
use Rattle.mcs_spelling.specs.Words.{after_prefix, numbers_of}
use Rattle.mcs_proof_lines.specs.declared.fault.ReportFault.{ReportFault}
use Rattle.mcs_proof_lines.specs.Walks.{At, Reading, ReturnsReading, IsNumberOf, many_at, yes_at}
use Rattle.mcs_proof_lines.specs.Verdicts.{within_from, order_of}
use Rattle.mcs_steps.specs.Judging.{IsJudged, IsPassed}
use Rattle.mcs_steps.specs.Words.{spaced_numbers, with_front}
use Rattle.mcs_steps.proofs.ChainLemmas.{with_front_some}
use Rattle.mcs_steps.proofs.Judged.{passed_of}
use Rattle.mcs_judging.specs.Theories.{numbers_in, AreNumbers, IsOrderIn, all_within}
use Rattle.mcs_judging.proofs.Ways.{IsOnTheWay, way_begins, way_on, way_ends, way_fails, many_next, many_failed}

-- ---- none is above a bound
abbrev pub are_all_within : ℕ → Option (List ℕ) → Bool
are_all_within most o = option_map_or (all_within most) o false

pub within_first : (most n : ℕ) (o : Option (List ℕ)) → are_all_within most (with_front n o) ≡ (nat_le n most && are_all_within most o)
within_first most n None = by (nat_le n most)
  where
    by : (b : Bool) → false ≡ (b && false)
    by true = refl
    by false = refl
within_first most n (Some ns) = refl

pub within_off : (most n : ℕ) (o : Option (List ℕ)) → most < n → are_all_within most (with_front n o) ≡ false
within_off most n o above = let test : nat_le n most ≡ false = grind (arith, nat_tests) in within_first most n o ∙ ap (λ (b : Bool). b && are_all_within most o) test

pub within_on : (most n : ℕ) (o : Option (List ℕ)) → n ≤ most → are_all_within most (with_front n o) ≡ are_all_within most o
within_on most n o low = let test : nat_le n most ≡ true = grind (arith, nat_tests) in within_first most n o ∙ ap (λ (b : Bool). b && are_all_within most o) test

within_is : (most : ℕ) (taken ns : List ℕ) → within_from most taken ns ≡ cond (all_within most ns) (Some (taken ++ ns)) None
within_is most taken [] = ap (λ (xs : List ℕ). Some xs) (sym (append-nil taken))
within_is most taken (n ∷ ns) = by (nat_le n most) (within_is most (taken ++ n ∷ []) ns)
  where
    by : (b : Bool) → within_from most (taken ++ n ∷ []) ns ≡ cond (all_within most ns) (Some ((taken ++ n ∷ []) ++ ns)) None
        → cond b (within_from most (taken ++ n ∷ []) ns) None ≡ cond (b && all_within most ns) (Some (taken ++ n ∷ ns)) None
    by true again = again ∙ ap (λ (xs : List ℕ). cond (all_within most ns) (Some xs) None) (append_assoc taken (n ∷ []) ns)
    by false again = refl

-- ---- the order in a line
module _ (most : ℕ) (line : List ℕ) where
  pub no_order : None ≡ after_prefix (codes "extension") line → order_of most line ≡ None
  unfolding order_of
  no_order e = rw (← e) refl

  module _ (rest : List ℕ) (front : Some rest ≡ after_prefix (codes "extension") line) where
    pub empty_order : (length rest == 0) ≡ true → IsOrderIn (order_of most line) rest
    unfolding order_of
    empty_order e = go rest front e
      where
        go : (rest : List ℕ) → Some rest ≡ after_prefix (codes "extension") line → (length rest == 0) ≡ true → IsOrderIn (order_of most line) rest
        go [] front e = ((rw (← front) refl), refl)
        go (b ∷ rest) front e = let long : (length (b ∷ rest) == 0) ≡ false = grind (arith, nat_tests) in absurd (true≢false (sym e ∙ long))

    by_space : (length rest == 0) ≡ false → order_of most line ≡ option_and_then (within_from most []) (option_and_then numbers_of (after_prefix (codes " ") rest))
    unfolding order_of
    by_space e = go rest front e
      where
        go : (rest : List ℕ) → Some rest ≡ after_prefix (codes "extension") line → (length rest == 0) ≡ false → order_of most line ≡ option_and_then (within_from most []) (option_and_then numbers_of (after_prefix (codes " ") rest))
        go [] front e = absurd (true≢false e)
        go (b ∷ rest) front e = rw (← front) refl

    pub no_space : (length rest == 0) ≡ false → None ≡ after_prefix (codes " ") rest → order_of most line ≡ None
    no_space e none = by_space e ∙ ap (λ (o : Option (List ℕ)). option_and_then (within_from most []) (option_and_then numbers_of o)) (sym none)

    module _ (some : (length rest == 0) ≡ false) (spelled : List ℕ) (after : Some spelled ≡ after_prefix (codes " ") rest) where
      by_numbers : order_of most line ≡ option_and_then (within_from most []) (numbers_of spelled)
      by_numbers = by_space some ∙ ap (λ (o : Option (List ℕ)). option_and_then (within_from most []) (option_and_then numbers_of o)) (sym after)

      pub not_within : are_all_within most (numbers_of spelled) ≡ false → order_of most line ≡ None
      not_within e = by_numbers ∙ go (numbers_of spelled) e
        where
          go : (o : Option (List ℕ)) → are_all_within most o ≡ false → option_and_then (within_from most []) o ≡ None
          go None e = refl
          go (Some ns) e = within_is most [] ns ∙ ap (λ (b : Bool). cond b (Some ns) None) e

      pub some_order : are_all_within most (numbers_of spelled) ≡ true → spaced_numbers rest ≡ numbers_of spelled → IsOrderIn (order_of most line) rest
      some_order e same = go (numbers_of spelled) refl e
        where
          go : (o : Option (List ℕ)) → numbers_of spelled ≡ o → are_all_within most o ≡ true → IsOrderIn (order_of most line) rest
          go None is e = absurd (true≢false (sym e))
          go (Some ns) is e =
              let spells : spaced_numbers rest ≡ Some ns = same ∙ is in
              let numbers : numbers_in rest ≡ ns = ap (λ (o : Option (List ℕ)). option_map_or (λ xs. xs) o []) spells in
              let order : order_of most line ≡ Some ns = by_numbers ∙ ap (option_and_then (within_from most [])) is ∙ within_is most [] ns ∙ ap (λ (b : Bool). cond b (Some ns) None) e in
              (order ∙ ap (λ (xs : List ℕ). Some xs) (sym numbers), spells ∙ ap (λ (xs : List ℕ). Some xs) (sym numbers))

-- what follows the space
pub after_space : (rest spelled : List ℕ) → Some spelled ≡ after_prefix (codes " ") rest → spaced_numbers rest ≡ numbers_of spelled
after_space rest spelled e = ap spaced_numbers (after_is (codes " ") rest spelled (sym e))

-- ---- one number more
module _ (b n : ℕ) (left tail after ns : List ℕ) (is : left ≡ b ∷ tail) (are : spaced_numbers left ≡ Some ns) where
  pub none_impossible : numbers_of tail ≡ None → ⊥
  none_impossible e = none-some ns (sym e ∙ ap spaced_numbers (sym is) ∙ are)

  pub next_number : numbers_of tail ≡ with_front n (spaced_numbers after) → (ms : List ℕ) × (spaced_numbers after ≡ Some ms) × (ns ≡ n ∷ ms)
  next_number e = with_front_some n (spaced_numbers after) ns (sym e ∙ ap spaced_numbers (sym is) ∙ are)

pub last_number : (left ns : List ℕ) → left ≡ [] → spaced_numbers left ≡ Some ns → ns ≡ []
last_number left ns none are = same_Some ns [] (sym are ∙ ap spaced_numbers none)

-- ---- whether they are the numbers of a set's members
pub record HasNumbersLeft (set : ℕ) (all : List ℕ) (rest : ℕ) (left : List ℕ) : Type 0 where
  pub numbers : List ℕ
  pub are : spaced_numbers left ≡ Some numbers
  pub same : AreNumbersOf set all ↔ AreNumbersOf rest numbers

pub left_first : (set : ℕ) (bytes : List ℕ) → AreNumbers bytes → HasNumbersLeft set (numbers_in bytes) set bytes
left_first set bytes are = record { numbers = numbers_in bytes; are = are; same = (λ h. h, λ h. h) }

module _ (set rest : ℕ) (all left : List ℕ) (h : HasNumbersLeft set all rest left) where
  pub left_none : (b : ℕ) (tail : List ℕ) → left ≡ b ∷ tail → numbers_of tail ≡ None → ⊥
  left_none b tail is e = none_impossible b 0 left tail [] h.numbers is h.are e

  module _ (b n : ℕ) (tail after : List ℕ) (is : left ≡ b ∷ tail) (e : numbers_of tail ≡ with_front n (spaced_numbers after)) where
    pub left_off : ¬ IsNumberIn rest n → ¬ AreNumbersOf set all
    left_off not_there all_are =
        let (ms, later, numbers) = next_number b n left tail after h.numbers is h.are e in
        numbers_stop rest n ms not_there (subst (AreNumbersOf rest) numbers (h.same.0 all_are))

    pub left_on : (k rest' : ℕ) → n ≡ k + 1 → has rest k ≡ true → rest' ≡ minus rest (single k) → HasNumbersLeft set all rest' after
    left_on k rest' number there less =
        let (ms, later, numbers) = next_number b n left tail after h.numbers is h.are e in
        let step = numbers_next rest k n ms number there in
        record {
          numbers = ms;
          are = later;
          same = (
            λ x. subst (λ (s : ℕ). AreNumbersOf s ms) (sym less) (step.0 (subst (AreNumbersOf rest) numbers (h.same.0 x))),
            λ x. h.same.1 (subst (AreNumbersOf rest) (sym numbers) (step.1 (subst (λ (s : ℕ). AreNumbersOf s ms) less x))),
          );
        }

  pub left_end : left ≡ [] → (rest ≡ 0) ↔ AreNumbersOf set all
  left_end none =
      let numbers = last_number left h.numbers none h.are in (
        λ empty. h.same.1 (subst (AreNumbersOf rest) (sym numbers) ((numbers_end rest).0 empty)),
        λ x. (numbers_end rest).1 (subst (AreNumbersOf rest) numbers (h.same.0 x)),
      )

-- ---- several that are passed
pub record ArePassedSoFar (n : ℕ) (start at : At) (left : List ℕ) : Type 0 where
  pub numbers : List ℕ
  pub are : spaced_numbers left ≡ Some numbers
  pub way : IsOnTheWay (λ (es : List Entailment). Unit {0}) (λ (es : List Entailment). Unit {0}) true (many_at yes_at n start) (many_at yes_at (length numbers) at)

abbrev nothing : List Entailment → Type 0
nothing es = Unit {0}

pub passing_first : (bytes : List ℕ) (start : At) → AreNumbers bytes → ArePassedSoFar (length (numbers_in bytes)) start start bytes
passing_first bytes start are = record { numbers = numbers_in bytes; are = are; way = way_begins nothing true (many_at yes_at (length (numbers_in bytes)) start) refl }

module _ (m : ℕ) (start at : At) (left : List ℕ) (h : ArePassedSoFar m start at left) where
  module _ (b n : ℕ) (tail after : List ℕ) (is : left ≡ b ∷ tail) (e : numbers_of tail ≡ with_front n (spaced_numbers after)) where
    pub passing_more : (now : At) → IsPassed now (yes_at at) → ArePassedSoFar m start now after
    passing_more now passed =
        let (ms, later, numbers) = next_number b n left tail after h.numbers is h.are e in
        record {
          numbers = ms;
          are = later;
          way = way_on nothing nothing nothing true true (many_at yes_at m start) (many_at yes_at (length h.numbers) at) (many_at yes_at (length ms) now) passed.value (Unit {0}) h.way
              (ap (λ (xs : List ℕ). many_at yes_at (length xs) at) numbers ∙ many_next yes_at (length ms) at now passed.value passed.is) (λ t. (t, tt), λ t. t.0) (λ xs. (λ u. (tt, tt), λ u. tt));
        }

    pub passing_failed : (fault : ReportFault) → ReturnsReading fault (yes_at at) → ReturnsReading fault (many_at yes_at m start)
    passing_failed fault told =
        let (ms, later, numbers) = next_number b n left tail after h.numbers is h.are e in
        way_fails nothing nothing true (many_at yes_at m start) (many_at yes_at (length h.numbers) at) fault h.way
        (subst (λ (xs : List ℕ). ReturnsReading fault (many_at yes_at (length xs) at)) (sym numbers) (many_failed yes_at (length ms) at fault told))

  pub passing_impossible : (b : ℕ) (tail : List ℕ) → left ≡ b ∷ tail → numbers_of tail ≡ None → ⊥
  passing_impossible b tail is e = none_impossible b 0 left tail [] h.numbers is h.are e

  pub passing_ends : left ≡ [] → IsPassed at (many_at yes_at m start)
  passing_ends none =
      let numbers = last_number left h.numbers none h.are in
      passed_of nothing true at (many_at yes_at m start) (way_ends nothing nothing true true (many_at yes_at m start) (many_at yes_at (length h.numbers) at) at h.way (ap (λ (xs : List ℕ). many_at yes_at (length xs) at) numbers) (λ t. (t, tt), λ t. t.0))

-- ---- the prerequisites, one after the other
pub record AreOrderedSoFar (names : List Name) (items : List Item) (justs all : List ℕ) (start at : At) (told : Bool) (first known : ClauseList) (left : List ℕ) : Type 0 where
  pub numbers : List ℕ
  pub are : spaced_numbers left ≡ Some numbers
  pub within : AllByRecursion (IsNumberOf justs) numbers
  pub formulas : List Formula
  pub clauses : known ≡ clause_list names formulas
  pub grown : HasMoreFormulas names first known
  pub way : IsOnTheWay (AreGrounded names items (facts_of items) all) (AreGrounded names items formulas numbers) told (many_at yes_at (length all) start) (many_at yes_at (length numbers) at)

module _ (names : List Name) (items : List Item) (justs bytes : List ℕ) (start : At) (first : ClauseList) where
  pub ordered_first : (told : Bool) → told ≡ true → AreNumbers bytes → AllByRecursion (IsNumberOf justs) (numbers_in bytes) → first ≡ clause_list names (facts_of items) → AreOrderedSoFar names items justs (numbers_in bytes) start start told first first bytes
  ordered_first told is are within made = record {
    numbers = numbers_in bytes;
    are = are;
    within = within;
    formulas = facts_of items;
    clauses = made;
    grown = grown_none names first;
    way = way_begins (AreGrounded names items (facts_of items) (numbers_in bytes)) told (many_at yes_at (length (numbers_in bytes)) start) is;
  }

module _ (names : List Name) (items : List Item) (justs all : List ℕ) (start at : At) (told : Bool) (first known : ClauseList) (left : List ℕ) (h : AreOrderedSoFar names items justs all start at told first known left) where
  abbrev whole : List Entailment → Type 0
  whole = AreGrounded names items (facts_of items) all

  pub ordered_impossible : (b : ℕ) (tail : List ℕ) → left ≡ b ∷ tail → numbers_of tail ≡ None → ⊥
  ordered_impossible b tail is e = none_impossible b 0 left tail [] h.numbers is h.are e

  module _ (b n : ℕ) (tail after : List ℕ) (is : left ≡ b ∷ tail) (e : numbers_of tail ≡ with_front n (spaced_numbers after)) where
    pub ordered_number : IsNumberOf justs n
    ordered_number =
        let (ms, later, numbers) = next_number b n left tail after h.numbers is h.are e in
        let all_within : AllByRecursion (IsNumberOf justs) (n ∷ ms) = subst (AllByRecursion (IsNumberOf justs)) numbers h.within in
        all_within.0

    pub ordered_failed : (fault : ReportFault) → ReturnsReading fault (yes_at at) → ReturnsReading fault (many_at yes_at (length all) start)
    ordered_failed fault failed =
        let (ms, later, numbers) = next_number b n left tail after h.numbers is h.are e in
        way_fails whole (AreGrounded names items h.formulas h.numbers) told (many_at yes_at (length all) start) (many_at yes_at (length h.numbers) at) fault h.way
        (subst (λ (xs : List ℕ). ReturnsReading fault (many_at yes_at (length xs) at)) (sym numbers) (many_failed yes_at (length ms) at fault failed))

    pub ordered_more : (ds : List Default) → ds ≡ defaults_of items → (d : Default) → at_number ds n ≡ Some d → (now : At) (shown told' : Bool) (known' : ClauseList) → IsJudged (IsEntailmentShown names h.formulas d.pre) shown now (yes_at at)
        → (IsTrue told' ↔ (IsTrue told × IsTrue shown)) → known' ≡ with_formulas names known (d.conclusion ∷ []) → AreOrderedSoFar names items justs all start now told' first known' after
    ordered_more ds same d there now shown told' known' judged both pushed =
        let (ms, later, numbers) = next_number b n left tail after h.numbers is h.are e in
        let all_within : AllByRecursion (IsNumberOf justs) (n ∷ ms) = subst (AllByRecursion (IsNumberOf justs)) numbers h.within in
        let way : IsOnTheWay whole (AreGrounded names items h.formulas (n ∷ ms)) told (many_at yes_at (length all) start) (many_at yes_at (length (n ∷ ms)) at) =
        subst (λ (xs : List ℕ). IsOnTheWay whole (AreGrounded names items h.formulas xs) told (many_at yes_at (length all) start) (many_at yes_at (length xs) at)) numbers h.way in
        record {
          numbers = ms;
          are = later;
          within = all_within.1;
          formulas = h.formulas ++ d.conclusion ∷ [];
          clauses = pushed ∙ ap (λ (x : ClauseList). with_formulas names x (d.conclusion ∷ [])) h.clauses ∙ with_append names (list_of (length names) []) h.formulas (d.conclusion ∷ []);
          grown = grown_more names first known known' d.conclusion h.grown pushed;
          way = way_on whole (AreGrounded names items h.formulas (n ∷ ms)) (AreGrounded names items (h.formulas ++ d.conclusion ∷ []) ms) told told' (many_at yes_at (length all) start) (many_at yes_at (length (n ∷ ms)) at) (many_at yes_at (length ms) now) judged.value
              (IsEntailmentShown names h.formulas d.pre judged.value) way (many_next yes_at (length ms) at now judged.value judged.is)
              (λ t. (let parts = both.0 t in (parts.0, judged.right.0 parts.1)), λ t. both.1 (t.0, judged.right.1 t.1))
              (λ xs. grounded_split names items ds same h.formulas n d judged.value ms xs there);
        }

  pub ordered_ends : left ≡ [] → IsJudged whole told at (many_at yes_at (length all) start)
  ordered_ends none =
      let numbers = last_number left h.numbers none h.are in
      let way : IsOnTheWay whole (AreGrounded names items h.formulas []) told (many_at yes_at (length all) start) (many_at yes_at 0 at) =
      subst (λ (xs : List ℕ). IsOnTheWay whole (AreGrounded names items h.formulas xs) told (many_at yes_at (length all) start) (many_at yes_at (length xs) at)) numbers h.way in
      way_ends whole (AreGrounded names items h.formulas []) told told (many_at yes_at (length all) start) (many_at yes_at 0 at) at way refl (λ t. (t, tt), λ t. t.0)

-- ---- all of it
pub with_numbers : {A : Type 0} (P : Type 0) (Q : A → Type 0) (told : Bool) (now : At) (read : Reading A) → P → IsJudged Q told now read → IsJudged (λ x. P × Q x) told now read
with_numbers P Q told now read p h = record { value = h.value; is = h.is; right = (λ t. (p, h.right.0 t), λ both. h.right.1 both.1) }
