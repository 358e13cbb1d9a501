-- What the oracles of a listing were asked, by the keys of the listing; how many of these are new and how many were kept.
use Rattle.std.proofs.Common.{◌≡◌, ℕ, suc, ◌+◌, ◌<◌, ◌≤◌, List, [], ◌∷◌, ◌++◌, length, Some, slice_get, refl, sym, ap, ap₂, ◌∙◌, subst, inl, inr, ◌⊎◌, ◌↔◌, length-append, arith}
use Rattle.std.proofs.lemmas.Bool.{cases_eq}
use Rattle.std.proofs.lemmas.Option.{slice_get_within, same_Some}
use Rattle.std.proofs.lemmas.List.Concat.{length-flat_map}
use Rattle.std.proofs.lemmas.List.Sums.{sum_by-cons}
use Rattle.std.specs.List.{flat_map, sum_by}
use Rattle.mcs_base.specs.Listings.{IsAmong, IsInventory}
use Rattle.mcs_base.proofs.Among.{among_either, among_left, among_right, among_map, map_among}
use Rattle.mcs_base.proofs.Bags.{inventory_same}
use Rattle.mcs_base.proofs.Distinct.{distinct_append}
use Rattle.mcs_base.proofs.Lists.{slice_get_below}
use Rattle.mcs_system.specs.Plain.{System}
use Rattle.mcs_system.specs.Levels.{IsQuestionAt}
use Rattle.mcs_states.specs.Oracles.{OracleState}
use Rattle.mcs_session.specs.Keys.{Key, key_of, keys_of}
use Rattle.mcs_session.specs.Journals.{AreNewKeys, AreKeptKeys}
use Rattle.mcs_session.specs.Sessions.{SessionState, HasBack, IsCounted}
use Rattle.mcs_report.specs.Sessions.{answers_line}
use Rattle.mcs_editing.specs.Listed.{IsKeyOfListing, IsKeyOfFirst, IsNewKeyAt, IsKeptKeyAt}
use Rattle.mcs_editing.specs.Texts.{IsAnswersLine}
use Rattle.mcs_editing.specs.Course.{AreAskedWhole, AreKnownKeys, IsReady, total_of}
use Rattle.mcs_editing.proofs.KeyLemmas.{cases_in, keys_same, one_last_level, earlier_more}

-- ---- lists, one for each number
module _ {A : Type 0} (Q : ℕ → A → Type 0) (of : A → ℕ) (named : (i : ℕ) (x : A) → Q i x → of x ≡ i) where
  abbrev pub IsOfSome : ℕ → ℕ → A → Type 0
  IsOfSome k n x = (i : ℕ) × (k ≤ i) × (i < n) × Q i x

  joined : (k n : ℕ) (lists : List (List A)) → n ≡ k + length lists → ((i : ℕ) (xs : List A) → slice_get lists i ≡ Some xs → IsInventory (Q (k + i)) xs) → IsInventory (IsOfSome k n) (flat_map (λ (xs : List A). xs) lists)
  joined k n [] long each = record { exactly = λ x. (λ none. absurd none, λ q. (let (i, from, below, is) = q in absurd (omega (arith, from, below, long)))); apart = tt }
  joined k n (xs ∷ lists) long each =
      let here : IsInventory (Q k) xs = subst (λ (j : ℕ). IsInventory (Q j) xs) (let e : k + 0 ≡ k = omega arith in e) (each 0 xs refl) in
      let rest = joined (k + 1) n lists (omega (arith, long)) (λ i ys at. (let next : k + suc i ≡ k + 1 + i = omega arith in subst (λ (j : ℕ). IsInventory (Q j) ys) next (each (suc i) ys at))) in
      record {
        exactly = λ x. (
          λ h. elim (among_either x xs (flat_map (λ (ys : List A). ys) lists) h) [
            | inl own ↦ (k, omega arith, omega (arith, long), (here.exactly x).0 own)
            | inr later ↦ (let (i, from, below, is) = (rest.exactly x).0 later in (i, omega (arith, from), below, is))
          ],
          λ q. (let (i, from, below, is) = q in elim (cases_eq i k) [
            | inl e ↦ among_left x xs _ ((here.exactly x).1 (subst (λ (j : ℕ). Q j x) e is))
            | inr other ↦ among_right x xs _ ((rest.exactly x).1 (i, omega (arith, from, other), below, is))
          ]),
        );
        apart = distinct_append xs _ here.apart rest.apart (λ x own later. (
            let (i, from, below, is) = (rest.exactly x).0 later in
            let mine = named k x ((here.exactly x).0 own) in
            let its = named i x is in
            omega (arith, from, mine, its)));
      }

  pub joined_all : (lists : List (List A)) → ((i : ℕ) (xs : List A) → slice_get lists i ≡ Some xs → IsInventory (Q i) xs) → IsInventory (IsOfSome 0 (length lists)) (flat_map (λ (xs : List A). xs) lists)
  joined_all lists each = joined 0 (length lists) lists (omega arith) (λ i xs at. (let same : i ≡ 0 + i = omega arith in subst (λ (j : ℕ). IsInventory (Q j) xs) same (each i xs at)))

-- where each list is as long as two others together
lengths_add : {A : Type 0} (xs ys zs : List (List A)) → length ys ≡ length xs → length zs ≡ length xs
    → ((i : ℕ) (x y z : List A) → slice_get xs i ≡ Some x → slice_get ys i ≡ Some y → slice_get zs i ≡ Some z → length x ≡ length y + length z)
    → sum_by (λ (l : List A). length l) xs ≡ sum_by (λ (l : List A). length l) ys + sum_by (λ (l : List A). length l) zs
lengths_add [] [] [] one other each = refl
lengths_add [] (y ∷ ys) zs one other each = absurd (omega (arith, one))
lengths_add [] [] (z ∷ zs) one other each = absurd (omega (arith, other))
lengths_add (x ∷ xs) [] zs one other each = absurd (omega (arith, one))
lengths_add (x ∷ xs) (y ∷ ys) [] one other each = absurd (omega (arith, other))
lengths_add {A} (x ∷ xs) (y ∷ ys) (z ∷ zs) one other each =
    let here = each 0 x y z refl refl refl in
    let rest = lengths_add xs ys zs (omega (arith, one)) (omega (arith, other)) (λ i. each (suc i)) in
    let a = sum_by-cons (λ (l : List A). length l) x xs in
    let b = sum_by-cons (λ (l : List A). length l) y ys in
    let c = sum_by-cons (λ (l : List A). length l) z zs in
    omega (arith, here, rest, a, b, c)

-- ---- a listing
module _ (systems : List System) (many : ℕ) (s : SessionState) (ready : IsReady systems many s) (there : slice_get systems many ≡ Some s.system)
    (first oracles : List OracleState) (whole : AreAskedWhole s.system first oracles) where
  abbrev m : System
  m = s.system

  -- the questions of an oracle have the keys of the listing that are of its context
  asked_key : (i : ℕ) (o : OracleState) → slice_get oracles i ≡ Some o → (k : Key) → IsAmong k (keys_of m i o.journal) ↔ (IsKeyOfListing m k × (k.context ≡ i))
  asked_key i o at k = (
    λ h. (let (x, among, is) = map_among (key_of m i) k o.journal h in (
      record {
        level = whole.level;
        last = whole.last;
        context = i;
        there = (let inside = slice_get_within oracles i o at in let one = whole.one_each in omega (arith, inside, one));
        question = x;
        asked = ((whole.asked i o at).exactly x).0 among;
        key_is = is;
      },
      ap (λ (l : Key). l.context) is,
    )),
    λ p. back p.0 p.1,
  )
    where
      back : (w : IsKeyOfListing m k) → k.context ≡ i → IsAmong k (keys_of m i o.journal)
      back w own =
          let here : w.context ≡ i = sym (ap (λ (l : Key). l.context) w.key_is) ∙ own in
          let asked : IsQuestionAt m whole.level i w.question = subst (λ (j : ℕ). IsQuestionAt m whole.level j w.question) here (subst (λ (l : ℕ). IsQuestionAt m l w.context w.question) (one_last_level m w.level whole.level w.last whole.last) w.asked) in
          subst (λ (l : Key). IsAmong l (keys_of m i o.journal)) (sym (w.key_is ∙ ap (λ (j : ℕ). key_of m j w.question) here)) (among_map (key_of m i) w.question o.journal (((whole.asked i o at).exactly w.question).1 asked))

  -- ---- of one context
  module _ (i : ℕ) (o : OracleState) (old : List Key) (at : slice_get oracles i ≡ Some o) (before : slice_get s.journals i ≡ Some old) where
    known_here : (k : Key) → k.context ≡ i → IsKeyOfFirst systems many k → IsAmong k old
    known_here k own f = ((ready.keys.each i old before).exactly k).1 (f, own)

    known_there : (k : Key) → IsAmong k old → IsKeyOfFirst systems many k × (k.context ≡ i)
    known_there k h = ((ready.keys.each i old before).exactly k).0 h

    new_here : (news : List Key) → AreNewKeys old (keys_of m i o.journal) news → IsInventory (λ k. IsNewKeyAt systems many m k × (k.context ≡ i)) news
    new_here news are = inventory_same _ _ news (λ k. (
      λ p. (let (of, own) = (asked_key i o at k).0 p.asked_for in (record { of_listing = of; new = λ f. p.new (known_here k own f) }, own)),
      λ p. record { asked_for = (asked_key i o at k).1 (p.0.of_listing, p.1); new = λ h. p.0.new (known_there k h).0 },
    )) are

    kept_here : (kepts : List Key) → AreKeptKeys old (keys_of m i o.journal) kepts → IsInventory (λ k. IsKeptKeyAt systems many m k × (k.context ≡ i)) kepts
    kept_here kepts are = inventory_same _ _ kepts (λ k. (
      λ p. (let (of, own) = (asked_key i o at k).0 p.asked_for in (record { of_listing = of; kept = (known_there k p.kept).0 }, own)),
      λ p. record { asked_for = (asked_key i o at k).1 (p.0.of_listing, p.1); kept = known_here k p.1 p.0.kept },
    )) are

    -- the journal afterwards
    module _ (news : List Key) (are : AreNewKeys old (keys_of m i o.journal) news) where
      first_or_new : (k : Key) (f : IsKeyOfFirst systems (suc many) k) → k.context ≡ i → IsAmong k old ⊎ (¬ IsAmong k old) → (f.place ≡ many) ⊎ (¬ (f.place ≡ many)) → IsAmong k (old ++ news)
      first_or_new k f own (inl h) place = among_left k old news h
      first_or_new k f own (inr out) (inl e) = among_right k old news (((new_here news are).exactly k).1 (
        record {
          of_listing = subst (λ (n : System). IsKeyOfListing n k) (same_Some _ _ (sym f.is_there ∙ ap (λ (j : ℕ). slice_get systems j) e ∙ there)) f.of_listing;
          new = λ earlier. out (known_here k own earlier);
        },
        own,
      ))
      first_or_new k f own (inr out) (inr other) = absurd (out (known_here k own (record { place = f.place; earlier = (let less = f.earlier in omega (arith, less, other)); system = f.system; is_there = f.is_there; of_listing = f.of_listing })))

      journal_after : IsInventory (λ k. IsKeyOfFirst systems (suc many) k × (k.context ≡ i)) (old ++ news)
      journal_after = record {
        exactly = λ k. (
          λ h. elim (among_either k old news h) [
            | inl known ↦ (earlier_more systems many k (known_there k known).0, (known_there k known).1)
            | inr fresh ↦ (let (is_new, own) = ((new_here news are).exactly k).0 fresh in (record { place = many; earlier = omega arith; system = m; is_there = there; of_listing = is_new.of_listing }, own))
          ],
          λ p. first_or_new k p.0 p.1 (cases_in keys_same k old) (cases_eq p.0.place many),
        );
        apart = distinct_append old news (ready.keys.each i old before).apart are.apart (λ k known fresh. ((are.exactly k).0 fresh).new known);
      }

  -- ---- of all contexts
  module _ (s' : SessionState) (new kept : ℕ) (back : HasBack s oracles s' new kept) where
    oracle_at : (i : ℕ) → i < length s.journals → (o : OracleState) × (slice_get oracles i ≡ Some o)
    oracle_at i less = slice_get_below oracles i (let one = whole.one_each in let same = ready.one_each in omega (arith, less, one, same))

    counted_at : (i : ℕ) (old journal news kepts : List Key) → slice_get s.journals i ≡ Some old → slice_get s'.journals i ≡ Some journal → slice_get back.new_lists i ≡ Some news → slice_get back.kept_lists i ≡ Some kepts
        → (o : OracleState) × (slice_get oracles i ≡ Some o) × IsCounted m i old o journal news kepts
    counted_at i old journal news kepts a b c d = let (o, at) = oracle_at i (slice_get_within s.journals i old a) in (o, at, back.each i old journal news kepts o a at b c d)

    news_at : (i : ℕ) (news : List Key) → slice_get back.new_lists i ≡ Some news → IsInventory (λ k. IsNewKeyAt systems many m k × (k.context ≡ i)) news
    news_at i news is =
        let inside : i < length s.journals = (let w = slice_get_within back.new_lists i news is in let e = back.many_new in omega (arith, w, e)) in
        let (old, a) = slice_get_below s.journals i inside in
        let (journal, b) = slice_get_below s'.journals i (let e = back.same_many in omega (arith, inside, e)) in
        let (kepts, d) = slice_get_below back.kept_lists i (let e = back.many_kept in omega (arith, inside, e)) in
        let (o, at, counted) = counted_at i old journal news kepts a b is d in
        new_here i o old at a news counted.new_keys

    kepts_at : (i : ℕ) (kepts : List Key) → slice_get back.kept_lists i ≡ Some kepts → IsInventory (λ k. IsKeptKeyAt systems many m k × (k.context ≡ i)) kepts
    kepts_at i kepts is =
        let inside : i < length s.journals = (let w = slice_get_within back.kept_lists i kepts is in let e = back.many_kept in omega (arith, w, e)) in
        let (old, a) = slice_get_below s.journals i inside in
        let (journal, b) = slice_get_below s'.journals i (let e = back.same_many in omega (arith, inside, e)) in
        let (news, c) = slice_get_below back.new_lists i (let e = back.many_new in omega (arith, inside, e)) in
        let (o, at, counted) = counted_at i old journal news kepts a b c is in
        kept_here i o old at a kepts counted.kept_keys

    -- a key of the listing is of one of the contexts
    context_inside : (n : ℕ) → n ≡ length s.journals → (k : Key) → IsKeyOfListing m k → k.context < n
    context_inside n is k w = let below = w.there in let own = ap (λ (l : Key). l.context) w.key_is in let same = ready.one_each in omega (arith, below, own, same, is)

    pub answers_are : IsAnswersLine systems many m (answers_line new kept)
    answers_are = record {
      new = flat_map (λ (ks : List Key). ks) back.new_lists;
      new_are = inventory_same _ _ _ (λ k. (
        λ q. (let (i, from, below, is) = q in is.0),
        λ n. (k.context, omega arith, context_inside (length back.new_lists) back.many_new k n.of_listing, (n, refl)),
      )) (joined_all (λ i k. IsNewKeyAt systems many m k × (k.context ≡ i)) (λ k. k.context) (λ i k p. p.1) back.new_lists news_at);
      kept = flat_map (λ (ks : List Key). ks) back.kept_lists;
      kept_are = inventory_same _ _ _ (λ k. (
        λ q. (let (i, from, below, is) = q in is.0),
        λ n. (k.context, omega arith, context_inside (length back.kept_lists) back.many_kept k n.of_listing, (n, refl)),
      )) (joined_all (λ i k. IsKeptKeyAt systems many m k × (k.context ≡ i)) (λ k. k.context) (λ i k p. p.1) back.kept_lists kepts_at);
      line_is = ap₂ answers_line (back.new_is ∙ sym (length-flat_map (λ (ks : List Key). ks) back.new_lists)) (back.kept_is ∙ sym (length-flat_map (λ (ks : List Key). ks) back.kept_lists));
    }

    journals_at : (i : ℕ) (journal : List Key) → slice_get s'.journals i ≡ Some journal → IsInventory (λ k. IsKeyOfFirst systems (suc many) k × (k.context ≡ i)) journal
    journals_at i journal is =
        let inside : i < length s.journals = (let w = slice_get_within s'.journals i journal is in let e = back.same_many in omega (arith, w, e)) in
        let (old, a) = slice_get_below s.journals i inside in
        let (news, c) = slice_get_below back.new_lists i (let e = back.many_new in omega (arith, inside, e)) in
        let (kepts, d) = slice_get_below back.kept_lists i (let e = back.many_kept in omega (arith, inside, e)) in
        let (o, at, counted) = counted_at i old journal news kepts a is c d in
        subst (IsInventory (λ k. IsKeyOfFirst systems (suc many) k × (k.context ≡ i))) (sym counted.journal_is) (journal_after i o old at a news counted.new_keys)

    of_contexts_after : (k : Key) (f : IsKeyOfFirst systems (suc many) k) → (f.place ≡ many) ⊎ (¬ (f.place ≡ many)) → k.context < length s'.journals
    of_contexts_after k f (inl e) = context_inside (length s'.journals) back.same_many k (subst (λ (n : System). IsKeyOfListing n k) (same_Some _ _ (sym f.is_there ∙ ap (λ (j : ℕ). slice_get systems j) e ∙ there)) f.of_listing)
    of_contexts_after k f (inr other) =
        let below = ready.keys.of_contexts k (record { place = f.place; earlier = (let less = f.earlier in omega (arith, less, other)); system = f.system; is_there = f.is_there; of_listing = f.of_listing }) in
        let same = back.same_many in
        omega (arith, below, same)

    pub known_after : AreKnownKeys systems (suc many) s'.journals
    known_after = record { of_contexts = λ k f. of_contexts_after k f (cases_eq f.place many); each = λ i journal is. journals_at i journal is }

    pub total_after : total_of s'.journals ≡ total_of s.journals + new
    total_after =
        let sums = lengths_add s'.journals s.journals back.new_lists (sym back.same_many) (back.many_new ∙ sym back.same_many) (λ i journal old news b a c. (
        let (kepts, d) = slice_get_below back.kept_lists i (let inside = slice_get_within s.journals i old a in let e = back.many_kept in omega (arith, inside, e)) in
        let (o, at, counted) = counted_at i old journal news kepts a b c d in
        ap length counted.journal_is ∙ length-append old news)) in
        let is = back.new_is in
        omega (arith, sums, is)
