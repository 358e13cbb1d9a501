-- Answers that are kept under the numbers of their keys' parts.
use Rattle.std.proofs.Common.{◌≡◌, ℕ, zero, suc, List, [], ◌∷◌, ◌++◌, map, Some, None, slice_get, refl, sym, ap, ap₂, subst, ◌∙◌, arith, append-nil}
use Rattle.mcs_base.specs.Listings.{IsAmong, AreApart}
use Rattle.mcs_base.proofs.Among.{among_get, get_among}
use Rattle.mcs_base.proofs.Distinct.{distinct_from_places, distinct_push, one_place}
use Rattle.mcs_system.specs.Plain.{Context, Formula, System}
use Rattle.mcs_session.specs.Keys.{Key, key_of, AreViewsFor}
use Rattle.mcs_session.specs.KeyTexts.{formula_text, formulas_text}
use Rattle.mcs_session.specs.Tables.{HasGrown, AreNumbersOf, key_parts, texts_in}
use Rattle.mcs_session.specs.Tables.{AreWordsOf, head_numbers}
use Rattle.mcs_session.specs.declared.words.Words.{Words}
use Rattle.mcs_session.specs.Kept.{IsKeptUnder, AreKeptUnder, AreKept, IsSameKept, HasPushed, HasMoreFormulas}
use Rattle.mcs_session.specs.Journalled.{IsToSolve, IsKeptOn}
use Rattle.mcs_session.specs.declared.kept.Kept.{Kept}
use Rattle.mcs_session.proofs.TableLemmas.{one_text_each, one_number_each, still_numbers, still_there}
use Rattle.mcs_session.proofs.TextLemmas.{formula_apart, formulas_apart}

-- ---- parts of keys
heads_apart : (fs gs : List Formula) → map formula_text fs ≡ map formula_text gs → fs ≡ gs
heads_apart [] [] e = refl
heads_apart [] (g ∷ gs) e = let no : [] ≡ formula_text g ∷ map formula_text gs = e in absurd (cc)
heads_apart (f ∷ fs) [] e = let no : formula_text f ∷ map formula_text fs ≡ [] = e in absurd (cc)
heads_apart (f ∷ fs) (g ∷ gs) e =
    let one : formula_text f ≡ formula_text g = cc in
    let rest : map formula_text fs ≡ map formula_text gs = cc in
    ap₂ (λ x xs. x ∷ xs) (formula_apart f g [] [] (append-nil (formula_text f) ∙ one ∙ sym (append-nil (formula_text g)))).0 (heads_apart fs gs rest)

pub same_key : (k l : Key) → k.context ≡ l.context → key_parts k ≡ key_parts l → k ≡ l
same_key k l own e =
    let beliefs : formulas_text k.beliefs ≡ formulas_text l.beliefs = cc in
    let heads : map formula_text k.heads ≡ map formula_text l.heads = cc in
    made own (heads_apart k.heads l.heads heads) (formulas_apart k.beliefs l.beliefs [] [] (append-nil (formulas_text k.beliefs) ∙ beliefs ∙ sym (append-nil (formulas_text l.beliefs)))).0
  where
    made : k.context ≡ l.context → k.heads ≡ l.heads → k.beliefs ≡ l.beliefs → k ≡ l
    made c h b = grind (arith)

-- the words of a context give the numbers of the parts of each key
pub words_number : (table : List (List ℕ)) (m : System) (i : ℕ) (w : Words) → AreWordsOf table m i w → (x : ℕ) → AreNumbersOf table (key_parts (key_of m i x)) (w.beliefs ∷ head_numbers x w.heads.items)
words_number table m i w words x = (words.beliefs_are, words.heads_are.numbered x)

pub words_later : (old new : List (List ℕ)) (m : System) (i : ℕ) (w : Words) → HasGrown old new → AreWordsOf old m i w → AreWordsOf new m i w
words_later old new m i w grown words = record {
  beliefs_are = still_there old new w.beliefs _ grown words.beliefs_are;
  heads_are = record { rules = words.heads_are.rules; numbered = λ x. still_numbers old new grown _ _ (words.heads_are.numbered x) };
}

-- ---- what is kept
module _ (formulas : List (List ℕ)) (cs : List Context) (i : ℕ) where
  -- what stands at a place
  pub record IsKeptAt (k : Key) (numbers : List ℕ) (keys : List Key) (vs : List (List ℕ)) (p : ℕ) : Type 0 where
    pub views : List ℕ
    pub are_there : slice_get vs p ≡ Some views
    pub key_there : slice_get keys p ≡ Some k
    pub kept : IsKeptUnder formulas cs i k numbers views

  some_kept : (keys : List Key) (ns vs : List (List ℕ)) → AreKeptUnder formulas cs i keys ns vs → (p : ℕ) (n : List ℕ) → slice_get ns p ≡ Some n → (k : Key) × IsKeptAt k n keys vs p
  some_kept (k ∷ ks) (m ∷ ns) (v ∷ vs) h zero n is = let same : m ≡ n = cc in (k, record { views = v; are_there = refl; key_there = refl; kept = subst (λ o. IsKeptUnder formulas cs i k o v) same h.0 })
  some_kept (k ∷ ks) (m ∷ ns) (v ∷ vs) h (suc p) n is = let (l, at) = some_kept ks ns vs h.1 p n is in (l, record { views = at.views; are_there = at.are_there; key_there = at.key_there; kept = at.kept })
  some_kept [] [] [] h p n is = let no : None ≡ Some n = is in absurd (cc)
  some_kept [] (m ∷ ns) vs h p n is = absurd h
  some_kept [] [] (v ∷ vs) h p n is = absurd h
  some_kept (k ∷ ks) [] vs h p n is = absurd h
  some_kept (k ∷ ks) (m ∷ ns) [] h p n is = absurd h

  -- the numbers of a key stand at its place
  pub kept_at : (keys : List Key) (ns vs : List (List ℕ)) → AreKeptUnder formulas cs i keys ns vs → (p : ℕ) (k : Key) (n : List ℕ) → k.context ≡ i → AreNumbersOf formulas (key_parts k) n
      → slice_get ns p ≡ Some n → IsKeptAt k n keys vs p
  kept_at keys ns vs h p k n own numbered is = let (l, at) = some_kept keys ns vs h p n is in
      subst (λ z. IsKeptAt z n keys vs p) (same_key l k (at.kept.own ∙ sym own) (one_text_each formulas (key_parts l) (key_parts k) n at.kept.numbered numbered)) at

  -- a key stands at the place of its numbers
  numbers_at : (keys : List Key) (ns vs : List (List ℕ)) → AreKeptUnder formulas cs i keys ns vs → (p : ℕ) (k : Key) → slice_get keys p ≡ Some k
      → (n : List ℕ) × (slice_get ns p ≡ Some n) × AreNumbersOf formulas (key_parts k) n
  numbers_at (l ∷ ks) (m ∷ ns) (v ∷ vs) h zero k is = let same : l ≡ k = cc in (m, refl, subst (λ z. AreNumbersOf formulas (key_parts z) m) same h.0.numbered)
  numbers_at (l ∷ ks) (m ∷ ns) (v ∷ vs) h (suc p) k is = numbers_at ks ns vs h.1 p k is
  numbers_at [] ns vs h p k is = let no : None ≡ Some k = is in absurd (cc)
  numbers_at (l ∷ ks) [] vs h p k is = absurd h
  numbers_at (l ∷ ks) (m ∷ ns) [] h p k is = absurd h

  -- a key whose numbers are not there is not kept
  pub not_kept : AreApart formulas → (keys : List Key) (ns vs : List (List ℕ)) → AreKeptUnder formulas cs i keys ns vs → (k : Key) (n : List ℕ) → AreNumbersOf formulas (key_parts k) n → ¬ IsAmong n ns → ¬ IsAmong k keys
  not_kept apart keys ns vs h k n numbered none there =
      let (p, at) = get_among k keys there in let (m, is, own) = numbers_at keys ns vs h p k at in
      none (among_get n ns p (is ∙ ap (λ o. Some o) (one_number_each formulas apart (key_parts k) m n own numbered)))

  -- no key is kept twice
  pub keys_apart : AreApart formulas → (keys : List Key) (ns vs : List (List ℕ)) → AreApart ns → AreKeptUnder formulas cs i keys ns vs → AreApart keys
  keys_apart apart keys ns vs once h = distinct_from_places keys (λ p q k at_p at_q.
      let (m, is_m, own_m) = numbers_at keys ns vs h p k at_p in let (n, is_n, own_n) = numbers_at keys ns vs h q k at_q in
      one_place ns once p q n (is_m ∙ ap (λ o. Some o) (one_number_each formulas apart (key_parts k) m n own_m own_n)) is_n)

  pub kept_push : (keys : List Key) (ns vs : List (List ℕ)) (k : Key) (n v : List ℕ) → AreKeptUnder formulas cs i keys ns vs → IsKeptUnder formulas cs i k n v → AreKeptUnder formulas cs i (keys ++ k ∷ []) (ns ++ n ∷ []) (vs ++ v ∷ [])
  kept_push [] [] [] k n v h one = (one, tt)
  kept_push (l ∷ ks) (m ∷ ns) (w ∷ vs) k n v h one = (h.0, kept_push ks ns vs k n v h.1 one)
  kept_push [] (m ∷ ns) vs k n v h one = absurd h
  kept_push [] [] (w ∷ vs) k n v h one = absurd h
  kept_push (l ∷ ks) [] vs k n v h one = absurd h
  kept_push (l ∷ ks) (m ∷ ns) [] k n v h one = absurd h

pub kept_later : (old new : List (List ℕ)) (cs : List Context) (i : ℕ) → HasGrown old new → (keys : List Key) (ns vs : List (List ℕ)) → AreKeptUnder old cs i keys ns vs → AreKeptUnder new cs i keys ns vs
kept_later old new cs i grown [] [] [] h = tt
kept_later old new cs i grown (k ∷ ks) (n ∷ ns) (v ∷ vs) h = (record { own = h.0.own; numbered = still_numbers old new grown (key_parts k) n h.0.numbered; answered = h.0.answered }, kept_later old new cs i grown ks ns vs h.1)
kept_later old new cs i grown [] (n ∷ ns) vs h = absurd h
kept_later old new cs i grown [] [] (v ∷ vs) h = absurd h
kept_later old new cs i grown (k ∷ ks) [] vs h = absurd h
kept_later old new cs i grown (k ∷ ks) (n ∷ ns) [] h = absurd h

-- ---- one answer more
pub one_more : (m : System) (i x : ℕ) (keys : List Key) (old mid new : Kept) (numbers views : List ℕ) → IsToSolve m i x keys old numbers → IsSameKept old mid → HasPushed mid numbers views new
    → AreViewsFor m.contexts (key_of m i x) views → IsKeptOn m i (keys ++ key_of m i x ∷ []) old new
one_more m i x keys old mid new numbers views h same pushed answered = record {
  answers = record {
    formulas_apart = subst (λ ts. AreApart ts) (sym formulas) h.answers.formulas_apart;
    numbers_apart = subst (λ ts. AreApart ts) (sym texts) (distinct_push (texts_in old.numbers.keys) numbers h.answers.numbers_apart h.new);
    each = rw (formulas, texts, all_views) (kept_push (texts_in old.formulas.keys) m.contexts i keys (texts_in old.numbers.keys) (texts_in old.views.items) (key_of m i x) numbers views h.answers.each
        (record { own = refl; numbered = h.numbered; answered = answered }));
  };
  formulas = formulas;
}
  where
    formulas : texts_in new.formulas.keys ≡ texts_in old.formulas.keys
    formulas = pushed.formulas ∙ same.formulas

    texts : texts_in new.numbers.keys ≡ texts_in old.numbers.keys ++ numbers ∷ []
    texts = pushed.numbers_are ∙ ap (λ ts. ts ++ numbers ∷ []) same.numbers

    all_views : texts_in new.views.items ≡ texts_in old.views.items ++ views ∷ []
    all_views = pushed.views_are ∙ ap (λ ts. ts ++ views ∷ []) same.views

pub still_kept : (cs : List Context) (i : ℕ) (keys : List Key) (old new : Kept) → HasMoreFormulas old new → AreKept cs i keys old → AreKept cs i keys new
still_kept cs i keys old new more h = record {
  formulas_apart = more.formulas.apart h.formulas_apart;
  numbers_apart = rw more.numbers h.numbers_apart;
  each = rw (more.numbers, more.views) (kept_later (texts_in old.formulas.keys) (texts_in new.formulas.keys) cs i more.formulas.grown keys (texts_in old.numbers.keys) (texts_in old.views.items) h.each);
}
