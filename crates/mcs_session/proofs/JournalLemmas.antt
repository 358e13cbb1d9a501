-- Keys that are asked, one after the other.
use Rattle.std.proofs.Common.{◌≡◌, ℕ, ◌+◌, ◌^◌, ◌<◌, ◌≤◌, zero, suc, Bool, true, false, List, [], ◌∷◌, ◌++◌, length, take, drop, Some, None, slice_get, slice_set, inl, inr, ◌⊎◌, refl, sym, ap, subst, ◌∙◌, arith, eqb, eq-eqb, true≢false, count_by}
use Rattle.std.specs.List.{AllByRecursion}
use Rattle.std.proofs.lemmas.Bool.Decides.{nat_tests}
use Rattle.std.proofs.lemmas.List.{map-append, take-append-le, drop-append-le, drop_all, length-append, length-take-le}
use Rattle.std.proofs.lemmas.Grind.{common_steps}
use Rattle.std.proofs.lemmas.Option.{slice_get_within}
use Rattle.mcs_base.proofs.Written.{slice_get-slice_set, slice_get-take, length-slice_set, set_other, set_there}
use Rattle.mcs_base.specs.Listings.{IsAmong, AreApart}
use Rattle.mcs_base.proofs.Among.{among_get, get_among, among_left, among_right, among_either, among_parts, drop_among, map_among, take_among}
use Rattle.mcs_base.proofs.Distinct.{one_place, distinct_push}
use Rattle.mcs_base.proofs.Lists.{slice_get-append_left, slice_get_below, slice_get_push_at, slice_get_seam}
use Rattle.mcs_base.proofs.Each.{all_among, all_push}
use Rattle.mcs_sets.specs.Sets.{Within, size}
use Rattle.mcs_system.specs.Imports.{rules_into}
use Rattle.mcs_system.specs.Faults.{IsValid}
use Rattle.mcs_import.proofs.CountLemmas.{few_within}
use Rattle.mcs_import.proofs.RuleCounts.{few_into}
use Rattle.std.proofs.Math.Pow.{pow_mono}
use Rattle.mcs_system.specs.Plain.{System}
use Rattle.mcs_session.specs.Keys.{Key, key_of, keys_of}
use Rattle.mcs_session.specs.Journals.{AreKeptKeys, IsKeptKey}
use Rattle.mcs_session.specs.Journalled.{IsJournalled}

asked_more : (m : System) (i : ℕ) (journal : List ℕ) (x : ℕ) → keys_of m i (journal ++ x ∷ []) ≡ keys_of m i journal ++ key_of m i x ∷ []
asked_more m i journal x = map-append (key_of m i) journal (x ∷ [])

-- a key is among those that were asked before, or the last one
earlier : (k l : Key) (asked : List Key) → IsAmong k (asked ++ l ∷ []) → IsAmong k asked ⊎ (k ≡ l)
earlier k l asked h = elim (among_either k asked (l ∷ []) h) [ inl before ↦ inl before | inr last ↦ elim last [ inl same ↦ inr same | inr none ↦ absurd none ] ]

-- what is among the keys is old, or among the rest
rest_among : (n : ℕ) (keys : List Key) (k : Key) → IsAmong k keys → ¬ IsAmong k (take n keys) → IsAmong k (drop n keys)
rest_among n keys k there old = elim (among_parts keys n k there) [ inl first ↦ absurd (old first) | inr rest ↦ rest ]

module _ (m : System) (i : ℕ) (keys : List Key) (origin : ℕ) (seen : List Bool) (journal new : List ℕ) (x : ℕ) (h : IsJournalled m i keys origin seen journal new) where
  abbrev key : Key
  key = key_of m i x

  abbrev asked : List Key
  asked = keys_of m i journal

  abbrev now : List Key
  now = keys_of m i (journal ++ x ∷ [])

  before : (k : Key) → IsAmong k asked → IsAmong k now
  before k there = subst (λ (ks : List Key). IsAmong k ks) (sym (asked_more m i journal x)) (among_left k asked (key ∷ []) there)

  last : (k : Key) → k ≡ key → IsAmong k now
  last k same = subst (λ (ks : List Key). IsAmong k ks) (sym (asked_more m i journal x)) (among_right k asked (key ∷ []) (inl same))

  either : (k : Key) → IsAmong k now → IsAmong k asked ⊎ (k ≡ key)
  either k there = earlier k key asked (subst (λ (ks : List Key). IsAmong k ks) (asked_more m i journal x) there)

  -- a key that is kept
  pub asked_again : Within x (rules_into m i) → AreApart keys → (p : ℕ) → slice_get keys p ≡ Some key → IsJournalled m i keys origin (slice_set seen p true) (journal ++ x ∷ []) new
  asked_again rules apart p at = record {
    questions = all_push _ journal x h.questions rules;
    few = h.few;
    many = length-slice_set seen p true ∙ h.many;
    seen_are = λ q k there. (to q k there, from q k there);
    new_are = h.new_are;
    exact = record {
      exactly = λ k. (
        λ there. (let is = (h.exact.exactly k).0 there in record { asked_for = before k is.asked_for; new = is.new }),
        λ is. elim (either k is.asked_for) [
          | inl earlier' ↦ (h.exact.exactly k).1 (record { asked_for = earlier'; new = is.new })
          | inr same ↦ rest_among origin keys k (among_get k keys p (at ∙ ap (λ o. Some o) (sym same))) is.new
        ],
      );
      apart = h.exact.apart;
    };
  }
    where
      less : p < length seen
      less = let low = slice_get_within keys p key at in omega (arith, low, h.many)

      to : (q : ℕ) (k : Key) → slice_get keys q ≡ Some k → slice_get (slice_set seen p true) q ≡ Some true → IsAmong k now
      to q k there on = elim (slice_get-slice_set seen p q true true on) [
        | inl both ↦ last k (let e : Some k ≡ Some key = sym there ∙ ap (slice_get keys) both.0 ∙ at in cc)
        | inr both ↦ before k ((h.seen_are q k there).0 both.1)
      ]

      from : (q : ℕ) (k : Key) → slice_get keys q ≡ Some k → IsAmong k now → slice_get (slice_set seen p true) q ≡ Some true
      from q k there asked_for = by (eqb q p) refl
        where
          same_key : q ≡ p → slice_get (slice_set seen p true) q ≡ Some true
          same_key e = let (old, there) = slice_get_below seen p less in ap (slice_get (slice_set seen p true)) e ∙ set_there seen p old true there

          by : (b : Bool) → eqb q p ≡ b → slice_get (slice_set seen p true) q ≡ Some true
          by true e = same_key (grind (arith, nat_tests))
          by false e = elim (either k asked_for) [
            | inl earlier' ↦ set_other seen p q true true (λ one. true≢false (sym (eq-eqb q p one) ∙ e)) ((h.seen_are q k there).1 earlier')
            | inr same ↦ same_key (one_place keys apart q p key (there ∙ ap (λ o. Some o) same) at)
          ]

  -- a new key
  pub asked_new : Within x (rules_into m i) → ¬ IsAmong key keys → IsJournalled m i (keys ++ key ∷ []) origin (seen ++ true ∷ []) (journal ++ x ∷ []) (new ++ x ∷ [])
  asked_new rules none = record {
    questions = all_push _ journal x h.questions rules;
    few = omega (arith, h.few, length-append keys (key ∷ []));
    many = length-append seen (true ∷ []) ∙ ap (λ n. n + 1) h.many ∙ sym (length-append keys (key ∷ []));
    seen_are = λ q k there. elim (slice_get_push_at keys key q k there) [
      | inl there' ↦ (let low = slice_get_within keys q k there' in let left = slice_get-append_left seen (true ∷ []) q (omega (arith, low, h.many)) in (
        λ on. before k ((h.seen_are q k there').0 (sym left ∙ on)),
        λ asked_for. elim (either k asked_for) [
          | inl earlier' ↦ left ∙ (h.seen_are q k there').1 earlier'
          | inr same ↦ absurd (none (subst (λ l. IsAmong l keys) same (among_get k keys q there')))
        ],
      ))
      | inr both ↦ (λ on. last k both.1, λ asked_for. ap (slice_get (seen ++ true ∷ [])) (both.0 ∙ sym h.many) ∙ slice_get_seam seen true [] (length seen) refl)
    ];
    new_are = asked_more m i new x ∙ ap (λ ks. ks ++ key ∷ []) h.new_are ∙ sym (drop-append-le origin keys (key ∷ []) h.few);
    exact = rw (take-append-le origin keys (key ∷ []) h.few, drop-append-le origin keys (key ∷ []) h.few) (record {
      exactly = λ k. (
        λ there. elim (earlier k key (drop origin keys) there) [
          | inl rest ↦ (let is = (h.exact.exactly k).0 rest in record { asked_for = before k is.asked_for; new = is.new })
          | inr same ↦ record { asked_for = last k same; new = λ old. none (subst (λ l. IsAmong l keys) same (take_among keys origin k old)) }
        ],
        λ is. elim (either k is.asked_for) [
          | inl earlier' ↦ among_left k (drop origin keys) (key ∷ []) ((h.exact.exactly k).1 (record { asked_for = earlier'; new = is.new }))
          | inr same ↦ among_right k (drop origin keys) (key ∷ []) (inl same)
        ],
      );
      apart = distinct_push (drop origin keys) key h.exact.apart (λ there. none (drop_among keys origin key there));
    });
  }

-- ---- nothing asked
pub nothing_asked : (m : System) (i : ℕ) (keys : List Key) (seen : List Bool) → length seen ≡ length keys → ((p : ℕ) → ¬ (slice_get seen p ≡ Some true)) → IsJournalled m i keys (length keys) seen [] []
nothing_asked m i keys seen many off = record {
  questions = tt;
  few = omega arith;
  many = many;
  seen_are = λ p k there. (λ on. absurd (off p on), λ none. absurd none);
  new_are = sym (drop_all (length keys) keys (omega arith));
  exact = rw (drop_all (length keys) keys (omega arith)) (record { exactly = λ k. (λ none. absurd none, λ is. is.asked_for); apart = tt });
}

-- where nothing was asked all keys are old
pub all_old : (m : System) (i : ℕ) (keys : List Key) (origin : ℕ) (seen : List Bool) (new : List ℕ) → IsJournalled m i keys origin seen [] new → (drop origin keys ≡ []) × (new ≡ [])
all_old m i keys origin seen new h = (rest, none new (h.new_are ∙ rest))
  where
    nothing : (ks : List Key) → ((k : Key) → ¬ IsAmong k ks) → ks ≡ []
    nothing [] n = refl
    nothing (k ∷ ks) n = absurd (n k (inl refl))

    rest : drop origin keys ≡ []
    rest = nothing (drop origin keys) (λ k there. ((h.exact.exactly k).0 there).asked_for)

    none : (xs : List ℕ) → keys_of m i xs ≡ [] → xs ≡ []
    none [] e = refl
    none (x ∷ xs) e = let no : key_of m i x ∷ keys_of m i xs ≡ [] = e in absurd (cc)

pub asked_of_other : (m n : System) (i : ℕ) (keys : List Key) (origin : ℕ) (seen : List Bool) (new : List ℕ) → IsJournalled m i keys origin seen [] new → IsJournalled n i keys origin seen [] new
asked_of_other m n i keys origin seen new h = let old = all_old m i keys origin seen new h in record {
  questions = tt;
  few = h.few;
  many = h.many;
  seen_are = h.seen_are;
  new_are = ap (keys_of n i) old.1 ∙ sym old.0;
  exact = h.exact;
}

-- ---- counting
apart_take : (n : ℕ) (keys : List Key) → AreApart keys → AreApart (take n keys)
apart_take zero keys d = tt
apart_take (suc n) [] d = tt
apart_take (suc n) (k ∷ ks) d = ((λ h. d.0 (take_among ks n k h)), apart_take n ks d.1)

-- the keys whose flags are set
marked_keys : List Key → List Bool → List Key
marked_keys (k ∷ ks) (true ∷ bs) = k ∷ marked_keys ks bs
marked_keys (k ∷ ks) (false ∷ bs) = marked_keys ks bs
marked_keys [] bs = []
marked_keys (k ∷ ks) [] = []

some_marked : (ks : List Key) (bs : List Bool) (k : Key) → IsAmong k (marked_keys ks bs) → (p : ℕ) × (slice_get ks p ≡ Some k) × (slice_get bs p ≡ Some true)
unfolding marked_keys
some_marked (l ∷ ks) (true ∷ bs) k (inl e) = (0, ap (λ o. Some o) (sym e), refl)
some_marked (l ∷ ks) (true ∷ bs) k (inr h) = let (p, key, on) = some_marked ks bs k h in (suc p, key, on)
some_marked (l ∷ ks) (false ∷ bs) k h = let (p, key, on) = some_marked ks bs k h in (suc p, key, on)
some_marked [] bs k h = absurd h
some_marked (l ∷ ks) [] k h = absurd h

marked_some : (ks : List Key) (bs : List Bool) (k : Key) (p : ℕ) → slice_get ks p ≡ Some k → slice_get bs p ≡ Some true → IsAmong k (marked_keys ks bs)
unfolding marked_keys
marked_some (l ∷ ks) (true ∷ bs) k zero key on = inl (let e : Some l ≡ Some k = key in cc)
marked_some (l ∷ ks) (true ∷ bs) k (suc p) key on = inr (marked_some ks bs k p key on)
marked_some (l ∷ ks) (false ∷ bs) k zero key on = absurd (let no : Some false ≡ Some true = on in cc)
marked_some (l ∷ ks) (false ∷ bs) k (suc p) key on = marked_some ks bs k p key on
marked_some [] bs k p key on = let no : None ≡ Some k = key in absurd (cc)
marked_some (l ∷ ks) [] k p key on = let no : None ≡ Some true = on in absurd (cc)

marked_apart : (ks : List Key) (bs : List Bool) → AreApart ks → AreApart (marked_keys ks bs)
unfolding marked_keys
marked_apart (l ∷ ks) (true ∷ bs) d = ((λ h. let (p, key, on) = some_marked ks bs l h in d.0 (among_get l ks p key)), marked_apart ks bs d.1)
marked_apart (l ∷ ks) (false ∷ bs) d = marked_apart ks bs d.1
marked_apart [] bs d = tt
marked_apart (l ∷ ks) [] d = tt

many_marked : (ks : List Key) (bs : List Bool) → length bs ≡ length ks → count_by (λ b. b) bs ≡ length (marked_keys ks bs)
unfolding marked_keys
many_marked [] [] e = refl
many_marked (k ∷ ks) (true ∷ bs) e = grind (arith, common_steps, many_marked ks bs (omega (arith, e)))
many_marked (k ∷ ks) (false ∷ bs) e = grind (arith, common_steps, many_marked ks bs (omega (arith, e)))
many_marked [] (b ∷ bs) e = absurd (omega (arith, e))
many_marked (k ∷ ks) [] e = absurd (omega (arith, e))

pub kept_counted : (m : System) (i : ℕ) (keys : List Key) (origin : ℕ) (seen : List Bool) (journal new : List ℕ) → IsJournalled m i keys origin seen journal new → AreApart keys
    → (kepts : List Key) × AreKeptKeys (take origin keys) (keys_of m i journal) kepts × (count_by (λ b. b) (take origin seen) ≡ length kepts)
kept_counted m i keys origin seen journal new h apart = (marked_keys old flags, record { exactly = λ k. (to k, from k); apart = marked_apart old flags (apart_take origin keys apart) }, many_marked old flags same)
  where
    old : List Key
    old = take origin keys

    flags : List Bool
    flags = take origin seen

    same : length (take origin seen) ≡ length (take origin keys)
    same = length-take-le origin seen (omega (arith, h.few, h.many)) ∙ sym (length-take-le origin keys h.few)

    to : (k : Key) → IsAmong k (marked_keys (take origin keys) (take origin seen)) → IsKeptKey (take origin keys) (keys_of m i journal) k
    to k there = let (p, key, on) = some_marked (take origin keys) (take origin seen) k there in
        let low : p < origin = (let less = slice_get_within (take origin keys) p k key in omega (arith, less, length-take-le origin keys h.few)) in
        record {
          asked_for = (h.seen_are p k (sym (slice_get-take origin keys p low) ∙ key)).0 (sym (slice_get-take origin seen p low) ∙ on);
          kept = among_get k (take origin keys) p key;
        }

    from : (k : Key) → IsKeptKey (take origin keys) (keys_of m i journal) k → IsAmong k (marked_keys (take origin keys) (take origin seen))
    from k is = let (p, key) = get_among k (take origin keys) is.kept in
        let low : p < origin = (let less = slice_get_within (take origin keys) p k key in omega (arith, less, length-take-le origin keys h.few)) in
        marked_some (take origin keys) (take origin seen) k p key (slice_get-take origin seen p low ∙ (h.seen_are p k (sym (slice_get-take origin keys p low) ∙ key)).1 is.asked_for)

-- ---- different keys that were asked are few
-- each is that of a question
questions_of : (m : System) (i : ℕ) (journal : List ℕ) (ks : List Key) → ((k : Key) → IsAmong k ks → IsAmong k (keys_of m i journal)) → AreApart ks
    → (xs : List ℕ) × (length xs ≡ length ks) × AreApart xs × ((x : ℕ) → IsAmong x xs → IsAmong x journal × IsAmong (key_of m i x) ks)
questions_of m i journal [] among apart = ([], refl, tt, λ x none. absurd none)
questions_of m i journal (k ∷ ks) among apart =
    let (x, there, is) = map_among (key_of m i) k journal (among k (inl refl)) in
    let (xs, long, once, own) = questions_of m i journal ks (λ l h. among l (inr h)) apart.1 in (
      x ∷ xs,
      ap suc long,
      ((λ again. apart.0 (subst (λ (l : Key). IsAmong l ks) (sym is) (own x again).1)), once),
      λ y h. elim h [
        | inl same ↦ (subst (λ (z : ℕ). IsAmong z journal) (sym same) there, inl (ap (key_of m i) same ∙ sym is))
        | inr rest ↦ (let o = own y rest in (o.0, inr o.1))
      ],
    )

pub few_asked : (m : System) (i : ℕ) → IsValid m → i < length m.contexts → (journal : List ℕ) → AllByRecursion (λ x. Within x (rules_into m i)) journal
    → (ks : List Key) → ((k : Key) → IsAmong k ks → IsAmong k (keys_of m i journal)) → AreApart ks → length ks ≤ 4096
few_asked m i valid there journal rules ks among apart =
    let (xs, long, once, own) = questions_of m i journal ks among apart in
    let few : length xs ≤ 2 ^ size (rules_into m i) = few_within (rules_into m i) xs once (λ x h. all_among _ journal x rules (own x h).0) in
    let most : 2 ^ size (rules_into m i) ≤ 4096 = pow_mono (few_into m valid i there) in
    omega (arith, few, most, long)
