-- Oracles that are given back, and settled one after the other.
use Rattle.std.proofs.Common.{◌≡◌, ℕ, ◌+◌, ◌<◌, zero, suc, Bool, true, false, List, [], ◌∷◌, ◌++◌, length, Some, slice_get, slice_set, inl, inr, refl, sym, ap, ap₂, subst, ◌∙◌, arith}
use Rattle.std.proofs.lemmas.List.{length-append, length-map}
use Rattle.std.proofs.lemmas.List.Sums.{sum_by_push}
use Rattle.std.proofs.lemmas.Option.{slice_get_within, slice_get-map}
use Rattle.std.specs.Global.{Vec}
use Rattle.std.specs.Option.{option_map}
use Rattle.mcs_base.proofs.Lists.{slice_get-append_left, slice_get-map_some, slice_get_below, slice_get_push_at, slice_get_seam}
use Rattle.mcs_base.proofs.Written.{length-slice_set, set_there}
use Rattle.mcs_system.specs.Faults.{IsValid}
use Rattle.mcs_system.specs.Plain.{System}
use Rattle.mcs_states.specs.Oracles.{OracleState}
use Rattle.mcs_session.specs.Asked.{all_keys, keys_in, HasAnswered}
use Rattle.mcs_session.specs.Inside.{AreReturned, AreSettled, IsSession, IsSettled}
use Rattle.mcs_session.specs.Journals.{AreKeptKeys, AreNewKeys}
use Rattle.mcs_session.specs.Keys.{Key, key_of, keys_of}
use Rattle.mcs_session.specs.KeyTexts.{key_text, key_texts}
use Rattle.mcs_session.specs.Sessions.{kept_oracle, session_of, HasBack, HasSettled, MayComeBack, SessionState}
use Rattle.mcs_session.specs.declared.asked.Asked.{Asked}
use Rattle.mcs_session.proofs.TextLemmas.{texts_differ}

-- keys with these texts are these
same_keys : (ks ls : List Key) → key_texts ks ≡ key_texts ls → ks ≡ ls
same_keys [] [] e = refl
same_keys [] (l ∷ ls) e = let no : [] ≡ key_text l ∷ key_texts ls = e in absurd (cc)
same_keys (k ∷ ks) [] e = let no : key_text k ∷ key_texts ks ≡ [] = e in absurd (cc)
same_keys (k ∷ ks) (l ∷ ls) e =
    let both : key_text k ∷ key_texts ks ≡ key_text l ∷ key_texts ls = e in
    let first : key_text k ≡ key_text l = cc in
    let rest : key_texts ks ≡ key_texts ls = cc in
    ap₂ (λ (x : Key) (xs : List Key). x ∷ xs) (texts_differ k l first) (same_keys ks ls rest)

-- ---- one oracle
pub one_settled : (m : System) (i : ℕ) (keys keys' : List Key) (o o' : OracleState) (solved : List ℕ) (kept : ℕ) → o.system ≡ m → o.context ≡ i → o.origin ≡ key_texts keys → (h : HasSettled o o' solved kept)
    → keys' ≡ keys ++ keys_of m i solved → IsSettled m i keys o keys' o' (keys_of m i solved) h.kept_keys
one_settled m i keys keys' o o' solved kept is own origin h grown = record {
  counted = record {
    new_keys = subst (λ (ks : List Key). AreNewKeys ks (keys_of m i o.journal) (keys_of m i solved)) old
        (subst (λ (j : ℕ). AreNewKeys h.old (keys_of m j o.journal) (keys_of m j solved)) own (subst (λ (n : System). AreNewKeys h.old (keys_of n o.context o.journal) (keys_of n o.context solved)) is h.new_are));
    kept_keys = subst (λ (ks : List Key). AreKeptKeys ks (keys_of m i o.journal) h.kept_keys) old
        (subst (λ (j : ℕ). AreKeptKeys h.old (keys_of m j o.journal) h.kept_keys) own (subst (λ (n : System). AreKeptKeys h.old (keys_of n o.context o.journal) h.kept_keys) is h.kept_are));
    journal_is = grown;
  };
  home =
      h.after_is ∙ ap (λ (n : System). kept_oracle n o.context (h.old ++ keys_of n o.context solved) []) is ∙ ap (λ (j : ℕ). kept_oracle m j (h.old ++ keys_of m j solved) []) own
      ∙ ap (λ (ks : List Key). kept_oracle m i (ks ++ keys_of m i solved) []) old ∙ ap (λ (ks : List Key). kept_oracle m i ks []) (sym grown);
}
  where
    old : h.old ≡ keys
    old = same_keys h.old keys (sym h.origin_is ∙ origin)

-- ---- one more
same_elsewhere : {A : Type 0} (xs : List A) (p q : ℕ) (y : A) → ¬ (q ≡ p) → slice_get (slice_set xs p y) q ≡ slice_get xs q
same_elsewhere [] zero q y other = refl
same_elsewhere [] (suc p) q y other = refl
same_elsewhere (x ∷ xs) zero zero y other = absurd (other refl)
same_elsewhere (x ∷ xs) zero (suc q) y other = refl
same_elsewhere (x ∷ xs) (suc p) zero y other = refl
same_elsewhere (x ∷ xs) (suc p) (suc q) y other = same_elsewhere xs p q y (λ e. other (ap suc e))

keys_at : (asked : List (Vec Asked)) (i : ℕ) (own : Vec Asked) → slice_get asked i ≡ Some own → slice_get (all_keys asked) i ≡ Some (keys_in own.items)
keys_at asked i own there = slice_get-map_some (λ (listings : Vec Asked). keys_in listings.items) asked i own there

keys_as : (asked asked' : List (Vec Asked)) (i : ℕ) → slice_get asked i ≡ slice_get asked' i → slice_get (all_keys asked) i ≡ slice_get (all_keys asked') i
keys_as asked asked' i same =
    let f : Vec Asked → List Key = λ (listings : Vec Asked). keys_in listings.items in
    slice_get-map f asked i ∙ ap (option_map f) same ∙ sym (slice_get-map f asked' i)

pub none_settled : (m : System) (asked : List (Vec Asked)) (oracles : List OracleState) → AreSettled 0 m asked oracles asked oracles 0 0
none_settled m asked oracles = record {
  new_lists = [];
  kept_lists = [];
  many_new = refl;
  many_kept = refl;
  same_asked = refl;
  same_oracles = refl;
  settled = λ i keys keys' news kepts o o' k p k' p' n q. (let less = slice_get_within {A = List Key} [] i news n in absurd (omega arith));
  asked_left = λ i past. refl;
  oracles_left = λ i past. refl;
  new_is = refl;
  kept_is = refl;
  few_new = omega arith;
  few_kept = omega arith;
}

module _ (n : ℕ) (m : System) (asked : List (Vec Asked)) (oracles : List OracleState) (r : AreReturned m asked oracles) (valid : IsValid m) (asked' : List (Vec Asked)) (oracles' : List OracleState) (new kept : ℕ)
    (h : AreSettled n m asked oracles asked' oracles' new kept) (own own' : Vec Asked) (o o' : OracleState) (solved : List ℕ) (more : ℕ) (own_there : slice_get asked' n ≡ Some own) (o_there : slice_get oracles' n ≡ Some o)
    (s : HasSettled o o' solved more) (closed : HasAnswered own.items solved own'.items) (many : ℕ) (many_are : many ≡ length solved) where
  own_first : slice_get asked n ≡ Some own
  own_first = sym (h.asked_left n (omega arith)) ∙ own_there

  o_first : slice_get oracles n ≡ Some o
  o_first = sym (h.oracles_left n (omega arith)) ∙ o_there

  here : IsSettled m n (keys_in own.items) o (keys_in own'.items) o' (keys_of m n solved) s.kept_keys
  here =
      let its = r.own n o o_first in
      one_settled m n (keys_in own.items) (keys_in own'.items) o o' solved more its.0 its.1 (r.origins n o (keys_in own.items) o_first (keys_at asked n own own_first)) s (closed m n (r.open_now n own own_first))

  abbrev next_asked : List (Vec Asked)
  next_asked = slice_set asked' n own'

  abbrev next_oracles : List OracleState
  next_oracles = slice_set oracles' n o'

  last_one : (i : ℕ) (keys keys' news kepts : List Key) (p p' : OracleState) → i ≡ n → news ≡ keys_of m n solved → slice_get (all_keys asked) i ≡ Some keys → slice_get oracles i ≡ Some p
      → slice_get (all_keys next_asked) i ≡ Some keys' → slice_get next_oracles i ≡ Some p' → slice_get (h.kept_lists ++ s.kept_keys ∷ []) i ≡ Some kepts → IsSettled m i keys p keys' p' news kepts
  last_one i keys keys' news kepts p p' at news_are k there k' there' q =
      let keys_are : keys ≡ keys_in own.items = (let a : Some keys ≡ Some (keys_in own.items) = sym k ∙ ap (slice_get (all_keys asked)) at ∙ keys_at asked n own own_first in cc) in
      let p_is : p ≡ o = (let a : Some p ≡ Some o = sym there ∙ ap (slice_get oracles) at ∙ o_first in cc) in
      let keys_are' : keys' ≡ keys_in own'.items =
      (let a : Some keys' ≡ Some (keys_in own'.items) = sym k' ∙ ap (slice_get (all_keys next_asked)) at ∙ keys_at next_asked n own' (set_there asked' n own own' own_there) in cc) in
      let p_is' : p' ≡ o' = (let a : Some p' ≡ Some o' = sym there' ∙ ap (slice_get next_oracles) at ∙ set_there oracles' n o o' o_there in cc) in
      let kepts_are : kepts ≡ s.kept_keys = (let a : Some kepts ≡ Some s.kept_keys = sym q ∙ slice_get_seam h.kept_lists s.kept_keys [] i (at ∙ sym h.many_kept) in cc) in
      rw (at, keys_are, p_is, keys_are', p_is', news_are, kepts_are) here

  pub one_more : AreSettled (n + 1) m asked oracles next_asked next_oracles (new + many) (kept + more)
  one_more = record {
    new_lists = h.new_lists ++ keys_of m n solved ∷ [];
    kept_lists = h.kept_lists ++ s.kept_keys ∷ [];
    many_new = omega (arith, length-append h.new_lists (keys_of m n solved ∷ []), h.many_new);
    many_kept = omega (arith, length-append h.kept_lists (s.kept_keys ∷ []), h.many_kept);
    same_asked = length-slice_set asked' n own' ∙ h.same_asked;
    same_oracles = length-slice_set oracles' n o' ∙ h.same_oracles;
    settled = λ i keys keys' news kepts p p' k there k' there' w q. elim (slice_get_push_at h.new_lists (keys_of m n solved) i news w) [
      | inl before ↦ (let low : i < n = omega (arith, slice_get_within h.new_lists i news before, h.many_new) in
          let other : ¬ (i ≡ n) = λ e. omega (arith, e, low) in
          h.settled i keys keys' news kepts p p' k there (keys_as asked' next_asked i (sym (same_elsewhere asked' n i own' other)) ∙ k') (sym (same_elsewhere oracles' n i o' other) ∙ there') before
          (sym (slice_get-append_left h.kept_lists (s.kept_keys ∷ []) i (omega (arith, low, h.many_kept))) ∙ q))
      | inr last ↦ last_one i keys keys' news kepts p p' (last.0 ∙ h.many_new) last.1 k there k' there' q
    ];
    asked_left = λ i past. same_elsewhere asked' n i own' (λ e. omega (arith, e, past)) ∙ h.asked_left i (omega (arith, past));
    oracles_left = λ i past. same_elsewhere oracles' n i o' (λ e. omega (arith, e, past)) ∙ h.oracles_left i (omega (arith, past));
    new_is = ap₂ (λ a b. a + b) h.new_is (many_are ∙ sym (length-map solved (key_of m n))) ∙ sym (sum_by_push (λ (ks : List Key). length ks) h.new_lists (keys_of m n solved));
    kept_is = ap₂ (λ a b. a + b) h.kept_is s.many_kept ∙ sym (sum_by_push (λ (ks : List Key). length ks) h.kept_lists s.kept_keys);
    few_new = (let few = s.few_new its_valid in omega (arith, few, many_are, h.few_new));
    few_kept = (let few = s.few_kept its_valid in omega (arith, few, h.few_kept));
  }
    where
      its_valid : IsValid o.system
      its_valid = subst (λ (k : System). IsValid k) (sym (r.own n o o_first).0) valid

-- ---- all of them
pub may_settle : (m : System) (home oracles : List OracleState) (asked : List (Vec Asked)) (lent : Bool) (s : SessionState) → IsSession m home asked lent → session_of m (all_keys asked) lent ≡ s → s.lent ≡ true → MayComeBack s oracles → AreReturned m asked oracles
may_settle m home oracles asked lent s inside is away may =
    let back : MayComeBack (session_of m (all_keys asked) lent) oracles = subst (λ (t : SessionState). MayComeBack t oracles) (sym is) may in record {
      many = inside.many;
      one_each = back.one_each;
      open_now = inside.open_where_lent (ap (λ (t : SessionState). t.lent) is ∙ away);
      own = back.own;
      origins = back.origins;
    }

module _ (m : System) (asked asked' : List (Vec Asked)) (oracles oracles' : List OracleState) (new kept : ℕ) (r : AreReturned m asked oracles) (h : AreSettled (length m.contexts) m asked oracles asked' oracles' new kept) where
  abbrev its_keys : Vec Asked → List Key
  its_keys listings = keys_in listings.items

  each_settled : (i : ℕ) (keys' : List Key) (o' : OracleState) → slice_get (all_keys asked') i ≡ Some keys' → slice_get oracles' i ≡ Some o' → o' ≡ kept_oracle m i keys' []
  each_settled i keys' o' k' there' =
      let low : i < length m.contexts = omega (arith, slice_get_within oracles' i o' there', h.same_oracles, r.one_each) in
      let (keys, k) = slice_get_below (all_keys asked) i (omega (arith, low, length-map asked its_keys, r.many)) in
      let (o, there) = slice_get_below oracles i (omega (arith, low, r.one_each)) in
      let (news, w) = slice_get_below h.new_lists i (omega (arith, low, h.many_new)) in
      let (kepts, q) = slice_get_below h.kept_lists i (omega (arith, low, h.many_kept)) in
      (h.settled i keys keys' news kepts o o' k there k' there' w q).home

  pub home_again : IsSession m oracles' asked' false
  home_again = record {
    many = h.same_asked ∙ r.many;
    home = λ e. record { one_each = h.same_oracles ∙ r.one_each; each = λ i o keys there k. record { system = m; same = refl; is = each_settled i keys o k there } };
    open_where_lent = λ e. absurd (cc);
  }

  pub came_back : (lent now : Bool) → HasBack (session_of m (all_keys asked) lent) oracles (session_of m (all_keys asked') now) new kept
  came_back lent now = record {
    new_lists = h.new_lists;
    kept_lists = h.kept_lists;
    many_new = h.many_new ∙ sym r.many ∙ sym (length-map asked its_keys);
    many_kept = h.many_kept ∙ sym r.many ∙ sym (length-map asked its_keys);
    same_many = length-map asked' its_keys ∙ h.same_asked ∙ sym (length-map asked its_keys);
    each = λ i old journal news kepts o k there k' w q. (
        let low : i < length oracles' = omega (arith, slice_get_within oracles i o there, h.same_oracles) in
        let (o', there') = slice_get_below oracles' i low in
        (h.settled i old journal news kepts o o' k there k' there' w q).counted);
    new_is = h.new_is;
    kept_is = h.kept_is;
  }
