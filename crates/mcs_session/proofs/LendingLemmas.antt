-- Oracles that are made and lent.
use Rattle.std.proofs.Common.{◌≡◌, ℕ, ◌⊎◌, zero, suc, Bool, true, false, List, [], ◌∷◌, ◌++◌, map, length, take, drop, Some, None, slice_get, inl, inr, refl, sym, ap, subst, ◌∙◌, arith}
use Rattle.std.proofs.lemmas.List.{length-map}
use Rattle.std.proofs.lemmas.Option.{slice_get_within}
use Rattle.std.specs.Global.{Vec}
use Rattle.std.specs.List.{AllByRecursion}
use Rattle.mcs_base.proofs.Among.{get_among}
use Rattle.mcs_base.proofs.Each.{all_from_among}
use Rattle.mcs_base.proofs.Lists.{map_slice_get, slice_get-map_some, slice_get_below, slice_get_push_at}
use Rattle.mcs_system.specs.Plain.{Context, System}
use Rattle.mcs_states.specs.Oracles.{OracleState}
use Rattle.mcs_session.specs.Asked.{all_keys, keys_in}
use Rattle.mcs_session.specs.Inside.{no_keys, AreHome, AreOpen, IsHomeOracle, IsSession, IsUnasked}
use Rattle.mcs_session.specs.Keys.{Key}
use Rattle.mcs_session.specs.Sessions.{kept_oracle, of_system, session_of, AreLent, HasRenewedSome}
use Rattle.mcs_session.specs.declared.asked.Asked.{Asked}

-- ---- making
pub as_many_lists : (asked : List (Vec Asked)) → length (all_keys asked) ≡ length asked
as_many_lists asked = length-map asked (λ (listings : Vec Asked). keys_in listings.items)

-- oracles for which nothing is kept, of the first contexts
pub record AreFirst (m : System) (oracles : List OracleState) : Type 0 where
  pub each : (i : ℕ) (o : OracleState) → slice_get oracles i ≡ Some o → o ≡ kept_oracle m i [] []

pub none_made : (m : System) → AreFirst m []
none_made m = record { each = λ i o there. (let no : None ≡ Some o = there in absurd (cc)) }

pub one_made : (m : System) (oracles : List OracleState) (o : OracleState) → AreFirst m oracles → o ≡ kept_oracle m (length oracles) [] [] → AreFirst m (oracles ++ o ∷ [])
one_made m oracles o first is = record {
  each = λ i p there. elim (slice_get_push_at oracles o i p there) [
    | inl before ↦ first.each i p before
    | inr last ↦ last.1 ∙ is ∙ ap (λ (k : ℕ). kept_oracle m k [] []) (sym last.0)
  ];
}

pub all_made : (m : System) (oracles : List OracleState) → AreFirst m oracles → length oracles ≡ length m.contexts → AreHome m.contexts (no_keys m) oracles
all_made m oracles first long = record {
  one_each = long;
  each = λ i o keys there k. (let (c, is, none) = map_slice_get (λ (c : Context). []) m.contexts i keys k in record { system = m; same = refl; is = first.each i o there ∙ ap (λ (ks : List Key). kept_oracle m i ks []) none });
}

pub new_session : (m : System) (oracles : List OracleState) (asked : List (Vec Asked)) → AreHome m.contexts (no_keys m) oracles → all_keys asked ≡ no_keys m → IsSession m oracles asked false
new_session m oracles asked home none = record {
  many = sym (as_many_lists asked) ∙ ap length none ∙ length-map m.contexts (λ (c : Context). []);
  home = λ e. subst (λ (ks : List (List Key)). AreHome m.contexts ks oracles) (sym none) home;
  open_where_lent = λ e. absurd (cc);
}

-- ---- lending
module _ (m : System) (journals : List (List Key)) (oracles : List OracleState) (h : AreHome m.contexts journals oracles) (known : length journals ≡ length m.contexts) where
  journal_at : (i : ℕ) (o : OracleState) → slice_get oracles i ≡ Some o → (keys : List Key) × IsHomeOracle m.contexts i keys o
  journal_at i o there =
      let low = slice_get_within oracles i o there in
      let (keys, k) = slice_get_below journals i (omega (arith, low, known, h.one_each)) in
      (keys, h.each i o keys there k)

  pub none_asked : AllByRecursion (IsUnasked m) oracles
  none_asked = all_from_among (IsUnasked m) oracles (λ o there. let (i, at) = get_among o oracles there in let (keys, own) = journal_at i o at in
      record { same = sym own.same ∙ ap (λ (p : OracleState). p.system.contexts) (sym own.is); unasked = ap (λ (p : OracleState). p.journal) own.is })

  pub lent_ones : (lent : Bool) → AreLent (session_of m journals lent) (map (of_system m) oracles)
  lent_ones lent = record {
    one_each = length-map oracles (of_system m) ∙ h.one_each;
    known = known;
    fresh = λ i keys k. (
        let low = slice_get_within journals i keys k in
        let (o, there) = slice_get_below oracles i (omega (arith, low, known, h.one_each)) in
        let own = h.each i o keys there k in
        slice_get-map_some (of_system m) oracles i o there ∙ ap (λ (p : OracleState). Some (of_system m p)) own.is);
  }

  pub still_home : (oracles' : List OracleState) → HasRenewedSome m oracles oracles' → AreHome m.contexts journals oracles'
  still_home oracles' some = record {
    one_each = ap length some.is ∙ as_many some.some oracles ∙ h.one_each;
    each = λ i o keys there k. (
        let at : slice_get (map (of_system m) (take some.some oracles) ++ drop some.some oracles) i ≡ Some o = subst (λ (os : List OracleState). slice_get os i ≡ Some o) some.is there in
        let (p, there', either) = was some.some oracles i o at in
        let own = h.each i p keys there' k in
        elim either [
          | inl renewed ↦ record { system = m; same = refl; is = renewed ∙ ap (of_system m) own.is }
          | inr same ↦ record { system = own.system; same = own.same; is = same ∙ own.is }
        ]);
  }
    where
      as_many : (k : ℕ) (os : List OracleState) → length (map (of_system m) (take k os) ++ drop k os) ≡ length os
      as_many zero os = refl
      as_many (suc k) [] = refl
      as_many (suc k) (o ∷ os) = ap suc (as_many k os)

      was : (k : ℕ) (os : List OracleState) (i : ℕ) (o : OracleState) → slice_get (map (of_system m) (take k os) ++ drop k os) i ≡ Some o
          → (p : OracleState) × (slice_get os i ≡ Some p) × ((o ≡ of_system m p) ⊎ (o ≡ p))
      was zero os i o there = (o, there, inr refl)
      was (suc k) [] i o there = (let no : None ≡ Some o = there in absurd (cc))
      was (suc k) (p ∷ os) zero o there = (p, refl, inl (cc))
      was (suc k) (p ∷ os) (suc i) o there = was k os i o there

pub while_lent : (m : System) (oracles oracles' : List OracleState) (asked asked' : List (Vec Asked)) (lent now : Bool) → IsSession m oracles asked lent → all_keys asked' ≡ all_keys asked → AreOpen m asked' → now ≡ true → IsSession m oracles' asked' now
while_lent m oracles oracles' asked asked' lent now s same opened is = record {
  many = sym (as_many_lists asked') ∙ ap length same ∙ as_many_lists asked ∙ s.many;
  home = λ e. absurd (let no : true ≡ false = sym is ∙ e in cc);
  open_where_lent = λ e. opened;
}

pub not_lent : (m : System) (oracles oracles' : List OracleState) (asked asked' : List (Vec Asked)) (lent : Bool) → IsSession m oracles asked lent → lent ≡ false → all_keys asked' ≡ all_keys asked
    → (AreHome m.contexts (all_keys asked) oracles → AreHome m.contexts (all_keys asked) oracles') → IsSession m oracles' asked' lent
not_lent m oracles oracles' asked asked' lent s is same kept = record {
  many = sym (as_many_lists asked') ∙ ap length same ∙ as_many_lists asked ∙ s.many;
  home = λ e. subst (λ (ks : List (List Key)). AreHome m.contexts ks oracles') (sym same) (kept (s.home e));
  open_where_lent = λ e. absurd (let no : false ≡ true = sym is ∙ e in cc);
}

-- ---- editing
pub edited_session : (m n : System) (oracles : List OracleState) (asked : List (Vec Asked)) (lent : Bool) → IsSession m oracles asked lent → lent ≡ false → n.contexts ≡ m.contexts → IsSession n oracles asked lent
edited_session m n oracles asked lent s is same = record {
  many = s.many ∙ ap length (sym same);
  home = λ home. subst (λ (cs : List Context). AreHome cs (all_keys asked) oracles) (sym same) (s.home home);
  open_where_lent = λ away. absurd (let no : false ≡ true = sym is ∙ away in cc);
}
