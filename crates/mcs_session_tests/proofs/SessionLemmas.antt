-- Oracles of a session that were asked, and are otherwise as they were lent.
use Rattle.std.proofs.Common.{◌≡◌, ◌∙◌, ◌++◌, ℕ, List, [], take, drop, Some, true, length, map, sym, ap, arith}
use Rattle.std.proofs.lemmas.List.{length-map}
use Rattle.std.proofs.lemmas.Option.{slice_get_within}
use Rattle.std.proofs.Math.Seq.{take-append_seam}
use Rattle.mcs_base.proofs.Lists.{slice_get_below}
use Rattle.mcs_base.proofs.Placed.{same_at}
use Rattle.mcs_system.specs.Plain.{System}
use Rattle.mcs_states.specs.Oracles.{with_journal, OracleState}
use Rattle.mcs_session.specs.Sessions.{kept_oracle, session_of, AreLent, MayComeBack, SessionState}
use Rattle.mcs_session_tests.specs.Sessions.{AreOwn}

pub as_many : (first now : List OracleState) → map (with_journal []) now ≡ map (with_journal []) first → length now ≡ length first
as_many first now same = sym (length-map now (with_journal [])) ∙ ap length same ∙ length-map first (with_journal [])

pub still_own : (m : System) (first now : List OracleState) → AreOwn m first → map (with_journal []) now ≡ map (with_journal []) first → AreOwn m now
still_own m first now own same = record {
  one_each = as_many first now same ∙ own.one_each;
  own = λ i o there. (let (p, there', is) = same_at (with_journal []) now first same i o there in
      let its = own.own i p there' in
      (sym (ap (λ (q : OracleState). q.system) is) ∙ its.0, sym (ap (λ (q : OracleState). q.context) is) ∙ its.1));
}

pub lent_own : (s : SessionState) (oracles : List OracleState) → AreLent s oracles → AreOwn s.system oracles
lent_own s oracles lent = record {
  one_each = lent.one_each;
  own = λ i o there. (
      let low = slice_get_within oracles i o there in
      let (keys, k) = slice_get_below s.journals i (omega (arith, low, lent.known, lent.one_each)) in
      let is : o ≡ kept_oracle s.system i keys [] = (let both : Some o ≡ Some (kept_oracle s.system i keys []) = sym there ∙ lent.fresh i keys k in cc) in
      (ap (λ (q : OracleState). q.system) is, ap (λ (q : OracleState). q.context) is));
}

pub come_back : (s t : SessionState) (first now : List OracleState) → t ≡ session_of s.system s.journals true → AreLent s first → map (with_journal []) now ≡ map (with_journal []) first → MayComeBack t now
come_back s t first now is lent same =
    let own = still_own s.system first now (lent_own s first lent) same in rw is (record {
      one_each = own.one_each;
      own = own.own;
      origins = λ i o keys there k. (
          let (p, there', alike) = same_at (with_journal []) now first same i o there in
          let fresh : p ≡ kept_oracle s.system i keys [] = (let both : Some p ≡ Some (kept_oracle s.system i keys []) = sym there' ∙ lent.fresh i keys k in cc) in
          sym (ap (λ (q : OracleState). q.origin) alike) ∙ ap (λ (q : OracleState). q.origin) fresh);
    })

-- a list that is written over another one of its length
pub whole_written : (n : ℕ) (now first : List OracleState) → length now ≡ n → take n (now ++ drop (length now) first) ≡ now
whole_written n now first long = ap (λ (k : ℕ). take k (now ++ drop (length now) first)) (sym long) ∙ take-append_seam now (drop (length now) first)
