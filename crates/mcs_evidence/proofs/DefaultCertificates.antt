-- What accepted verdicts on the sets of defaults show.
use Rattle.std.proofs.Common.{◌≡◌, ℕ, zero, suc, ◌+◌, ◌<◌, ◌^◌, Bool, true, false, List, [], ◌∷◌, ◌++◌, map, length, Some, None, slice_get, IsTrue, refl, sym, ap, ◌∙◌, subst, inl, inr, arith, true≢false}
use Rattle.std.specs.List.{AllByRecursion}
use Rattle.std.specs.Cmp.{both_ways}
use Rattle.std.proofs.lemmas.Bool.Decides.{nat_tests, same_from_decides}
use Rattle.std.proofs.lemmas.Option.{slice_get_within}
use Rattle.mcs_sets.specs.Sets.{has, minus, members}
use Rattle.mcs_sets.proofs.SetLemmas.{same_set, has-minus, has-such_that, members_below}
use Rattle.mcs_base.specs.Listings.{IsAmong}
use Rattle.mcs_base.proofs.Among.{among_map, among_flat_map, among_get, zip_among}
use Rattle.mcs_base.proofs.Each.{all_among, all_from_among, all_get, all_push}
use Rattle.mcs_base.proofs.Lists.{slice_get_below}
use Rattle.mcs_base.proofs.ListingLemmas.{members_listing}
use Rattle.mcs_system.specs.Plain.{Name, Formula, Not, Default, Item, Rule}
use Rattle.mcs_system.specs.Logic.{Theory, Entails}
use Rattle.mcs_system.specs.Views.{Shows}
use Rattle.mcs_cnf.specs.ClauseLists.{IsOver, AreOver}
use Rattle.mcs_cnf.specs.Entailments.{Entailment}
use Rattle.mcs_cnf.proofs.EntailmentLemmas.{sound, shown_follow}
use Rattle.mcs_evidence.specs.Defaults.{facts_of, defaults_of, numbered_default, numbered_formula, defaults_in, generated, all_defaults, IsOverItem, AreOverItems, Absence, Unsupported, Blocked, Verdict, Fails, Applied, Ungrounded, Extension, IsEntailmentShown, IsDenied, AreDenied, negated_justs, IsAbsent, AreGrounded, FailsToApply, HasApplied, IsUngrounded, IsGenerating, IsAcceptedVerdict, ShowsView}
use Rattle.mcs_evidence.specs.Laws.{DefaultCertificatesAreSound}
use Rattle.mcs_system.proofs.Consequence.{one_set, follows_through}
use Rattle.mcs_evidence.proofs.DefaultLemmas.{by_kind, in_defaults, generated_each, facts_follow, conclusion_follows}
use Rattle.mcs_evidence.specs.Theories.{IsDefaultAt, IsApplicable, NoneSupported, Generates}
use Rattle.mcs_evidence.proofs.Extensions.{IsGeneratedView, generated_view}

numbered_among : (fs : List Formula) (n : ℕ) (f : Formula) → numbered_formula fs n ≡ Some f → IsAmong f fs
numbered_among fs zero f is = absurd (let none : None ≡ Some f = is in cc)
numbered_among fs (suc k) f is = among_get f fs k is

module _ (names : List Name) (items : List Item) (over : AreOverItems names items) where
  -- ---- all that is asked is over the names
  over_facts : AreOver names (facts_of items)
  over_facts = (by_kind (IsOverItem names) items over).0

  over_default : (k : ℕ) (d : Default) → IsDefaultAt items k d → IsOver names d.pre × AreOver names d.justs × IsOver names d.conclusion
  over_default k d is = all_get (λ d. IsOverItem names (Rule d)) (defaults_of items) k d (by_kind (IsOverItem names) items over).1 is

  over_generated : (set : ℕ) → AreOver names (generated items set)
  over_generated set = generated_each items set (IsOver names) over_facts (λ k d is member. (over_default k d is).2)

  -- ---- what is shown, and what is denied
  shown_follows : (fs : List Formula) → AreOver names fs → (g : Formula) → IsOver names g → (e : Entailment) → IsEntailmentShown names fs g e → Entails fs g
  shown_follows fs over_fs g over_g e shown = (sound fs g names e over_fs over_g shown.0).0 shown.1

  denied_fails : (fs : List Formula) → AreOver names fs → (g : Formula) → IsOver names g → (e : Entailment) → IsDenied names fs g e → ¬ Entails fs g
  denied_fails fs over_fs g over_g e denied follows = true≢false (sym ((sound fs g names e over_fs over_g denied.0).1 follows) ∙ denied.1)

  one_denied : (fs : List Formula) → AreOver names fs → (goals : List Formula) (es : List Entailment) → AreDenied names fs goals es → (g : Formula) → IsOver names g → IsAmong g goals → ¬ Entails fs g
  one_denied fs over_fs goals es denied g over_g among = let (e, there, h) = zip_among (IsDenied names fs) goals es denied g among in denied_fails fs over_fs g over_g e h

  -- no negated justification of one of the defaults follows
  allowed_by : (fs : List Formula) → AreOver names fs → (ds : List Default) (es : List Entailment) → AreDenied names fs (negated_justs ds) es → (k : ℕ) (d : Default) → IsDefaultAt items k d → IsAmong d ds → AllByRecursion (λ j. ¬ Entails fs (Not j)) d.justs
  allowed_by fs over_fs ds es denied k d is among = all_from_among (λ j. ¬ Entails fs (Not j)) d.justs (λ j there.
      one_denied fs over_fs (negated_justs ds) es denied (Not j) (all_among (IsOver names) d.justs j (over_default k d is).1 there) (among_flat_map (λ (d : Default). map Not d.justs) d (Not j) ds among (among_map Not j d.justs there)))

  -- a default that is shown to be unsupported or blocked is not applicable
  absent_fails : (fs : List Formula) → AreOver names fs → (k : ℕ) (d : Default) → IsDefaultAt items k d → (absence : Absence) → IsAbsent names items fs (k + 1) absence → ¬ IsApplicable fs d
  absent_fails fs over_fs k d is (Unsupported n e) (number, (c, is', denied)) applicable =
      let place : n ≡ suc k = omega arith in
      let there : slice_get (defaults_of items) k ≡ Some c = ap (numbered_default items) (sym place) ∙ is' in
      let same : d ≡ c = cc in
      denied_fails fs over_fs c.pre (over_default k c there).0 e denied (subst (λ (d : Default). Entails fs d.pre) same applicable.supported)
  absent_fails fs over_fs k d is (Blocked n j e) (number, (c, is', (f, among, shown))) applicable =
      let place : n ≡ suc k = omega arith in
      let there : slice_get (defaults_of items) k ≡ Some c = ap (numbered_default items) (sym place) ∙ is' in
      let same : d ≡ c = cc in
      let allowed : AllByRecursion (λ j. ¬ Entails fs (Not j)) c.justs = subst (λ (d : Default). AllByRecursion (λ j. ¬ Entails fs (Not j)) d.justs) same applicable.allowed in
      let f_there : IsAmong f c.justs = numbered_among c.justs j f among in
      all_among (λ j. ¬ Entails fs (Not j)) c.justs f allowed f_there (shown_follows fs over_fs (Not f) (all_among (IsOver names) c.justs f (over_default k c there).1 f_there) e shown)

  -- ---- along an order
  -- formulas that have what the order begins with, and the consequents of its defaults that they support, support each of these
  along : (f fs : List Formula) (order : List ℕ) (pres : List Entailment) → AreOver names fs → AllByRecursion (Entails f) fs
      → ((k : ℕ) (d : Default) → IsDefaultAt items k d → IsAmong (k + 1) order → Entails f d.pre → Entails f d.conclusion)
      → AreGrounded names items fs order pres → (k : ℕ) (d : Default) → IsDefaultAt items k d → IsAmong (k + 1) order → Entails f d.pre
  along f fs [] pres over_fs follow closed grounded k d is among = absurd among
  along f fs (n ∷ ns) [] over_fs follow closed grounded k d is among = absurd grounded
  along f fs (zero ∷ ns) (e ∷ es) over_fs follow closed (c, is', shown, rest) k d is among = absurd (let none : None ≡ Some c = is' in cc)
  along f fs (suc n ∷ ns) (e ∷ es) over_fs follow closed (c, is', shown, rest) k d is among = elim among [
    | inl here ↦ let place : k ≡ n = omega arith in let same : c ≡ d = (let there : slice_get (defaults_of items) k ≡ Some c = ap (slice_get (defaults_of items)) place ∙ is' in cc) in subst (λ (d : Default). Entails f d.pre) same first
    | inr later ↦ along f (fs ++ c.conclusion ∷ []) ns es (all_push (IsOver names) fs c.conclusion over_fs (over_default n c is').2)
        (all_push (Entails f) fs c.conclusion follow (closed n c is' (inl (omega arith)) first)) (λ j b is_b among_ns. closed j b is_b (inr among_ns)) rest k d is later
  ]
    where
      first : Entails f c.pre
      first = follows_through f fs c.pre follow (shown_follows fs over_fs c.pre (over_default n c is').0 e shown)

  -- ---- an accepted extension
  module _ (beliefs : List Formula) (set : ℕ) (small : set < 2 ^ length (defaults_of items)) (order : List ℕ) (pres justs : List Entailment) (outside : List Absence) (outputs : List Entailment) (places : ℕ) (accepted : IsGenerating names items beliefs set order pres justs outside outputs places) where
    member_from : (k : ℕ) → IsAmong (k + 1) order → has set k ≡ true
    member_from k among = let (j, place, member) = (accepted.all (k + 1)).0 among in let same : j ≡ k = omega arith in subst (λ (i : ℕ). IsTrue (has set i)) same member

    among_from : (k : ℕ) → has set k ≡ true → IsAmong (k + 1) order
    among_from k member = (accepted.all (k + 1)).1 (k, refl, member)

    absence_there : (k : ℕ) (d : Default) → IsDefaultAt items k d → has set k ≡ false → (absence : Absence) × IsAbsent names items (generated items set) (k + 1) absence
    absence_there k d is out =
        let less = slice_get_within (defaults_of items) k d is in
        let known : has (all_defaults items) k ≡ true = has-such_that (length (defaults_of items)) (λ j. true) k ∙ grind (arith, nat_tests) in
        let there : has (minus (all_defaults items) set) k ≡ true = has-minus (all_defaults items) set k ∙ rw (known, out) refl in
        let (absence, among, absent) = zip_among (λ (j : ℕ) (absence : Absence). IsAbsent names items (generated items set) (j + 1) absence) (members (minus (all_defaults items) set)) outside accepted.complete k (((members_listing (minus (all_defaults items) set)).exactly k).1 there) in
        (absence, absent)

    accepted_generates : Generates items set
    accepted_generates = record {
      inside = small;
      applied = λ k d is member. record {
        supported = along (generated items set) (facts_of items) order pres over_facts (facts_follow items set) (λ j c is_c among supported. conclusion_follows items set j c is_c (member_from j among)) accepted.grounded k d is (among_from k member);
        allowed = allowed_by (generated items set) (over_generated set) (defaults_in items set) justs accepted.allowed k d is (in_defaults items set k d is member);
      };
      complete = λ k d is out. (let (absence, absent) = absence_there k d is out in absent_fails (generated items set) (over_generated set) k d is absence absent);
      grounded = λ part within less none. less (same_set part set (λ k. both_ways (has part k) (has set k) (within k) (λ member. joined part none k member (has part k) refl)));
    }
      where
        closed : (part : ℕ) → NoneSupported items set part → (k : ℕ) (d : Default) → IsDefaultAt items k d → IsAmong (k + 1) order → Entails (generated items part) d.pre → Entails (generated items part) d.conclusion
        closed part none k d is among supported = at (has part k) refl
          where
            at : (b : Bool) → has part k ≡ b → Entails (generated items part) d.conclusion
            at true member = conclusion_follows items part k d is member
            at false out = absurd (none k d is (member_from k among) out supported)

        joined : (part : ℕ) → NoneSupported items set part → (k : ℕ) → has set k ≡ true → (b : Bool) → has part k ≡ b → b ≡ true
        joined part none k member true e = refl
        joined part none k member false out =
            let (d, is) = slice_get_below (defaults_of items) k (members_below set (length (defaults_of items)) k small member) in
            absurd (none k d is member out (along (generated items part) (facts_of items) order pres over_facts (facts_follow items part) (closed part none) accepted.grounded k d is (among_from k member)))

    accepted_shows : AreOver names beliefs → Shows (Theory (generated items set)) beliefs places
    accepted_shows over_beliefs = shown_follow names (generated items set) beliefs places outputs (over_generated set) over_beliefs accepted.shown

  view_shown : (beliefs : List Formula) → AreOver names beliefs → (set : ℕ) → set < 2 ^ length (defaults_of items) → (v : Verdict) (places : ℕ) → ShowsView names items beliefs set v places → IsGeneratedView items beliefs places
  view_shown beliefs over_beliefs set small (Extension order pres justs outside outputs) places h =
      (set, accepted_generates beliefs set small order pres justs outside outputs places h, accepted_shows beliefs set small order pres justs outside outputs places h over_beliefs)
  view_shown beliefs over_beliefs set small (Fails absence) places h = absurd h
  view_shown beliefs over_beliefs set small (Applied number pre ents) places h = absurd h
  view_shown beliefs over_beliefs set small (Ungrounded closed pres) places h = absurd h

  -- ---- no other verdict is accepted on a set that generates an extension
  not_failed : (set : ℕ) (absence : Absence) → Generates items set → ¬ FailsToApply names items set absence
  not_failed set absence generates (k, member, absent) =
      let (d, is) = slice_get_below (defaults_of items) k (members_below set (length (defaults_of items)) k generates.inside member) in
      absent_fails (generated items set) (over_generated set) k d is absence absent (generates.applied k d is member)

  not_applied : (set number : ℕ) (pre : Entailment) (justs : List Entailment) → Generates items set → ¬ HasApplied names items set number pre justs
  not_applied set number pre justs generates h = at number h.is_it h.outside
    where
      at : (n : ℕ) → numbered_default items n ≡ Some h.default → ((k : ℕ) → n ≡ k + 1 → has set k ≡ false) → ⊥
      at zero is out = let none : None ≡ Some h.default = is in cc
      at (suc k) is out = generates.complete k h.default is (out k (omega arith)) (record {
        supported = shown_follows (generated items set) (over_generated set) h.default.pre (over_default k h.default is).0 pre h.supported;
        allowed = allowed_by (generated items set) (over_generated set) (h.default ∷ []) justs h.allowed k h.default is (inl refl);
      })

  not_ungrounded : (set part : ℕ) (pres : List Entailment) → Generates items set → ¬ IsUngrounded names items set part pres
  not_ungrounded set part pres generates h = generates.grounded part h.part h.less (λ k d is member out.
      let there : has (minus set part) k ≡ true = has-minus set part k ∙ rw (member, out) refl in
      one_denied (generated items part) (over_generated part) (map (λ (c : Default). c.pre) (defaults_in items (minus set part))) pres h.unsupported d.pre (over_default k d is).0
      (among_map (λ (c : Default). c.pre) d (defaults_in items (minus set part)) (in_defaults items (minus set part) k d is there)))

  shows_view : (beliefs : List Formula) → AreOver names beliefs → (set : ℕ) (v : Verdict) → IsAcceptedVerdict names items beliefs set v → Generates items set
      → (places : ℕ) × ShowsView names items beliefs set v places × Shows (Theory (generated items set)) beliefs places
  shows_view beliefs over_beliefs set (Extension order pres justs outside outputs) (places, h) generates = (places, h, accepted_shows beliefs set generates.inside order pres justs outside outputs places h over_beliefs)
  shows_view beliefs over_beliefs set (Fails absence) h generates = absurd (not_failed set absence generates h)
  shows_view beliefs over_beliefs set (Applied number pre justs) h generates = absurd (not_applied set number pre justs generates h)
  shows_view beliefs over_beliefs set (Ungrounded part pres) h generates = absurd (not_ungrounded set part pres generates h)

-- ---- accepted certificates
pub defaults_sound : DefaultCertificatesAreSound
defaults_sound names items beliefs outputs verdicts over over_beliefs accepted = record {
  exactly = λ places. (
    λ among. (let (set, v, is, shows) = (accepted.listed places).0 among in (generated_view items beliefs places).1 (view_shown names items over beliefs over_beliefs set (small set v is) v places shows)),
    λ view. (let (set, generates, shown) = (generated_view items beliefs places).0 view in
        let (v, is) = slice_get_below verdicts set (subst (λ (n : ℕ). set < n) (sym accepted.one_each) generates.inside) in
        let (others, shows, shown') = shows_view names items over beliefs over_beliefs set v (accepted.accepted set v is) generates in
        let same : others ≡ places = one_set (Theory (generated items set)) beliefs others places shown' shown in
        (accepted.listed places).1 (set, v, is, subst (ShowsView names items beliefs set v) same shows)),
  );
  ascending = accepted.ascending;
}
  where
    small : (set : ℕ) (v : Verdict) → slice_get verdicts set ≡ Some v → set < 2 ^ length (defaults_of items)
    small set v is = subst (λ (n : ℕ). set < n) accepted.one_each (slice_get_within verdicts set v is)

-- ---- what one verdict shows
-- no two views
pub shows_once : (names : List Name) (items : List Item) (beliefs : List Formula) (set : ℕ) (v : Verdict) (p q : ℕ) → ShowsView names items beliefs set v p → ShowsView names items beliefs set v q → p ≡ q
shows_once names items beliefs set (Fails a) p q h h' = absurd h
shows_once names items beliefs set (Applied n pre justs) p q h h' = absurd h
shows_once names items beliefs set (Ungrounded closed pres) p q h h' = absurd h
shows_once names items beliefs set (Extension order pres justs outside outputs) p q h h' = same_set p q (λ k. same_from_decides {P = has q k ≡ true} (has p k) (has q k)
    (λ is. (h'.shown.exactly k).1 ((h.shown.exactly k).0 is), λ is. (h.shown.exactly k).1 ((h'.shown.exactly k).0 is)) (λ is. is, λ is. is))

pub shows_accepted : (names : List Name) (items : List Item) (beliefs : List Formula) (set : ℕ) (v : Verdict) (p : ℕ) → ShowsView names items beliefs set v p → IsAcceptedVerdict names items beliefs set v
shows_accepted names items beliefs set (Fails a) p h = absurd h
shows_accepted names items beliefs set (Applied n pre justs) p h = absurd h
shows_accepted names items beliefs set (Ungrounded closed pres) p h = absurd h
shows_accepted names items beliefs set (Extension order pres justs outside outputs) p h = (p, h)
