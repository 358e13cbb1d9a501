-- When a draft with a rule more, or with rules fewer, is one.
use Rattle.std.proofs.Common.{◌≡◌, ℕ, ◌+◌, ◌<◌, ◌≤◌, Bool, false, nat_eq, nat_lt, cond, List, [], ◌∷◌, ◌++◌, map, filter, length, count_by, slice_get, refl, sym, ap, ◌∙◌, subst, inl, inr, arith, true≢false}
use Rattle.std.proofs.lemmas.Bool.Decides.{nat_tests}
use Rattle.std.proofs.lemmas.Bool.{or_from, cases_Bool}
use Rattle.std.proofs.lemmas.List.{length-append, length-map, map-append}
use Rattle.std.proofs.lemmas.List.Folds.{list_any-append}
use Rattle.std.specs.List.{list_any, flat_map}
use Rattle.mcs_base.specs.Listings.{AreApart}
use Rattle.mcs_base.proofs.Among.{filter_among, among_flat_map, flat_map_among, among_either, among_left, among_right}
use Rattle.mcs_base.proofs.Distinct.{distinct_push}
use Rattle.mcs_base.proofs.Lists.{slice_get_below}
use Rattle.mcs_base.proofs.Sums.{count_by_push}
use Rattle.mcs_system.specs.declared.bridge.Bridge as code
use Rattle.mcs_system.specs.declared.bridge.Read as code_read
use Rattle.mcs_system.specs.Plain.{Name, Context, Read, Bridge, System}
use Rattle.mcs_system.specs.Seen.{bridge_of, read_of}
use Rattle.mcs_system.specs.Systems.{occurrences}
use Rattle.mcs_system.specs.Atoms.{own_atoms}
use Rattle.mcs_system.specs.Faults.{reads_of, points_outside, has_misfit, has_twins, has_large_part, IsValid}
use Rattle.mcs_system.proofs.NameLemmas.{no_twins, is_in-among}
use Rattle.mcs_system.proofs.ValidLemmas.{tests_pass, limit_kept}
use Rattle.mcs_system.proofs.ValidLemmas as kept
use Rattle.mcs_script.specs.declared.share.Share.{Share}
use Rattle.mcs_system.specs.Edits.{with_rules}
use Rattle.mcs_system.proofs.FewerRules.{rules_apart, rules_fit, rules_light, rules_small, fewer_is_valid}
use Rattle.mcs_system.proofs.ValidAgain.{AreSoundRules, valid_again}
use Rattle.mcs_script.specs.Drafts.{drafted, AreShares, IsDraft, AreWithin}
use Rattle.mcs_script.specs.Edits.{Added, edited}
use Rattle.mcs_script.specs.Fitting.{IsFitting}
use Rattle.mcs_script.specs.Found.{AreFound, inputs_by, atoms_by}
use Rattle.mcs_script.proofs.CountLemmas.{few_variables, few_inputs, few_atoms}

abbrev name : Bridge → Name
name b = b.name

abbrev into : ℕ → Bridge → Bool
into i b = nat_eq b.target i

no_rules : (bs : List Bridge) → filter (λ b. false) bs ≡ []
no_rules [] = refl
no_rules (b ∷ bs) = no_rules bs

-- the contexts alone
pub bare_is_valid : (m : System) → IsValid m → IsValid (with_rules m [])
bare_is_valid m valid = subst (λ (bs : List Bridge). IsValid (with_rules m bs)) (no_rules m.bridges) (fewer_is_valid m valid (λ b. false))

-- ---- what was found is still found
pub found_fewer : (m : System) (p : Bridge → Bool) (found : List Read) → AreFound (occurrences m) found → AreFound (occurrences (with_rules m (filter p m.bridges))) found
found_fewer m p found all few r h =
    let (b, among, here) = flat_map_among reads_of r (filter p m.bridges) h in
    all few r (among_flat_map reads_of b r m.bridges (filter_among p b m.bridges among).0 here)

pub shares_fewer : (contexts : List Context) (rules : List Bridge) (p : Bridge → Bool) (shares : List Share) → AreShares contexts rules shares → AreShares contexts (filter p rules) shares
shares_fewer contexts rules p shares are = record {
  one_each = are.one_each;
  each = λ i s at. let known = are.each i s at in record {
    inputs = λ few r h. let (b, among, here) = flat_map_among (inputs_by i) r (filter p rules) h in known.inputs few r (among_flat_map (inputs_by i) b r rules (filter_among p b rules among).0 here);
    atoms = λ few n h. known.atoms few n (elim (among_either n (own_atoms (slice_get contexts i)) _ h) [
      | inl own ↦ among_left n (own_atoms (slice_get contexts i)) _ own
      | inr more ↦ let (b, among, here) = flat_map_among (atoms_by i) n (filter p rules) more in
          among_right n (own_atoms (slice_get contexts i)) _ (among_flat_map (atoms_by i) b n rules (filter_among p b rules among).0 here)
    ]);
  };
}

-- ---- a rule more
one_more : {A : Type 0} (q : A → Bool) (xs : List A) (x : A) → list_any q xs ≡ false → q x ≡ false → list_any q (xs ++ x ∷ []) ≡ false
one_more q xs x others this = list_any-append q xs (x ∷ []) ∙ or_from (list_any q xs) (list_any q (x ∷ [])) others (or_from (q x) false this refl)

module _ (m : System) (valid : IsValid m) (b : Bridge) (fits : IsFitting m.contexts m.bridges b) where
  abbrev more : List Bridge
  more = m.bridges ++ b ∷ []

  names_apart : has_twins (map name more) ≡ false
  names_apart = (no_twins (map name more)).1 (subst (λ (ns : List Name). AreApart ns) (sym (map-append name m.bridges (b ∷ [])))
      (distinct_push (map name m.bridges) b.name ((no_twins (map name m.bridges)).0 (rules_apart m valid)) (λ h. true≢false (sym ((is_in-among b.name (map name m.bridges)).1 h) ∙ fits.new))))

  few_there : (i : ℕ) → i < length m.contexts → count_by (into i) more ≤ 12
  few_there i less = elim (cases_Bool (nat_eq b.target i)) [
    | inl there ↦
        let is : b.target ≡ i = grind (arith, nat_tests) in
        let room : count_by (into i) m.bridges < 12 = subst (λ (j : ℕ). count_by (into j) m.bridges < 12) is fits.room_there in
        let count : count_by (into i) more ≡ count_by (into i) m.bridges + 1 = subst (λ (v : Bool). count_by (into i) more ≡ count_by (into i) m.bridges + cond v 1 0) there (count_by_push (into i) m.bridges b) in
        omega (arith, room, count)
    | inr other ↦
        let before = kept.few_rules m valid i less in
        let count : count_by (into i) more ≡ count_by (into i) m.bridges + 0 = subst (λ (v : Bool). count_by (into i) more ≡ count_by (into i) m.bridges + cond v 1 0) other (count_by_push (into i) m.bridges b) in
        omega (arith, before, count)
  ]

  more_sound : AreSoundRules m.contexts more
  more_sound = record {
    known = one_more (points_outside (length m.contexts)) m.bridges b (tests_pass m valid).known fits.sound.known;
    apart = names_apart;
    fitting = one_more (has_misfit m.contexts) m.bridges b (rules_fit m valid) fits.sound.fitting;
    few = omega (arith, length-append m.bridges (b ∷ []), fits.room);
    few_there = few_there;
    light = one_more (λ (c : Bridge). nat_lt 1000000 c.weight) m.bridges b (rules_light m valid) fits.sound.light;
    small = one_more has_large_part m.bridges b (rules_small m valid) fits.sound.small;
  }

  pub added_is_valid : (reads : List code_read.Read) (shares : List Share) → AreWithin reads shares → AreFound (occurrences (with_rules m more)) (map read_of reads) → AreShares m.contexts more shares → IsValid (edited m (Added b))
  added_is_valid reads shares within found are = valid_again m valid more more_sound (record {
    variables = omega (arith, few_variables (with_rules m more) (map read_of reads) (found (omega (arith, length-map reads read_of, within.reads_few))), length-map reads read_of, within.reads_few);
    inputs = λ i less.
        let (s, at) = slice_get_below shares i (omega (arith, less, are.one_each)) in
        let few = (within.few i s at).0 in
        omega (arith, few, length-map s.inputs.items read_of, few_inputs (with_rules m more) i (map read_of s.inputs.items) ((are.each i s at).inputs (omega (arith, few, length-map s.inputs.items read_of))));
    atoms = λ i less.
        let (s, at) = slice_get_below shares i (omega (arith, less, are.one_each)) in
        let few = (within.few i s at).1 in
        omega (arith, few, few_atoms (with_rules m more) i s.atoms.items ((are.each i s at).atoms few));
  })

-- ---- drafts
pub known_is_valid : (bare : System) (before now : List code.Bridge) (b : Bridge) (reads : List code_read.Read) (shares : List Share) → map bridge_of now ≡ map bridge_of before ++ b ∷ [] → IsValid (drafted bare before) → IsFitting bare.contexts (map bridge_of before) b → AreWithin reads shares
    → AreFound (flat_map reads_of (map bridge_of before ++ b ∷ [])) (map read_of reads) → AreShares bare.contexts (map bridge_of before ++ b ∷ []) shares → IsValid (drafted bare now)
known_is_valid bare before now b reads shares is valid fits within found are = subst (λ (bs : List Bridge). IsValid (with_rules bare bs)) (sym is) (added_is_valid (drafted bare before) valid b fits reads shares within found are)

pub draft_more : (bare : System) (now : List code.Bridge) (all : List Bridge) (reads : List code_read.Read) (shares : List Share) → map bridge_of now ≡ all → IsValid (drafted bare now) → AreFound (flat_map reads_of all) (map read_of reads) → AreShares bare.contexts all shares → IsDraft bare now reads shares
draft_more bare now all reads shares is valid found are = record {
  valid = valid;
  found = subst (λ (bs : List Bridge). AreFound (flat_map reads_of bs) (map read_of reads)) (sym is) found;
  shares_are = subst (λ (bs : List Bridge). AreShares bare.contexts bs shares) (sym is) are;
}

pub same_system : (bare m : System) (rules : List code.Bridge) → bare.contexts ≡ m.contexts → map bridge_of rules ≡ m.bridges → drafted bare rules ≡ m
same_system bare m rules cs bs = ap (λ (c : List Context). let s : System = record { contexts = c; bridges = map bridge_of rules } in s) cs ∙ ap (λ (b : List Bridge). let s : System = record { contexts = m.contexts; bridges = b } in s) bs

pub draft_of : (bare m : System) (rules : List code.Bridge) (reads : List code_read.Read) (shares : List Share) → bare.contexts ≡ m.contexts → map bridge_of rules ≡ m.bridges → IsValid m → AreFound (flat_map reads_of (map bridge_of rules)) (map read_of reads) → AreShares bare.contexts (map bridge_of rules) shares → IsDraft bare rules reads shares
draft_of bare m rules reads shares cs bs valid found are = record { valid = subst (λ (s : System). IsValid s) (sym (same_system bare m rules cs bs)) valid; found = found; shares_are = are }

pub draft_fewer : (bare : System) (rules now : List code.Bridge) (p : Bridge → Bool) (reads : List code_read.Read) (shares : List Share) → map bridge_of now ≡ filter p (map bridge_of rules) → IsDraft bare rules reads shares → IsDraft bare now reads shares
draft_fewer bare rules now p reads shares is draft = draft_more bare now (filter p (map bridge_of rules)) reads shares is
    (subst (λ (bs : List Bridge). IsValid (with_rules bare bs)) (sym is) (fewer_is_valid (drafted bare rules) draft.valid p))
    (found_fewer (drafted bare rules) p (map read_of reads) draft.found) (shares_fewer bare.contexts (map bridge_of rules) p shares draft.shares_are)
