-- What is found of a context by several rules.
use Rattle.std.proofs.Common.{◌≡◌, ℕ, ◌+◌, ◌<◌, ◌≤◌, List, [], ◌∷◌, ◌++◌, map, length, slice_get, slice_set, Some, sym, ap, ◌∙◌, subst, inl, inr, arith}
use Rattle.std.proofs.lemmas.List.{append-nil, append_assoc}
use Rattle.std.proofs.lemmas.Grind.{flat_map-append}
use Rattle.std.proofs.lemmas.Option.{slice_get_within}
use Rattle.std.specs.List.{flat_map}
use Rattle.mcs_base.specs.Listings.{IsAmong}
use Rattle.mcs_base.proofs.Among.{among_either, among_left}
use Rattle.mcs_base.proofs.Lists.{slice_get_push_at}
use Rattle.mcs_base.proofs.Written.{slice_get-slice_set, length-slice_set}
use Rattle.mcs_system.specs.Faults.{reads_of}
use Rattle.mcs_system.specs.Plain.{Name, Context, Read, Bridge, System}
use Rattle.mcs_system.specs.Atoms.{own_atoms, atoms_of}
use Rattle.mcs_system.specs.Seen.{read_of}
use Rattle.mcs_script.specs.declared.share.Share.{Share}
use Rattle.mcs_script.specs.Drafts.{AreShares}
use Rattle.mcs_script.specs.Found.{AreFound, Finds, inputs_by, atoms_by, IsShare, FindsMore}
use Rattle.mcs_system.proofs.CountLemmas.{occurring}
use Rattle.mcs_script.proofs.FoundLemmas.{finds_nothing, finds_then}

pub finds_none_by : (i : ℕ) (s : Share) → FindsMore i [] s s
finds_none_by i s = record { inputs = finds_nothing (map read_of s.inputs.items); atoms = finds_nothing s.atoms.items }

pub finds_then_by : (i : ℕ) (r s t : Share) (all bs cs : List Bridge) → all ≡ bs ++ cs → FindsMore i bs r s → FindsMore i cs s t → FindsMore i all r t
finds_then_by i r s t all bs cs is first then = record {
  inputs = finds_then _ _ _ _ _ _ (ap (flat_map (inputs_by i)) is ∙ flat_map-append (inputs_by i) bs cs) first.inputs then.inputs;
  atoms = finds_then _ _ _ _ _ _ (ap (flat_map (atoms_by i)) is ∙ flat_map-append (atoms_by i) bs cs) first.atoms then.atoms;
}

abbrev pub GoesBy : ℕ → Share → List Bridge → Share → List Bridge → Type 0
GoesBy i first all mid rest = (last : Share) → FindsMore i rest mid last → FindsMore i all first last

pub goes_on_by : (i : ℕ) (first mid next : Share) (all rest : List Bridge) (b : Bridge) (bs : List Bridge) → GoesBy i first all mid rest → rest ≡ b ∷ bs → FindsMore i (b ∷ []) mid next → GoesBy i first all next bs
goes_on_by i first mid next all rest b bs goes is more last then = goes last (finds_then_by i mid next last rest (b ∷ []) bs is more then)

-- found from nothing
pub all_found_from : {A : Type 0} (before after xs ys zs : List A) → zs ≡ ys ++ xs → AreFound ys before → Finds before after xs → AreFound zs after
all_found_from before after xs ys zs is known more few x h = elim (among_either x ys xs (subst (IsAmong x) is h)) [
  | inl old ↦ more.kept x (known (omega (arith, few, more.longer)) x old)
  | inr new ↦ more.all few x new
]

-- and by more rules
pub share_more : (i : ℕ) (contexts : List Context) (bs cs all : List Bridge) (s t : Share) → all ≡ bs ++ cs → IsShare i contexts bs s → FindsMore i cs s t → IsShare i contexts all t
share_more i contexts bs cs all s t is old more = record {
  inputs = all_found_from _ _ _ _ _ (ap (flat_map (inputs_by i)) is ∙ flat_map-append (inputs_by i) bs cs) old.inputs more.inputs;
  atoms = all_found_from _ _ _ _ _ (ap (λ (cs : List Bridge). own_atoms (slice_get contexts i) ++ flat_map (atoms_by i) cs) is ∙ (ap (λ (ns : List Name). own_atoms (slice_get contexts i) ++ ns) (flat_map-append (atoms_by i) bs cs) ∙ sym (append_assoc (own_atoms (slice_get contexts i)) (flat_map (atoms_by i) bs) (flat_map (atoms_by i) cs)))) old.atoms more.atoms;
}

-- the atoms of a system's context are all that it has without rules
pub share_begun : (m : System) (i : ℕ) (s : Share) → AreFound (atoms_of m i) s.atoms.items → IsShare i m.contexts [] s
share_begun m i s found = record {
  inputs = λ few r none. absurd none;
  atoms = λ few n h. found few n (occurring m i n (among_left n (own_atoms (slice_get m.contexts i)) _ (subst (IsAmong n) (append-nil (own_atoms (slice_get m.contexts i))) h)));
}

-- ---- reads
pub reads_more : (bs : List Bridge) (b : Bridge) (before after : List Read) → AreFound (flat_map reads_of bs) before → Finds before after (reads_of b) → AreFound (flat_map reads_of (bs ++ b ∷ [])) after
reads_more bs b before after known more = all_found_from before after (reads_of b) (flat_map reads_of bs) (flat_map reads_of (bs ++ b ∷ []))
    (flat_map-append reads_of bs (b ∷ []) ∙ ap (λ (rs : List Read). flat_map reads_of bs ++ rs) (append-nil (reads_of b))) known more

-- ---- shares
pub share_pushed : (contexts : List Context) (rules : List Bridge) (xs ys : List Share) (x : Share) → ys ≡ xs ++ x ∷ [] → ((i : ℕ) (s : Share) → slice_get xs i ≡ Some s → IsShare i contexts rules s) → IsShare (length xs) contexts rules x
    → (i : ℕ) (s : Share) → slice_get ys i ≡ Some s → IsShare i contexts rules s
share_pushed contexts rules xs ys x is each last i s at = elim (slice_get_push_at xs x i s (ap (λ (zs : List Share). slice_get zs i) (sym is) ∙ at)) [
  | inl old ↦ each i s old
  | inr new ↦ subst (λ (t : Share). IsShare i contexts rules t) (sym new.1) (subst (λ (k : ℕ). IsShare k contexts rules x) (sym new.0) last)
]

-- those before place k are for all rules, the others for the first ones
pub record AreMixed (contexts : List Context) (rules all : List Bridge) (k : ℕ) (shares : List Share) : Type 0 where
  pub one_each : length shares ≡ length contexts
  pub done : (i : ℕ) (s : Share) → slice_get shares i ≡ Some s → i < k → IsShare i contexts all s
  pub rest : (i : ℕ) (s : Share) → slice_get shares i ≡ Some s → k ≤ i → IsShare i contexts rules s

pub mixed_first : (contexts : List Context) (rules all : List Bridge) (shares : List Share) → AreShares contexts rules shares → AreMixed contexts rules all 0 shares
mixed_first contexts rules all shares are = record { one_each = are.one_each; done = λ i s at below. absurd (omega (arith, below)); rest = λ i s at over. are.each i s at }

pub mixed_next : (contexts : List Context) (rules all : List Bridge) (k : ℕ) (shares now : List Share) (s : Share) → now ≡ slice_set shares k s → AreMixed contexts rules all k shares → IsShare k contexts all s → AreMixed contexts rules all (k + 1) now
mixed_next contexts rules all k shares now s is mixed new = record {
  one_each = ap length is ∙ length-slice_set shares k s ∙ mixed.one_each;
  done = λ i t at below. elim (slice_get-slice_set shares k i s t (ap (λ (zs : List Share). slice_get zs i) (sym is) ∙ at)) [
    | inl here ↦ subst (λ (u : Share). IsShare i contexts all u) (sym here.1) (subst (λ (j : ℕ). IsShare j contexts all s) (sym here.0) new)
    | inr other ↦ mixed.done i t other.1 (less_again i k other.0 below)
  ];
  rest = λ i t at over. elim (slice_get-slice_set shares k i s t (ap (λ (zs : List Share). slice_get zs i) (sym is) ∙ at)) [
    | inl here ↦ absurd (omega (arith, here.0, over))
    | inr other ↦ mixed.rest i t other.1 (omega (arith, over))
  ];
}
  where
    less_again : (i k : ℕ) → ¬ (i ≡ k) → i < k + 1 → i < k
    less_again i k differ below = omega (arith, differ, below)

pub mixed_last : (contexts : List Context) (rules all : List Bridge) (k : ℕ) (shares : List Share) → length shares ≤ k → AreMixed contexts rules all k shares → AreShares contexts all shares
mixed_last contexts rules all k shares over mixed = record { one_each = mixed.one_each; each = λ i s at. mixed.done i s at (omega (arith, over, slice_get_within shares i s at)) }
