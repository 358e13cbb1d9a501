-- What unit runs lead to, and what the literals made true are seen as.
use Rattle.std.proofs.Common.{◌≡◌, ℕ, zero, suc, ◌+◌, ◌-◌, ◌<◌, Bool, true, false, cond, nat_eq, List, [], ◌∷◌, ◌++◌, ◌⊎◌, inl, inr, refl, sym, ap, ◌∙◌, subst, arith, ℤ, pos, neg_ℤ, unsigned_abs, map, length, length-append, append-nil, append_assoc, Option, Some, None, MatchOption}
use Rattle.std.specs.Bool.{MatchBool}
use Rattle.std.specs.List.{AllByRecursion, flat_map}
use Rattle.std.proofs.Math.Dec.{eqb-suc-zero}
use Rattle.std.proofs.Math.Seq.{get_or-append_seam}
use Rattle.std.proofs.lemmas.List.{map_push}
use Rattle.mcs_base.specs.Listings.{IsAmong}
use Rattle.mcs_base.proofs.Among.{among_at, among_either, among_get, among_map, map_among, place_among}
use Rattle.mcs_base.proofs.Each.{all_among}
use Rattle.mcs_base.proofs.Lasts.{flat_begun}
use Rattle.mcs_base.proofs.Numbers.{unsigned_abs-neg_ℤ}
use Rattle.mcs_engine.specs.declared.trail.Entry.{Entry}
use Rattle.mcs_sat.specs.Solvers.{AreDecided, HasNoValue, IsFalseUnder, IsForcedBy, IsOpenUnder, IsUnitRun}
use Rattle.mcs_engine.specs.Trails.{AreExplained, ArePlaced, IsFalse, IsOn, IsOpen, StandsNowhere, first_level, later_levels, levels_of, literal_at, reason_at}
use Rattle.mcs_engine.proofs.KnownLemmas.{numbered-row}
use Rattle.mcs_engine.proofs.TrailLemmas.{entry-old, entry_at, not_both_on, same_place, reason_of}

-- ---- what unit runs lead to
-- no literal stands there with its negation
abbrev pub AreConsistent : List ℤ → Type 0
AreConsistent literals = (k : ℤ) → IsAmong k literals → ¬ IsAmong (neg_ℤ k) literals

-- the literals of the first list are among those of the second
abbrev pub AreIn : List ℤ → List ℤ → Type 0
AreIn few many = (k : ℤ) → IsAmong k few → IsAmong k many

free-not_off : (ts : List ℤ) (k : ℤ) → HasNoValue ts k → IsAmong (neg_ℤ k) ts → ⊥
free-not_off ts k free off = free (neg_ℤ k) off (unsigned_abs-neg_ℤ k)

-- a literal is true whose clause is open, and has no other literal that is not false
open-forces : (ls ts c : List ℤ) (l : ℤ) → AreConsistent ts → AreIn ls ts → IsOpenUnder ts c → ((k : ℤ) → IsAmong k c → (k ≡ l) ⊎ IsAmong (neg_ℤ k) ls) → IsAmong l ts
open-forces ls ts c l consistent within (inl (k, among, on)) others = elim (others k among) [
  | inl e ↦ subst (λ (x : ℤ). IsAmong x ts) e on
  | inr off ↦ absurd (consistent k on (within (neg_ℤ k) off))
]
open-forces ls ts c l consistent within (inr two) others = absurd (two.differ (same two.first two.has_first two.free_first ∙ sym (same two.second two.has_second two.free_second)))
  where
    same : (k : ℤ) → IsAmong k c → HasNoValue ts k → k ≡ l
    same k among free = elim (others k among) [ inl e ↦ e | inr off ↦ absurd (free-not_off ts k free (within (neg_ℤ k) off)) ]

-- where each clause is open, what a run makes true is true
pub run-within : (known : List (List ℤ)) (ls more ts : List ℤ) → AreConsistent ts → AllByRecursion (IsOpenUnder ts) known → AreIn ls ts → IsUnitRun known ls more → AreIn (ls ++ more) ts
run-within known ls [] ts consistent open' within run k among = within k (subst (IsAmong k) (append-nil ls) among)
run-within known ls (l ∷ more) ts consistent open' within ((free, (c, known', has, others)), run) k among =
    let on : IsAmong l ts = open-forces ls ts c l consistent within (all_among (IsOpenUnder ts) known c open' known') others in
    let within' : AreIn (ls ++ l ∷ []) ts = λ j among'. elim (among_either j ls (l ∷ []) among') [
      | inl old ↦ within j old
      | inr new ↦ elim new [ inl e ↦ subst (λ (x : ℤ). IsAmong x ts) (sym e) on | inr none ↦ absurd none ]
    ] in
    run-within known (ls ++ l ∷ []) more ts consistent open' within' run k (subst (IsAmong k) (sym (append_assoc ls (l ∷ []) more)) among)

-- an open clause is not false
pub open-not_false : (ts c : List ℤ) → AreConsistent ts → IsOpenUnder ts c → IsFalseUnder ts c → ⊥
open-not_false ts c consistent (inl (k, among, on)) off = consistent k on (off k among)
open-not_false ts c consistent (inr two) off = free-not_off ts two.first two.free_first (off two.first two.has_first)

-- ---- the literals of a trail
abbrev pub literals : List Entry → List ℤ
literals es = map (λ (e : Entry). e.literal) es

-- those of all levels
pub flat-levels : (es : List Entry) → flat_map (λ (x : List ℤ). x) (levels_of es) ≡ literals es
flat-levels [] = refl
flat-levels (e ∷ es) = flat_begun (nat_eq e.reason 0) e.literal (first_level es) (later_levels es) ∙ ap (λ (x : List ℤ). e.literal ∷ x) (flat-levels es)

pub on-among : (es : List Entry) (k : ℤ) → IsOn es k → IsAmong k (literals es)
on-among es k (p, less, e) = subst (λ (x : ℤ). IsAmong x (literals es)) e (among_map (λ (d : Entry). d.literal) (entry_at es p) es (among_at es p (record { literal = pos 0; reason = 0; level = 0 }) less))

pub among-on : (es : List Entry) (k : ℤ) → IsAmong k (literals es) → IsOn es k
among-on es k among =
    let (e, has, is) = map_among (λ (d : Entry). d.literal) k es among in
    let (p, less, at) = place_among es e has in
    (p, less, ap (λ (d : Entry). d.literal) (at (record { literal = pos 0; reason = 0; level = 0 })) ∙ sym is)

pub nowhere-free : (es : List Entry) (l : ℤ) → StandsNowhere es (unsigned_abs l) → HasNoValue (literals es) l
nowhere-free es l nowhere k among size = let (p, less, e) = among-on es k among in nowhere p (less, ap unsigned_abs e ∙ size)

pub free-nowhere : (es : List Entry) (l : ℤ) → HasNoValue (literals es) l → StandsNowhere es (unsigned_abs l)
free-nowhere es l free i (less, size) = free (literal_at es i) (on-among es (literal_at es i) (i, less, refl)) size

pub false-under : (es : List Entry) (c : List ℤ) → IsFalse es c → IsFalseUnder (literals es) c
false-under es c off k among = on-among es (neg_ℤ k) (off k among)

pub under-false : (es : List Entry) (c : List ℤ) → IsFalseUnder (literals es) c → IsFalse es c
under-false es c off k among = among-on es (neg_ℤ k) (off k among)

pub open-under : (es : List Entry) (c : List ℤ) → IsOpen es c → IsOpenUnder (literals es) c
open-under es c (inl (k, among, on)) = inl (k, among, on-among es k on)
open-under es c (inr two) = inr (record {
  first = two.first;
  second = two.second;
  has_first = two.has_first;
  has_second = two.has_second;
  differ = two.differ;
  free_first = nowhere-free es two.first two.free_first;
  free_second = nowhere-free es two.second two.free_second;
})

pub placed-consistent : (es : List Entry) (ps : List ℕ) → ArePlaced es ps → AreConsistent (literals es)
placed-consistent es ps placed k on off = not_both_on es ps k placed (among-on es k on) (among-on es (neg_ℤ k) off)

-- ---- what each of them had when it was made true
seam : (done rest : List Entry) (e : Entry) → entry_at (done ++ e ∷ rest) (length done) ≡ e
seam done rest e = get_or-append_seam done e rest (record { literal = pos 0; reason = 0; level = 0 })

-- it had no value
free-before : (ps : List ℕ) (done rest : List Entry) (e : Entry) → ArePlaced (done ++ e ∷ rest) ps → HasNoValue (literals done) e.literal
free-before ps done rest e placed k among size =
    let es : List Entry = done ++ e ∷ rest in
    let (p, less, is) = among-on done k among in
    let here : literal_at es (length done) ≡ e.literal = ap (λ (d : Entry). d.literal) (seam done rest e) in
    let there : literal_at es p ≡ k = ap (λ (d : Entry). d.literal) (entry-old done (e ∷ rest) p less) ∙ is in
    let longer : length es ≡ length done + length (e ∷ rest) = length-append done (e ∷ rest) in
    let same : p ≡ length done = same_place es ps p (length done) placed (omega arith) (omega arith) (ap unsigned_abs there ∙ size ∙ sym (ap unsigned_abs here)) in
    omega arith

-- with a reason it was forced
forced-before : (known : List (List ℤ)) (ps : List ℕ) (done rest : List Entry) (e : Entry) → ArePlaced (done ++ e ∷ rest) ps → AreExplained known (done ++ e ∷ rest) → 0 < e.reason → IsForcedBy known (literals done) e.literal
forced-before known ps done rest e placed explained some =
    let es : List Entry = done ++ e ∷ rest in
    let here : literal_at es (length done) ≡ e.literal = ap (λ (d : Entry). d.literal) (seam done rest e) in
    let reason : reason_at es (length done) ≡ e.reason = ap (λ (d : Entry). d.reason) (seam done rest e) in
    let longer : length es ≡ length done + length (e ∷ rest) = length-append done (e ∷ rest) in
    let (c, is, r) = reason_of known es (length done) explained (omega arith) (λ none. absurd (omega arith)) in (
      free-before ps done rest e placed,
      (
        c,
        among_get c known (reason_at es (length done) - 1) (numbered-row known (reason_at es (length done)) c is).2,
        subst (λ (l : ℤ). IsAmong l c) here r.has,
        λ k among. elim (r.others k among) [
          | inl e' ↦ inl (e' ∙ here)
          | inr (p, less, on) ↦ inr (on-among done (neg_ℤ k) (p, less, sym (ap (λ (d : Entry). d.literal) (entry-old done (e ∷ rest) p less)) ∙ on))
        ],
      ),
    )

-- ---- the levels
-- a run, and then the levels
abbrev IsRunThen : List (List ℤ) → List ℤ → List ℤ → List (List ℤ) → Type 0
IsRunThen known ls run levels = IsUnitRun known ls run × AreDecided known (ls ++ run) levels

then-decided : (known : List (List ℤ)) (ls f : List ℤ) (l : ℤ) (r : List (List ℤ)) → HasNoValue ls l → IsRunThen known (ls ++ l ∷ []) f r → IsRunThen known ls [] ((l ∷ f) ∷ r)
then-decided known ls f l r free (run, decided) = (
  tt,
  subst (λ (x : List ℤ). AreDecided known x ((l ∷ f) ∷ r)) (sym (append-nil ls)) (free, run, subst (λ (x : List ℤ). AreDecided known x r) (append_assoc ls (l ∷ []) f) decided),
)

then-implied : (known : List (List ℤ)) (ls f : List ℤ) (l : ℤ) (r : List (List ℤ)) → IsForcedBy known ls l → IsRunThen known (ls ++ l ∷ []) f r → IsRunThen known ls (l ∷ f) r
then-implied known ls f l r forced (run, decided) = ((forced, run), subst (λ (x : List ℤ). AreDecided known x r) (append_assoc ls (l ∷ []) f) decided)

then-next : (known : List (List ℤ)) (ls f : List ℤ) (l : ℤ) (r : List (List ℤ)) (n : ℕ) → HasNoValue ls l → (0 < n → IsForcedBy known ls l) → IsRunThen known (ls ++ l ∷ []) f r → IsRunThen known ls (cond (nat_eq n 0) [] (l ∷ f)) (cond (nat_eq n 0) ((l ∷ f) ∷ r) r)
then-next known ls f l r zero free forced rest = then-decided known ls f l r free rest
then-next known ls f l r (suc n) free forced rest = subst (λ (b : Bool). IsRunThen known ls (cond b [] (l ∷ f)) (cond b ((l ∷ f) ∷ r) r)) (sym (eqb-suc-zero n)) (then-implied known ls f l r (forced (omega arith)) rest)

pub levels-run : (known : List (List ℤ)) (ps : List ℕ) (done es : List Entry) → ArePlaced (done ++ es) ps → AreExplained known (done ++ es) → IsRunThen known (literals done) (first_level es) (later_levels es)
levels-run known ps done [] placed explained = (tt, tt)
levels-run known ps done (e ∷ es) placed explained =
    let turn : (done ++ e ∷ []) ++ es ≡ done ++ e ∷ es = append_assoc done (e ∷ []) es in
    let rest = levels-run known ps (done ++ e ∷ []) es (subst (λ (x : List Entry). ArePlaced x ps) (sym turn) placed) (subst (AreExplained known) (sym turn) explained) in
    then-next known (literals done) (first_level es) e.literal (later_levels es) e.reason (free-before ps done es e placed) (forced-before known ps done es e placed explained)
    (subst (λ (x : List ℤ). IsRunThen known x (first_level es) (later_levels es)) (map_push (λ (d : Entry). d.literal) done e) rest)

-- what grows is a run
pub grown-run : (known : List (List ℤ)) (ps : List ℕ) (level : ℕ) (done more : List Entry) → ArePlaced (done ++ more) ps → AreExplained known (done ++ more) → AllByRecursion (λ (e : Entry). (0 < e.reason) × (e.level ≡ level)) more → IsUnitRun known (literals done) (literals more)
grown-run known ps level done [] placed explained all = tt
grown-run known ps level done (e ∷ more) placed explained all =
    let turn : (done ++ e ∷ []) ++ more ≡ done ++ e ∷ more = append_assoc done (e ∷ []) more in
    let rest = grown-run known ps level (done ++ e ∷ []) more (subst (λ (x : List Entry). ArePlaced x ps) (sym turn) placed) (subst (AreExplained known) (sym turn) explained) all.1 in
    (forced-before known ps done more e placed explained all.0.0, subst (λ (x : List ℤ). IsUnitRun known x (literals more)) (map_push (λ (d : Entry). d.literal) done e) rest)

-- the value of a literal, as it is seen
pub value-seen : (es : List Entry) (l : ℤ) (o : Option Bool) → MatchOption o (StandsNowhere es (unsigned_abs l)) (λ v. MatchBool v (IsOn es l) (IsOn es (neg_ℤ l)))
    → MatchOption o (HasNoValue (literals es) l) (λ v. MatchBool v (IsAmong l (literals es)) (IsAmong (neg_ℤ l) (literals es)))
value-seen es l None nowhere = nowhere-free es l nowhere
value-seen es l (Some true) on = on-among es l on
value-seen es l (Some false) off = on-among es (neg_ℤ l) off
