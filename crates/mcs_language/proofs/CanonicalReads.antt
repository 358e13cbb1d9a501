-- The canonical text of a valid system with names spells it.
use Rattle.std.proofs.Common.{◌≡◌, ℕ, ◌<◌, ◌≤◌, true, false, List, [], ◌∷◌, map, length, refl, sym, ap, ◌∙◌, subst, inl, inr, true≢false, arith}
use Rattle.std.proofs.lemmas.Bool.{cases_lt}
use Rattle.mcs_base.specs.Listings.{IsAmong}
use Rattle.mcs_base.specs.Words.{most_name_bytes}
use Rattle.mcs_system.specs.declared.limit.Limit.TheVariants.{FormulaSize}
use Rattle.mcs_base.proofs.Among.{map_among, among_either, flat_map_among}
use Rattle.mcs_system.specs.Faults.{IsValid}
use Rattle.mcs_system.specs.Plain.{Formula, Truth, Falsity, Atom, Not, Joined, Default, Item, Kind, ClassicalKind, DefaultKind, ItemOf, Kb, Read, System}
use Rattle.mcs_system.specs.Plain as plain
use Rattle.mcs_system.proofs.ValidLemmas.{limit_kept}
use Rattle.mcs_writer.specs.Canonical.{canonical_text}
use Rattle.mcs_grammar.specs.Entries.{Entry, formula_in, size_of, text_entries, tokens_of}
use Rattle.mcs_system.specs.Naming.{IsSystemNamed}
use Rattle.mcs_grammar.specs.Saying.{SaysSystem}
use Rattle.mcs_grammar.specs.Texts.{Spells}
use Rattle.mcs_grammar.specs.Written.{Written, WrittenContext, WrittenPlace, WrittenRead, WrittenBridge, IsText}
use Rattle.mcs_writer.proofs.CanonicalGrammar.{canonical-right}
use Rattle.mcs_writer.proofs.CanonicalSays.{primary-said, canonical-says}
use Rattle.mcs_writer.proofs.CanonicalWritten.{primary_written, formula_written, with_justs, item_written, kb_written, context_written, read_written, reads_written, bridge_written, canonical_written}
use Rattle.mcs_account.specs.Items.{formulas_in}
use Rattle.mcs_writer.proofs.KindItems.{written_in}
use Rattle.mcs_faults.proofs.FaultlessSizes.{some-large}
use Rattle.mcs_faults.proofs.FaultlessTexts.{no-faults}
use Rattle.mcs_grammar.proofs.Spelled.{AreShort, tokens-of-text}
use Rattle.mcs_writer.proofs.SpelledBridges.{canonical-spelled}
use Rattle.mcs_faults.proofs.SpellsWhole.{spells-whole}
use Rattle.mcs_faults.proofs.TextConditions.{HasShortNames, HasBareAtoms}
use Rattle.mcs_faults.proofs.UsesLemmas.{item_formulas, kb_formulas, IsPlaceOf, OfHead, OfRead, IsSizeOf, OfFormula, OfPlace, depth_of, IsShallow}

-- ---- formulas have fewer parentheses than other tokens
depth-small : (f : Formula) → depth_of (primary_written f) < size_of (primary_written f)
depth-small Truth = omega arith
depth-small Falsity = omega arith
depth-small (Atom n) = omega arith
depth-small (Not f) = let a = depth-small f in omega arith
depth-small (Joined c f g) = let a = depth-small f in let b = depth-small g in omega arith

whole-small : (f : Formula) → depth_of (formula_written f) < size_of (formula_written f)
whole-small (Joined c f g) = let a = depth-small f in let b = depth-small g in omega arith
whole-small f = depth-small f

-- ---- each formula that is written is written of a formula
abbrev IsWhole : Written → Type 0
IsWhole w = (f : Formula) × (w ≡ formula_written f)

whole-of : (fs : List Formula) (w : Written) → IsAmong w (map formula_written fs) → IsWhole w
whole-of fs w h = let (f, there, is) = map_among formula_written w fs h in (f, is)

whole-justs : (d : Default) (js : List Formula) (w : Written) → IsAmong w (item_formulas (with_justs d js)) → IsWhole w
whole-justs d [] w (inl e) = (d.pre, e)
whole-justs d [] w (inr none) = absurd none
whole-justs d (j ∷ js) w (inl e) = (d.pre, e)
whole-justs d (j ∷ js) w (inr (inl e)) = (j, e)
whole-justs d (j ∷ js) w (inr (inr h)) = elim (among_either w (map formula_written js) (formula_written d.conclusion ∷ []) h) [
  | inl just ↦ whole-of js w just
  | inr last ↦ at last
]
  where
    at : IsAmong w (formula_written d.conclusion ∷ []) → IsWhole w
    at (inl e) = (d.conclusion, e)
    at (inr none) = absurd none

whole-item : (i : Item) (w : Written) → IsAmong w (item_formulas (item_written i)) → IsWhole w
whole-item (plain.Fact f) w (inl e) = (f, e)
whole-item (plain.Fact f) w (inr none) = absurd none
whole-item (plain.Rule d) w h = whole-justs d d.justs w h

-- a line a kind
whole-in : (k : Kind) (i : ItemOf k) (w : Written) → IsAmong w (formulas_in k (written_in k i)) → IsWhole w
whole-in ClassicalKind f w h = whole-item (plain.Fact f) w h
whole-in DefaultKind i w h = whole-item i w h
whole-in k i w h = absurd h

whole-kb : (kb : Kb) (w : Written) → IsAmong w (kb_formulas (kb_written kb)) → IsWhole w
whole-kb (plain.OfKind k items) w h =
    let (x, there, among) = flat_map_among (formulas_in k) w (map (written_in k) items) h in
    let (i, inside, is) = map_among (written_in k) x items there in
    whole-in k i w (subst (λ y. IsAmong w (formulas_in k y)) is among)

-- and each belief as a primary
abbrev IsPrimary : Written → Type 0
IsPrimary w = (f : Formula) × (w ≡ primary_written f)

primary-read : (m : System) (pos neg : List Read) (r : WrittenRead) → IsAmong r (reads_written m pos neg) → IsPrimary (r.place).belief
primary-read m pos neg r h = elim (among_either r (map (read_written m false) pos) (map (read_written m true) neg) h) [
  | inl positive ↦ let (q, there, is) = map_among (read_written m false) r pos positive in (q.belief, ap (λ (x : WrittenRead). (x.place).belief) is)
  | inr negative ↦ let (q, there, is) = map_among (read_written m true) r neg negative in (q.belief, ap (λ (x : WrittenRead). (x.place).belief) is)
]

primary-place : (m : System) (p : WrittenPlace) → IsPlaceOf (canonical_written m) p → IsPrimary p.belief
primary-place m p (OfHead w there is) =
    let (b, inside, same) = map_among (bridge_written m) w m.bridges there in
    (b.head, ap (λ (x : WrittenPlace). x.belief) (sym is) ∙ ap (λ (x : WrittenBridge). (x.head).belief) same)
primary-place m p (OfRead w there r read is) =
    let (b, inside, same) = map_among (bridge_written m) w m.bridges there in
    let (f, belief) = primary-read m b.pos b.neg r (subst (λ (x : WrittenBridge). IsAmong r x.reads) same read) in
    (f, ap (λ (x : WrittenPlace). x.belief) (sym is) ∙ belief)

-- ---- the text has no faults
module _ (m : System) (named : IsSystemNamed m) (valid : IsValid m) where
  size-kept : (n : ℕ) → IsSizeOf (canonical_written m) n → n ≤ 512
  size-kept n h = elim (cases_lt 512 n) [
    | inl less ↦ absurd (true≢false (sym (some-large (canonical_written m) m (canonical-says m named valid) n h (omega arith)) ∙ limit_kept m valid FormulaSize (inr (inr (inr (inr (inr (inr (inr (inr (inr (inl refl))))))))))))
    | inr past ↦ past
  ]

  canonical-shallow : IsShallow (canonical_written m)
  canonical-shallow = record {
    of_contexts = λ x w there among.
        let (c, inside, same) = map_among context_written x m.contexts there in
        let (f, is) = whole-kb c.kb w (subst (λ (y : WrittenContext). IsAmong w (kb_formulas y.kb)) same among) in
        let kept = size-kept (size_of w) (OfFormula x there w among refl) in
        let small : depth_of w < size_of w = subst (λ (y : Written). depth_of y < size_of y) (sym is) (whole-small f) in
        omega arith;
    of_places = λ p place.
        let (f, is) = primary-place m p place in
        let kept = size-kept (size_of p.belief) (OfPlace p place refl) in
        let small : depth_of p.belief < size_of p.belief = subst (λ (y : Written). depth_of y < size_of y) (sym is) (depth-small f) in
        omega arith;
  }

  canonical-bare : HasBareAtoms (canonical_written m)
  canonical-bare p a place says =
      let (f, is) = primary-place m p place in
      let atom : f ≡ Atom a = sym (primary-said f) ∙ (ap formula_in (sym is) ∙ says) in
      is ∙ ap primary_written atom

  short-entry : (ms : List Entry) (k : Entry) → AreShort (tokens_of ms) → IsAmong k ms → length k.token ≤ most_name_bytes
  short-entry [] k h there = absurd there
  short-entry (x ∷ ms) k h (inl e) = subst (λ (y : Entry). length y.token ≤ most_name_bytes) (sym e) h.0
  short-entry (x ∷ ms) k h (inr there) = short-entry ms k h.1 there

  canonical-short : HasShortNames (canonical_written m)
  canonical-short k there name = short-entry (text_entries (canonical_written m)) k ((canonical-spelled m named valid).short) there

  pub canonical-spells : Spells (canonical_text m) m
  canonical-spells =
      let t = canonical_written m in
      let right : IsText t = canonical-right m named valid in
      let says : SaysSystem t m = canonical-says m named valid in
      let has = tokens-of-text (canonical_text m) (text_entries t) (canonical-spelled m named valid) in
      spells-whole (canonical_text m) has.spans t m has.are has.texts right says (no-faults t m right says valid canonical-shallow canonical-short canonical-bare)
