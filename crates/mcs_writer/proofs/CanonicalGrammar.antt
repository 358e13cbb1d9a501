-- What is written of a system with names is of the grammar.
use Rattle.std.proofs.Common.{◌≡◌, ℕ, ◌<◌, ◌≤◌, Bool, true, false, not, ◌||◌, nat_eq, cond, Option, Some, None, List, map, length, slice_get, refl, true≢false, arith}
use Rattle.std.specs.Fmt.{decimal}
use Rattle.std.specs.List.{AllByRecursion, list_any}
use Rattle.mcs_base.proofs.Each.{all_map, all_weaker, all_append, all_both, all_from_no_any, all_get, all_left, all_right}
use Rattle.mcs_base.proofs.Lists.{slice_get_below}
use Rattle.mcs_system.specs.Faults.{reads_of, IsValid}
use Rattle.mcs_system.specs.Plain.{Name, Formula, Kb, Context, Read, Bridge, System}
use Rattle.mcs_system.specs.Plain as plain
use Rattle.mcs_system.specs.Texts.{name_of_context}
use Rattle.mcs_system.proofs.ValidLemmas.{targets_in_range, reads_in_range}
use Rattle.mcs_grammar.proofs.Weights.{weights_in_range}
use Rattle.mcs_system.specs.Naming.{IsName, IsNamedFormula, IsNamedKb, IsNamedContext, IsNamedBridge, IsSystemNamed}
use Rattle.mcs_grammar.specs.Written.{IsWrittenIn, WrittenRead, WrittenMarks, WrittenBridge, IsKb, IsContext, IsPlace, IsWeight, no_marks, IsWrittenBridge, IsText}
use Rattle.mcs_tokens.proofs.Numbers.{decimal_is}
use Rattle.mcs_writer.specs.Canonical.{is_marked}
use Rattle.mcs_writer.proofs.CanonicalWritten.{kb_written, context_written, place_written, read_written, weight_written, marks_written, bridge_written, canonical_written}
pub use Rattle.mcs_writer.proofs.ItemsWritten.{name-word, primary-level, primary-right, formula-right}
use Rattle.mcs_writer.proofs.KindItems.{written_in, right-in}
use Rattle.mcs_system.specs.Kinds.{IsNamedIn}

-- ---- contexts
kb-right : (kb : Kb) → IsNamedKb kb → IsKb (kb_written kb)
kb-right (plain.OfKind k items) h = all_map (written_in k) (IsNamedIn k) (IsWrittenIn k) (right-in k) items h

context-right : (c : Context) → IsNamedContext c → IsContext (context_written c)
context-right c h = (name-word c.name h.name, kb-right c.kb h.kb)

-- ---- bridge rules
-- of a context in range, with atoms that are names
abbrev pub IsPlaced : System → Read → Type 0
IsPlaced m r = (r.context < length m.contexts) × IsNamedFormula r.belief

pub placed-name : (m : System) → IsSystemNamed m → (r : Read) → IsPlaced m r → IsName (name_of_context (slice_get m.contexts r.context))
placed-name m named r h = let (c, is) = slice_get_below m.contexts r.context h.0 in rw is ((all_get IsNamedContext m.contexts r.context c named.contexts is).name)

place-right : (m : System) → IsSystemNamed m → (r : Read) → IsPlaced m r → IsPlace (place_written m r)
place-right m named r h = (name-word (name_of_context (slice_get m.contexts r.context)) (placed-name m named r h), primary-right r.belief h.1, primary-level r.belief)

-- a rule whose places are so
pub record IsPlacedBridge (m : System) (b : Bridge) : Type 0 where
  pub name : IsName b.name
  pub head : IsPlaced m (record { context = b.target; belief = b.head })
  pub pos : AllByRecursion (IsPlaced m) b.pos
  pub neg : AllByRecursion (IsPlaced m) b.neg
  pub weight : (1 ≤ b.weight) × (b.weight ≤ 1000000)

weight-right : (w : ℕ) → 1 ≤ w → w ≤ 1000000 → IsWeight (weight_written w)
weight-right w some few = at (nat_eq w 1)
  where
    at : (v : Bool) → IsWeight (cond v None (Some (decimal w)))
    at true = tt
    at false = let is = decimal_is w (omega (arith, few)) in (is.number, is.first (omega (arith, some)))

bridge-right : (m : System) → IsSystemNamed m → (b : Bridge) → IsPlacedBridge m b → IsWrittenBridge (bridge_written m b)
bridge-right m named b h = (
  name-word b.name h.name,
  place-right m named (record { context = b.target; belief = b.head }) h.head,
  all_append (λ (r : WrittenRead). IsPlace r.place) (map (read_written m false) b.pos) (map (read_written m true) b.neg)
      (all_map (read_written m false) (IsPlaced m) (λ (r : WrittenRead). IsPlace r.place) (place-right m named) b.pos h.pos)
      (all_map (read_written m true) (IsPlaced m) (λ (r : WrittenRead). IsPlace r.place) (place-right m named) b.neg h.neg),
  weight-right b.weight h.weight.0 h.weight.1,
)

-- where no rule is marked, none is written so
abbrev marks : Bool → Bool → Option (List ℕ) → WrittenMarks
marks keep closed weight = record { keep = keep; closed = closed; weight = weight }

unmarked-rule : (b : Bridge) → is_marked b ≡ false → marks_written b ≡ no_marks
unmarked-rule b none = at b.keep b.closed (nat_eq b.weight 1) none
  where
    at : (k c v : Bool) → (k || (c || not v)) ≡ false → marks k c (cond v None (Some (decimal b.weight))) ≡ no_marks
    at false false true e = refl
    at false false false e = absurd (true≢false e)
    at false true v e = absurd (true≢false e)
    at true c v e = absurd (true≢false e)

unmarked-rules : (m : System) (bs : List Bridge) → list_any is_marked bs ≡ false → AllByRecursion (λ (w : WrittenBridge). w.marks ≡ no_marks) (map (bridge_written m) bs)
unmarked-rules m bs none = all_map (bridge_written m) (λ b. marks_written b ≡ no_marks) (λ (w : WrittenBridge). w.marks ≡ no_marks) (λ b e. e) bs
    (all_from_no_any (λ b. marks_written b ≡ no_marks) is_marked unmarked-rule bs none)

-- in a valid system with names, each rule is so
pub all-placed : (m : System) → IsSystemNamed m → IsValid m → AllByRecursion (IsPlacedBridge m) m.bridges
all-placed m named valid =
    let n = length m.contexts in
    let In : Read → Type 0 = λ r. r.context < n in
    let Named' : Read → Type 0 = λ r. IsNamedFormula r.belief in
    let Target : Bridge → Type 0 = λ b. b.target < n in
    let Reads : Bridge → Type 0 = λ b. AllByRecursion In (reads_of b) in
    let Weighs : Bridge → Type 0 = λ b. (1 ≤ b.weight) × (b.weight ≤ 1000000) in
    let Fits : Bridge → Type 0 = λ b. Target b × (Reads b × Weighs b) in
    all_weaker (λ b. IsNamedBridge b × Fits b) (IsPlacedBridge m)
    (λ b h. record {
      name = h.0.name;
      head = (h.1.0, h.0.head);
      pos = all_both In Named' b.pos (all_left In b.pos b.neg h.1.1.0) h.0.pos;
      neg = all_both In Named' b.neg (all_right In b.pos b.neg h.1.1.0) h.0.neg;
      weight = h.1.1.1;
    })
    m.bridges
    (all_both IsNamedBridge Fits m.bridges named.bridges
    (all_both Target (λ b. Reads b × Weighs b) m.bridges (targets_in_range m valid) (all_both Reads Weighs m.bridges (reads_in_range m valid) (weights_in_range m valid))))

-- ---- the whole text
pub canonical-right : (m : System) → IsSystemNamed m → IsValid m → IsText (canonical_written m)
canonical-right m named valid = (
  all_map context_written IsNamedContext IsContext context-right m.contexts named.contexts,
  all_map (bridge_written m) (IsPlacedBridge m) IsWrittenBridge (bridge-right m named) m.bridges (all-placed m named valid),
  unmarked-rules m m.bridges,
)
