-- What of a proof can be written, and its text answer by answer.
use Rattle.std.proofs.Common.{◌≡◌, ℕ, ◌+◌, ◌<◌, List, [], ◌∷◌, ◌++◌, map, length, get_or, drop, codes, Result, Ok, Err, refl, sym, ap, ◌∙◌, subst, inr, arith}
use Rattle.std.proofs.lemmas.List.Concat.{flat_map-append}
use Rattle.std.specs.List.{AllByRecursion, flat_map}
use Rattle.std.specs.Result.{IsErrAnd}
use Rattle.mcs_sets.specs.Sets.{Within, members}
use Rattle.mcs_sets.proofs.SetLemmas.{Within-le}
use Rattle.mcs_base.proofs.Among.{among_get}
use Rattle.mcs_base.proofs.Each.{all_among, all_from_among}
use Rattle.mcs_base.proofs.ListingLemmas.{members_listing}
use Rattle.mcs_base.proofs.Mapped.{map-drop_more}
use Rattle.mcs_ports.specs.Pieces.{Device}
use Rattle.mcs_text.specs.Writes.{Writes}
use Rattle.mcs_text.specs.declared.unwritten.Unwritten.{Unwritten}
use Rattle.mcs_text.proofs.WriteLaws.{writes_then, writes_cut}
use Rattle.mcs_system.specs.Plain.{System}
use Rattle.mcs_system.specs.Systems.{all_rules, all_variables, variables_of}
use Rattle.mcs_system.specs.Views.{at_places}
use Rattle.mcs_system.specs.Levels.{IsQuestionAt}
use Rattle.mcs_system.proofs.ContextSets.{rules_into_known, states_known, variables_of-lt}
use Rattle.mcs_laws.proofs.Views.{has-at_places}
use Rattle.mcs_asking.specs.Certificates.{Certificate, IsAccepted}
use Rattle.mcs_proof_text.specs.Lines.{with_feed, text_of_lines}
use Rattle.mcs_proof_text.specs.Answers.{Answer, answer_lines}
use Rattle.mcs_proof_text.specs.Proofs.{AreProof, HasAcceptedCertificate, proof_lines}
use Rattle.mcs_proof_writer.specs.Gathered.{answer_of_shown, answers_of, IsWritable}
use Rattle.mcs_proof_writer.specs.Proving.{Proves}
use Rattle.mcs_proof_writer.specs.declared.gathering.Shown.{Shown}

-- ---- what can be written
places_within : (set places : ℕ) → Within (at_places set places) set
places_within set places v h = let (j, at, there) = (has-at_places set places v).0 h in ((members_listing set).exactly v).0 (among_get v (members set) j at)

part_known : (m : System) (i places : ℕ) → Within (at_places (variables_of m i) places) (all_variables m)
part_known m i places =
    states_known m (at_places (variables_of m i) places) (omega (arith, Within-le (at_places (variables_of m i) places) (variables_of m i) (places_within (variables_of m i) places), variables_of-lt m i))

parts_known : (m : System) (i : ℕ) (views : List ℕ) → AllByRecursion (λ σ. Within σ (all_variables m)) (map (at_places (variables_of m i)) views)
parts_known m i [] = tt
parts_known m i (v ∷ views) = (part_known m i v, parts_known m i views)

outputs_known : (m : System) (i x : ℕ) (outputs : List ℕ) (cert : Certificate) → IsAccepted m i x outputs cert → AllByRecursion (λ σ. Within σ (all_variables m)) outputs
outputs_known m i x outputs cert accepted = subst (AllByRecursion (λ σ. Within σ (all_variables m))) (sym accepted.outputs_are) (parts_known m i accepted.views)

question_known : (m : System) (level i x : ℕ) → IsQuestionAt m level i x → Within x (all_rules m)
question_known m level i x (order, is_order, question) k inside = rules_into_known m i k (question.of_rules k inside)

-- each answer of a proof
pub proof_writable : (m : System) (level : ℕ) (answers : List Answer) → AreProof m level answers → AllByRecursion (IsWritable m) answers
proof_writable m level answers proof = all_from_among (IsWritable m) answers (λ a among. record {
  context = ((proof.questions a.context a.active).0 (a, among, refl, refl)).0;
  rules = question_known m level a.context a.active ((proof.questions a.context a.active).0 (a, among, refl, refl)).1;
  outputs = outputs_known m a.context a.active a.outputs a.cert (all_among (HasAcceptedCertificate m) answers a proof.right among);
})

-- of the answers from an index on, the first one and the others
pub writable_later : (m : System) (shown : List Shown) (k : ℕ) (s : Shown) → k < length shown → s ≡ get_or shown k s → AllByRecursion (IsWritable m) (answers_of (drop k shown))
    → IsWritable m (answer_of_shown s) × AllByRecursion (IsWritable m) (answers_of (drop (k + 1) shown))
writable_later m shown k s less is all = subst (AllByRecursion (IsWritable m)) (map-drop_more answer_of_shown shown k s less is) all

-- ---- texts
-- those of the answers from an index on
pub answers_text-more : (m : System) (shown : List Shown) (k : ℕ) (s : Shown) → k < length shown → s ≡ get_or shown k s
    → text_of_lines (flat_map (answer_lines m) (answers_of (drop k shown))) ≡ text_of_lines (answer_lines m (answer_of_shown s)) ++ text_of_lines (flat_map (answer_lines m) (answers_of (drop (k + 1) shown)))
answers_text-more m shown k s less is =
    ap (λ (as' : List Answer). text_of_lines (flat_map (answer_lines m) as')) (map-drop_more answer_of_shown shown k s less is)
    ∙ flat_map-append with_feed (answer_lines m (answer_of_shown s)) (flat_map (answer_lines m) (answers_of (drop (k + 1) shown)))

-- that of all of them
abbrev answers_text : System → List Answer → List ℕ
answers_text m answers = text_of_lines (flat_map (answer_lines m) answers)

marked_text : (m : System) (answers : List Answer) → codes "proof\n" ++ (answers_text m answers ++ codes "end of proof\n") ≡ text_of_lines (proof_lines m answers)
marked_text m answers = ap (λ (t : List ℕ). codes "proof\n" ++ t) (sym (flat_map-append with_feed (flat_map (answer_lines m) answers) (codes "end of proof" ∷ [])))

-- ---- writing it
module _ {T U : Type 0} (m : System) (answers : List Answer) where
  pub marked_unbegun : (before now : Device) (e : Unwritten) (r : Result U Unwritten) → IsErrAnd r (λ d. d ≡ e) → Writes {T = T} (codes "proof\n") before now (Err e) → Writes (text_of_lines (proof_lines m answers)) before now r
  marked_unbegun before now e r is f = subst (λ (t : List ℕ). Writes t before now r) (marked_text m answers) (writes_cut (codes "proof\n") (answers_text m answers ++ codes "end of proof\n") before now e r is f)

  pub marked_cut : (before mid now : Device) (x : T) (e : Unwritten) (r : Result U Unwritten) → Writes (codes "proof\n") before mid (Ok x) → IsErrAnd r (λ d. d ≡ e) → Writes {T = T} (text_of_lines (flat_map (answer_lines m) answers)) mid now (Err e)
      → Writes (text_of_lines (proof_lines m answers)) before now r
  marked_cut before mid now x e r f is h = subst (λ (t : List ℕ). Writes t before now r) (marked_text m answers)
      (writes_then (codes "proof\n") (answers_text m answers ++ codes "end of proof\n") before mid now x r f (writes_cut (answers_text m answers) (codes "end of proof\n") mid now e r is h))

  pub marked : (before mid late now : Device) (x y : T) (r : Result U Unwritten) → Writes (codes "proof\n") before mid (Ok x) → Writes (text_of_lines (flat_map (answer_lines m) answers)) mid late (Ok y) → Writes (codes "end of proof\n") late now r
      → Writes (text_of_lines (proof_lines m answers)) before now r
  marked before mid late now x y r f h l = subst (λ (t : List ℕ). Writes t before now r) (marked_text m answers)
      (writes_then (codes "proof\n") (answers_text m answers ++ codes "end of proof\n") before mid now x r f (writes_then (answers_text m answers) (codes "end of proof\n") mid late now y r h l))

module _ {T : Type 0} (m : System) (level : ℕ) where
  pub proved : (answers : List Answer) (before now : Device) (r : Result T Unwritten) → AreProof m level answers → Writes (text_of_lines (proof_lines m answers)) before now r → Proves m level before now r
  proved answers before now (Ok x) proof w = record { later = w.later; notes = w.notes; quiet = w.quiet; whole = record { answers = answers; proof = proof; written = w.whole }; front = tt; due = tt }
  proved answers before now (Err e) proof w = record { later = w.later; notes = w.notes; quiet = tt; whole = tt; front = inr (record { answers = answers; proof = proof; front = w.front }); due = w.due }
