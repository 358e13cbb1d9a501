-- The whole listing of a system with right answers to the questions that it rests on is a valid report.
use Rattle.std.proofs.Common.{◌≡◌, ℕ, ◌≤◌, List, [], ◌∷◌, ◌++◌, length, codes, refl, sym, ap, ◌∙◌, subst, inl, inr, arith}
use Rattle.std.proofs.lemmas.List.{length-append}
use Rattle.std.proofs.lemmas.List.Concat.{flat_map-append}
use Rattle.std.specs.List.{flat_map}
use Rattle.mcs_base.specs.Listings.{IsAmong}
use Rattle.mcs_base.proofs.Each.{all_among, all_from_among}
use Rattle.mcs_system.specs.Levels.{IsQuestionAt}
use Rattle.mcs_system.specs.Plain.{System}
use Rattle.mcs_report.specs.Solutions.{IsWholeListing}
use Rattle.mcs_proof_text.specs.Lines.{with_feed, text_of_lines}
use Rattle.mcs_proof_text.specs.Answers.{Answer, answer_lines}
use Rattle.mcs_proof_text.specs.Proofs.{HasAcceptedCertificate, proof_lines}
use Rattle.mcs_proof_text.specs.Answers.{IsInShape}
use Rattle.mcs_proof_text.proofs.LineLemmas.{lines_few}
use Rattle.mcs_proof_text.proofs.ListingParts.{listing_parts}
use Rattle.mcs_proof_text.proofs.ShapeLaws.{right_shape}
use Rattle.mcs_work.specs.Tasks.{IsLastRepairLevel}
use Rattle.mcs_check.specs.Validity.{ProvedListingsAreValid}

last_is_one : (m : System) (j k : ℕ) → IsLastRepairLevel m j → IsLastRepairLevel m k → j ≡ k
last_is_one m j k (inl (consistent, is)) (inl (consistent', is')) = is ∙ sym is'
last_is_one m j k (inl (consistent, is)) (inr (not, is')) = absurd (not consistent)
last_is_one m j k (inr (not, is)) (inl (consistent, is')) = absurd (not consistent)
last_is_one m j k (inr (not, is)) (inr (not', is')) = is ∙ sym is'

-- an answer has no more lines than all of them
answer_few : (m : System) (answers : List Answer) (a : Answer) → IsAmong a answers → length (answer_lines m a) ≤ length (flat_map (answer_lines m) answers)
answer_few m [] a among = absurd among
answer_few m (b ∷ answers) a (inl same) = omega (arith, length-append (answer_lines m b) (flat_map (answer_lines m) answers), ap (λ (x : Answer). length (answer_lines m x)) same)
answer_few m (b ∷ answers) a (inr among) = omega (arith, length-append (answer_lines m b) (flat_map (answer_lines m) answers), answer_few m answers a among)

lines_within : (m : System) (answers : List Answer) (a : Answer) → IsAmong a answers → length (answer_lines m a) ≤ length (text_of_lines (proof_lines m answers))
lines_within m answers a among =
    let all = flat_map (answer_lines m) answers in
    omega (arith, answer_few m answers a among, length-append all (codes "end of proof" ∷ []), lines_few (proof_lines m answers))

pub proved_listings_valid : ProvedListingsAreValid
proved_listings_valid m n text valid named small justified short p =
    let end = text_of_lines (proof_lines m p.answers) in
    let long : length text ≡ length (p.listing ++ end) = ap length p.text_is in
    let both = length-append p.listing end in
    let (lines, part, is) = listing_parts m p.listing named p.whole in
    let shape : (a : Answer) → IsAmong a p.answers → IsInShape m a = λ a among. (
    let (order, is_order, question) = ((p.proof.questions a.context a.active).0 (a, among, refl, refl)).1 in
    right_shape m n a valid small justified question.of_rules (omega (arith, lines_within m p.answers a among, short, long, both)) (all_among (HasAcceptedCertificate m) p.answers a p.proof.right among)) in
    record {
      listing = lines;
      answers = p.answers;
      spelled = record {
        report = record { listing_part = part; shapes = all_from_among (IsInShape m) p.answers shape; ascending = p.proof.ascending };
        text_is = p.text_is ∙ ap (λ (t : List ℕ). t ++ end) is ∙ sym (flat_map-append with_feed lines (proof_lines m p.answers));
      };
      right = p.proof.right;
      complete = λ i x (level, last, less, question). (p.proof.questions i x).1 (less, subst (λ (k : ℕ). IsQuestionAt m k i x) (last_is_one m level p.level last p.last) question);
      same = subst (IsWholeListing m) is p.whole;
    }
