-- The listing of a system with its proof: what was asked of its solvers, what was written, and why it stopped.
use Rattle.std.proofs.Common.{◌≡◌, ℕ, ◌≤◌, ◌⊎◌, true, List, [], ◌∷◌, ◌++◌, length, Option, Some, Result, Ok, Err, slice_get, IfSome, IfErr, OnOk, inl, inr, refl, sym, ap, ◌∙◌, subst, append_assoc, arith}
use Rattle.mcs_base.specs.Listings.{IsInventory}
use Rattle.mcs_base.proofs.Lists.{map_slice_get, slice_get-map_some}
use Rattle.mcs_ports.specs.Causes.{Rose}
use Rattle.mcs_ports.specs.Pieces.{appended}
use Rattle.mcs_text.proofs.WriteLaws.{appended-append}
use Rattle.mcs_system.specs.Plain.{System}
use Rattle.mcs_states.specs.Oracles.{OracleState, with_journal}
use Rattle.mcs_states.specs.Evaluators.{EvaluatorState, KeepsRest, IsJournalQuestion}
use Rattle.mcs_system.specs.Faults.{IsValid}
use Rattle.mcs_system.specs.Naming.{IsSystemNamed}
use Rattle.mcs_grammar.proofs.JustificationLemmas.{defaults-short}
use Rattle.mcs_report.specs.Solutions.{IsWholeListing, whole}
use Rattle.mcs_proof_text.specs.Lines.{text_of_lines}
use Rattle.mcs_proof_text.specs.Answers.{Answer}
use Rattle.mcs_proof_text.specs.Proofs.{AreProof, proof_lines}
use Rattle.mcs_proof_writer.specs.Proving.{AreAsked, HasProved, HasBegunProof}
use Rattle.mcs_check.specs.Validity.{IsProvedListing}
use Rattle.mcs_check.proofs.ProvedListings.{proved_listings_valid}
use Rattle.mcs_work.specs.Tasks.{IsTaskStage, IsLastTaken}
use Rattle.mcs_work.specs.Work.{IsDone}
use Rattle.mcs_work.specs.declared.task.Task.TheVariants.{Solve}
use Rattle.mcs_words.specs.Commands.{Word, solve}
use Rattle.mcs_listing.specs.Jobs.{File, OfOneFile}
use Rattle.mcs_listing.specs.Texts.{IsTextOf}
use Rattle.mcs_top.specs.Evaluating.{HasListed}
use Rattle.mcs_top.specs.Meaning.{IsSolution, IsSolutionStage, IsWithinBudget, meaning}
use Rattle.mcs_top.specs.Promise.{WritesOutput}
use Rattle.mcs_listing.specs.Listings.{OfSystem, Prints, PrintsFront, StopsStages, StopsWork, StopsAnswers, IsNewEvaluator, HaveOrigin}
use Rattle.mcs_listing.specs.declared.ending.Stop.{Stop}
use Rattle.mcs_listing.specs.declared.ending.Stop.TheVariants as stops
use Rattle.mcs_listing.proofs.JobLemmas.{told_also, of_file}
use Rattle.mcs_top.proofs.RefusalLemmas.{whole_front}
use Rattle.mcs_listing.proofs.WorkLemmas.{nothing_left, listed_done}

-- ---- stages of the listing are stages of it with its proof
front_of_stage : (m : System) (before now : Option (List ℕ)) → PrintsFront (IsTaskStage Solve m) before now → PrintsFront (IsSolutionStage true m) before now
front_of_stage m before now p = record { text = p.text; holds = inl p.holds; front = p.front }

pub nothing_proved : (m : System) (now : Option (List ℕ)) → PrintsFront (IsSolutionStage true m) now now
nothing_proved m now = front_of_stage m now now (nothing_left Solve m now)

pub work_stops_proof : (budget : ℕ) (m : System) (sink-rose : Type 0) (before now : Option (List ℕ)) (stop : Stop) → StopsWork stop Solve budget m sink-rose before now → StopsStages (IsSolutionStage true) stop Solve budget m sink-rose before now
work_stops_proof budget m sink-rose before now stops.Usage h = h
work_stops_proof budget m sink-rose before now (stops.Refused why) h = h
work_stops_proof budget m sink-rose before now (stops.Unfinished level limit) h = h
work_stops_proof budget m sink-rose before now stops.ReadFault h = h
work_stops_proof budget m sink-rose before now stops.WriteFault h = (h.0, front_of_stage m before now h.1)
work_stops_proof budget m sink-rose before now stops.Memory h = front_of_stage m before now h

-- ---- after the listing
module _ (m : System) (budget : ℕ) (e e' : EvaluatorState) (fresh : IsNewEvaluator m budget e) (rest : KeepsRest e e') (before mid : Option (List ℕ)) (d : IsDone Solve [] e e' before mid) where
  system_kept : e'.system ≡ m
  system_kept = rest.system ∙ fresh.system

  origin_kept : HaveOrigin ([] ∷ []) e.oracles → (i : ℕ) (o : OracleState) → slice_get e'.oracles i ≡ Some o → o.origin ≡ [] ∷ []
  origin_kept keeps i o is =
      let (o', at, same) = map_slice_get (with_journal []) e.oracles i (with_journal [] o) (ap (λ (os : List OracleState). slice_get os i) (sym rest.oracles) ∙ slice_get-map_some (with_journal []) e'.oracles i o is) in
      ap (λ (s : OracleState). s.origin) (sym same) ∙ keeps i o' at

  -- its solvers were asked exactly the questions of the last level
  pub solvers_asked : HaveOrigin ([] ∷ []) e.oracles → AreAsked m d.level e'.oracles
  solvers_asked keeps = record {
    one_each = d.settled.one_each ∙ ap (λ (n : System). length n.contexts) system_kept;
    own = λ i o is. ((d.settled.own i o is).0 ∙ system_kept, (d.settled.own i o is).1);
    keep = origin_kept keeps;
    asked = λ i o is. subst (λ (n : System). IsInventory (IsJournalQuestion n (Some d.level) i) o.journal) system_kept (subst (λ (l : Option ℕ). IsInventory (IsJournalQuestion e'.system l i) o.journal) d.level_done (d.settled.asked i o is));
  }

  whole_listing : IsWholeListing m d.part
  whole_listing = subst (λ (n : System). IsWholeListing n d.part) fresh.system d.text

  last_level : IsLastTaken Solve m d.level
  last_level = subst (λ (n : System). IsLastTaken Solve n d.level) fresh.system d.last

  module _ (answers : List Answer) (proof : AreProof m d.level answers) where
    proved_listing : IsProvedListing m (d.part ++ text_of_lines (proof_lines m answers))
    proved_listing = record { listing = d.part; whole = whole_listing; level = d.level; last = last_level; answers = answers; proof = proof; text_is = refl }

    after_listing : (part : List ℕ) (now : Option (List ℕ)) → now ≡ appended mid part → now ≡ appended before (d.part ++ part)
    after_listing part now is = is ∙ ap (λ w. appended w part) d.written ∙ appended-append before d.part part

  listing_left : PrintsFront (IsSolutionStage true m) before mid
  listing_left = record { text = d.part; holds = inl (whole whole_listing); front = whole_front d.part before mid d.written }

  proof_begun : (now : Option (List ℕ)) → HasBegunProof m d.level mid now → PrintsFront (IsSolutionStage true m) before now
  proof_begun now b = record {
    text = d.part ++ text_of_lines (proof_lines m b.answers);
    holds = inr (proved_listing b.answers b.proof);
    front = record {
      front = d.part ++ b.front.front;
      rest = b.front.rest;
      parts = append_assoc d.part b.front.front b.front.rest ∙ ap (λ t. d.part ++ t) b.front.parts;
      written = after_listing b.answers b.proof b.front.front now b.front.written;
    };
  }

  proof_front : (now : Option (List ℕ)) → (now ≡ mid) ⊎ HasBegunProof m d.level mid now → PrintsFront (IsSolutionStage true m) before now
  proof_front now (inl same) = subst (λ (w : Option (List ℕ)). PrintsFront (IsSolutionStage true m) before w) (sym same) listing_left
  proof_front now (inr begun) = proof_begun now begun

  proof_written : (now : Option (List ℕ)) → HasProved m d.level mid now → Prints (λ text. IsWithinBudget IsProvedListing Solve budget text m) before now
  proof_written now p =
      let listed = listed_done Solve m budget e e' fresh before mid d in
      record {
        text = d.part ++ text_of_lines (proof_lines m p.answers);
        holds = (listed.holds.0, proved_listing p.answers p.proof);
        written = after_listing p.answers p.proof (text_of_lines (proof_lines m p.answers)) now p.written;
      }

  pub proof_done : (now : Option (List ℕ)) (r : Result (Unit {0}) Stop) → OnOk r (HasProved m d.level mid now) → OnOk r (Prints (λ text. IsWithinBudget IsProvedListing Solve budget text m) before now)
  proof_done now (Ok x) p = proof_written now p
  proof_done now (Err stop) p = tt

  proof_stopped : (first middle last : ℕ) → first ≤ middle → (now : Option (List ℕ)) (stop : Stop) → StopsAnswers stop m d.level (Rose middle last) mid now → StopsStages (IsSolutionStage true) stop Solve budget m (Rose first last) before now
  proof_stopped first middle last up now stops.Usage h = h
  proof_stopped first middle last up now (stops.Refused why) h = h
  proof_stopped first middle last up now (stops.Unfinished level limit) h = absurd h
  proof_stopped first middle last up now stops.ReadFault h = h
  proof_stopped first middle last up now stops.WriteFault h = (omega (arith, up, h.0), proof_front now h.1)
  proof_stopped first middle last up now stops.Memory h = proof_front now h

  pub proof_stops : (first middle last : ℕ) → first ≤ middle → (now : Option (List ℕ)) (r : Result (Unit {0}) Stop) → IfErr r (λ stop. StopsAnswers stop m d.level (Rose middle last) mid now)
      → IfErr r (λ stop. StopsStages (IsSolutionStage true) stop Solve budget m (Rose first last) before now)
  proof_stops first middle last up now (Ok x) h = tt
  proof_stops first middle last up now (Err stop) h = proof_stopped first middle last up now stop h

-- ---- the listing of a file with its proof is a valid report
module _ (name : Word) (budget workers : ℕ) (m : System) (files : Option (List File)) (read : IfSome files (OfOneFile (IsTextOf m))) (valid : IsValid m) (named : IsSystemNamed m) where
  proved : (bytes text : List ℕ) → IsTextOf m bytes → IsWithinBudget IsProvedListing Solve budget text m → IsWithinBudget (IsSolution true) Solve budget text m
  proved bytes text is listed = (
    listed.0,
    record {
      listing = listed.1;
      valid = λ few. proved_listings_valid m (length bytes) text valid named (let short = is.fits in omega (arith, short)) (defaults-short bytes m is.spelled) few listed.1;
    },
  )

  pub file_proved : (before now : Option (List ℕ)) (r : Result (Unit {0}) Stop) → OnOk r (Prints (λ text. IsWithinBudget IsProvedListing Solve budget text m) before now)
      → OnOk r (IfSome files (WritesOutput before now (meaning (solve name budget workers true))))
  file_proved before now (Err stop) p = tt
  file_proved before now (Ok x) p = told_also files _ _ (λ fs h. record {
    text = p.text;
    holds = of_file (IsTextOf m) (OfSystem (IsWithinBudget (IsSolution true) Solve budget p.text)) (λ bytes is. (m, is, proved bytes p.text is p.holds)) fs h;
    written = p.written;
  }) read

-- ---- after the evaluation of a system
module _ (m : System) (budget : ℕ) (oracles : List OracleState) (before mid : Option (List ℕ)) (h : HasListed Solve budget true m oracles before mid) where
  pub listed_asked : AreAsked m h.whole.level oracles
  listed_asked = subst (λ (os : List OracleState). AreAsked m h.whole.level os) h.oracles_are (solvers_asked m budget h.first h.state h.fresh h.rest before mid h.whole h.keeps)

  pub listed_proved : (now : Option (List ℕ)) (r : Result (Unit {0}) Stop) → OnOk r (HasProved m h.whole.level mid now) → OnOk r (Prints (λ text. IsWithinBudget IsProvedListing Solve budget text m) before now)
  listed_proved now r p = proof_done m budget h.first h.state h.fresh h.rest before mid h.whole now r p

  pub listed_stops : (first middle last : ℕ) → first ≤ middle → (now : Option (List ℕ)) (r : Result (Unit {0}) Stop) → IfErr r (λ stop. StopsAnswers stop m h.whole.level (Rose middle last) mid now)
      → IfErr r (λ stop. StopsStages (IsSolutionStage true) stop Solve budget m (Rose first last) before now)
  listed_stops first middle last up now r stops = proof_stops m budget h.first h.state h.fresh h.rest before mid h.whole first middle last up now r stops
