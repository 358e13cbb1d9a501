-- Accepted certificates of programs are right.
use Rattle.std.proofs.Common.{◌≡◌, ℕ, ◌<◌, true, length}
use Rattle.std.specs.List.{AllByRecursion}
use Rattle.mcs_sets.specs.Sets.{has}
use Rattle.mcs_base.specs.Listings.{IsAmong}
use Rattle.mcs_base.proofs.Among.{zip_among}
use Rattle.mcs_base.proofs.Each.{all_from_among}
use Rattle.mcs_system.specs.Plain.{Program}
use Rattle.mcs_system.specs.Logic.{BeliefSet, Theory, Atoms, Accepts, true_names}
use Rattle.mcs_system.specs.Views.{Shows, IsAcceptedView}
use Rattle.mcs_cnf.proofs.EntailmentLemmas.{none_hold}
use Rattle.mcs_evidence.specs.Programs.{smaller_formulas, rest_formulas, IsAcceptedModel}
use Rattle.mcs_evidence.specs.Laws.{ProgramCertificatesAreSound}
use Rattle.mcs_evidence.proofs.Models.{smaller-over, rest-over, atoms_are_over, answer_set_from_model, shows-below, view_among}

pub program_sound : ProgramCertificatesAreSound
program_sound names rules beliefs outputs shown single over atoms accepted = record { exactly = λ x. (to x, from x); ascending = accepted.ascending }
  where
    to : (x : ℕ) → IsAmong x outputs → IsAcceptedView (Program rules) beliefs x
    to x among = let (m, there, is) = zip_among (IsAcceptedModel names rules beliefs) outputs shown.models accepted.models x among in record {
      belief_set = Atoms (true_names 0 names m.model);
      accepted = answer_set_from_model names rules m.model single is.shown.satisfies (none_hold names (smaller_formulas names rules m.model) m.minimal (smaller-over names rules m.model over) is.shown.minimal);
      shown = is.shows;
    }

    low : AllByRecursion (λ state. (j : ℕ) → has state j ≡ true → j < length beliefs) outputs
    low = all_from_among (λ state. (j : ℕ) → has state j ≡ true → j < length beliefs) outputs (λ state among.
        let (m, there, is) = zip_among (IsAcceptedModel names rules beliefs) outputs shown.models accepted.models state among in
        shows-below (true_names 0 names m.model) beliefs state is.shows)

    from : (x : ℕ) → IsAcceptedView (Program rules) beliefs x → IsAmong x outputs
    from x view = at view.belief_set view.accepted view.shown
      where
        at : (b : BeliefSet) → Accepts (Program rules) b → Shows b beliefs x → IsAmong x outputs
        at (Theory e) none shows = absurd none
        at (Atoms a) is shows = view_among names rules beliefs shown.smaller outputs a x single atoms is shows low
            (none_hold names (rest_formulas names rules beliefs shown.smaller outputs) shown.rest (rest-over names rules beliefs shown.smaller outputs over (atoms_are_over names beliefs atoms)) accepted.others a)
