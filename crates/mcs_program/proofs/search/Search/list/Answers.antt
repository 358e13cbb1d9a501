use Rattle.std.proofs.Common.{◌≡◌, ℕ, List, ◌∙◌, refl, ap, arith, map, insert, length}
use Rattle.std.proofs.lemmas.List.{length-map}
use Rattle.mcs_base.proofs.Lists.{length_zip}
use Rattle.mcs_trace.specs.Traces.{inferences_of}
use Rattle.mcs_trace.specs.declared.certificate.AnswerSetCert.{AnswerSetCert}
use Rattle.mcs_evidence.specs.Programs.{model_shown_of, IsAcceptedModel}
use Rattle.mcs_program.specs.Asked.{program_names, program_rules, program_beliefs}
use Rattle.mcs_program.proofs.SearchLemmas.{map_placed}
use Rattle.mcs_program.proofs.search.Search.list.Goals as goal

pub put_view-requires-clause-room : goal.put_view-requires-clause-room
put_view-requires-clause-room c = c.requires.known.room

pub put_view-requires-clause-ascending : goal.put_view-requires-clause-ascending
put_view-requires-clause-ascending c = c.requires.ascending

pub insert-requires : goal.insert-requires
insert-requires c =
    let p = c.args.placed.now.program.now in
    let old = c.args.self.now in
    let each : length old.views.items ≡ length (map model_shown_of old.models.items) = length_zip (IsAcceptedModel (program_names p) (program_rules p) (program_beliefs p)) old.views.items (map model_shown_of old.models.items) c.requires.models in
    omega (arith, c.in-Ok.ensures.viewed.within, each, length-map old.models.items model_shown_of, ap length c.in-Ok.ensures.models)

pub returns-in_ok-insert-in-Ok : goal.returns-in_ok-insert-in-Ok
returns-in_ok-insert-in-Ok c =
    let place = c.in-Ok.place in
    let minimal = inferences_of c.args.minimal in
    record {
      place = place;
      between = c.put_view.new.self;
      placed = c.in-Ok.ensures;
      known = refl;
      views = refl;
      smaller = refl;
      models = ap (map model_shown_of) c.in_ok-insert-in-Ok.ensures.items
          ∙ map_placed model_shown_of c.put_view.new.self.models.items place (record { model = c.number.result; minimal = c.args.minimal })
          ∙ ap (λ (ms : List AnswerSetCert). insert (map model_shown_of ms) place (record { model = c.number.result; minimal = minimal })) c.in-Ok.ensures.models
          ∙ ap (λ (m : ℕ). insert (map model_shown_of c.args.self.now.models.items) place (record { model = m; minimal = minimal })) c.number.ensures;
    }
