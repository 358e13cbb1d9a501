use Rattle.std.proofs.Common.{ℕ, List, map, subst}
use Rattle.std.proofs.lemmas.List.{take_all}
use Rattle.mcs_asked.specs.Questions.{program_rules, program_beliefs}
use Rattle.mcs_system.specs.Logic.{Atoms, true_names}
use Rattle.mcs_system.specs.Views.{Shows}
use Rattle.mcs_trace.specs.declared.certificate.AnswerSetCert.{AnswerSetCert}
use Rattle.mcs_evidence.specs.Programs.{model_shown_of}
use Rattle.mcs_answer_sets.specs.Models.{AreModelsShown}
use Rattle.std.proofs.lemmas.Bool.{iff_false}
use Rattle.mcs_answer_sets.proofs.ModelLemmas.{models_more, model_at}
use Rattle.mcs_answer_sets.proofs.program.model_views.Goals as goal

pub loop-shown-init : goal.loop-shown-init
loop-shown-init c = rw c.new-views.ensures.items tt

pub returns-then-not-fine : goal.returns-then-not-fine
returns-then-not-fine c = λ views all.
    iff_false c.in_ok-fine.ensures c.if-not-fine.true
    (model_at c.args.program.now.atoms.now (program_rules c.args.program.now) (program_beliefs c.args.program.now) c.args.models.now c.loop-shown.shown-index c.shown-item.result views c.loop-shown-test.true c.shown-item.is all)

pub loop-shown-preserved : goal.loop-shown-preserved
loop-shown-preserved c =
    models_more c.args.program.now.atoms.now (program_rules c.args.program.now) (program_beliefs c.args.program.now) c.args.models.now c.loop-shown.shown-index c.shown-item.result c.loop-shown.views.items c.push.new.self.items c.view_of.result
    c.loop-shown-test.true c.shown-item.is c.in_ok-push.ensures.items
    (record {
      shown = c.in_ok-fine.ensures.0 c.if-not-fine.false;
      shows = subst (λ (s : ℕ). Shows (Atoms (true_names 0 c.args.program.now.atoms.now s)) (program_beliefs c.args.program.now) c.view_of.result) c.numbered.ensures c.view_of.ensures;
    })
    c.loop-shown.invariant

pub returns : goal.returns
returns c =
    subst (λ (ms : List AnswerSetCert). AreModelsShown c.args.program.now.atoms.now (program_rules c.args.program.now) (program_beliefs c.args.program.now) c.loop-shown.views.items (map model_shown_of ms))
    (take_all c.loop-shown.shown-index c.args.models.now c.loop-shown-test.false) c.loop-shown.invariant
