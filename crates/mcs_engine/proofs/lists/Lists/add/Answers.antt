use Rattle.std.proofs.Common.{◌≡◌, ◌∙◌, ap, sym, to_z-of_z}
use Rattle.std.proofs.lemmas.Result.{on_ok_weaker}
use Rattle.mcs_trace.specs.Clauses.{place}
use Rattle.mcs_engine.proofs.WatchLemmas.{listed-after, listed-more, others-after}
use Rattle.mcs_engine.proofs.lists.Lists.add.Goals.{After-push}
use Rattle.mcs_engine.proofs.lists.Lists.add.Goals as goal

at : (c : After-push) → c.place.result ≡ place c.args.literal
at c = c.place.ensures ∙ ap place (to_z-of_z c.ranges.literal)

pub returns-clause-listed : goal.returns-clause-listed
returns-clause-listed c = on_ok_weaker c.push.result (λ more. listed-more c.args.self.now c.push.new.self c.place.result c.args.index more c.args.literal (sym (at c))) c.push.ensures.ok

pub returns-clause-kept : goal.returns-clause-kept
returns-clause-kept c = listed-after c.push.result c.args.self.now c.push.new.self c.place.result c.args.index c.push.ensures.ok c.push.ensures.err

pub returns-clause-others : goal.returns-clause-others
returns-clause-others c = λ p differ. others-after c.push.result c.args.self.now c.push.new.self c.place.result _ c.push.ensures.ok c.push.ensures.err p (λ e. differ (e ∙ at c))
