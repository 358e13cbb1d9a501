use Rattle.std.proofs.Common.{◌≡◌, ◌++◌, ◌∷◌, [], List, Bool, ◌<◌, ◌+◌, ◌^◌, ◌↔◌, ℕ, ℤ, pos, length, IsTrue, ap, ◌∙◌, subst, arith, w64}
use Rattle.std.proofs.lemmas.Int.{to_z_pos}
use Rattle.std.proofs.lemmas.List.{length_push}
use Rattle.mcs_engine.specs.Trails.{IsOn}
use Rattle.mcs_sat.proofs.ModelLemmas.{model-more}
use Rattle.mcs_sat.proofs.model.model_of.Goals as goal

pub loop-variable-init : goal.loop-variable-init
loop-variable-init c = record { size = ap (λ (xs : List Bool). length xs + 1) c.new-model.ensures.items; values = λ v some less. absurd (omega arith) }

pub loop-variable-preserved : goal.loop-variable-preserved
loop-variable-preserved c =
    let es = c.args.trail.now.entries.items in
    let v : ℕ = c.loop-variable.variable in
    let b : Bool = c.is_true.result in
    let bound : v < 2 ^ 63 = (let ok = c.args.trail.now.positions.ok.0 in let fits = c.args.trail.now.fits in omega arith) in
    let new : c.push.new.self.items ≡ c.loop-variable.model.items ++ b ∷ [] = c.in_ok-push.ensures.items in
    let here : IsTrue b ↔ IsOn es (pos v) = subst (λ (l : ℤ). IsTrue b ↔ IsOn es l) (to_z_pos w64 v bound) c.is_true.ensures in
    record {
      size = ap (λ (xs : List Bool). length xs + 1) new ∙ ap (λ n. n + 1) (length_push c.loop-variable.model.items b ∙ c.loop-variable.invariant.size);
      values = model-more es c.loop-variable.model.items c.push.new.self.items v b c.loop-variable.invariant.size new here c.loop-variable.invariant.values;
    }
