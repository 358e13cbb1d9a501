use Rattle.std.proofs.Common.{◌≡◌, ◌+◌, ◌^◌, List, map, length, ap, ◌∙◌, arith}
use Rattle.mcs_base.proofs.NumberCases.{power_less_one, power_up_to_ten}
use Rattle.mcs_evidence.specs.Defaults.{verdict_of}
use Rattle.mcs_trace.specs.declared.certificate.SetCert.{SetCert}
use Rattle.mcs_proof_lines.specs.Walks.{after_front}
use Rattle.mcs_proof_lines.specs.Verdicts.{terms_of, sets_from}
use Rattle.mcs_proof_lines.proofs.VerdictLemmas.{sets_pushed, sets_begin}
use Rattle.mcs_proof_lines.proofs.verdicts.take_verdicts.Goals as goal

pub loop-left-init : goal.loop-left-init
loop-left-init c =
    let n = length c.args.theory.now.justs.now in
    let is : c.number-left.result + 1 ≡ 2 ^ n = ap (λ k. k + 1) (c.number-left.ensures ∙ c.places.ensures) ∙ power_less_one n in
    record { read = ap (λ (xs : List SetCert). after_front (map verdict_of xs) (sets_from (terms_of c.args.theory.now) 0 (c.number-left.result + 1) c.args.lines.now)) c.new-sets.ensures.items ∙ sets_begin (terms_of c.args.theory.now) (c.number-left.result + 1) (2 ^ n) c.args.lines.now is; few = (let most = power_up_to_ten n c.requires.defaults in omega (arith, most, is)) }

pub loop-left-preserved : goal.loop-left-preserved
loop-left-preserved c = record {
  read = sets_pushed verdict_of (terms_of c.args.theory.now) c.loop-left.sets.items c.push.new.self.items c.in-Ok.verdict c.loop-left.set c.loop-left.left c.loop-left.lines c.take_set.new.lines _ c.in_ok-push-in-Ok.ensures.items c.loop-left-test.true (rw c.numbered.ensures at c.in-Ok.ensures) c.loop-left.invariant.read;
  few = (let few = c.loop-left.invariant.few in let some = c.loop-left-test.true in omega (arith, few, some));
}
