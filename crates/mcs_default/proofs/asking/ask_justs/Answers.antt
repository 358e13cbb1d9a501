use Rattle.std.proofs.Common.{◌≡◌, ◌∙◌, true, false, sym, map, take}
use Rattle.mcs_base.proofs.Mapped.{image_each_read}
use Rattle.mcs_system.specs.Plain.{Not}
use Rattle.mcs_system.specs.Seen.{formula_of}
use Rattle.mcs_cnf.specs.ClauseLists.{IsOver}
use Rattle.mcs_cnf.specs.Entailments.{entailment_of, says_yes}
use Rattle.mcs_grounding.proofs.DeniedLemmas.{denied_push}
use Rattle.mcs_default.proofs.AskLemmas.{justs_more, blocked_at}
use Rattle.mcs_default.proofs.asking.ask_justs.Goals as goal

pub refutes_from-requires-clause-over : goal.refutes_from-requires-clause-over
refutes_from-requires-clause-over c = image_each_read (IsOver c.args.theory.now.asked.now.atoms.now) formula_of c.args.justs.now c.loop-index.index c.index-justs-index.result c.loop-index-test.true c.index-justs-index.is c.requires.over

pub returns-then-says_yes : goal.returns-then-says_yes
returns-then-says_yes c = record {
  kept = c.refutes_from.ensures.kept ∙ c.loop-index.invariant.kept;
  told = λ fs is. (let said : says_yes (entailment_of c.in_ok-entail.entail) ≡ true = sym c.says_yes.ensures ∙ c.if-says_yes.true in
      blocked_at c.args.theory.now.asked.now.atoms.now fs c.args.justs.now c.loop-index.index c.in_ok-number.number c.index-justs-index.result c.in_ok-entail.entail c.loop-index-test.true c.index-justs-index.is c.in_ok-number.ensures.number
      (c.in_ok-entail.ensures.accepted fs (rw c.loop-index.invariant.kept is)) said);
}

pub loop-index-preserved : goal.loop-index-preserved
loop-index-preserved c =
    let i = c.loop-index.index in
    let f = c.index-justs-index.result in
    let said : says_yes (entailment_of c.in_ok-entail.entail) ≡ false = sym c.says_yes.ensures ∙ c.if-says_yes.false in
    record {
      kept = c.refutes_from.ensures.kept ∙ c.loop-index.invariant.kept;
      denied = λ fs is. denied_push c.args.theory.now.asked.now.atoms.now fs (map Not (map formula_of (take i c.args.justs.now))) _ (Not (formula_of f)) c.loop-index.allowed.items c.push.new.self.items c.in_ok-entail.entail
          (justs_more c.args.justs.now i f c.loop-index-test.true c.index-justs-index.is) c.in_ok-push.ensures.items (c.in_ok-entail.ensures.accepted fs (rw c.loop-index.invariant.kept is)) said (c.loop-index.invariant.denied fs is);
    }
