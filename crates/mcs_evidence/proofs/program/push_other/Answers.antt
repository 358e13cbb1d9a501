use Rattle.std.proofs.Common.{subst, cond, Bool, map, arith}
use Rattle.mcs_sets.specs.Sets.{has}
use Rattle.mcs_system.specs.Plain.{Atom, Not}
use Rattle.mcs_evidence.specs.Programs.{literals_of_state}
use Rattle.mcs_evidence.specs.Pushing.{HasOccurrences}
use Rattle.mcs_evidence.proofs.PushingLemmas.{conjoining}
use Rattle.mcs_evidence.proofs.ProgramClauses.{literals_more, rest_names}
use Rattle.mcs_evidence.proofs.program.push_other.Goals as goal

pub loop-k-preserved : goal.loop-k-preserved
loop-k-preserved c =
    let names = c.args.atoms.now in
    let beliefs = c.args.beliefs.now in
    let k = c.loop-k.k in
    let belief = c.index-beliefs-k.result in
    let before = c.loop-k.invariant in
    let pushed = c.in_ok-x.ensures in
    let last = c.in_ok-n.ensures in
    record {
      grows = omega (arith, before.grows, pushed.grows, last.grows);
      over = (rest_names (λ b. b.now) names beliefs k belief c.loop-k-test.true c.index-beliefs-k.is before.over).1;
      part = last.number;
      joined = conjoining names (literals_of_state 0 (map Atom (map (λ b. b.now) beliefs)) c.args.state) _ _ (cond (has c.args.state k) (Atom belief.now) (Not (Atom belief.now))) c.args.cnf.now c.loop-k.cnf c.push_literal.new.cnf c.join.new.cnf c.loop-k.all c.in_ok-x.x c.in_ok-n.n
          (literals_more (λ b. b.now) beliefs k c.args.state belief c.loop-k-test.true c.index-beliefs-k.is) before.joined
          (subst (λ (b : Bool). HasOccurrences names (cond b (Atom belief.now) (Not (Atom belief.now))) c.loop-k.cnf c.push_literal.new.cnf c.in_ok-x.x) c.has.ensures.value pushed.occurs) last.joined;
    }
