use Rattle.std.proofs.Common.{arith, ◌∙◌, ◌++◌, [], List, not, filter, sym, ap, subst, refl}
use Rattle.std.proofs.lemmas.Result.{IfOk-weaker}
use Rattle.mcs_system.specs.Plain.{Name, Formula}
use Rattle.mcs_system.specs.Seen.{rule_of}
use Rattle.mcs_system.specs.Logic.{is_in}
use Rattle.mcs_evidence.specs.Programs.{atoms_as, negated_atoms, conjunction}
use Rattle.mcs_evidence.specs.Pushing.{AreNamesOf, HasConjunction, HasOccurrences}
use Rattle.mcs_evidence.proofs.Supports.{beside_over}
use Rattle.mcs_evidence.proofs.support.push_outside.Goals as goal

pub join_negated-requires-2-clause-can : goal.join_negated-requires-2-clause-can
join_negated-requires-2-clause-can c =
    record {
      over = subst (AreNamesOf c.args.atoms.now) (sym (c.deref-4.ensures.value ∙ c.in_ok-beside.ensures ∙ ap (filter (λ n. not (is_in n c.args.set.now))) c.deref.ensures.value))
          (beside_over c.args.atoms.now c.args.set.now (rule_of c.args.rule.now) c.requires.over);
      room = omega (arith, c.requires.room, c.in_ok-body.ensures.grows, c.in_ok-body-2.ensures.grows);
    }

pub returns : goal.returns
returns c =
    let names = c.args.atoms.now in
    let start = c.args.cnf.now in
    let positive = atoms_as c.deref-2.result.now in
    let negative = negated_atoms c.deref-3.result.now in
    let others = negated_atoms c.deref-4.result.now in
    let first : HasConjunction names positive start c.join_atoms.new.cnf c.in_ok-body.body = c.in_ok-body.ensures.joined start [] (refl, refl) in
    let second : HasConjunction names (positive ++ negative) start c.join_negated.new.cnf c.in_ok-body-2.body = c.in_ok-body-2.ensures.joined start positive first in
    let third : HasConjunction names ((positive ++ negative) ++ others) start c.join_negated-2.new.cnf c.in_ok-all.all = c.in_ok-all.ensures.joined start (positive ++ negative) second in
    IfOk-weaker c.all_of.result _ _ (λ n w. record {
      number = w.number;
      grows = omega (arith, c.in_ok-body.ensures.grows, c.in_ok-body-2.ensures.grows, c.in_ok-all.ensures.grows, w.grows);
      occurs = subst (λ (f : Formula). HasOccurrences names f start c.all_of.new.cnf n)
          (ap (λ (ns : List Name). conjunction ((atoms_as ns ++ negative) ++ others)) c.deref-2.ensures.value
          ∙ ap (λ (ns : List Name). conjunction ((atoms_as c.args.rule.now.pos.items ++ negated_atoms ns) ++ others)) c.deref-3.ensures.value
          ∙ ap (λ (ns : List Name). conjunction ((atoms_as c.args.rule.now.pos.items ++ negated_atoms c.args.rule.now.neg.items) ++ negated_atoms ns))
          (c.deref-4.ensures.value ∙ c.in_ok-beside.ensures ∙ ap (filter (λ n. not (is_in n c.args.set.now))) c.deref.ensures.value))
          (w.whole names start ((positive ++ negative) ++ others) third);
    }) c.all_of.ensures
