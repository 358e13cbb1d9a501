use Rattle.std.proofs.Common.{arith, ◌∙◌, ap, refl, map, filter, [], ◌∷◌, ◌++◌}
use Rattle.std.proofs.lemmas.Result.{IfOk-weaker}
use Rattle.mcs_system.specs.Plain.{Formula, ProgramRule}
use Rattle.mcs_system.specs.Seen.{rule_of}
use Rattle.mcs_cnf.specs.ClauseLists.{with_formulas}
use Rattle.mcs_evidence.specs.Programs.{atoms_as, disjunction, is_broken_by}
use Rattle.mcs_evidence.specs.Pushing.{HasConjunction}
use Rattle.mcs_evidence.proofs.PushingLemmas.{conjunction_more}
use Rattle.mcs_evidence.proofs.ProgramClauses.{within_names, beside_names, beside_is}
use Rattle.mcs_evidence.proofs.program.push_one_beside.Goals as goal

pub join_atoms-requires-clause-can : goal.join_atoms-requires-clause-can
join_atoms-requires-clause-can c = record { over = within_names c.args.atoms.now c.deref.result.now c.args.less (c.deref.ensures.value ∙ c.in_ok-within.ensures); room = c.requires.can.room }

pub push_either-requires : goal.push_either-requires
push_either-requires c = record { over = beside_names c.args.atoms.now c.deref-2.result.now c.args.less (c.deref-2.ensures.value ∙ c.in_ok-beside.ensures); room = omega (arith, c.requires.can.room, c.in_ok-all.ensures.grows) }

pub returns : goal.returns
returns c =
    let names = c.args.atoms.now in
    let start = c.args.cnf.now in
    let rules = map rule_of c.args.rules.now in
    let w = c.deref.result.now in
    let b = c.deref-2.result.now in
    let d = disjunction (atoms_as b) in
    let first : HasConjunction names (atoms_as w) start c.join_atoms.new.cnf c.in_ok-all.all = c.in_ok-all.ensures.joined start [] (refl, refl) in
    let second = conjunction_more names (atoms_as w) d start c.join_atoms.new.cnf c.push_either.new.cnf c.join.new.cnf c.in_ok-all.all c.in_ok-x.x c.in_ok-all-2.all first c.in_ok-x.ensures.occurs c.in_ok-all-2.ensures.joined in
    let third = c.in_ok-all-3.ensures.joined start (atoms_as w ++ d ∷ []) second in
    IfOk-weaker c.push_not_all.result _ _ (λ _ denial. record {
      grows = omega (arith, c.in_ok-all.ensures.grows, c.in_ok-x.ensures.grows, c.in_ok-all-2.ensures.grows, c.in_ok-all-3.ensures.grows, denial.grows);
      pushed = denial.pushed names start ((atoms_as w ++ d ∷ []) ++ map (λ (r : ProgramRule). disjunction (atoms_as r.neg)) (filter (is_broken_by c.deref-3.result.now) rules)) third
          ∙ ap (λ (f : Formula). with_formulas names start (f ∷ [])) (beside_is names w b c.deref-3.result.now rules c.args.less (c.deref.ensures.value ∙ c.in_ok-within.ensures) (c.deref-2.ensures.value ∙ c.in_ok-beside.ensures) (c.deref-3.ensures.value ∙ c.in_ok-within.ensures));
    })
    c.push_not_all.ensures
