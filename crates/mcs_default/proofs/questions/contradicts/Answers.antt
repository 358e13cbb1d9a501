use Rattle.std.proofs.Common.{rules, is_ok, refl}
use Rattle.mcs_default.proofs.FindingLemmas.{ready_conflict}
use Rattle.mcs_base.proofs.Booleans.{true_tells, false_tells}
use Rattle.mcs_grounding.specs.Asked.{theory_names, theory_defaults}
use Rattle.std.proofs.lemmas.Bool.{iff_false}
use Rattle.mcs_default.proofs.SameLemmas.{same_before}
use Rattle.mcs_default.proofs.questions.contradicts.Goals as goal

pub returns-then-has_conflict : goal.returns-then-has_conflict
returns-then-has_conflict c = record {
  kept = search rules;
  exact = λ items parts. (true_tells (c.has_conflict.ensures items (rw c.deref.ensures.value ((c.args.search.now.ready.right items parts).2)) c.if-has_conflict.true));
}

pub returns-then-is_consistent : goal.returns-then-is_consistent
returns-then-is_consistent c = record {
  kept = search rules;
  exact = λ items parts. (false_tells (c.is_consistent.ensures c.args.search.now.theory.now.asked.now.atoms.now items (rw c.deref-2.ensures.value ((c.args.search.now.ready.right items parts).1)) c.if-is_consistent.true));
}

pub least_conflict-requires : goal.least_conflict-requires
least_conflict-requires c = record { conflict = λ items parts. ((c.in_ok-entails_all.ensures.exact items (same_before items c.in_ok-entails_all.ensures.kept parts)).0 c.if-not-branch.false) }

pub returns : goal.returns
returns c = record {
  kept = search rules;
  exact = λ items parts. (true_tells ((c.in_ok-entails_all.ensures.exact items parts).0 c.if-not-branch.false));
}

pub invariant_of-search : goal.invariant_of-search
invariant_of-search c =
    let now = c.least_conflict.new.search in
    let f = now.findings in
    record {
      ready = ready_conflict (theory_names now.theory.now) (theory_defaults now.theory.now) f (record { facts = f.facts; lower = f.lower; upper = f.upper; conflicts = c.push.new.self }) now.ready refl (is_ok c.push.result) c.in_ok-least.least refl refl c.push.ensures.items (λ items parts.
          (c.in_ok-least.ensures.exact items (same_before items c.in_ok-least.ensures.kept parts)));
    }

pub returns-then-not-branch : goal.returns-then-not-branch
returns-then-not-branch c = record {
  kept = c.in_ok-entails_all.ensures.kept;
  exact = λ items parts. false_tells (iff_false (c.in_ok-entails_all.ensures.exact items parts) c.if-not-branch.true);
}
