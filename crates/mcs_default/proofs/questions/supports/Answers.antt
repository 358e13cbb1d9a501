use Rattle.std.proofs.Common.{rules, is_ok, refl, IsTrue, ◌↔◌}
use Rattle.mcs_base.proofs.Booleans.{true_tells, false_tells}
use Rattle.mcs_base.proofs.Mapped.{image_each_at}
use Rattle.mcs_system.specs.Logic.{Entails}
use Rattle.mcs_system.specs.Seen.{default_of}
use Rattle.mcs_evidence.specs.Defaults.{generated}
use Rattle.mcs_evidence.specs.Theories.{IsOverDefault}
use Rattle.mcs_default.proofs.FindingLemmas.{lower_supported, ready_lower}
use Rattle.mcs_default.proofs.SearchLemmas.{default_there}
use Rattle.mcs_grounding.specs.Asked.{theory_names, theory_defaults}
use Rattle.mcs_default.proofs.SameLemmas.{same_before}
use Rattle.mcs_default.proofs.questions.supports.Goals as goal

pub follows-requires : goal.follows-requires
follows-requires c = record { goal = ((image_each_at (IsOverDefault c.args.search.now.theory.now.asked.now.atoms.now) (λ d. default_of d.now) c.args.search.now.theory.now.defaults.now c.args.index c.index-defaults-index.result c.requires.index c.args.search.now.theory.now.over).0) }

pub returns-then-is_unsupported : goal.returns-then-is_unsupported
returns-then-is_unsupported c = record {
  kept = search rules;
  exact = λ items parts d at. (false_tells (c.is_unsupported.ensures c.args.search.now.theory.now.asked.now.atoms.now items (rw c.deref-2.ensures.value ((c.args.search.now.ready.right items parts).1)) c.if-is_unsupported.true d at));
}

pub invariant_of-search : goal.invariant_of-search
invariant_of-search c =
    let now = c.follows.new.search in
    let same = c.in_ok-is_supported.ensures.kept in
    record {
      ready = ready_lower (theory_names now.theory.now) (theory_defaults now.theory.now) now.findings (record { facts = now.findings.facts; lower = c.push.new.self; upper = now.findings.upper; conflicts = now.findings.conflicts }) now.ready refl (is_ok c.push.result)
          (record { set = c.args.set; supported = c.one.result; blocked = c.empty.result }) refl refl c.push.ensures.items (λ items parts.
          (let before = same_before items same parts in
          lower_supported items (record { set = c.args.set; supported = c.one.result; blocked = c.empty.result }) c.args.set c.args.index refl c.one.ensures c.empty.ensures (λ d at.
          (default_there (λ x. default_of x.now) c.args.search.now.theory.now.defaults.now items c.args.index c.index-defaults-index.result c.requires.index before.0 d at (λ d. Entails (generated items c.args.set) d.pre)
          ((c.in_ok-is_supported.ensures.exact items before).0 c.if-is_supported-2.true)))));
    }

pub returns-then-is_supported : goal.returns-then-is_supported
returns-then-is_supported c = record {
  kept = (refl, refl);
  exact = λ items parts d at. true_tells (c.is_supported.ensures items (rw c.deref.ensures.value ((c.args.search.now.ready.right items parts).0)) c.if-is_supported.true d at);
}

pub returns-in_ok-push : goal.returns-in_ok-push
returns-in_ok-push c = record {
  kept = c.in_ok-is_supported.ensures.kept;
  exact = λ items parts d at.
      default_there (λ x. default_of x.now) c.args.search.now.theory.now.defaults.now items c.args.index c.index-defaults-index.result c.requires.index parts.0 d at (λ d. IsTrue c.in_ok-is_supported.is_supported ↔ Entails (generated items c.args.set) d.pre)
      (c.in_ok-is_supported.ensures.exact items parts);
}

pub returns-else-is_supported-2 : goal.returns-else-is_supported-2
returns-else-is_supported-2 c = record {
  kept = c.in_ok-is_supported.ensures.kept;
  exact = λ items parts d at.
      default_there (λ x. default_of x.now) c.args.search.now.theory.now.defaults.now items c.args.index c.index-defaults-index.result c.requires.index parts.0 d at (λ d. IsTrue c.in_ok-is_supported.is_supported ↔ Entails (generated items c.args.set) d.pre)
      (c.in_ok-is_supported.ensures.exact items parts);
}
