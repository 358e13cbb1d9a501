use Rattle.std.proofs.Common.{◌≡◌, ◌++◌, ◌∷◌, [], List, map, take, drop, length, sym, ap, ◌∙◌, arith, true≢false}
use Rattle.std.proofs.lemmas.List.{map-append}
use Rattle.std.specs.List.{flat_map}
use Rattle.mcs_base.proofs.Written.{written_back}
use Rattle.mcs_system.specs.Faults.{reads_of}
use Rattle.mcs_system.specs.Plain.{Bridge}
use Rattle.mcs_system.specs.Seen.{bridge_of, read_of}
use Rattle.mcs_script.specs.Drafts.{AreShares, AreWithin}
use Rattle.mcs_script.specs.Found.{AreFound}
use Rattle.mcs_script.proofs.DraftLemmas.{known_is_valid, draft_more}
use Rattle.mcs_script.proofs.draft.Draft.with_rule.Goals.{In_ok-push, then-is_fitting, else-is_fitting}
use Rattle.mcs_script.proofs.draft.Draft.with_rule.Goals as goal

abbrev before : In_ok-push → List Bridge
before c = map bridge_of c.self.inside.rules.items

abbrev rule : In_ok-push → Bridge
rule c = bridge_of c.args.rule.now

pushed : (c : In_ok-push) → map bridge_of c.push.new.self.items ≡ before c ++ rule c ∷ []
pushed c = ap (map bridge_of) c.in_ok-push.ensures.items ∙ (map-append bridge_of c.self.inside.rules.items _ ∙ ap (λ (b : Bridge). before c ++ b ∷ []) c.in_ok-copy.ensures)

found : (c : In_ok-push) → AreFound (flat_map reads_of (before c ++ rule c ∷ [])) (map read_of c.add_reads.new.reads.items)
found c = rw c.deref-2.ensures.value at c.in_ok-add_reads.ensures

shares : (c : In_ok-push) → AreShares c.self.inside.bare.contexts (before c ++ rule c ∷ []) c.add_shares.new.shares
shares c = rw c.deref-3.ensures.value at c.in_ok-add_shares.ensures

back : (c : In_ok-push) → take c.self.inside.shares.len (c.add_shares.new.shares ++ drop (length c.add_shares.new.shares) c.self.inside.shares.items) ≡ c.add_shares.new.shares
back c =
    let full : c.self.inside.shares.len ≡ length c.self.inside.shares.items = (let k = c.self.inside.shares.ok.0 in omega (arith, k)) in
    written_back c.self.inside.shares.items c.add_shares.new.shares c.self.inside.shares.len ((shares c).one_each ∙ sym c.self.invariant.shares_are.one_each) full

pub add_reads-requires : goal.add_reads-requires
add_reads-requires c = rw c.deref-2.ensures.value c.self.invariant.found

pub test-requires : goal.test-requires
test-requires c asked = elim c.if-is_fitting.branch [
  | then-is_fitting w ↦
      let at = (goal.at.test-requires c).In_ok-push in
      let fits = rw (c.contexts.ensures.value, c.deref.ensures.value) at c.fits-is_fitting.ensures w.if-is_fitting.true in
      let within : AreWithin c.add_reads.new.reads.items c.add_shares.new.shares = rw (w.deref-then-is_fitting.ensures.value, w.deref-then-is_fitting-2.ensures.value, back at) at w.are_within-known.ensures (sym w.known-is ∙ asked) in
      rw c.deref-4.ensures.value (known_is_valid c.self.inside.bare c.self.inside.rules.items c.push.new.self.items (rule at) c.add_reads.new.reads.items c.add_shares.new.shares (pushed at) c.self.invariant.valid fits within (found at) (shares at))
  | else-is_fitting w ↦ absurd (true≢false (sym asked ∙ w.known-is ∙ w.if-is_fitting.false))
]

pub invariant_of-result : goal.invariant_of-result
invariant_of-result c =
    let at = (goal.at.invariant_of-result c).In_ok-push in
    rw (back at) (draft_more c.self.inside.bare c.push.new.self.items (before at ++ rule at ∷ []) c.add_reads.new.reads.items c.add_shares.new.shares (pushed at) (rw c.deref-4.ensures.value at c.in_ok-test.ensures.ok) (found at) (shares at))
