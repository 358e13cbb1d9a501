use Rattle.std.proofs.Common.{◌≡◌, ◌+◌, ◌∙◌, [], ◌∷◌, ◌++◌, List, map, sym, ap, subst, take}
use Rattle.mcs_base.specs.Listings.{IsAmong}
use Rattle.mcs_base.proofs.Among.{among_at, among_map}
use Rattle.mcs_base.proofs.Mapped.{image_each_read, map-take_read, map_push_as}
use Rattle.std.specs.BTreeSet.{insert_key}
use Rattle.std.proofs.lemmas.List.{take_all}
use Rattle.mcs_system.specs.Plain.{ProgramRule}
use Rattle.mcs_system.specs.Seen.{rule_of}
use Rattle.mcs_evidence.specs.Programs.{IsOverRule}
use Rattle.mcs_program.specs.Asked.{program_names, program_rules}
use Rattle.mcs_program.proofs.OnceLemmas.{IsTaken, none_taken, new_taken, twin_taken, all_taken, placed_cmp, seen_before}
use Rattle.mcs_program.proofs.once.rules_once.Goals.{then-branch+in_ok-copy+in_ok-push, else-branch}
use Rattle.mcs_program.proofs.once.rules_once.Goals as goal

pub loop-rule-init : goal.loop-rule-init
loop-rule-init c =
    let p = c.args.program.now in
    none_taken (program_names p) (program_rules p) c.new-seen.result.keys (map rule_of c.new-once.result.items) c.new-seen.ensures.empty (ap (map rule_of) c.new-once.ensures.items)

pub of-requires : goal.of-requires
of-requires c =
    let p = c.args.program.now in
    image_each_read (IsOverRule (program_names p)) rule_of p.rules.now c.loop-rule.rule-index c.rule-item.result c.loop-rule-test.true c.rule-item.is p.rules_over

pub loop-rule-preserved : goal.loop-rule-preserved
loop-rule-preserved c =
    let p = c.args.program.now in
    let names = program_names p in
    let rules = program_rules p in
    let i = c.loop-rule.rule-index in
    let r = c.rule-item.result in
    let seen = c.loop-rule.seen.keys in
    let once = map rule_of c.loop-rule.once.items in
    let past = map rule_of (take i p.rules.now) in
    let more : map rule_of (take (i + 1) p.rules.now) ≡ past ++ rule_of r ∷ [] = map-take_read rule_of p.rules.now i r c.loop-rule-test.true c.rule-item.is in
    let over : IsOverRule names (rule_of r) = image_each_read (IsOverRule names) rule_of p.rules.now i r c.loop-rule-test.true c.rule-item.is p.rules_over in
    let among : IsAmong (rule_of r) rules = among_map rule_of r p.rules.now (subst (λ m. IsAmong m p.rules.now) (sym c.rule-item.is) (among_at p.rules.now i r c.loop-rule-test.true)) in
    let keys : c.insert.new.self.keys ≡ insert_key placed_cmp seen c.of.result = c.in_ok-insert.ensures.keys in
    elim c.if-branch.branch [
      | then-branch+in_ok-copy+in_ok-push w ↦
          let pushed : map rule_of w.push.new.self.items ≡ once ++ rule_of r ∷ [] =
          map_push_as rule_of c.loop-rule.once.items w.push.new.self.items w.in_ok-copy.field-0 w.in_ok-push.ensures.items ∙ ap (λ (s : ProgramRule). once ++ s ∷ []) w.in_ok-copy.ensures in
          rw (w.once-is, more, keys) (new_taken placed_cmp names rules past seen once (rule_of r) c.of.result c.loop-rule.invariant c.of.ensures (map rule_of w.push.new.self.items) among pushed)
      | else-branch w ↦
          rw (w.once-is, more, keys) (twin_taken placed_cmp names rules past seen once (rule_of r) c.of.result c.loop-rule.invariant c.of.ensures p.different p.rules_over over (seen_before seen c.of.result c.in_ok-insert.field-0 c.in_ok-insert.ensures.added w.if-branch.false))
    ]

pub returns : goal.returns
returns c =
    let p = c.args.program.now in
    let rules = program_rules p in
    let all : map rule_of (take c.loop-rule.rule-index p.rules.now) ≡ rules = ap (map rule_of) (take_all c.loop-rule.rule-index p.rules.now c.loop-rule-test.false) in
    all_taken (program_names p) rules c.loop-rule.seen.keys (map rule_of c.loop-rule.once.items) (subst (λ (rs : List ProgramRule). IsTaken (program_names p) rules rs c.loop-rule.seen.keys (map rule_of c.loop-rule.once.items)) all c.loop-rule.invariant)
