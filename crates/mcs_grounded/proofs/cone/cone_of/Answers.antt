use Rattle.std.proofs.Common.{◌≡◌, ◌∙◌, ℕ, List, map, filter, sym, ap, subst, true, rules}
use Rattle.std.proofs.lemmas.Fn.{filter_same}
use Rattle.std.specs.List.{AllZip}
use Rattle.mcs_base.proofs.Each.{all_by_test}
use Rattle.mcs_system.specs.Plain.{Name, Kb, Program}
use Rattle.mcs_system.specs.Atoms.{atoms_of}
use Rattle.mcs_system.specs.Faults.{has_twins}
use Rattle.mcs_system.specs.Seen.{kb_of, rule_of}
use Rattle.mcs_system.specs.Systems.{variables_of}
use Rattle.mcs_system.specs.declared.knowledge.ProgRule as code
use Rattle.mcs_sets.specs.Sets.{has, members}
use Rattle.mcs_cnf.proofs.OverLemmas.{context_atoms}
use Rattle.mcs_evidence.specs.Programs.{AreOverRules}
use Rattle.mcs_asking.specs.Kinds.{IsOverKb}
use Rattle.mcs_asking.proofs.AskingLemmas.{context_there}
use Rattle.mcs_asking.proofs.CoverLemmas.{own_over}
use Rattle.mcs_reduct.specs.Plain.{has_one_head, is_plain}
use Rattle.mcs_grounded.specs.Parts.{IsNormalRule, IsDependent, IsProgramAt, places_at}
use Rattle.mcs_grounded.specs.declared.placed.NormalRule.{NormalRule}
use Rattle.mcs_grounded.proofs.Cones.{cone_made}
use Rattle.mcs_grounded.proofs.Derivers.{cone_for, no_cone, no_program}
use Rattle.mcs_grounded.proofs.Gathering.{reads_are_atoms}
use Rattle.mcs_grounded.proofs.cone.cone_of.Goals as goal

pub returns-in_default : goal.returns-in_default
returns-in_default c = no_cone c.args.system.now c.args.context _ _ (context_there c.args.system.now c.contexts.result.now c.args.context c.index-contexts-context.result c.contexts.ensures.value c.requires.context) (no_program _ c.in_default.not-Program) c.empty.ensures

-- ---- a program's
pub normal_rules-requires-clause-atoms : goal.normal_rules-requires-clause-atoms
normal_rules-requires-clause-atoms c = record { few = c.atoms_of.ensures.few; different = ap has_twins c.atoms_of.ensures.value ∙ (context_atoms c.args.system.now c.args.context).0 }

pub normal_rules-requires-clause-rules : goal.normal_rules-requires-clause-rules
normal_rules-requires-clause-rules c =
    subst (λ (ns : List Name). AreOverRules ns (map rule_of c.deref.result.now)) (sym c.atoms_of.ensures.value) (subst (λ (k : Kb). IsOverKb (atoms_of c.args.system.now c.args.context) k) (ap kb_of c.in-Program.is ∙ ap (λ (rs : List code.ProgRule). Program (map rule_of rs)) (sym c.deref.ensures.value)) (own_over c.args.system.now c.args.context _ (context_there c.args.system.now c.contexts.result.now c.args.context c.index-contexts-context.result c.contexts.ensures.value c.requires.context)))

pub normal_rules-requires-clause-one_head : goal.normal_rules-requires-clause-one_head
normal_rules-requires-clause-one_head c =
    (all_by_test (λ r. has_one_head r ≡ true) has_one_head (map rule_of c.deref.result.now) (λ r among. (λ e. e, λ e. e))).1 (ap is_plain (sym (ap kb_of c.in-Program.is ∙ ap (λ (rs : List code.ProgRule). Program (map rule_of rs)) (sym c.deref.ensures.value))) ∙ c.requires.plain c.args.context _ (context_there c.args.system.now c.contexts.result.now c.args.context c.index-contexts-context.result c.contexts.ensures.value c.requires.context))

pub places_at-start-requires : goal.places_at-start-requires
places_at-start-requires c = c.members.ensures.below

kept : (c : goal.After-retain) → c.retain.new.self.items ≡ filter (λ (n : NormalRule). has c.dependent-cone.result n.head) c.in_ok-rules.rules.items
kept c = filter_same _ _ _ (λ n b f k. search rules) _ _ c.retain.ensures.filtered

pub returns : goal.returns
returns c =
    let m = c.args.system.now in
    let i = c.args.context in
    let rules = map rule_of c.deref.result.now in
    let program : IsProgramAt m i rules = (_, context_there c.args.system.now c.contexts.result.now c.args.context c.index-contexts-context.result c.contexts.ensures.value c.requires.context, ap kb_of c.in-Program.is ∙ ap (λ (rs : List code.ProgRule). Program (map rule_of rs)) (sym c.deref.ensures.value)) in
    let starts : c.places_at-start.result ≡ places_at c.args.places.now.reads 0 (members (variables_of m i)) = c.places_at-start.ensures ∙ ap (places_at c.args.places.now.reads 0) (c.members.ensures.list ∙ ap members c.vars_of.ensures) in
    cone_for m i rules _ program
    (cone_made m i rules (context_atoms m i).0 c.args.places.now.reads c.requires.places.reads (reads_are_atoms m i c.requires.places.valid (rules, program)) _ c.in_ok-rules.rules.items
    (subst (λ (ns : List Name). AllZip (IsNormalRule ns) rules c.in_ok-rules.rules.items) c.atoms_of.ensures.value c.in_ok-rules.ensures)
    (subst (λ (start : ℕ). IsDependent c.in_ok-rules.rules.items start c.dependent-cone.result) starts
    (subst (λ (ns : List NormalRule). IsDependent ns c.places_at-start.result c.dependent-cone.result) c.deref-2.ensures.value c.dependent-cone.ensures))
    (kept c))
