use Rattle.std.proofs.Common.{◌&&◌, ℕ, not, sym, ap, subst, ◌∙◌, ◌↔◌, IsTrue}
use Rattle.mcs_sets.specs.Sets.{Within, Meets}
use Rattle.mcs_system.specs.Parts.{RulePart}
use Rattle.mcs_base.proofs.Lists.{slice_get_below}
use Rattle.mcs_system.proofs.AppliesLemmas.{applies_by_sets, applies_not}
use Rattle.mcs_system.proofs.system.System.is_applicable.Goals as goal

pub returns-then-within : goal.returns-then-within
returns-then-within c =
    let (b, is) = slice_get_below c.args.self.now.bridges c.args.rule c.requires in
    let part = c.reads_of-reads.ensures.part b is in
    let within = subst (λ (s : ℕ). IsTrue c.within.result ↔ Within s c.args.state) (ap (λ (p : RulePart). p.positive) part) c.within.ensures in
    let meets = subst (λ (s : ℕ). IsTrue c.meets.result ↔ Meets s c.args.state) (ap (λ (p : RulePart). p.negative) part) c.meets.ensures in
    ap (λ u. u && not c.meets.result) (sym c.if-within.true) ∙ applies_by_sets c.args.self.now c.reads_of-reads.ensures.valid c.args.state c.args.rule b is c.within.result c.meets.result within meets

pub returns-else-within : goal.returns-else-within
returns-else-within c =
    let (b, is) = slice_get_below c.args.self.now.bridges c.args.rule c.requires in
    let part = c.reads_of-reads.ensures.part b is in
    let within = subst (λ (s : ℕ). IsTrue c.within.result ↔ Within s c.args.state) (ap (λ (p : RulePart). p.positive) part) c.within.ensures in
    applies_not c.args.self.now c.reads_of-reads.ensures.valid c.args.state c.args.rule b is c.within.result within c.if-within.false
