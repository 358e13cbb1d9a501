use Rattle.std.proofs.Common.{◌∙◌, sym, arith, true≢false}
use Rattle.mcs_import.proofs.fewest.unchanged_at.Goals as goal

pub returns-then-is_listed : goal.returns-then-is_listed
returns-then-is_listed c = λ m few. (λ h. c.is_listed.ensures.0 c.if-is_listed.true, λ h. omega arith)

pub returns-else-is_listed : goal.returns-else-is_listed
returns-else-is_listed c = λ m few. (λ h. absurd (omega (arith, h, few)), λ h. absurd (true≢false (sym (c.is_listed.ensures.1 h) ∙ c.if-is_listed.false)))
