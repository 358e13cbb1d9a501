-- What the tokens of a text are there for, told by its parts. Declares nothing.
pub use Rattle.mcs_account.proofs.UsesParts.{text_uses, goes_into, sum_of, IsReadOf, IsPlaceOf, OfHead, OfRead, IsAtomOf, item_formulas, kb_formulas, rule_size, kb_rules, IsSizeOf, OfFormula, OfRule, OfPlace, depth_of, IsShallow, IsProgramKb, IsBefore}
pub use Rattle.mcs_faults.proofs.UsesCounts.{context-count, bridge-count, names-there, rule-names-there, target-count}
pub use Rattle.mcs_faults.proofs.UsesItems.{default-count, item-count}
pub use Rattle.mcs_account.proofs.TextUses.{targets-there, sources-there, programs-there, reads-there}
pub use Rattle.mcs_account.proofs.UsesAtoms.{atoms-there}
pub use Rattle.mcs_account.proofs.UsesSizes.{numbers-there, opens-there}
