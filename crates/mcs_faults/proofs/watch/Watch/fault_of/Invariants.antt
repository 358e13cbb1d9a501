use Rattle.std.proofs.Common.{◌<◌, List}
use Rattle.mcs_system.specs.declared.limit.Limit.{Limit}
use Rattle.mcs_grammar.specs.Entries.{Use, Entry}
use Rattle.mcs_grammar.specs.Faults.{row, ExceedsLimit}
use Rattle.mcs_account.specs.Images.{About}
use Rattle.mcs_faults.specs.Watching.{IsEntryAsked}
use Rattle.mcs_faults.proofs.watch.Watch.fault_of.Given as goal

abbrev pub invariant-loop-limit : goal.invariant-loop-limit
invariant-loop-limit l = (before : List Use) (m : Entry) (a : About) → IsEntryAsked l.self before m a l.said → (limit : Limit) → row limit < l.limit-index → ¬ ExceedsLimit limit before m
