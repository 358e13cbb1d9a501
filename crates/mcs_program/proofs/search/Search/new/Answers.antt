use Rattle.std.proofs.Common.{map, subst, sym}
use Rattle.mcs_system.specs.Seen.{rule_of}
use Rattle.mcs_evidence.specs.Programs.{rule_formula}
use Rattle.mcs_meant.specs.Meanings.{AreMeantBy}
use Rattle.mcs_program.proofs.SearchLemmas.{begun}
use Rattle.mcs_program.proofs.search.Search.new.Goals as goal

pub returns : goal.returns
returns c = λ beliefs.
    begun c.args.program.now.atoms.now (map rule_of c.args.program.now.rules.now) beliefs (record { known = c.in_ok-known.known; smaller = c.new.result; views = c.new-2.result; models = c.new-3.result })
    (subst (AreMeantBy c.args.program.now.atoms.now (map rule_formula (map rule_of c.args.program.now.rules.now))) (sym c.in_ok-known.ensures) c.in_ok-cnf.ensures) c.new.ensures.items c.new-2.ensures.items c.new-3.ensures.items
