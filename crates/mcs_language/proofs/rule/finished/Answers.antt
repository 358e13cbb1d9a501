use Rattle.std.proofs.Common.{refl, arith}
use Rattle.mcs_system.specs.Seen.{bridge_of}
use Rattle.mcs_language.proofs.RuleEnds.{rule-there, rule-bridges, ready-again, own-ready, only-one, said-of}
use Rattle.mcs_language.proofs.rule.finished.Goals as goal

pub invariant_of-result : goal.invariant_of-result
invariant_of-result c = own-ready c.requires.0 _ (ready-again c.requires.0 c.args.reader c.requires.1.0 c.requires.1.1 _ refl refl)

pub unreachable-requires : goal.unreachable-requires
unreachable-requires c = omega (arith, rule-there c.requires.0 c.args.reader c.requires.1.0 c.requires.1.1, c.in-None.ensures.cases.0, c.args.reader.account.bridges.ok.0)

pub returns : goal.returns
returns c names ts h =
    said-of names c.args.reader ts h _ _ (ready-again names c.args.reader ts h (record c.args.reader { account = record c.args.reader.account { bridges = c.pop.new.self } }) refl refl).names_are refl (only-one bridge_of c.args.reader.account.bridges.items c.pop.new.self.items c.in-Some.bridge _ (rule-bridges names c.args.reader ts h) c.in-Some.ensures.items)
