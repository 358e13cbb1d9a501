use Rattle.std.proofs.Common.{◌+◌, ◌*◌, length}
use Rattle.mcs_crew.proofs.parts.+help.Given as goal

abbrev pub decreases-ask_in_halves : goal.decreases-ask_in_halves
decreases-ask_in_halves g l = 3 * length l.questions.now + 1

abbrev pub decreases-ask_with_help : goal.decreases-ask_with_help
decreases-ask_with_help g l = 3 * length l.questions.now + 2

abbrev pub decreases-ask_in_halves-join+arg2 : goal.decreases-ask_in_halves-join+arg2
decreases-ask_in_halves-join+arg2 g l = 3 * length l.back.now + 3

abbrev pub decreases-ask_in_halves-join+arg3 : goal.decreases-ask_in_halves-join+arg3
decreases-ask_in_halves-join+arg3 g l = 3 * length l.front.now + 3
