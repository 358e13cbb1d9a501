-- The command line as clap is told of it.
use Rattle.std.specs.Prelude.{true, Some, codes}
use Rattle.clap.specs.declared.builder.action.ArgAction.TheVariants.{SetTrue}
use Rattle.clap.specs.Words.{App, Rule, Text, new_app, new_rule, with_rule}
use Rattle.clap.specs.Simple.{on_top}

-- the words after the program's name are handed in, and no option is added
abbrev pub bare_line : App
bare_line = on_top (λ s. record s { no_binary_name = true; disable_help_flag = true }) (new_app (codes "mcs"))

-- a word that has to be given, and an option with a text as its value
abbrev pub word_rule : Text → Rule
word_rule name = record (new_rule name) { required = true }

abbrev pub option_rule : Text → Rule
option_rule name = record (new_rule name) { long = Some name }

abbrev pub job_rule : Rule
job_rule = word_rule (codes "job")

abbrev pub file_rule : Rule
file_rule = word_rule (codes "file")

abbrev pub report_rule : Rule
report_rule = new_rule (codes "report")

abbrev pub budget_rule : Rule
budget_rule = option_rule (codes "budget")

abbrev pub workers_rule : Rule
workers_rule = option_rule (codes "workers")

abbrev pub proof_rule : Rule
proof_rule = record (new_rule (codes "proof")) { long = Some (codes "proof"); action = Some SetTrue }

-- a job, a file and no report or one
abbrev pub plain_line : App
plain_line = with_rule (with_rule (with_rule bare_line job_rule) file_rule) report_rule

-- and two options that take one text each, and a flag
abbrev pub line : App
line = with_rule (with_rule (with_rule plain_line budget_rule) workers_rule) proof_rule
