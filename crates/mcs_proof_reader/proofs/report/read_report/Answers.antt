use Rattle.std.proofs.Common.{ℕ, List, sym, subst}
use Rattle.mcs_proof_reader.specs.Keeping.{IsWholeAnswer, IsKeptReport}
use Rattle.mcs_proof_reader.proofs.AnswerPlaces.{whole_report, whole_fault}
use Rattle.mcs_proof_reader.proofs.report.read_report.Goals as goal

pub returns-in-Ok-copies_of : goal.returns-in-Ok-copies_of
returns-in-Ok-copies_of c =
    whole_report c.args.system.now c.args.bytes.now _
    (subst (λ (ls : List (List ℕ)). IsKeptReport (λ m. IsWholeAnswer) c.args.system.now c.args.bytes.now ls c.in-Ok.kept.answers.items c.in-Ok.kept.last_line) (sym c.in-Ok-copies_of.ensures) c.in-Ok.ensures.read)

pub returns-in-Err : goal.returns-in-Err
returns-in-Err c = whole_fault c.args.system.now c.args.bytes.now c.in-Err.fault c.in-Err.ensures.read
