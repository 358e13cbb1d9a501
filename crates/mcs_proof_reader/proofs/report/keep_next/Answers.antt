use Rattle.std.proofs.Common.{◌≡◌, ℕ, Some, sym, refl, subst}
use Rattle.mcs_system.specs.Plain.{System}
use Rattle.mcs_proof_lines.specs.Walks.{line_at}
use Rattle.mcs_proof_reader.specs.Questions.{next_question}
use Rattle.mcs_proof_reader.specs.Keeping.{answer_with}
use Rattle.mcs_proof_reader.proofs.AnswerSteps.{not_asked, asked_within, shown_failed, end_failed, answered, answer_shorter, shown_there, kept_fault, kept_reading, next_err}
use Rattle.mcs_proof_reader.proofs.report.keep_next.Goals as goal

pub returns-in_default-clause-read : goal.returns-in_default-clause-read
returns-in_default-clause-read g c = rw c.out_of_place.ensures (not_asked c.args.system.now c.args.last c.args.lines.now (sym c.in_default.ensures.value))

pub take-requires-clause-rules : goal.take-requires-clause-rules
take-requires-clause-rules g c = asked_within c.args.system.now c.requires.valid c.requires.named c.args.last c.args.lines.now c.in-Some.question (sym c.in-Some.ensures.value)

pub returns-in_err-kept-clause-read : goal.returns-in_err-kept-clause-read
returns-in_err-kept-clause-read g c =
    let m : System = c.args.system.now in
    let q : ℕ × ℕ = c.in-Some.question in
    let asked : line_at (next_question m c.args.last) c.args.lines.now ≡ Some q = sym c.in-Some.ensures.value in
    let (d, there) = shown_there m q.0 c.in-Some.ensures.there in
    next_err _ _ _ _ c.from_residual.ensures.1 (shown_failed m c.args.last c.args.lines.now q d asked there c.advance.new.self c.advance.ensures _ (kept_fault m q.0 d there c.advance.new.self _ c.in_err-kept.ensures))

pub returns-in-Ok : goal.returns-in-Ok
returns-in-Ok g c =
    let m : System = c.args.system.now in
    let q : ℕ × ℕ = c.in-Some.question in
    let asked : line_at (next_question m c.args.last) c.args.lines.now ≡ Some q = sym c.in-Some.ensures.value in
    let (d, there) = shown_there m q.0 c.in-Some.ensures.there in
    let taken = c.in_ok-kept.ensures in
    let kept : g.K.Keep.Keeps m (answer_with q taken.shown) c.number-line.result c.in_ok-kept.kept = taken.keeps_it in
    let read = answered m c.args.last c.args.lines.now q d asked there c.advance.new.self c.advance.ensures taken.shown c.take.new.lines (kept_reading m q.0 d there c.advance.new.self c.take.new.lines taken.shown taken.is) c.expect.new.lines c.in-Ok.ensures in
    record {
      read = record {
        answer = answer_with q taken.shown;
        read = read;
        asked = refl;
        keeps_it = subst (λ (n : ℕ). g.K.Keep.Keeps m (answer_with q taken.shown) n c.in_ok-kept.kept) c.number-line.ensures kept;
      };
      shorter = answer_shorter m c.requires.valid c.requires.named c.args.last c.args.lines.now c.expect.new.lines (answer_with q taken.shown) read;
    }

pub returns-in-Err-clause-read : goal.returns-in-Err-clause-read
returns-in-Err-clause-read g c =
    let m : System = c.args.system.now in
    let q : ℕ × ℕ = c.in-Some.question in
    let asked : line_at (next_question m c.args.last) c.args.lines.now ≡ Some q = sym c.in-Some.ensures.value in
    let (d, there) = shown_there m q.0 c.in-Some.ensures.there in
    let taken = c.in_ok-kept.ensures in
    end_failed m c.args.last c.args.lines.now q d asked there c.advance.new.self c.advance.ensures taken.shown c.take.new.lines (kept_reading m q.0 d there c.advance.new.self c.take.new.lines taken.shown taken.is) c.in-Err.fault c.in-Err.ensures
