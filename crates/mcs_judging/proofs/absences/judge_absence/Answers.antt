use Rattle.std.proofs.Common.{map}
use Rattle.mcs_system.specs.Seen.{formula_of}
use Rattle.mcs_cnf.proofs.GrowingLemmas.{room_known}
use Rattle.mcs_asked.specs.Questions.{theory_names, theory_items}
use Rattle.mcs_judging.proofs.AbsenceLemmas.{absence_none, unsupported_told, blocked_told}
use Rattle.mcs_judging.proofs.absences.judge_absence.Goals as goal

pub judge_blocked-requires-clause-room : goal.judge_blocked-requires-clause-room
judge_blocked-requires-clause-room c = room_known (theory_names c.args.reading.now.theory.now) c.args.known.now (map (λ f. formula_of f.now) c.args.premises.now) c.requires.made

pub returns-in-Some-clause-exact : goal.returns-in-Some-clause-exact
returns-in-Some-clause-exact c =
    unsupported_told c.args.reading.now.terms.now.atoms.now c.args.reading.now.terms.now.justs.now c.args.only c.args.lines.now (theory_names c.args.reading.now.theory.now) (theory_items c.args.reading.now.theory.now) (map (λ f. formula_of f.now) c.args.premises.now) c.judge_unsupported.new.lines
    c.in-Some.number c.judge_unsupported.result c.in-Some.ensures.value (rw c.advance.ensures at c.judge_unsupported.ensures)

pub returns-in_default-next_blocked-clause-exact : goal.returns-in_default-next_blocked-clause-exact
returns-in_default-next_blocked-clause-exact c =
    rw c.out_of_place.ensures (absence_none c.args.reading.now.terms.now.atoms.now c.args.reading.now.terms.now.justs.now c.args.only c.args.lines.now c.in_default.ensures.value c.in_default-next_blocked.ensures.value)

pub returns-clause-exact : goal.returns-clause-exact
returns-clause-exact c =
    blocked_told c.args.reading.now.terms.now.atoms.now c.args.reading.now.terms.now.justs.now c.args.only c.args.lines.now (theory_names c.args.reading.now.theory.now) (theory_items c.args.reading.now.theory.now) (map (λ f. formula_of f.now) c.args.premises.now) c.judge_blocked.new.lines
    c.in-Some-next_blocked.number c.in-Some-next_blocked.just c.judge_blocked.result c.in_default.ensures.value c.in-Some-next_blocked.ensures.value (rw c.advance-2.ensures at c.judge_blocked.ensures.exact (map (λ f. formula_of f.now) c.args.premises.now) c.requires.made)
