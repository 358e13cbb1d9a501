use Rattle.std.proofs.Common.{◌∙◌, ℕ, ◌+◌, List, map, refl, sym, subst, add-one, arith}
use Rattle.std.proofs.lemmas.List.{length-map}
use Rattle.mcs_script.specs.Edits.{Edit}
use Rattle.mcs_script.specs.Seen.{edit_of}
use Rattle.mcs_session.specs.Sessions.{SessionState}
use Rattle.mcs_editing.specs.Listed.{listed_systems}
use Rattle.mcs_editing.specs.Course.{IsUnderWay, after_all}
use Rattle.mcs_editing.proofs.LoopLemmas.{after_listing, at_listing, edits_from, edits_in, lists_between, lists_cut, lists_ended, lists_in_listing, next_there, none_left, nothing_listed, waits_for_none, waits_on}
use Rattle.mcs_editing.proofs.course.list_script.Goals.{then-asks_for_listing+in_ok-edit_all+in_ok-found, else-asks_for_listing}
use Rattle.mcs_editing.proofs.course.list_script.Goals as goal

-- ---- the beginning
pub returns-in_err-session : goal.returns-in_err-session
returns-in_err-session g c =
    let edits = map edit_of c.args.edits.now in
    let now = g.K.Sink.device c.args.sink.now in
    lists_between c.args.budget (listed_systems c.args.system edits) now now refl refl _ 0 0 edits (nothing_listed c.args.budget c.args.system edits now.written c.requires.script.allowed) _ c.from_residual.ensures.1

pub loop-place-init : goal.loop-place-init
loop-place-init g c =
    let edits = map edit_of c.args.edits.now in
    let systems = listed_systems c.args.system edits in
    let now = (g.K.Sink.device c.args.sink.now).written in
    record {
      waits = waits_for_none c.args.budget systems c.args.edits.now 0 c.in_ok-session.session 0 0 now now
          (subst (λ (s : SessionState). IsUnderWay c.args.budget systems edits s 0 0 now now) (sym c.in_ok-session.ensures) (nothing_listed c.args.budget c.args.system edits now c.requires.script.allowed));
      past = omega arith;
      notes = refl;
      faults = refl;
      few_lists = omega arith;
      few_answers = omega arith;
    }

-- ---- a listing
pub returns-in_err-edit_all : goal.returns-in_err-edit_all
returns-in_err-edit_all g c =
    lists_between c.args.budget _ (g.K.Sink.device c.args.sink.now) (g.K.Sink.device c.loop-place.sink) c.loop-place.invariant.faults c.loop-place.invariant.notes _ c.loop-place.lists c.loop-place.answers _ c.loop-place.invariant.waits.under_way _
    c.from_residual-in_err-edit_all.ensures.1

pub returns-in_err-found : goal.returns-in_err-found
returns-in_err-found g c =
    let systems = listed_systems c.args.system (map edit_of c.args.edits.now) in
    let before = g.K.Sink.device c.args.sink.now in
    let mid = g.K.Sink.device c.loop-place.sink in
    let l = c.loop-place in
    let s = c.edit_all.new.self in
    let left = edits_from c.args.edits.now (l.place + 1) in
    let u = at_listing c.args.budget systems c.args.edits.now l.start l.place l.session l.lists l.answers before.written mid.written l.invariant.waits c.index-edits-place.result c.loop-place-test.true c.index-edits-place.is s c.in_ok-edit_all.ensures.ok
    (sym c.asks_for_listing.ensures ∙ c.if-asks_for_listing.true) in
    lists_in_listing c.args.budget systems before mid l.invariant.faults l.invariant.notes s l.lists l.answers left u _ (g.K.Sink.device c.list_next.new.sink) c.in_err-found.ensures.sink
    (c.in_err-found.ensures.stop systems u.ready (next_there c.args.budget systems s l.lists l.answers before.written mid.written left u)) _ c.from_residual-in_err-found.ensures.1

pub overflow_add-answers : goal.overflow_add-answers
overflow_add-answers g c =
    let systems = listed_systems c.args.system (map edit_of c.args.edits.now) in
    let before = g.K.Sink.device c.args.sink.now in
    let mid = g.K.Sink.device c.loop-place.sink in
    let l = c.loop-place in
    let s = c.edit_all.new.self in
    let left = edits_from c.args.edits.now (l.place + 1) in
    let u = at_listing c.args.budget systems c.args.edits.now l.start l.place l.session l.lists l.answers before.written mid.written l.invariant.waits c.index-edits-place.result c.loop-place-test.true c.index-edits-place.is s c.in_ok-edit_all.ensures.ok
    (sym c.asks_for_listing.ensures ∙ c.if-asks_for_listing.true) in
    let listed = c.in_ok-found.ensures.ok systems u.ready (next_there c.args.budget systems s l.lists l.answers before.written mid.written left u) in
    let more = listed.few in
    let lists = l.invariant.few_lists in
    let answers = l.invariant.few_answers in
    let below = c.loop-place-test.true in
    let few = c.requires.script.few in
    let long = length-map c.args.edits.now edit_of in
    omega (arith, lists, answers, below, few, long, more)

-- ---- on to the next edit
pub loop-place-preserved : goal.loop-place-preserved
loop-place-preserved g c =
    let edits = c.args.edits.now in
    let systems = listed_systems c.args.system (map edit_of edits) in
    let before = (g.K.Sink.device c.args.sink.now).written in
    let mid = (g.K.Sink.device c.loop-place.sink).written in
    let l = c.loop-place in
    let inv = c.loop-place.invariant in
    elim c.if-asks_for_listing.branch [
      | then-asks_for_listing+in_ok-edit_all+in_ok-found w ↦
          let s = w.edit_all.new.self in
          let left = edits_from edits (l.place + 1) in
          let now = (g.K.Sink.device w.list_next.new.sink).written in
          let answers = l.answers + w.in_ok-found.found.new in
          let u = at_listing c.args.budget systems edits l.start l.place l.session l.lists l.answers before mid inv.waits c.index-edits-place.result c.loop-place-test.true c.index-edits-place.is s w.in_ok-edit_all.ensures.ok
          (sym c.asks_for_listing.ensures ∙ w.if-asks_for_listing.true) in
          let listed = w.in_ok-found.ensures.ok systems u.ready (next_there c.args.budget systems s l.lists l.answers before mid left u) in
          let used = w.in_ok-found.ensures.sink in
          rw (w.sink-is, w.session-is, w.lists-is, w.answers-is, w.start-is) (record {
            waits = waits_for_none c.args.budget systems edits (l.place + 1) w.list_next.new.session (l.lists + 1) answers before now
                (subst (λ (n : ℕ). IsUnderWay c.args.budget systems left w.list_next.new.session n answers before now) (sym (add-one l.lists)) (after_listing c.args.budget systems s l.lists l.answers before mid left u w.list_next.new.session _ now listed));
            past = omega arith;
            notes = used.notes ∙ inv.notes;
            faults = used.unfailed (λ e. cc) ∙ inv.faults;
            few_lists = (let few = inv.few_lists in omega (arith, few));
            few_answers = (let few = inv.few_answers in let more = listed.few in omega (arith, few, more));
          })
      | else-asks_for_listing w ↦ rw (w.sink-is, w.session-is, w.lists-is, w.answers-is, w.start-is) (record {
        waits = waits_on c.args.budget systems edits l.start l.place l.session l.lists l.answers before mid inv.waits c.index-edits-place.result c.loop-place-test.true c.index-edits-place.is inv.past (sym c.asks_for_listing.ensures ∙ w.if-asks_for_listing.false);
        past = (let past = inv.past in omega (arith, past));
        notes = inv.notes;
        faults = inv.faults;
        few_lists = (let few = inv.few_lists in omega (arith, few));
        few_answers = inv.few_answers;
      })
    ]

-- ---- the end
pub returns-in_err-print_end_line : goal.returns-in_err-print_end_line
returns-in_err-print_end_line g c =
    let systems = listed_systems c.args.system (map edit_of c.args.edits.now) in
    let before = g.K.Sink.device c.args.sink.now in
    let mid = g.K.Sink.device c.loop-place.sink in
    let l = c.loop-place in
    let s = after_all l.session (edits_in c.args.edits.now l.start l.place) in
    let u = subst (λ (es : List Edit). IsUnderWay c.args.budget systems es s l.lists l.answers before.written mid.written) (none_left c.args.edits.now l.place (omega arith)) l.invariant.waits.under_way in
    lists_cut c.args.budget systems before mid l.invariant.faults l.invariant.notes s l.lists l.answers u _ (g.K.Sink.device c.print_end_line.new.sink) c.in_err-print_end_line.ensures _ c.from_residual-in_err-print_end_line.ensures.1

pub returns : goal.returns
returns g c =
    let systems = listed_systems c.args.system (map edit_of c.args.edits.now) in
    let before = g.K.Sink.device c.args.sink.now in
    let mid = g.K.Sink.device c.loop-place.sink in
    let l = c.loop-place in
    let s = after_all l.session (edits_in c.args.edits.now l.start l.place) in
    let u = subst (λ (es : List Edit). IsUnderWay c.args.budget systems es s l.lists l.answers before.written mid.written) (none_left c.args.edits.now l.place (omega arith)) l.invariant.waits.under_way in
    lists_ended c.args.budget systems before mid l.invariant.faults l.invariant.notes s l.lists l.answers u _ (g.K.Sink.device c.print_end_line.new.sink) c.in_ok-print_end_line.ensures _
