use Rattle.std.proofs.Common.{◌≡◌, ◌∙◌, ◌<◌, length, map, vec_len, codes, true, nat_eq, sym, ap}
use Rattle.std.proofs.lemmas.List.{length-map}
use Rattle.std.proofs.lemmas.Result.{on_ok_weaker}
use Rattle.mcs_base.proofs.Each.{all_right}
use Rattle.mcs_system.specs.Plain.{Read}
use Rattle.mcs_system.specs.Seen.{read_of, bridge_of}
use Rattle.mcs_system.specs.Texts.{belief_text}
use Rattle.mcs_writer.specs.Canonical.{denied, joined_by, marks_text, head_place, if_word}
use Rattle.mcs_system.specs.Faults.{reads_of}
use Rattle.mcs_writer.proofs.WriterLemmas.{images_first, regrouped}
use Rattle.mcs_writer.proofs.writer.push_bridge.Goals as goal

pub push_reads-requires-2 : goal.push_reads-requires-2
push_reads-requires-2 c = rw c.deref-2.ensures.value (all_right (λ (r : Read). r.context < length c.args.system.now.contexts) (map read_of c.args.bridge.now.pos.items) (map read_of c.args.bridge.now.neg.items) c.requires.reads)

pub returns : goal.returns
returns c =
    let m = c.args.system.now in
    let b = c.args.bridge.now in
    let rule = bridge_of b in
    let len : vec_len b.pos ≡ length (map read_of b.pos.items) = sym c.deref.ensures.len ∙ ap length c.deref.ensures.value ∙ sym (length-map b.pos.items read_of) in
    let reads = images_first (belief_text m) (map read_of b.pos.items) (map (λ (r : Read). denied (belief_text m r)) (map read_of b.neg.items)) in
    on_ok_weaker c.push-5.result
    (λ e. e ∙ rw (c.in_ok-push_reads-2.ensures, c.in_ok-push_reads.ensures, c.in_ok-push-4.ensures.ok, c.in_ok-push_belief.ensures, c.in_ok-push-3.ensures.ok, c.in_ok-push_marks.ensures, c.in_ok-push-2.ensures.ok, c.in_ok-push.ensures.ok, c.bytes.ensures.value, c.if_word.ensures, c.is_empty.ensures, len, c.deref.ensures.value, c.deref-2.ensures.value, reads)
    (regrouped c.args.text.now (codes "bridge ") b.name (marks_text rule) (codes ": ") (belief_text m (head_place rule)) (if_word (reads_of rule))
    (joined_by (codes ", ") true (map (belief_text m) rule.pos)) (joined_by (codes ", ") (nat_eq (length rule.pos) 0) (map (λ (r : Read). denied (belief_text m r)) rule.neg)) (codes ".\n")))
    c.push-5.ensures.ok
