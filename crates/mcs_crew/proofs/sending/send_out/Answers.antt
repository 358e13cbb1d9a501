use Rattle.std.proofs.Common.{◌≡◌, ◌%◌, length, get_or, slice_get, Some, rules}
use Rattle.std.proofs.lemmas.Option.{slice_get-get_or}
use Rattle.mcs_wire.specs.Ends.{AddressData}
use Rattle.mcs_crew.proofs.SendSteps.{fewer, have_sent, may_name, may_send, sending_begun, sending_more, sent_out}
use Rattle.mcs_crew.proofs.sending.send_out.Goals as goal

pub loop-letter-init : goal.loop-letter-init
loop-letter-init g c = sending_begun c.args.node.now c.args.addresses.now

-- ---- the letter
pub send-requires-clause-sent : goal.send-requires-clause-sent
send-requires-clause-sent g c =
    let ps = c.loop-letter.addresses in
    let group = c.to.result % length ps in
    let a : AddressData = get_or ps group c.index-addresses-group.result in
    let at : slice_get ps group ≡ Some a = slice_get-get_or ps group c.index-addresses-group.result (search rules) in
    may_send c.args.node.now c.loop-letter.node c.next_out.new.self c.args.addresses.now ps c.loop-letter.invariant c.in-Some.letter c.in-Some.ensures group a at c.requires.few

pub send-requires-clause-plan : goal.send-requires-clause-plan
send-requires-clause-plan g c =
    let ps = c.loop-letter.addresses in
    let group = c.to.result % length ps in
    let a : AddressData = get_or ps group c.index-addresses-group.result in
    let at : slice_get ps group ≡ Some a = slice_get-get_or ps group c.index-addresses-group.result (search rules) in
    may_name c.args.node.now c.loop-letter.node c.next_out.new.self c.args.addresses.now ps c.loop-letter.invariant c.in-Some.letter c.in-Some.ensures group a at c.requires.named

pub loop-letter-smaller : goal.loop-letter-smaller
loop-letter-smaller g c = fewer c.args.node.now c.loop-letter.node c.next_out.new.self c.args.addresses.now c.loop-letter.addresses c.loop-letter.invariant c.in-Some.letter c.in-Some.ensures

pub loop-letter-preserved : goal.loop-letter-preserved
loop-letter-preserved g c =
    let ps = c.loop-letter.addresses in
    let group = c.to.result % length ps in
    let a : AddressData = get_or ps group c.index-addresses-group.result in
    let at : slice_get ps group ≡ Some a = slice_get-get_or ps group c.index-addresses-group.result (search rules) in
    sending_more c.args.node.now c.loop-letter.node c.next_out.new.self c.args.addresses.now ps c.loop-letter.invariant c.in-Some.letter c.in-Some.ensures group a at c.send.new.self c.send.ensures

-- ---- none is left
pub returns-clause-out : goal.returns-clause-out
returns-clause-out g c = sent_out c.args.node.now c.loop-letter.node c.next_out.new.self c.args.addresses.now c.loop-letter.addresses c.loop-letter.invariant c.in_default.ensures.0 c.in_default.ensures.1

pub returns-clause-sent : goal.returns-clause-sent
returns-clause-sent g c = have_sent c.args.node.now c.loop-letter.node c.next_out.new.self c.args.addresses.now c.loop-letter.addresses c.loop-letter.invariant c.in_default.ensures.0 c.in_default.ensures.1
