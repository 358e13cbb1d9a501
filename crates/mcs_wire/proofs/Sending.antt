-- What may go to another thread: plans, letters, addresses and inboxes.
use denote.Param.Send.{IsSend, IsSync, sendable}
use Rattle.std.proofs.Crossing.{crosses}
use Rattle.atomic_table.proofs.badge.Badge.TheSendSync as badge
use Rattle.atomic_table.proofs.owned.Table.TheSendSync as table
use Rattle.atomic_table.proofs.shared.Seat.TheSendSync as seat
use Rattle.atomic_table.proofs.shared.Shared.TheSendSync as shared
use Rattle.crossbeam_channel.proofs.bells.Bell.TheSendSync as bell
use Rattle.crossbeam_channel.proofs.flavors.array.Doing.TheSendSync as doing
use Rattle.crossbeam_channel.proofs.flavors.array.Key.TheSendSync as key
use Rattle.crossbeam_channel.proofs.flavors.array.Rows.TheSendSync as rows
use Rattle.crossbeam_channel.proofs.flavors.array.ruled.Both.TheSendSync as both
use Rattle.crossbeam_channel.proofs.flavors.array.ruled.Receiving.TheSendSync as receiving
use Rattle.crossbeam_channel.proofs.flavors.array.ruled.Sending.TheSendSync as sending
use Rattle.mcs_system.proofs.formula.Formula.TheLaws.TheKnot as formula
use Rattle.mcs_import.specs.contracts.plan.Plan as plan
use Rattle.mcs_node.specs.contracts.letter.Letter as letter
use Rattle.mcs_wire.specs.contracts.address.Address as address
use Rattle.mcs_wire.specs.contracts.inbox.Inbox as inbox

pub plan_send : IsSend plan.the_row
plan_send = search (crosses, formula.crosses, sendable) depth 60 fits 20000

pub plan_sync : IsSync plan.the_row
plan_sync = search (crosses, formula.crosses, sendable) depth 60 fits 20000

pub letter_send : IsSend letter.the_row
letter_send = search (plan_send, plan_sync, crosses, sendable) depth 60 fits 20000

pub letter_sync : IsSync letter.the_row
letter_sync = search (plan_send, plan_sync, crosses, sendable) depth 60 fits 20000

ruleset channel = (
  letter_send,
  letter_sync,
  badge.the_send,
  table.the_field_send,
  table.the_send,
  table.the_field_sync,
  table.the_sync,
  seat.the_send,
  shared.the_send,
  shared.the_sync,
  bell.the_field_send,
  bell.the_send,
  bell.the_field_sync,
  bell.the_sync,
  doing.the_field_send,
  doing.the_send,
  key.the_field_send,
  key.the_send,
  key.the_field_sync,
  key.the_sync,
  rows.the_field_send,
  rows.the_send,
  rows.the_field_sync,
  rows.the_sync,
  both.the_field_send,
  both.the_send,
  both.the_field_sync,
  both.the_sync,
  receiving.the_field_send,
  receiving.the_send,
  sending.the_field_send,
  sending.the_send,
)

pub address_send : IsSend address.the_row
address_send = search (channel, crosses, sendable) depth 60 fits 20000

pub inbox_send : IsSend inbox.the_row
inbox_send = search (channel, crosses, sendable) depth 60 fits 20000
