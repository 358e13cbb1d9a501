use denote.Param.Send.{sendable}
use Rattle.std.proofs.Crossing.{crosses}
use Rattle.mcs_wire.proofs.Sending.{letter_send, address_send, inbox_send}
use Rattle.mcs_wire_tests.proofs.threads.four_send.Goals as goal

pub join-address-requires-send-F : goal.join-address-requires-send-F
join-address-requires-send-F g c κs within = search (c.type_bounds.sync-R, address_send, inbox_send, letter_send, crosses, sendable) depth 60 fits 20000

pub join-address-requires-send-A : goal.join-address-requires-send-A
join-address-requires-send-A g c κs within = search (address_send, crosses, sendable) depth 60 fits 20000
