use denote.Exit.{no}
use denote.Param.Send.{arg_send, param_send, shr_send}
use Rattle.std.proofs.Crossing as heap
use Rattle.mcs_crew.proofs.Threads.{draw_sync, flag_sync, load_send, seven_send, workforce_sync}
use Rattle.mcs_crew.proofs.child.start.Goals as goal

pub spawn_with-requires-send-F : goal.spawn_with-requires-send-F
spawn_with-requires-send-F g c κs within = param_send 2 _ (arg_send _ no _ (seven_send _ _ _ _ _ _ _ _
    (shr_send _ _ _ c.type_bounds.sync-R)
    heap.send
    (shr_send _ _ _ draw_sync)
    (shr_send _ _ _ c.type_bounds.sync-G)
    (shr_send _ _ _ workforce_sync)
    (shr_send _ _ _ flag_sync)
    (load_send _ g.O.Oracle c.type_bounds.send-O)))

pub spawn_with-requires-send-T : goal.spawn_with-requires-send-T
spawn_with-requires-send-T g c κs within = param_send 3 _ (arg_send _ no _ (load_send _ g.O.Oracle c.type_bounds.send-O))
