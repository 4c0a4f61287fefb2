-- The module of a loaded record may be shared with other threads, where valid modules may.
use denote.Param.Send.{IsSend, IsSync, sendable}
use Rattle.std.proofs.Crossing.{crosses}
use Rattle.once_cell.proofs.race.once_box.OnceBox.TheSendSync as once
use Rattle.mw_validate.specs.contracts.valid_module.Valid as Valid
use Rattle.mw_store.specs.contracts.loaded.Decoded as Decoded
use Rattle.mw_store.specs.contracts.loaded.LoadedModule as LoadedModule

decoded_send : IsSend Valid.the_row → IsSync Valid.the_row → IsSend Decoded.the_row
decoded_send s y = search (sendable, crosses) depth 40

decoded_sync : IsSend Valid.the_row → IsSync Valid.the_row → IsSync Decoded.the_row
decoded_sync s y = search (sendable, crosses) depth 40

pub loaded_sync : IsSend Valid.the_row → IsSync Valid.the_row → IsSync LoadedModule.the_row
loaded_sync s y =
    let send = decoded_send s y in let sync = decoded_sync s y in search (once.the_sync, sendable, crosses) depth 40
