-- Receipts, and what is answered where there is no room, go to other threads where their parts do.
use denote.RattleType.{RattleType}
use denote.Param.Send.{IsSend, IsSync, sendable}
use Rattle.std.proofs.Crossing.{crosses}
use Rattle.once_cell.proofs.race.once_box.OnceBox.TheSendSync as once
use Rattle.mw_slots.proofs.witness.Witness.TheSendSync as witness
use Rattle.mw_slots.specs.contracts.receipt.Receipt as Receipt
use Rattle.mw_slots.specs.contracts.receipt.Receipts as Receipts
use Rattle.mw_slots.specs.contracts.refused.NoRoom as NoRoom
use Rattle.mw_slots.specs.contracts.table.Table as Table

pub receipt_send : (E : RattleType) → IsSend (Receipt.the_row E)
receipt_send E = search (witness.the_send, sendable, crosses) depth 40

pub receipt_sync : (E : RattleType) → IsSync (Receipt.the_row E)
receipt_sync E = search (witness.the_sync, sendable, crosses) depth 40

pub receipts_send : (E : RattleType) → IsSend (Receipts.the_row E)
receipts_send E = search (receipt_send, sendable, crosses) depth 40

pub receipts_sync : (E : RattleType) → IsSync (Receipts.the_row E)
receipts_sync E = search (receipt_sync, sendable, crosses) depth 40

pub no_room_send : (E : RattleType) → IsSend E → IsSync E → IsSend (NoRoom.the_row E)
no_room_send E a b = search (receipts_send, sendable, crosses) depth 40

pub no_room_sync : (E : RattleType) → IsSend E → IsSync E → IsSync (NoRoom.the_row E)
no_room_sync E a b = search (receipts_sync, sendable, crosses) depth 40

pub table_sync : (E : RattleType) → IsSend E → IsSync E → IsSync (Table.the_row E)
table_sync E a b = search (once.the_sync, sendable, crosses) depth 40
