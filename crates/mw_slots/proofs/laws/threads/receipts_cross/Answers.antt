use Rattle.mw_slots.proofs.SendSync.{receipt_send, receipt_sync, receipts_send, receipts_sync}
use Rattle.mw_slots.specs.contracts.laws.threads.receipts_cross.{E-row}
use Rattle.mw_slots.proofs.laws.threads.receipts_cross.Goals as goal

pub returns-clause-send : goal.returns-clause-send
returns-clause-send g c = receipt_send (E-row g.row.E)

pub returns-clause-sync : goal.returns-clause-sync
returns-clause-sync g c = receipt_sync (E-row g.row.E)

pub returns-clause-list_send : goal.returns-clause-list_send
returns-clause-list_send g c = receipts_send (E-row g.row.E)

pub returns-clause-list_sync : goal.returns-clause-list_sync
returns-clause-list_sync g c = receipts_sync (E-row g.row.E)
