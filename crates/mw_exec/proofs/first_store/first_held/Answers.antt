use Rattle.mw_exec.proofs.FirstStores.{begun}
use Rattle.mw_exec.proofs.first_store.first_held.Goals as goal

pub returns-clause-store : goal.returns-clause-store
returns-clause-store c =
    begun c.args.wasm.now record {
      globals = c.in_ok-globals.globals;
      table = c.place_elements.new.table;
      bytes =
          c.place_segments.new.bytes;
      pages = c.first_pages.result;
    }
    _ _ _ _ _ c.as_slice.ensures c.in_ok-globals.ensures c.as_slice-2.ensures c.in_ok-table.ensures
    c.place_elements.ensures c.as_slice-3.ensures c.new-bytes.ensures.items c.in_ok-place_segments.ensures.placed
    c.first_pages.ensures
