-- Where a module is goes to other threads, and a cache may be shared with them, where entries may.
use denote.Param.Send.{IsSend, IsSync, sendable, shr_sync, view_sync}
use denote.Param.SendFields.{as_row_sync, declared_sync, variants_send, variants_sync}
use denote.Ref.{NamedLft}
use denote.RattleType.{RattleType}
use Rattle.std.proofs.Crossing.{Vec-sync}
use Rattle.std.specs.contracts.alloc.Global as Heap
use Rattle.std.specs.contracts.impls.GlobalAllocator.TheImpl.{ghosts}
use Rattle.std.specs.contracts.vec.Vec as Vec
use denote.Builtin.{u8}
use denote.Struct.Field.{row_field}
use Rattle.std.specs.declared.cmp.PartialEq as PartialEq
use Rattle.std.specs.declared.hash.Hash as Hash
use Rattle.std.specs.declared.hash.Hasher as Hasher
use Rattle.std.specs.declared.hash.BuildHasher as BuildHasher
use Rattle.std.specs.contracts.hash.BuildHasherDefault as Build
use Rattle.std.specs.contracts.hash.FoldHasher as Fold
use Rattle.indexmap.specs.contracts.columns.Columns as Columns
use Rattle.indexmap.specs.contracts.index_table.IndexTable as IndexTable
use Rattle.indexmap.specs.contracts.index_table.Bucket as Bucket
use Rattle.indexmap.specs.contracts.index_table.group.Group as Group
use Rattle.indexmap.specs.contracts.map.IndexMap as IndexMap
use Rattle.mw_validate.specs.contracts.valid_module.Valid as Valid
use Rattle.mw_compile.specs.contracts.entry.Entry as Entry
use Rattle.mw_slots.proofs.SendSync.{receipt_send, receipt_sync, no_room_send, no_room_sync, table_sync}
use Rattle.mw_cache.specs.contracts.cache.Cache as Cache
use Rattle.mw_cache.specs.contracts.got.Got as Got
use Rattle.mw_store.specs.contracts.load.Load as Load
use Rattle.mw_store.specs.contracts.loaded.LoadedModule as LoadedModule
use Rattle.mw_store.proofs.SendSync.{loaded_sync}

pub got_send : IsSend Entry.the_row → IsSync Entry.the_row → IsSend Got.the_row
got_send a b = variants_send Got.enum (
  (search (sendable) depth 10, tt),
  (
    (receipt_send Entry.the_row, tt),
    ((no_room_send Entry.the_row a b, tt), tt),
  ),
)

pub got_sync : IsSend Entry.the_row → IsSync Entry.the_row → IsSync Got.the_row
got_sync a b = variants_sync Got.enum (
  (search (sendable) depth 10, tt),
  (
    (receipt_sync Entry.the_row, tt),
    ((no_room_sync Entry.the_row a b, tt), tt),
  ),
)

pub cache_sync : IsSend Entry.the_row → IsSync Entry.the_row → IsSync Load.the_row → (a : NamedLft)
    → IsSync (Cache.the_row a)
cache_sync s y l a =
    let t = table_sync Entry.the_row s y in
    let inside : IsSync (Cache.TheInside.the_row a) = declared_sync (Cache.TheInside.the_type a)
    (search (t, shr_sync, sendable) depth 20, (l, tt)) in
    search (inside, view_sync) depth 20

group_sync : IsSync Group.the_row
group_sync = declared_sync Group.the_type (search sendable, (search sendable, tt))

bucket_sync : IsSync Bucket.the_row
bucket_sync = declared_sync Bucket.the_type (search sendable, (search sendable, tt))

columns_sync : (K V : RattleType) → IsSync K → IsSync V → IsSync (Columns.the_row K V Heap.the_row ghosts)
columns_sync K V k v =
    let inside : IsSync (Columns.TheInside.the_row K V Heap.the_row ghosts) = declared_sync
    (Columns.TheInside.the_type K V Heap.the_row ghosts) (Vec-sync K k, (Vec-sync V v, tt)) in
    search (inside, view_sync) depth 20

places_sync : IsSync (IndexTable.the_row Heap.the_row ghosts)
places_sync =
    let inside : IsSync (IndexTable.TheInside.the_row Heap.the_row ghosts) = declared_sync
    (IndexTable.TheInside.the_type Heap.the_row ghosts) (
      Vec-sync Group.the_row group_sync,
      (Vec-sync Bucket.the_row bucket_sync, (search sendable, tt)),
    ) in
    search (inside, view_sync) depth 20

map_sync : (K V S H : RattleType) (e : PartialEq.Ghosts K.Denot) (h : Hash.Ghosts K.Denot)
    (b : BuildHasher.Ghosts S.Denot H.Denot) (r : Hasher.Ghosts H.Denot)
    → IsSync K → IsSync V → IsSync S → IsSync (IndexMap.the_row K V S Heap.the_row H e h b r ghosts)
map_sync K V S H e h b r k v s =
    let inside : IsSync (IndexMap.TheInside.the_row K V S Heap.the_row H e h b r ghosts) = declared_sync
    (IndexMap.TheInside.the_type K V S Heap.the_row H e h b r ghosts)
    (columns_sync K V k v, (places_sync, (as_row_sync (row_field S) s, tt))) in
    search (inside, view_sync) depth 20

hasher_sync : IsSync (Build.the_row Fold.the_row)
hasher_sync =
    let hasher : IsSync Fold.the_row = search sendable depth 20 in
    declared_sync (Build.the_type Fold.the_row) (as_row_sync (row_field Fold.the_row) hasher, tt)

pub load_sync : IsSend Valid.the_row → IsSync Valid.the_row → IsSync Load.the_row
load_sync s y =
    let text : IsSync (Vec.the_row u8 Heap.the_row ghosts) = Vec-sync u8 (search sendable) in
    let inside : IsSync Load.TheInside.the_row = declared_sync Load.TheInside.the_type (
      map_sync (Vec.the_row u8 Heap.the_row ghosts) LoadedModule.the_row
          (Build.the_row Fold.the_row) Fold.the_row _ _ _ _ text (loaded_sync s y) hasher_sync,
      (search sendable, tt),
    ) in
    search (inside, view_sync) depth 20
