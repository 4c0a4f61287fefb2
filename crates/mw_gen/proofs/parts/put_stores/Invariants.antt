use Rattle.std.proofs.Common.{◌≡◌, ◌+◌, ◌<◌, ◌++◌, length, drop, map}
use Rattle.mw_wasm.specs.Views.{instruction_of}
use Rattle.std.specs.List.{AllByRecursion}
use Rattle.mw_gen.specs.Listing.{IsShortPlace, stores_list}
use Rattle.mw_gen.proofs.parts.put_stores.Given as goal

abbrev pub invariant-loop-place : goal.invariant-loop-place
invariant-loop-place l = (l.word ≡ l.place-index + 1) × (length l.list < 1000000) × AllByRecursion IsShortPlace
    (drop l.place-index l.list)
    × (map instruction_of l.out.inner.items ++ stores_list (drop l.place-index l.list) l.word l.base
    ≡ map instruction_of l.fn.out.inner.items ++ stores_list l.list 1 l.base)
