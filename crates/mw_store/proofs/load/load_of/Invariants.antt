use Rattle.std.proofs.Common.{◌≡◌, ◌-◌, ◌+◌, ◌≤◌, false, length, if◌then◌else◌}
use Rattle.mw_store.specs.Loading.{IsLoadedTo, NoneBegins}
use Rattle.mw_store.proofs.load.load_of.Given as goal

abbrev pub invariant-loop-more : goal.invariant-loop-more
invariant-loop-more l = record {
  loaded : IsLoadedTo l.bytes l.load;
  within : l.load.good ≤ length l.bytes;
  last : l.more ≡ false → NoneBegins l.bytes l.load.good;
}

abbrev pub decreases-loop-more : goal.decreases-loop-more
decreases-loop-more l = (length l.bytes - l.load.good) + (if l.more then 1 else 0)
