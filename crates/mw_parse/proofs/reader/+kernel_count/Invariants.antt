use Rattle.std.proofs.Common.{length}
use Rattle.mw_parse.proofs.reader.+kernel_count.Given as goal

abbrev pub decreases-kernel_count : goal.decreases-kernel_count
decreases-kernel_count l = length l.items.now
