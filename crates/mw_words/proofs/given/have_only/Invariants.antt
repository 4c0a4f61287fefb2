use Rattle.std.proofs.Common.{map, List, length}
use Rattle.std.specs.String.{string_bytes}
use Rattle.mw_words.specs.Words.{PurePart, HaveOnly, word_in}
use Rattle.mw_words.proofs.ReadParts.{Passes}
use Rattle.mw_words.proofs.given.have_only.Given as goal

-- parts have been read, and each option among them is one of these
abbrev pub invariant-loop-rest : goal.invariant-loop-rest
invariant-loop-rest l = (read : List PurePart) × (Passes (map string_bytes l.fn.words) read
    (map string_bytes l.rest) × HaveOnly (map word_in l.fn.options) read)

abbrev pub decreases-loop-rest : goal.decreases-loop-rest
decreases-loop-rest l = length l.rest
