use Rattle.std.proofs.Common.{◌≡◌, map, option_map, option_to_list, List, length}
use Rattle.std.specs.String.{string_bytes}
use Rattle.mw_words.specs.Words.{PurePart, parts_named, word_in}
use Rattle.mw_words.specs.Gathered.{part_in}
use Rattle.mw_words.proofs.ReadParts.{Passes}
use Rattle.mw_words.proofs.given.only_part.Given as goal

-- parts have been read, and of this name the one that was found
abbrev pub invariant-loop-rest : goal.invariant-loop-rest
invariant-loop-rest l =
    (read : List PurePart) × (Passes (map string_bytes l.fn.words) read (map string_bytes l.rest)
    × (parts_named (option_map word_in l.fn.name) read ≡ option_to_list (option_map part_in l.found)))

abbrev pub decreases-loop-rest : goal.decreases-loop-rest
decreases-loop-rest l = length l.rest
