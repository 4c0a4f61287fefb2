-- Bytes that grow by one part of a piece after another.
use Rattle.std.proofs.Common.{ℕ, List, ◌≡◌, ◌+◌, ◌-◌, ◌++◌, length, take, drop, append_assoc}
use Rattle.std.proofs.Math.Seq.{take-add}
use Rattle.std.proofs.lemmas.List.{take_rest}

-- a front of a piece and then a front of its rest are a longer front
pub longer_front : (old middle new piece : List ℕ) (done count : ℕ) → middle ≡ old ++ take done piece → new ≡ middle
    ++ take count (take (length piece - done) (drop done piece)) → new ≡ old ++ take (done + count) piece
longer_front old middle new piece done count before here =
    rw (here, before, take_rest piece done, take-add done count piece, append_assoc)
