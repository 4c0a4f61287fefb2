use Rattle.std.proofs.Common.{◌≡◌, ◌≤◌, ◌-◌, min, subst, ℕ, List, [], ◌∷◌, length, take, drop, ap, sym, ◌∙◌, ◌++◌}
use Rattle.std.proofs.Common.{append-nil, append_assoc, length-append, length-take, arith}
use Rattle.std.proofs.Math.Seq.{drop-append_seam}
use Rattle.std.proofs.lemmas.List.{drop_all, take-append-le}
use Rattle.mw_outside.proofs.reading.read_up_to.Goals as goal

-- what was taken, and the rest
after_most : (whole items rest : List ℕ) (len most : ℕ) → len ≡ length items → len ≤ most → most ≤ len → whole ≡ items
    ++ rest → rest ≡ drop most whole
after_most whole items rest len most e low high h =
    let same : most ≡ length items = omega arith in
    sym (drop-append_seam items rest) ∙ ap (λ (n : ℕ). drop n (items ++ rest)) (sym same) ∙ ap (drop most) (sym h)

nothing_after : (front rest : List ℕ) → front ++ rest ≡ [] → rest ≡ []
nothing_after [] rest e = e
nothing_after (x ∷ front) rest e = absurd (cc)

-- the same, where the rest was read to its end
after_all : (whole items rest new piece : List ℕ) (count len most : ℕ) → len ≡ length items → len ≤ most → whole ≡ items
    ++ rest → rest ≡ [] → rest ≡ take count piece ++ new → new ≡ drop most whole
after_all whole items rest new piece count len most e low h none read =
    let all : whole ≡ items = h ∙ ap (λ (r : List ℕ). items ++ r) none ∙ append-nil items in
    nothing_after (take count piece) new (sym read ∙ none) ∙ sym (drop_all most whole (omega (arith, ap length all)))

-- a part of the piece was moved from the rest to what was taken
moved_on : (whole items rest new piece : List ℕ) (count : ℕ) → whole ≡ items ++ rest → rest ≡ take count piece ++ new
    → whole ≡ (items ++ take count piece) ++ new
moved_on whole items rest new piece count h read = rw append_assoc (h ∙ ap (λ (r : List ℕ). items ++ r) read)

-- a piece has no more room than is left to the most
fits_most : (items into piece : List ℕ) (count len again room most : ℕ) → len ≡ length items → len ≤ most → again ≡ len
    → room ≡ min 4096 (most - again) → length into ≡ length (take room piece) → length (items ++ take count into) ≤ most
fits_most items into piece count len again room most e low f g h =
    omega (arith, length-append items (take count into), length-take count into, length-take room piece)

pub returns-in_err-count-clause-rest : goal.returns-in_err-count-clause-rest
returns-in_err-count-clause-rest g c = λ tells.
    let items : List ℕ = c.loop-piece.taken.items in (
      items,
      subst (λ (n : ℕ). n ≤ c.args.most) c.loop-piece.taken.ok.0 c.loop-piece.invariant.bound,
      c.loop-piece.invariant.moved tells ∙ ap (λ (rest : List ℕ). items ++ rest)
          (sym (c.in_err-count.ensures.still_left tells)),
    )

pub returns-in_err-extend_from_slice-clause-rest : goal.returns-in_err-extend_from_slice-clause-rest
returns-in_err-extend_from_slice-clause-rest g c = λ tells.
    let items : List ℕ = c.loop-piece.taken.items in
    let moved = moved_on _ items _ _ c.read.new.into c.in_ok-count.count (c.loop-piece.invariant.moved tells)
    (c.in_ok-count.ensures.moved tells) in (
      items ++ take c.in_ok-count.count c.read.new.into,
      fits_most items c.read.new.into c.loop-piece.piece
          c.in_ok-count.count _ _ _ _ c.loop-piece.taken.ok.0 c.loop-piece.invariant.bound c.len-in-loop-piece.ensures
          c.min-room.ensures c.read.auto.into,
      moved,
    )

pub returns-then-count-eq0-clause-rest : goal.returns-then-count-eq0-clause-rest
returns-then-count-eq0-clause-rest g c = λ tells.
    let items : List ℕ = c.loop-piece.taken.items in
    let moved = moved_on _ items _ _ c.read.new.into c.in_ok-count.count (c.loop-piece.invariant.moved tells)
    (c.in_ok-count.ensures.moved tells) in (
      items ++ take c.in_ok-count.count c.read.new.into,
      fits_most items c.read.new.into c.loop-piece.piece
          c.in_ok-count.count _ _ _ _ c.loop-piece.taken.ok.0 c.loop-piece.invariant.bound c.len-in-loop-piece.ensures
          c.min-room.ensures c.read.auto.into,
      moved,
    )

pub returns-clause-rest : goal.returns-clause-rest
returns-clause-rest g c = λ tells. (
  c.loop-piece.taken.items,
  subst (λ (n : ℕ). n ≤ c.args.most) c.loop-piece.taken.ok.0 c.loop-piece.invariant.bound,
  c.loop-piece.invariant.moved tells,
)

pub returns-clause-left : goal.returns-clause-left
returns-clause-left g c = λ tells.
    after_most _ c.loop-piece.taken.items _ _ _ c.loop-piece.taken.ok.0 c.loop-piece.invariant.bound
    (subst (λ (n : ℕ). c.args.most ≤ n) c.len.ensures c.loop-piece-test.false) (c.loop-piece.invariant.moved tells)

pub returns-then-count-eq0-clause-left : goal.returns-then-count-eq0-clause-left
returns-then-count-eq0-clause-left g c = λ tells.
    after_all _ c.loop-piece.taken.items _ _ c.read.new.into c.in_ok-count.count _ _ c.loop-piece.taken.ok.0
    c.loop-piece.invariant.bound (c.loop-piece.invariant.moved tells)
    (c.in_ok-count.ensures.end tells c.if-count-eq0.true) (c.in_ok-count.ensures.moved tells)

pub loop-piece-preserved : goal.loop-piece-preserved
loop-piece-preserved g c =
    let into : List ℕ = c.read.new.into in
    let count : ℕ = c.in_ok-count.count in
    let rest : List ℕ = drop c.min-room.result c.loop-piece.piece in
    let taken : List ℕ = c.loop-piece.taken.items in
    let same : take count (into ++ rest) ≡ take count into =
    take-append-le count into rest c.in_ok-count.ensures.bound in
    let items : c.extend_from_slice.new.self.items ≡ taken ++ take count into = c.in_ok-extend_from_slice.ensures.items
    ∙ ap (λ (part : List ℕ). taken ++ part) same in
    record {
      bound = rw (c.extend_from_slice.new.self.ok.0, items)
          (fits_most taken c.read.new.into c.loop-piece.piece c.in_ok-count.count _ _ _ _ c.loop-piece.taken.ok.0
          c.loop-piece.invariant.bound c.len-in-loop-piece.ensures c.min-room.ensures c.read.auto.into);
      moved = λ tells.
          rw items (moved_on _ taken _ _ into count (c.loop-piece.invariant.moved tells)
          (c.in_ok-count.ensures.moved tells));
      ready = c.read.ensures.still_ready;
      same_files = c.read.ensures.same_files ∙ c.loop-piece.invariant.same_files;
      count = c.in_ok-count.ensures.same_count ∙ c.loop-piece.invariant.count;
    }
