-- The runs of locals as a loop finds them, one local after another.
use Rattle.std.proofs.Common.{◌≡◌, ℕ, suc, ◌+◌, ◌≤◌, ◌<◌, true, false, List, [], ◌∷◌, ◌++◌, length, drop, get_or}
use Rattle.std.proofs.Common.{drop-cons, add-one, append_assoc, append-nil, refl, sym, ap, ◌∙◌, arith}
use Rattle.std.proofs.lemmas.List.{drop_all}
use Rattle.std.specs.List.{flat_map}
use Rattle.mw_wasm.specs.declared.values.ValType.{ValType}
use Rattle.mw_wasm.specs.BinaryModules.{Run}
use Rattle.mw_encode.specs.Encoding.{run_bytes, same_type, runs_from, runs_of}
use Rattle.mw_encode.proofs.BestLocals.{runs_end, runs_same, runs_other, runs_of_none, runs_of_more}

-- Before the local at this place: so many of this type, and the runs before them are written.
pub record RunsLeft (list : List ValType) (at : ℕ) (kind : ValType) (count before : ℕ) (out old : List ℕ) : Type 0 where
  pub few : count ≤ at
  pub fewer : before ≤ at
  pub number : before + length (runs_from kind count (drop at list)) ≡ length (runs_of list)
  pub bytes : out ++ flat_map run_bytes (runs_from kind count (drop at list)) ≡ old ++ flat_map run_bytes (runs_of list)

first_run : (list : List ValType) (d : ValType) → 0 < length list → runs_from (get_or list 0 d) 1 (drop 1 list)
    ≡ runs_of list
first_run [] d h = absurd (omega arith)
first_run (t ∷ ts) d h = sym (runs_of_more t ts)

pub none_left : (list : List ValType) → length list ≡ 0 → runs_of list ≡ []
none_left [] h = runs_of_none
none_left (t ∷ ts) h = absurd (omega arith)

pub runs_start : (list : List ValType) (d : ValType) (out : List ℕ) → 0 < length list
    → RunsLeft list 1 (get_or list 0 d) 1 0 out out
runs_start list d out h =
    record {
      few = omega arith;
      fewer = omega arith;
      number = rw (first_run list d h) (omega arith);
      bytes =
          rw (first_run list d h) refl;
    }

pub same_step : (list : List ValType) (at : ℕ) (kind d : ValType) (count before : ℕ) (out old : List ℕ)
    → at < length list → same_type kind (get_or list at d) ≡ true
    → RunsLeft list at kind count before out old → RunsLeft list (at + 1) kind (count + 1) before out old
same_step list at kind d count before out old h e r =
    let next : runs_from kind count (drop at list) ≡ runs_from kind (count + 1) (drop (at + 1) list) =
    rw (add-one at) (ap (λ xs. runs_from kind count xs) (drop-cons list at d h) ∙ runs_same kind (get_or list at d)
    count (drop (suc at) list) e) in
    let few = r.few in let fewer = r.fewer in
    record { few = omega arith; fewer = omega arith; number = rw (← next) r.number; bytes = rw (← next) r.bytes }

pub other_step : (list : List ValType) (at : ℕ) (kind d : ValType) (count before : ℕ) (out more old : List ℕ)
    → at < length list → same_type kind (get_or list at d) ≡ false
    → more ≡ out ++ run_bytes (record { count = count; kind = kind }) → 1 ≤ at
    → RunsLeft list at kind count before out old → RunsLeft list (at + 1) (get_or list at d) 1 (before + 1) more old
other_step list at kind d count before out more old h e m one r =
    let this : Run = record { count = count; kind = kind } in
    let left : List Run = runs_from (get_or list at d) 1 (drop (at + 1) list) in
    let next : runs_from kind count (drop at list) ≡ record { count = count; kind = kind }
    ∷ runs_from (get_or list at d) 1 (drop (at + 1) list) =
    rw (add-one at) (ap (λ xs. runs_from kind count xs) (drop-cons list at d h) ∙ runs_other kind (get_or list at d)
    count (drop (suc at) list) e) in
    let few = r.few in let fewer = r.fewer in
    let n : before
    + length (record { count = count; kind = kind } ∷ runs_from (get_or list at d) 1 (drop (at + 1) list))
    ≡ length (runs_of list) = rw next at r.number in
    let w : out ++ (run_bytes (record { count = count; kind = kind }) ++ flat_map run_bytes
    (runs_from (get_or list at d) 1 (drop (at + 1) list))) ≡ old ++ flat_map run_bytes (runs_of list) =
    rw next at r.bytes in
    record { few = omega arith; fewer = omega arith; number = omega arith; bytes = rw (m, append_assoc) w }

last_run : (list : List ValType) (at : ℕ) (kind : ValType) (count : ℕ) → length list ≤ at
    → runs_from kind count (drop at list) ≡ record { count = count; kind = kind } ∷ []
last_run list at kind count h = ap (λ xs. runs_from kind count xs) (drop_all at list h) ∙ runs_end kind count

pub runs_number : (list : List ValType) (at : ℕ) (kind : ValType) (count before : ℕ) (out old : List ℕ)
    → length list ≤ at → RunsLeft list at kind count before out old → before + 1 ≡ length (runs_of list)
runs_number list at kind count before out old h r = rw (last_run list at kind count h) at r.number

pub runs_bytes : (list : List ValType) (at : ℕ) (kind : ValType) (count before : ℕ) (out more old : List ℕ)
    → length list ≤ at → more ≡ out ++ run_bytes (record { count = count; kind = kind })
    → RunsLeft list at kind count before out old → more ≡ old ++ flat_map run_bytes (runs_of list)
runs_bytes list at kind count before out more old h m r =
    let w : out ++ (run_bytes (record { count = count; kind = kind }) ++ []) ≡ old ++ flat_map run_bytes
    (runs_of list) = rw (last_run list at kind count h) at r.bytes in
    m ∙ (ap (λ x. out ++ x) (sym (append-nil (run_bytes (record { count = count; kind = kind })))) ∙ w)
