-- Readers of lists, as loops read them.
use Rattle.std.proofs.Common.{◌≡◌, ℕ, suc, ◌+◌, ◌-◌, ◌<◌, ◌≤◌, List, [], ◌∷◌, ◌++◌, refl, ap, sym, ◌∙◌, arith}
use Rattle.std.proofs.Common.{append_assoc, Option, Some, None}
use Rattle.std.proofs.lemmas.List.{append-nil}
use Rattle.mw_wasm.specs.declared.values.ValType.{ValType}
use Rattle.mw_wat.specs.Tokens.{PureToken}
use Rattle.mw_wat.specs.Lexing.{Tokens, stop, token}
use Rattle.mw_wat.specs.Reading.{Read, got, bad, Reader, count, and_then, one_more, some_of, in_front, all_of}
use Rattle.mw_wat.specs.Reading.{value_type, closing, types_and_close}
use Rattle.mw_wasm.specs.Syntax.{Instruction, br_table}
use Rattle.mw_wat.specs.Cursors.{next, joined}
use Rattle.mw_wat.specs.Parts.{branches}
use Rattle.mw_wat.proofs.CursorReaders.{next_is, peek_ended}

pub next_shorter : (ts : Tokens) (t : PureToken) (rest : Tokens) → next ts ≡ got t rest → count rest < count ts
next_shorter ts t rest e =
    let n = next_is ts t rest e in
    let c : count ts ≡ suc (count rest) = ap count n.1 in
    omega arith

module _ {A : Type 0} (means : PureToken → Option A) (front : List A) (ts : Tokens) (t : PureToken) (rest : Tokens)
    (total : Read (List A)) where
  with_one : (x : A) (r : Read (List A)) → joined front (in_front x r) ≡ joined (front ++ x ∷ []) r
  with_one x (got xs us) = ap (λ ys. got ys us) (sym (append_assoc front (x ∷ []) xs))
  with_one x (bad us) = refl

  pub all_more : (x : A) → next ts ≡ got t rest → means t ≡ Some x → joined front (all_of means ts) ≡ total
      → joined (front ++ x ∷ []) (all_of means rest) ≡ total
  all_more x e m so_far =
      let n = next_is ts t rest e in
      let one : all_of means ts ≡ in_front x (all_of means rest) = rw (n.1, m) refl in
      sym (with_one x (all_of means rest)) ∙ (sym (ap (joined front) one) ∙ so_far)

  pub all_done : next ts ≡ got t rest → means t ≡ None → joined front (all_of means ts) ≡ total → total ≡ got front ts
  all_done e m so_far =
      let n = next_is ts t rest e in
      let one : all_of means ts ≡ got [] ts = rw (n.1, m) refl in
      sym so_far ∙ (ap (joined front) one ∙ ap (λ ys. got ys ts) (append-nil front))

pub all_stops : {A : Type 0} (means : PureToken → Option A) (ts us : Tokens) → next ts ≡ bad us → all_of means ts
    ≡ bad us
all_stops means (stop at) us e = let s : stop at ≡ us = cc in ap bad s
all_stops means (token at t rest) us e = absurd (cc)

pub all_ended : {A : Type 0} (means : PureToken → Option A) (front : List A) (ts us : Tokens) (total : Read (List A))
    → next ts ≡ bad us → joined front (all_of means ts) ≡ total → total ≡ bad us
all_ended means front ts us total e so_far = sym so_far ∙ ap (joined front) (all_stops means ts us e)

pub ruleset all_laws = (next_shorter, all_more, all_done, all_ended)

-- at most so many
module _ {A : Type 0} (means : PureToken → Option A) (front : List A) (ts : Tokens) (most i : ℕ)
    (total : Read (List A)) where
  regroup : (x : A) (r : Read (List A)) → joined front (and_then r λ xs us. got (x ∷ xs) us) ≡ joined
      (front ++ x ∷ []) r
  regroup x (got xs us) = ap (λ ys. got ys us) (sym (append_assoc front (x ∷ []) xs))
  regroup x (bad us) = refl

  pub some_more : (t : PureToken) (rest : Tokens) (x : A) → i < most → next ts ≡ got t rest → means t ≡ Some x
      → joined front (some_of (most - i) means ts) ≡ total
      → joined (front ++ x ∷ []) (some_of (most - (i + 1)) means rest) ≡ total
  some_more t rest x lt e m so_far =
      let k : most - i ≡ suc (most - (i + 1)) = omega arith in
      let n = next_is ts t rest e in
      let one : some_of (suc (most - (i + 1))) means ts
      ≡ and_then (some_of (most - (i + 1)) means rest) (λ xs us. got (x ∷ xs) us) = rw (n.1, m) refl in
      sym (regroup x (some_of (most - (i + 1)) means rest))
      ∙ (sym (ap (joined front) (ap (λ n. some_of n means ts) k ∙ one)) ∙ so_far)

  pub some_done : (t : PureToken) (rest : Tokens) → i < most → next ts ≡ got t rest → means t ≡ None
      → joined front (some_of (most - i) means ts) ≡ total → total ≡ got front ts
  some_done t rest lt e m so_far =
      let k : most - i ≡ suc (most - (i + 1)) = omega arith in
      let n = next_is ts t rest e in
      let one : some_of (suc (most - (i + 1))) means ts ≡ got [] ts = rw (n.1, m) refl in
      sym so_far
      ∙ (ap (joined front) (ap (λ n. some_of n means ts) k ∙ one) ∙ ap (λ ys. got ys ts) (append-nil front))

  pub some_ended : (us : Tokens) → i < most → next ts ≡ bad us → joined front (some_of (most - i) means ts) ≡ total
      → total ≡ bad us
  some_ended us lt e so_far =
      let k : most - i ≡ suc (most - (i + 1)) = omega arith in
      sym so_far
      ∙ ap (joined front)
      (ap (λ n. some_of n means ts) k
      ∙ peek_ended (λ t. one_more (some_of (most - (i + 1)) means) (means t)) ts us e)

  pub some_full : most ≤ i → joined front (some_of (most - i) means ts) ≡ total → total ≡ got front ts
  some_full le so_far =
      let k : most - i ≡ 0 = omega arith in
      sym so_far
      ∙ (ap (λ n. joined front (some_of n means ts)) k ∙ ap (λ ys. got ys ts) (append-nil front))

pub ruleset some_laws = (some_more, some_done, some_ended, some_full)

-- types behind the first one, and `)`
abbrev pub closed_behind : Read (List ValType) → Read (List ValType)
closed_behind read = and_then read λ ts rest. and_then (closing rest) λ _ us. got ts us

pub types_closed : (more : Reader (List ValType)) (ts : Tokens) (t : ValType) (rest : Tokens) (list : List ValType)
    (v : Read (List ValType)) → value_type ts ≡ got t rest → list ≡ t ∷ []
    → closed_behind (joined list (more rest)) ≡ v → types_and_close more ts ≡ v
types_closed more ts t rest list v e l h =
    ap
    (λ r. and_then r λ t rest. and_then (more rest) λ ts rest. and_then (closing rest) λ _ us. got (t ∷ ts) us) e
    ∙ (sym (same (more rest)) ∙ (ap (λ z. closed_behind (joined z (more rest))) (sym l) ∙ h))
  where
    same : (r : Read (List ValType)) → closed_behind (joined (t ∷ []) r)
        ≡ and_then r λ ts rest. and_then (closing rest) λ _ us. got (t ∷ ts) us
    same (got xs us) = refl
    same (bad us) = refl

-- a loop that begins with none
pub joined_none : {A : Type 0} (read : Read (List A)) → joined [] read ≡ read
joined_none (got xs rest) = refl
joined_none (bad rest) = refl

-- labels of a table
module _ (means : PureToken → Option ℕ) (front : List ℕ) (label : ℕ) (ts : Tokens) (t : PureToken) (rest : Tokens)
    (total : Read Instruction) where
  with_label : (k : ℕ) (r : Read (List ℕ)) → branches front label (in_front k r) ≡ branches (front ++ label ∷ []) k r
  with_label k (got xs us) = refl
  with_label k (bad us) = refl

  pub branch_more : (k : ℕ) → next ts ≡ got t rest → means t ≡ Some k → branches front label (all_of means ts) ≡ total
      → branches (front ++ label ∷ []) k (all_of means rest) ≡ total
  branch_more k e m so_far =
      let n = next_is ts t rest e in
      let one : all_of means ts ≡ in_front k (all_of means rest) = rw (n.1, m) refl in
      sym (with_label k (all_of means rest)) ∙ (sym (ap (branches front label) one) ∙ so_far)

  pub branch_done : next ts ≡ got t rest → means t ≡ None → branches front label (all_of means ts) ≡ total
      → total ≡ got (br_table front label) ts
  branch_done e m so_far =
      let n = next_is ts t rest e in
      let one : all_of means ts ≡ got [] ts = rw (n.1, m) refl in
      sym so_far ∙ ap (branches front label) one

pub branch_ended : (means : PureToken → Option ℕ) (front : List ℕ) (label : ℕ) (ts us : Tokens)
    (total : Read Instruction) → next ts ≡ bad us → branches front label (all_of means ts) ≡ total → total ≡ bad us
branch_ended means front label ts us total e so_far =
    sym so_far ∙ ap (branches front label) (all_stops means ts us e)

pub ruleset branch_laws = (next_shorter, branch_more, branch_done, branch_ended)
