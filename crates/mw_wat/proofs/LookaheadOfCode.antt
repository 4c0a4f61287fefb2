-- The readers of code are local, and the bound on their calls doesn't show.
use Rattle.std.proofs.Common.{◌≡◌, ℕ, zero, suc, ◌<◌, ◌≤◌, ◌^◌, ◌-◌, List, [], refl, ap, sym, ◌∙◌}
use Rattle.std.proofs.Common.{arith, Bool, true, false, Option, Some, None}
use Rattle.std.specs.Prelude.{codes, if◌then◌else◌}
use Rattle.std.specs.Str.{bytes_eq}
use Rattle.std.specs.Int.{w32, w64}
use Rattle.mw_wasm.specs.declared.values.ValType.{ValType}
use Rattle.mw_wasm.specs.Syntax as pure
use Rattle.mw_wasm.specs.Syntax.{Instruction, Code, block, loop, cond, call_indirect, const_i32, const_i64}
use Rattle.mw_wat.specs.Tokens.{PureToken}
use Rattle.mw_wat.specs.Tokens as t
use Rattle.mw_wat.specs.Lexing.{Tokens, stop, token}
use Rattle.mw_wat.specs.Reading.{got, bad, Reader, count, and_then, ◌>>=◌, gives, one_of, skip, this, as_word, as_left}
use Rattle.mw_wat.specs.Reading.{as_right, opening, closing, as_number, index, all_of, as_type, value_type, if_left}
use Rattle.mw_wat.specs.Reading.{if_opened, if_same, if_word}
use Rattle.mw_wat.specs.Instructions as read
use Rattle.mw_wat.specs.Instructions.{as_constant, as_keyed, indexed, at_address, table_behind, labels, indirect}
use Rattle.mw_wat.specs.Instructions.{Opener, a_block, a_loop, an_if, Meaning, ends, turns, opens, alone}
use Rattle.mw_wat.specs.Instructions.{meaning}
use Rattle.mw_wat.specs.Instructions.{Place, whole, inner, first, fresh, onward, Mark, closed, ended, turned}
use Rattle.mw_wat.specs.Instructions.{Lists, nothing, ahead, result, block_type, second, inside, opened, more, meant}
use Rattle.mw_wat.specs.Instructions.{by_token, listed, instructions, expression}
use Rattle.mw_wat.proofs.MeaningsOfWords.{HoldsOfKinds, meaning_holds}
use Rattle.mw_wat.proofs.Lookahead.{Local, LocalAt, gets, loses, local_gives, local_fails, local_one, local_then}
use Rattle.mw_wat.proofs.Lookahead.{local_skip, local_peek, local_all, no_longer, local_bounded}

pub local_if_left : {A : Type 0} (r q : Reader A) → Local r → Local q → Local (if_opened r q)
local_if_left r q a b = local_peek (if_left r q) λ t. by_token t
  where
    by_token : (t : PureToken) → Local (if_left r q t)
    by_token t.left = local_skip r a
    by_token _ = b

pub local_if_word : {A : Type 0} (w : List ℕ) (r q : Reader A) → Local r → Local q → Local (if_word w r q)
local_if_word w r q a b = local_peek (if_same w r q) λ t. by_token t
  where
    by_test : (x : Bool) → Local (if x then skip r else q)
    by_test true = local_skip r a
    by_test false = b

    by_token : (t : PureToken) → Local (if_same w r q t)
    by_token (t.word v) = by_test (bytes_eq v w)
    by_token _ = b

pub local_index : Local index
local_index = local_one (as_number (2 ^ 32 - 1))

-- single instructions
local_indexed : (i : ℕ → Instruction) → Local (indexed i)
local_indexed i = local_then index (λ x. gives (i x)) local_index (λ x. local_gives (i x))

local_address : (i : ℕ → ℕ → Instruction) → Local (at_address i)
local_address i =
    local_then (one_of (as_keyed (codes "offset="))) _ (local_one (as_keyed (codes "offset=")))
    (λ offset. local_then (one_of (as_keyed (codes "exp="))) (λ align. gives (i align offset))
    (local_one (as_keyed (codes "exp="))) (λ align. local_gives (i align offset)))

local_labels : Local labels
local_labels = local_then index _ local_index
    (λ l. local_then (all_of (as_number (2 ^ 32 - 1))) (λ ls. gives (table_behind [] l ls))
    (local_all (as_number (2 ^ 32 - 1))) (λ ls. local_gives (table_behind [] l ls)))

local_indirect : Local indirect
local_indirect =
    local_then opening _ (local_one as_left)
    (λ _. local_then (this (codes "type")) _ (local_one (as_word (codes "type")))
    (λ _. local_then index _ local_index
    (λ k. local_then closing (λ _. gives (call_indirect k)) (local_one as_right)
    (λ _. local_gives (call_indirect k)))))

abbrev pub LocalMeaning : Meaning → Type 0
LocalMeaning (alone r) = Local r
LocalMeaning _ = Unit {0}

local_kinds : HoldsOfKinds (λ _ m. LocalMeaning m)
local_kinds = record {
  plain = λ w i e d. local_gives i;
  with_index = λ w i e d. local_indexed i;
  with_address = λ w i e d. local_address i;
  constant_32 = local_then (one_of (as_constant w32)) (λ n. gives (const_i32 n)) (local_one (as_constant w32))
      (λ n. local_gives (const_i32 n));
  constant_64 = local_then (one_of (as_constant w64)) (λ n. gives (const_i64 n)) (local_one (as_constant w64))
      (λ n. local_gives (const_i64 n));
  table = local_labels;
  by_type = local_indirect;
  opening = λ o. tt;
  turning = tt;
  ending = tt;
}

pub meaning_local : (w : List ℕ) (m : Meaning) → meaning w ≡ Some m → LocalMeaning m
meaning_local w m e = meaning_holds (λ _ m. LocalMeaning m) local_kinds w m e

-- lists
pub local_result : Local result
local_result = local_then (this (codes "result")) _ (local_one (as_word (codes "result")))
    (λ _. local_then value_type _ (local_one as_type)
    (λ t. local_then closing (λ _. gives t) (local_one as_right) (λ _. local_gives t)))

pub local_block_type : Local block_type
local_block_type = local_if_left (result >>= λ t. gives (Some t)) (gives None)
    (local_then result (λ t. gives (Some t)) local_result (λ t. local_gives (Some t))) (local_gives None)

abbrev pub AreLocal : Lists → Type 0
AreLocal L = (room : ℕ) (p : Place) → Local (L room p)

module _ (L : Lists) (a : AreLocal L) where
  local_second : (room : ℕ) (t : Option ValType) (c : Code) (m : Mark) → Local (second L room t c m)
  local_second room t c closed = local_gives _
  local_second room t c ended = local_gives _
  local_second room t c turned = local_then (L room fresh) (λ l. gives (cond t c l.code)) (a room fresh)
      (λ l. local_gives (cond t c l.code))

  pub local_inside : (room : ℕ) (o : Opener) (t : Option ValType) → Local (inside L room o t)
  local_inside room a_block t = local_then (L room inner) (λ l. gives (block t l.code)) (a room inner)
      (λ l. local_gives (block t l.code))
  local_inside room a_loop t = local_then (L room inner) (λ l. gives (loop t l.code)) (a room inner)
      (λ l. local_gives (loop t l.code))
  local_inside room an_if t = local_then (L room first) (λ l. second L room t l.code l.mark) (a room first)
      (λ l. local_second room t l.code l.mark)

  local_opened : (room : ℕ) (o : Opener) → Local (opened L room o)
  local_opened zero o = local_fails
  local_opened (suc room) o = local_skip (block_type >>= inside L room o)
      (local_then block_type (inside L room o) local_block_type (λ t. local_inside room o t))

  local_more : (room : ℕ) (p : Place) (i : Instruction) → Local (more L room p i)
  local_more room p i = local_then (L room (onward p)) (λ l. gives (ahead i l)) (a room (onward p))
      (λ l. local_gives (ahead i l))

  local_nothing : (m : Mark) → Local (nothing m)
  local_nothing m = local_skip (gives (record { code = pure.end; mark = m })) (local_gives _)

  local_alone : (room : ℕ) (p : Place) (r : Reader Instruction) → Local r → Local (skip r >>= more L room p)
  local_alone room p r b = local_then (skip r) (more L room p) (local_skip r b) (λ i. local_more room p i)

  local_opens : (room : ℕ) (p : Place) (o : Opener) → Local (opened L room o >>= more L room p)
  local_opens room p o = local_then (opened L room o) (more L room p) (local_opened room o) (λ i. local_more room p i)

  local_meant : (room : ℕ) (p : Place) (o : Option Meaning) → ((m : Meaning) → o ≡ Some m → LocalMeaning m) → Local
      (meant L room p o)
  local_meant room inner (Some ends) g = local_nothing ended
  local_meant room first (Some ends) g = local_nothing ended
  local_meant room first (Some turns) g = local_nothing turned
  local_meant room p (Some (opens o)) g = local_opens room p o
  local_meant room p (Some (alone r)) g = local_alone room p r (g (alone r) refl)
  local_meant room p _ g = local_fails

  local_by_token : (room : ℕ) (p : Place) (t : PureToken) → Local (by_token L room p t)
  local_by_token room whole t.right = local_nothing closed
  local_by_token room p (t.word w) = local_meant room p (meaning w) (meaning_local w)
  local_by_token room p _ = local_fails

  local_listed : (room : ℕ) (p : Place) → Local (listed L room p)
  local_listed room p = local_peek (by_token L room p) (local_by_token room p)

pub local_within : (n room : ℕ) (p : Place) → Local (read.within n room p)
local_within zero room p = local_fails
local_within (suc n) room p = local_listed (read.within n) (local_within n) room p

-- Two bounds above the number of tokens give the same.
pub then_same : {A B : Type 0} (r q : Reader A) (f g : A → Reader B) (ts : Tokens) → r ts ≡ q ts → Local r
    → ((x : A) (rest : Tokens) → count rest ≤ count ts → f x rest ≡ g x rest) → (r >>= f) ts ≡ (q >>= g) ts
then_same r q f g ts e a b = by_local (a ts)
  where
    by_local : LocalAt r ts → (r >>= f) ts ≡ (q >>= g) ts
    by_local (gets front x rest p d l) = let same : q ts ≡ got x rest = sym e ∙ d in rw (d, same)
        (b x rest (no_longer r a ts x rest d))
    by_local (loses front rest p d l) = let same : q ts ≡ bad rest = sym e ∙ d in rw (d, same) refl

module _ (L K : Lists) (a : AreLocal L) (n : ℕ)
    (same : (room : ℕ) (p : Place) (ts : Tokens) → count ts < n → L room p ts ≡ K room p ts) where
  same_second : (room : ℕ) (t : Option ValType) (c : Code) (m : Mark) (ts : Tokens) → count ts < n
      → second L room t c m ts ≡ second K room t c m ts
  same_second room t c closed ts p = refl
  same_second room t c ended ts p = refl
  same_second room t c turned ts p = ap (λ r. and_then r (λ l rest. got (cond t c l.code) rest))
      (same room fresh ts p)

  same_inside : (room : ℕ) (o : Opener) (t : Option ValType) (ts : Tokens) → count ts < n
      → inside L room o t ts ≡ inside K room o t ts
  same_inside room a_block t ts p = ap (λ r. and_then r (λ l rest. got (block t l.code) rest)) (same room inner ts p)
  same_inside room a_loop t ts p = ap (λ r. and_then r (λ l rest. got (loop t l.code) rest)) (same room inner ts p)
  same_inside room an_if t ts p = then_same (L room first) (K room first) (λ l. second L room t l.code l.mark)
      (λ l. second K room t l.code l.mark) ts (same room first ts p) (a room first)
      (λ l rest q. same_second room t l.code l.mark rest (omega arith))

  same_more : (room : ℕ) (p : Place) (i : Instruction) (ts : Tokens) → count ts < n
      → more L room p i ts ≡ more K room p i ts
  same_more room p i ts q = ap (λ r. and_then r (λ l rest. got (ahead i l) rest)) (same room (onward p) ts q)

  same_opens : (room : ℕ) (p : Place) (o : Opener) (at : ℕ) (t : PureToken) (ts : Tokens) → count ts < n
      → (opened L room o >>= more L room p) (token at t ts) ≡ (opened K room o >>= more K room p) (token at t ts)
  same_opens zero p o at t ts q = refl
  same_opens (suc room) p o at t ts q =
      then_same (block_type >>= inside L room o) (block_type >>= inside K room o) (more L (suc room) p)
      (more K (suc room) p) ts
      (then_same block_type block_type (inside L room o) (inside K room o) ts refl local_block_type
      (λ x rest k. same_inside room o x rest (omega arith)))
      (local_then block_type (inside L room o) local_block_type (λ x. local_inside L a room o x))
      (λ i rest k. same_more (suc room) p i rest (omega arith))

  same_alone : (room : ℕ) (p : Place) (r : Reader Instruction) → Local r → (at : ℕ) (t : PureToken) (ts : Tokens)
      → count ts < n → (skip r >>= more L room p) (token at t ts) ≡ (skip r >>= more K room p) (token at t ts)
  same_alone room p r b at t ts q = then_same r r (more L room p) (more K room p) ts refl b
      (λ i rest k. same_more room p i rest (omega arith))

  same_meant : (room : ℕ) (p : Place) (o : Option Meaning) → ((m : Meaning) → o ≡ Some m → LocalMeaning m) → (at : ℕ)
      (t : PureToken) (ts : Tokens) → count ts < n → meant L room p o (token at t ts) ≡ meant K room p o
      (token at t ts)
  same_meant room whole (Some ends) g at t ts q = refl
  same_meant room p (Some (opens o)) g at t ts q = same_opens room p o at t ts q
  same_meant room p (Some (alone r)) g at t ts q = same_alone room p r (g (alone r) refl) at t ts q
  same_meant room p _ g at t ts q = refl

  same_by_token : (room : ℕ) (p : Place) (at : ℕ) (t : PureToken) (ts : Tokens) → count ts < n → by_token L room p t
      (token at t ts) ≡ by_token K room p t (token at t ts)
  same_by_token room whole at t.left ts q = refl
  same_by_token room p at (t.word w) ts q = same_meant room p (meaning w) (meaning_local w) at (t.word w) ts q
  same_by_token room p at t ts q = refl

  pub same_listed : (room : ℕ) (p : Place) (ts : Tokens) → count ts ≤ n → listed L room p ts ≡ listed K room p ts
  same_listed room p (stop at) q = refl
  same_listed room p (token at t ts) q = same_by_token room p at t ts (omega arith)

pub same_within : (n m room : ℕ) (p : Place) (ts : Tokens) → count ts < n → count ts < m
    → read.within n room p ts ≡ read.within m room p ts
same_within zero m room p ts q r = absurd (omega arith)
same_within (suc n) zero room p ts q r = absurd (omega arith)
same_within (suc n) (suc m) room p ts q r = same_listed (read.within n) (read.within m) (local_within n) (count ts)
    (λ room p us k. same_within n m room p us (omega arith) (omega arith)) room p ts (omega arith)

-- the law of reading code
pub instructions_are : (room : ℕ) (p : Place) (ts : Tokens) → instructions room p ts ≡ listed instructions room p ts
unfolding instructions
instructions_are room p ts = same_listed (read.within (count ts)) instructions (local_within (count ts)) (count ts)
    (λ room p us k. same_within (count ts) (suc (count us)) room p us k (omega arith)) room p ts (omega arith)

-- code up to a closing parenthesis
pub local_instructions : (room : ℕ) (p : Place) → Local (instructions room p)
unfolding instructions
local_instructions room p = local_bounded (instructions room p) (λ n. read.within n room p)
    (λ n ts q. same_within (suc (count ts)) n room p ts (omega arith) q) (λ n. local_within n room p)

pub local_expression : Local expression
local_expression = local_then (instructions 500 whole) (λ l. gives l.code) (local_instructions 500 whole)
    (λ l. local_gives l.code)
