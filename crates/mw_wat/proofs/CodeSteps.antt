-- Code read one instruction after the other, as a loop reads it.
use Rattle.std.proofs.Common.{◌≡◌, ◌≢◌, ℕ, zero, suc, ◌-◌, ◌<◌, ◌≤◌, List, [], ◌∷◌, ◌++◌, refl, ap, sym, ◌∙◌, arith}
use Rattle.std.proofs.Common.{Option, Some, None}
use Rattle.mw_wasm.specs.declared.instructions.Instr.{Instr}
use Rattle.mw_wasm.specs.Syntax as pure
use Rattle.mw_wasm.specs.Syntax.{Instruction, Code}
use Rattle.mw_wasm.specs.Views.{instruction_of, list_code}
use Rattle.mw_wat.specs.declared.reading.cursor.Fault.{Fault}
use Rattle.mw_wat.specs.declared.reading.cursor.Fault.TheVariants.{Bad, Memory}
use Rattle.mw_wat.specs.Tokens.{PureToken, left, right, word}
use Rattle.mw_wat.specs.Lexing.{Tokens, token}
use Rattle.mw_wat.specs.Reading.{Read, got, bad, count, and_then, skip}
use Rattle.mw_wat.specs.Instructions.{Opener, Meaning, ends, turns, opens, alone, meaning, Place, whole}
use Rattle.mw_wat.specs.Instructions.{onward, Mark, Listed, Lists, ahead, block_type, inside, opened, more}
use Rattle.mw_wat.specs.Instructions.{meant, listed, instructions}
use Rattle.mw_wat.specs.Cursors.{next, Fails}
use Rattle.mw_wat.specs.Parts.{behind_opener}
use Rattle.mw_wat.specs.Steps.{marked, one, closing_mark, end_mark, else_mark, marks, step_meant, step}
use Rattle.mw_wat.specs.Steps.{go_on, before, with_front}
use Rattle.mw_wat.proofs.CursorReaders.{next_is}
use Rattle.mw_wat.proofs.Lookahead.{no_longer, local_then, got_parts}
use Rattle.mw_wat.proofs.LookaheadOfCode.{instructions_are, local_inside, local_block_type, local_instructions}
use Rattle.mw_wat.proofs.LookaheadOfCode.{meaning_local}

-- a list is a step, and then its end or more
regroup : (lists : Lists) (room : ℕ) (p : Place) (r : Read Instruction)
    → and_then r (more lists room p) ≡ and_then (and_then r λ i rest. got (one i) rest) (go_on lists room p)
regroup lists room p (got i rest) = refl
regroup lists room p (bad rest) = refl

module _ (L : Lists) (room : ℕ) where
  meant_steps : (p : Place) (m : Option Meaning) (at : ℕ) (t : PureToken) (us : Tokens)
      → meant L room p m (token at t us)
      ≡ and_then (step_meant L room p m (token at t us)) (go_on L room p)
  meant_steps whole (Some ends) at t us = refl
  meant_steps p (Some (opens o)) at t us = regroup L room p (opened L room o (token at t us))
  meant_steps p (Some (alone r)) at t us = regroup L room p (r us)
  meant_steps p _ at t us = refl

  listed_steps : (p : Place) (ts : Tokens) → listed L room p ts ≡ and_then (step L room p ts) (go_on L room p)
  listed_steps whole (token at left us) = refl
  listed_steps p (token at (word w) us) = meant_steps p (meaning w) at (word w) us
  listed_steps p _ = refl

pub stepped : (room : ℕ) (p : Place) (ts : Tokens) → instructions room p ts
    ≡ and_then (step instructions room p ts) (go_on instructions room p)
stepped room p ts = instructions_are room p ts ∙ listed_steps instructions room p ts

-- the loop
pub front_none : (r : Read Listed) → with_front [] r ≡ r
front_none (got l rest) = refl
front_none (bad rest) = refl

before_end : (is : List Instr) → before is pure.end ≡ list_code is
before_end [] = refl
before_end (i ∷ is) = ap (λ c. pure.next (instruction_of i) c) (before_end is)

before_one : (is : List Instr) (i : Instr) (c : Code) → before (is ++ i ∷ []) c ≡ before is
    (pure.next (instruction_of i) c)
before_one [] i c = refl
before_one (j ∷ is) i c = ap (λ d. pure.next (instruction_of j) d) (before_one is i c)

front_more : (list : List Instr) (i : Instr) (r : Read Listed)
    → with_front list (and_then r λ l rest. got (ahead (instruction_of i) l) rest) ≡ with_front (list ++ i ∷ []) r
front_more list i (got l rest) =
    ap (λ c. got (record { code = c; mark = l.mark }) rest) (sym (before_one list i l.code))
front_more list i (bad rest) = refl

module _ (list : List Instr) (room : ℕ) (p : Place) (ts : Tokens) (total : Read Listed) where
  pub list_ends : (m : Mark) (rest : Tokens) → step instructions room p ts ≡ got (marked m) rest
      → with_front list (instructions room p ts) ≡ total
      → total ≡ got (record { code = list_code list; mark = m }) rest
  list_ends m rest e so_far =
      sym so_far
      ∙ (ap (with_front list)
      (stepped room p ts ∙ ap (λ r. and_then r (go_on instructions room p)) e)
      ∙ ap (λ c. got (record { code = c; mark = m }) rest) (before_end list))

  pub list_more : (i : Instr) (rest : Tokens) → step instructions room p ts ≡ got (one (instruction_of i)) rest
      → with_front list (instructions room p ts) ≡ total
      → with_front (list ++ i ∷ []) (instructions room (onward p) rest) ≡ total
  list_more i rest e so_far =
      sym (front_more list i (instructions room (onward p) rest))
      ∙ (sym
      (ap (with_front list)
      (stepped room p ts ∙ ap (λ r. and_then r (go_on instructions room p)) e))
      ∙ so_far)

  pub list_fails : (f : Fault) → Fails f (step instructions room p ts)
      → with_front list (instructions room p ts) ≡ total → Fails f total
  list_fails (Memory m) e so_far = tt
  list_fails (Bad c) e so_far =
      sym so_far
      ∙ ap (with_front list) (stepped room p ts ∙ ap (λ r. and_then r (go_on instructions room p)) e)

-- each instruction takes a token
one_is : (r : Read Instruction) (i : Instruction) (rest : Tokens) → and_then r (λ i rest. got (one i) rest)
    ≡ got (one i) rest → r ≡ got i rest
one_is (got j us) i rest e =
    let p = got_parts (one j) (one i) us rest e in
    let s : j ≡ i = cc in
    ap (λ k. got k us) s ∙ ap (got i) p.1
one_is (bad us) i rest e = absurd (cc)

marks_none : (o : Option Mark) (at : ℕ) (t : PureToken) (us : Tokens) (i : Instruction) (rest : Tokens)
    → marks o (token at t us) ≡ got (one i) rest → ⊥
marks_none None at t us i rest e = cc
marks_none (Some m) at t us i rest e =
    let p = got_parts (marked m) (one i) us rest e in
    let q : marked m ≡ one i = p.0 in cc

behind_word : (room : ℕ) (p : Place) (m : Option Meaning) (w : List ℕ) → meaning w ≡ m → (at : ℕ) (us : Tokens)
    (i : Instruction) (rest : Tokens) → step_meant instructions room p m (token at (word w) us) ≡ got (one i) rest
    → count rest ≤ count us
behind_word room p None w k at us i rest e = absurd (cc)
behind_word room p (Some ends) w k at us i rest e = absurd (marks_none (end_mark p) at (word w) us i rest e)
behind_word room p (Some turns) w k at us i rest e = absurd (marks_none (else_mark p) at (word w) us i rest e)
behind_word zero p (Some (opens o)) w k at us i rest e = absurd (cc)
behind_word (suc room) p (Some (opens o)) w k at us i rest e =
    no_longer (behind_opener room o)
    (local_then block_type (inside instructions room o) local_block_type
    (λ t. local_inside instructions local_instructions room o t)) us i rest
    (one_is (behind_opener room o us) i rest e)
behind_word room p (Some (alone r)) w k at us i rest e =
    no_longer r (meaning_local w (alone r) k) us i rest (one_is (r us) i rest e)

pub list_shorter : (room : ℕ) (p : Place) (ts : Tokens) (i : Instruction) (rest : Tokens)
    → step instructions room p ts ≡ got (one i) rest → count rest < count ts
list_shorter room p (token at right us) i rest e = absurd (marks_none (closing_mark p) at right us i rest e)
list_shorter room p (token at (word w) us) i rest e =
    let h : count rest ≤ count us = behind_word room p (meaning w) w refl at us i rest e in omega arith
list_shorter room p _ i rest e = absurd (cc)

pub ruleset list_laws = (front_none, list_ends, list_more, list_fails, list_shorter)

-- one step
module _ (room : ℕ) (p : Place) (ts rest : Tokens) where
  step_word : (w : List ℕ) (m : Option Meaning) → next ts ≡ got (word w) rest → m ≡ meaning w
      → step instructions room p ts ≡ step_meant instructions room p m ts
  step_word w m e k =
      let n = next_is ts (word w) rest e in
      let s : step instructions room p ts ≡ step_meant instructions room p (meaning w) ts = rw n.1 refl in
      s ∙ ap (λ m. step_meant instructions room p m ts) (sym k)

pub step_opens : (room : ℕ) (p : Place) (ts rest : Tokens) (w : List ℕ) (o : Opener) → next ts ≡ got (word w) rest
    → Some (opens o) ≡ meaning w → room ≢ 0
    → step instructions room p ts ≡ and_then (behind_opener (room - 1) o rest) λ i us. got (one i) us
step_opens zero p ts rest w o e k z = absurd (z refl)
step_opens (suc room) p ts rest w o e k z =
    let n = next_is ts (word w) rest e in
    let less : suc room - 1 ≡ room = omega arith in
    step_word (suc room) p ts rest w (Some (opens o)) e k
    ∙ (ap (λ v. and_then (skip (behind_opener room o) v) λ i us. got (one i) us) n.1
    ∙ ap (λ n. and_then (behind_opener n o rest) λ i us. got (one i) us) (sym less))
