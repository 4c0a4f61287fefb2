-- There is always room for one list more: reading code is one step and reading code.
use Rattle.std.proofs.Common.{◌≡◌, ℕ, zero, suc, ◌<◌, ◌≤◌, Bool, true, false, List, [], ◌∷◌, length, Option, refl, sym}
use Rattle.std.proofs.Common.{ap, subst, ◌∙◌, arith, length-append}
use Rattle.mw_wasm.specs.declared.values.ValType.{ValType}
use Rattle.mw_wasm.specs.Syntax.{Instruction, Code, block, loop, cond as if_else}
use Rattle.mw_decode.specs.Reading.{Read, got, ended, faulty, Reader, place, and_then, ◌>>=◌}
use Rattle.mw_decode.specs.Opcodes.{Mark, closing, otherwise, Opener, a_block, a_loop, an_if, Opcode, marks, opens}
use Rattle.mw_decode.specs.Opcodes.{alone, alone_of, opcode}
use Rattle.mw_decode.specs.Instructions.{Lists, ahead, closed, second, inside, opened, more}
use Rattle.mw_decode.specs.Instructions.{behind, listed, within, instructions}
use Rattle.mw_decode.proofs.ReaderSoundness.{Sound}
use Rattle.mw_decode.proofs.OpcodeSoundness.{alone_sound}
use Rattle.mw_decode.proofs.CodeSoundness.{Opens, by_block, by_loop, by_if, by_else, by_end, by_none, opcode_cases}
use Rattle.mw_decode.proofs.CodeSoundness.{ListsSound, sound_block_type, opened_sound, opener_byte, immediates_sound}
use Rattle.mw_decode.proofs.CodeSoundness.{within_sound, instructions_sound}

-- a reader leaves no more than it was given
pub shorter : {A : Type 0} {r : Reader A} {P : A → List ℕ → Type 0} → Sound r P → (end : ℕ) (bytes : List ℕ) (x : A)
    (rest : List ℕ) → r end bytes ≡ got x rest → length rest ≤ length bytes
shorter s end bytes x rest e =
    let h = s.sound end bytes x rest e in omega (arith, ap length h.whole, length-append h.front rest)

pub same_then : {A B : Type 0} (m : Read A) (f g : A → List ℕ → Read B)
    → ((x : A) (mid : List ℕ) → m ≡ got x mid → f x mid ≡ g x mid) → and_then m f ≡ and_then m g
same_then (got x mid) f g h = h x mid refl
same_then ended f g h = refl
same_then (faulty d) f g h = refl

-- one thing, and what is read behind it in one of two ways that agree on so many bytes
agree_then : {A B : Type 0} {r : Reader A} {P : A → List ℕ → Type 0} (k : ℕ) (f g : A → Reader B) → Sound r P
    → (end : ℕ) (bytes : List ℕ) → length bytes ≤ k
    → ((x : A) (rest : List ℕ) → length rest ≤ k → f x end rest ≡ g x end rest)
    → (r >>= f) end bytes ≡ (r >>= g) end bytes
agree_then {r = r} k f g s end bytes h same =
    same_then (r end bytes) (λ x rest. f x end rest) (λ x rest. g x end rest)
    (λ x rest e. let l = shorter s end bytes x rest e in same x rest (omega arith))

-- two ways to read lists agree on so many bytes
pub record Agree (k : ℕ) (p q : Lists) : Type 0 where
  pub agree : (room : ℕ) (first : Bool) (end : ℕ) (bytes : List ℕ) → length bytes ≤ k
      → p room first end bytes ≡ q room first end bytes

closed_agree : (k : ℕ) (p q : Lists) → Agree k p q → (room end : ℕ) (bytes : List ℕ) → length bytes ≤ k
    → closed p room end bytes ≡ closed q room end bytes
closed_agree k p q a room end bytes h =
    ap (λ m. and_then m (λ l rest. got l.code rest)) (a.agree room false end bytes h)

inside_agree : (k : ℕ) (p q : Lists) → Agree k p q → ListsSound q
    → (room : ℕ) (o : Opener) (t : Option ValType) (end : ℕ) (bytes : List ℕ) → length bytes ≤ k
    → inside p room o t end bytes ≡ inside q room o t end bytes
inside_agree k p q a s room a_block t end bytes h =
    ap (λ m. and_then m (λ c rest. got (block t c) rest)) (closed_agree k p q a room end bytes h)
inside_agree k p q a s room a_loop t end bytes h =
    ap (λ m. and_then m (λ c rest. got (loop t c) rest)) (closed_agree k p q a room end bytes h)
inside_agree k p q a s room an_if t end bytes h =
    ap (λ m. and_then m (λ l rest. second p room t l.code l.mark end rest)) (a.agree room true end bytes h)
    ∙ agree_then k (λ l. second p room t l.code l.mark) (λ l. second q room t l.code l.mark) (s.each room true) end
    bytes
    h (λ l rest m. seconds l.code l.mark rest m)
  where
    seconds : (c : Code) (m : Mark) (rest : List ℕ) → length rest ≤ k
        → second p room t c m end rest ≡ second q room t c m end rest
    seconds c closing rest l = refl
    seconds c otherwise rest l =
        ap (λ m. and_then m (λ b rest. got (if_else t c b) rest)) (closed_agree k p q a room end rest l)

opened_agree : (k : ℕ) (p q : Lists) → Agree k p q → ListsSound q
    → (room : ℕ) (o : Opener) (at end : ℕ) (bytes : List ℕ) → length bytes ≤ k
    → opened p room o at end bytes ≡ opened q room o at end bytes
opened_agree k p q a s zero o at end bytes h = refl
opened_agree k p q a s (suc room) o at end bytes h =
    agree_then k (inside p room o) (inside q room o) sound_block_type end bytes h
    (λ t rest l. inside_agree k p q a s room o t end rest l)

more_agree : (k : ℕ) (p q : Lists) → Agree k p q
    → (room : ℕ) (first : Bool) (i : Instruction) (end : ℕ) (bytes : List ℕ) → length bytes ≤ k
    → more p room first i end bytes ≡ more q room first i end bytes
more_agree k p q a room first i end bytes h =
    ap (λ m. and_then m (λ l rest. got (ahead i l) rest)) (a.agree room first end bytes h)

behind_agree : (k : ℕ) (p q : Lists) → Agree k p q → ListsSound q
    → (room : ℕ) (first : Bool) (at b end : ℕ) (bytes : List ℕ) → length bytes ≤ k
    → behind p room first at (opcode b) end bytes ≡ behind q room first at (opcode b) end bytes
behind_agree k p q a s room first at b end bytes h = go (opcode_cases b)
  where
    same : (o : Opcode) → opcode b ≡ o → behind p room first at o end bytes ≡ behind q room first at o end bytes
        → behind p room first at (opcode b) end bytes ≡ behind q room first at (opcode b) end bytes
    same o e t =
        subst (λ (o : Opcode). behind p room first at o end bytes ≡ behind q room first at o end bytes) (sym e) t

    openings : (o : Opener) → b ≡ opener_byte o
        → behind p room first at (opens o) end bytes ≡ behind q room first at (opens o) end bytes
    openings o e =
        ap (λ m. and_then m (λ i rest. more p room first i end rest)) (opened_agree k p q a s room o at end bytes h)
        ∙ agree_then k (more p room first) (more q room first) (opened_sound q s room o at b e) end bytes h
        (λ i rest l. more_agree k p q a room first i end rest l)

    elses : (first : Bool)
        → behind p room first at (marks otherwise) end bytes ≡ behind q room first at (marks otherwise) end bytes
    elses true = refl
    elses false = refl

    go : Opens b → behind p room first at (opcode b) end bytes ≡ behind q room first at (opcode b) end bytes
    go (by_block e f) = same (opens a_block) f (openings a_block e)
    go (by_loop e f) = same (opens a_loop) f (openings a_loop e)
    go (by_if e f) = same (opens an_if) f (openings an_if e)
    go (by_else e f) = same (marks otherwise) f (elses first)
    go (by_end e f) = same (marks closing) f refl
    go (by_none f) =
        same (alone (alone_of b)) f (agree_then k (more p room first) (more q room first)
        (immediates_sound b at (alone_of b) (alone_sound b)) end bytes h
        (λ i rest l. more_agree k p q a room first i end rest l))

listed_agree : (k : ℕ) (p q : Lists) → Agree k p q → ListsSound q → (room : ℕ) (first : Bool) (end : ℕ) (bytes : List ℕ)
    → length bytes ≤ suc k → listed p room first end bytes ≡ listed q room first end bytes
listed_agree k p q a s room first end [] h = refl
listed_agree k p q a s room first end (b ∷ rest) h =
    behind_agree k p q a s room first (place end (b ∷ rest)) b end rest (omega arith)

pub enough : (m n k : ℕ) → k < m → k < n → Agree k (within m) (within n)
enough zero n k h l = absurd (omega arith)
enough (suc m) zero k h l = absurd (omega arith)
enough (suc m) (suc n) zero h l = record { agree = λ room first end bytes e. empty room first end bytes e }
  where
    empty : (room : ℕ) (first : Bool) (end : ℕ) (bytes : List ℕ) → length bytes ≤ zero
        → within (suc m) room first end bytes ≡ within (suc n) room first end bytes
    empty room first end [] e = refl
    empty room first end (b ∷ bytes) e = absurd (omega arith)
enough (suc m) (suc n) (suc k) h l =
    let a = enough m n k (omega arith) (omega arith) in
    record {
      agree = λ room first end bytes e. listed_agree k (λ room first end bytes. within m room first end bytes)
          (λ room first end bytes. within n room first end bytes) (record { agree = a.agree })
          (record { each = (within_sound n).each }) room first end bytes e;
    }

-- the law of reading code
pub instructions_are : (room : ℕ) (first : Bool) (end : ℕ) (bytes : List ℕ)
    → instructions room first end bytes ≡ listed instructions room first end bytes
unfolding instructions
instructions_are room first end [] = refl
instructions_are room first end (b ∷ rest) =
    listed_agree (length rest) (λ room first end bytes. within (suc (length rest)) room first end bytes) instructions
    (record {
      agree = λ room first end bytes h. (enough (suc (length rest)) (suc (length bytes)) (length bytes)
          (omega arith) (omega arith)).agree room first end bytes (omega arith);
    }) instructions_sound room first end (b ∷ rest) (omega arith)
