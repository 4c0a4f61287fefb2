-- Code that is read is spelled by the bytes that were taken.
use Rattle.std.proofs.Common.{◌≡◌, ℕ, zero, suc, ◌≤◌, ◌⊎◌, inl, inr, max, Bool, true, false, cond, eqb, List, [], ◌∷◌}
use Rattle.std.proofs.Common.{◌++◌, length, Option, Some, None, refl, sym, ap, subst, ◌∙◌, append_assoc, arith}
use Rattle.std.proofs.lemmas.Bool.{eqb-true, cond_both}
use Rattle.std.proofs.lemmas.List.{append-nil}
use Rattle.mw_wasm.specs.declared.values.ValType.{ValType}
use Rattle.mw_wasm.specs.declared.values.ValType.TheVariants.{I32, I64}
use Rattle.mw_wasm.specs.Pieces.{Joined, byte}
use Rattle.mw_wasm.specs.Syntax as pure
use Rattle.mw_wasm.specs.Syntax.{Instruction, Code, block, loop, cond as if_else, next}
use Rattle.mw_wasm.specs.BinaryInstructions as piece
use Rattle.mw_wasm.specs.BinaryInstructions.{instruction, code}
use Rattle.mw_wasm.specs.Profile.{depth_of, depth}
use Rattle.mw_leb.specs.ReadingLaws.{Begins}
use Rattle.mw_decode.specs.Reading.{got, Reader, place, ◌>>=◌, gives, Meaning, is, wrong, outside}
use Rattle.mw_decode.specs.Opcodes.{Mark, closing, otherwise, Opener, a_block, a_loop, an_if, Opcode, marks, opens}
use Rattle.mw_decode.specs.Opcodes.{alone, alone_of, opcode}
use Rattle.mw_decode.specs.Instructions.{value_type_of, block_type_of, some_type, block_type, Listed, Lists, ahead}
use Rattle.mw_decode.specs.Instructions.{closed, second, inside, opened, more, immediates, behind, listed, within}
use Rattle.mw_decode.specs.Instructions.{instructions, expression}
use Rattle.mw_decode.proofs.Choices.{not_faulty}
use Rattle.mw_decode.proofs.ReaderSoundness.{Sound, joined_so, joined, begins_with, sound_then, sound_so, sound_gives}
use Rattle.mw_decode.proofs.ReaderSoundness.{sound_last}
use Rattle.mw_decode.proofs.ReaderSoundness.{sound_never, sound_byte, by_byte}
use Rattle.mw_decode.proofs.OpcodeSoundness.{Behind, MeaningSound, alone_sound, opened_by}

-- the opcodes that do not stand alone
pub data Opens (b : ℕ) : Type 0 where
  by_block : b ≡ 0x02 → opcode b ≡ opens a_block → Opens b
  by_loop : b ≡ 0x03 → opcode b ≡ opens a_loop → Opens b
  by_if : b ≡ 0x04 → opcode b ≡ opens an_if → Opens b
  by_else : b ≡ 0x05 → opcode b ≡ marks otherwise → Opens b
  by_end : b ≡ 0x0B → opcode b ≡ marks closing → Opens b
  by_none : opcode b ≡ alone (alone_of b) → Opens b

abbrev Tells : ℕ → Opcode → Type 0
Tells b o = opcode b ≡ o → Opens b

pub opcode_cases : (b : ℕ) → Opens b
unfolding opcode
opcode_cases b =
    cond_both (eqb b 0x02) _ _ (Tells b) (λ e. by_block (eqb-true b 0x02 e))
    (λ _. cond_both (eqb b 0x03) _ _ (Tells b) (λ e. by_loop (eqb-true b 0x03 e))
    (λ _. cond_both (eqb b 0x04) _ _ (Tells b) (λ e. by_if (eqb-true b 0x04 e))
    (λ _. cond_both (eqb b 0x05) _ _ (Tells b) (λ e. by_else (eqb-true b 0x05 e))
    (λ _. cond_both (eqb b 0x0B) _ _ (Tells b) (λ e. by_end (eqb-true b 0x0B e)) (λ _. by_none))))) refl

abbrev pub mark_byte : Mark → ℕ
mark_byte closing = 0x0B
mark_byte otherwise = 0x05

-- a list, its mark, and no more blocks one in another than there was room for
pub record ListTaken (room : ℕ) (first : Bool) (l : Listed) (front : List ℕ) : Type 0 where
  pub spelled : Joined (code l.code) (byte (mark_byte l.mark)) front
  pub shallow : depth l.code ≤ room
  pub marked : first ≡ false → l.mark ≡ closing

pub record ListsSound (lists : Lists) : Type 0 where
  pub each : (room : ℕ) (first : Bool) → Sound (lists room first) (ListTaken room first)

-- code and 0B
abbrev pub ClosedTaken : ℕ → Code → List ℕ → Type 0
ClosedTaken room c front = piece.expression c front × (depth c ≤ room)

pub closed_sound : (lists : Lists) → ListsSound lists → (room : ℕ) → Sound (closed lists room) (ClosedTaken room)
closed_sound lists s room = sound_last (λ l. l.code) (s.each room false)
    (λ l front k. (subst (λ m. Joined (code l.code) (byte (mark_byte m)) front) (k.marked refl) k.spelled, k.shallow))

-- types
no_type : (c d : Bool) (t : ValType) → ◌≡◌ {A = Meaning ValType} (cond c outside (cond d outside wrong)) (is t) → ⊥
no_type true d t e = cc
no_type false true t e = cc
no_type false false t e = cc

pub type_is : (b : ℕ) (t : ValType) → value_type_of b ≡ is t → piece.value_type t (b ∷ [])
type_is b t = by_byte piece.value_type b 0x7F I32 t _ refl (by_byte piece.value_type b 0x7E I64 t _ refl
    (λ e. absurd (no_type (eqb b 0x7D) (eqb b 0x7C) t e)))

some_type_is : (m : Meaning ValType) (t : Option ValType) → some_type m ≡ is t
    → (u : ValType) × (m ≡ is u) × (t ≡ Some u)
some_type_is (is u) t e = (u, refl, (cc))
some_type_is wrong t e = absurd (cc)
some_type_is outside t e = absurd (cc)

pub sound_block_type : Sound block_type piece.block_type
sound_block_type = sound_byte block_type_of λ b t e low. by_byte piece.block_type b 0x40 None t _ refl (λ e.
    let h = some_type_is (value_type_of b) t e in
    subst (λ (u : Option ValType). piece.block_type u (b ∷ [])) (sym h.2) (type_is b h.0 h.1)) e

-- what stands inside a block, behind its type
abbrev pub opener_byte : Opener → ℕ
opener_byte a_block = 0x02
opener_byte a_loop = 0x03
opener_byte an_if = 0x04

pub record InsideTaken (room : ℕ) (o : Opener) (t : Option ValType) (i : Instruction) (front : List ℕ) : Type 0 where
  pub spelled : (head : List ℕ) → Joined (byte (opener_byte o)) (piece.block_type t) head
      → instruction i (head ++ front)
  pub shallow : depth_of i ≤ suc room

-- a head, a body behind it and the end of a value
typed : (m : ℕ) (t : Option ValType) (P : List ℕ → Type 0) (head front : List ℕ)
    → Joined (byte m) (piece.block_type t) head → P front
    → Joined (byte m) (Joined (piece.block_type t) P) (head ++ front)
typed m t P head front h p = record {
  front = h.front;
  back = h.back ++ front;
  whole = ap (λ z. z ++ front) h.whole ∙ append_assoc h.front h.back front;
  first = h.first;
  second = record { front = h.back; back = front; whole = refl; first = h.second; second = p };
}

-- code, then what stands behind it: the way of the second list of an if
pub regroup : (P Q R : List ℕ → Type 0) (front : List ℕ) → Joined (Joined P Q) R front → Joined P (Joined Q R) front
regroup P Q R front h = record {
  front = h.first.front;
  back = h.first.back ++ h.back;
  whole = h.whole ∙ (ap (λ z. z ++ h.back) h.first.whole ∙ append_assoc h.first.front h.first.back h.back);
  first = h.first.first;
  second = record { front = h.first.back; back = h.back; whole = refl; first = h.first.second; second = h.second };
}

deeper : (m n : ℕ) → m ≤ n → suc m ≤ suc n
deeper m n h = omega arith

max_within : (a b n : ℕ) → a ≤ n → b ≤ n → max a b ≤ n
max_within a b n h k = omega arith

pub inside_sound : (lists : Lists) → ListsSound lists → (room : ℕ) (o : Opener) (t : Option ValType)
    → Sound (inside lists room o t) (InsideTaken room o t)
inside_sound lists s room a_block t = sound_last (λ c. block t c) (closed_sound lists s room) (λ c front k. record {
  spelled = λ head b. typed 0x02 t (piece.expression c) head front b k.0;
  shallow = deeper (depth c) room k.1;
})
inside_sound lists s room a_loop t = sound_last (λ c. loop t c) (closed_sound lists s room) (λ c front k. record {
  spelled = λ head b. typed 0x03 t (piece.expression c) head front b k.0;
  shallow = deeper (depth c) room k.1;
})
inside_sound lists s room an_if t = sound_then (s.each room true) λ l. second_sound l.code l.mark
  where
    whole_if : (a b : Code) (front : List ℕ)
        → Joined (code a) (λ f. ((b ≡ pure.end) × byte 0x0B f) ⊎ Joined (byte 0x05) (piece.expression b) f) front
        → depth a ≤ room → depth b ≤ room → InsideTaken room an_if t (if_else t a b) front
    whole_if a b front p h k = record {
      spelled = λ head q. typed 0x04 t _ head front q p;
      shallow = let m = max_within (depth a) (depth b) room h k in omega arith;
    }

    second_sound : (a : Code) (m : Mark) → Sound (second lists room t a m) (λ i back. (front : List ℕ)
        → ListTaken room true (record { code = a; mark = m }) front → InsideTaken room an_if t i (front ++ back))
    second_sound a closing = sound_gives (if_else t a pure.end) (λ front k.
        subst (InsideTaken room an_if t (if_else t a pure.end)) (sym (append-nil front)) (whole_if a pure.end front
        (joined_so k.spelled k.spelled.first (inl (refl, k.spelled.second))) k.shallow (omega arith)))
    second_sound a otherwise = sound_last (λ b. if_else t a b) (closed_sound lists s room) (λ b back c front k.
        let g = regroup (code a) (byte 0x05) (piece.expression b) _ (joined front back k.spelled c.0) in
        whole_if a b (front ++ back) (joined_so g g.first (inr g.second)) k.shallow c.1)

-- behind the opcode of a block
pub record OpenedTaken (room b : ℕ) (i : Instruction) (front : List ℕ) : Type 0 where
  pub spelled : instruction i (b ∷ front)
  pub shallow : depth_of i ≤ room

pub opened_sound : (lists : Lists) → ListsSound lists → (room : ℕ) (o : Opener) (at b : ℕ) → b ≡ opener_byte o
    → Sound (opened lists room o at) (OpenedTaken room b)
opened_sound lists s zero o at b e = sound_never (λ end bytes x rest h. not_faulty _ x rest h)
opened_sound lists s (suc room) o at b e =
    sound_then sound_block_type λ t. sound_so (inside_sound lists s room o t) (λ i back k front p. record {
      spelled = k.spelled (b ∷ front) (opened_by (opener_byte o) b (piece.block_type t) front e p);
      shallow = k.shallow;
    })

-- one more instruction before a list
pub more_taken : (room : ℕ) (first : Bool) (b : ℕ) (i : Instruction) (l : Listed) (front : List ℕ)
    → Joined (OpenedTaken room b i) (ListTaken room first l) front → ListTaken room first (ahead i l) (b ∷ front)
more_taken room first b i l front h = record {
  spelled = record {
    front = b ∷ (h.front ++ h.second.spelled.front);
    back = h.second.spelled.back;
    whole =
        ap (λ z. b ∷ z) (h.whole
        ∙ (ap (λ z. h.front ++ z) h.second.spelled.whole
        ∙ sym (append_assoc h.front h.second.spelled.front h.second.spelled.back)));
    first = record {
      front = b ∷ h.front;
      back = h.second.spelled.front;
      whole = refl;
      first = h.first.spelled;
      second = h.second.spelled.first;
    };
    second = h.second.spelled.second;
  };
  shallow = let m = max_within (depth_of i) (depth l.code) room h.first.shallow h.second.shallow in m;
  marked = h.second.marked;
}

-- Lists: what is behind each opcode
pub immediates_sound : (b at : ℕ) (m : Meaning (Reader Instruction)) → MeaningSound b m
    → Sound (immediates at m) (Behind b)
immediates_sound b at (is r) s = s
immediates_sound b at wrong s = sound_never (λ end bytes x rest h. not_faulty _ x rest h)
immediates_sound b at outside s = sound_never (λ end bytes x rest h. not_faulty _ x rest h)

-- the list that begins with this byte
abbrev pub ListBehind : ℕ → Bool → ℕ → Listed → List ℕ → Type 0
ListBehind room first b l front = ListTaken room first l (b ∷ front)

more_sound : (lists : Lists) → ListsSound lists → (room : ℕ) (first : Bool) (b : ℕ) (r : Reader Instruction)
    → Sound r (OpenedTaken room b) → Sound (r >>= more lists room first) (ListBehind room first b)
more_sound lists s room first b r t =
    sound_then t λ i. sound_last (λ l. ahead i l) (s.each room first) (λ l back k front p.
    more_taken room first b i l (front ++ back) (joined front back p k))

mark_sound : (room : ℕ) (first : Bool) (m : Mark) (b : ℕ) → b ≡ mark_byte m → (first ≡ false → m ≡ closing)
    → Sound (gives (record { code = pure.end; mark = m })) (ListBehind room first b)
mark_sound room first m b e k = sound_gives (record { code = pure.end; mark = m }) (record {
  spelled = joined [] (b ∷ []) refl (ap (λ z. z ∷ []) e);
  shallow = omega arith;
  marked = k;
})

flat_sound : (room b : ℕ) (r : Reader Instruction) → Sound r (Behind b) → Sound r (OpenedTaken room b)
flat_sound room b r s = sound_so s (λ i front h. record { spelled = h.0; shallow = rw h.1 (omega arith) })

behind_sound : (lists : Lists) → ListsSound lists → (room : ℕ) (first : Bool) (at b : ℕ)
    → Sound (behind lists room first at (opcode b)) (ListBehind room first b)
behind_sound lists s room first at b = go (opcode_cases b)
  where
    else_sound : (first : Bool) → b ≡ 0x05
        → Sound (behind lists room first at (marks otherwise)) (ListBehind room first b)
    else_sound true e = mark_sound room true otherwise b e (λ h. absurd (cc))
    else_sound false e = sound_never (λ end bytes x rest h. not_faulty _ x rest h)

    at_code : (o : Opcode) → opcode b ≡ o → Sound (behind lists room first at o) (ListBehind room first b)
        → Sound (behind lists room first at (opcode b)) (ListBehind room first b)
    at_code o k t = subst (λ (o : Opcode). Sound (behind lists room first at o) (ListBehind room first b)) (sym k) t

    block_sound : (o : Opener) → b ≡ opener_byte o → Sound (behind lists room first at (opens o))
        (ListBehind room first b)
    block_sound o e =
        more_sound lists s room first b (opened lists room o at) (opened_sound lists s room o at b e)

    go : Opens b → Sound (behind lists room first at (opcode b)) (ListBehind room first b)
    go (by_block e k) = at_code (opens a_block) k (block_sound a_block e)
    go (by_loop e k) = at_code (opens a_loop) k (block_sound a_loop e)
    go (by_if e k) = at_code (opens an_if) k (block_sound an_if e)
    go (by_else e k) = at_code (marks otherwise) k (else_sound first e)
    go (by_end e k) = at_code (marks closing) k (mark_sound room first closing b e (λ h. refl))
    go (by_none k) =
        at_code (alone (alone_of b)) k (more_sound lists s room first b (immediates at (alone_of b))
        (flat_sound room b (immediates at (alone_of b)) (immediates_sound b at (alone_of b) (alone_sound b))))

listed_sound : (lists : Lists) → ListsSound lists → ListsSound (listed lists)
listed_sound lists s =
    record { each = λ room first. record { sound = λ end bytes x rest e. go room first end bytes x rest e } }
  where
    go : (room : ℕ) (first : Bool) (end : ℕ) (bytes : List ℕ) (x : Listed) (rest : List ℕ)
        → listed lists room first end bytes ≡ got x rest → Begins (ListTaken room first x) bytes rest
    go room first end [] x rest e = absurd (cc)
    go room first end (b ∷ r) x rest e =
        begins_with b r rest ((behind_sound lists s room first (place end (b ∷ r)) b).sound end r x rest e)

pub within_sound : (n : ℕ) → ListsSound (within n)
within_sound zero = record { each = λ room first. record { sound = λ end bytes x rest e. absurd (cc) } }
within_sound (suc n) =
    let h = listed_sound (λ room first end bytes. within n room first end bytes) (within_sound n) in
    record {
      each = λ room first. record { sound = λ end bytes x rest e. (h.each room first).sound end bytes x rest e };
    }

-- What is read as code is spelled so, and is not too deep.
pub instructions_sound : ListsSound instructions
unfolding instructions
instructions_sound = record {
  each = λ room first. record {
    sound = λ end bytes x rest e. ((within_sound (suc (length bytes))).each room first).sound end bytes x rest e;
  };
}

pub expression_sound : Sound expression (ClosedTaken 500)
expression_sound = closed_sound instructions instructions_sound 500
