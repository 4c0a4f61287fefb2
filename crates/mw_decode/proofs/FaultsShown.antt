-- What a first fault shows, in the words of the format.
use Rattle.std.proofs.Common.{◌≡◌, ◌<◌, ◌≤◌, ℕ, ◌+◌, ◌-◌, inl, inr, false, List, ◌∷◌, ◌++◌, length, take, drop, Result, Ok, Err, refl}
use Rattle.std.proofs.Common.{sym, ap, ◌∙◌, append_assoc, arith, length-append}
use Rattle.std.proofs.lemmas.Bool.{cond-false}
use Rattle.std.proofs.lemmas.List.{take-append-drop, length-take}
use Rattle.mw_wasm.specs.Syntax.{PureModule}
use Rattle.mw_decode.specs.declared.fault.BadModule.{BadModule}
use Rattle.mw_decode.specs.declared.fault.BadModule.TheVariants.{Magic, Section, Size, Number, Opcode, OutsideProfile, Short}
use Rattle.mw_decode.specs.Reading.{Read, got, ended, faulty}
use Rattle.mw_decode.specs.Sections.{Parts, answer, starts, sections, module_in}
use Rattle.mw_decode.specs.FaultLaws.{SpellsNone, BeginsNone, IsShown}
use Rattle.mw_decode.proofs.Choices.{either_is, passes}
use Rattle.mw_decode.proofs.ModuleCompleteness.{spelled_module_is_read, header_bytes}
use Rattle.mw_decode.proofs.ModuleSoundness.{header_is, answered}
use Rattle.mw_decode.proofs.SharedNumbers.{take_past}
use Rattle.mw_decode.proofs.SharedModules.{shared_sections}

not_both : (bytes : List ℕ) (f : BadModule) (m : PureModule) → module_in bytes ≡ Err f → module_in bytes ≡ Ok m → ⊥
not_both bytes f m e g = let h = sym e ∙ g in cc

pub spells_none : (bytes : List ℕ) (f : BadModule) → module_in bytes ≡ Err f → SpellsNone bytes
spells_none bytes f e m s w = not_both bytes f m e (spelled_module_is_read m bytes s w)

no_header : (at : ℕ) → ◌≡◌ {A = Result PureModule BadModule} (Err Magic) (Err (Opcode at)) → ⊥
no_header at e = cc

answer_wrong : (len at : ℕ) (r : Read Parts) → answer len r ≡ Err (Opcode at) → r ≡ faulty (Opcode at)
answer_wrong len at (got p rest) e = absurd (cc)
answer_wrong len at ended e = absurd (cc)
answer_wrong len at (faulty f) e = let h : f ≡ Opcode at = (cc) in ap faulty h

-- a file behind its header
record Behind (bytes : List ℕ) (at : ℕ) : Type 0 where
  whole : bytes ≡ header_bytes ++ drop 8 bytes
  read : sections (length bytes) (drop 8 bytes) ≡ faulty (Opcode at)

behind : (bytes : List ℕ) (at : ℕ) → module_in bytes ≡ Err (Opcode at) → Behind bytes at
behind bytes at e =
    let q = passes (starts bytes) _ _ _ e (no_header at) in
    record { whole = header_is bytes q.0; read = answer_wrong (length bytes) at _ q.1 }

long : (bytes : List ℕ) (at : ℕ) → Behind bytes at → length bytes ≡ 8 + length (drop 8 bytes)
long bytes at b = ap length b.whole ∙ length-append header_bytes (drop 8 bytes)

opcode_placed : (bytes : List ℕ) (at : ℕ) → Behind bytes at → (8 ≤ at) × (at < length bytes)
opcode_placed bytes at b = shared_sections.placed 8 (length bytes) at (drop 8 bytes) (long bytes at b) b.read

no_magic : (m : PureModule) → ◌≡◌ {A = Result PureModule BadModule} (Err Magic) (Ok m) → ⊥
no_magic m e = cc

behind_header : (tail : List ℕ) (m : PureModule) → module_in (header_bytes ++ tail) ≡ Ok m
    → (p : Parts) × (rest : List ℕ) × (sections (length (header_bytes ++ tail)) tail ≡ got p rest)
behind_header tail m e =
    let a = answered (length (header_bytes ++ tail)) (sections (length (header_bytes ++ tail)) tail) m e in
    (a.0, a.1, a.2)

opcode_begins : (bytes : List ℕ) (at : ℕ) → Behind bytes at → BeginsNone (take (at + 1) bytes)
opcode_begins bytes at b back m s w =
    let l = opcode_placed bytes at b in
    let low = l.0 in
    let high = l.1 in
    let n = at + 1 - 8 in
    let tail = drop 8 bytes in
    let f = take n tail in
    let c = drop n tail in
    let n_is : at + 1 - length header_bytes ≡ n = refl in
    let front : take (at + 1) bytes ≡ header_bytes ++ f =
    ap (take (at + 1)) b.whole ∙ take_past header_bytes tail (at + 1) (omega arith) in
    let whole : take (at + 1) bytes ++ back ≡ header_bytes ++ (f ++ back) =
    ap (λ z. z ++ back) front ∙ append_assoc header_bytes f back in
    let read : module_in (header_bytes ++ (f ++ back)) ≡ Ok m =
    sym (ap module_in whole) ∙ spelled_module_is_read m (take (at + 1) bytes ++ back) s w in
    let g = behind_header (f ++ back) m read in
    let parts : tail ≡ f ++ c = sym (take-append-drop n tail) in
    let e1 = long bytes at b in
    shared_sections.fault 8 (length bytes) (length (header_bytes ++ (f ++ back))) at f c back
    (e1 ∙ ap (λ z. 8 + length z) parts) (length-append header_bytes (f ++ back))
    (ap (sections (length bytes)) (sym parts) ∙ b.read) (omega (arith, length-take n tail)) g.0 g.1 g.2

pub opcode_shown : (bytes : List ℕ) (at : ℕ) → module_in bytes ≡ Err (Opcode at)
    → (at < length bytes) × BeginsNone (take (at + 1) bytes)
opcode_shown bytes at e =
    let b = behind bytes at e in ((opcode_placed bytes at b).1, opcode_begins bytes at b)

-- a wrong header
answer_header : (len : ℕ) (r : Read Parts) → answer len r ≡ Err Magic → r ≡ faulty Magic
answer_header len (got p rest) e = absurd (cc)
answer_header len ended e = absurd (cc)
answer_header len (faulty f) e = let h : f ≡ Magic = (cc) in ap faulty h

starts_false : (bytes : List ℕ) → module_in bytes ≡ Err Magic → starts bytes ≡ false
starts_false bytes e = elim (either_is (starts bytes) _ _ _ e) [
  | inl q ↦ absurd (shared_sections.no_header (length bytes) (drop 8 bytes) (answer_header (length bytes) _ q.1))
  | inr q ↦ q.0
]

first_eight : (bytes back : List ℕ) → 8 ≤ length bytes → starts (take 8 bytes ++ back) ≡ starts bytes
first_eight (b0 ∷ b1 ∷ b2 ∷ b3 ∷ b4 ∷ b5 ∷ b6 ∷ b7 ∷ rest) back h = refl
first_eight bytes back h = absurd (omega arith)

magic_shown : (bytes : List ℕ) → module_in bytes ≡ Err Magic → 8 ≤ length bytes → BeginsNone (take 8 bytes)
magic_shown bytes e l back m s w =
    let f = first_eight bytes back l ∙ starts_false bytes e in
    not_both (take 8 bytes ++ back) Magic m (cond-false (starts (take 8 bytes ++ back)) _ _ f)
    (spelled_module_is_read m (take 8 bytes ++ back) s w)

pub shown : (bytes : List ℕ) (f : BadModule) → module_in bytes ≡ Err f → IsShown bytes f
shown bytes Magic e = magic_shown bytes e
shown bytes (Opcode at) e = opcode_shown bytes at e
shown bytes (Section at) e = tt
shown bytes (Size at) e = tt
shown bytes (Number at) e = tt
shown bytes (OutsideProfile at) e = tt
shown bytes (Short at) e = tt
