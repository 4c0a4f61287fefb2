-- Bytes, numbers, vectors and regions of a stated size, read from bytes that begin alike.
use Rattle.std.proofs.Common.{◌≡◌, ◌<◌, ◌≤◌, ℕ, zero, suc, ◌+◌, ◌-◌, ◌⊎◌, inl, inr, Bool, true, false, cond, leb, ltb}
use Rattle.std.proofs.Common.{List, [], ◌∷◌, ◌++◌, length, take, drop, refl, sym, ap, ◌∙◌, arith, length-append}
use Rattle.std.proofs.Common.{◌*◌, ◌^◌, Ok, Err, Some, None, length-drop}
use Rattle.std.proofs.Common.{ℤ, pos, ◌+ℤ◌, ◌-ℤ◌, ◌*ℤ◌}
use Rattle.std.proofs.lemmas.Bool.{leb-true, leb-false}
use Rattle.std.proofs.lemmas.List.{take-append-drop, length-take, take-append-le, drop-append-le}
use Rattle.mw_decode.specs.declared.fault.BadModule.TheVariants as bad
use Rattle.mw_decode.specs.declared.fault.BadModule.TheVariants.{Magic, Opcode}
use Rattle.mw_leb.specs.Reading.{Number, unsigned, signed, longer}
use Rattle.mw_leb.specs.declared.reading.Leb.{Leb}
use Rattle.mw_leb.specs.declared.reading.Leb.TheVariants as leb_fault
use Rattle.mw_leb.proofs.ReadNumbers.{unsigned_spelled, signed_spelled}
use Rattle.mw_wasm.specs.Leb.{unsigned_of}
use Rattle.mw_decode.specs.Reading.{Read, got, ended, faulty, Reader, place, Meaning, is, wrong}
use Rattle.mw_decode.specs.Reading.{outside, meant, byte_of, numbered, u32, i32, i64, at_most, times, vector, optional}
use Rattle.mw_decode.specs.Reading.{up_to, sized, fixed, only}
use Rattle.mw_decode.proofs.Choices.{passes}
use Rattle.mw_decode.proofs.ReaderSoundness.{got_parts, numbered_got}
use Rattle.mw_decode.proofs.SharedFronts.{Same, Shared, Follows, Silent, shared_head, follows_shared, follows_wrong}
use Rattle.mw_decode.proofs.SharedFronts.{follows_silent, shared_silent, shared_if, shared_gives, shared_bound}
use Rattle.mw_decode.proofs.SharedFronts.{shared_then}

-- faults of other kinds
pub silent_outside : {A : Type 0} (at : ℕ) → Silent {A = A} (λ e bytes. faulty (bad.OutsideProfile at))
silent_outside at = record {
  no_value = λ e bytes x rest h. cc;
  no_wrong = λ e bytes at h. cc;
  no_header = λ e bytes h.
      cc;
}

pub silent_outside_here : {A : Type 0} (b : ℕ)
    → Silent {A = A} (λ e bytes. faulty (bad.OutsideProfile (place e (b ∷ bytes))))
silent_outside_here b =
    record { no_value = λ e bytes x rest h. cc; no_wrong = λ e bytes at h. cc; no_header = λ e bytes h. cc }

pub silent_section_here : {A : Type 0} (b : ℕ)
    → Silent {A = A} (λ e bytes. faulty (bad.Section (place e (b ∷ bytes))))
silent_section_here b =
    record { no_value = λ e bytes x rest h. cc; no_wrong = λ e bytes at h. cc; no_header = λ e bytes h. cc }

pub silent_section : {A : Type 0} (at : ℕ) → Silent {A = A} (λ e bytes. faulty (bad.Section at))
silent_section at = record {
  no_value = λ e bytes x rest h. cc;
  no_wrong = λ e bytes at h. cc;
  no_header = λ e bytes h.
      cc;
}

pub silent_size : {A : Type 0} (at : ℕ) → Silent {A = A} (λ e bytes. faulty (bad.Size at))
silent_size at = record {
  no_value = λ e bytes x rest h. cc;
  no_wrong = λ e bytes at h. cc;
  no_header = λ e bytes h.
      cc;
}

pub silent_end : {A : Type 0} → Silent {A = A} (λ e bytes. ended)
silent_end = record { no_value = λ e bytes x rest h. cc; no_wrong = λ e bytes at h. cc; no_header = λ e bytes h. cc }

-- bytes
shared_meant : {A : Type 0} (b : ℕ) (m : Meaning A) → Follows b (λ e rest. meant (place e (b ∷ rest)) rest m)
shared_meant b (is x) = follows_shared b (shared_gives x)
shared_meant b wrong = follows_wrong b
shared_meant b outside = follows_silent b (silent_outside_here b)

pub shared_byte : {A : Type 0} (meaning : ℕ → Meaning A) → Shared (byte_of meaning)
shared_byte meaning =
    shared_head (byte_of meaning) (λ e at h. cc) (λ e h. cc) (λ e x rest h. absurd (cc))
    (λ b. shared_meant b (meaning b))

pub shared_fixed : (m : ℕ) → Shared (fixed m)
shared_fixed m = shared_byte (only m tt)

-- numbers
ok_parts : {A : Type 0} (x y : A × List ℕ) → ◌≡◌ {A = Number A} (Ok x) (Ok y) → x ≡ y
ok_parts x y e = cc

longer_ok : {A : Type 0} (g : A → A) (r : Number A) (x : A × List ℕ) → longer g r ≡ Ok x
    → (m : A) × (r ≡ Ok (m, x.1)) × (g m ≡ x.0)
longer_ok g (Ok p) x e =
    let h = ok_parts (g p.0, p.1) x e in (p.0, ap (λ (y : _). Ok (p.0, y.1)) h, ap (λ (y : _). y.0) h)
longer_ok g (Err d) x e = absurd (cc)

-- two numbers that are read of bytes that begin alike
abbrev BothGive : {A : Type 0} → List ℕ → List ℕ → List ℕ → Number A → Number A → Type 0
BothGive {A} f c1 c2 m n =
    (x y : A × List ℕ) → m ≡ Ok x → n ≡ Ok y → Same f c1 c2 x.0 y.0 x.1 y.1 ⊎ (length x.1 ≤ length c1)

last_byte : {A : Type 0} (b : ℕ) (v : A) (f c1 c2 : List ℕ)
    → BothGive (b ∷ f) c1 c2 (Ok (v, f ++ c1)) (Ok (v, f ++ c2))
last_byte b v f c1 c2 x y h g =
    let k = ok_parts (v, f ++ c1) x h in
    let j = ok_parts (v, f ++ c2) y g in inl (record {
      used = b ∷ [];
      left = f;
      whole = refl;
      value = sym (ap (λ (z : _). z.0) k) ∙ ap (λ (z : _). z.0) j;
      one = sym (ap (λ (z : _). z.1) k);
      two = sym (ap (λ (z : _). z.1) j);
    })

no_number : {A : Type 0} (d : Leb) (f c1 c2 : List ℕ) → BothGive {A = A} f c1 c2 (Err d) (Err d)
no_number d f c1 c2 x y h g = absurd (cc)

number_if : {A : Type 0} (c : Bool) (f c1 c2 : List ℕ) (m n m2 n2 : Number A) → BothGive f c1 c2 m n
    → BothGive f c1 c2 m2 n2 → BothGive f c1 c2 (cond c m m2) (cond c n n2)
number_if true f c1 c2 m n m2 n2 s t = s
number_if false f c1 c2 m n m2 n2 s t = t

goes_on : {A : Type 0} (b : ℕ) (g : A → A) (f c1 c2 : List ℕ) (m n : Number A) → BothGive f c1 c2 m n
    → BothGive (b ∷ f) c1 c2 (longer g m) (longer g n)
goes_on b g f c1 c2 m n s x y h q =
    let k = longer_ok g m x h in
    let j = longer_ok g n y q in
    elim (s (k.0, x.1) (j.0, y.1) k.1 j.1) [
      | inl m ↦ inl (record {
        used = b ∷ m.used;
        left = m.left;
        whole = ap (λ z. b ∷ z) m.whole;
        value = sym k.2 ∙ (ap g m.value ∙ j.2);
        one = m.one;
        two = m.two;
      })
      | inr l ↦ inr l
    ]

unsigned_shorter : (N : ℕ) (bytes : List ℕ) (x : ℕ × List ℕ) → unsigned N bytes ≡ Ok x → length x.1 ≤ length bytes
unsigned_shorter N bytes x h =
    let k = unsigned_spelled N x.0 bytes x.1 h in omega (arith, ap length k.whole, length-append k.front x.1)

signed_shorter : (N : ℕ) (bytes : List ℕ) (x : ℤ × List ℕ) → signed N bytes ≡ Ok x → length x.1 ≤ length bytes
signed_shorter N bytes x h =
    let k = signed_spelled N x.0 bytes x.1 h in omega (arith, ap length k.whole, length-append k.front x.1)

unsigned_both : (f : List ℕ) (N : ℕ) (c1 c2 : List ℕ) → BothGive f c1 c2 (unsigned N (f ++ c1)) (unsigned N (f ++ c2))
unsigned_both [] N c1 c2 = λ x y h g. inr (unsigned_shorter N c1 x h)
unsigned_both (b ∷ f) N c1 c2 =
    let F = b ∷ f in
    number_if (ltb b 128) F c1 c2 _ _ _ _
    (number_if (ltb b (2 ^ N)) F c1 c2 _ _ _ _ (last_byte b b f c1 c2) (no_number leb_fault.UnusedBits F c1 c2))
    (number_if (leb N 7) F c1 c2 _ _ _ _ (no_number leb_fault.TooLong F c1 c2)
    (goes_on b (λ m. 128 * m + (b - 128)) f c1 c2 _ _ (unsigned_both f (N - 7) c1 c2)))

signed_both : (f : List ℕ) (N : ℕ) (c1 c2 : List ℕ) → BothGive f c1 c2 (signed N (f ++ c1)) (signed N (f ++ c2))
signed_both [] N c1 c2 = λ x y h g. inr (signed_shorter N c1 x h)
signed_both (b ∷ f) N c1 c2 =
    let F = b ∷ f in
    number_if (ltb b 128) F c1 c2 _ _ _ _
    (number_if (ltb b 64) F c1 c2 _ _ _ _
    (number_if (ltb b (2 ^ (N - 1))) F c1 c2 _ _ _ _ (last_byte b (pos b) f c1 c2)
    (no_number leb_fault.UnusedBits F c1 c2))
    (number_if (leb 128 (b + 2 ^ (N - 1))) F c1 c2 _ _ _ _ (last_byte b (pos b -ℤ pos 128) f c1 c2)
    (no_number leb_fault.UnusedBits F c1 c2)))
    (number_if (leb N 7) F c1 c2 _ _ _ _ (no_number leb_fault.TooLong F c1 c2)
    (goes_on b (λ m. (pos 128 *ℤ m) +ℤ pos (b - 128)) f c1 c2 _ _ (signed_both f (N - 7) c1 c2)))

no_header_number : {A : Type 0} (n : Number A) (here : ℕ) → numbered here n ≡ faulty Magic → ⊥
no_header_number (Ok p) here e = cc
no_header_number (Err leb_fault.Short) here e = cc
no_header_number (Err leb_fault.TooLong) here e = cc
no_header_number (Err leb_fault.UnusedBits) here e = cc

no_wrong_number : {A : Type 0} (n : Number A) (here at : ℕ) → numbered here n ≡ faulty (Opcode at) → ⊥
no_wrong_number (Ok p) here at e = cc
no_wrong_number (Err leb_fault.Short) here at e = cc
no_wrong_number (Err leb_fault.TooLong) here at e = cc
no_wrong_number (Err leb_fault.UnusedBits) here at e = cc

shared_number : {A : Type 0} (r : List ℕ → Number A)
    → ((f c1 c2 : List ℕ) → BothGive f c1 c2 (r (f ++ c1)) (r (f ++ c2)))
    → ((bytes : List ℕ) (x : A × List ℕ) → r bytes ≡ Ok x → length x.1 ≤ length bytes)
    → Shared (λ e bytes. numbered (place e bytes) (r bytes))
shared_number r both less = record {
  fault = λ p e1 e2 at f c1 c2 w1 w2 h l y rest g. no_wrong_number (r (f ++ c1)) (place e1 (f ++ c1)) at h;
  both = λ p e1 e2 f c1 c2 x y rest1 rest2 w1 w2 h g. both f c1 c2 (x, rest1) (y, rest2)
      (numbered_got (r (f ++ c1)) (place e1 (f ++ c1)) x rest1 h)
      (numbered_got (r (f ++ c2)) (place e2 (f ++ c2)) y rest2 g);
  placed = λ p e at bytes w h. absurd (no_wrong_number (r bytes) (place e bytes) at h);
  shorter = λ e bytes x rest h. less bytes (x, rest) (numbered_got (r bytes) (place e bytes) x rest h);
  no_header = λ e bytes h. no_header_number (r bytes) (place e bytes) h;
}

pub shared_u32 : Shared u32
shared_u32 = shared_number (unsigned 32) (λ f c1 c2. unsigned_both f 32 c1 c2)
    (λ bytes x h. unsigned_shorter 32 bytes x h)

shared_signed : (N : ℕ) → Shared (λ e bytes. numbered (place e bytes) (signed N bytes))
shared_signed N = shared_number (signed N) (λ f c1 c2. signed_both f N c1 c2) (λ bytes x h. signed_shorter N bytes x h)

pub shared_i32 : Shared i32
shared_i32 = shared_then (shared_signed 32) λ z. shared_gives (unsigned_of 32 z)

pub shared_i64 : Shared i64
shared_i64 = shared_then (shared_signed 64) λ z. shared_gives (unsigned_of 64 z)

pub shared_at_most : (most : ℕ) → Shared (at_most most)
shared_at_most most =
    shared_bound u32 (λ at n e rest. cond (leb n most) (got n rest) (faulty (bad.OutsideProfile at))) shared_u32
    (λ at n. shared_if (leb n most) (shared_gives n) (shared_silent (silent_outside at)))

-- so many items
pub shared_times : {A : Type 0} {r : Reader A} (n : ℕ) → Shared r → Shared (times n r)
shared_times zero s = shared_gives []
shared_times (suc n) s = shared_then s λ x. shared_then (shared_times n s) λ xs. shared_gives (x ∷ xs)

pub shared_vector : {A : Type 0} {r : Reader A} → Shared r → Shared (vector r)
shared_vector s = shared_then shared_u32 λ n. shared_times n s

pub shared_optional : {A : Type 0} {r : Reader A} (n : ℕ) → Shared r → Shared (optional n r)
shared_optional zero s = shared_gives None
shared_optional (suc n) s = shared_then s λ x. shared_gives (Some x)

pub nat_cases : (a b : ℕ) → (a ≤ b) ⊎ (b ≤ a)
nat_cases a b = go (leb a b) refl
  where
    go : (c : Bool) → leb a b ≡ c → (a ≤ b) ⊎ (b ≤ a)
    go true e = inl (leb-true a b e)
    go false e = inr (let l = leb-false a b e in omega arith)

-- a region of a stated size
up_to_got : {A : Type 0} (at : ℕ) (behind : List ℕ) (m : Read A) (x : A) (rest : List ℕ)
    → up_to at behind m ≡ got x rest → (m ≡ got x []) × (behind ≡ rest)
up_to_got at behind (got y []) x rest e = let h = got_parts y x behind rest e in (ap (λ z. got z []) h.0, h.1)
up_to_got at behind (got y (b ∷ bytes)) x rest e = absurd (cc)
up_to_got at behind ended x rest e = absurd (cc)
up_to_got at behind (faulty f) x rest e = absurd (cc)

up_to_wrong : {A : Type 0} (at : ℕ) (behind : List ℕ) (m : Read A) (n : ℕ) → up_to at behind m ≡ faulty (Opcode n)
    → m ≡ faulty (Opcode n)
up_to_wrong at behind (got y []) n e = absurd (cc)
up_to_wrong at behind (got y (b ∷ bytes)) n e = absurd (cc)
up_to_wrong at behind ended n e = absurd (cc)
up_to_wrong at behind (faulty f) n e = let h : f ≡ Opcode n = (cc) in ap faulty h

up_to_header : {A : Type 0} (at : ℕ) (behind : List ℕ) (m : Read A) → up_to at behind m ≡ faulty Magic
    → m ≡ faulty Magic
up_to_header at behind (got y []) e = absurd (cc)
up_to_header at behind (got y (b ∷ bytes)) e = absurd (cc)
up_to_header at behind ended e = absurd (cc)
up_to_header at behind (faulty f) e = let h : f ≡ Magic = (cc) in ap faulty h

pub take_past : (f c : List ℕ) (n : ℕ) → length f ≤ n → take n (f ++ c) ≡ f ++ take (n - length f) c
take_past [] c n h = ap (λ k. take k c) (omega arith)
take_past (b ∷ f) c zero h = absurd (omega arith)
take_past (b ∷ f) c (suc n) h =
    ap (λ z. b ∷ z) (take_past f c n (omega arith) ∙ ap (λ k. f ++ take k c) (omega arith))

module _ {A : Type 0} (content : Reader A) (past : ℕ → Read A) (at size : ℕ) (s : Shared content)
    (t : Silent {A = A} (λ e bytes. past at)) where
  abbrev region : Reader A
  region e rest = cond (leb size (length rest))
      (up_to at (drop size rest) (content (place e rest + size) (take size rest))) (past at)

  region_got : (e : ℕ) (bytes : List ℕ) (x : A) (rest : List ℕ) → region e bytes ≡ got x rest
      → (size ≤ length bytes) × (content (place e bytes + size) (take size bytes) ≡ got x [])
      × (drop size bytes ≡ rest)
  region_got e bytes x rest h =
      let q = passes (leb size (length bytes)) _ _ _ h (λ g. t.no_value e bytes x rest g) in
      let u = up_to_got at (drop size bytes) _ x rest q.1 in (leb-true size (length bytes) q.0, u.0, u.1)

  region_wrong : (e : ℕ) (bytes : List ℕ) (n : ℕ) → region e bytes ≡ faulty (Opcode n)
      → (size ≤ length bytes) × (content (place e bytes + size) (take size bytes) ≡ faulty (Opcode n))
  region_wrong e bytes n h =
      let q = passes (leb size (length bytes)) _ _ _ h (λ g. t.no_wrong e bytes n g) in
      (leb-true size (length bytes) q.0, up_to_wrong at (drop size bytes) _ n q.1)

  -- the content where the region ends in what is shared, and where it ends behind
  within_it : (p e : ℕ) (f c : List ℕ) (m : Read A) → e ≡ p + length (f ++ c) → size ≤ length f
      → content (place e (f ++ c) + size) (take size (f ++ c)) ≡ m → content (p + size) (take size f) ≡ m
  within_it p e f c m w l h =
      let a : place e (f ++ c) ≡ p = omega arith in
      sym (ap (λ n. content (n + size) (take size f)) a)
      ∙ (sym (ap (content (place e (f ++ c) + size)) (take-append-le size f c l)) ∙ h)

  behind_it : (p e : ℕ) (f c : List ℕ) (m : Read A) → e ≡ p + length (f ++ c) → length f ≤ size
      → content (place e (f ++ c) + size) (take size (f ++ c)) ≡ m
      → content (p + size) (f ++ take (size - length f) c) ≡ m
  behind_it p e f c m w l h =
      let a : place e (f ++ c) ≡ p = omega arith in
      sym (ap (λ n. content (n + size) (f ++ take (size - length f) c)) a)
      ∙ (sym (ap (content (place e (f ++ c) + size)) (take_past f c size l)) ∙ h)

  end_of : (p : ℕ) (f c : List ℕ) → length f ≤ size → size ≤ length (f ++ c)
      → p + size ≡ p + length (f ++ take (size - length f) c)
  end_of p f c l h = omega (
    arith,
    length-append f c,
    length-append f (take (size - length f) c),
    length-take (size - length f) c,
  )

  region_fault : (p e1 e2 n : ℕ) (f c1 c2 : List ℕ) → e1 ≡ p + length (f ++ c1) → e2 ≡ p + length (f ++ c2)
      → region e1 (f ++ c1) ≡ faulty (Opcode n) → n < p + length f → (y : A) (rest : List ℕ)
      → region e2 (f ++ c2) ≡ got y rest → ⊥
  region_fault p e1 e2 n f c1 c2 w1 w2 h l y rest g =
      let k = region_wrong e1 (f ++ c1) n h in
      let j = region_got e2 (f ++ c2) y rest g in
      elim (nat_cases size (length f)) [
        | inl i ↦
            let a = within_it p e1 f c1 _ w1 i k.1 in
            let b = within_it p e2 f c2 _ w2 i j.1 in absurd (let e = sym a ∙ b in cc)
        | inr i ↦ s.fault p (p + size) (p + size) n f (take (size - length f) c1) (take (size - length f) c2)
            (end_of p f c1 i k.0) (end_of p f c2 i j.0) (behind_it p e1 f c1 _ w1 i k.1) l y []
            (behind_it p e2 f c2 _ w2 i j.1)
      ]

  region_both : (p e1 e2 : ℕ) (f c1 c2 : List ℕ) (x y : A) (rest1 rest2 : List ℕ) → e1 ≡ p + length (f ++ c1)
      → e2 ≡ p + length (f ++ c2) → region e1 (f ++ c1) ≡ got x rest1 → region e2 (f ++ c2) ≡ got y rest2
      → Same f c1 c2 x y rest1 rest2 ⊎ (length rest1 ≤ length c1)
  region_both p e1 e2 f c1 c2 x y rest1 rest2 w1 w2 h g =
      let k = region_got e1 (f ++ c1) x rest1 h in
      let j = region_got e2 (f ++ c2) y rest2 g in
      elim (nat_cases size (length f)) [
        | inl i ↦
            let a = within_it p e1 f c1 _ w1 i k.1 in
            let b = within_it p e2 f c2 _ w2 i j.1 in
            inl (record {
              used = take size f;
              left = drop size f;
              whole = sym (take-append-drop size f);
              value = (got_parts x y [] [] (sym a ∙ b)).0;
              one = sym k.2 ∙ drop-append-le size f c1 i;
              two = sym j.2 ∙ drop-append-le size f c2 i;
            })
        | inr i ↦ inr (omega (arith, ap length k.2, length-drop size (f ++ c1), length-append f c1))
      ]

  region_placed : (p e n : ℕ) (bytes : List ℕ) → e ≡ p + length bytes → region e bytes ≡ faulty (Opcode n)
      → (p ≤ n) × (n < e)
  region_placed p e n bytes w h =
      let k = region_wrong e bytes n h in
      let a : place e bytes ≡ p = omega arith in
      let fits = k.0 in
      let z = s.placed p (place e bytes + size) n (take size bytes) (omega (arith, length-take size bytes)) k.1 in
      let i = z.1 in (z.0, omega arith)

  region_shorter : (e : ℕ) (bytes : List ℕ) (x : A) (rest : List ℕ) → region e bytes ≡ got x rest
      → length rest ≤ length bytes
  region_shorter e bytes x rest h =
      let k = region_got e bytes x rest h in omega (arith, ap length k.2, length-drop size bytes)

  region_header : (e : ℕ) (bytes : List ℕ) → region e bytes ≡ faulty Magic → ⊥
  region_header e bytes h =
      let q = passes (leb size (length bytes)) _ _ _ h (λ g. t.no_header e bytes g) in
      s.no_header (place e bytes + size) (take size bytes) (up_to_header at (drop size bytes) _ q.1)

  shared_region : Shared region
  shared_region = record {
    fault = region_fault;
    both = region_both;
    placed = region_placed;
    shorter = region_shorter;
    no_header = region_header;
  }

pub shared_sized : {A : Type 0} {r : Reader A} (past : ℕ → Read A)
    → ((at : ℕ) → Silent {A = A} (λ e bytes. past at)) → Shared r → Shared (sized past r)
shared_sized {r = r} past t s =
    shared_bound u32 (λ at size e rest. cond (leb size (length rest))
    (up_to at (drop size rest) (r (place e rest + size) (take size rest))) (past at)) shared_u32
    (λ at size. shared_region r past at size s (t at))
