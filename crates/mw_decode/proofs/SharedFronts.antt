-- Bytes that begin alike are read alike as far as they do: a wrong byte in what they share is met in both.
use Rattle.std.proofs.Common.{◌≡◌, ◌<◌, ◌≤◌, ℕ, suc, ◌+◌, ◌-◌, ◌⊎◌, inl, inr, Bool, true, false, cond, List}
use Rattle.std.proofs.Common.{[], ◌∷◌, ◌++◌, length, refl, sym, ap, ◌∙◌, append_assoc, arith, length-append}
use Rattle.mw_decode.specs.declared.fault.BadModule.{BadModule}
use Rattle.mw_decode.specs.declared.fault.BadModule.TheVariants.{Magic, Opcode}
use Rattle.mw_decode.specs.Reading.{Read, got, ended, faulty, Reader, place, and_then, ◌>>=◌, gives}
use Rattle.mw_decode.proofs.ReaderSoundness.{and_then_got, got_parts}

-- the same value, of the same bytes of what is shared
pub record Same {A : Type 0} (f c1 c2 : List ℕ) (x y : A) (rest1 rest2 : List ℕ) : Type 0 where
  pub used : List ℕ
  pub left : List ℕ
  pub whole : f ≡ used ++ left
  pub value : x ≡ y
  pub one : rest1 ≡ left ++ c1
  pub two : rest2 ≡ left ++ c2

pub record Shared {A : Type 0} (r : Reader A) : Type 0 where
  -- a wrong byte in what is shared is met again
  pub fault : (p e1 e2 at : ℕ) (f c1 c2 : List ℕ) → e1 ≡ p + length (f ++ c1) → e2 ≡ p + length (f ++ c2)
      → r e1 (f ++ c1) ≡ faulty (Opcode at) → at < p + length f → (y : A) (rest : List ℕ)
      → r e2 (f ++ c2) ≡ got y rest → ⊥
  -- what is read of it alone is the same
  pub both : (p e1 e2 : ℕ) (f c1 c2 : List ℕ) (x y : A) (rest1 rest2 : List ℕ) → e1 ≡ p + length (f ++ c1)
      → e2 ≡ p + length (f ++ c2) → r e1 (f ++ c1) ≡ got x rest1 → r e2 (f ++ c2) ≡ got y rest2
      → Same f c1 c2 x y rest1 rest2 ⊎ (length rest1 ≤ length c1)
  -- a wrong byte is one of those that are read
  pub placed : (p e at : ℕ) (bytes : List ℕ) → e ≡ p + length bytes → r e bytes ≡ faulty (Opcode at)
      → (p ≤ at) × (at < e)
  pub shorter : (e : ℕ) (bytes : List ℕ) (x : A) (rest : List ℕ) → r e bytes ≡ got x rest
      → length rest ≤ length bytes
  -- the header is no part of it
  pub no_header : (e : ℕ) (bytes : List ℕ) → r e bytes ≡ faulty Magic → ⊥

-- the same of what is read behind one byte
pub record Follows {A : Type 0} (b : ℕ) (k : Reader A) : Type 0 where
  pub fault : (p e1 e2 at : ℕ) (f c1 c2 : List ℕ) → e1 ≡ p + suc (length (f ++ c1)) → e2 ≡ p + suc (length (f ++ c2))
      → k e1 (f ++ c1) ≡ faulty (Opcode at) → at < p + suc (length f) → (y : A) (rest : List ℕ)
      → k e2 (f ++ c2) ≡ got y rest → ⊥
  pub both : (p e1 e2 : ℕ) (f c1 c2 : List ℕ) (x y : A) (rest1 rest2 : List ℕ) → e1 ≡ p + suc (length (f ++ c1))
      → e2 ≡ p + suc (length (f ++ c2)) → k e1 (f ++ c1) ≡ got x rest1 → k e2 (f ++ c2) ≡ got y rest2
      → Same (b ∷ f) c1 c2 x y rest1 rest2 ⊎ (length rest1 ≤ length c1)
  pub placed : (p e at : ℕ) (bytes : List ℕ) → e ≡ p + suc (length bytes) → k e bytes ≡ faulty (Opcode at)
      → (p ≤ at) × (at < e)
  pub shorter : (e : ℕ) (bytes : List ℕ) (x : A) (rest : List ℕ) → k e bytes ≡ got x rest
      → length rest ≤ suc (length bytes)
  pub no_header : (e : ℕ) (bytes : List ℕ) → k e bytes ≡ faulty Magic → ⊥

-- a reader that looks at the first byte
pub shared_head : {A : Type 0} (r : Reader A) → ((e at : ℕ) → r e [] ≡ faulty (Opcode at) → ⊥)
    → ((e : ℕ) → r e [] ≡ faulty Magic → ⊥)
    → ((e : ℕ) (x : A) (rest : List ℕ) → r e [] ≡ got x rest → rest ≡ [])
    → ((b : ℕ) → Follows b (λ e rest. r e (b ∷ rest))) → Shared r
shared_head {A} r never other all k = record {
  fault = λ p e1 e2 at f c1 c2 w1 w2 h l y rest g. fault p e1 e2 at f c1 c2 w1 w2 h l y rest g;
  both = λ p e1 e2 f c1 c2 x y rest1 rest2 w1 w2 h g. both p e1 e2 f c1 c2 x y rest1 rest2 w1 w2 h g;
  placed = placed;
  shorter = shorter;
  no_header = no_header;
}
  where
    no_header : (e : ℕ) (bytes : List ℕ) → r e bytes ≡ faulty Magic → ⊥
    no_header e [] h = other e h
    no_header e (b ∷ bytes) h = (k b).no_header e bytes h

    placed : (p e at : ℕ) (bytes : List ℕ) → e ≡ p + length bytes → r e bytes ≡ faulty (Opcode at)
        → (p ≤ at) × (at < e)
    placed p e at [] w h = absurd (never e at h)
    placed p e at (b ∷ bytes) w h = (k b).placed p e at bytes w h

    shorter : (e : ℕ) (bytes : List ℕ) (x : A) (rest : List ℕ) → r e bytes ≡ got x rest → length rest ≤ length bytes
    shorter e [] x rest h = omega (arith, ap length (all e x rest h))
    shorter e (b ∷ bytes) x rest h = (k b).shorter e bytes x rest h

    fault : (p e1 e2 at : ℕ) (f c1 c2 : List ℕ) → e1 ≡ p + length (f ++ c1) → e2 ≡ p + length (f ++ c2)
        → r e1 (f ++ c1) ≡ faulty (Opcode at) → at < p + length f → (y : A) (rest : List ℕ)
        → r e2 (f ++ c2) ≡ got y rest → ⊥
    fault p e1 e2 at [] c1 c2 w1 w2 h l y rest g = let q = (placed p e1 at c1 w1 h).0 in omega arith
    fault p e1 e2 at (b ∷ f) c1 c2 w1 w2 h l y rest g = (k b).fault p e1 e2 at f c1 c2 w1 w2 h l y rest g

    both : (p e1 e2 : ℕ) (f c1 c2 : List ℕ) (x y : A) (rest1 rest2 : List ℕ) → e1 ≡ p + length (f ++ c1)
        → e2 ≡ p + length (f ++ c2) → r e1 (f ++ c1) ≡ got x rest1 → r e2 (f ++ c2) ≡ got y rest2
        → Same f c1 c2 x y rest1 rest2 ⊎ (length rest1 ≤ length c1)
    both p e1 e2 [] c1 c2 x y rest1 rest2 w1 w2 h g = inr (shorter e1 c1 x rest1 h)
    both p e1 e2 (b ∷ f) c1 c2 x y rest1 rest2 w1 w2 h g = (k b).both p e1 e2 f c1 c2 x y rest1 rest2 w1 w2 h g

pub follows_shared : {A : Type 0} {k : Reader A} (b : ℕ) → Shared k → Follows b k
follows_shared {A} {k} b s = record {
  fault = λ p e1 e2 at f c1 c2 w1 w2 h l y rest g.
      s.fault (suc p) e1 e2 at f c1 c2 (omega arith) (omega arith) h (omega arith) y rest g;
  both = λ p e1 e2 f c1 c2 x y rest1 rest2 w1 w2 h g. elim
      (s.both (suc p) e1 e2 f c1 c2 x y rest1 rest2 (omega arith) (omega arith) h g) [
        | inl m ↦ inl (record {
          used = b ∷ m.used;
          left = m.left;
          whole = ap (λ z. b ∷ z) m.whole;
          value = m.value;
          one = m.one;
          two = m.two;
        })
        | inr l ↦ inr l
      ];
  placed = λ p e at bytes w h. let q = s.placed (suc p) e at bytes (omega arith) h in
      let l = q.0 in (omega arith, q.1);
  shorter = λ e bytes x rest h. let l = s.shorter e bytes x rest h in omega arith;
  no_header = λ e bytes h. s.no_header e bytes h;
}

-- the byte stays unread
pub follows_keeps : {A : Type 0} (b : ℕ) (v : A) → Follows b (λ e rest. got v (b ∷ rest))
follows_keeps b v = record {
  fault = λ p e1 e2 at f c1 c2 w1 w2 h l y rest g. absurd (cc);
  both = λ p e1 e2 f c1 c2 x y rest1 rest2 w1 w2 h g.
      let k = got_parts v x _ rest1 h in
      let j = got_parts v y _ rest2 g in inl (record {
        used = [];
        left = b ∷ f;
        whole = refl;
        value = sym k.0 ∙ j.0;
        one = sym k.1;
        two = sym j.1;
      });
  placed = λ p e at bytes w h. absurd (cc);
  shorter = λ e bytes x rest h. let k = ap length (got_parts v x _ rest h).1 in omega arith;
  no_header = λ e bytes h. cc;
}

opcode_is : {A : Type 0} (at n : ℕ) → ◌≡◌ {A = Read A} (faulty (Opcode n)) (faulty (Opcode at)) → n ≡ at
opcode_is at n e = cc

-- the byte is wrong
pub follows_wrong : {A : Type 0} (b : ℕ) → Follows {A = A} b (λ e rest. faulty (Opcode (place e (b ∷ rest))))
follows_wrong {A} b = record {
  fault = λ p e1 e2 at f c1 c2 w1 w2 h l y rest g. absurd (cc);
  both = λ p e1 e2 f c1 c2 x y rest1 rest2 w1 w2 h g. absurd (cc);
  placed = λ p e at bytes w h. let k = opcode_is {A = A} at (place e (b ∷ bytes)) h in (omega arith, omega arith);
  shorter = λ e bytes x rest h. absurd (cc);
  no_header = λ e bytes h. cc;
}

-- nothing is read, and no byte is wrong
pub record Silent {A : Type 0} (k : Reader A) : Type 0 where
  pub no_value : (e : ℕ) (bytes : List ℕ) (x : A) (rest : List ℕ) → k e bytes ≡ got x rest → ⊥
  pub no_wrong : (e : ℕ) (bytes : List ℕ) (at : ℕ) → k e bytes ≡ faulty (Opcode at) → ⊥
  pub no_header : (e : ℕ) (bytes : List ℕ) → k e bytes ≡ faulty Magic → ⊥

pub follows_silent : {A : Type 0} {k : Reader A} (b : ℕ) → Silent k → Follows b k
follows_silent b s = record {
  fault = λ p e1 e2 at f c1 c2 w1 w2 h l y rest g. absurd (s.no_wrong e1 (f ++ c1) at h);
  both = λ p e1 e2 f c1 c2 x y rest1 rest2 w1 w2 h g. absurd (s.no_value e1 (f ++ c1) x rest1 h);
  placed = λ p e at bytes w h. absurd (s.no_wrong e bytes at h);
  shorter = λ e bytes x rest h. absurd (s.no_value e bytes x rest h);
  no_header = λ e bytes h. s.no_header e bytes h;
}

pub shared_silent : {A : Type 0} {k : Reader A} → Silent k → Shared k
shared_silent s = record {
  fault = λ p e1 e2 at f c1 c2 w1 w2 h l y rest g. absurd (s.no_wrong e1 (f ++ c1) at h);
  both = λ p e1 e2 f c1 c2 x y rest1 rest2 w1 w2 h g. absurd (s.no_value e1 (f ++ c1) x rest1 h);
  placed = λ p e at bytes w h. absurd (s.no_wrong e bytes at h);
  shorter = λ e bytes x rest h. absurd (s.no_value e bytes x rest h);
  no_header = λ e bytes h. s.no_header e bytes h;
}

pub follows_if : {A : Type 0} {k j : Reader A} (b : ℕ) (c : Bool) → Follows b k → Follows b j
    → Follows b (λ e rest. cond c (k e rest) (j e rest))
follows_if b true s t = s
follows_if b false s t = t

pub shared_if : {A : Type 0} {k j : Reader A} (c : Bool) → Shared k → Shared j
    → Shared (λ e rest. cond c (k e rest) (j e rest))
shared_if true s t = s
shared_if false s t = t

pub shared_gives : {A : Type 0} (v : A) → Shared (gives v)
shared_gives v = record {
  fault = λ p e1 e2 at f c1 c2 w1 w2 h l y rest g. absurd (cc);
  both = λ p e1 e2 f c1 c2 x y rest1 rest2 w1 w2 h g.
      let k = got_parts v x _ rest1 h in
      let j = got_parts v y _ rest2 g in
      inl (record { used = []; left = f; whole = refl; value = sym k.0 ∙ j.0; one = sym k.1; two = sym j.1 });
  placed = λ p e at bytes w h. absurd (cc);
  shorter = λ e bytes x rest h. let k = ap length (got_parts v x _ rest h).1 in omega arith;
  no_header = λ e bytes h. cc;
}

pub and_then_faulty : {A B : Type 0} (m : Read A) (go : A → List ℕ → Read B) (d : BadModule)
    → and_then m go ≡ faulty d
    → (m ≡ faulty d) ⊎ ((x : A) × (mid : List ℕ) × (m ≡ got x mid) × (go x mid ≡ faulty d))
and_then_faulty (got x mid) go d e = inr (x, mid, refl, e)
and_then_faulty ended go d e = absurd (cc)
and_then_faulty (faulty c) go d e = let h : c ≡ d = (cc) in inl (ap faulty h)

-- one thing, and another behind it that may tell the place of the first
abbrev pub bound : {A B : Type 0} → Reader A → (ℕ → A → Reader B) → Reader B
bound r h e bytes = and_then (r e bytes) λ x rest. h (place e bytes) x e rest

module _ {A B : Type 0} (r : Reader A) (h : ℕ → A → Reader B) (s : Shared r)
    (t : (at : ℕ) (x : A) → Shared (h at x)) where
  -- what is read behind the same part of what is shared
  behind_one : (p e : ℕ) (f c left rest : List ℕ) (x : A) (m : Read B) → e ≡ p + length (f ++ c) → rest ≡ left ++ c
      → h (place e (f ++ c)) x e rest ≡ m → h p x e (left ++ c) ≡ m
  behind_one p e f c left rest x m w one q =
      let a : place e (f ++ c) ≡ p = omega arith in
      sym (ap (λ n. h n x e (left ++ c)) a) ∙ (sym (ap (λ z. h (place e (f ++ c)) x e z) one) ∙ q)

  left_at : (p e : ℕ) (f c used left : List ℕ) → e ≡ p + length (f ++ c) → f ≡ used ++ left
      → e ≡ (p + length used) + length (left ++ c)
  left_at p e f c used left w u =
      omega (arith, ap length u, length-append used left, length-append f c, length-append left c)

  bind_placed : (p e at : ℕ) (bytes : List ℕ) → e ≡ p + length bytes → bound r h e bytes ≡ faulty (Opcode at)
      → (p ≤ at) × (at < e)
  bind_placed p e at bytes w q = elim (and_then_faulty (r e bytes) (λ x rest. h (place e bytes) x e rest) (Opcode at) q) [
    | inl k ↦ s.placed p e at bytes w k
    | inr k ↦
        let l = s.shorter e bytes k.0 k.1 k.2 in
        let j = (t (place e bytes) k.0).placed (e - length k.1) e at k.1 (omega arith) k.3 in
        let i = j.0 in (omega arith, j.1)
  ]

  bind_fault : (p e1 e2 at : ℕ) (f c1 c2 : List ℕ) → e1 ≡ p + length (f ++ c1) → e2 ≡ p + length (f ++ c2)
      → bound r h e1 (f ++ c1) ≡ faulty (Opcode at) → at < p + length f → (y : B) (rest : List ℕ)
      → bound r h e2 (f ++ c2) ≡ got y rest → ⊥
  bind_fault p e1 e2 at f c1 c2 w1 w2 q l y rest g =
      let k = and_then_got (r e2 (f ++ c2)) (λ x rest. h (place e2 (f ++ c2)) x e2 rest) y rest g in
      elim (and_then_faulty (r e1 (f ++ c1)) (λ x rest. h (place e1 (f ++ c1)) x e1 rest) (Opcode at) q) [
        | inl j ↦ s.fault p e1 e2 at f c1 c2 w1 w2 j l k.0 k.1 k.2
        | inr j ↦ elim (s.both p e1 e2 f c1 c2 j.0 k.0 j.1 k.1 w1 w2 j.2 k.2) [
          | inl m ↦ (t p j.0).fault (p + length m.used) e1 e2 at m.left c1 c2
              (left_at p e1 f c1 m.used m.left w1 m.whole) (left_at p e2 f c2 m.used m.left w2 m.whole)
              (behind_one p e1 f c1 m.left j.1 j.0 _ w1 m.one j.3)
              (omega (arith, ap length m.whole, length-append m.used m.left)) y rest
              (behind_one p e2 f c2 m.left k.1 j.0 _ w2 m.two
              (ap (λ x. h (place e2 (f ++ c2)) x e2 k.1) m.value ∙ k.3))
          | inr b ↦
              let z = s.shorter e1 (f ++ c1) j.0 j.1 j.2 in
              let i = ((t (place e1 (f ++ c1)) j.0).placed (e1 - length j.1) e1 at j.1 (omega arith) j.3).0 in
              omega (arith, length-append f c1)
        ]
      ]

  bind_both : (p e1 e2 : ℕ) (f c1 c2 : List ℕ) (x y : B) (rest1 rest2 : List ℕ) → e1 ≡ p + length (f ++ c1)
      → e2 ≡ p + length (f ++ c2) → bound r h e1 (f ++ c1) ≡ got x rest1 → bound r h e2 (f ++ c2) ≡ got y rest2
      → Same f c1 c2 x y rest1 rest2 ⊎ (length rest1 ≤ length c1)
  bind_both p e1 e2 f c1 c2 x y rest1 rest2 w1 w2 q g =
      let j = and_then_got (r e1 (f ++ c1)) (λ x rest. h (place e1 (f ++ c1)) x e1 rest) x rest1 q in
      let k = and_then_got (r e2 (f ++ c2)) (λ x rest. h (place e2 (f ++ c2)) x e2 rest) y rest2 g in
      elim (s.both p e1 e2 f c1 c2 j.0 k.0 j.1 k.1 w1 w2 j.2 k.2) [
        | inl m ↦ elim ((t p j.0).both (p + length m.used) e1 e2 m.left c1 c2 x y rest1 rest2
            (left_at p e1 f c1 m.used m.left w1 m.whole) (left_at p e2 f c2 m.used m.left w2 m.whole)
            (behind_one p e1 f c1 m.left j.1 j.0 _ w1 m.one j.3)
            (behind_one p e2 f c2 m.left k.1 j.0 _ w2 m.two
            (ap (λ x. h (place e2 (f ++ c2)) x e2 k.1) m.value ∙ k.3))) [
              | inl n ↦ inl (record {
                used = m.used ++ n.used;
                left = n.left;
                whole = m.whole ∙ (ap (λ z. m.used ++ z) n.whole ∙ sym (append_assoc m.used n.used n.left));
                value = n.value;
                one = n.one;
                two = n.two;
              })
              | inr b ↦ inr b
            ]
        | inr b ↦
            let z = (t (place e1 (f ++ c1)) j.0).shorter e1 j.1 x rest1 j.3 in inr (omega arith)
      ]

  bind_shorter : (e : ℕ) (bytes : List ℕ) (x : B) (rest : List ℕ) → bound r h e bytes ≡ got x rest
      → length rest ≤ length bytes
  bind_shorter e bytes x rest q =
      let k = and_then_got (r e bytes) (λ x rest. h (place e bytes) x e rest) x rest q in
      let a = s.shorter e bytes k.0 k.1 k.2 in
      let b = (t (place e bytes) k.0).shorter e k.1 x rest k.3 in omega arith

  bind_header : (e : ℕ) (bytes : List ℕ) → bound r h e bytes ≡ faulty Magic → ⊥
  bind_header e bytes q = elim (and_then_faulty (r e bytes) (λ x rest. h (place e bytes) x e rest) Magic q) [
    | inl k ↦ s.no_header e bytes k
    | inr k ↦ (t (place e bytes) k.0).no_header e k.1 k.3
  ]

  pub shared_bound : Shared (bound r h)
  shared_bound = record {
    fault = bind_fault;
    both = bind_both;
    placed = bind_placed;
    shorter = bind_shorter;
    no_header = bind_header;
  }

pub shared_then : {A B : Type 0} {r : Reader A} {f : A → Reader B} → Shared r → ((x : A) → Shared (f x))
    → Shared (r >>= f)
shared_then {r = r} {f = f} s t = shared_bound r (λ at x. f x) s (λ at x. t x)
