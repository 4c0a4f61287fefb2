-- No spelling begins another: how the pieces of the grammar keep that.
use Rattle.std.proofs.Common.{◌≡◌, ℕ, ◌-◌, ◌^◌, ◌<◌, ℤ, inl, inr, List, [], ◌∷◌, ◌++◌, map, length, refl, sym, ap, ◌∙◌}
use Rattle.std.proofs.Common.{append_assoc, arith}
use Rattle.std.proofs.lemmas.List.{append_cancel_left}
use Rattle.mw_wasm.specs.Leb.{IsUnsigned, IsSigned, IsInteger, unsigned_of}
use Rattle.mw_wasm.specs.Pieces.{Piece, Joined, Sized, nothing, byte, octet, ◌then◌, u32, items, vector, sized}

-- Where a spelling of P and one of Q begin the same bytes they are one, and E holds of what they spell.
pub record Agree (P Q : List ℕ → Type 0) (E : Type 0) : Type 0 where
  pub agree : (a b r s : List ℕ) → P a → Q b → a ++ r ≡ b ++ s → (a ≡ b) × E

-- E holds where P and Q spell the same bytes.
pub record Whole (P Q : List ℕ → Type 0) (E : Type 0) : Type 0 where
  pub whole : (a : List ℕ) → P a → Q a → E

pub agree_whole : {P Q : List ℕ → Type 0} {E : Type 0} → Agree P Q E → Whole P Q E
agree_whole h = record { whole = λ a p q. (h.agree a a [] [] p q refl).1 }

pub agree_so : {P Q : List ℕ → Type 0} {E F : Type 0} → Agree P Q E → (E → F) → Agree P Q F
agree_so h f = record { agree = λ a b r s p q e. let t = h.agree a b r s p q e in (t.0, f t.1) }

pub agree_byte : (m n : ℕ) → Agree (byte m) (byte n) (m ≡ n)
agree_byte m n = record {
  agree = λ a b r s p q e. let h : m ∷ r ≡ n ∷ s = rw (p, q) at e in let k : m ≡ n = (cc) in
      (rw (p, q, k) refl, k);
}

pub agree_octet : (m n : ℕ) → Agree (octet m) (octet n) (m ≡ n)
agree_octet m n = record { agree = λ a b r s p q e. (agree_byte m n).agree a b r s p.1 q.1 e }

-- two joined pieces that begin the same bytes, taken apart
pub split : {P Q P' Q' : List ℕ → Type 0} {a b : List ℕ} (p : Joined P Q a) (q : Joined P' Q' b) (r s : List ℕ)
    → a ++ r ≡ b ++ s
    → p.front ++ (p.back ++ r) ≡ q.front ++ (q.back ++ s)
split p q r s e = sym (append_assoc p.front p.back r)
    ∙ (ap (λ x. x ++ r) (sym p.whole) ∙ (e ∙ (ap (λ x. x ++ s) q.whole ∙ append_assoc q.front q.back s)))

pub behind : (f g x y : List ℕ) → f ≡ g → f ++ x ≡ g ++ y → x ≡ y
behind f g x y h e = append_cancel_left g x y (ap (λ t. t ++ x) (sym h) ∙ e)

pub joined : {P Q P' Q' : List ℕ → Type 0} {a b : List ℕ} (p : Joined P Q a) (q : Joined P' Q' b) → p.front ≡ q.front
    → p.back ≡ q.back → a ≡ b
joined p q f g = p.whole ∙ (ap (λ t. t ++ p.back) f ∙ (ap (λ t. q.front ++ t) g ∙ sym q.whole))

pub agree_then : {P Q P' Q' : List ℕ → Type 0} {E F : Type 0} → Agree P Q E → (E → Agree P' Q' F)
    → Agree (P then P') (Q then Q') (E × F)
agree_then {P} {Q} {P'} {Q'} {E} {F} first second = record { agree = λ a b r s p q e. both a b r s p q e }
  where
    both : (a b r s : List ℕ) → (P then P') a → (Q then Q') b → a ++ r ≡ b ++ s → (a ≡ b) × (E × F)
    both a b r s p q e =
        let h = split p q r s e in
        let x = first.agree p.front q.front (p.back ++ r) (q.back ++ s) p.first q.first h in
        let y = (second x.1).agree p.back q.back r s p.second q.second
        (behind p.front q.front (p.back ++ r) (q.back ++ s) x.0 h) in
        (joined p q x.0 y.0, (x.1, y.1))

agree_nothing : {E : Type 0} → E → Agree nothing nothing E
agree_nothing e = record { agree = λ a b r s p q _. (p ∙ sym q, e) }

-- numbers
unsigned : (N : ℕ) (a b r s : List ℕ) (v w : ℕ) → IsUnsigned N a v → IsUnsigned N b w → a ++ r ≡ b ++ s → (a ≡ b)
    × (v ≡ w)
unsigned N [] b r s v w p q e = absurd p
unsigned N (x ∷ []) [] r s v w p q e = absurd q
unsigned N (x ∷ []) (y ∷ []) r s v w p q e = let h : x ≡ y = (cc) in (ap (λ z. z ∷ []) h, p.2 ∙ (h ∙ sym q.2))
unsigned N (x ∷ []) (y ∷ y2 ∷ ys) r s v w p q e = let h : x ≡ y = (cc) in absurd (omega (arith, p.0, q.0))
unsigned N (x ∷ x2 ∷ xs) [] r s v w p q e = absurd q
unsigned N (x ∷ x2 ∷ xs) (y ∷ []) r s v w p q e = let h : x ≡ y = (cc) in absurd (omega (arith, p.0, q.0))
unsigned N (x ∷ x2 ∷ xs) (y ∷ y2 ∷ ys) r s v w p q e =
    let h : x ≡ y = (cc) in
    let t : (x2 ∷ xs) ++ r ≡ (y2 ∷ ys) ++ s = (cc) in
    let k = unsigned (N - 7) (x2 ∷ xs) (y2 ∷ ys) r s p.3.0 q.3.0 p.3.1 q.3.1 t in
    (rw (h, k.0) refl, p.3.2 ∙ (rw (h, k.1) refl ∙ sym q.3.2))

pub agree_unsigned : (N v w : ℕ) → Agree (λ a. IsUnsigned N a v) (λ b. IsUnsigned N b w) (v ≡ w)
agree_unsigned N v w = record { agree = λ a b r s p q e. unsigned N a b r s v w p q e }

pub agree_u32 : (v w : ℕ) → Agree (u32 v) (u32 w) (v ≡ w)
agree_u32 v w = agree_unsigned 32 v w

last_signed : (N b : ℕ) (v w : ℤ) → IsSigned N (b ∷ []) v → IsSigned N (b ∷ []) w → v ≡ w
last_signed N b v w (inl p) (inl q) = p.2 ∙ sym q.2
last_signed N b v w (inl p) (inr q) = absurd (omega (arith, p.0, q.0))
last_signed N b v w (inr p) (inl q) = absurd (omega (arith, p.0, q.0))
last_signed N b v w (inr p) (inr q) = p.3 ∙ sym q.3

last_is_low : (N b : ℕ) (v : ℤ) → IsSigned N (b ∷ []) v → b < 2 ^ 7
last_is_low N b v (inl p) = omega (arith, p.0)
last_is_low N b v (inr p) = p.1

signed : (N : ℕ) (a b r s : List ℕ) (v w : ℤ) → IsSigned N a v → IsSigned N b w → a ++ r ≡ b ++ s → (a ≡ b) × (v ≡ w)
signed N [] b r s v w p q e = absurd p
signed N (x ∷ []) [] r s v w p q e = absurd q
signed N (x ∷ []) (y ∷ []) r s v w p q e =
    let h : y ≡ x = (cc) in
    (ap (λ z. z ∷ []) (sym h), last_signed N x v w p (rw h at q))
signed N (x ∷ []) (y ∷ y2 ∷ ys) r s v w p q e = let h : x ≡ y = (cc) in absurd (omega (arith, last_is_low N x v p, q.0))
signed N (x ∷ x2 ∷ xs) [] r s v w p q e = absurd q
signed N (x ∷ x2 ∷ xs) (y ∷ []) r s v w p q e = let h : x ≡ y = (cc) in absurd (omega (arith, p.0, last_is_low N y w q))
signed N (x ∷ x2 ∷ xs) (y ∷ y2 ∷ ys) r s v w p q e =
    let h : x ≡ y = (cc) in
    let t : (x2 ∷ xs) ++ r ≡ (y2 ∷ ys) ++ s = (cc) in
    let k = signed (N - 7) (x2 ∷ xs) (y2 ∷ ys) r s p.3.0 q.3.0 p.3.1 q.3.1 t in
    (rw (h, k.0) refl, p.3.2 ∙ (rw (h, k.1) refl ∙ sym q.3.2))

pub agree_integer : (N v w : ℕ) → Agree (λ a. IsInteger N a v) (λ b. IsInteger N b w) (v ≡ w)
agree_integer N v w = record {
  agree = λ a b r s p q e.
      let k = signed N a b r s p.0 q.0 p.1 q.1 e in
      (k.0, p.2 ∙ (ap (λ z. unsigned_of N z) k.1 ∙ sym q.2));
}

-- items that are told apart by f
pub agree_items : {A B : Type 0} (P : A → Piece) (f : A → B) → ((x y : A) → Agree (P x) (P y) (f x ≡ f y))
    → (xs ys : List A) → length xs ≡ length ys → Agree (items P xs) (items P ys) (map f xs ≡ map f ys)
agree_items P f each [] [] h = agree_nothing refl
agree_items P f each [] (y ∷ ys) h = absurd (cc)
agree_items P f each (x ∷ xs) [] h = absurd (cc)
agree_items P f each (x ∷ xs) (y ∷ ys) h =
    agree_so (agree_then (each x y) (λ _. agree_items P f each xs ys (cc))) (λ e. rw (e.0, e.1) refl)

pub agree_parts : {A B : Type 0} (P : A → Piece) (f : A → B) → ((x y : A) → Agree (P x) (P y) (f x ≡ f y))
    → (xs ys : List A) → Agree (vector P xs) (vector P ys) (map f xs ≡ map f ys)
agree_parts P f each xs ys =
    agree_so (agree_then (agree_u32 (length xs) (length ys)) (λ e. agree_items P f each xs ys e)) (λ e. e.1)

same_map : {A : Type 0} (xs : List A) → map (λ x. x) xs ≡ xs
same_map [] = refl
same_map (x ∷ xs) = ap (λ t. x ∷ t) (same_map xs)

pub agree_vector : {A : Type 0} (P : A → Piece) → ((x y : A) → Agree (P x) (P y) (x ≡ y)) → (xs ys : List A)
    → Agree (vector P xs) (vector P ys) (xs ≡ ys)
agree_vector P each xs ys = agree_so (agree_parts P (λ x. x) each xs ys) (λ e. sym (same_map xs) ∙ (e ∙ same_map ys))

-- two fronts of one length
pub same_length_fronts : {A : Type 0} (a b r s : List A) → length a ≡ length b → a ++ r ≡ b ++ s → a ≡ b
same_length_fronts [] [] r s h e = refl
same_length_fronts [] (y ∷ ys) r s h e = absurd (cc)
same_length_fronts (x ∷ xs) [] r s h e = absurd (cc)
same_length_fronts (x ∷ xs) (y ∷ ys) r s h e =
    let k : x ≡ y = (cc) in
    let t : xs ≡ ys = same_length_fronts xs ys r s (cc) (cc) in
    rw (k, t) refl

pub agree_sized : {P Q : List ℕ → Type 0} {E : Type 0} → Whole P Q E → Agree (sized P) (sized Q) E
agree_sized {P} {Q} {E} inner = record { agree = λ a b r s p q e. both a b r s p q e }
  where
    both : (a b r s : List ℕ) → Sized P a → Sized Q b → a ++ r ≡ b ++ s → (a ≡ b) × E
    both a b r s p q e =
        let h : p.size ++ (p.content ++ r) ≡ q.size ++ (q.content ++ s) = sym (append_assoc p.size p.content r)
        ∙ (ap (λ x. x ++ r) (sym p.whole) ∙ (e ∙ (ap (λ x. x ++ s) q.whole ∙ append_assoc q.size q.content s))) in
        let x = unsigned 32 p.size q.size (p.content ++ r) (q.content ++ s) (length p.content) (length q.content)
        p.counted q.counted h in
        let y : q.content ≡ p.content =
        sym (same_length_fronts p.content q.content r s x.1
        (behind p.size q.size (p.content ++ r) (q.content ++ s) x.0 h)) in (
          p.whole ∙ (ap (λ f. f ++ p.content) x.0 ∙ (ap (λ t. q.size ++ t) (sym y) ∙ sym q.whole)),
          inner.whole p.content p.inside (rw y at q.inside),
        )
