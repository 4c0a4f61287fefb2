-- A spelled chain of sections is read again, wherever custom sections stand between them.
use Rattle.std.proofs.Common.{◌≡◌, ◌<◌, ◌≤◌, ℕ, zero, suc, ◌⊎◌, inl, inr, Bool, true, false, cond, eqb, leb}
use Rattle.std.proofs.Common.{List, [], ◌∷◌, ◌++◌, length, drop, refl, sym, ap, subst, ◌∙◌, append_assoc, arith}
use Rattle.std.proofs.Common.{length-append, length-drop}
use Rattle.std.proofs.lemmas.Bool.{ne_eqb, le-leb, lt-ltb, cond-true}
use Rattle.std.proofs.lemmas.List.{append-nil, drop_at}
use Rattle.mw_wasm.specs.Pieces.{Joined, Sized, byte, items, exactly}
use Rattle.mw_wasm.specs.BinaryModules as grammar
use Rattle.mw_decode.specs.Reading.{got, ended, Reader, and_then, ◌>>=◌, u32}
use Rattle.mw_decode.specs.Sections.{customs_within, customs, section, after_customs, no_start, no_more}
use Rattle.mw_decode.proofs.ReaderSoundness.{sound_u32}
use Rattle.mw_decode.proofs.ReadingFixedPoint.{shorter, same_then}
use Rattle.mw_decode.proofs.CodeCompleteness.{Again, again_u32}
use Rattle.mw_decode.proofs.SizedLaws.{again_sized}
use Rattle.mw_decode.proofs.SectionLaws.{skipped, section_end, section_here, section_later}

-- as many custom sections as there are bytes are enough
same_branch : {A : Type 0} (b : Bool) (x y z : A) → (b ≡ true → x ≡ y) → cond b x z ≡ cond b y z
same_branch true x y z h = h refl
same_branch false x y z h = refl

customs_enough : (j k end : ℕ) (bytes : List ℕ) → length bytes ≤ j → length bytes ≤ k
    → customs_within j end bytes ≡ customs_within k end bytes
customs_enough (suc j) (suc k) end (b ∷ rest) h l =
    same_branch (eqb b 0) _ _ (got tt (b ∷ rest)) (λ _. same_then (u32 end rest) _ _ (λ size content e.
    let m = shorter sound_u32 end rest size content e in
    same_branch (leb size (length content)) _ _ ended (λ _. customs_enough j k end (drop size content)
    (omega (arith, length-drop size content)) (omega (arith, length-drop size content)))))
customs_enough zero zero end bytes h l = refl
customs_enough zero (suc k) end [] h l = refl
customs_enough (suc j) zero end [] h l = refl
customs_enough (suc j) (suc k) end [] h l = refl
customs_enough j k end (b ∷ rest) h l = absurd (omega arith)

-- a custom section in front is skipped
one_custom : (end : ℕ) (c : List ℕ) (front rest : List ℕ) → Joined (byte 0x00) (Sized (exactly c)) front
    → customs end (front ++ rest) ≡ customs end rest
one_custom end c front rest h =
    let s = h.second in
    let n = length s.content in
    let w : front ++ rest ≡ 0 ∷ (s.size ++ (s.content ++ rest)) =
    ap (λ z. z ++ rest) (h.whole ∙ ap (λ z. z ++ h.back) h.first)
    ∙ ap (λ z. 0 ∷ z) (ap (λ z. z ++ rest) s.whole ∙ append_assoc s.size s.content rest) in
    let m = again_u32.again end n s.size (s.content ++ rest) s.counted in
    let fits : leb n (length (s.content ++ rest)) ≡ true = le-leb _ _ (omega (arith, length-append s.content rest)) in
    let k = length (s.size ++ (s.content ++ rest)) in
    ap (customs end) w
    ∙ (ap (λ q. and_then q (skipped k end)) m
    ∙ (cond-true (leb n (length (s.content ++ rest))) _ _ fits
    ∙ (ap (customs_within k end) (drop_at s.content rest n refl)
    ∙ customs_enough k (length rest) end rest
    (omega (arith, length-append s.size (s.content ++ rest), length-append s.content rest)) (omega arith))))

abbrev custom : List ℕ → List ℕ → Type 0
custom content = Joined (byte 0x00) (Sized (exactly content))

many_customs : (contents : List (List ℕ)) (end : ℕ) (front rest : List ℕ) → items custom contents front
    → customs end (front ++ rest) ≡ customs end rest
many_customs [] end front rest h = ap (λ z. customs end (z ++ rest)) h
many_customs (c ∷ cs) end front rest h =
    ap (customs end) (ap (λ z. z ++ rest) h.whole ∙ append_assoc h.front h.back rest)
    ∙ (one_custom end c h.front (h.back ++ rest) h.first ∙ many_customs cs end h.back rest h.second)

pub skip_customs : (end : ℕ) (front rest : List ℕ) → grammar.Customs front
    → customs end (front ++ rest) ≡ customs end rest
skip_customs end front rest h = many_customs h.contents end front rest h.spelled

-- a reader to which custom sections in front are nothing
pub record Skips {B : Type 0} (r : Reader B) : Type 0 where
  pub skips : (end : ℕ) (front rest : List ℕ) → grammar.Customs front → r end (front ++ rest) ≡ r end rest

pub skips_after : {A B : Type 0} (r : Reader A) (f : A → Reader B) → Skips (after_customs r >>= f)
skips_after r f = record {
  skips = λ end front rest h.
      ap (λ m. and_then (and_then m λ _ rest. r end rest) λ x rest. f x end rest) (skip_customs end front rest h);
}

-- what stands here is nothing or a section of an identity from k on
pub data Starts (k : ℕ) (bytes : List ℕ) : Type 0 where
  nothing_more : bytes ≡ [] → Starts k bytes
  a_section : (b : ℕ) (rest : List ℕ) → bytes ≡ b ∷ rest → k ≤ b → b ≤ 11 → 0 < b → Starts k bytes

-- behind custom sections
pub record Later (k : ℕ) (bytes : List ℕ) : Type 0 where
  pub front : List ℕ
  pub rest : List ℕ
  pub whole : bytes ≡ front ++ rest
  pub customs : grammar.Customs front
  pub starts : Starts k rest

-- a tail that a reader reads to its end
pub record Rereads {B : Type 0} (k : ℕ) (r : Reader B) (y : B) (bytes : List ℕ) : Type 0 where
  pub reads : (end : ℕ) → r end bytes ≡ got y []
  pub later : Later k bytes

-- custom sections one behind another
items_append : {A : Type 0} (P : A → List ℕ → Type 0) (xs ys : List A) (a b : List ℕ) → items P xs a → items P ys b
    → items P (xs ++ ys) (a ++ b)
items_append P [] ys a b h k = subst (items P ys) (ap (λ z. z ++ b) (sym h)) k
items_append P (x ∷ xs) ys a b h k = record {
  front = h.front;
  back = h.back ++ b;
  whole = ap (λ z. z ++ b) h.whole ∙ append_assoc h.front h.back b;
  first = h.first;
  second = items_append P xs ys h.back b h.second k;
}

pub customs_append : (a b : List ℕ) → grammar.Customs a → grammar.Customs b → grammar.Customs (a ++ b)
customs_append a b h k = record {
  contents = h.contents ++ k.contents;
  spelled = items_append custom h.contents k.contents a b h.spelled k.spelled;
}

-- where no custom section stands, none is skipped
stay : (k end : ℕ) (bytes : List ℕ) → Starts k bytes → customs end bytes ≡ got tt bytes
stay k end bytes (nothing_more e) = rw e refl
stay k end bytes (a_section b rest e l h p) = rw (e, ne_eqb b 0 (λ f. omega arith)) refl

weaker : (k : ℕ) (bytes : List ℕ) → Starts (suc k) bytes → Starts k bytes
weaker k bytes (nothing_more e) = nothing_more e
weaker k bytes (a_section b rest e l h p) = a_section b rest e (omega arith) h p

missing_at : {A : Type 0} (k : ℕ) (missing : A) (content : Reader A) (end : ℕ) (bytes : List ℕ) → Starts (suc k) bytes
    → section k missing content end bytes ≡ got missing bytes
missing_at k missing content end bytes (nothing_more e) = section_end k missing content end bytes e
missing_at k missing content end bytes (a_section b rest e l h p) =
    section_later k missing content end b bytes rest e (omega arith) h

-- what is read behind custom sections that are not there
at_once : {A B : Type 0} (k : ℕ) (r : Reader A) (f : A → Reader B) (end : ℕ) (bytes rest : List ℕ) (x : A) (y : B)
    → Starts k bytes → r end bytes ≡ got x rest → f x end rest ≡ got y [] → (after_customs r >>= f) end bytes ≡ got y []
at_once k r f end bytes rest x y s h g =
    ap (λ m. and_then (and_then m λ _ rest. r end rest) λ x rest. f x end rest) (stay k end bytes s)
    ∙ (ap (λ m. and_then m λ x rest. f x end rest) h ∙ g)

-- A section that stands here or is missing, behind custom sections, and a tail that is read again.
pub step : {A B : Type 0} (k : ℕ) (missing : A) (content : Reader A) (P : A → List ℕ → Type 0) (f : A → Reader B)
    (x : A) (y : B) (c front t : List ℕ) → k ≤ 11 → 0 < k → Again content P → Skips (f x)
    → ((x ≡ missing) × (front ≡ [])) ⊎ Joined (byte k) (Sized (P x)) front → Rereads (suc k) (f x) y t
    → grammar.Customs c → Rereads k (after_customs (section k missing content) >>= f) y (c ++ (front ++ t))
step {A} {B} k missing content P f x y c front t low high again skips (inr h) r customs_in_front =
    let w : front ++ t ≡ k ∷ (h.back ++ t) = ap (λ z. z ++ t) (h.whole ∙ ap (λ z. z ++ h.back) h.first) in
    let s : Starts k (front ++ t) = a_section k (h.back ++ t) w (omega arith) low high in
    record {
      reads = λ end.
          (skips_after (section k missing content) f).skips end c (front ++ t) customs_in_front
          ∙ at_once k (section k missing content) f end (front ++ t) t x y s
          (section_here k missing content end k (front ++ t) (h.back ++ t) w refl
          ∙ (again_sized P (λ _. ended) again).again end x h.back t h.second) (r.reads end);
      later = record { front = c; rest = front ++ t; whole = refl; customs = customs_in_front; starts = s };
    }
step {A} {B} k missing content P f x y c front t low high again skips (inl h) r customs_in_front =
    let l = r.later in
    let w : front ++ t ≡ l.front ++ l.rest = ap (λ z. z ++ t) h.1 ∙ l.whole in
    record {
      reads = λ end.
          (skips_after (section k missing content) f).skips end c (front ++ t) customs_in_front
          ∙ (ap ((after_customs (section k missing content) >>= f) end) w
          ∙ ((skips_after (section k missing content) f).skips end l.front l.rest l.customs
          ∙ at_once k (section k missing content) f end l.rest l.rest x y (weaker k l.rest l.starts)
          (missing_at k missing content end l.rest l.starts ∙ ap (λ z. got z l.rest) (sym h.0))
          (sym (skips.skips end l.front l.rest l.customs) ∙ (ap (f x end) (sym l.whole) ∙ r.reads end))));
      later = record {
        front = c ++ l.front;
        rest = l.rest;
        whole = ap (λ z. c ++ z) w ∙ sym (append_assoc c l.front l.rest);
        customs = customs_append c l.front customs_in_front l.customs;
        starts = weaker k l.rest l.starts;
      };
    }

-- Nothing more but custom sections.
pub last : {B : Type 0} (f : Unit {0} → Reader B) (y : B) (c : List ℕ) → ((end : ℕ) → f tt end [] ≡ got y [])
    → grammar.Customs c → Rereads 12 (after_customs (no_more false) >>= f) y c
last f y c h customs_in_front = record {
  reads = λ end.
      ap ((after_customs (no_more false) >>= f) end) (sym (append-nil c))
      ∙ ((skips_after (no_more false) f).skips end c [] customs_in_front ∙ h end);
  later = record {
    front = c;
    rest = [];
    whole = sym (append-nil c);
    customs = customs_in_front;
    starts = nothing_more refl;
  };
}

-- A start section is nowhere: what is read in its place.
pub no_start_step : {B : Type 0} (f : Unit {0} → Reader B) (y : B) (t : List ℕ) → Skips (f tt) → Rereads 9 (f tt) y t
    → Rereads 8 (after_customs no_start >>= f) y t
no_start_step f y t skips r =
    let l = r.later in
    record {
      reads = λ end.
          ap ((after_customs no_start >>= f) end) l.whole
          ∙ ((skips_after no_start f).skips end l.front l.rest l.customs
          ∙ at_once 9 no_start f end l.rest l.rest tt y l.starts (passed end l.rest l.starts)
          (sym (skips.skips end l.front l.rest l.customs) ∙ (ap (f tt end) (sym l.whole) ∙ r.reads end)));
      later = record {
        front = l.front;
        rest = l.rest;
        whole = l.whole;
        customs = l.customs;
        starts = weaker 8 l.rest l.starts;
      };
    }
  where
    passed : (end : ℕ) (bytes : List ℕ) → Starts 9 bytes → no_start end bytes ≡ got tt bytes
    passed end bytes (nothing_more e) = rw e refl
    passed end bytes (a_section b rest e l h p) =
        rw (e, ne_eqb b 8 (λ f. omega arith), lt-ltb 8 b l, le-leb b 11 h) refl
