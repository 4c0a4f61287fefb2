-- A module's bytes as a list of sections: which ones there are doesn't depend on how they are read.
use Rattle.std.proofs.Common.{◌≡◌, ℕ, zero, suc, ◌<◌, ◌⊎◌, inl, inr, List, [], ◌∷◌, ◌++◌, map, refl, sym, ap, ◌∙◌}
use Rattle.std.proofs.Common.{subst, append_assoc, arith}
use Rattle.mw_wasm.specs.Pieces.{Piece, nothing, byte, exactly, ◌then◌, ◌or◌, ◌when◌, u32, items, sized}
use Rattle.mw_wasm.specs.BinaryModules.{Customs, customs, import_section}
use Rattle.mw_wasm.proofs.FormatPieces.{Agree, Whole, behind, agree_so, agree_byte, agree_then, agree_sized}

-- a section: its identity and its content
pub record Section : Type 0 where
  pub id : ℕ
  pub content : List ℕ

abbrev pub any_section : Section → Piece
any_section s = byte s.id then sized (exactly s.content)

agree_any_section : (s t : Section) → Agree (any_section s) (any_section t) (s ≡ t)
agree_any_section s t =
    agree_so (agree_then (agree_byte s.id t.id) (λ _. agree_sized (record { whole = λ a p q. sym p ∙ q })))
    (λ e i. record { id = e.0 i; content = e.1 i })

is_not_empty : (s : Section) (a b : List ℕ) → any_section s a → a ++ b ≡ [] → ⊥
is_not_empty s a b p e =
    let h : (s.id ∷ p.back) ++ b ≡ [] = ap (λ t. t ++ b) (sym (p.whole ∙ ap (λ f. f ++ p.back) p.first)) ∙ e in
    cc

same_sections : (xs ys : List Section) (a b : List ℕ) → items any_section xs a → items any_section ys b → a ≡ b
    → xs ≡ ys
same_sections [] [] a b p q e = refl
same_sections [] (y ∷ ys) a b p q e = absurd (is_not_empty y q.front q.back q.first (sym q.whole ∙ (sym e ∙ p)))
same_sections (x ∷ xs) [] a b p q e = absurd (is_not_empty x p.front p.back p.first (sym p.whole ∙ (e ∙ q)))
same_sections (x ∷ xs) (y ∷ ys) a b p q e =
    let h : p.front ++ p.back ≡ q.front ++ q.back = sym p.whole ∙ (e ∙ q.whole) in
    let k = (agree_any_section x y).agree p.front q.front p.back q.back p.first q.first h in
    let t : xs ≡ ys = same_sections xs ys p.back q.back p.second q.second
    (behind p.front q.front p.back q.back k.0 h) in
    rw (k.1, t) refl

items_append : (xs ys : List Section) (a b : List ℕ) → items any_section xs a → items any_section ys b
    → items any_section (xs ++ ys) (a ++ b)
items_append [] ys a b p q = let P : List ℕ → Type 0 = λ c. items any_section ys (c ++ b) in subst P (sym p) q
items_append (x ∷ xs) ys a b p q = record {
  front = p.front;
  back = p.back ++ b;
  whole = ap (λ t. t ++ b) p.whole ∙ append_assoc p.front p.back b;
  first = p.first;
  second = items_append xs ys p.back b p.second q;
}

-- the sections that aren't custom
abbrev pub kept_with : ℕ → Section → List Section → List Section
kept_with zero s rest = rest
kept_with (suc _) s rest = s ∷ rest

abbrev pub kept : List Section → List Section
kept [] = []
kept (s ∷ ss) = kept_with s.id s (kept ss)

abbrev pub custom : List ℕ → Section
custom content = record { id = 0; content = content }

custom_items : (cs : List (List ℕ)) (a : List ℕ) → items (λ content. byte 0x00 then sized (exactly content)) cs a
    → items any_section (map custom cs) a
custom_items [] a p = p
custom_items (c ∷ cs) a p = record {
  front = p.front;
  back = p.back;
  whole = p.whole;
  first = p.first;
  second =
      custom_items cs p.back p.second;
}

kept_customs : (cs : List (List ℕ)) (ss : List Section) → kept (map custom cs ++ ss) ≡ kept ss
kept_customs [] ss = refl
kept_customs (c ∷ cs) ss = kept_customs cs ss

-- bytes that are sections, where L holds of those that aren't custom
pub record FoundSections (L : List Section → Type 0) (bytes : List ℕ) : Type 0 where
  pub all : List Section
  pub spelled : items any_section all bytes
  pub others : L (kept all)

found_customs : {L : List Section → Type 0} (a b : List ℕ) → Customs a → FoundSections L b → FoundSections L (a ++ b)
found_customs {L} a b p q = record {
  all = map custom p.contents ++ q.all;
  spelled = items_append (map custom p.contents) q.all a b (custom_items p.contents a p.spelled) q.spelled;
  others = subst L (sym (kept_customs p.contents q.all)) q.others;
}

abbrev pub IsNone : List Section → Type 0
IsNone ss = ss ≡ []

append_nil : (xs : List Section) → xs ++ [] ≡ xs
append_nil [] = refl
append_nil (x ∷ xs) = ap (λ t. x ∷ t) (append_nil xs)

pub found_end : (a : List ℕ) → Customs a → FoundSections IsNone a
found_end a p = record {
  all = map custom p.contents;
  spelled = custom_items p.contents a p.spelled;
  others = ap kept (sym (append_nil (map custom p.contents))) ∙ kept_customs p.contents [];
}

pub record Present (k : ℕ) (Q : List ℕ → Type 0) (L : List Section → Type 0) (ss : List Section) : Type 0 where
  pub content : List ℕ
  pub rest : List Section
  pub whole : ss ≡ record { id = k; content = content } ∷ rest
  pub inside : Q content
  pub behind : L rest

-- section k or none, and then what L says
abbrev pub Behind : ℕ → Type 0 → (List ℕ → Type 0) → (List Section → Type 0) → List Section → Type 0
Behind k A Q L ss = (A × L ss) ⊎ Present k Q L ss

found_section : (j : ℕ) {A : Type 0} {Q : List ℕ → Type 0} {L : List Section → Type 0} (a b : List ℕ)
    → (nothing when A or byte (suc j) then sized Q) a → FoundSections L b → FoundSections (Behind (suc j) A Q L)
    (a ++ b)
found_section j {A} {Q} {L} a b (inl p) q =
    let P : List ℕ → Type 0 = λ c. FoundSections (Behind (suc j) A Q L) (c ++ b) in
    let here : FoundSections (Behind (suc j) A Q L) b =
    record { all = q.all; spelled = q.spelled; others = inl (p.0, q.others) } in
    subst P (sym p.1) here
found_section j {A} {Q} {L} a b (inr p) q = record {
  all = record { id = suc j; content = p.second.content } ∷ q.all;
  spelled = record {
    front = a;
    back = b;
    whole = refl;
    first = record {
      front = p.front;
      back = p.back;
      whole = p.whole;
      first = p.first;
      second = record {
        size = p.second.size;
        content = p.second.content;
        whole = p.second.whole;
        counted =
            p.second.counted;
        inside = refl;
      };
    };
    second = q.spelled;
  };
  others = inr (record {
    content = p.second.content;
    rest = kept q.all;
    whole = refl;
    inside = p.second.inside;
    behind =
        q.others;
  });
}

-- custom sections, section j + 1 or none, and the rest
pub found_more : (j : ℕ) {A : Type 0} {Q T : List ℕ → Type 0} {L : List Section → Type 0}
    → ((b : List ℕ) → T b → FoundSections L b)
    → (bytes : List ℕ) → (customs then (nothing when A or byte (suc j) then sized Q) then T) bytes
    → FoundSections (Behind (suc j) A Q L) bytes
found_more j {A} {Q} {T} {L} found bytes p =
    let r = p.second in
    let inner : FoundSections (Behind (suc j) A Q L) (r.front ++ r.back) = found_section j {A = A} {Q = Q} {L = L}
    r.front
    r.back r.first (found r.back r.second) in
    let outer : FoundSections (Behind (suc j) A Q L) (p.front ++ (r.front ++ r.back)) =
    found_customs p.front (r.front ++ r.back) p.first inner in
    subst (λ c. FoundSections (Behind (suc j) A Q L) c) (sym (p.whole ∙ ap (λ t. p.front ++ t) r.whole)) outer

with_unit : (a : List ℕ) → import_section a → (nothing when Unit {0} or byte 0x02 then sized (u32 0)) a
with_unit a (inl p) = inl (tt, p)
with_unit a (inr p) = inr p

-- the same at the import section
pub found_import : {T : List ℕ → Type 0} {L : List Section → Type 0} → ((b : List ℕ) → T b → FoundSections L b)
    → (bytes : List ℕ) → (customs then import_section then T) bytes → FoundSections (Behind 2 (Unit {0}) (u32 0) L)
    bytes
found_import {T} {L} found bytes p =
    let r = p.second in
    found_more 1 {A = Unit {0}} {Q = u32 0} {T = T} {L = L} found bytes (record {
      front = p.front;
      back = p.back;
      whole = p.whole;
      first = p.first;
      second = record {
        front = r.front;
        back = r.back;
        whole = r.whole;
        first = with_unit r.front r.first;
        second =
            r.second;
      };
    })

-- the first section, if any, has an identity above k
abbrev pub Above : ℕ → List Section → Type 0
Above k [] = Unit {0}
Above k (s ∷ ss) = k < s.id

above_less : (j k : ℕ) (ss : List Section) → j < k → Above k ss → Above j ss
above_less j k [] h a = tt
above_less j k (s ∷ ss) h a = omega arith

-- Where L and L' hold of the same sections, whose identities are above k, E holds.
pub record Tails (k : ℕ) (L L' : List Section → Type 0) (E : Type 0) : Type 0 where
  pub above : (ss : List Section) → L ss → Above k ss
  pub above' : (ss : List Section) → L' ss → Above k ss
  pub agree : (ss : List Section) → L ss → L' ss → E

pub tails_end : (k : ℕ) → Tails k IsNone IsNone (Unit {0})
tails_end k = record { above = λ ss e. go ss e; above' = λ ss e. go ss e; agree = λ ss e f. tt }
  where
    go : (ss : List Section) → ss ≡ [] → Above k ss
    go ss e = subst (Above k) (sym e) tt

above_behind : (j k : ℕ) {A : Type 0} {Q : List ℕ → Type 0} {L : List Section → Type 0} → j < k
    → ((ss : List Section) → L ss → Above k ss)
    → (ss : List Section) → Behind k A Q L ss → Above j ss
above_behind j k h above ss (inl p) = above_less j k ss h (above ss p.1)
above_behind j k h above ss (inr p) = subst (Above j) (sym p.whole) h

not_above : (k : ℕ) {Q : List ℕ → Type 0} {L : List Section → Type 0} (ss : List Section) → Above k ss
    → Present k Q L ss → ⊥
not_above k ss a p = let h : Above k (record { id = k; content = p.content } ∷ p.rest) = subst (Above k) p.whole a in
    omega arith

pub tails_more : (j k : ℕ) {A A' E F : Type 0} {Q Q' : List ℕ → Type 0} {L L' : List Section → Type 0} → j < k
    → Tails k L L' F → Whole Q Q' E → (A → A' → E)
    → Tails j (Behind k A Q L) (Behind k A' Q' L') (E × F)
tails_more j k {A} {A'} {E} {F} {Q} {Q'} {L} {L'} h tails inner absent = record {
  above = λ ss p. above_behind j k {A = A} {Q = Q} {L = L} h tails.above ss p;
  above' = λ ss p. above_behind j k {A = A'} {Q = Q'} {L = L'} h tails.above' ss p;
  agree = λ ss p q. go ss p q;
}
  where
    go : (ss : List Section) → Behind k A Q L ss → Behind k A' Q' L' ss → E × F
    go ss (inl p) (inl q) = (absent p.0 q.0, tails.agree ss p.1 q.1)
    go ss (inl p) (inr q) = absurd (not_above k ss (tails.above ss p.1) q)
    go ss (inr p) (inl q) = absurd (not_above k ss (tails.above' ss q.1) p)
    go ss (inr p) (inr q) =
        let x : Section = record { id = k; content = q.content } in
        let y : Section = record { id = k; content = p.content } in
        let same : x ∷ q.rest ≡ y ∷ p.rest = sym q.whole ∙ p.whole in
        let firsts : x ≡ y = (cc) in
        let contents : q.content ≡ p.content = ap (λ (s : Section). s.content) firsts in
        let rests : q.rest ≡ p.rest = (cc) in (
          inner.whole p.content p.inside (subst Q' contents q.inside),
          tails.agree p.rest p.behind (subst L' rests q.behind),
        )

-- one list of bytes, one list of sections
pub found_agree : {L L' : List Section → Type 0} {E : Type 0} (k : ℕ) → Tails k L L' E → (bytes : List ℕ)
    → FoundSections L bytes → FoundSections L' bytes → E
found_agree {L} {L'} {E} k tails bytes p q =
    let h : q.all ≡ p.all = same_sections q.all p.all bytes bytes q.spelled p.spelled refl in
    tails.agree (kept p.all) p.others (subst L' (ap kept h) q.others)
