-- Bytes that spell no module, by their first bytes.
use Rattle.std.specs.Prelude.{◌≡◌, ℕ, ◌<◌, ◌⊎◌, List, [], ◌∷◌, ◌++◌, length}
use Rattle.std.proofs.Common.{refl, sym, ap, ◌∙◌, subst, inl, inr, arith, lit<}
use Rattle.mw_wasm.specs.Syntax.{PureModule}
use Rattle.mw_wasm.specs.Pieces.{Piece, Joined, ◌then◌, items, sized, exactly, byte}
use Rattle.mw_wasm.specs.BinaryModules.{Spells, customs, section, import_section, header, function_type, function_kind}
use Rattle.mw_wasm.specs.BinaryModules.{table, limits, global, export, element, function_code, data_segment}
use Rattle.mw_wasm.specs.BinaryModules.{at_most_one}
use Rattle.mw_wasm.specs.NothingSpelled.{begun, NothingIsSpelled}
use Rattle.mw_wasm.proofs.ValidSteps.{heads}

-- ids that a section may have
abbrev Id : ℕ → Type 0
Id b = (b < 8) ⊎ ((8 < b) × (b < 12))

-- what is spelled is empty or begins with such an id
pub record Starts (P : List ℕ → Type 0) : Type 0 where
  pub id : (b : ℕ) (rest : List ℕ) → P (b ∷ rest) → Id b

first_byte : {P : List ℕ → Type 0} (i b : ℕ) (rest : List ℕ) → Id i → Joined (byte i) P (b ∷ rest) → Id b
first_byte i b rest h j = let k : b ∷ rest ≡ i ∷ j.back = j.whole ∙ ap (λ f. f ++ j.back) j.first in
    subst (λ x. Id x) (sym (heads k)) h

both : {P Q : List ℕ → Type 0} → Starts P → Starts Q → Starts (λ bytes. Joined P Q bytes)
both {P} {Q} p q = record { id = λ b rest j. go b rest j.front j.back j.whole j.first j.second }
  where
    go : (b : ℕ) (rest front back : List ℕ) → b ∷ rest ≡ front ++ back → P front → Q back → Id b
    go b rest [] back e x y = q.id b rest (subst Q (sym e) y)
    go b rest (c ∷ cs) back e x y = subst (λ d. Id d) (sym (heads e)) (p.id c cs x)

starts_customs : Starts customs
starts_customs = record { id = λ b rest c. go b rest c.contents c.spelled }
  where
    go : (b : ℕ) (rest : List ℕ) (cs : List (List ℕ)) → items (λ content. byte 0x00 then sized (exactly content)) cs
        (b ∷ rest) → Id b
    go b rest [] e = absurd (cc)
    go b rest (c ∷ cs) j = inner j.front j.back j.whole j.first j.second
      where
        inner : (front back : List ℕ) → b ∷ rest ≡ front ++ back → Joined (byte 0x00) (sized (exactly c)) front
            → items (λ content. byte 0x00 then sized (exactly content)) cs back → Id b
        inner [] back e x y = let k = ap length (x.whole ∙ ap (λ f. f ++ x.back) x.first) in absurd (cc)
        inner (d ∷ ds) back e x y = subst (λ z. Id z) (sym (heads e)) (first_byte 0 d ds (inl (lit< tt)) x)

starts_section : {A : Type 0} (i : ℕ) (P : A → Piece) (xs : List A) → Id i → Starts (section i P xs)
starts_section i P xs h = record { id = λ b rest s. go b rest s }
  where
    go : (b : ℕ) (rest : List ℕ) → section i P xs (b ∷ rest) → Id b
    go b rest (inl e) = absurd (let k = e.1 in cc)
    go b rest (inr j) = first_byte i b rest h j

starts_import : Starts import_section
starts_import = record { id = λ b rest s. go b rest s }
  where
    go : (b : ℕ) (rest : List ℕ) → import_section (b ∷ rest) → Id b
    go b rest (inl e) = absurd (cc)
    go b rest (inr j) = first_byte 2 b rest (inl (lit< tt)) j

abbrev behind_header : PureModule → Piece
behind_header m = customs then section 1 function_type m.types
    then customs then import_section
    then customs then section 3 function_kind m.funcs
    then customs then section 4 table (at_most_one m.table)
    then customs then section 5 limits (at_most_one m.memory)
    then customs then section 6 global m.globals
    then customs then section 7 export m.exports
    then customs then section 9 element m.elements
    then customs then section 10 function_code m.funcs
    then customs then section 11 data_segment m.segments
    then customs

behind : (m : PureModule) → Starts (behind_header m)
behind m = both starts_customs (both (starts_section 1 function_type m.types (inl (lit< tt)))
    (both starts_customs (both starts_import
    (both starts_customs (both (starts_section 3 function_kind m.funcs (inl (lit< tt)))
    (both starts_customs (both (starts_section 4 table (at_most_one m.table) (inl (lit< tt)))
    (both starts_customs (both (starts_section 5 limits (at_most_one m.memory) (inl (lit< tt)))
    (both starts_customs (both (starts_section 6 global m.globals (inl (lit< tt)))
    (both starts_customs (both (starts_section 7 export m.exports (inl (lit< tt)))
    (both starts_customs (both (starts_section 9 element m.elements (inr (lit< tt, lit< tt)))
    (both starts_customs (both (starts_section 10 function_code m.funcs (inr (lit< tt, lit< tt)))
    (both starts_customs (both (starts_section 11 data_segment m.segments (inr (lit< tt, lit< tt)))
    starts_customs)))))))))))))))))))

whole : {P : List ℕ → Type 0} {bytes : List ℕ} → (j : Joined header P bytes) → bytes ≡ begun j.back
whole j = j.whole ∙ ap (λ f. f ++ j.back) j.first

empty : (m : PureModule) → ¬ Spells [] m
empty m j = let k = whole j in absurd (cc)

seven_bytes : (m : PureModule) → ¬ Spells (0x00 ∷ 0x61 ∷ 0x73 ∷ 0x6D ∷ 0x01 ∷ 0x00 ∷ 0x00 ∷ []) m
seven_bytes m j = let k = whole j in absurd (cc)

one_apart : (a : ℕ) → a ≡ 2 → a ≡ 1 → ⊥
one_apart a h k = omega arith

version_two : (m : PureModule) (rest : List ℕ) → ¬ Spells (0x00 ∷ 0x61 ∷ 0x73 ∷ 0x6D ∷ 0x02 ∷ 0x00 ∷ 0x00 ∷ 0x00 ∷ rest)
    m
version_two m rest j = let k : 0x00 ∷ 0x61 ∷ 0x73 ∷ 0x6D ∷ 0x02 ∷ 0x00 ∷ 0x00 ∷ 0x00 ∷ rest ≡ begun j.back = whole j in
    one_apart 2 refl (cc)

refused : (i : ℕ) → ¬ Id i → (m : PureModule) (rest : List ℕ) → ¬ Spells (begun (i ∷ rest)) m
refused i never m rest j = let k = whole j in let e : i ∷ rest ≡ j.back = cc in
    never ((behind m).id i rest (subst (λ bytes. behind_header m bytes) (sym e) j.second))

start_first : (m : PureModule) (rest : List ℕ) → ¬ Spells (begun (0x08 ∷ rest)) m
start_first m rest = refused 8 not_eight m rest
  where
    not_eight : ¬ Id 8
    not_eight (inl h) = let k : 8 < 8 = h in omega arith
    not_eight (inr h) = let k : 8 < 8 = h.0 in omega arith

data_count_first : (m : PureModule) (rest : List ℕ) → ¬ Spells (begun (0x0C ∷ rest)) m
data_count_first m rest = refused 12 not_twelve m rest
  where
    not_twelve : ¬ Id 12
    not_twelve (inl h) = let k : 12 < 8 = h in omega arith
    not_twelve (inr h) = let k : 12 < 12 = h.1 in omega arith

pub nothing_is_spelled : NothingIsSpelled
nothing_is_spelled = record {
  empty = empty;
  seven_bytes = seven_bytes;
  version_two = version_two;
  start_first =
      start_first;
  data_count_first = data_count_first;
}
