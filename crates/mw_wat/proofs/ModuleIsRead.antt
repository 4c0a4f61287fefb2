-- A module whose lexemes stand there is read.
use Rattle.std.proofs.Common.{◌≡◌, ℕ, zero, suc, ◌≤◌, List, [], ◌∷◌, length, refl, subst, arith, Bool, true}
use Rattle.std.proofs.Common.{false, Option, Some, None}
use Rattle.std.specs.Prelude.{codes, IfSome}
use Rattle.std.specs.Str.{bytes_eq}
use Rattle.std.specs.List.{AllByRecursion, flat_map}
use Rattle.mw_wasm.specs.Syntax.{PureModule, Function, Exporting}
use Rattle.mw_wasm.specs.BinaryModules.{at_most_one}
use Rattle.mw_wasm.specs.Profile.{depth}
use Rattle.mw_wat.specs.Tokens as t
use Rattle.mw_wat.specs.Lexemes.{Lexeme, right, lexemes}
use Rattle.mw_wat.specs.Lexing.{Tokens, token}
use Rattle.mw_wat.specs.Reading.{got, Reader, count}
use Rattle.mw_wat.specs.Modules.{Fields, next_field, fields_up_to, function_type, function, table, memory}
use Rattle.mw_wat.specs.Modules.{global, export, element, data_segment, whole_module}
use Rattle.mw_wat.specs.Modules as read
use Rattle.mw_wat.specs.ModuleTexts.{HasTexts}
use Rattle.mw_wat.proofs.TokensStand.{Stands, here, there, parted, counted}
use Rattle.mw_wat.proofs.FieldsAreRead.{type_tail, type_got, function_tail, function_got, FitsFunction, table_tail}
use Rattle.mw_wat.proofs.FieldsAreRead.{table_got, memory_tail, memory_got, global_tail, global_got, export_tail}
use Rattle.mw_wat.proofs.FieldsOfModules.{field_of, flat_fields}
use Rattle.mw_wat.proofs.FieldsAreRead.{export_got, element_tail, element_got, data_tail, data_got}

-- behind the parenthesis that opens a field, or closes the module
pub data After : Tokens → Bool → Tokens → Type 0 where
  opens : {at : ℕ} {ts : Tokens} → After (token at t.left ts) true ts
  closes : {at : ℕ} {ts : Tokens} → After (token at t.right ts) false ts

-- the field in hand, if there is one, has another word
pub data HasOther (w : List ℕ) : Bool → Tokens → Type 0 where
  no_field : {ts : Tokens} → HasOther w false ts
  a_field : {at : ℕ} {v : List ℕ} {ts : Tokens} → bytes_eq v w ≡ false → HasOther w true (token at (t.word v) ts)

abbrev the_fields : {A : Type 0} → List A → Bool → Fields A
the_fields xs going = record { list = xs; going = going }

next_got : {ts rest : Tokens} {going : Bool} → After ts going rest → next_field ts ≡ got going rest
next_got opens = refl
next_got closes = refl

none_here : {A : Type 0} (w : List ℕ) (field : Reader A) (n : ℕ) {going : Bool} {ts : Tokens} → HasOther w going ts
    → fields_up_to n w field going ts ≡ got (the_fields [] going) ts
none_here w field zero h = refl
none_here w field (suc n) no_field = refl
none_here w field (suc n) (a_field e) = rw e refl

-- two ways to go on
same_after : {A : Type 0} (w : List ℕ) (field : Reader A) (n : ℕ)
    (xs : List A) {ts a b : Tokens} {going coming left : Bool} {mid : Tokens} → After ts going a → After ts coming b
    → fields_up_to n w field going a ≡ got (the_fields xs left) mid → fields_up_to n w field coming b ≡ got
    (the_fields xs left) mid
same_after w field n xs opens opens e = e
same_after w field n xs closes closes e = e

-- the field in hand, if there is one, has none of these words
record Going (ws : List (List ℕ)) (ts : Tokens) : Type 0 where
  going : Bool
  rest : Tokens
  after : After ts going rest
  others : AllByRecursion (λ w. HasOther w going rest) ws

abbrev AreOther : List ℕ → List (List ℕ) → Type 0
AreOther v ws = AllByRecursion (λ w. bytes_eq v w ≡ false) ws

others_of : (v : List ℕ) (ws : List (List ℕ)) (at : ℕ) (ts : Tokens) → AreOther v ws → AllByRecursion
    (λ w. HasOther w true (token at (t.word v) ts)) ws
others_of v [] at ts a = tt
others_of v (w ∷ ws) at ts a = (a_field a.0, others_of v ws at ts a.1)

going_at : {A : Type 0} (v : List ℕ) (tail : A → List Lexeme) (xs : List A) {ws : List (List ℕ)} {ts mid : Tokens}
    → Stands ts (flat_map (field_of v tail) xs) mid → Going (v ∷ ws) mid → AreOther v ws → Going ws ts
going_at v tail [] here g a = record { going = g.going; rest = g.rest; after = g.after; others = g.others.1 }
going_at v tail (x ∷ xs) {ws = ws} (there _ (there {at = at} {ts = ts} _ s)) g a =
    record { going = true; rest = token at (t.word v) ts; after = opens; others = others_of v ws at ts a }

begun : {A : Type 0} (v : List ℕ) (tail : A → List Lexeme) (xs : List A) {ts mid rest : Tokens} {going : Bool}
    → Stands ts (flat_map (field_of v tail) xs) mid → After mid going rest → (coming : Bool) × (behind : Tokens)
    × After ts coming behind
begun v tail [] here a = (_, _, a)
begun v tail (x ∷ xs) (there {ts = ts} _ s) a = (true, ts, opens)

pub fields_got : {A : Type 0} (w : List ℕ) → bytes_eq w w ≡ true → (field : Reader A) (tail : A → List Lexeme)
    (Fits : A → Type 0) → ((x : A) (ts rest : Tokens) → Fits x → Stands ts (tail x) rest → field ts ≡ got x rest)
    → (xs : List A) (n : ℕ) → length xs ≤ n → AllByRecursion Fits xs → {ts mid : Tokens} → Stands ts
    (flat_map (field_of w tail) xs) mid → {going coming : Bool} {behind rest : Tokens} → After ts going behind
    → After mid coming rest → HasOther w coming rest
    → fields_up_to n w field going behind ≡ got (the_fields xs coming) rest
fields_got w e field tail Fits g [] n p f here a b h = same_after w field n [] b a (none_here w field n h)
fields_got w e field tail Fits g (x ∷ xs) zero p f s a b h = absurd (omega arith)
fields_got w e field tail Fits g (x ∷ xs) (suc n) p f (there _ (there {ts = ts} _ s)) opens b h =
    let q = parted (tail x) (flat_map (field_of w tail) xs) s in
    let k = begun w tail xs q.back b in
    rw (
      e,
      g x ts q.mid f.0 q.front,
      next_got k.2,
      fields_got w e field tail Fits g xs n
          (omega arith) f.1 q.back k.2 b h,
    ) refl

less : {ts mid : Tokens} (xs : List Lexeme) → Stands ts xs mid → count mid ≤ count ts
less xs s = omega (arith, counted xs s)

as_many : {A : Type 0} (v : List ℕ) (tail : A → List Lexeme) (xs : List A) {ts mid : Tokens} → Stands ts
    (flat_map (field_of v tail) xs) mid → length xs ≤ count ts
as_many v tail [] here = omega arith
as_many v tail (x ∷ xs) (there _ (there _ s)) = let q = parted (tail x) (flat_map (field_of v tail) xs) s in omega
    (arith, as_many v tail xs q.back, less (tail x) q.front)

room_for : {A : Type 0} (xs : List A) {ts rest : Tokens} {going : Bool} → After ts going rest → length xs ≤ count ts
    → length xs ≤ suc (count rest)
room_for xs opens p = omega arith
room_for xs closes p = omega arith

pub any_fields : {A : Type 0} (w : List ℕ) → bytes_eq w w ≡ true → (field : Reader A) (tail : A → List Lexeme)
    (Fits : A → Type 0) → ((x : A) (ts rest : Tokens) → Fits x → Stands ts (tail x) rest → field ts ≡ got x rest)
    → (xs : List A) → AllByRecursion Fits xs → {ts mid : Tokens} → Stands ts (flat_map (field_of w tail) xs) mid
    → {going coming : Bool} {behind rest : Tokens} → After ts going behind → After mid coming rest
    → HasOther w coming rest
    → read.fields w field going behind ≡ got (the_fields xs coming) rest
any_fields w e field tail Fits g xs f s {behind = behind} a b h = fields_got w e field tail Fits g xs
    (suc (count behind)) (room_for xs a (as_many w tail xs s)) f s a b h

-- what holds of the parts
functions_fit : (fs : List Function) → AllByRecursion (λ f. length f.locals ≤ 50_000) fs → AllByRecursion
    (λ f. depth f.body ≤ 500) fs → AllByRecursion FitsFunction fs
functions_fit [] a b = tt
functions_fit (f ∷ fs) a b = (record { locals = a.0; body = b.0 }, functions_fit fs a.1 b.1)

one_fits : {A : Type 0} (P : A → Type 0) (o : Option A) → IfSome o P → AllByRecursion P (at_most_one o)
one_fits P None p = tt
one_fits P (Some x) p = (p, tt)

one_long : {A : Type 0} (o : Option A) → length (at_most_one o) ≤ 1
one_long None = omega arith
one_long (Some x) = omega arith

one_head : {A : Type 0} (o : Option A) → read.head (at_most_one o) ≡ o
one_head None = refl
one_head (Some x) = refl

all_units : (es : List Exporting) → AllByRecursion (λ e. Unit {0}) es
all_units [] = tt
all_units (e ∷ es) = (tt, all_units es)

end_after : {ts rest : Tokens} → Stands ts (right ∷ []) rest → After ts false rest
end_after (there _ here) = closes

pub module_got : (m : PureModule) {ts rest : Tokens} → HasTexts m → Stands ts (lexemes m) rest
    → whole_module ts ≡ got m rest
unfolding whole_module
module_got m {rest = rest} h (there _ (there {ts = ts} _ s)) =
    let s0 = subst (λ is. Stands ts is rest) (flat_fields m _ _ refl refl) s in
    let q1 = parted (flat_map (field_of (codes "type") type_tail) m.types) _ s0 in
    let q2 = parted (flat_map (field_of (codes "func") function_tail) m.funcs) _ q1.back in
    let q3 = parted (flat_map (field_of (codes "table") table_tail) (at_most_one m.table)) _ q2.back in
    let q4 = parted (flat_map (field_of (codes "memory") memory_tail) (at_most_one m.memory)) _ q3.back in
    let q5 = parted (flat_map (field_of (codes "global") global_tail) m.globals) _ q4.back in
    let q6 = parted (flat_map (field_of (codes "export") export_tail) m.exports) _ q5.back in
    let q7 = parted (flat_map (field_of (codes "elem") element_tail) m.elements) _ q6.back in
    let q8 = parted (flat_map (field_of (codes "data") data_tail) m.segments) _ q7.back in
    let g8 : Going
    (codes "data" ∷ codes "elem" ∷ codes "export" ∷ codes "global" ∷ codes "memory" ∷ codes "table" ∷ codes "func"
    ∷ codes "type" ∷ []) q8.mid =
    record {
      going = false;
      rest = rest;
      after = end_after q8.back;
      others =
          (no_field, (no_field, (no_field, (no_field, (no_field, (no_field, (no_field, (no_field, tt))))))));
    } in
    let g7 = going_at (codes "data") data_tail m.segments q8.front g8
    (refl, (refl, (refl, (refl, (refl, (refl, (refl, tt))))))) in
    let g6 = going_at (codes "elem") element_tail m.elements q7.front g7
    (refl, (refl, (refl, (refl, (refl, (refl, tt)))))) in
    let g5 = going_at (codes "export") export_tail m.exports q6.front g6 (refl, (refl, (refl, (refl, (refl, tt))))) in
    let g4 = going_at (codes "global") global_tail m.globals q5.front g5 (refl, (refl, (refl, (refl, tt)))) in
    let g3 = going_at (codes "memory") memory_tail (at_most_one m.memory) q4.front g4 (refl, (refl, (refl, tt))) in
    let g2 = going_at (codes "table") table_tail (at_most_one m.table) q3.front g3 (refl, (refl, tt)) in
    let g1 = going_at (codes "func") function_tail m.funcs q2.front g2 (refl, tt) in
    let g0 = going_at (codes "type") type_tail m.types q1.front g1 tt in
    let r1 = any_fields (codes "type") refl function_type type_tail (λ t. length t.results ≤ 1)
    (λ x ts rest f s. type_got x f s) m.types h.profile.type_results q1.front g0.after g1.after g1.others.0 in
    let r2 = any_fields (codes "func") refl function function_tail FitsFunction
    (λ x ts rest f s. function_got x f s) m.funcs
    (functions_fit m.funcs h.profile.further_locals h.profile.function_depth) q2.front g1.after g2.after g2.others.0
    in
    let r3 = fields_got (codes "table") refl table table_tail (λ l. l.min ≤ 100_000)
    (λ x ts rest f s. table_got x f s) (at_most_one m.table) 1 (one_long m.table)
    (one_fits (λ l. l.min ≤ 100_000) m.table h.profile.table_elements) q3.front g2.after g3.after g3.others.0 in
    let r4 = fields_got (codes "memory") refl memory memory_tail (λ l. l.min ≤ 1_024)
    (λ x ts rest f s. memory_got x f s) (at_most_one m.memory) 1 (one_long m.memory)
    (one_fits (λ l. l.min ≤ 1_024) m.memory h.profile.memory_pages) q4.front g3.after g4.after g4.others.0 in
    let r5 = any_fields (codes "global") refl global global_tail (λ g. depth g.init ≤ 500)
    (λ x ts rest f s. global_got x f s) m.globals h.profile.global_depth q5.front g4.after g5.after g5.others.0 in
    let r6 = any_fields (codes "export") refl export export_tail (λ e. Unit {0})
    (λ x ts rest f s. export_got x f s) m.exports (all_units m.exports) q6.front g5.after g6.after g6.others.0 in
    let r7 = any_fields (codes "elem") refl element element_tail (λ e. depth e.offset ≤ 500)
    (λ x ts rest f s. element_got x f s) m.elements h.profile.element_depth q7.front g6.after g7.after g7.others.0 in
    let r8 = any_fields (codes "data") refl data_segment data_tail (λ d. depth d.offset ≤ 500)
    (λ x ts rest f s. data_got x f s) m.segments h.profile.segment_depth q8.front g7.after g8.after g8.others.0 in
    rw (next_got g0.after, r1, r2, r3, r4, r5, r6, r7, r8, one_head m.table, one_head m.memory) refl
