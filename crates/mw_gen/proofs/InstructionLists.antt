-- Generated code is its instructions before a rest.
use Rattle.std.proofs.lemmas.List.{replicate-append-replicate}
use Rattle.mw_wasm.specs.declared.values.ValType.{ValType}
use Rattle.mw_gen.specs.Generate.{counting, elements_of, call_of, call_function}
use Rattle.mw_term.specs.Terms.{GroundType}
use Rattle.mw_meaning.specs.Shapes.{leaf_count}
use Rattle.mw_wasm.specs.Syntax.{global_get, global_set, local_get, const_i32}
use Rattle.std.proofs.Common.{◌≡◌, ℕ, zero, suc, ◌+◌, ◌<◌, replicate, Bool, true, false, List, [], ◌∷◌, ◌++◌}
use Rattle.std.proofs.Common.{refl, sym, ap, ◌∙◌, arith, if◌then◌else◌, map}
use Rattle.mw_term.specs.declared.term.Primitive.{Primitive as Prim}
use Rattle.mw_term.specs.declared.term.Primitive.TheVariants.{Add}
use Rattle.mw_wasm.specs.declared.instructions.Instr.{Instr}
use Rattle.mw_wasm.specs.declared.instructions.Instrs.{Instrs}
use Rattle.mw_wasm.specs.Syntax.{Instruction, Code, end, next, br, local_set}
use Rattle.mw_wasm.specs.Views.{instruction_of, list_code, code_of}
use Rattle.mw_ir.specs.declared.place.Place.{Place}
use Rattle.mw_ir.specs.declared.place.Place.TheVariants.{Free}
use Rattle.mw_ir.specs.Ir as i
use Rattle.mw_ir.specs.Ir.{Ir}
use Rattle.mw_gen.specs.Generate.{expression_code, tail_code, is_own, place_code, stores_code, prim_code}
use Rattle.mw_gen.specs.Generate.{application_code}
use Rattle.mw_gen.specs.Listing.{before, place_list, stores_list, prim_list, apply_list}
use Rattle.mw_gen.specs.Listing.{code_list, tail_list}

pub before_append : (xs ys : List Instruction) (rest : Code) → before (xs ++ ys) rest ≡ before xs (before ys rest)
before_append [] ys rest = refl
before_append (x ∷ xs) ys rest = ap (λ c. next x c) (before_append xs ys rest)

more : (n : ℕ) → n + 1 ≡ suc n
more n = omega arith

place_listed : (p : Place) (b : ℕ) (rest : Code) → place_code p b rest ≡ before (place_list p b) rest
place_listed (Free j) b rest = rw (more j) refl
place_listed _ b rest = refl

stores_listed : (ps : List Place) (j b : ℕ) (rest : Code) → stores_code ps j b rest ≡ before (stores_list ps j b) rest
stores_listed [] j b rest = refl
stores_listed (p ∷ ps) j b rest = simp (place_listed p b, stores_listed ps (suc j) b, before_append, more)

prim_listed : (p : Prim) (rest : Code) → prim_code p rest ≡ before (prim_list p) rest
prim_listed Add rest = refl
prim_listed _ rest = refl

pub expression_listed : (e : Ir) (b t : ℕ) (rest : Code) → expression_code e b t rest ≡ before (code_list e b t) rest
expression_listed (i.num z) b t rest = refl
expression_listed (i.truth z) b t rest = refl
expression_listed (i.get p) b t rest = place_listed p b rest
expression_listed (i.closure k ps) b t rest = simp (stores_listed, before_append, more)
expression_listed (i.app f a) b t rest =
    simp (expression_listed f b t, expression_listed a b t, before_append, more)
expression_listed (i.bind s d e) b t rest = simp (expression_listed d b t, expression_listed e b t, before_append)
expression_listed (i.cond c x y) b t rest = simp (expression_listed c b t, before_append)
expression_listed (i.pair x y) b t rest =
    simp (expression_listed x b t, expression_listed y b t, before_append, more)
expression_listed (i.fst e) b t rest = simp (expression_listed e b t, before_append)
expression_listed (i.snd e) b t rest = simp (expression_listed e b t, before_append)
expression_listed (i.prim p x y) b t rest =
    simp (expression_listed x b t, expression_listed y b t, prim_listed p, before_append)

pub tail_listed : (e : Ir) (b t d : ℕ) → tail_code e b t d ≡ before (tail_list e b t d) end
tail_listed (i.app f a) b t d = go (is_own f)
  where
    go : (z : Bool)
        → (if z then expression_code a b t (next (local_set 1) (next (br d) end)) else expression_code f b t
        (expression_code a b t (application_code t end)))
        ≡ before (if z then code_list a b t ++ local_set 1 ∷ br d ∷ [] else code_list f b t
        ++ (code_list a b t ++ apply_list t)) end
    go true = expression_listed a b t _ ∙ sym (before_append (code_list a b t) (local_set 1 ∷ br d ∷ []) end)
    go false = expression_listed (i.app f a) b t end
tail_listed (i.bind s a e) b t d = simp (expression_listed a b t, tail_listed e b t d, before_append)
tail_listed (i.cond c x y) b t d = simp (expression_listed c b t, before_append, more)
tail_listed e b t d = expression_listed e b t end

list_before : (is : List Instr) → list_code is ≡ before (map instruction_of is) end
list_before [] = refl
list_before (x ∷ is) = ap (λ c. next (instruction_of x) c) (list_before is)

-- code whose instructions are these
pub code_listed : (c : Instrs) (xs : List Instruction) → map instruction_of c.inner.items ≡ xs → code_of c
    ≡ before xs end
code_listed c xs e = list_before c.inner.items ∙ ap (λ is. before is end) e

pub code_is : (c : Instrs) (e : Ir) (b t : ℕ) → map instruction_of c.inner.items ≡ code_list e b t → code_of c
    ≡ expression_code e b t end
code_is c e b t h = code_listed c (code_list e b t) h ∙ sym (expression_listed e b t end)

pub tail_is : (c : Instrs) (e : Ir) (b t d : ℕ) → map instruction_of c.inner.items ≡ tail_list e b t d → code_of c
    ≡ tail_code e b t d
tail_is c e b t d h = code_listed c (tail_list e b t d) h ∙ sym (tail_listed e b t d)

pub restarting_is : (c : Instrs) (e : Ir) (t : ℕ) → map instruction_of c.inner.items
    ≡ const_i32 0 ∷ global_set 0 ∷ code_list e 0 t → code_of c
    ≡ next (const_i32 0) (next (global_set 0) (expression_code e 0 t end))
restarting_is c e t h =
    code_listed c (const_i32 0 ∷ global_set 0 ∷ code_list e 0 t) h
    ∙ ap (λ d. next (const_i32 0) (next (global_set 0) d)) (sym (expression_listed e 0 t end))

-- one more of the same, or of a count, at the end
pub replicate_more : (k : ℕ) (x : ValType) → replicate (k + 1) x ≡ replicate k x ++ x ∷ []
replicate_more k x = sym (replicate-append-replicate k 1 x)

pub counting_more : (k n : ℕ) → counting k (n + 1) ≡ counting k n ++ (k + n) ∷ []
counting_more k zero = let e : k ≡ k + 0 = omega arith in ap (λ k. k ∷ []) e
counting_more k (suc n) = let e : suc n + 1 ≡ suc (n + 1) = omega arith in let f : k + suc n ≡ suc k + n =
    omega arith in rw (e, f) (ap (λ ks. k ∷ ks) (counting_more (suc k) n))

pub replicate_first : (k : ℕ) (x : ValType) → replicate (1 + k) x ≡ x ∷ replicate k x
replicate_first k x = sym (replicate-append-replicate 1 k x)

pub elements_some : (n : ℕ) → 0 < n → elements_of n ≡ record { offset = next (const_i32 0) end; funcs = counting 0 n }
    ∷ []
elements_some zero lt = absurd (omega arith)
elements_some (suc n) lt = refl

-- the body of `call`
pub call_is : (c : Instrs) (s : GroundType) → map instruction_of c.inner.items ≡ global_get 0
    ∷ local_set (leaf_count s + 3) ∷ (code_list (call_of s) 0 (leaf_count s + 1) ++ local_get (leaf_count s + 3)
    ∷ global_set 0 ∷ []) → code_of c ≡ (call_function s).body
call_is c s h =
    let keep : leaf_count s + 3 ≡ suc (suc (suc (leaf_count s))) = omega arith in
    let spare : leaf_count s + 1 ≡ 0 + suc (leaf_count s) = omega arith in
    code_listed c (global_get 0 ∷ local_set (suc (suc (suc (leaf_count s))))
    ∷ (code_list (call_of s) 0 (0 + suc (leaf_count s)) ++ local_get (suc (suc (suc (leaf_count s)))) ∷ global_set 0
    ∷ [])) (rw (keep, spare) at h)
    ∙ ap (λ d. next (global_get 0) (next (local_set (suc (suc (suc (leaf_count s))))) d))
    (before_append (code_list (call_of s) 0 (0 + suc (leaf_count s)))
    (local_get (suc (suc (suc (leaf_count s)))) ∷ global_set 0 ∷ []) end
    ∙ sym (expression_listed (call_of s) 0 (0 + suc (leaf_count s))
    (next (local_get (suc (suc (suc (leaf_count s))))) (next (global_set 0) end))))
