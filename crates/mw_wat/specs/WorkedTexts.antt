-- Worked texts: those of two modules, and texts of no module with their first bad places.
use Rattle.std.specs.Prelude.{◌≡◌, ℕ, List, [], ◌∷◌, ◌++◌, map, codes, Ok, Err}
use Rattle.mw_wasm.specs.ExampleModules.{example_a, example_b}
use Rattle.mw_wat.specs.CanonicalTexts.{canonical_text}
use Rattle.mw_wat.specs.Modules.{module_read}

-- the module whose init answers 7
abbrev pub constant_text : List ℕ
constant_text = codes "(module\n"
    ++ codes "(type (func (param i64 i64) (result i64)))\n"
    ++ codes "(type (func (result i64)))\n"
    ++ codes "(func (type 1) i64.const 7)\n"
    ++ codes "(table 0 0 funcref)\n"
    ++ codes "(memory 64 64)\n"
    ++ codes "(global (mut i32) i32.const 0)\n"
    ++ codes "(export \"init\" (func 0))\n"
    ++ codes ")\n"

-- the module whose call answers the cube of its argument
abbrev pub cube_text : List ℕ
cube_text = codes "(module\n"
    ++ codes "(type (func (param i64 i64) (result i64)))\n"
    ++ codes "(type (func (result i64)))\n"
    ++ codes "(type (func (param i64 i64) (result i64)))\n"
    ++ codes "(func (type 0) local.get 1 local.get 1 local.get 1 i64.const 1 i64.mul i64.mul i64.mul)\n"
    ++ codes "(func (type 1) global.get 0 i64.const 0 i64.store offset=0 exp=3 global.get 0 i64.extend_i32_u"
    ++ codes " global.get 0 i32.const 8 i32.add global.set 0)\n"
    ++ codes "(func (type 2) (local i64 i64 i32) global.get 0 local.set 4 local.get 0 local.get 1 local.set 3"
    ++ codes " local.tee 2 local.get 3 local.get 2 i32.wrap_i64 i32.load offset=0 exp=2 call_indirect (type 0)"
    ++ codes " local.get 4 global.set 0)\n"
    ++ codes "(table 1 1 funcref)\n"
    ++ codes "(memory 64 64)\n"
    ++ codes "(global (mut i32) i32.const 0)\n"
    ++ codes "(export \"init\" (func 1))\n"
    ++ codes "(export \"call\" (func 2))\n"
    ++ codes "(elem (offset i32.const 0) 0)\n"
    ++ codes ")\n"

abbrev pub ExamplesHaveTexts : Type 0
ExamplesHaveTexts = (canonical_text example_a ≡ constant_text) × (canonical_text example_b ≡ cube_text)

abbrev pub ExamplesAreRead : Type 0
ExamplesAreRead = (module_read constant_text ≡ Ok example_a) × (module_read cube_text ≡ Ok example_b)

-- texts with their first bad places
abbrev pub refused : List (List ℕ × ℕ)
refused =
    (codes "", 0)
    ∷ (codes "(modul)", 1)
    ∷ (codes "(module", 7)
    ∷ (codes "(module)x", 8)
    ∷ (codes "(module))", 8)
    ∷ (codes "module", 0)
    ∷ (codes ";; text", 0)
    ∷ (codes "(module (type (func (result i32 i32))))", 32)
    ∷ (codes "(module (type (func (param))))", 26)
    ∷ (codes "(module (func (type 0)) (type (func)))", 25)
    ∷ (codes "(module (table 0 funcref) (table 0 funcref))", 27)
    ∷ (codes "(module (table 100001 funcref))", 15)
    ∷ (codes "(module (memory 1025))", 16)
    ∷ (codes "(module (memory 1 4294967296))", 18)
    ∷ (codes "(module (global i32 (i32.const 0)))", 20)
    ∷ (codes "(module (export \"a\\1f\" (func 0)))", 16)
    ∷ (codes "(module (export \"a", 16)
    ∷ (codes "(module (export \"a\\4A\" (func 0)))", 16)
    ∷ (codes "(module (func (type 0) i32.const 2147483648))", 33)
    ∷ (codes "(module (func (type 0) i32.const -2147483649))", 33)
    ∷ (codes "(module (func (type 0) i32.const -0))", 33)
    ∷ (codes "(module (func (type 0) i32.const +1))", 33)
    ∷ (codes "(module (func (type 0) i32.const 01))", 33)
    ∷ (codes "(module (func (type 0) i64.const 9223372036854775808))", 33)
    ∷ (codes "(module (func (type 0) br_table))", 31)
    ∷ (codes "(module (func (type 0) br_table 0 drop -1))", 39)
    ∷ (codes "(module (func (type 0) br $l))", 26)
    ∷ (codes "(module (func (type 0) call_indirect 0))", 37)
    ∷ (codes "(module (func (type 0) i32.load))", 31)
    ∷ (codes "(module (func (type 0) i32.load offset=0))", 40)
    ∷ (codes "(module (func (type 0) i32.load exp=0 offset=0))", 32)
    ∷ (codes "(module (func (type 0) i32.load offset= 0 exp=0))", 32)
    ∷ (codes "(module (func (type 0) if nop else end))", 35)
    ∷ (codes "(module (func (type 0) if nop else nop else nop end))", 39)
    ∷ (codes "(module (func (type 0) block else end))", 29)
    ∷ (codes "(module (func (type 0) block))", 28)
    ∷ (codes "(module (func (type 0) end))", 23)
    ∷ (codes "(module (func (type 0) block (param i32) end))", 30)
    ∷ (codes "(module (func (type 0) (nop)))", 24)
    ∷ (codes "(module (func (type 0) f32.add))", 23)
    ∷ (codes "(module (func (type 0) NOP))", 23)
    ∷ (codes "(module (func (type 0) nop \"a\"))", 27)
    ∷ []

abbrev pub RefusedAtPlaces : Type 0
RefusedAtPlaces = map (λ (r : List ℕ × ℕ). module_read r.0) refused ≡ map (λ (r : List ℕ × ℕ). Err r.1) refused
