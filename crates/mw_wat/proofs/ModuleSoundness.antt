-- A module that is read is what the tokens say.
use Rattle.std.proofs.Common.{◌≡◌, ◌≤◌, List, [], ◌∷◌, length, refl, ap, sym, ◌∙◌, subst, arith}
use Rattle.std.proofs.Common.{Bool, true, false, append-nil}
use Rattle.std.specs.Prelude.{codes, IfSome}
use Rattle.std.specs.List.{AllByRecursion}
use Rattle.mw_wasm.specs.declared.modules.FuncType.{FuncType}
use Rattle.mw_wasm.specs.declared.modules.Limits.{Limits}
use Rattle.mw_wasm.specs.Syntax.{Function, Global, Exporting, ElementSegment, DataSegment, PureModule}
use Rattle.mw_wasm.specs.Profile.{depth, IsPrintable}
use Rattle.mw_wasm.specs.BinaryModules.{at_most_one}
use Rattle.mw_wat.specs.Lexemes.{left, right, word, lexemes}
use Rattle.mw_wat.specs.Lexing.{Tokens}
use Rattle.mw_wat.specs.Reading.{got}
use Rattle.mw_wat.specs.Modules.{head, no_more, whole_module}
use Rattle.mw_wat.proofs.FieldsAreRead.{FitsFunction}
use Rattle.mw_wat.proofs.FieldsOfModules.{flat_fields}
use Rattle.mw_wat.proofs.LexemeSoundness.{Said, Tells, Reads, says_bad, says_gives, says_then, tells_then}
use Rattle.mw_wat.proofs.CodeSoundness.{says_opening, says_this}
use Rattle.mw_wat.proofs.FieldSoundness.{says_function_type, says_function, says_table, says_memory, says_global}
use Rattle.mw_wat.proofs.FieldSoundness.{says_export, says_element, says_data, hand, says_next}
use Rattle.mw_wat.proofs.FieldSoundness.{says_fields_up_to, says_fields, chained}

-- what the parts of a module that is read are
pub record FitsModule (m : PureModule) : Type 0 where
  pub types : AllByRecursion (λ t. length t.results ≤ 1) m.types
  pub funcs : AllByRecursion FitsFunction m.funcs
  pub table : IfSome m.table (λ l. l.min ≤ 100_000)
  pub memory : IfSome m.memory (λ l. l.min ≤ 1_024)
  pub globals : AllByRecursion (λ g. depth g.init ≤ 500) m.globals
  pub exports : AllByRecursion (λ e. AllByRecursion IsPrintable e.name) m.exports
  pub elements : AllByRecursion (λ e. depth e.offset ≤ 500) m.elements
  pub segments : AllByRecursion (λ d. depth d.offset ≤ 500) m.segments

pub record ModuleBack (ts : Tokens) (rest : Tokens) (m : PureModule) : Type 0 where
  pub said : Said ts (lexemes m) rest
  pub fits : FitsModule m

one_of_list : {A : Type 0} (P : A → Type 0) (xs : List A) → length xs ≤ 1 → AllByRecursion P xs
    → (at_most_one (head xs) ≡ xs) × IfSome (head xs) P
one_of_list P [] k a = (refl, tt)
one_of_list P (x ∷ []) k a = (refl, a.0)
one_of_list P (x ∷ y ∷ xs) k a = absurd (omega arith)

abbrev module_with : List FuncType → List Function → List Limits → List Limits → List Global → List Exporting
    → List ElementSegment → List DataSegment → PureModule
module_with l1 l2 l3 l4 l5 l6 l7 l8 =
    record {
      types = l1;
      funcs = l2;
      table = head l3;
      memory = head l4;
      globals = l5;
      exports = l6;
      elements = l7;
      segments = l8;
    }

says_no_more : (going : Bool) → Reads (no_more going) (λ _ is. hand going ∷ is ≡ right ∷ [])
says_no_more true = λ ts. says_bad refl
says_no_more false = says_gives refl

says_module : Tells whole_module lexemes FitsModule
unfolding whole_module
says_module = tells_then says_opening λ _ _. tells_then (says_this (codes "module")) λ _ _. tells_then says_next
    λ g _ s0.
    says_then (says_fields (codes "type") says_function_type g s0) λ l1 i1 b1 s1.
    says_then (says_fields (codes "func") says_function l1.going s1) λ l2 i2 b2 s2.
    says_then (says_fields_up_to (codes "table") says_table 1 l2.going s2) λ l3 i3 b3 s3.
    says_then (says_fields_up_to (codes "memory") says_memory 1 l3.going s3) λ l4 i4 b4 s4.
    says_then (says_fields (codes "global") says_global l4.going s4) λ l5 i5 b5 s5.
    says_then (says_fields (codes "export") says_export l5.going s5) λ l6 i6 b6 s6.
    says_then (says_fields (codes "elem") says_element l6.going s6) λ l7 i7 b7 s7.
    says_then (says_fields (codes "data") says_data l7.going s7) λ l8 i8 b8 s8.
    says_then (says_no_more l8.going s8) λ _ i9 z.
    let t3 = one_of_list (λ l. l.min ≤ 100_000) l3.list b3.1 b3.0.fit in
    let t4 = one_of_list (λ l. l.min ≤ 1_024) l4.list b4.1 b4.0.fit in
    says_gives (
      ap (λ is. left ∷ word (codes "module") ∷ is)
          (chained b1 (chained b2 (chained b3.0 (chained b4.0 (chained b5 (chained b6 (chained b7 (chained b8
          (ap (λ is. hand l8.going ∷ is) (append-nil i9) ∙ z))))))))
          ∙ sym
          (flat_fields (module_with l1.list l2.list l3.list l4.list l5.list l6.list l7.list l8.list) l3.list l4.list
          t3.0 t4.0)),
      record {
        types = b1.fit;
        funcs = b2.fit;
        table = t3.1;
        memory = t4.1;
        globals = b5.fit;
        exports = b6.fit;
        elements = b7.fit;
        segments = b8.fit;
      },
    )

pub module_said : (ts : Tokens) (m : PureModule) (rest : Tokens) → whole_module ts ≡ got m rest → ModuleBack ts rest m
module_said ts m rest e =
    let b = (says_module ts).back m rest e in
    record { said = subst (λ is. Said ts is rest) b.2.0 b.1; fits = b.2.1 }
