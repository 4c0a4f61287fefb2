-- What the two walks make of a whole term.
use Rattle.std.proofs.Common.{◌≡◌, ℕ, suc, ◌+◌, ◌*◌, ◌^◌, ◌<◌, ◌≤◌, List, [], ◌∷◌, ◌++◌, length, map, reverse, refl, ap}
use Rattle.std.proofs.Common.{◌∙◌, sym, subst, arith, length-append}
use Rattle.std.specs.Prelude.{ℤ}
use Rattle.std.proofs.lemmas.List.{reverse-reverse, reverse-append, map-append}
use Rattle.mw_term.specs.Terms as x
use Rattle.mw_term.specs.Terms.{Expression, size}
use Rattle.mw_term.specs.Closed.{ClosedBelow}
use Rattle.mw_ir.specs.declared.code.IrFunc.{IrFunc as Function}
use Rattle.mw_meaning.specs.KernelMeaning.{kernel_meaning}
use Rattle.mw_ir.specs.Ir.{Ir, IrFunc, means, outside}
use Rattle.mw_ir.specs.Ranges.{IsConverted}
use Rattle.mw_ir.specs.Views.{ir_func_of}
use Rattle.mw_conv.specs.declared.code.Converter.{Converter}
use Rattle.mw_conv.specs.Agreement.{Agrees}
use Rattle.mw_conv.specs.Contexts.{place_at}
use Rattle.mw_conv.specs.Convert.{funs, lets, code, functions, function_of, converted_functions}
use Rattle.mw_conv.specs.Convert.{converted_outside}
use Rattle.mw_conv.specs.Converting.{CanConvert, Converts}
use Rattle.mw_conv.specs.Finding.{all_found}
use Rattle.mw_conv.proofs.Correct.{converted}

-- each function is found
pub found_length : (e : Expression) (d : ℕ) → length (all_found e d) ≡ funs e
found_length (x.fun e) d = simp length-append (omega (arith, found_length e (suc d)))
found_length (x.fix e) d = simp length-append (omega (arith, found_length e (suc (suc d))))
found_length (x.app f a) d = simp length-append (omega (arith, found_length f d, found_length a d))
found_length (x.bind a e) d = simp length-append (omega (arith, found_length a d, found_length e (suc d)))
found_length (x.cond c a b) d =
    simp length-append (omega (arith, found_length c d, found_length a d, found_length b d))
found_length (x.pair f a) d = simp length-append (omega (arith, found_length f d, found_length a d))
found_length (x.fst e) d = found_length e d
found_length (x.snd e) d = found_length e d
found_length (x.prim p f a) d = simp length-append (omega (arith, found_length f d, found_length a d))
found_length _ d = refl

pub map_reverse : {A B : Type 0} → (f : A → B) (xs : List A) → map f (reverse xs) ≡ reverse (map f xs)
map_reverse f [] = refl
map_reverse f (x ∷ xs) = ap (map f) (reverse-append (x ∷ []) xs)
    ∙ (map-append f (reverse xs) (x ∷ [])
    ∙ (ap (λ ys. ys ++ f x ∷ []) (map_reverse f xs) ∙ sym (reverse-append (f x ∷ []) (map f xs))))

-- the walk over a whole term begins
pub can_begin : (b : Converter) (c : Expression) → ClosedBelow 0 c → size c ≤ 20000 → b.context.items ≡ []
    → b.left ≡ funs c → b.found.items ≡ all_found c 0 → CanConvert b c 0
can_begin b c closed few e l f =
    record {
      closed = subst (λ ps. ClosedBelow (length ps) c) (sym e) closed;
      slots = omega (arith, few);
      binders = subst (λ ps. length ps + 2 * size c < 2 ^ 32) (sym e) (omega (arith, few));
      left = omega (arith, l);
      found = record { front = []; is = subst (λ ps. b.found.items ≡ all_found c (length ps)) (sym e) f };
    }

-- and comes to the functions, turned round
pub functions_are : (b a : Converter) (c : Expression) (q : Ir) (funcs : List Function) → b.context.items ≡ []
    → b.left ≡ funs c → b.funcs ≡ [] → Converts b a c 0 q → funcs ≡ reverse a.funcs
    → map ir_func_of funcs ≡ converted_functions c
functions_are b a c q funcs e l g h r =
    let z : a.left ≡ 0 = omega (arith, l, h.left) in
    let k : map ir_func_of a.funcs ≡ reverse (functions c 0 0) = h.funcs ∙ rw (e, g, z) refl in
    ap (map ir_func_of) r ∙ (map_reverse ir_func_of a.funcs ∙ (ap reverse k ∙ reverse-reverse (functions c 0 0)))

-- and to the code outside them
pub outside_is : (b a : Converter) (c : Expression) (q : Ir) (slots : ℕ) → b.context.items ≡ [] → b.left ≡ funs c
    → Converts b a c 0 q → slots ≡ lets c → function_of 0 slots q ≡ converted_outside c
outside_is b a c q slots e l h s =
    let z : a.left ≡ 0 = omega (arith, l, h.left) in
    let q' : q ≡ code c 0 0 0 (place_at []) = h.code ∙ rw (e, z) refl in
    rw (s, q') refl

-- so it means what the code does
pub means_alike : (c : Expression) (t : List IrFunc) (f : IrFunc) → t ≡ converted_functions c → f ≡ converted_outside c
    → (n : ℕ) (h : List ℤ) → Agrees t n h (kernel_meaning n (length h) c) (means t n h outside f.body)
means_alike c t f e g n h = rw (e, g) (converted c n h)

pub in_range : (c : Expression) (t : List IrFunc) (f : IrFunc) → t ≡ converted_functions c → f ≡ converted_outside c
    → IsConverted (converted_functions c) (converted_outside c) → IsConverted t f
in_range c t f e g h = rw (e, g) h
