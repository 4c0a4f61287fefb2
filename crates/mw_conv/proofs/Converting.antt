-- The converter before and after the parts of a term.
use Rattle.std.proofs.Common.{◌≡◌, ℕ, suc, ◌+◌, ◌-◌, ◌*◌, ◌^◌, ◌<◌, ◌≤◌, Bool, List, [], ◌∷◌, ◌++◌, length, map}
use Rattle.std.proofs.Common.{take, get_or, refl, ap, ◌∙◌, sym, subst, arith, append-nil}
use Rattle.std.specs.Global.{Vec}
use Rattle.std.proofs.lemmas.List.{map-append, get_or_default}
use Rattle.mw_term.specs.Terms as x
use Rattle.mw_term.specs.Terms.{Expression, size}
use Rattle.mw_term.specs.Closed.{ClosedBelow}
use Rattle.mw_ir.specs.declared.code.IrFunc.{IrFunc as Function}
use Rattle.mw_ir.specs.declared.place.Place.{Place}
use Rattle.mw_ir.specs.declared.place.Place.TheVariants.{Argument, Slot}
use Rattle.mw_ir.specs.Ir as i
use Rattle.mw_ir.specs.Ir.{Ir}
use Rattle.mw_ir.specs.declared.code.Ir.{Ir as Code}
use Rattle.mw_ir.specs.Views.{ir_of, ir_func_of}
use Rattle.mw_conv.specs.declared.code.Converter.{Converter}
use Rattle.mw_conv.specs.declared.found.FoundFunction.{FoundFunction}
use Rattle.mw_conv.specs.Contexts.{found_in}
use Rattle.mw_conv.specs.Convert.{funs}
use Rattle.mw_conv.specs.Converting.{CanConvert, Converts}
use Rattle.mw_conv.specs.Finding.{EndsWith, all_found, function, levels, freeing, places, own_places}
use Rattle.mw_conv.proofs.Contexts.{one_more, popped, place_read}
use Rattle.mw_conv.proofs.Ends.{ends_left, ends_right}
use Rattle.mw_conv.proofs.Closures.{outer_free, the_found, the_rest, found_again, few, inner_within}
use Rattle.mw_conv.proofs.Closures.{closure_is, function_added, funs_is, size_is, closed_is, within_is}

-- a part, after another part behind it was converted
can_next : (b m : Converter) (e f : Expression) (s t : ℕ) (q : Ir) → ClosedBelow (length b.context.items) e
    → s + size e < 2 ^ 32 → length b.context.items + 2 * size e < 2 ^ 32 → funs e + funs f ≤ b.left
    → EndsWith b.found.items (found_in e b.context.items ++ found_in f b.context.items) → Converts b m f t q
    → CanConvert m e s
can_next b m e f s t q c k l n g h = record {
  closed = subst (λ ps. ClosedBelow (length ps) e) (sym h.same) c;
  slots = k;
  binders = subst (λ ps. length ps + 2 * size e < 2 ^ 32) (sym h.same) l;
  left = omega (arith, h.left, n);
  found = subst (λ ps. EndsWith m.found.items (found_in e ps)) (sym h.same) (ends_left _ _ _ _ g h.found);
}

pub can_second : (b : Converter) (e f : Expression) (s : ℕ) → CanConvert b (x.pair e f) s → CanConvert b f s
can_second b e f s c = record {
  closed = c.closed.1;
  slots = omega (arith, c.slots);
  binders = omega (arith, c.binders);
  left = omega (arith, c.left);
  found = ends_right _ _ _ c.found;
}

pub can_first : (b m : Converter) (e f : Expression) (s : ℕ) (q : Ir) → CanConvert b (x.pair e f) s
    → Converts b m f s q → CanConvert m e s
can_first b m e f s q c = can_next b m e f s s q c.closed.0 (omega (arith, c.slots)) (omega (arith, c.binders)) c.left
    c.found

pub can_branches : (b : Converter) (c e f : Expression) (s : ℕ) → CanConvert b (x.cond c e f) s
    → CanConvert b (x.pair e f) s
can_branches b c e f s h = record {
  closed = (h.closed.1, h.closed.2);
  slots = omega (arith, h.slots);
  binders = omega (arith, h.binders);
  left = omega (arith, h.left);
  found = ends_right _ _ _ h.found;
}

pub can_condition : (b m : Converter) (c e f : Expression) (s : ℕ) (q : Ir) → CanConvert b (x.cond c e f) s
    → Converts b m (x.pair e f) s q → CanConvert m c s
can_condition b m c e f s q h = can_next b m c (x.pair e f) s s q h.closed.0 (omega (arith, h.slots))
    (omega (arith, h.binders)) h.left h.found

-- a variable, at its place
pub var_converted : (b : Converter) (n s k : ℕ) (p : Place) → CanConvert b (x.var n) s → k ≡ length b.context.items
    → p ≡ get_or b.context.items (k - 1 - n) p → Converts b b (x.var n) s (i.get p)
var_converted b n s k p c l e =
    let lt : n < length b.context.items = c.closed in
    let first = get_or_default b.context.items (k - 1 - n) p Argument (omega arith) in
    let read = ap (λ k. get_or b.context.items (k - 1 - n) Argument) l ∙ sym (place_read b.context.items n lt) in
    record {
      same = refl;
      left = omega arith;
      found = sym (append-nil b.found.items);
      code = ap i.get (e ∙ (first ∙ read));
      funcs = sym (append-nil (map ir_func_of b.funcs));
    }

-- the body of a let, where its slot is in scope
pub can_body : (b : Converter) (ps : Vec Place) (d e : Expression) (s : ℕ)
    → ps.items ≡ b.context.items ++ Slot s ∷ [] → CanConvert b (x.bind d e) s
    → CanConvert (record b { context = ps }) e (s + 1)
can_body b ps d e s q c =
    let n = one_more b.context.items ps.items _ q in
    record {
      closed = subst (λ n. ClosedBelow n e) (sym n) c.closed.1;
      slots = omega (arith, c.slots);
      binders = omega (arith, c.binders);
      left = omega (arith, c.left);
      found = subst (λ n. EndsWith b.found.items (all_found e n)) (sym n) (ends_right _ _ _ c.found);
    }

-- the slot is taken off after the body
pub slot_taken : (b m : Converter) (ps qs : Vec Place) (e : Expression) (s n : ℕ) (q : Ir)
    → ps.items ≡ b.context.items ++ Slot s ∷ [] → Converts (record b { context = ps }) m e (s + 1) q
    → qs.items ≡ take n m.context.items → n ≡ length m.context.items - 1 → qs.items ≡ b.context.items
slot_taken b m ps qs e s n q f h t k =
    popped b.context.items m.context.items qs.items _ n (h.same ∙ f)
    (omega (arith, k, one_more b.context.items m.context.items _ (h.same ∙ f))) t

pub can_definition : (b m : Converter) (ps qs : Vec Place) (d e : Expression) (s : ℕ) (q : Ir)
    → ps.items ≡ b.context.items ++ Slot s ∷ [] → Converts (record b { context = ps }) m e (s + 1) q
    → qs.items ≡ b.context.items → CanConvert b (x.bind d e) s → CanConvert (record m { context = qs }) d s
can_definition b m ps qs d e s q f h g c =
    let found = subst (λ n. b.found.items ≡ m.found.items ++ all_found e n)
    (one_more b.context.items ps.items _ f) h.found in
    record {
      closed = subst (λ ps. ClosedBelow (length ps) d) (sym g) c.closed.0;
      slots = omega (arith, c.slots);
      binders = subst (λ ps. length ps + 2 * size d < 2 ^ 32) (sym g) (omega (arith, c.binders));
      left = omega (arith, c.left, h.left);
      found = subst (λ ps. EndsWith m.found.items (found_in d ps)) (sym g) (ends_left _ _ _ _ c.found found);
    }

-- the levels of a function that was taken
pub taken_levels : (r : Bool) (e : Expression) (b : Converter) (f : FoundFunction) (rest : List FoundFunction)
    (ls : List ℕ) → CanConvert b (function r e) 0 → b.found.items ≡ rest ++ f ∷ [] → ls ≡ f.free
    → ls ≡ levels (length b.context.items) (outer_free r e) 0
taken_levels r e b f rest ls c q l = l
    ∙ ap (λ f. f.free) (the_found r e (length b.context.items) b.found.items rest f c.found q)

pub few_levels : (r : Bool) (e : Expression) (b : Converter) (ls : List ℕ) → CanConvert b (function r e) 0
    → ls ≡ levels (length b.context.items) (outer_free r e) 0 → length ls < 2 ^ 32
few_levels r e b ls c l = omega (arith, few (length b.context.items) (outer_free r e) ls l, c.binders)

-- the body of a function, in its own context
pub can_inside : (r : Bool) (e : Expression) (b : Converter) (f : FoundFunction) (rest : Vec FoundFunction)
    (inner : Vec Place) (ls : List ℕ) → CanConvert b (function r e) 0 → b.found.items ≡ rest.items ++ f ∷ []
    → inner.items ≡ freeing b.context.items ls 0 ++ own_places r
    → CanConvert (record b { context = inner; found = rest }) e 0
can_inside r e b f rest inner ls c q i =
    let n = inner_within r b.context.items inner.items ls i in
    let z = size_is r e in
    let w = within_is r (length b.context.items) in
    record {
      closed = rw n (closed_is r e (length b.context.items) c.closed);
      slots = omega (arith, c.slots);
      binders = omega (arith, c.binders);
      left = omega (arith, c.left, funs_is r e);
      found = the_rest r e (length b.context.items) (length inner.items) b.found.items rest.items f c.found q n;
    }

-- the function, which is added after those within it
pub function_converted : (r : Bool) (e : Expression) (b m : Converter) (f : FoundFunction) (rest : Vec FoundFunction)
    (inner outer : Vec Place) (ls : List ℕ) (held : List Place) (free s : ℕ) (body : Code) (funcs : List Function)
    → CanConvert b (function r e) 0 → b.found.items ≡ rest.items ++ f ∷ [] → ls ≡ f.free
    → inner.items ≡ freeing b.context.items ls 0 ++ own_places r → held ≡ places b.context.items ls
    → Converts (record b { context = inner; found = rest }) m e 0 (ir_of body) → outer.items ≡ b.context.items
    → free ≡ length ls → funcs ≡ m.funcs ++ record { free = free; slots = f.slots; body = body } ∷ []
    → Converts b (record m { context = outer; left = m.left - 1; funcs = funcs }) (function r e) s
    (i.closure (m.left - 1) held)
function_converted r e b m f rest inner outer ls held free s body funcs c q l i g h o z k =
    let l' = taken_levels r e b f rest.items ls c q l in
    let n = inner_within r b.context.items inner.items ls i in
    let u = funs_is r e in
    let t : m.left ≡ suc (m.left - 1) = omega (arith, c.left, h.left) in
    record {
      same = o;
      left = omega (arith, c.left, h.left);
      found = found_again r e (length b.context.items) (length inner.items) b.found.items rest.items m.found.items f
          c.found q n h.found;
      code = closure_is r e (m.left - 1) s b.context.items held ls l' g;
      funcs = ap (map ir_func_of) k ∙ (map-append ir_func_of m.funcs _ ∙ function_added r e b.context.items inner.items
          ls (m.left - 1) m.left (length inner.items) free f.slots (ir_of body) _ _ t n l' i
          (closed_is r e (length b.context.items) c.closed) z
          (ap (λ f. f.slots) (the_found r e (length b.context.items) b.found.items rest.items f c.found q))
          h.code h.funcs);
    }
