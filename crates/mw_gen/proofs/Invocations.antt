-- An invocation of `init`, and one of `call`, by what the intermediate language says.
use Rattle.std.proofs.Common.{◌≡◌, ℕ, zero, suc, ◌+◌, ◌≤◌, ◌<◌, Bool, true, false, List, [], ◌∷◌, ◌++◌, length, Some}
use Rattle.std.proofs.Common.{refl, ap, ◌∙◌, arith, length-append, map, replicate, option_map}
use Rattle.std.specs.Prelude.{ℤ, slice_get, slice_set, ◌*◌}
use Rattle.std.proofs.lemmas.List.{length-map}
use Rattle.std.proofs.lemmas.Option.{slice_get-map}
use Rattle.std.proofs.lemmas.Option.{slice_get_within}
use Rattle.mw_term.specs.Terms.{GroundType, base, product}
use Rattle.mw_wasm.specs.declared.values.Value.{Value as WasmValue}
use Rattle.mw_wasm.specs.declared.values.Value.TheVariants.{I32, I64}
use Rattle.mw_wasm.specs.declared.values.ValType.TheVariants as type
use Rattle.mw_wasm.specs.Syntax.{Function, PureModule, end}
use Rattle.mw_wasm.specs.NumericTypes.{type_of_value}
use Rattle.mw_wasm.specs.Store.{Memory}
use Rattle.mw_wasm.specs.Redex.{in_label, in_frame, at, run}
use Rattle.mw_wasm.specs.Execution.{End, ended}
use Rattle.mw_wasm.specs.Instances.{invoked}
use Rattle.mw_wasm.proofs.RunIsExecution.{invoked_is_run, leaves_all}
use Rattle.mw_ir.specs.Ir as i
use Rattle.mw_ir.specs.Ir.{Ir, IrFunc}
use Rattle.mw_meaning.specs.Shapes.{leaf_count, init_type, call_type}
use Rattle.mw_key.specs.declared.version.Version.{Version}
use Rattle.mw_gen.specs.Generate.{wants_spare, spare_count, argument_of, call_of, init_function, function_for}
use Rattle.mw_gen.specs.Generate.{expression_code, restarting, call_numbered}
use Rattle.mw_gen.proofs.Slots.{slots_needed}
use Rattle.mw_gen.proofs.Words.{Small, Keeps}
use Rattle.mw_gen.proofs.Locals.{word, Fits, Room, set_other, set_same, set_length}
use Rattle.mw_gen.proofs.RunAnswers.{Says, along}
use Rattle.mw_gen.proofs.Stores.{store_at, law as rule, get_local as got_local, set_local as put_local}
use Rattle.mw_gen.proofs.Correctness.{Fine, Sound, Carries, Value, right, table_of, zeros, zeros_length}
use Rattle.mw_gen.specs.Generation.{call_frame}
use Rattle.mw_conv.proofs.Heaps.{get_append}

pub argument_need : (s : GroundType) (k : ℕ) → slots_needed (argument_of s k) ≡ 0
argument_need (base b) k = refl
argument_need (product s t) k = rw (argument_need s k, argument_need t (k + leaf_count s)) refl

pub argument_fine : (s : GroundType) (k : ℕ) → Fine (argument_of s k)
argument_fine (base b) k = tt
argument_fine (product s t) k = (argument_fine s k, argument_fine t (k + leaf_count s))

pub init_at : (v : Version) (t : List IrFunc) (f : Function) (more : List Function)
    → slice_get (map (function_for v) t ++ f ∷ more) (length t) ≡ Some f
init_at v [] f more = refl
init_at v (x ∷ t) f more = init_at v t f more

pub call_at : (v : Version) (t : List IrFunc) (f g : Function) (more : List Function)
    → slice_get (map (function_for v) t ++ f ∷ g ∷ more) (suc (length t)) ≡ Some g
call_at v [] f g more = refl
call_at v (x ∷ t) f g more = call_at v t f g more

-- words are integers of 64 bits
words_typed : (ws : List ℤ) (n : ℕ) → length ws ≡ n → map type_of_value (map word ws) ≡ replicate n type.I64
words_typed [] zero e = refl
words_typed [] (suc n) e = absurd (omega arith)
words_typed (w ∷ ws) zero e = absurd (omega arith)
words_typed (w ∷ ws) (suc n) e = ap (λ ts. type.I64 ∷ ts) (words_typed ws n (omega arith))

module _ (v : Version) (t : List IrFunc) (m : PureModule) (carries : Carries v t m) (sound : Sound t) where
  -- the store after an end with a value
  abbrev pub Done : List ℤ → ℤ → ℕ → List ℤ → End → Type 0
  Done top w l h E = (mem : Memory) × (E ≡ ended (store_at (table_of t) (8 * length top) mem) (word w ∷ []) l)
      × Keeps h mem × Small w

  start_room : (s : ℕ) (c : Bool) → Room c (0 + s) (slice_get (zeros (s + spare_count c)) (suc (suc (0 + s))))
      (zeros (s + spare_count c))
  start_room s true =
      record {
        enough = omega (arith, zeros_length (s + 2));
        long = λ q. omega (arith, zeros_length (s + 2));
        past =
            refl;
      }
  start_room s false = record { enough = omega (arith, zeros_length (s + 0)); long = λ q. absurd (cc); past = refl }

  -- the code outside all functions, begun on an empty heap
  abbrev pub begun : ℕ → Ir → ℕ → Memory → End
  begun slots body n mem =
      run m n (at (store_at (table_of t) 0 mem) (zeros (slots + spare_count (wants_spare body))) []
      (expression_code body 0 (0 + slots) end) (in_label 1 end [] end ∷ in_frame 1 [] [] end ∷ []))

  pub begun_says : (slots : ℕ) (body : Ir) (c n : ℕ) (mem : Memory) → Fine body → slots_needed body ≤ slots
      → Keeps [] mem → Says (Value v t m carries sound c body n [] i.outside) (λ w l h E. Done h w l h E)
      (begun slots body n mem)
  begun_says slots body c n mem fine nd me =
      right v t m carries sound c body n 0 slots (wants_spare body)
      (slice_get (zeros (slots + spare_count (wants_spare body))) (suc (suc (0 + slots)))) i.outside [] mem
      (zeros (slots + spare_count (wants_spare body))) [] end (in_label 1 end [] end ∷ in_frame 1 [] [] end ∷ [])
      (λ w l h E. Done h w l h E) fine nd (λ q. q) (omega arith) (start_room slots (wants_spare body))
      (record { argument = λ w e. absurd (cc); own = λ w e. absurd (cc); slots = λ j w e. absurd (cc) }) me
      λ w l h mem ls g sm f room me. (mem, leaves_all m l 1 _ ls (word w ∷ []), me, sm)

  -- `init` on the instance as it begins
  pub init_says : (q slots : ℕ) (body : Ir) → slice_get m.funcs q ≡ Some (init_function slots body)
      → slice_get m.types 1 ≡ Some init_type → (c n : ℕ) (mem : Memory) → Fine body → slots_needed body ≤ slots
      → Keeps [] mem → Says (Value v t m carries sound c body n [] i.outside) (λ w l h E. Done h w l h E)
      (invoked m (store_at (table_of t) 0 mem) q [] n)
  init_says q slots body is_init is_type c n mem fine nd me =
      along (invoked_is_run m (store_at (table_of t) 0 mem) q [] n (init_function slots body) init_type is_init is_type
      refl)
      (begun_says slots body c n mem fine nd me)

  -- one that gives the heap back, on any instance whose memory has the size
  pub restart_says : (q slots : ℕ) (body : Ir) → slice_get m.funcs q ≡ Some (restarting (init_function slots body))
      → slice_get m.types 1 ≡ Some init_type → (c n top : ℕ) (mem : Memory) → Fine body → slots_needed body ≤ slots
      → Keeps [] mem → Says (Value v t m carries sound c body n [] i.outside) (λ w l h E. Done h w l h E)
      (invoked m (store_at (table_of t) top mem) q [] n)
  restart_says q slots body is_init is_type c n top mem fine nd me =
      along (invoked_is_run m (store_at (table_of t) top mem) q [] n (restarting (init_function slots body)) init_type
      is_init is_type refl
      ∙ (rule m (table_of t) n _ ∙ rule m (table_of t) n _))
      (begun_says slots body c n mem fine nd me)

  abbrev call_locals : ℤ → List ℤ → List WasmValue
  call_locals r ws = map word (r ∷ ws) ++ I64 0 ∷ I64 0 ∷ I32 0 ∷ []

  slots_fit : (r : ℤ) (ws : List ℤ) (i : ℕ) (x : WasmValue) → length ws < i
      → ((j : ℕ) (w : ℤ) → slice_get (r ∷ ws) j ≡ Some w → Small w)
      → Fits 0 (call_frame r ws) (slice_set (call_locals r ws) i x)
  slots_fit r ws i x lt sm = record {
    argument = λ w e. absurd (cc);
    own = λ w e. absurd (cc);
    slots = λ j w e.
        let z : 0 + j ≡ j = omega arith in
        let g : slice_get (call_locals r ws) j ≡ Some (word w) = get_append (map word (r ∷ ws)) _ j (word w)
        (slice_get-map word (r ∷ ws) j ∙ ap (λ o. option_map word o) e) in
        let below = slice_get_within (r ∷ ws) j w e in
        (rw z (set_other (call_locals r ws) i j x (word w) (omega arith) g), sm j w e);
  }

  pub call_says : (s : GroundType) (x g : ℕ) → slice_get m.funcs g ≡ Some (call_numbered x s)
      → slice_get m.types x ≡ Some (call_type s) → (c n : ℕ) (h : List ℤ) (mem : Memory) (r : ℤ) (ws : List ℤ)
      → length ws ≡ leaf_count s → ((j : ℕ) (w : ℤ) → slice_get (r ∷ ws) j ≡ Some w → Small w) → Keeps h mem
      → Says (Value v t m carries sound c (call_of s) n h (call_frame r ws)) (λ w l g E. Done h w l g E)
      (invoked m (store_at (table_of t) (8 * length h) mem) g (map word (r ∷ ws)) n)
  call_says s x g is_call is_type c n h mem r ws len sm me =
      let keep = suc (suc (suc (leaf_count s))) in
      let ls = slice_set (call_locals r ws) keep (I32 (8 * length h)) in
      let at_keep : suc (suc (0 + suc (leaf_count s))) ≡ keep = omega arith in
      let long : length (call_locals r ws) ≡ suc (length ws) + 3 =
      length-append (map word (r ∷ ws)) (I64 0 ∷ I64 0 ∷ I32 0 ∷ []) ∙ ap (λ x. x + 3) (length-map (r ∷ ws) word) in
      let below : keep < length (call_locals r ws) = omega (arith, len, long) in
      along (invoked_is_run m (store_at (table_of t) (8 * length h) mem) g (map word (r ∷ ws)) n (call_numbered x s)
      (call_type s) is_call is_type (words_typed (r ∷ ws) (suc (leaf_count s)) (ap suc len))
      ∙ (rule m (table_of t) n _ ∙ put_local m (table_of t) n keep (I32 (8 * length h)) _ (call_locals r ws) [] _ _
      below))
      (right v t m carries sound c (call_of s) n 0 (suc (leaf_count s)) true (Some (I32 (8 * length h)))
      (call_frame r ws) h mem ls [] _ (in_label 1 end [] end ∷ in_frame 1 [] [] end ∷ [])
      (λ w l g E. Done h w l g E)
      (tt, argument_fine s 1) (omega (arith, argument_need s 1)) (λ q. refl) (omega (arith, len))
      (record {
        enough = omega (arith, len, long, set_length (call_locals r ws) keep (I32 (8 * length h)));
        long = λ q.
            omega (arith, len, long, set_length (call_locals r ws) keep (I32 (8 * length h)));
        past =
            rw at_keep (set_same (call_locals r ws) keep (I32 (8 * length h)) below);
      })
      (slots_fit r ws keep (I32 (8 * length h)) (omega (arith, len)) sm) me
      λ w l g mem ls gr sw f room me. (
        mem,
        got_local m (table_of t) l _ _ _ _ _ _ _ (rw at_keep at room.past)
            ∙ (rule m (table_of t) l _ ∙ leaves_all m l 1 _ ls (word w ∷ [])),
        me,
        sw,
      ))
