-- The rules of a module's code, and the words that it allocates.
use Rattle.std.proofs.Common.{◌≡◌, ℕ, suc, ◌+◌, ◌<◌, Bool, true, false, List, [], ◌∷◌, ◌++◌, length, Option, Some, None}
use Rattle.std.proofs.Common.{refl, ap, ◌∙◌, sym, subst, arith, length-append, append_assoc}
use Rattle.std.specs.Prelude.{ℤ, slice_get, slice_set, nat_le, nat_lt, ◌*◌, ◌%◌, ◌^◌}
use Rattle.std.proofs.lemmas.Bool.{leb-true, le-leb, leb-false, lt-leb}
use Rattle.std.proofs.Common.{append-nil}
use Rattle.mw_wasm.specs.declared.values.Value.{Value}
use Rattle.mw_wasm.specs.declared.values.Value.TheVariants.{I32, I64}
use Rattle.mw_wasm.specs.Syntax.{Code, next, local_get, local_set, local_tee, PureModule}
use Rattle.mw_wasm.specs.Store.{Memory, Store, is_inside, write_bytes}
use Rattle.mw_wasm.specs.Redex.{Around, Config, at, follow, reduce, run}
use Rattle.mw_wasm.specs.Execution.{End}
use Rattle.mw_wasm.proofs.RunLaw.{run_is}
use Rattle.mw_ir.specs.declared.place.Place.TheVariants.{Argument, Own, Slot, Free}
use Rattle.mw_ir.specs.Ir as i
use Rattle.mw_ir.specs.declared.place.Place.{Place}
use Rattle.mw_ir.specs.Ir.{Frame, read, read_all, load_own, also}
use Rattle.mw_gen.specs.Generate.{place_code, stores_code, address_code, store_word}
use Rattle.mw_gen.proofs.Words.{bits, Small, Keeps, keeps_more}
use Rattle.mw_gen.proofs.Locals.{Fits, word}
use Rattle.mw_gen.proofs.Loads.{loaded, bits_small}
use Rattle.mw_gen.proofs.RunAnswers.{Says, along, answers}
use Rattle.mw_conv.proofs.Heaps.{get_append}
pub use Rattle.mw_gen.specs.Keeping.{store_at}

pub also_some : (a : Option ℤ) (b : Option (List ℤ)) (xs : List ℤ) → also a b ≡ Some xs → (x : ℤ) × (ys : List ℤ)
    × (a ≡ Some x) × (b ≡ Some ys) × (x ∷ ys ≡ xs)
also_some None b xs e = absurd (cc)
also_some (Some x) None xs e = absurd (cc)
also_some (Some x) (Some ys) xs e = (x, ys, refl, refl, (cc))

module _ (m : PureModule) (tb : List (Option ℕ)) where
  -- one rule
  pub law : (n : ℕ) (c : Config) → run m n c ≡ follow (reduce m c) c.store n (run m n) (run m)
  law n c = run_is m n c

  -- a run where the top of the heap h is global 0
  abbrev pub Run : ℕ → List ℤ → Memory → List Value → List Value → Code → List Around → End
  Run n h mem ls vs c around = run m n (at (store_at tb (8 * length h) mem) ls vs c around)

  pub get_local : (n x : ℕ) (v : Value) (st : Store) (ls vs : List Value) (rest : Code) (around : List Around)
      → slice_get ls x ≡ Some v → run m n (at st ls vs (next (local_get x) rest) around)
      ≡ run m n (at st ls (v ∷ vs) rest around)
  get_local n x v st ls vs rest around e = law n _ ∙ rw e refl

  pub set_local : (n x : ℕ) (v : Value) (st : Store) (ls vs : List Value) (rest : Code) (around : List Around)
      → x < length ls → run m n (at st ls (v ∷ vs) (next (local_set x) rest) around)
      ≡ run m n (at st (slice_set ls x v) vs rest around)
  set_local n x v st ls vs rest around lt = let e : nat_lt x (length ls) ≡ true = le-leb _ _ lt in law n _ ∙ rw e refl

  pub tee_local : (n x : ℕ) (v : Value) (st : Store) (ls vs : List Value) (rest : Code) (around : List Around)
      → x < length ls → run m n (at st ls (v ∷ vs) (next (local_tee x) rest) around)
      ≡ run m n (at st (slice_set ls x v) (v ∷ vs) rest around)
  tee_local n x v st ls vs rest around lt = law n _ ∙ set_local n x v st ls (v ∷ vs) rest around lt

  -- a variable's code, in a memory that keeps the heap and more
  pub place_run : (n top : ℕ) (h g : List ℤ) (mem : Memory) (b : ℕ) (fr : Frame) (ls : List Value) (p : Place) (w : ℤ)
      → Keeps g mem → ((k : ℕ) (z : ℤ) → slice_get h k ≡ Some z → slice_get g k ≡ Some z) → Fits b fr ls → read h fr p
      ≡ Some w → (vs : List Value) (rest : Code) (around : List Around)
      → (run m n (at (store_at tb top mem) ls vs (place_code p b rest) around)
      ≡ run m n (at (store_at tb top mem) ls (word w ∷ vs) rest around)) × Small w
  place_run n top h g mem b fr ls Argument w me ext f e vs rest around = let r = f.argument w e in
      (get_local n _ _ _ _ _ _ _ r.1, r.2)
  place_run n top h g mem b fr ls Own w me ext f e vs rest around = let r = f.own w e in
      (get_local n _ _ _ _ _ _ _ r.1, r.2)
  place_run n top h g mem b fr ls (Slot s) w me ext f e vs rest around = let r = f.slots s w e in
      (get_local n _ _ _ _ _ _ _ r.0, r.1)
  place_run n top h g mem b fr ls (Free j) w me ext f e vs rest around = go fr.own refl e
    where
      go : (o : Option ℤ) → fr.own ≡ o → load_own h o (suc j) ≡ Some w
          → (run m n (at (store_at tb top mem) ls vs (place_code (Free j) b rest) around)
          ≡ run m n (at (store_at tb top mem) ls (word w ∷ vs) rest around)) × Small w
      go None p e = absurd (cc)
      go (Some u) p e =
          let r = f.own u p in
          let l = loaded h g mem u (suc j) w me ext e in
          (get_local n _ _ _ _ _ _ _ r.1 ∙ (law n _ ∙ (law n _ ∙ rw (l.inside, l.word) refl)), l.small)

  -- the store of one word more: it traps exactly where the words would pass the bound
  pub one_store : (n : ℕ) (h ws ys : List ℤ) (x : ℤ) (mem : Memory) (ls vs : List Value) (rest : Code)
      (around : List Around) (a : i.Ended) (Q : ℤ → ℕ → List ℤ → End → Type 0) → Keeps (h ++ ws) mem → Small x
      → ((mem : Memory) → Keeps (h ++ (ws ++ x ∷ [])) mem
      → Says (i.with_room (nat_le (length h + length ((ws ++ x ∷ []) ++ ys)) 524288) a) Q
      (Run n h mem ls vs rest around)) → Says (i.with_room (nat_le (length h + length (ws ++ x ∷ ys)) 524288) a) Q
      (Run n h mem ls (word x ∷ I32 (8 * length h) ∷ vs) (store_word (8 * length ws) rest) around)
  one_store n h ws ys x mem ls vs rest around a Q me s f = go (is_inside mem (8 * length h + 8 * length ws) 8) refl
    where
      go : (c : Bool) → is_inside mem (8 * length h + 8 * length ws) 8 ≡ c
          → Says (i.with_room (nat_le (length h + length (ws ++ x ∷ ys)) 524288) a) Q
          (Run n h mem ls (word x ∷ I32 (8 * length h) ∷ vs) (store_word (8 * length ws) rest) around)
      go false e =
          let lt = leb-false _ _ e in
          let no : nat_le (length h + length (ws ++ x ∷ ys)) 524288 ≡ false =
          lt-leb _ _ (omega (arith, length-append ws (x ∷ ys), me.pages)) in
          rw no (record { says = (store_at tb (8 * length h) mem, law n _ ∙ rw e refl) })
      go true e =
          let le = leb-true _ _ e in
          let q : 8 * length h + 8 * length ws ≡ 8 * length (h ++ ws) = omega (arith, length-append h ws) in
          let me2 : Keeps (h ++ (ws ++ x ∷ [])) (write_bytes 8 (8 * length h + 8 * length ws) (bits x) mem) =
          rw q (subst (λ z. Keeps z (write_bytes 8 (8 * length (h ++ ws)) (bits x) mem))
          (append_assoc h ws (x ∷ [])) (keeps_more (h ++ ws) mem x me s (bits_small x s) (omega (arith, me.pages))))
          in
          along (law n _ ∙ rw e refl)
          (answers (ap (λ z. i.with_room (nat_le (length h + length z) 524288) a)
          (sym (append_assoc ws (x ∷ []) ys))) (f _ me2))

  -- all words are stored
  pub all_stored : (h ws : List ℤ) (mem : Memory) (a : i.Ended) (Q : ℤ → ℕ → List ℤ → End → Type 0) (E : End)
      → Keeps (h ++ ws) mem → Says a Q E → Says (i.with_room (nat_le (length h + length (ws ++ [])) 524288) a) Q E
  all_stored h ws mem a Q E me s =
      let yes : nat_le (length h + length (ws ++ [])) 524288 ≡ true =
      le-leb _ _ (omega (arith, length-append ws [], length-append h ws, me.few)) in
      rw yes s

  -- the words of variables, after ws
  pub stores_says : (n : ℕ) (h : List ℤ) (ps : List Place) (ws xs : List ℤ) (mem : Memory) (b : ℕ) (fr : Frame)
      (ls vs : List Value) (rest : Code) (around : List Around) (a : i.Ended) (Q : ℤ → ℕ → List ℤ → End → Type 0)
      → Keeps (h ++ ws) mem → Fits b fr ls → read_all h fr ps ≡ Some xs
      → ((mem : Memory) → Keeps (h ++ (ws ++ xs)) mem → Says a Q (Run n h mem ls vs rest around))
      → Says (i.with_room (nat_le (length h + length (ws ++ xs)) 524288) a) Q
      (Run n h mem ls vs (stores_code ps (length ws) b rest) around)
  stores_says n h [] ws xs mem b fr ls vs rest around a Q me f e after =
      let q : [] ≡ xs = (cc) in
      subst (λ xs. Says (i.with_room (nat_le (length h + length (ws ++ xs)) 524288) a) Q
      (Run n h mem ls vs rest around)) q (all_stored h ws mem a Q _ me (after mem (rw (← q, append-nil ws) me)))
  stores_says n h (p ∷ ps) ws xs mem b fr ls vs rest around a Q me f e after =
      let r = also_some (read h fr p) (read_all h fr ps) xs e in
      let l : suc (length ws) ≡ length (ws ++ r.0 ∷ []) = omega (arith, length-append ws (r.0 ∷ [])) in
      let pl = place_run n _ h (h ++ ws) mem b fr ls p r.0 me (λ k z g. get_append h ws k z g) f r.2
      (I32 (8 * length h) ∷ vs) _ around in
      subst (λ xs. Says (i.with_room (nat_le (length h + length (ws ++ xs)) 524288) a) Q
      (Run n h mem ls vs (stores_code (p ∷ ps) (length ws) b rest) around)) r.4
      (along (law n _ ∙ pl.0)
      (one_store n h ws r.1 r.0 mem ls vs _ around a Q me pl.1 λ mem me.
      along (ap (λ j. Run n h mem ls vs (stores_code ps j b rest) around) l)
      (stores_says n h ps (ws ++ r.0 ∷ []) r.1 mem b fr ls vs rest around a Q me f r.3 λ mem me.
      after mem (subst (λ z. Keeps (h ++ z) mem) (append_assoc ws (r.0 ∷ []) r.1 ∙ ap (λ z. ws ++ z) r.4) me))))

  -- the top raised past the stored words, whose address is left
  pub raised : (n : ℕ) (h ws : List ℤ) (mem : Memory) (ls vs : List Value) (rest : Code) (around : List Around)
      → Keeps (h ++ ws) mem → Run n h mem ls vs (address_code (8 * length ws) rest) around ≡ Run n (h ++ ws) mem ls
      (I64 (8 * length h) ∷ vs) rest around
  raised n h ws mem ls vs rest around me =
      let e : (8 * length h + 8 * length ws) % 2 ^ 32 ≡ 8 * length (h ++ ws) =
      omega (arith, length-append h ws, me.few) in
      law n _ ∙ (law n _
      ∙ (law n _
      ∙ (law n _
      ∙ (law n _
      ∙ (law n _ ∙ ap (λ x. run m n (at (store_at tb x mem) ls (I64 (8 * length h) ∷ vs) rest around)) e)))))
