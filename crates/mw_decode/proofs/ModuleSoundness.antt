-- A module that is read is spelled so, by the whole file, and within the profile.
use Rattle.std.proofs.Common.{◌≡◌, ◌≤◌, ℕ, zero, suc, inl, inr, Bool, true, false, ◌&&◌, eqb, leb, ltb, List}
use Rattle.std.proofs.Common.{[], ◌∷◌, ◌++◌, length, map, take, drop, Option, Some, None, Result, Ok, Err, refl, sym}
use Rattle.std.proofs.Common.{ap, subst, ◌∙◌, append_assoc, arith}
use Rattle.std.specs.Prelude.{IfSome}
use Rattle.std.specs.List.{AllByRecursion}
use Rattle.std.proofs.lemmas.Bool.{eqb-true, leb-true, ltb-false}
use Rattle.std.proofs.lemmas.List.{append-nil, length-map, take-append-drop, length-take}
use Rattle.mw_wasm.specs.declared.modules.Limits.{Limits}
use Rattle.mw_wasm.specs.declared.modules.FuncType.{FuncType}
use Rattle.mw_wasm.specs.Pieces as piece
use Rattle.mw_wasm.specs.Pieces.{Joined, Sized, byte, items, exactly}
use Rattle.mw_wasm.specs.Syntax.{Function, Global, Exporting, ElementSegment, DataSegment, PureModule}
use Rattle.mw_wasm.specs.BinaryModules as grammar
use Rattle.mw_wasm.specs.BinaryModules.{Spells}
use Rattle.mw_wasm.specs.Profile.{depth, IsPrintable, IsWithinFileLimit, IsWithinProfile}
use Rattle.mw_leb.specs.ReadingLaws.{AreBytes, Begins}
use Rattle.mw_decode.specs.declared.fault.BadModule.{BadModule}
use Rattle.mw_decode.specs.declared.fault.BadModule.TheVariants as bad
use Rattle.mw_decode.specs.Reading.{Read, got, ended, faulty, Reader, place, ◌>>=◌, gives, u32}
use Rattle.mw_decode.specs.Sections as sections
use Rattle.mw_decode.specs.Sections.{Body, bodies, customs_within, customs, section, after_customs, no_start, no_more}
use Rattle.mw_decode.specs.Sections.{is_missing, present, Parts, functions, given, module_of, starts, module_in}
use Rattle.mw_decode.specs.Sections.{module_read, end_of_file}
use Rattle.mw_list.proofs.Conjunctions.{both_true}
use Rattle.mw_decode.proofs.Choices.{either_is, passes, not_ended, not_faulty}
use Rattle.mw_decode.proofs.ReaderSoundness.{Sound, and_then_got, got_parts, joined_so, joined, begins_then}
use Rattle.mw_decode.proofs.ReaderSoundness.{begins_with}
use Rattle.mw_decode.proofs.ReaderSoundness.{begins_so, sound_then, sound_so, sound_gives, sound_last, sound_u32}
use Rattle.mw_decode.proofs.ReaderSoundness.{sound_vector, back_bytes}
use Rattle.mw_decode.proofs.OpcodeSoundness.{opened_by}
use Rattle.mw_decode.proofs.CodeSoundness.{regroup}
use Rattle.mw_decode.proofs.SizedLaws.{sound_sized}
use Rattle.mw_decode.proofs.FieldCompleteness.{Few, TypePiece, BodyPiece, Printed}
use Rattle.mw_decode.proofs.FieldSoundness.{sound_at_most, sound_function_type, LimitsPiece, sound_table, sound_memory}
use Rattle.mw_decode.proofs.FieldSoundness.{sound_single, sound_global, without_all, sound_export, zero_is}
use Rattle.mw_decode.proofs.FieldSoundness.{sound_element, sound_data, CodePiece, sound_bodies}
use Rattle.mw_decode.proofs.SectionLaws.{skipped}
use Rattle.mw_decode.proofs.SectionCompleteness.{customs_append}
use Rattle.mw_decode.proofs.ModuleCompleteness.{Stands, kind_of, sized_so, in_section, BodiesPiece, header_bytes}

-- custom sections
abbrev CustomsPiece : Unit {0} → List ℕ → Type 0
CustomsPiece x front = grammar.Customs front

custom_ahead : (size content back : List ℕ) → piece.u32 (length content) size → grammar.Customs back
    → grammar.Customs (0x00 ∷ (size ++ (content ++ back)))
custom_ahead size content back u c = record {
  contents = content ∷ c.contents;
  spelled = record {
    front = 0x00 ∷ (size ++ content);
    back = back;
    whole = ap (λ z. 0x00 ∷ z) (sym (append_assoc size content back));
    first =
        joined (0x00 ∷ []) (size ++ content) refl
        (record { size = size; content = content; whole = refl; counted = u; inside = refl });
    second = c.spelled;
  };
}

no_customs : (end : ℕ) (bytes rest : List ℕ) (x : Unit {0}) → got tt bytes ≡ got x rest
    → Begins grammar.Customs bytes rest
no_customs end bytes rest x e =
    (sound_gives {R = CustomsPiece} tt (record { contents = []; spelled = refl })).sound end bytes x rest e

customs_taken : (k end : ℕ) (bytes rest : List ℕ) (x : Unit {0}) → customs_within k end bytes ≡ got x rest
    → Begins grammar.Customs bytes rest
customs_taken zero end bytes rest x e = no_customs end bytes rest x e
customs_taken (suc k) end [] rest x e = no_customs end [] rest x e
customs_taken (suc k) end (b ∷ r) rest x e = elim (either_is (eqb b 0) _ _ _ e) [
  | inr p ↦ no_customs end (b ∷ r) rest x p.1
  | inl p ↦
      let h =
      and_then_got (u32 end r) (skipped k end) x rest p.1 in
      let size = h.0 in
      let mid = h.1 in
      let q = passes (leb size (length mid)) _ _ _ h.3 (not_ended x rest) in
      let c = customs_taken k end (drop size mid) rest x q.1 in
      let fits = leb-true size (length mid) q.0 in
      let n : size ≡ length (take size mid) = omega (arith, length-take size mid) in
      begins_with b r rest (begins_then r mid rest (sound_u32.sound end r size mid h.2) (record {
        front = take size mid ++ c.front;
        whole =
            sym (take-append-drop size mid)
            ∙ (ap (λ z. take size mid ++ z) c.whole ∙ sym (append_assoc (take size mid) c.front rest));
        spelled = λ ok front u. rw (eqb-true b 0 p.0) (custom_ahead front (take size mid) c.front
            (subst (λ (m : ℕ). piece.u32 m front) n u) (c.spelled (back_bytes (take size mid) c.front ok)));
      }))
]

sound_customs : Sound customs CustomsPiece
sound_customs = record { sound = λ end bytes x rest e. customs_taken (length bytes) end bytes rest x e }

-- sections
section_taken : {A : Type 0} {content : Reader A} (k : ℕ) (missing : A) (P : A → List ℕ → Type 0) → Sound content P
    → (end : ℕ) (bytes : List ℕ) (x : A) (rest : List ℕ) → section k missing content end bytes ≡ got x rest
    → Begins (Stands k missing P x) bytes rest
section_taken k missing P s end [] x rest e =
    (sound_gives {R = Stands k missing P} missing (inl (refl, refl))).sound end [] x rest e
section_taken k missing P s end (b ∷ r) x rest e = elim (either_is (eqb b k) _ _ _ e) [
  | inl p ↦
      let t = sound_so (sound_sized P (λ _. ended) (λ at x rest e. not_ended x rest e) s)
      (λ x front h. opened_by k b (Sized (P x)) front (eqb-true b k p.0) h) in
      begins_with b r rest (begins_so r rest (t.sound end r x rest p.1) (λ front h. inr h))
  | inr p ↦
      let q = passes (ltb k b && leb b 11) _ _ _ p.1 (not_faulty _ x rest) in
      (sound_gives {R = Stands k missing P} missing (inl (refl, refl))).sound end (b ∷ r) x rest q.1
]

-- custom sections, a section, and what is read behind it
abbrev Layer : {A B : Type 0} → ℕ → A → (A → List ℕ → Type 0) → (A → B → List ℕ → Type 0) → B → List ℕ → Type 0
Layer {A} k missing P T y front = (x : A) × Joined grammar.Customs (Joined (Stands k missing P x) (T x y)) front

sound_level : {A B : Type 0} {content : Reader A} {P : A → List ℕ → Type 0} {f : A → Reader B}
    {T : A → B → List ℕ → Type 0} (k : ℕ) (missing : A) → Sound content P → ((x : A) → Sound (f x) (T x))
    → Sound (after_customs (section k missing content) >>= f) (Layer k missing P T)
sound_level {A} {content = content} {P = P} k missing s t = sound_then here λ x.
    sound_so (t x) (λ y back q front j. (x, regroup _ _ _ (front ++ back) (joined front back j q)))
  where
    here : Sound (after_customs (section k missing content)) (λ x. Joined grammar.Customs (Stands k missing P x))
    here = sound_then sound_customs λ _. record {
      sound = λ end bytes x rest e. begins_so bytes rest (section_taken k missing P s end bytes x rest e)
          (λ back h front c. joined front back c h);
    }

-- the last reader, and that it leaves nothing
no_more_taken : (missing : Bool) (end : ℕ) (bytes : List ℕ) (x : Unit {0}) (rest : List ℕ)
    → no_more missing end bytes ≡ got x rest → (missing ≡ false) × (bytes ≡ []) × (rest ≡ [])
no_more_taken true end [] x rest e = absurd (not_faulty (bad.Section end) x rest e)
no_more_taken false end [] x rest e = let h = got_parts tt x [] rest e in (refl, refl, sym h.1)
no_more_taken missing end (b ∷ r) x rest e = absurd (not_faulty (bad.Section (place end (b ∷ r))) x rest e)

abbrev Last : Bool → Parts → Parts → List ℕ → Type 0
Last missing p y front = grammar.Customs front × (y ≡ p) × (missing ≡ false)

sound_no_more : (missing : Bool) → Sound (end_of_file missing) (λ _ front. grammar.Customs front × (missing ≡ false))
sound_no_more missing = sound_then sound_customs λ _. record {
  sound = λ end bytes x rest e.
      let h = no_more_taken missing end bytes x rest e in record {
        front = [];
        whole = h.1 ∙ sym h.2;
        spelled = λ ok front c. (subst grammar.Customs (sym (append-nil front)) c, h.0);
      };
}

sound_end : (missing : Bool) (p : Parts) → Sound (end_of_file missing >>= λ _. gives p) (Last missing p)
sound_end missing p = sound_last (λ _. p) (sound_no_more missing) (λ x front h. (h.0, refl, h.1))

-- custom sections before the place of a start section, and those of the section behind
no_start_taken : (end : ℕ) (bytes : List ℕ) (x : Unit {0}) (rest : List ℕ) → no_start end bytes ≡ got x rest
    → got tt bytes ≡ got x rest
no_start_taken end [] x rest e = e
no_start_taken end (b ∷ r) x rest e = elim (either_is (eqb b 8) _ _ _ e) [
  | inl p ↦ absurd (not_faulty _ x rest p.1)
  | inr p ↦ (passes (ltb 8 b && leb b 11) _ _ _ p.1 (not_faulty _ x rest)).1
]

sound_no_start : {A B : Type 0} {r : Reader B} {S : A → B → List ℕ → Type 0}
    → Sound r (λ y front. (x : A) × Joined grammar.Customs (S x y) front)
    → Sound (after_customs no_start >>= λ _. r) (λ y front. (x : A) × Joined grammar.Customs (S x y) front)
sound_no_start s = sound_then passed λ _. sound_so s (λ y back h front c. (
  h.0,
  record {
    front = front ++ h.1.front;
    back = h.1.back;
    whole = ap (λ z. front ++ z) h.1.whole ∙ sym (append_assoc front h.1.front h.1.back);
    first = customs_append front h.1.front c h.1.first;
    second = h.1.second;
  },
))
  where
    nothing : Sound no_start (λ x back. (front : List ℕ) → grammar.Customs front → grammar.Customs (front ++ back))
    nothing = record {
      sound = λ end bytes x rest e.
          (sound_gives {R = λ _ back. (front : List ℕ) → grammar.Customs front → grammar.Customs (front ++ back)} tt
          (λ front c. subst grammar.Customs (sym (append-nil front)) c)).sound end bytes x rest
          (no_start_taken end bytes x rest e);
    }

    passed : Sound (after_customs no_start) CustomsPiece
    passed = sound_then sound_customs λ _. nothing

-- what is read behind the header
abbrev Behind : Parts → List ℕ → Type 0
Behind =
    Layer 1 [] (λ ts. piece.vector TypePiece ts) λ types.
    Layer 2 0 (Few 0) λ _.
    Layer 3 [] (λ ks. piece.vector piece.u32 ks) λ kinds.
    Layer 4 None (λ o. piece.vector (λ l f. grammar.table l f × (l.min ≤ 100_000)) (grammar.at_most_one o)) λ table.
    Layer 5 None (λ o. piece.vector (LimitsPiece 1_024) (grammar.at_most_one o)) λ memory.
    Layer 6 [] (λ gs. piece.vector (λ g f. grammar.global g f × (depth g.init ≤ 500)) gs) λ globals.
    Layer 7 [] (λ es. piece.vector Printed es) λ exports.
    Layer 9 [] (λ ss. piece.vector (λ s f. grammar.element s f × (depth s.offset ≤ 500)) ss) λ elements.
    Layer 10 None (BodiesPiece (length kinds)) λ bodies.
    Layer 11 [] (λ ss. piece.vector (λ s f. grammar.data_segment s f × (depth s.offset ≤ 500)) ss) λ segments.
    Last (is_missing (length kinds) bodies) (record {
      types = types;
      kinds = kinds;
      table = table;
      memory = memory;
      globals = globals;
      exports = exports;
      elements = elements;
      bodies = bodies;
      segments = segments;
    })

sound_present : (n : ℕ) → Sound (present (bodies n)) (BodiesPiece n)
sound_present n = sound_last (λ bs. Some bs) (sound_bodies n) (λ bs front h. (bs, refl, h.0, h.1))

sound_sections : Sound sections.sections Behind
sound_sections =
    sound_level 1 [] (sound_vector sound_function_type) λ types.
    sound_level 2 0 (sound_at_most 0) λ _.
    sound_level 3 [] (sound_vector sound_u32) λ kinds.
    sound_level 4 None (sound_single _ sound_table) λ table.
    sound_level 5 None (sound_single _ sound_memory) λ memory.
    sound_level 6 [] (sound_vector sound_global) λ globals.
    sound_level 7 [] (sound_vector sound_export) λ exports.
    sound_no_start (sound_level 9 [] (sound_vector sound_element) λ elements.
    sound_level 10 None (sound_present (length kinds)) λ bodies.
    sound_level 11 [] (sound_vector sound_data) λ segments.
    sound_end (is_missing (length kinds) bodies) _)

-- a reader that leaves nothing
record EndsAll {B : Type 0} (r : Reader B) : Type 0 where
  ends : (end : ℕ) (bytes : List ℕ) (y : B) (rest : List ℕ) → r end bytes ≡ got y rest → rest ≡ []

ends_then : {A B : Type 0} {f : A → Reader B} (r : Reader A) → ((x : A) → EndsAll (f x)) → EndsAll (r >>= f)
ends_then {f = f} r h = record {
  ends = λ end bytes y rest e.
      let k = and_then_got (r end bytes) (λ x mid. f x end mid) y rest e in (h k.0).ends end k.1 y rest k.3;
}

ends_last : {B : Type 0} (missing : Bool) (v : B) → EndsAll (end_of_file missing >>= λ _. gives v)
ends_last missing v = record {
  ends = λ end bytes y rest e.
      let k = and_then_got (end_of_file missing end bytes) (λ x mid. got v mid) y rest e in
      let l = and_then_got (customs end bytes) (λ x mid. no_more missing end mid) k.0 k.1 k.2 in
      sym (got_parts v y k.1 rest k.3).1 ∙ (no_more_taken missing end l.1 k.0 k.1 l.3).2;
}

ends_sections : EndsAll sections.sections
ends_sections =
    ends_then sections.type_section λ types.
    ends_then sections.import_section λ _.
    ends_then sections.function_section λ kinds.
    ends_then sections.table_section λ table.
    ends_then sections.memory_section λ memory.
    ends_then sections.global_section λ globals.
    ends_then sections.export_section λ exports.
    ends_then sections.start_section λ _.
    ends_then sections.element_section λ elements.
    ends_then (sections.code_section (length kinds)) λ bodies.
    ends_then sections.data_section λ segments.
    ends_last (is_missing (length kinds) bodies) _

-- sections as the grammar has them
un_listed : {A : Type 0} (k : ℕ) (P : A → List ℕ → Type 0) (W : A → Type 0) (xs : List A) (front : List ℕ)
    → Stands k [] (λ ys f. piece.vector (λ x f. P x f × W x) ys f) xs front
    → grammar.section k P xs front × AllByRecursion W xs
un_listed k P W xs front (inl h) = (inl h, subst (AllByRecursion W) (sym h.0) tt)
un_listed k P W xs front (inr h) =
    let v = h.second.inside in (
      inr (in_section k _ _ front h (λ f v. joined_so v v.first (without_all P W xs v.back v.second).0)),
      (without_all P W xs v.back v.second).1,
    )

un_single : (k most : ℕ) (P : Limits → List ℕ → Type 0) (o : Option Limits) (front : List ℕ)
    → Stands k None (λ o f. piece.vector (λ l f. P l f × (l.min ≤ most)) (grammar.at_most_one o) f) o front
    → grammar.section k P (grammar.at_most_one o) front × IfSome o (λ l. l.min ≤ most)
un_single k most P o front (inl h) =
    (inl (ap grammar.at_most_one h.0, h.1), subst (λ (o : Option Limits). IfSome o (λ l. l.min ≤ most)) (sym h.0) tt)
un_single k most P None front (inr h) = (inr h, tt)
un_single k most P (Some l) front (inr h) =
    let s = un_listed k P (λ l. l.min ≤ most) (l ∷ []) front (inr h) in (s.0, s.1.0)

un_imports : (n : ℕ) (front : List ℕ) → Stands 2 0 (Few 0) n front → grammar.import_section front
un_imports n front (inl h) = inl h.1
un_imports n front (inr h) = inr (in_section 2 _ _ front h (λ f v. zero_is n f v))

-- functions from their kinds and bodies
kinds_of : (ks : List ℕ) (bs : List Body) → length bs ≡ length ks → map kind_of (functions ks bs) ≡ ks
kinds_of [] [] e = refl
kinds_of [] (b ∷ bs) e = refl
kinds_of (k ∷ ks) [] e = absurd (cc)
kinds_of (k ∷ ks) (b ∷ bs) e = ap (λ z. k ∷ z) (kinds_of ks bs (cc))

items_back : {A B : Type 0} (P : B → List ℕ → Type 0) (g : A → B) (xs : List A) (front : List ℕ)
    → items P (map g xs) front → items (λ x. P (g x)) xs front
items_back P g [] front h = h
items_back P g (x ∷ xs) front h = joined_so h h.first (items_back P g xs h.back h.second)

un_kinds : (fs : List Function) (front : List ℕ)
    → Stands 3 [] (λ ks f. piece.vector piece.u32 ks f) (map kind_of fs) front
    → grammar.section 3 grammar.function_kind fs front
un_kinds [] front (inl h) = inl (refl, h.1)
un_kinds (f ∷ fs) front (inl h) = absurd (let e = h.0 in cc)
un_kinds fs front (inr h) = inr (in_section 3 _ _ front h (λ g v.
    joined_so v (subst (λ (n : ℕ). piece.u32 n v.front) (length-map fs kind_of) v.first)
    (items_back piece.u32 kind_of fs v.back v.second)))

abbrev FewLocals : Function → Type 0
FewLocals f = length f.locals ≤ 50_000

abbrev ShallowBody : Function → Type 0
ShallowBody f = depth f.body ≤ 500

code_taken : (ks : List ℕ) (bs : List Body) (front : List ℕ) → length bs ≡ length ks → items CodePiece bs front
    → items grammar.function_code (functions ks bs) front × (length (functions ks bs) ≡ length bs)
    × AllByRecursion FewLocals (functions ks bs) × AllByRecursion ShallowBody (functions ks bs)
code_taken [] [] front e h = (h, refl, tt, tt)
code_taken (k ∷ ks) (b ∷ bs) front e h =
    let r = code_taken ks bs h.back (cc) h.second in
    let c = h.first in (
      joined_so h (sized_so _ _ h.front c (λ f i. i.spelled)) r.0,
      ap suc r.1,
      (c.inside.few, r.2),
      (c.inside.shallow, r.3),
    )
code_taken ks bs front e h = absurd (cc)

pub record CodeTaken (ks : List ℕ) (b : Option (List Body)) (front : List ℕ) : Type 0 where
  pub section : grammar.section 10 grammar.function_code (functions ks (given b)) front
  pub kinds : map kind_of (functions ks (given b)) ≡ ks
  pub few : AllByRecursion FewLocals (functions ks (given b))
  pub shallow : AllByRecursion ShallowBody (functions ks (given b))

un_code : (ks : List ℕ) (b : Option (List Body)) (front : List ℕ) → is_missing (length ks) b ≡ false
    → Stands 10 None (BodiesPiece (length ks)) b front → CodeTaken ks b front
un_code [] None front m (inl h) = record { section = inl (refl, h.1); kinds = refl; few = tt; shallow = tt }
un_code (k ∷ ks) None front m (inl h) = absurd (let l = ltb-false 0 (suc (length ks)) m in omega arith)
un_code ks (Some bs) front m (inl h) = absurd (let e = h.0 in cc)
un_code ks None front m (inr h) = absurd (let e = h.second.inside.1 in cc)
un_code ks (Some bs) front m (inr h) =
    let n = (there h.second.content h.second.inside).0 in
    let r = (there h.second.content h.second.inside).1 in
    record {
      section = inr (in_section 10 _ _ front h (λ f i.
          let w = there f i in
          let q = code_taken ks bs w.1.back w.0 w.1.second in
          joined_so w.1 (subst (λ (n : ℕ). piece.u32 n w.1.front) (sym q.1) w.1.first) q.0));
      kinds = kinds_of ks bs n;
      few = (code_taken ks bs r.back n r.second).2;
      shallow = (code_taken ks bs r.back n r.second).3;
    }
  where
    there : (f : List ℕ) → BodiesPiece (length ks) (Some bs) f
        → (length bs ≡ length ks) × piece.vector (λ b. Sized (BodyPiece b)) bs f
    there f i =
        let e : i.0 ≡ bs = let s = i.1 in (cc) in
        (ap length (sym e) ∙ i.3, subst (λ (cs : List Body). piece.vector (λ b. Sized (BodyPiece b)) cs f) e i.2)

-- three parts, the last two as other pieces
put : {C S S' T T' : List ℕ → Type 0} {f : List ℕ} (j : Joined C (Joined S T) f) → S' j.second.front → T' j.second.back
    → Joined C (Joined S' T') f
put j s t = joined_so j j.first (joined_so j.second s t)

record Read_so (y : Parts) (front : List ℕ) : Type 0 where
  spelled : (head : List ℕ) → grammar.header head → Spells (head ++ front) (module_of y)
  profile : IsWithinProfile (module_of y)

unpacked : (y : Parts) (front : List ℕ) → Behind y front → Read_so y front
unpacked y front t =
    let j1 = t.1 in
    let t2 = j1.second.second in
    let j2 = t2.1 in
    let t3 = j2.second.second in
    let j3 = t3.1 in
    let t4 = j3.second.second in
    let j4 = t4.1 in
    let t5 = j4.second.second in
    let j5 = t5.1 in
    let t6 = j5.second.second in
    let j6 = t6.1 in
    let t7 = j6.second.second in
    let j7 = t7.1 in
    let t9 = j7.second.second in
    let j9 = t9.1 in
    let t10 = j9.second.second in
    let j10 = t10.1 in
    let t11 = j10.second.second in
    let j11 = t11.1 in
    let z = j11.second.second in
    let c = un_code t3.0 t10.0 j10.second.front z.2 j10.second.first in
    let s1 = un_listed 1 grammar.function_type (λ (t : FuncType). length t.results ≤ 1) _ _ j1.second.first in
    let s3 = un_kinds (functions t3.0 (given t10.0)) j3.second.front
    (subst (λ (ks : List ℕ). Stands 3 [] (λ ks f. piece.vector piece.u32 ks f) ks j3.second.front) (sym c.kinds)
    j3.second.first) in
    let s4 = un_single 4 100_000 grammar.table _ _ j4.second.first in
    let s5 = un_single 5 1_024 grammar.limits _ _ j5.second.first in
    let s6 = un_listed 6 grammar.global (λ (g : Global). depth g.init ≤ 500) _ _ j6.second.first in
    let s7 = un_listed 7 grammar.export (λ (e : Exporting). AllByRecursion IsPrintable e.name) _ _ j7.second.first in
    let s9 = un_listed 9 grammar.element (λ (s : ElementSegment). depth s.offset ≤ 500) _ _ j9.second.first in
    let s11 = un_listed 11 grammar.data_segment (λ (s : DataSegment). depth s.offset ≤ 500) _ _ j11.second.first in
    subst (λ (y : Parts). Read_so y front) (sym z.1) (record {
      spelled = λ head h. record {
        front = head;
        back = front;
        whole = refl;
        first = h;
        second =
            put j1 s1.0 (put j2 (un_imports t2.0 j2.second.front j2.second.first) (put j3 s3 (put j4 s4.0 (put j5 s5.0
            (put j6 s6.0 (put j7 s7.0 (put j9 s9.0 (put j10 c.section (put j11 s11.0 z.0)))))))));
      };
      profile = record {
        type_results = s1.1;
        table_elements = s4.1;
        memory_pages = s5.1;
        further_locals = c.few;
        export_names = s7.1;
        function_depth = c.shallow;
        global_depth = s6.1;
        element_depth = s9.1;
        segment_depth = s11.1;
      };
    })

-- the header
pub header_is : (bytes : List ℕ) → starts bytes ≡ true → bytes ≡ header_bytes ++ drop 8 bytes
header_is (b0 ∷ b1 ∷ b2 ∷ b3 ∷ b4 ∷ b5 ∷ b6 ∷ b7 ∷ rest) e =
    let h7 = both_true _ _ e in
    let h6 = both_true _ _ h7.0 in
    let h5 = both_true _ _ h6.0 in
    let h4 = both_true _ _ h5.0 in
    let h3 = both_true _ _ h4.0 in
    let h2 = both_true _ _ h3.0 in
    let h1 = both_true _ _ h2.0 in
    rw (
      eqb-true b0 0x00 h1.0,
      eqb-true b1 0x61 h1.1,
      eqb-true b2 0x73 h2.1,
      eqb-true b3 0x6D h3.1,
      eqb-true b4 0x01 h4.1,
      eqb-true b5 0x00 h5.1,
      eqb-true b6 0x00 h6.1,
      eqb-true b7 0x00 h7.1,
    ) refl
header_is bytes e = absurd (cc)

pub answered : (len : ℕ) (r : Read Parts) (m : PureModule) → sections.answer len r ≡ Ok m
    → (p : Parts) × (rest : List ℕ) × (r ≡ got p rest) × (module_of p ≡ m)
answered len (got p rest) m e = (p, rest, refl, (cc))
answered len ended m e = absurd (cc)
answered len (faulty f) m e = absurd (cc)

wrong : (f : BadModule) (m : PureModule) → ◌≡◌ {A = Result PureModule BadModule} (Err f) (Ok m) → ⊥
wrong f m e = cc

-- A module that is read is spelled by all of the bytes, and is within the profile.
pub read_module_is_spelled : (m : PureModule) (bytes : List ℕ) → AreBytes bytes → module_in bytes ≡ Ok m
    → Spells bytes m × IsWithinProfile m
read_module_is_spelled m bytes ok e =
    let q = passes (starts bytes) _ _ _ e (wrong bad.Magic m) in
    let len = length bytes in
    let tail = drop 8 bytes in
    let a = answered len (sections.sections len tail) m q.1 in
    let b = sound_sections.sound len tail a.0 a.1 a.2 in
    let nothing = ends_sections.ends len tail a.0 a.1 a.2 in
    let w : tail ≡ b.front = b.whole ∙ (ap (λ z. b.front ++ z) nothing ∙ append-nil b.front) in
    let h : bytes ≡ header_bytes ++ b.front = header_is bytes q.0 ∙ ap (λ z. header_bytes ++ z) w in
    let r = unpacked a.0 b.front (b.spelled (back_bytes header_bytes b.front (subst AreBytes h ok))) in
    let s : Spells bytes (module_of a.0) = subst (λ (z : List ℕ). Spells z (module_of a.0)) (sym h)
    (r.spelled header_bytes refl) in
    subst (λ (n : PureModule). Spells bytes n × IsWithinProfile n) a.3 (s, r.profile)

-- A file that is read is within the limit beside.
pub read_file_is_spelled : (m : PureModule) (bytes : List ℕ) → AreBytes bytes → module_read bytes ≡ Ok m
    → IsWithinFileLimit bytes × Spells bytes m × IsWithinProfile m
read_file_is_spelled m bytes ok e = elim (either_is (ltb 67_108_864 (length bytes)) _ _ _ e) [
  | inl p ↦ absurd (wrong (bad.OutsideProfile 67_108_864) m p.1)
  | inr p ↦ let r = read_module_is_spelled m bytes ok p.1 in (ltb-false 67_108_864 (length bytes) p.0, r.0, r.1)
]
