-- What each event of the table keeps.
use Rattle.std.proofs.Common.{◌≡◌, ◌≢◌, ℕ, zero, suc, ◌+◌, ◌%◌, ◌<◌, ◌≤◌, ◌⊎◌, List, [], ◌∷◌, length, Bool, true, false}
use Rattle.std.proofs.Common.{cond, ◌==◌, eq-eqb, Option, Some, None, refl, ap, sym, ◌∙◌, subst, inl, inr, arith}
use Rattle.std.proofs.Common.{slice_get, get_or, set, length-set, replicate}
use native.Mathlib.Nat.{mod-lt}
use Rattle.std.proofs.lemmas.Option.{same_Some, none-some, slice_get_within, slice_get-get_or}
use Rattle.std.proofs.lemmas.Bool.{cases_eq, cases_lt, false≢true, eqb-true}
use Rattle.std.proofs.lemmas.Bool.Decides.{eqb_tells}
use Rattle.std.proofs.lemmas.List.{get_or-set_same, length-replicate}
use Rattle.std.proofs.lemmas.Slice.Eq.{bytes_eq-Decides}
use Rattle.std.specs.Str.{bytes_eq}
use Rattle.mw_slots.specs.Core.{Name, going, has, no_room, Asker, asker, State, Event, begin, look, fill, empty}
use Rattle.mw_slots.specs.Core.{with_asker, HasName, place, next, IsOther, Steps, Follows, Core}

slice_get_set_same : {X : Type 0} (xs : List X) (i : ℕ) (v : X) → i < length xs → slice_get (set xs i v) i ≡ Some v
slice_get_set_same xs i v h =
    slice_get-get_or (set xs i v) i v (omega (arith, length-set xs i v)) ∙ ap Some (get_or-set_same xs i v v h)

slice_get_set_other : {X : Type 0} (xs : List X) (i j : ℕ) (v : X) → j ≢ i → slice_get (set xs i v) j ≡ slice_get xs j
slice_get_set_other [] i j v h = refl
slice_get_set_other (x ∷ xs) zero zero v h = absurd (h refl)
slice_get_set_other (x ∷ xs) zero (suc j) v h = refl
slice_get_set_other (x ∷ xs) (suc i) zero v h = refl
slice_get_set_other (x ∷ xs) (suc i) (suc j) v h = slice_get_set_other xs i j v (λ e. h (ap suc e))

with_cases : (f : ℕ → Option Asker) (w : ℕ) (a : Asker) (v : ℕ) (b : Asker) → with_asker f w a v ≡ Some b
    → ((v ≡ w) × (a ≡ b)) ⊎ (f v ≡ Some b)
with_cases f w a v b h = elim (eqb_tells v w) [
  | inl e ↦ inl (e.1, same_Some a b (subst (λ x. cond x (Some a) (f v) ≡ Some b) e.0 h))
  | inr e ↦ inr (subst (λ x. cond x (Some a) (f v) ≡ Some b) e.0 h)
]

empty_holds : (n i : ℕ) (t : Name) → HasName (replicate n None) i t → ⊥
empty_holds zero i t h = none-some (Some t) h
empty_holds (suc n) zero t h = none-some t (same_Some None (Some t) h)
empty_holds (suc n) (suc i) t h = empty_holds n i t h

-- a slot of the table is empty or filled
slot_by : (slots : List (Option Name)) (i : ℕ) (v : Option Name) → slice_get slots i ≡ Some v
    → (slice_get slots i ≡ Some None) ⊎ ((y : Name) × HasName slots i y)
slot_by slots i None e = inl e
slot_by slots i (Some y) e = inr (y, e)

slot_cases : (slots : List (Option Name)) (i : ℕ) → i < length slots → (slice_get slots i ≡ Some None)
    ⊎ ((y : Name) × HasName slots i y)
slot_cases slots i h = slot_by slots i (get_or slots i None) (slice_get-get_or slots i None h)

-- two names are one or not
same_or_other : (xs ys : Name) → (xs ≡ ys) ⊎ (xs ≢ ys)
same_or_other xs ys = by_test (bytes_eq xs ys) refl
  where
    by_test : (t : Bool) → bytes_eq xs ys ≡ t → (xs ≡ ys) ⊎ (xs ≢ ys)
    by_test true e = inl ((bytes_eq-Decides xs ys).0 e)
    by_test false e = inr (λ q. false≢true (sym e ∙ (bytes_eq-Decides xs ys).1 q))

module _ (home : Name → ℕ) where
  abbrev CanGo : State → ℕ → Type 0
  CanGo s w = (s' : State) × (Steps home s (look w) s' ⊎ Steps home s (fill w) s')

  -- what an asker knows
  record Knows (slots : List (Option Name)) (a : Asker) : Type 0 where
    others : (k : ℕ) → k < a.passed → IsOther home slots a.name k
    near : a.standing ≡ going → a.passed < 16
    mine : a.standing ≡ has → (a.passed < 16) × HasName slots (next home slots a) a.name
    sixteen : a.standing ≡ no_room → a.passed ≡ 16

  abbrev Placed : List (Option Name) → ℕ → Name → Type 0
  Placed slots i t = (k : ℕ) × (k < 16) × (i ≡ place home slots t k) × ((j : ℕ) → j < k → IsOther home slots t j)

  record Fine (s : State) : Type 0 where
    knows : (w : ℕ) (a : Asker) → s.askers w ≡ Some a → Knows s.slots a
    placed : (i : ℕ) (t : Name) → HasName s.slots i t → Placed s.slots i t

  -- the slots are as many, and what was filled stays
  record Grows (slots slots' : List (Option Name)) : Type 0 where
    long : length slots' ≡ length slots
    stays : (i : ℕ) (t : Name) → HasName slots i t → HasName slots' i t

  grows_same : (slots : List (Option Name)) → Grows slots slots
  grows_same slots = record { long = refl; stays = λ i t h. h }

  grows_on : (a b c : List (Option Name)) → Grows a b → Grows b c → Grows a c
  grows_on a b c g h = record { long = h.long ∙ g.long; stays = λ i t x. h.stays i t (g.stays i t x) }

  holds_on : (slots slots' : List (Option Name)) → Grows slots slots' → (t u : Name) (k : ℕ)
      → HasName slots (place home slots t k) u → HasName slots' (place home slots' t k) u
  holds_on slots slots' g t u k h = subst (λ (n : ℕ). HasName slots' ((home t + k) % n) u) (sym g.long)
      (g.stays (place home slots t k) u h)

  other_on : (slots slots' : List (Option Name)) → Grows slots slots' → (t : Name) (k : ℕ) → IsOther home slots t k
      → IsOther home slots' t k
  other_on slots slots' g t k o = (o.0, holds_on slots slots' g t o.0 k o.1, o.2)

  knows_on : (slots slots' : List (Option Name)) → Grows slots slots' → (a : Asker) → Knows slots a → Knows slots' a
  knows_on slots slots' g a k = record {
    others = λ j h. other_on slots slots' g a.name j (k.others j h);
    near = k.near;
    mine = λ e. ((k.mine e).0, holds_on slots slots' g a.name a.name a.passed (k.mine e).1);
    sixteen = k.sixteen;
  }

  placed_on : (slots slots' : List (Option Name)) → Grows slots slots' → (i : ℕ) (t : Name) → Placed slots i t
      → Placed slots' i t
  placed_on slots slots' g i t p = (
    p.0,
    p.1,
    subst (λ (n : ℕ). i ≡ (home t + p.0) % n) (sym g.long) p.2,
    λ j h. other_on slots slots' g t j
        (p.3 j h),
  )

  -- one asker changed, and the slots stayed or grew
  fine_with : (s : State) (slots' : List (Option Name)) (w : ℕ) (a : Asker) → Fine s → Grows s.slots slots'
      → Knows slots' a → ((i : ℕ) (t : Name) → HasName slots' i t → Placed slots' i t)
      → Fine (record { slots = slots'; askers = with_asker s.askers w a })
  fine_with s slots' w a fine g knows placed = record {
    knows = λ v b h. elim (with_cases s.askers w a v b h) [
      | inl e ↦ subst (Knows slots') e.1 knows
      | inr e ↦ knows_on s.slots slots' g b (fine.knows v b e)
    ];
    placed = placed;
  }

  fine_empty : (n : ℕ) → Fine (empty n)
  fine_empty n = record { knows = λ w a h. absurd (none-some a h); placed = λ i t h. absurd (empty_holds n i t h) }

  -- what a slot that is filled means for the others
  grows_set : (slots : List (Option Name)) (i : ℕ) (t : Name) → slice_get slots i ≡ Some None
      → Grows slots (set slots i (Some t))
  grows_set slots i t free = record {
    long = length-set slots i (Some t);
    stays = λ j u h. slice_get_set_other slots i j (Some t)
        (λ e. none-some u (same_Some None (Some u) (sym free ∙ subst (λ (n : ℕ). HasName slots n u) e h))) ∙ h;
  }

  set_cases : (slots : List (Option Name)) (i : ℕ) (t : Name) (j : ℕ) (u : Name) → slice_get slots i ≡ Some None
      → HasName (set slots i (Some t)) j u → ((j ≡ i) × (t ≡ u)) ⊎ HasName slots j u
  set_cases slots i t j u free h = elim (cases_eq j i) [
    | inl is ↦
        let now = slice_get_set_same slots i (Some t) (slice_get_within slots i None free) in
        let here = subst (λ (n : ℕ). HasName (set slots i (Some t)) n u) is h in
        inl (is, same_Some t u (same_Some (Some t) (Some u) (sym now ∙ here)))
    | inr other ↦ inr (sym (slice_get_set_other slots i j (Some t) other) ∙ h)
  ]

  others_upto : (slots : List (Option Name)) (t : Name) (p : ℕ) → ((k : ℕ) → k < p → IsOther home slots t k)
      → IsOther home slots t p → (k : ℕ) → k < p + 1 → IsOther home slots t k
  others_upto slots t p old one k h =
      elim (cases_lt k p) [ inl a ↦ old k a | inr b ↦ subst (IsOther home slots t) (omega arith) one ]

  standing_by : (slots : List (Option Name)) (t : Name) (p : ℕ) (x : Bool) → (p + 1 == 16) ≡ x → p < 16
      → ((k : ℕ) → k < p + 1 → IsOther home slots t k) → Knows slots (asker t (p + 1) (cond x no_room going))
  standing_by slots t p true e near others =
      record {
        others = others;
        near = λ s. absurd (cc s);
        mine = λ s. absurd (cc s);
        sixteen = λ s.
            eqb-true (p + 1) 16 e;
      }
  standing_by slots t p false e near others = record {
    others = others;
    near = λ s. (let no : p + 1 ≢ 16 = λ is. false≢true (sym e ∙ eq-eqb (p + 1) 16 is) in omega arith);
    mine = λ s. absurd (cc s);
    sixteen = λ s. absurd (cc s);
  }

  record Goes (s s' : State) : Type 0 where
    grows : Grows s.slots s'.slots
    fine : Fine s'

  -- an asker that stands at a slot with its name
  has_slot : (slots : List (Option Name)) (t : Name) (p : ℕ) → p < 16 → ((k : ℕ) → k < p → IsOther home slots t k)
      → HasName slots (place home slots t p) t → Knows slots (asker t p has)
  has_slot slots t p near others here = record {
    others = others;
    near = λ x. absurd (cc x);
    mine = λ x. (near, here);
    sixteen = λ x. absurd (cc x);
  }

  -- one asker changed, and no slot
  same_slots : (s : State) (w : ℕ) (a : Asker) (s' : State) → Fine s → Knows s.slots a
      → s' ≡ record { slots = s.slots; askers = with_asker s.askers w a } → Goes s s'
  same_slots s w a s' fine knows e = subst (Goes s) (sym e) record {
    grows = grows_same s.slots;
    fine = fine_with s s.slots w a fine (grows_same s.slots) knows fine.placed;
  }

  goes : (s : State) (e : Event) (s' : State) → Fine s → Steps home s e s' → Goes s s'
  goes s (begin w t) s' fine h =
      let k : Knows s.slots (asker t 0 going) =
      record {
        others = λ k n. absurd (omega arith);
        near = λ e. omega arith;
        mine = λ e. absurd (cc e);
        sixteen = λ e. absurd (cc e);
      } in
      same_slots s w (asker t 0 going) s' fine k h.1
  goes s (look w) s' fine h =
      let a : Asker = h.0 in let u : Name = h.1 in
      let k : Knows s.slots a = fine.knows w a h.2 in
      let near : a.passed < 16 = k.near h.3 in
      elim h.5 [
        | inl e ↦
            let here = subst (HasName s.slots (next home s.slots a)) e.0 h.4 in
            same_slots s w (asker a.name a.passed has) s' fine (has_slot s.slots a.name a.passed near k.others here) e.1
        | inr e ↦
            let all : (j : ℕ) → j < a.passed + 1 → IsOther home s.slots a.name j = others_upto s.slots a.name a.passed
            k.others (u, h.4, e.0) in
            same_slots s w (asker a.name (a.passed + 1) (cond (a.passed + 1 == 16) no_room going)) s' fine
            (standing_by s.slots a.name a.passed (a.passed + 1 == 16) refl near all) e.1
      ]
  goes s (fill w) s' fine h =
      let a : Asker = h.0 in let i : ℕ = next home s.slots a in let slots' : List (Option Name) =
      set s.slots i (Some a.name) in
      let k : Knows s.slots a = fine.knows w a h.1 in let near : a.passed < 16 = k.near h.2 in
      let g : Grows s.slots slots' = grows_set s.slots i a.name h.3 in
      let at : next home slots' a ≡ i = ap (λ (n : ℕ). (home a.name + a.passed) % n) g.long in
      let now : HasName slots' i a.name = slice_get_set_same s.slots i (Some a.name)
      (slice_get_within s.slots i None h.3) in
      let k' : Knows slots' (asker a.name a.passed has) = has_slot slots' a.name a.passed near
      (λ j n. other_on s.slots slots' g a.name j (k.others j n))
      (subst (λ (n : ℕ). HasName slots' n a.name) (sym at) now) in
      let mine : Placed slots' i a.name = (a.passed, near, sym at, k'.others) in
      let placed' : (j : ℕ) (t : Name) → HasName slots' j t → Placed slots' j t = λ j t x.
      elim (set_cases s.slots i a.name j t h.3 x) [
        | inl e ↦ subst (λ (n : ℕ). Placed slots' n t) (sym e.0) (subst (Placed slots' i) e.1 mine)
        | inr old ↦ placed_on s.slots slots' g j t (fine.placed j t old)
      ] in
      let fine' = fine_with s slots' w (asker a.name a.passed has) fine g k' placed' in
      subst (Goes s) (sym h.4) record { grows = g; fine = fine' }

  goes_all : (s : State) (es : List Event) (s' : State) → Fine s → Follows home s es s' → Goes s s'
  goes_all s [] s' fine h = subst (Goes s) h record { grows = grows_same s.slots; fine = fine }
  goes_all s (e ∷ es) s' fine h =
      let one : Goes s h.0 = goes s e h.0 fine h.1 in
      let rest : Goes h.0 s' = goes_all h.0 es s' one.fine h.2 in
      record { grows = grows_on s.slots h.0.slots s'.slots one.grows rest.grows; fine = rest.fine }

  -- where one name stood at two places of its window, the later place would hold another name
  two_places : (slots : List (Option Name)) (i j : ℕ) (t : Name) → HasName slots i t → (p : Placed slots i t)
      → (q : Placed slots j t) → p.0 < q.0 → ⊥
  two_places slots i j t h p q less =
      let o : IsOther home slots t p.0 = q.3 p.0 less in
      o.2 (same_Some o.0 t (same_Some (Some o.0) (Some t) (sym o.1 ∙ subst (λ (n : ℕ). HasName slots n t) p.2 h)))

  one_place : (slots : List (Option Name)) (i j : ℕ) (t : Name) → HasName slots i t → HasName slots j t
      → (p : Placed slots i t) → (q : Placed slots j t) → i ≡ j
  one_place slots i j t h g p q =
      let first : p.0 < q.0 → ⊥ = two_places slots i j t h p q in
      let second : q.0 < p.0 → ⊥ = two_places slots j i t g q p in
      let same : p.0 ≡ q.0 = omega arith in
      p.2 ∙ ap (place home slots t) same ∙ sym q.2

  -- the next slot of an asker that goes on is one of the table's, filled or empty
  can_go : (s : State) (w : ℕ) (a : Asker) → 0 < length s.slots → s.askers w ≡ Some a → a.standing ≡ going → CanGo s w
  can_go s w a some h e =
      let i : ℕ = next home s.slots a in
      elim (slot_cases s.slots i (mod-lt (home a.name + a.passed) some)) [
        | inl free ↦ (_, inr (a, h, e, free, refl))
        | inr y ↦ elim (same_or_other y.0 a.name) [
          | inl same ↦ (_, inl (a, y.0, h, e, y.1, inl (same, refl)))
          | inr other ↦ (_, inl (a, y.0, h, e, y.1, inr (other, refl)))
        ]
      ]

  pub core_holds : (n : ℕ) (es fs : List Event) (before after : State) → 16 ≤ n → Follows home (empty n) es before
      → Follows home before fs after → Core home before after
  core_holds n es fs before after some first then =
      let one : Goes (empty n) before = goes_all (empty n) es before (fine_empty n) first in
      let two : Goes before after = goes_all before fs after one.fine then in
      let long : length after.slots ≡ n = two.grows.long ∙ one.grows.long ∙ length-replicate n None in
      record {
        kept = two.grows.stays;
        once = λ i j t h g. one_place after.slots i j t h g (two.fine.placed i t h) (two.fine.placed j t g);
        has_name = λ w a h e. ((two.fine.knows w a h).mine e).1;
        sixteen_others = λ w a h e k n.
            (let long : a.passed ≡ 16 = (two.fine.knows w a h).sixteen e in
            (two.fine.knows w a h).others k (omega arith));
        passed = λ w a h. (two.fine.knows w a h).others;
        in_window = two.fine.placed;
        goes_on = λ w a h e. can_go after w a (omega arith) h e;
      }
