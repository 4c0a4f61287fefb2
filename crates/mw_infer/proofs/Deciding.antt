-- Each part of a program is without fault or has one, so a program is well typed and small or has a first refusal.
use Rattle.std.proofs.Common.{◌≡◌, ◌≢◌, ◌⊎◌, inl, inr, ℕ, zero, suc, ◌≤◌, List, [], ◌∷◌, ◌++◌, map, length, Some}
use Rattle.std.proofs.Common.{refl, ap, arith}
use Rattle.std.specs.Prelude.{slice_get}
use Rattle.mw_term.specs.Terms.{Expression}
use Rattle.mw_term.specs.Programs.{Definition, value, kernel, PureProgram}
use Rattle.mw_term.specs.Types.{TermType, int_type, bool_type, pair_type, function_type, code_type, closed_type, Entry}
use Rattle.mw_term.specs.Types.{value as at_live, quoted, IsAbsentIn, IsAbsent, IsAbsentAt}
use Rattle.mw_term.specs.Typing.{TopLevel}
use Rattle.mw_term.specs.Typable.{seen_by_item, seen_by_main, Typable}
use Rattle.mw_term.specs.declared.refusal.Refusal.{Refusal}
use Rattle.mw_types.specs.Types.{Substitution, after}
use Rattle.mw_types.specs.Equations.{MostGeneral, IsSmall, Fine, FirstUnsolvable, FirstTooBig}
use Rattle.mw_types.proofs.Faults.{fine_or_faulty}
use Rattle.mw_types.proofs.Lists.{same, other, is}
use Rattle.mw_infer.specs.Schemes.{TopScheme, let_scheme, scheme_out_of_scope}
use Rattle.mw_term.specs.Sources.{IsSource}
use Rattle.mw_infer.specs.ItemEquations.{Close}
use Rattle.mw_infer.specs.Inferring.{item_unknowns, item_classifiers, item_closes, item_equations, entry_of, AreFresh}
use Rattle.mw_infer.specs.Inferring.{least}
use Rattle.mw_term.specs.Parts.{Place, main_place}
use Rattle.mw_term.specs.Parts.{Part, part_of_item, part_of_main, IsPart, an_item, main}
use Rattle.mw_infer.specs.Checking.{ArePrincipal, IsFirstOpen, TypeFault, not_closed, HasFault, unsolvable, oversized}
use Rattle.mw_infer.specs.Checking.{unclosed, IsFaultless, refusal_of, IsFirstRefusal, AreFaultless, NoneTooBig}
use Rattle.mw_infer.specs.Checking.{IsWritten}
use Rattle.mw_infer.specs.Progress.{Progress}
use Rattle.mw_infer.proofs.Copying.{some-at}
use Rattle.mw_infer.proofs.Growing.{principal-let, principal-kernel, principal-main, principal-own, revealed}
use Rattle.mw_infer.proofs.Items.{item-within, fresh-typable, most_general-scheme_within}
use Rattle.mw_infer.proofs.Ordering.{in_order, Within-reach}
use Rattle.mw_infer.proofs.Progressing.{modest-let, modest-none}
use Rattle.mw_infer.proofs.Refusals.{faultless-typable, faultless-none_too_big, typable-refused}
use Rattle.mw_infer.proofs.SameInstances.{IsSchemeOf-renumbered}
use Rattle.mw_infer.proofs.Stepping.{earlier-next, progress-first, item-refused, main-refused, all-faultless}

-- a fact holds or doesn't
abbrev Decided : Type 0 → Type 0
Decided A = A ⊎ (A → ⊥)

both : {A B : Type 0} → Decided A → Decided B → Decided (A × B)
both (inl a) (inl b) = inl (a, b)
both (inl a) (inr n) = inr (λ h. n h.1)
both (inr n) d = inr (λ h. n h.0)

differ : (i j : ℕ) → Decided (i ≢ j)
differ i j = elim (is i j) [ same e ↦ inr (λ n. n e) | other n ↦ inl n ]

-- whether a classifier stands in a type, and in an environment
absent-type : (k : ℕ) (t : TermType) → Decided (IsAbsentIn k t)
absent-type k int_type = inl tt
absent-type k bool_type = inl tt
absent-type k (pair_type s t) = both (absent-type k s) (absent-type k t)
absent-type k (function_type s t) = both (absent-type k s) (absent-type k t)
absent-type k (code_type a t) = both (differ a k) (absent-type k t)
absent-type k (closed_type t) = absent-type k t

absent-entry : (k : ℕ) (x : Entry) → Decided (IsAbsentAt k x)
absent-entry k (at_live t) = absent-type k t
absent-entry k (quoted a t) = both (differ a k) (absent-type k t)

absent-environment : (k : ℕ) (g : List Entry) → Decided (IsAbsent k g)
absent-environment k [] = inl tt
absent-environment k (x ∷ g) = both (absent-entry k x) (absent-environment k g)

-- all closes are fresh, or there is a first that is not
open-next : (s : Substitution) (x : Close) (xs : List Close)
    → Decided (IsAbsent (s.classifier x.classifier) (map (entry_of (after least s)) x.scope))
    → AreFresh (after least s) xs ⊎ ((y : Close) × IsFirstOpen s xs y) → AreFresh (after least s) (x ∷ xs)
    ⊎ ((y : Close) × IsFirstOpen s (x ∷ xs) y)
open-next s x xs (inr n) d = inr (x, record { earlier = []; later = xs; parts = refl; fresh = tt; stands = n })
open-next s x xs (inl h) (inl f) = inl (h, f)
open-next s x xs (inl h) (inr o) =
    inr (
      o.0,
      record {
        earlier = x ∷ o.1.earlier;
        later = o.1.later;
        parts = ap (λ z. x ∷ z) o.1.parts;
        fresh =
            (h, o.1.fresh);
        stands = o.1.stands;
      },
    )

fresh_or_open : (s : Substitution) (xs : List Close) → AreFresh (after least s) xs ⊎ ((y : Close) × IsFirstOpen s xs y)
fresh_or_open s [] = inl tt
fresh_or_open s (x ∷ xs) =
    open-next s x xs (absent-environment (s.classifier x.classifier) (map (entry_of (after least s)) x.scope))
    (fresh_or_open s xs)

-- a term at a place has a small most general solution with its closes fresh, or a fault
record Accepted (schemes : List TopScheme) (place : Place) (e : Expression) : Type 0 where
  by : Substitution
  general : MostGeneral (item_unknowns schemes e) (item_classifiers schemes e) (item_equations schemes place e) by
  small : IsSmall (item_unknowns schemes e) by
  fresh : AreFresh (after least by) (item_closes schemes e)

module _ (schemes : List TopScheme) (place : Place) (e : Expression) where
  abbrev AcceptedOrFaulty : Type 0
  AcceptedOrFaulty = Accepted schemes place e ⊎ ((f : TypeFault) × HasFault schemes place e f)

  where-fine : (s : Substitution) → MostGeneral (item_unknowns schemes e) (item_classifiers schemes e)
      (item_equations schemes place e) s → IsSmall (item_unknowns schemes e) s
      → AreFresh (after least s) (item_closes schemes e) ⊎ ((y : Close) × IsFirstOpen s (item_closes schemes e) y)
      → AcceptedOrFaulty
  where-fine s g l (inl f) = inl (record { by = s; general = g; small = l; fresh = f })
  where-fine s g l (inr o) = inr (not_closed o.0.at, unclosed g l o.1)

  where-judged : Fine (item_unknowns schemes e) (item_classifiers schemes e) (item_equations schemes place e)
      ⊎ (((k : ℕ) × FirstUnsolvable (item_unknowns schemes e) (item_classifiers schemes e)
      (item_equations schemes place e) k)
      ⊎ ((k : ℕ) × FirstTooBig (item_unknowns schemes e) (item_classifiers schemes e) (item_equations schemes place e)
      k)) → AcceptedOrFaulty
  where-judged (inl f) = where-fine f.0 f.1 f.2 (fresh_or_open f.0 (item_closes schemes e))
  where-judged (inr (inl f)) = inr (_, unsolvable f.1)
  where-judged (inr (inr f)) = inr (_, oversized f.1)

  accepted_or_faulty : (names : List TopLevel) → ArePrincipal names schemes → AcceptedOrFaulty
  accepted_or_faulty names h =
      where-judged
      (fine_or_faulty (item_unknowns schemes e) (item_classifiers schemes e) (item_equations schemes place e)
      (item-within schemes place e (principal-own names schemes h)))

accepted-faultless : (x : Part) (schemes : List TopScheme) → ArePrincipal x.names schemes → IsSource x.term
    → Accepted schemes x.place x.term → IsFaultless x
accepted-faultless x schemes p source j = record {
  schemes = schemes;
  principal = p;
  fine = (j.by, j.general, j.small);
  typable = fresh-typable x.names schemes p.of x.term source j.by x.place j.general j.fresh;
}

module _ (p : PureProgram) (written : IsWritten p) where
  abbrev Refused : Type 0
  Refused = (r : Refusal) × IsFirstRefusal p r

  item-accepted : (i : ℕ) (d : Definition) (schemes : List TopScheme) → slice_get p.items i ≡ Some d
      → Progress p i schemes → Accepted schemes (part_of_item [] d).place (part_of_item [] d).term
      → (new : List TopScheme) × Progress p (suc i) new
  item-accepted i (value e) schemes g h j =
      let names = seen_by_item p.items i in
      let a : IsPart p i (part_of_item names (value e)) = an_item g in
      let source = written.sources i _ a in
      let r = in_order (j.by.ty 0) (j.small 0 (omega arith)) in
      let s = IsSchemeOf-renumbered names e _ r.0
      (most_general-scheme_within names schemes h.principal.of e source j.by _ _ (Within-reach (j.by.ty 0))
      j.general j.fresh) r.1 in (
        schemes ++ (let_scheme r.0 ∷ []),
        record {
          principal = principal-let p.items i e schemes r.0 g h.principal s r.1.in_order;
          modest = modest-let schemes r.0 h.modest r.1.unknowns r.1.classifiers;
          earlier = earlier-next p i _ h.earlier a
              (accepted-faultless (part_of_item names (value e)) schemes h.principal source j);
        },
      )
  item-accepted i (kernel k e) schemes g h j =
      let names = seen_by_item p.items i in
      let a : IsPart p i (part_of_item names (kernel k e)) = an_item g in (
        schemes ++ (scheme_out_of_scope ∷ []),
        record {
          principal = principal-kernel p.items i k e schemes g h.principal;
          modest = modest-none schemes h.modest;
          earlier = earlier-next p i _ h.earlier a
              (accepted-faultless (part_of_item names (kernel k e)) schemes h.principal (written.sources i _ a) j);
        },
      )

  item-next : (i : ℕ) (d : Definition) (schemes : List TopScheme) → slice_get p.items i ≡ Some d → Progress p i schemes
      → AcceptedOrFaulty schemes (part_of_item [] d).place (part_of_item [] d).term
      → ((new : List TopScheme) × Progress p (suc i) new) ⊎ Refused
  item-next i d schemes g h (inl j) = inl (item-accepted i d schemes g h j)
  item-next i d schemes g h (inr f) =
      inr (refusal_of i f.0, item-refused p i d schemes (refusal_of i f.0) g h (f.0, f.1, refl))

  item-judged : (i : ℕ) (d : Definition) (schemes : List TopScheme) → slice_get p.items i ≡ Some d
      → Progress p i schemes → ((new : List TopScheme) × Progress p (suc i) new) ⊎ Refused
  item-judged i (value e) schemes g h =
      item-next i (value e) schemes g h
      (accepted_or_faulty schemes (part_of_item [] (value e)).place e (seen_by_item p.items i) h.principal)
  item-judged i (kernel k e) schemes g h = item-next i (kernel k e) schemes g h
      (accepted_or_faulty schemes (part_of_item [] (kernel k e)).place e (seen_by_item p.items i) h.principal)

  -- the items before an index are without fault, or one of them has the first
  checked_to : (n : ℕ) → n ≤ length p.items → ((schemes : List TopScheme) × Progress p n schemes) ⊎ Refused
  checked_to zero le = inl ([], progress-first p)
  checked_to (suc n) le = go (checked_to n (omega arith))
    where
      go : ((schemes : List TopScheme) × Progress p n schemes) ⊎ Refused
          → ((schemes : List TopScheme) × Progress p (suc n) schemes) ⊎ Refused
      go (inr r) = inr r
      go (inl h) = let d = some-at p.items n (omega arith) in item-judged n d.0 h.0 d.1 h.1

  main-next : (schemes : List TopScheme) → Progress p (length p.items) schemes
      → AcceptedOrFaulty (revealed p.items schemes) (main_place p.result) p.body → AreFaultless p ⊎ Refused
  main-next schemes h (inl j) =
      inl (all-faultless p schemes h
      (accepted-faultless (part_of_main p) (revealed p.items schemes) (principal-main p.items schemes h.principal)
      (written.sources (length p.items) _ (main refl)) j))
  main-next schemes h (inr f) =
      inr (refusal_of (length p.items) f.0, main-refused p schemes (refusal_of (length p.items) f.0) h (f.0, f.1, refl))

  all-checked : ((schemes : List TopScheme) × Progress p (length p.items) schemes) ⊎ Refused → AreFaultless p ⊎ Refused
  all-checked (inr r) = inr r
  all-checked (inl h) =
      main-next h.0 h.1 (accepted_or_faulty (revealed p.items h.0) (main_place p.result) p.body (seen_by_main p.items)
      (principal-main p.items h.0 h.1.principal))

  faultless_or_refused : AreFaultless p ⊎ Refused
  faultless_or_refused = all-checked (checked_to (length p.items) (omega arith))

  pub checked_or_refused : (Typable p × NoneTooBig p) ⊎ Refused
  checked_or_refused = typable_if faultless_or_refused
    where
      typable_if : AreFaultless p ⊎ Refused → (Typable p × NoneTooBig p) ⊎ Refused
      typable_if (inl f) = inl (faultless-typable p written f, faultless-none_too_big p written f)
      typable_if (inr r) = inr r

  -- a typable program without a type that is too big has no fault
  pub typable_faultless : Typable p → NoneTooBig p → AreFaultless p
  typable_faultless t n = faultless_if faultless_or_refused
    where
      faultless_if : AreFaultless p ⊎ Refused → AreFaultless p
      faultless_if (inl f) = f
      faultless_if (inr r) = absurd (typable-refused p written r.0 t n r.1)
