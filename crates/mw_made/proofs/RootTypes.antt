-- The root of a right section is the type that its first line names first.
use Rattle.std.proofs.Common.{◌≡◌, ℕ, suc, List, [], ◌∷◌, ◌++◌, Some, refl, ap, sym, ◌∙◌, length, arith}
use Rattle.std.specs.Prelude.{slice_get, option_to_list}
use Rattle.std.proofs.lemmas.Option.{same_Some}
use Rattle.mw_term.specs.Terms.{Expression, num, truth, var, glob, fun, fix, app, bind, cond, pair, fst, snd, prim}
use Rattle.mw_term.specs.Terms.{bracket, escape, run, close, opened, lift, lift_b}
use Rattle.mw_term.specs.Types.{Level, live, under}
use Rattle.mw_types.specs.Types.{TypeExpression}
use Rattle.mw_recheck.specs.Notes.{Notes, AllNamed, IsNodeLine, TopNote, BinderNote, Noted}
use Rattle.mw_infer.specs.Nodes.{NodeFacts}
use Rattle.mw_agree.specs.Telling.{Tell, first_type, root_of}
use Rattle.mw_written.specs.Readings.{type_counts}
use Rattle.mw_made.proofs.NodeReadings.{type_numbers}

-- the line at place n names this type first
pub record NamesFirst (p : Notes) (n : ℕ) (t : TypeExpression) : Type 0 where
  pub place : ℕ
  pub rest : List ℕ
  pub line : slice_get p.nodes n ≡ Some (place ∷ rest)
  pub named : slice_get p.types place ≡ Some t

line_first : (p : Notes) (n : ℕ) (t : TypeExpression) (us : List TypeExpression) (ls cs : List ℕ)
    → slice_get p.nodes n ≡ Some (ls ++ cs) → AllNamed p.types ls (t ∷ us) → NamesFirst p n t
line_first p n t us [] cs e h = absurd h
line_first p n t us (i ∷ ls) cs e h = record { place = i; rest = ls ++ cs; line = e; named = h.0 }

first : (p : Notes) (m : Level) (n : ℕ) (t : TypeExpression) (us : List TypeExpression) (cs : List ℕ)
    → IsNodeLine p m n (t ∷ us) cs → NamesFirst p n t
first p m n t us cs h = line_first p n t us h.lines cs h.line h.named

-- the line of a term names the term's type first
pub first_named : (p : Notes) (tops : List TopNote) (g : List BinderNote) (m : Level) (n : ℕ) (e : Expression)
    (t : TypeExpression) → Noted p tops g m n e t → NamesFirst p n t
first_named p tops g m n (num z) t h = first p m n t [] [] h.1
first_named p tops g m n (truth b) t h = first p m n t [] [] h.1
first_named p tops g m n (var i) t h = first p m n t [] [] h.1
first_named p tops g m n (glob i) t h = first p m n t [] [] h.1
first_named p tops g m n (fun e) t h = first p m n t (h.0 ∷ []) [] h.3
first_named p tops g m n (fix e) t h = first p m n t (t ∷ h.0 ∷ []) [] h.3
first_named p tops g m n (app f a) t h = first p m n t [] [] h.1
first_named p tops g m n (bind d e) t h = first p m n t (h.0 ∷ []) [] h.1
first_named p tops g m n (cond c a b) t h = first p m n t [] [] h.0
first_named p tops g m n (pair a b) t h = first p m n t [] [] h.3
first_named p tops g m n (fst e) t h = first p m n t (h.0 ∷ []) [] h.1
first_named p tops g m n (snd e) t h = first p m n t (h.0 ∷ []) [] h.1
first_named p tops g m n (prim o a b) t h = first p m n t [] [] h.1
first_named p tops g live n (bracket e) t h = first p live n t [] (h.0 ∷ []) h.3
first_named p tops g (under a) n (escape e) t h = first p (under a) n t [] [] h.0
first_named p tops g live n (run k e) t h = first p live n t [] [] h.1
first_named p tops g live n (close at e) t h = first p live n t (h.1 ∷ []) (h.0 ∷ []) h.4
first_named p tops g live n (opened e) t h = first p live n t (h.1 ∷ []) (h.0 ∷ []) h.3
first_named p tops g live n (lift e) t h = first p live n t [] (h.0.0 ∷ []) h.0.2
first_named p tops g live n (lift_b e) t h = first p live n t [] (h.0.0 ∷ []) h.0.2
first_named p tops g m n e t h = absurd h

-- each node's line names a type
first_count : (e : Expression) → (k : ℕ) × (ks : List ℕ) × (type_counts e ≡ suc k ∷ ks)
first_count (fun e) = (1, _, refl)
first_count (fix e) = (2, _, refl)
first_count (bind d e) = (1, _, refl)
first_count (fst e) = (1, _, refl)
first_count (snd e) = (1, _, refl)
first_count (close at e) = (1, _, refl)
first_count (opened e) = (1, _, refl)
first_count e = (0, _, refl)

-- the root that is told is named first too
told_first : (p : Notes) (n k : ℕ) (ts : List TypeExpression) (ls cs : List ℕ) (t : TypeExpression)
    → slice_get p.nodes n ≡ Some (ls ++ cs) → AllNamed p.types ls ts → length ts ≡ suc k → NamesFirst p n t
    → t ≡ first_type ts
told_first p n k [] ls cs t e h c f = absurd (omega (arith, c))
told_first p n k (s ∷ ts) [] cs t e h c f = absurd h
told_first p n k (s ∷ ts) (i ∷ ls) cs t e h c f =
    let same : Some (f.place ∷ f.rest) ≡ Some (i ∷ (ls ++ cs)) = sym f.line ∙ e in
    let place : f.place ≡ i = cc in
    same_Some t s (sym f.named ∙ ap (λ j. slice_get p.types j) place ∙ h.0)

told_root : (p : Notes) (n k : ℕ) (ks : List ℕ) (facts : List NodeFacts) (t : TypeExpression) → Tell p n facts
    → type_numbers facts ≡ suc k ∷ ks → NamesFirst p n t → t ≡ root_of facts
told_root p n k ks [] t h c f = absurd (cc)
told_root p n k ks (x ∷ facts) t h c f =
    let some : length x.types ≡ suc k = cc in
    told_first p n k x.types h.0.lines (option_to_list x.classifier) t h.0.line h.0.named some f

pub root_told : (p : Notes) (tops : List TopNote) (e : Expression) (facts : List NodeFacts) (t : TypeExpression)
    → Tell p 0 facts → type_numbers facts ≡ type_counts e → Noted p tops [] live 0 e t → t ≡ root_of facts
root_told p tops e facts t h c n =
    let k = first_count e in
    told_root p 0 k.0 k.1 facts t h (c ∙ k.2) (first_named p tops [] live 0 e t n)
