-- The lines of nodes, put together.
use Rattle.std.proofs.Common.{◌≡◌, ℕ, ◌+◌, ◌≤◌, List, [], ◌∷◌, ◌++◌, length, Some, refl, ap, sym, ◌∙◌, subst}
use Rattle.std.proofs.Common.{arith, length-append}
use Rattle.std.specs.Prelude.{slice_get, option_to_list}
use Rattle.std.proofs.lemmas.Option.{same_Some, none-some}
use Rattle.mw_types.specs.Types.{TypeExpression}
use Rattle.mw_infer.specs.Nodes.{NodeFacts}
use Rattle.mw_section.specs.Writing.{Writing, type_written, classifier_written}
use Rattle.mw_section.specs.WritingLaws.{AllWritten, all_written}
use Rattle.mw_section.specs.Writers.{Puts}
use Rattle.mw_section.specs.declared.writer.LineWriter.{LineWriter}
use Rattle.mw_cert.specs.Nodes.{PutsAll, PutsEnd, PutsNode, IsShort}

-- types behind types
all_append : (ts us : List TypeExpression) (w : Writing) → all_written (ts ++ us) w ≡ record {
  places = (all_written ts w).places ++ (all_written us (all_written ts w).writing).places;
  writing = (all_written us (all_written ts w).writing).writing;
}
all_append [] us w = refl
all_append (t ∷ ts) us w =
    let a = type_written t w in
    ap (λ (r : AllWritten). record { places = a.place ∷ r.places; writing = r.writing }) (all_append ts us a.writing)

-- a node's types by their places, where they are three at most
types_are : (ts : List TypeExpression) (t : TypeExpression) → slice_get ts 0 ≡ Some t → length ts ≤ 3
    → ts ≡ t ∷ (option_to_list (slice_get ts 1) ++ option_to_list (slice_get ts 2))
types_are [] t h n = absurd (none-some t h)
types_are (a ∷ []) t h n = ap (λ z. z ∷ []) (same_Some a t h)
types_are (a ∷ b ∷ []) t h n = ap (λ z. z ∷ b ∷ []) (same_Some a t h)
types_are (a ∷ b ∷ c ∷ []) t h n = ap (λ z. z ∷ b ∷ c ∷ []) (same_Some a t h)
types_are (a ∷ b ∷ c ∷ d ∷ ts) t h n = absurd (omega arith)

module _ (types : ℕ → TypeExpression) where
  puts_one : (t : TypeExpression) (m n : LineWriter) (p : ℕ) → Puts types (type_written t) m n p
      → PutsAll types (t ∷ []) m n (p ∷ [])
  puts_one t m n p f w h = let a = f w h in (ap (λ q. q ∷ []) a.0, a.1)

  puts_append : (ts us : List TypeExpression) (m n o : LineWriter) (ps qs : List ℕ) → PutsAll types ts m n ps
      → PutsAll types us n o qs → PutsAll types (ts ++ us) m o (ps ++ qs)
  puts_append ts us m n o ps qs f g w h =
      let a = f w h in
      let b = g (all_written ts w).writing a.1 in
      rw (all_append ts us w)
      (ap (λ xs. xs ++ qs) a.0 ∙ ap (λ xs. (all_written ts w).places ++ xs) b.0, b.1)

  puts_first : (t : TypeExpression) (ts : List TypeExpression) (m n o : LineWriter) (p : ℕ) (ps : List ℕ)
      → Puts types (type_written t) m n p → PutsAll types ts n o ps → PutsAll types (t ∷ ts) m o (p ∷ ps)
  puts_first t ts m n o p ps f g = puts_append (t ∷ []) ts m n o (p ∷ []) ps (puts_one t m n p f) g

  -- the end of a line
  pub puts_end : (c : ℕ) (m n : LineWriter) (k : ℕ) → Puts types (classifier_written c) m n k
      → PutsEnd types (Some c) m n (k ∷ [])
  puts_end c m n k f w places h = let a = f w h in (ap (λ q. places ++ q ∷ []) a.0, a.1)

  -- a line
  puts_node : (x : NodeFacts) (m n o : LineWriter) (ps end : List ℕ) → PutsAll types x.types m n ps
      → PutsEnd types x.classifier n o end → PutsNode types x m o (ps ++ end)
  puts_node x m n o ps end f g w h =
      let a = f w h in
      rw (← a.0) (g (all_written x.types w).writing ps a.1)

  pub puts_line : (x : NodeFacts) (t : TypeExpression) (m n o q r : LineWriter) (own : ℕ)
      (first second end line : List ℕ) → slice_get x.types 0 ≡ Some t → IsShort x
      → Puts types (type_written t) m n own → PutsAll types (option_to_list (slice_get x.types 1)) n o first
      → PutsAll types (option_to_list (slice_get x.types 2)) o q second → PutsEnd types x.classifier q r end
      → line ≡ (own ∷ (first ++ second)) ++ end → PutsNode types x m r line
  puts_line x t m n o q r own first second end line h short f g k l e =
      let one = option_to_list (slice_get x.types 1) in
      let two = option_to_list (slice_get x.types 2) in
      let parts : PutsAll types (t ∷ (one ++ two)) m q (own ∷ (first ++ second)) =
      puts_first t (one ++ two) m n q own (first ++ second) f (puts_append one two n o q first second g k) in
      let all = subst (λ (ts : List TypeExpression). PutsAll types ts m q (own ∷ (first ++ second)))
      (sym (types_are x.types t h (omega arith))) parts in
      subst (λ (ns : List ℕ). PutsNode types x m r ns) (sym e)
      (puts_node x m q r (own ∷ (first ++ second)) end all l)

-- the numbers behind the first are two at most
pub rest_is_short : (ts : List TypeExpression) (t : TypeExpression) (c : ℕ) → slice_get ts 0 ≡ Some t
    → length ts + c ≤ 3
    → length (option_to_list (slice_get ts 1)) + length (option_to_list (slice_get ts 2)) + c ≤ 2
rest_is_short ts t c h n =
    omega (arith, length-append {A = TypeExpression}, ap length (types_are ts t h (omega arith)))
