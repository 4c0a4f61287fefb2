-- A list of tokens has one answer.
use Rattle.std.proofs.Common.{◌≡◌, ℕ, List, [], ◌∷◌, ◌++◌, refl, ap, ◌∙◌, sym, subst, length, append_assoc, append-nil}
use Rattle.std.proofs.Common.{length-append, arith}
use Rattle.mw_lex.specs.Tokens.{PureToken}
use Rattle.mw_grammar.specs.SurfaceTrees.{PureSurface}
use Rattle.mw_grammar.specs.Answers.{Derives, BeginsProgram, IsAtMost, IsAbove, IsDead, IsTree, IsSyntax, IsDeep}
use Rattle.mw_grammar.proofs.Depths.{depth_most, depth_less}

-- two ways to cut a list
data Cut (a r b s : List PureToken) : Type 0 where
  alike : a ≡ b → r ≡ s → Cut a r b s
  sooner : (t : PureToken) (u : List PureToken) → b ≡ a ++ (t ∷ u) → r ≡ t ∷ (u ++ s) → Cut a r b s
  later : (t : PureToken) (u : List PureToken) → a ≡ b ++ (t ∷ u) → s ≡ t ∷ (u ++ r) → Cut a r b s

cut_on : {a r b s : List PureToken} (t : PureToken) → Cut a r b s → Cut (t ∷ a) r (t ∷ b) s
cut_on t (alike p q) = alike (ap (λ u. t ∷ u) p) q
cut_on t (sooner i u p q) = sooner i u (ap (λ u. t ∷ u) p) q
cut_on t (later i u p q) = later i u (ap (λ u. t ∷ u) p) q

cut : (a r b s : List PureToken) → a ++ r ≡ b ++ s → Cut a r b s
cut [] r [] s e = alike refl e
cut [] r (t ∷ b) s e = sooner t b refl e
cut (t ∷ a) r [] s e = later t a refl (sym e)
cut (t ∷ a) r (i ∷ b) s e =
    let p : t ≡ i = cc in
    let q : a ++ r ≡ b ++ s = cc in
    subst (λ i. Cut (t ∷ a) r (i ∷ b) s) p (cut_on t (cut a r b s q))

-- a front that begins a program goes on with each token of it
dead_on : (front r b : List PureToken) (t : PureToken) (u : List PureToken) → IsDead front r → (w : List PureToken)
    → r ≡ t ∷ w → b ≡ front ++ (t ∷ u) → BeginsProgram b → ⊥
dead_on front [] b t u d w e q k = absurd (cc)
dead_on front (i ∷ r) b t u d w e q (more, v, s, h) =
    let p : i ≡ t = cc in
    let g : Derives ((front ++ (t ∷ u)) ++ more) v s = subst (λ b. Derives (b ++ more) v s) q h in
    d (u ++ more) v s
    (subst (λ x. Derives (front ++ (x ∷ (u ++ more))) v s) (sym p) (rw (sym (append_assoc front (t ∷ u) more)) g))

-- a longer front is as deep: it can't be low where a shorter one is high
low_high : (b : ℕ) (front a : List PureToken) (t : PureToken) (u : List PureToken) → a ≡ front ++ (t ∷ u)
    → IsAbove b (front ++ (t ∷ [])) → IsAtMost b a → BeginsProgram a → ⊥
low_high b front a t u q high low (more, v, s, h) =
    let g : Derives ((front ++ (t ∷ u)) ++ more) v s = subst (λ b. Derives (b ++ more) v s) q h in
    let k : Derives ((front ++ (t ∷ [])) ++ (u ++ more)) v s = rw (append_assoc front (t ∷ []) (u ++ more))
    (rw (sym (append_assoc front (t ∷ u) more)) g) in
    omega (
      arith,
      high (u ++ more) v s k,
      low more v s h,
      depth_less (length more) (length (u ++ more)) s
          (omega (arith, length-append u more)),
    )

module _ (b : ℕ) (ts : List PureToken) where
  pub syntax_once : (r s : List PureToken) → IsSyntax b ts r → IsSyntax b ts s → r ≡ s
  syntax_once r s x y = by (cut x.front r y.front s (sym x.split ∙ y.split))
    where
      by : Cut x.front r y.front s → r ≡ s
      by (alike p q) = q
      by (sooner t u p q) = absurd (dead_on x.front r y.front t u x.dead (u ++ s) q p y.begins)
      by (later t u p q) = absurd (dead_on y.front s x.front t u y.dead (u ++ r) q p x.begins)

  pub not_both : (r s : List PureToken) → IsSyntax b ts r → IsDeep b ts s → ⊥
  not_both r s x y = by (cut x.front r y.front (y.fault ∷ y.behind) (sym x.split ∙ y.split))
    where
      by : Cut x.front r y.front (y.fault ∷ y.behind) → ⊥
      by (alike p q) = dead_on x.front r (y.front ++ (y.fault ∷ [])) y.fault [] x.dead y.behind q
          (ap (λ z. z ++ (y.fault ∷ [])) (sym p)) y.begins
      by (sooner t u p q) = dead_on x.front r (y.front ++ (y.fault ∷ [])) t (u ++ (y.fault ∷ [])) x.dead
          (u ++ (y.fault ∷ y.behind)) q (ap (λ z. z ++ (y.fault ∷ [])) p ∙ append_assoc x.front (t ∷ u) (y.fault ∷ []))
          y.begins
      by (later t u p q) = let e : y.fault ≡ t = cc in low_high b y.front x.front y.fault u
          (subst (λ t. x.front ≡ y.front ++ (t ∷ u)) (sym e) p) y.high x.low x.begins

  pub deep_once : (r s : List PureToken) → IsDeep b ts r → IsDeep b ts s → r ≡ s
  deep_once r s x y = x.first
      ∙ by (cut x.front (x.fault ∷ x.behind) y.front (y.fault ∷ y.behind) (sym x.split ∙ y.split)) ∙ sym y.first
    where
      shorter : (a : List PureToken) (t : PureToken) → BeginsProgram (a ++ (t ∷ [])) → BeginsProgram a
      shorter a t (more, v, s, h) = (t ∷ more, v, s, rw (sym (append_assoc a (t ∷ []) more)) h)

      by : Cut x.front (x.fault ∷ x.behind) y.front (y.fault ∷ y.behind) → x.fault ∷ x.behind ≡ y.fault ∷ y.behind
      by (alike p q) = q
      by (sooner t u p q) = let e : x.fault ≡ t = cc in
          absurd (low_high b x.front y.front x.fault u (subst (λ t. y.front ≡ x.front ++ (t ∷ u)) (sym e) p) x.high
          y.low (shorter y.front y.fault y.begins))
      by (later t u p q) = let e : y.fault ≡ t = cc in
          absurd (low_high b y.front x.front y.fault u (subst (λ t. x.front ≡ y.front ++ (t ∷ u)) (sym e) p) y.high
          x.low (shorter x.front x.fault x.begins))

  pub tree_or_syntax : (v : PureSurface) (r : List PureToken) → IsTree b ts v → IsSyntax b ts r → ⊥
  tree_or_syntax v [] x y = y.dead v x.nodes (subst (λ z. Derives z v x.nodes) (y.split ∙ append-nil y.front) x.derives)
  tree_or_syntax v (t ∷ r) x y = y.dead r v x.nodes (subst (λ z. Derives z v x.nodes) y.split x.derives)

  pub tree_or_deep : (v : PureSurface) (r : List PureToken) → IsTree b ts v → IsDeep b ts r → ⊥
  tree_or_deep v r x y =
      let d : Derives ((y.front ++ (y.fault ∷ [])) ++ y.behind) v x.nodes =
      rw (append_assoc y.front (y.fault ∷ []) y.behind) (subst (λ z. Derives z v x.nodes) y.split x.derives) in
      omega (arith, y.high y.behind v x.nodes d, depth_most (length y.behind) x.nodes, x.low)
