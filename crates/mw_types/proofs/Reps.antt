-- The representative of a class, and a settled state's most general solution.
use Rattle.std.proofs.Common.{◌≡◌, ◌⊎◌, inl, inr, ℕ, zero, suc, ◌≤◌, ◌<◌, min, List, [], length, refl, ap, sym, subst}
use Rattle.std.proofs.Common.{◌∙◌, arith}
use Rattle.std.proofs.lemmas.List.{get_or_default}
use Rattle.std.proofs.Math.ListN.{get_or-eq_default}
use Rattle.std.specs.Prelude.{slice_index_or}
use Rattle.mw_types.specs.Equations.{Agree}
use Rattle.mw_types.specs.Types.{TypeExpression, int_ty, Assignment, nodes, Substitution, after}
use Rattle.mw_types.specs.Forest.{Low, Same}
use Rattle.mw_types.specs.Satisfying.{Satisfies, Means, Sound}
use Rattle.mw_types.specs.Stands.{Stands, Names, Settled}
use Rattle.mw_types.specs.Walks.{AllSized}
use Rattle.mw_types.specs.declared.state.State.{State}
use Rattle.mw_types.proofs.Lists.{same, other, is}
use Rattle.mw_types.proofs.General.{in_or_out, settled_sound, settled_general}

-- the parent of the parent and so on; one that is outside is its own
pub rep : ℕ → List ℕ → ℕ → ℕ
rep zero cs c = c
rep (suc k) cs c = rep k cs (slice_index_or cs c c)

parent_low : (cs : List ℕ) → Low cs → (c : ℕ) → slice_index_or cs c c ≤ c
parent_low cs l c = elim (in_or_out cs c) [
  | inl lt ↦ rw (get_or_default cs c c 0 lt) (l c lt)
  | inr le ↦ rw (get_or-eq_default cs c {n = c} le) (omega arith)
]

rep_own : {A : Type 0} (cs : List ℕ) (a : ℕ → A) → Same cs a → (k c : ℕ) → a (rep k cs c) ≡ a c
unfolding rep
rep_own cs a s zero c = refl
rep_own cs a s (suc k) c = rep_own cs a s k (slice_index_or cs c c) ∙ elim (in_or_out cs c) [
  | inl lt ↦ ap a (get_or_default cs c c 0 lt) ∙ sym (s c lt)
  | inr le ↦ ap a (get_or-eq_default cs c {n = c} le)
]

rep_one : (cs : List ℕ) → Low cs → (k c : ℕ) → c ≤ k → rep k cs (slice_index_or cs c c) ≡ rep k cs c
unfolding rep
rep_one cs l zero c le = let p = parent_low cs l c in omega arith
rep_one cs l (suc k) c le = elim (is (slice_index_or cs c c) c) [
  | same e ↦ ap (rep (suc k) cs) e
  | other n ↦ rep_one cs l k (slice_index_or cs c c) (let p = parent_low cs l c in omega arith)
]

pub names : (cs : List ℕ) → Low cs → Names cs (rep (length cs) cs)
names cs l = record {
  one = λ c lt. sym (rep_one cs l (length cs) c (omega arith)) ∙ ap (rep (length cs) cs) (get_or_default cs c c 0 lt);
  own = λ a s c lt. rep_own cs a s (length cs) c;
}

module _ (s : State) (sizes : List ℕ) (sound : Sound s) (empty : s.waiting.items ≡ []) (all : AllSized s sizes)
    (classifiers : ℕ → ℕ) (named : Names s.classifier.items classifiers) where
  at : (u : ℕ) → (u < length s.parent.items) ⊎ (length s.parent.items ≤ u) → TypeExpression
  at u (inl lt) = (all.each u lt).type classifiers
  at u (inr le) = int_ty

  at_stands : (u : ℕ) (d : (u < length s.parent.items) ⊎ (length s.parent.items ≤ u)) → u < length s.parent.items
      → Stands s.parent.items s.shape.items classifiers u (at u d)
  unfolding at
  at_stands u (inl lt) p = (all.each u lt).stands classifiers
  at_stands u (inr le) p = absurd (omega arith)

  at_size : (u : ℕ) (d : (u < length s.parent.items) ⊎ (length s.parent.items ≤ u)) → u < length s.parent.items
      → slice_index_or sizes u 0 ≡ min (nodes (at u d)) 10001
  unfolding at
  at_size u (inl lt) p = (all.each u lt).count classifiers
  at_size u (inr le) p = absurd (omega arith)

  pub answer : Substitution
  answer = record { ty = λ u. at u (in_or_out s.parent.items u); classifier = classifiers }

  pub settled : Settled s.parent.items s.shape.items s.classifier.items answer
  unfolding answer
  settled = record { each = λ i lt. at_stands i (in_or_out s.parent.items i) lt; names = named }

  pub answer_sound : (b : Assignment) → Means s (after b answer)
  answer_sound b = subst (λ ws. Satisfies s.parent.items s.shape.items s.classifier.items ws (after b answer))
      (sym empty)
      (settled_sound s.parent.items s.shape.items s.classifier.items answer sound.low sound.lengths sound.bare
      sound.inside settled b)

  pub answer_general : (a : Assignment) → Means s a → Agree (length s.parent.items) (length s.classifier.items) a
      (after a answer)
  answer_general a h = settled_general s.parent.items s.shape.items s.classifier.items answer sound.low sound.lengths
      sound.bare sound.inside settled a (rw empty at h)

  pub answer_size : (u : ℕ) → u < length s.parent.items → slice_index_or sizes u 0 ≡ min (nodes (answer.ty u)) 10001
  unfolding answer
  answer_size u lt = at_size u (in_or_out s.parent.items u) lt

  pub answer_classifier : (c : ℕ) → answer.classifier c ≡ classifiers c
  unfolding answer
  answer_classifier c = refl

  pub answer_stands : (u : ℕ) → u < length s.parent.items → Stands s.parent.items s.shape.items classifiers u
      (answer.ty u)
  unfolding answer
  answer_stands u lt = at_stands u (in_or_out s.parent.items u) lt
