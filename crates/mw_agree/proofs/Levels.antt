-- What is true of each unknown of a term's nodes at the level where its node stands.
use Rattle.std.proofs.Common.{ℕ, ◌+◌, List, [], ◌∷◌}
use Rattle.mw_term.specs.Terms.{Expression, fun, fix, app, bind, cond, pair, fst, snd, prim}
use Rattle.mw_term.specs.Terms.{bracket, escape, run, close, opened, lift, lift_b}
use Rattle.mw_term.specs.Types.{Level, live, under}
use Rattle.mw_infer.specs.Schemes.{TopScheme}
use Rattle.mw_infer.specs.ItemEquations.{unknowns_of, classifiers_of}

-- it is true of all of these
abbrev pub AllAre : (Level → ℕ → Type 0) → Level → List ℕ → Type 0
AllAre R m [] = Unit {0}
AllAre R m (u ∷ us) = R m u × AllAre R m us

-- It is true of those of a term's nodes, by the numbering of its equations. A level 1 is named by a classifier unknown.
abbrev pub Levelled : (Level → ℕ → Type 0) → List TopScheme → ℕ → ℕ → ℕ → Level → Expression → Type 0
Levelled R tops u o c m (fun e) = AllAre R m (u ∷ o ∷ []) × Levelled R tops (o + 1) (o + 2) c m e
Levelled R tops u o c m (fix e) = AllAre R m (u ∷ (o + 1) ∷ o ∷ []) × Levelled R tops (o + 2) (o + 3) c m e
Levelled R tops u o c m (app f a) = AllAre R m (u ∷ []) × Levelled R tops o (o + 2) c m f
    × Levelled R tops (o + 1) (o + 2 + unknowns_of tops f) (c + classifiers_of tops f) m a
Levelled R tops u o c m (bind d e) = AllAre R m (u ∷ o ∷ []) × Levelled R tops (o + 1) (o + 3) c m d
    × Levelled R tops (o + 2) (o + 3 + unknowns_of tops d) (c + classifiers_of tops d) m e
Levelled R tops u o c m (cond p a b) = AllAre R m (u ∷ []) × Levelled R tops o (o + 3) c m p
    × Levelled R tops (o + 1) (o + 3 + unknowns_of tops p) (c + classifiers_of tops p) m a
    × Levelled R tops (o + 2) (o + 3 + unknowns_of tops p + unknowns_of tops a)
    (c + classifiers_of tops p + classifiers_of tops a) m b
Levelled R tops u o c m (pair a b) = AllAre R m (u ∷ []) × Levelled R tops o (o + 2) c m a
    × Levelled R tops (o + 1) (o + 2 + unknowns_of tops a) (c + classifiers_of tops a) m b
Levelled R tops u o c m (fst e) = AllAre R m (u ∷ o ∷ []) × Levelled R tops (o + 1) (o + 2) c m e
Levelled R tops u o c m (snd e) = AllAre R m (u ∷ o ∷ []) × Levelled R tops (o + 1) (o + 2) c m e
Levelled R tops u o c m (prim p a b) = AllAre R m (u ∷ []) × Levelled R tops o (o + 2) c m a
    × Levelled R tops (o + 1) (o + 2 + unknowns_of tops a) (c + classifiers_of tops a) m b
Levelled R tops u o c m (bracket e) = AllAre R m (u ∷ []) × Levelled R tops o (o + 1) (c + 1) (under c) e
Levelled R tops u o c m (escape e) = AllAre R m (u ∷ []) × Levelled R tops o (o + 1) c live e
Levelled R tops u o c m (run k e) = AllAre R m (u ∷ []) × Levelled R tops o (o + 1) c live e
Levelled R tops u o c m (close at e) = AllAre R m (u ∷ o ∷ []) × Levelled R tops (o + 1) (o + 2) (c + 1) live e
Levelled R tops u o c m (opened e) = AllAre R m (u ∷ o ∷ []) × Levelled R tops (o + 1) (o + 2) (c + 1) live e
Levelled R tops u o c m (lift e) = AllAre R m (u ∷ []) × Levelled R tops o (o + 1) (c + 1) live e
Levelled R tops u o c m (lift_b e) = AllAre R m (u ∷ []) × Levelled R tops o (o + 1) (c + 1) live e
Levelled R tops u o c m e = AllAre R m (u ∷ [])
