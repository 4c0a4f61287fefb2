-- The parts of a term, judged one after the other.
use Rattle.std.specs.Prelude.{ℕ, List, ◌∷◌, Option, Some}
use Rattle.mw_term.specs.Terms.{Expression, num, truth, var, glob, fun, fix, app, bind, cond, pair, fst, snd, prim}
use Rattle.mw_term.specs.Terms.{bracket, escape, run, close, opened, lift, lift_b, done}
use Rattle.mw_term.specs.Types.{Level, live, under}
use Rattle.mw_lines.specs.TypeLines.{TypeLine}
use Rattle.mw_recheck.specs.Options.{◌>>=◌}
use Rattle.mw_recheck.specs.Notes.{TopNote}
use Rattle.mw_recheck.specs.Judging.{PlacedBinder, placed, NodeLine, judged}
use Rattle.mw_recheck.specs.declared.agree.Parts.{Parts}

-- the places of the types of up to three parts
pub record Places : Type 0 where
  pub first : ℕ
  pub second : ℕ
  pub third : ℕ

abbrev pub places_of_parts : Parts → Places
places_of_parts p = record { first = p.first; second = p.second; third = p.third }

-- a judgement of node lines
abbrev pub Judge : Type 0
Judge = List (List ℕ) → Option (ℕ × List (List ℕ))

abbrev pub one_part : Judge → List (List ℕ) → Option (Places × List (List ℕ))
one_part f nodes = f nodes >>= λ a. Some (record { first = a.0; second = 0; third = 0 }, a.1)

abbrev pub two_parts : Judge → Judge → List (List ℕ) → Option (Places × List (List ℕ))
two_parts f g nodes = f nodes >>= λ a. (g a.1 >>= λ b. Some (record { first = a.0; second = b.0; third = 0 }, b.1))

abbrev pub three_parts : Judge → Judge → Judge → List (List ℕ) → Option (Places × List (List ℕ))
three_parts f g h nodes =
    f nodes >>= λ a. (g a.1 >>= λ b. (h b.1 >>= λ c. Some (record { first = a.0; second = b.0; third = c.0 }, c.1)))

abbrev pub parts_judged : List TypeLine → List TopNote → List PlacedBinder → Level → Expression → NodeLine
    → List (List ℕ)
    → Option (Places × List (List ℕ))
parts_judged ls tops g m (num z) x nodes = Some (record { first = 0; second = 0; third = 0 }, nodes)
parts_judged ls tops g m (truth z) x nodes = Some (record { first = 0; second = 0; third = 0 }, nodes)
parts_judged ls tops g m (var i) x nodes = Some (record { first = 0; second = 0; third = 0 }, nodes)
parts_judged ls tops g m (glob i) x nodes = Some (record { first = 0; second = 0; third = 0 }, nodes)
parts_judged ls tops g m (done v) x nodes = Some (record { first = 0; second = 0; third = 0 }, nodes)
parts_judged ls tops g m (fun e) x nodes = one_part (λ ns. judged ls tops (placed m x.second ∷ g) m e ns) nodes
parts_judged ls tops g m (fix e) x nodes =
    one_part (λ ns. judged ls tops (placed m x.third ∷ placed m x.second ∷ g) m e ns) nodes
parts_judged ls tops g m (app f e) x nodes =
    two_parts (λ ns. judged ls tops g m f ns) (λ ns. judged ls tops g m e ns) nodes
parts_judged ls tops g m (bind d e) x nodes =
    two_parts (λ ns. judged ls tops g m d ns) (λ ns. judged ls tops (placed m x.second ∷ g) m e ns) nodes
parts_judged ls tops g m (cond p d e) x nodes =
    three_parts (λ ns. judged ls tops g m p ns) (λ ns. judged ls tops g m d ns) (λ ns. judged ls tops g m e ns) nodes
parts_judged ls tops g m (pair d e) x nodes =
    two_parts (λ ns. judged ls tops g m d ns) (λ ns. judged ls tops g m e ns) nodes
parts_judged ls tops g m (prim o d e) x nodes =
    two_parts (λ ns. judged ls tops g m d ns) (λ ns. judged ls tops g m e ns) nodes
parts_judged ls tops g m (fst e) x nodes = one_part (λ ns. judged ls tops g m e ns) nodes
parts_judged ls tops g m (snd e) x nodes = one_part (λ ns. judged ls tops g m e ns) nodes
parts_judged ls tops g m (bracket e) x nodes = one_part (λ ns. judged ls tops g (under x.second) e ns) nodes
parts_judged ls tops g m (escape e) x nodes = one_part (λ ns. judged ls tops g live e ns) nodes
parts_judged ls tops g m (run k e) x nodes = one_part (λ ns. judged ls tops g m e ns) nodes
parts_judged ls tops g m (close at e) x nodes = one_part (λ ns. judged ls tops g m e ns) nodes
parts_judged ls tops g m (opened e) x nodes = one_part (λ ns. judged ls tops g m e ns) nodes
parts_judged ls tops g m (lift e) x nodes = one_part (λ ns. judged ls tops g m e ns) nodes
parts_judged ls tops g m (lift_b e) x nodes = one_part (λ ns. judged ls tops g m e ns) nodes
