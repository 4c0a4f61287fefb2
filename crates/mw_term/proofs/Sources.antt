-- No term of the Rust type has a value that was put for a variable.
use Rattle.mw_term.specs.Terms.{expression_of}
use Rattle.mw_term.specs.Sources.{IsSource}
use Rattle.mw_term.specs.declared.term.Term.{Term}
use Rattle.mw_term.specs.declared.term.Term.TheVariants.{Int, Bool as Truth, Var, Glob, Fun', Rec', App', Let', If'}
use Rattle.mw_term.specs.declared.term.Term.TheVariants.{Pair', Fst', Snd', Prim' as Prim-Prim', Bracket', Escape'}
use Rattle.mw_term.specs.declared.term.Term.TheVariants.{Run', CloseCode', OpenCode', Lift', LiftB'}

pub sources : (t : Term) → IsSource (expression_of t)
sources (Int n) = tt
sources (Truth b) = tt
sources (Var i) = tt
sources (Glob i) = tt
sources (Fun' p e) = sources e
sources (Rec' p e) = sources e
sources (App' p f q a) = (sources f, sources a)
sources (Let' p d q e) = (sources d, sources e)
sources (If' p c q a r b) = (sources c, sources a, sources b)
sources (Pair' p a q b) = (sources a, sources b)
sources (Fst' p e) = sources e
sources (Snd' p e) = sources e
sources (Prim-Prim' o p a q b) = (sources a, sources b)
sources (Bracket' p e) = sources e
sources (Escape' p e) = sources e
sources (Run' k p e) = sources e
sources (CloseCode' at p e) = sources e
sources (OpenCode' p e) = sources e
sources (Lift' p e) = sources e
sources (LiftB' p e) = sources e
