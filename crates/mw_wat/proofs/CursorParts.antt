-- Readers that look for one word.
use Rattle.std.proofs.Common.{◌≡◌, []}
use Rattle.std.specs.Prelude.{codes}
use Rattle.mw_wasm.specs.declared.modules.FuncType.{FuncType}
use Rattle.mw_wat.specs.Lexing.{Tokens}
use Rattle.mw_wat.specs.Reading.{Reader, and_then, ◌>>=◌, gives, closing}
use Rattle.mw_wat.specs.Modules.{results, behind_params, with_params}
use Rattle.mw_wat.specs.Cursors.{is_word}
use Rattle.mw_wat.proofs.CursorReaders.{word_choice, by_choice}

-- the result alone
abbrev pub without_params : Reader FuncType
without_params = results >>= λ rs. closing >>= λ _. gives (record { params = []; results = rs })

pub params_choice : (ts : Tokens) → with_params ts
    ≡ and_then (is_word (codes "param") ts) (by_choice behind_params without_params)
params_choice ts = word_choice (codes "param") behind_params without_params ts
