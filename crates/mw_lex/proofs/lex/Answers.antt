use Rattle.mw_term.specs.declared.refusal.Refusal.TheVariants.{Char, Number, Name}
use Rattle.mw_lex.proofs.Lexed.{only_tokens, only_fault}
use Rattle.mw_lex.proofs.lex.Goals as goal

pub returns-clause-only : goal.returns-clause-only
returns-clause-only c = λ tokens small are. only_tokens c.args.bytes.now c.pieces.result c.pieces.ensures.found
    c.pieces.ensures.fault tokens are

pub returns-clause-only_char : goal.returns-clause-only_char
returns-clause-only_char c = λ at small first. only_fault c.args.bytes.now c.pieces.result c.pieces.ensures.found
    c.pieces.ensures.fault (Char at) first

pub returns-clause-only_number : goal.returns-clause-only_number
returns-clause-only_number c = λ at small first. only_fault c.args.bytes.now c.pieces.result c.pieces.ensures.found
    c.pieces.ensures.fault (Number at) first

pub returns-clause-only_name : goal.returns-clause-only_name
returns-clause-only_name c = λ at small first. only_fault c.args.bytes.now c.pieces.result c.pieces.ensures.found
    c.pieces.ensures.fault (Name at) first
