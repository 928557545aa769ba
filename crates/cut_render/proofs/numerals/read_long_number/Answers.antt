-- A numeral is read to its number.
use Rattle.std.proofs.Common.{◌∙◌, sym, arith}
use Rattle.cut_render.proofs.LongNumbers.{read-number, read-none}
use Rattle.cut_render.proofs.numerals.read_long_number.Goals as goal

pub returns-in-Ok-clause-number : goal.returns-in-Ok-clause-number
returns-in-Ok-clause-number c =
    c.at_most.ensures.number ∙ read-number c.args.digits c.args.limit c.args.word.now (sym c.if-not-is_numeral.ensures) (omega arith) c.parse.result c.in-Ok.number c.in-Ok.is c.parse.ensures.value.0

pub returns-in-Err-clause-number : goal.returns-in-Err-clause-number
returns-in-Err-clause-number c =
    read-none c.args.digits c.args.limit c.args.word.now (sym c.if-not-is_numeral.ensures) (omega arith) c.parse.result _ c.in-Err.is c.parse.ensures.value.0
