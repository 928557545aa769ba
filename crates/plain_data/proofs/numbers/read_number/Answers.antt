-- A numeral is read to its number.
use Rattle.std.proofs.Common.{◌∙◌, sym, arith}
use Rattle.plain_data.proofs.Numerals.{read-number, read-none}
use Rattle.plain_data.proofs.numbers.read_number.Goals as goal

pub returns-in-Ok : goal.returns-in-Ok
returns-in-Ok c =
    c.at_most.ensures ∙ read-number c.args.digits c.args.limit c.args.word.now (sym c.if-not-is_numeral.ensures) (omega arith) c.parse.result c.in-Ok.number c.in-Ok.is c.parse.ensures.value.0

pub returns-in-Err : goal.returns-in-Err
returns-in-Err c =
    read-none c.args.digits c.args.limit c.args.word.now (sym c.if-not-is_numeral.ensures) (omega arith) c.parse.result _ c.in-Err.is c.parse.ensures.value.0
