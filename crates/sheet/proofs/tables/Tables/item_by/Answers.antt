use Rattle.std.proofs.Common.{sym, ap, ◌∙◌}
use Rattle.sheet.specs.declared.item.Arity.TheVariants.{Tuple}
use Rattle.sheet.specs.declared.item.Row.TheVariants.{Tuple as tuple_row}
use Rattle.sheet.specs.declared.item.Item.TheVariants.{Arity as an_arity, Row as a_row}
use Rattle.sheet.specs.Sheets.{item_by, operand_parts}
use Rattle.sheet.specs.Tables.{sheet_in}
use Rattle.sheet.proofs.tables.Tables.item_by.Goals as goal

pub returns-in-TupleArity : goal.returns-in-TupleArity
returns-in-TupleArity c =
    ap (λ ps. an_arity (Tuple ps)) c.tuple_parts.ensures ∙ sym (ap (item_by (sheet_in c.args.self.now) c.args.e) c.in-TupleArity.is)

pub returns-in-TupleRow : goal.returns-in-TupleRow
returns-in-TupleRow c =
    ap (λ ps. a_row (tuple_row c.args.e.a ps)) (c.tuple_parts-rows.ensures ∙ ap (λ n. operand_parts n c.args.e) c.width.ensures) ∙ sym (ap (item_by (sheet_in c.args.self.now) c.args.e) c.in-TupleRow.is)
