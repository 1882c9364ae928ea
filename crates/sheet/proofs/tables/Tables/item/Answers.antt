use Rattle.std.proofs.Common.{rules}
use Rattle.sheet.specs.Sheets.{item}
use Rattle.sheet.proofs.tables.Tables.item.Goals as goal

pub returns-in_err-command : goal.returns-in_err-command
unfolding item
returns-in_err-command c = search rules

pub returns : goal.returns
unfolding item
returns c = search rules
