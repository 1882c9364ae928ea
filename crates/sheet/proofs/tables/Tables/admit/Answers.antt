use Rattle.std.proofs.Common.{rules}
use Rattle.std.proofs.lemmas.Result.{err_from_is_err_and}
use Rattle.sheet.proofs.Checking.{unknown_fault, known_fault, declined}
use Rattle.sheet.proofs.tables.Tables.admit.Goals as goal

pub returns-in_err-item : goal.returns-in_err-item
returns-in_err-item c = search (rules, unknown_fault, declined, err_from_is_err_and)

pub returns-in_err-allows : goal.returns-in_err-allows
returns-in_err-allows c = search (rules, known_fault, declined, err_from_is_err_and)

pub returns : goal.returns
returns c = search (rules, known_fault)
