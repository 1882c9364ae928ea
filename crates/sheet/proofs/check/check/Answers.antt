use Rattle.sheet.proofs.Checking.{one_answer}
use Rattle.sheet.proofs.Forming.{lawful_well}
use Rattle.sheet.proofs.check.check.Goals as goal

pub returns-clause-one : goal.returns-clause-one
returns-clause-one g c = one_answer

pub returns-clause-formed : goal.returns-clause-formed
returns-clause-formed g c = lawful_well
