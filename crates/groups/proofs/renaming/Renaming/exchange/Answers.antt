use Rattle.std.proofs.Common.{sym, ap, ◌∙◌, subst}
use Rattle.groups.specs.Renamings.{Lawful, renaming, LawfulRenaming}
use Rattle.groups.specs.RenamingsLemmas.{renaming_laws}
use Rattle.groups.proofs.Exchanges.{shifted_exchange, swap_lawful, exchange_of_names}
use Rattle.groups.proofs.renaming.Renaming.exchange.Goals as goal

pub returns-then-a-ge-NAMES-clause-lawful : goal.returns-then-a-ge-NAMES-clause-lawful
returns-then-a-ge-NAMES-clause-lawful c = subst LawfulRenaming (sym c.identity-same.ensures) renaming_laws.lawful_identity

pub returns : goal.returns
returns c =
    let a = c.args.a in
    let b = c.args.b in
    let p = c.if-a-ge-NAMES.false in
    let q = c.if-b-ge-NAMES.false in
    let e = shifted_exchange a b p q c.identity-same.result.bits c.from-turn.result (ap (λ x. x.bits) c.identity-same.ensures) c.from-turn.ensures in
    record { is = ap renaming e ∙ sym (exchange_of_names a b p q); lawful = subst Lawful (sym e) (swap_lawful a b p q) }
