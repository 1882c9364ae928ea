use Rattle.std.proofs.Common.{sym, refl, ◌∙◌}
use Rattle.std.proofs.lemmas.Iterator.Adapters.{option_map_id}
use Rattle.std.proofs.lemmas.Iterator.Consumers.{nth_from_yields_List, YieldsList-from_first}
use Rattle.packed.specs.Packed.{packed}
use Rattle.packed.proofs.source.PackedSheetSource.entry.Goals as goal

pub returns : goal.returns
returns c =
    sym (option_map_id c.nth.result)
    ∙ nth_from_yields_List _ c.nth.new.self _ c.nth.ensures.ran
    (YieldsList-from_first (λ e. e) (λ s. packed s.rest.now) {s = record { rest = c.args.self.now.bytes }} _ refl)
