use Rattle.std.proofs.Common.{◌*◌, ◌/◌, ◌%◌, ◌^◌, ◌<◌, ◌≤◌, sym, ap, ◌∙◌, arith}
use native.Mathlib.Nat.{pow-le-pow_right}
use Rattle.std.proofs.lemmas.Nat.{and_mask}
use Rattle.groups.specs.Digits.{pow-pow, digit_past}
use Rattle.groups.proofs.renaming.Renaming.image.Goals as goal

pub returns-then-name-lt16 : goal.returns-then-name-lt16
returns-then-name-lt16 c = and_mask (c.args.self.bits / 2 ^ (4 * c.args.name)) 4 ∙ ap (λ m. c.args.self.bits / m % 16) (sym (pow-pow 4 c.args.name))

pub returns-else-name-lt16 : goal.returns-else-name-lt16
returns-else-name-lt16 c =
    let fits : c.args.self.bits < 2 ^ 64 = omega arith in
    let wide : 16 ^ 16 ≤ 16 ^ c.args.name = pow-le-pow_right (omega arith) c.if-name-lt16.false in
    sym (digit_past 16 (omega arith) c.args.self.bits c.args.name (omega arith))
