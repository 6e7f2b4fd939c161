use Rattle.std.proofs.Common.{◌≡◌, true, nat_lt, arith}
use Rattle.std.proofs.lemmas.Bool.Decides.{nat_tests}
use Rattle.cip_drawing.proofs.BandLaws.{left_told}
use Rattle.cip_drawing.proofs.areas.Areas.is_left.Goals as goal

pub returns-then-left-gt-NUMBERS : goal.returns-then-left-gt-NUMBERS
returns-then-left-gt-NUMBERS c =
    let numbers : nat_lt 104 c.args.left.left ≡ true = grind (arith, nat_tests, c.if-left-gt-NUMBERS.true) in
    let told = left_told c.args.self.now.lines.items c.args.self.now.bands.items c.args.right c.args.left c.cost-cost.result c.cost.result
    c.cost-cost.type_inv c.cost-cost.ensures c.cost.ensures in
    rw numbers told
