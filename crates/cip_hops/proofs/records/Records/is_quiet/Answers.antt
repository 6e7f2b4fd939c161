use Rattle.std.proofs.Common.{◌≡◌, ◌<◌, ℕ, ap, ◌∙◌, arith, nat_lt, true}
use Rattle.std.proofs.lemmas.Bool.Decides.{nat_tests}
use Rattle.slab.specs.Slab.{Slab, get}
use Rattle.cip_hops.specs.declared.hop.Held.{Held}
use Rattle.cip_hops.proofs.Quiet.{early}
use Rattle.cip_hops.proofs.records.Records.is_quiet.Goals as goal

before : (now least : ℕ) → nat_lt now least ≡ true → now < least
before now least is = grind (arith, nat_tests)

pub returns : goal.returns
returns c = λ quiet key x found.
    let was = c.self.invariant.bounded.early key x (ap (λ (s : Slab Held). get s key) c.self.view_is ∙ found) in
    let low = c.least.ensures.least key was.0 in
    let lt = before c.args.now c.least.result quiet in
    early x c.args.now (omega (arith, was.1, low, lt))
