use Rattle.std.proofs.Common.{sym, ap, ◌∙◌}
use Rattle.std.specs.Option.{option_copied, option_and_then}
use Rattle.std.specs.FinMap as map
use Rattle.slab.specs.Slab.{get}
use Rattle.cip_hops.specs.Hops.{Hops}
use Rattle.cip_hops.proofs.Steps.{held_none, held_is}
use Rattle.cip_hops.proofs.table.HopTable.held.Goals as goal

pub returns-in_err-key : goal.returns-in_err-key
returns-in_err-key c =
    ap option_copied c.from_residual.ensures ∙ sym (held_none c.self.inside c.self.invariant c.args.triad.now (sym c.in_err-key.ensures))
    ∙ ap (λ (p : Hops). map.get p.held c.args.triad.now) c.self.view_is

pub returns : goal.returns
returns c =
    c.get.ensures ∙ ap (option_and_then (get c.self.inside.records)) c.in_ok-key.ensures ∙ sym (held_is c.self.inside c.self.invariant c.args.triad.now)
    ∙ ap (λ (p : Hops). map.get p.held c.args.triad.now) c.self.view_is
