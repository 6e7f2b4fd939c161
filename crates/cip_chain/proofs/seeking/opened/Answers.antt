use Rattle.std.proofs.Common.{sym, ◌∙◌}
use Rattle.cip_hops.specs.Hops.{Hops, hop_by_op}
use Rattle.cip_world.specs.Worlds.{looked_up}
use Rattle.cip_chain.proofs.Opened.{opened_at, no_row}
use Rattle.cip_chain.proofs.Followed.{not_opened}
use Rattle.cip_chain.proofs.seeking.opened.Goals as goal

pub returns-in-Some-clause-ok : goal.returns-in-Some-clause-ok
returns-in-Some-clause-ok g c =
    opened_at c.args.world.now.ledger.plan c.args.world.now.ledger.journal c.args.op (record { at = c.args.at; row = c.in-Some.row }) c.requires.run
    (sym c.in-Some.is ∙ c.in_ok-row.ensures)

pub returns-in-None-clause-fault : goal.returns-in-None-clause-fault
returns-in-None-clause-fault g c =
    let t = c.args.world.now.ledger.plan in
    let j = c.args.world.now.ledger.journal in
    let none = no_row (looked_up t j c.args.at.0 (λ (hs : Hops). hop_by_op hs c.args.op)) (sym c.in-None.is ∙ c.in_ok-row.ensures) in
    not_opened t j c.args.at.0 c.args.op c.requires.run none
