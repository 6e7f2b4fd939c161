use Rattle.std.proofs.Common.{◌≡◌, ℕ, Option, Some, None, sym, ◌∙◌, ap}
use Rattle.cip_hops.specs.declared.hop.Hop.{Hop}
use Rattle.cip_hops.specs.declared.opening.HopDown.{HopDown}
use Rattle.cip_hops.specs.declared.opening.HopDown.TheVariants.{Link as DownLink}
use Rattle.cip_hops.specs.Hops.{Hops, hop_by_up}
use Rattle.cip_routing.specs.declared.tables.HopRow.{HopRow}
use Rattle.cip_routing.specs.Views.{hop_row_of}
use Rattle.cip_chassis.specs.Plan.{Plan}
use Rattle.cip_chassis.specs.Nodes.{Way, across as goes}
use Rattle.cip_world.specs.Worlds.{looked_up}
use Rattle.cip_chain.specs.Found.{member}
use Rattle.cip_chain.proofs.Nexts.{ends, no_none, no_id, next_found, next_none}
use Rattle.cip_chain.proofs.Opened.{row_of, no_row}
use Rattle.cip_chain.proofs.seeking.next_to.Goals as goal

-- what the row says of its connection
down_of : (row : HopRow) (hop : Hop) (down : HopDown) → row ≡ hop_row_of hop → row.down ≡ down → hop.opening.down ≡ down
down_of row hop down same is = sym (ap (λ (r : HopRow). r.down) same) ∙ is

id_of : (row : HopRow) (hop : Hop) (id : Option ℕ) → row ≡ hop_row_of hop → row.their_id ≡ id → hop.their_id ≡ id
id_of row hop id same is = sym (ap (λ (r : HopRow). r.their_id) same) ∙ is

pub returns-in_default-clause-fault : goal.returns-in_default-clause-fault
returns-in_default-clause-fault g c = λ hop seen.
    let t = c.args.world.now.ledger.plan in
    let j = c.args.world.now.ledger.journal in
    let here = c.args.here.now in
    let down = down_of here.row hop (DownLink c.in-Link.port c.in-Link.address) seen.row_is c.in-Link.is in
    absurd (no_none t c.requires.topology j c.requires.run (member here hop) seen.has c.in-Link.port c.in-Link.address down
    (c.in_default.ensures ∙ ap (λ (p : Plan). goes p (record { at = here.at.0; port = c.in-Link.port; address = c.in-Link.address })) c.topology.ensures))

pub returns-in_default-their_id-clause-fault : goal.returns-in_default-their_id-clause-fault
returns-in_default-their_id-clause-fault g c = λ hop seen.
    let t = c.args.world.now.ledger.plan in
    let j = c.args.world.now.ledger.journal in
    let here = c.args.here.now in
    let down = down_of here.row hop (DownLink c.in-Link.port c.in-Link.address) seen.row_is c.in-Link.is in
    absurd (no_id t c.requires.topology j c.requires.run (member here hop) seen.has c.in-Link.port c.in-Link.address down
    (id_of here.row hop None seen.row_is c.in_default-their_id.is))

pub returns-in-End-clause-ok : goal.returns-in-End-clause-ok
returns-in-End-clause-ok g c = λ hop seen.
    ends hop c.in-End.config c.in-End.consume c.in-End.produce
    (sym (ap (λ (r : HopRow). r.down) seen.row_is) ∙ c.in-End.is)

pub returns-in-Some-2-clause-ok : goal.returns-in-Some-2-clause-ok
returns-in-Some-2-clause-ok g c = λ hop seen.
    let t = c.args.world.now.ledger.plan in
    let j = c.args.world.now.ledger.journal in
    let here = c.args.here.now in
    let there = c.in-Some.there in
    let way : Way = record { at = there.at.0; port = there.port; address = there.from.now } in
    let id = c.in-Some-their_id.id in
    let down = down_of here.row hop (DownLink c.in-Link.port c.in-Link.address) seen.row_is c.in-Link.is in
    let found = c.in-Some.ensures
    ∙ ap (λ (p : Plan). goes p (record { at = here.at.0; port = c.in-Link.port; address = c.in-Link.address })) c.topology.ensures in
    let next = row_of c.in-Some-2.row (looked_up t j there.at.0 (λ (hs : Hops). hop_by_up hs id there.port there.from.now))
    (sym c.in-Some-2.is ∙ c.in_ok-row-in-Link.ensures) in
    let step = next_found t c.requires.topology j c.requires.run (member here hop) seen.has c.in-Link.port c.in-Link.address down way found id
    (id_of here.row hop (Some id) seen.row_is c.in-Some-their_id.is) next.0 next.1 in
    (next.0, record { has = step.has; row_is = next.2 }, step)

pub returns-in-None-clause-fault : goal.returns-in-None-clause-fault
returns-in-None-clause-fault g c = λ hop seen.
    let t = c.args.world.now.ledger.plan in
    let j = c.args.world.now.ledger.journal in
    let here = c.args.here.now in
    let there = c.in-Some.there in
    let way : Way = record { at = there.at.0; port = there.port; address = there.from.now } in
    let id = c.in-Some-their_id.id in
    let down = down_of here.row hop (DownLink c.in-Link.port c.in-Link.address) seen.row_is c.in-Link.is in
    let found = c.in-Some.ensures
    ∙ ap (λ (p : Plan). goes p (record { at = here.at.0; port = c.in-Link.port; address = c.in-Link.address })) c.topology.ensures in
    next_none t c.requires.topology j c.requires.run (member here hop) seen.has c.in-Link.port c.in-Link.address down way found id
    (id_of here.row hop (Some id) seen.row_is c.in-Some-their_id.is)
    (no_row (looked_up t j there.at.0 (λ (hs : Hops). hop_by_up hs id there.port there.from.now)) (sym c.in-None.is ∙ c.in_ok-row-in-Link.ensures))
