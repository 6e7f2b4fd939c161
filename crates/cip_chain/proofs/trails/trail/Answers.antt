use Rattle.std.proofs.Common.{◌≡◌, ℕ, List, Vec, Global, Result, Ok, Err, sym, subst, reverse}
use Rattle.std.specs.Prelude.{IfOk}
use Rattle.cip_base.specs.declared.memory.NoMemory.{NoMemory}
use Rattle.cip_chassis.specs.Plan.{Plan}
use Rattle.cip_world.specs.Journals.{Journal}
use Rattle.cip_world.specs.TrailTells.{TrailTells}
use Rattle.cip_world.specs.Trails.{trail_of}
use Rattle.cip_world.proofs.Chassis.{chassis}
use Rattle.cip_world.proofs.DonesTell.{tells}
use Rattle.cip_world.proofs.RepliesTell.{replies_tell}
use Rattle.cip_chain.proofs.trails.trail.Goals as goal

tells_if : (t : Plan) (j : Journal) (m op : ℕ) (r : Result (Vec ℕ Global) NoMemory) → TrailTells t j m op (trail_of j m op)
    → IfOk r (λ v. v.items ≡ trail_of j m op) → IfOk r (λ v. TrailTells t j m op v.items)
tells_if t j m op (Ok v) all is = subst (λ (ks : List ℕ). TrailTells t j m op ks) (sym is) all
tells_if t j m op (Err refused) all is = tt

pub returns-clause-tells : goal.returns-clause-tells
returns-clause-tells c = λ t is run.
    let j = reverse c.args.journal.now in
    tells_if t j c.args.at.0 c.args.op c.walk.result (tells (chassis t is) j run c.args.at.0 c.args.op) c.walk.ensures

pub returns-clause-replies : goal.returns-clause-replies
returns-clause-replies c = λ t is run. replies_tell (chassis t is) (reverse c.args.journal.now) run
