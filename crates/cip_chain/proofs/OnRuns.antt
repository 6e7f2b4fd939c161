-- What holds of the world's run, whatever is asked of it.
use Rattle.std.proofs.Common.{◌≡◌, ℕ, ◌≤◌, List, ◌∷◌, Some, ◌∙◌, length, subst, ap}
use Rattle.std.specs.FinMap as finite
use Rattle.cip_base.specs.declared.triad.Triad.{Triad}
use Rattle.cip_hops.specs.declared.hop.Held.TheVariants.{Open}
use Rattle.cip_hops.specs.declared.hop.Hop.{Hop}
use Rattle.cip_hops.specs.declared.opening.HopDown.TheVariants.{Link as DownLink}
use Rattle.cip_config.specs.declared.config.ModuleSettings.{ModuleSettings}
use Rattle.cip_chassis.specs.Plan.{Plan, IsTopology}
use Rattle.cip_world.specs.Chains.{Member, IsChain, last_of, AreDeliveries, AreKept, IsTakenBy}
use Rattle.cip_world.specs.Entering.{before_entry, IsEntered}
use Rattle.cip_world.specs.Journals.{Journal}
use Rattle.cip_world.specs.Mirrors.{IsOlder, IsMirrored}
use Rattle.cip_world.specs.Runs.{IsModule, IsRun, state_in}
use Rattle.cip_world.proofs.Carried.{carried}
use Rattle.cip_world.proofs.Chassis.{chassis}
use Rattle.cip_world.proofs.Mirrored.{mirrored}
use Rattle.cip_chain.specs.Found.{IsNotOpen}
use Rattle.cip_chain.proofs.Opened.{no_module}

pub all_mirrored : (t there : Plan) (j : Journal) → there ≡ t → IsTopology there → IsRun t j → (k : Journal) → IsOlder k j
    → (m : ℕ) (config : ModuleSettings) → IsModule t m config
    → (q : Triad) (h : Hop) (port : ℕ) (address : List ℕ) → finite.get (state_in config m k).hops.held q ≡ Some (Open h)
    → h.opening.down ≡ DownLink port address
    → IsMirrored t j (record { at = m; port = port; address = address }) h
all_mirrored t there j same topology run k older m config is q h port address at down =
    mirrored (chassis t (subst IsTopology same topology)) j k m config run is older q h port address at down

pub all_carried : (t there : Plan) (j : Journal) → there ≡ t → IsTopology there → IsRun t j → (entry m own : ℕ) (bytes : List ℕ) → IsEntered j entry m own bytes
    → (first : Member) (rest : List Member) → first.at ≡ m → IsChain t (before_entry j entry) own first rest → (ks : List ℕ) → AreDeliveries j entry ks
    → length ks ≡ length rest → AreKept t j entry (last_of entry ks) (first ∷ rest) → IsTakenBy j (last_of entry ks) (last_of first rest) bytes
all_carried t there j same topology run entry m own bytes e first rest at chain ks deliveries long kept =
    carried (chassis t (subst IsTopology same topology)) j entry m own bytes run e first rest at chain ks deliveries long kept

-- where the topology has no such module, nothing is open
pub past_all : (t there : Plan) (j : Journal) (m op : ℕ) → there ≡ t → (configs : List ModuleSettings) → configs ≡ there.modules → length configs ≤ m
    → IsNotOpen t j m op
past_all t there j m op same configs is past =
    no_module t j m op (subst (λ (cs : List ModuleSettings). length cs ≤ m) (is ∙ ap (λ (p : Plan). p.modules) same) past)
