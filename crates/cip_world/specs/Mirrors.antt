-- Hops that mirror one another on the two ends of a link.
use Rattle.std.specs.Prelude.{◌≡◌, ℕ, [], ◌∷◌, ◌⊎◌, Some}
use Rattle.std.specs.FinMap as map
use Rattle.cip_base.specs.declared.triad.Triad.{Triad}
use Rattle.cip_segment.specs.Reading.{HopAt, hop_of}
use Rattle.cip_hops.specs.declared.hop.Hop.{Hop}
use Rattle.cip_hops.specs.declared.hop.Held.TheVariants.{Open}
use Rattle.cip_hops.specs.declared.opening.HopUp.TheVariants.{Link as UpLink}
use Rattle.cip_config.specs.declared.config.ModuleSettings.{ModuleSettings}
use Rattle.cip_chassis.specs.Plan.{Plan}
use Rattle.cip_chassis.specs.Nodes.{Way, across}
use Rattle.cip_world.specs.Journals.{Journal}
use Rattle.cip_world.specs.Runs.{IsModule, state_in}

-- a journal as it was at an earlier moment, or is
abbrev pub IsOlder : Journal → Journal → Type 0
IsOlder k [] = k ≡ []
IsOlder k (e ∷ j) = (k ≡ e ∷ j) ⊎ IsOlder k j

-- Hop g mirrors hop h, whose frames come in by this way: the same triad, the port and the address
-- of the way, g's own up id is the O→T id that
-- h has from there, and g sends under h's own down id. Its path is what h's has left behind its
-- first hop, and the sizes and the class are h's.
pub record Mirrors (there : Way) (h g : Hop) : Type 0 where
  pub own : ℕ
  pub own_is : h.ids.down ≡ Some own
  pub triad_is : g.opening.triad ≡ h.opening.triad
  pub up_is : g.opening.up ≡ UpLink there.port there.address own
  pub id_is : g.ids.up ≡ h.their_id
  pub first : HopAt
  pub first_is : hop_of h.opening.path ≡ Some first
  pub path_is : g.opening.path ≡ first.rest
  pub ot_size_is : g.opening.ot_size ≡ h.opening.ot_size
  pub to_size_is : g.opening.to_size ≡ h.opening.to_size
  pub class_is : g.opening.class ≡ h.opening.class

-- where the frames of a hop go there is a module, and whatever hop it has at any moment under the
-- id that the hop names mirrors the hop
pub record IsMirrored (t : Plan) (j : Journal) (out : Way) (h : Hop) : Type 0 where
  pub there : Way
  pub across : across t out ≡ Some there
  pub config : ModuleSettings
  pub is_module : IsModule t there.at config
  pub id : ℕ
  pub their_is : h.their_id ≡ Some id
  pub only : (k : Journal) → IsOlder k j → (q : Triad) (g : Hop)
      → map.get (state_in config there.at k).hops.held q ≡ Some (Open g) → g.ids.up ≡ Some id
      → Mirrors there h g
