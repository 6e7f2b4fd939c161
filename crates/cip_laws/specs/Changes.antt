-- Where what stands after an effect comes from: the requests that wait and the connections, the
-- numbers and the ids that it draws.
use Rattle.std.specs.Prelude.{◌≡◌, ℕ, ◌-◌, Bool, true, false, Option, Some, None}
use Rattle.std.specs.FinMap as map
use Rattle.cip_base.specs.Counts.{reborn}
use Rattle.cip_base.specs.Words.{Octets, RequestNumber}
use Rattle.cip_base.specs.declared.triad.Triad.{Triad}
use Rattle.cip_open.specs.Open.{Open as OpenRequest}
use Rattle.cip_open.specs.Success.{OpenSuccess}
use Rattle.cip_pending.specs.declared.entry.Entry.{Entry}
use Rattle.cip_hops.specs.declared.opening.Opening.{Opening}
use Rattle.cip_hops.specs.declared.opening.OwnIds.{OwnIds}
use Rattle.cip_hops.specs.declared.hop.Held.{Held}
use Rattle.cip_hops.specs.declared.hop.Held.TheVariants.{Opening as IsOpening, Open}
use Rattle.cip_hops.specs.Sides.{own_ids, ids_drawn}
use Rattle.cip_hops.specs.Hops.{Hops, opened}
use Rattle.cip_target.specs.declared.link.EndLink.{EndLink}
use Rattle.cip_config.specs.declared.config.ModuleSettings.{ModuleSettings}
use Rattle.cip_routing.specs.Effects.{Sending, Effect, Answers, resets, Forwards, Begins, Accepts, Finishes, entry_for, kind_for}
use Rattle.cip_routing.specs.State.{State}

-- ---- the requests that wait

-- the request that an effect puts among those that wait
abbrev pub puts : State → Effect → Option Entry
puts s (Forwards sending kind) = Some (entry_for s sending kind)
puts s (Begins sending opening) = Some (entry_for s sending (kind_for opening))
puts s e = None

-- what comes next is raised so far by a reset, if it happens
abbrev pub passed_over : Bool → ℕ → ℕ
passed_over true next = reborn next - next
passed_over false next = 0

abbrev pub numbers_drawn : ModuleSettings → State → Effect → ℕ
numbers_drawn config s (Answers up asked) = passed_over (resets config s asked) s.pendings.next
numbers_drawn config s (Forwards sending kind) = 1
numbers_drawn config s (Begins sending opening) = 1
numbers_drawn config s e = 0

-- ---- the connections

abbrev pub drawn_ids : ModuleSettings → State → Effect → ℕ
drawn_ids config s (Answers up asked) = passed_over (resets config s asked) s.hops.next
drawn_ids config s (Begins sending opening) = ids_drawn opening
drawn_ids config s (Accepts opening o link) = ids_drawn opening
drawn_ids config s e = 0

-- what never changes: what was opened, the own ids, and of a connection that is open the other's id
abbrev pub SameCore : Held → Held → Type 0
SameCore (IsOpening o ids) (IsOpening p own) = (o ≡ p) × (ids ≡ own)
SameCore (IsOpening o ids) (Open hop) = ⊥
SameCore (Open hop) (IsOpening o ids) = ⊥
SameCore (Open g) (Open h) =
    (g.opening ≡ h.opening) × (g.ids ≡ h.ids) × (g.their_id ≡ h.their_id)

-- it stood before under that triad
pub record Stood (h : Hops) (q : Triad) (x : Held) : Type 0 where
  pub old : Held
  pub at : map.get h.held q ≡ Some old
  pub core : SameCore old x

-- what was opening under the triad of a reply, and is open
pub record OpenedBy (s : State) (e : Effect) (q : Triad) (x : Held) : Type 0 where
  pub number : RequestNumber
  pub bytes : Octets
  pub success : OpenSuccess
  pub effect_is : e ≡ Finishes number q bytes success
  pub opening : Opening
  pub ids : OwnIds
  pub was : map.get s.hops.held q ≡ Some (IsOpening opening ids)
  pub is : x ≡ Open (opened opening ids success.ot_id s.now)

-- it stood before, begins, ends here, or was opening
pub data HeldCase (s : State) (e : Effect) (q : Triad) (x : Held) : Type 0 where
  Stands : Stood s.hops q x → HeldCase s e q x
  Begun : (sending : Sending) (opening : Opening) → e ≡ Begins sending opening
      → q ≡ opening.triad → x ≡ IsOpening opening (own_ids s.hops.next opening) → HeldCase s e q x
  Ended : (opening : Opening) (o : OpenRequest) (link : EndLink) → e ≡ Accepts opening o link
      → q ≡ opening.triad → x ≡ Open (opened opening (own_ids s.hops.next opening) 0 s.now)
      → HeldCase s e q x
  Finished : OpenedBy s e q x → HeldCase s e q x
