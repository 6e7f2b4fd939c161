-- After a reset a module is as it was made, in its next incarnation, and nothing that was drawn before stands there any more.
use Rattle.std.proofs.Common.{◌≡◌, ℕ, ◌+◌, ◌≤◌, ◌<◌, Bool, true, false, cond, List, [], ◌∷◌, ◌++◌, length, Option, Some, None, refl, sym, ap, subst, ◌∙◌, inl}
use Rattle.std.proofs.Common.{inr, arith, eqb, leb}
use Rattle.std.specs.FinMap as map
use Rattle.std.specs.Option.{option_and_then, option_map_or}
use Rattle.std.specs.Ordering.{nat_cmp}
use Rattle.std.specs.Prelude.{IsSomeAnd, option_map}
use Rattle.std.proofs.lemmas.Bool.{and_parts, cond_both, eq-eqb, eqb-true, leb-true, leb-false}
use Rattle.cip_base.specs.Counts.{reborn}
use Rattle.cip_base.specs.Triads.{triad_cmp}
use Rattle.cip_base.specs.declared.triad.Triad.{Triad}
use Rattle.cip_segment.specs.Reading.{segments_of}
use Rattle.cip_message.specs.Request.{Request}
use Rattle.cip_open.specs.Open.{Open as OpenRequest}
use Rattle.cip_pending.specs.declared.entry.Entry.{Entry}
use Rattle.cip_pending.specs.Kinds.{opened_triad}
use Rattle.cip_hops.specs.declared.opening.OwnIds.{OwnIds}
use Rattle.cip_hops.specs.declared.hop.Hop.{Hop}
use Rattle.cip_hops.specs.declared.hop.Held.{Held}
use Rattle.cip_hops.specs.declared.hop.Held.TheVariants.{Opening as IsOpening, Open}
use Rattle.cip_hops.specs.Sides.{own_ids, up_is, down_is}
use Rattle.cip_hops.specs.Hops.{Hops, as_hop, ids_of, is_id, hop_at, hop_by_up, hop_by_down, is_hop_by_up, is_hop_by_down, open_in, finished, begun, change_in}
use Rattle.cip_hops.specs.Hops.{changed, touched, counted}
use Rattle.cip_target.specs.ApplicationPath.{Application, application_of}
use Rattle.cip_target.specs.Assemblies.{AssemblyMap, size_in, zeroed, configs_in}
use Rattle.cip_target.specs.declared.config.AssemblyConfig.{AssemblyConfig}
use Rattle.cip_target.specs.declared.link.EndLink.{EndLink}
use Rattle.cip_target.specs.Ends.{Ends, configured, configuration_of}
use Rattle.cip_target.proofs.Fitting.{FitsWith, fits_row}
use Rattle.cip_target.proofs.Resets.{reset_again, reset_sizes}
use Rattle.cip_target.proofs.Sizes.{put_sizes, written_sizes, answered_sizes}
use Rattle.cip_config.specs.declared.config.ModuleSettings.{ModuleSettings}
use Rattle.cip_event.specs.declared.event.Body.TheVariants as bodies
use Rattle.cip_event.specs.declared.event.Output.TheVariants as outputs
use Rattle.cip_routing.specs.Effects.{Effect, Answers, Begins, Accepts, Finishes, Takes, PendingTimesOut, Removes, HopTimesOut, Renews, Counts, Writes, resets}
use Rattle.cip_routing.specs.Effects.{answered_state, abandoned, abandoned_if, removed, given_up, overwritten, apply, output_of, applied, outputs_of}
use Rattle.cip_routing.specs.Resets.{reset_state}
use Rattle.cip_routing.specs.State.{State, spent_with}
use Rattle.cip_routing.specs.Table.{with_spending}
use Rattle.cip_pending.specs.declared.entry.UpSide.{UpSide}
use Rattle.cip_pending.specs.declared.entry.UpSide.TheVariants.{Link, Local}
use Rattle.cip_routing.proofs.Found.{found_own}
use Rattle.cip_routing.proofs.Removed.{open_at}
use Rattle.cip_laws.specs.Births.{HasId}
use Rattle.cip_laws.specs.Histories.{Turn, state_after, IsHistory}
use Rattle.cip_laws.specs.Resets.{ResetIn, made_again}
use Rattle.cip_laws.specs.Tells.{Tells}
use Rattle.cip_laws.specs.Turns.{Has}
use Rattle.cip_laws.specs.Weights.{mark, is_request, weight_in}
use Rattle.cip_laws.proofs.Births.{own_range}
use Rattle.cip_laws.proofs.Numbers.{undrawn, numbers_each, mark_small, mark_one, mark_none}
use Rattle.cip_laws.proofs.Puts.{pending_cases}
use Rattle.cip_laws.proofs.Rises.{numbers_after, ids_after}
use Rattle.cip_laws.proofs.Stands.{same_ids, HeldCase, Stands, Begun, Ended, Finished, held_cases}
use Rattle.cip_laws.proofs.Triads.{own_triads}
use Rattle.cip_laws.proofs.Turns.{Turned, newest, by_turn}
use Rattle.cip_laws.proofs.Weighing.{weight_in-append, weight_has}

-- ---- the rooms stay

finished_room : (h : Hops) (triad : Triad) (id now : ℕ) → (finished h triad id now).room ≡ h.room
finished_room h triad id now =
    elim (map.get h.held triad) as (λ (x : Option Held). (open_in h triad id now x).room ≡ h.room) [
      | None ↦ refl
      | Some (IsOpening o ids) ↦ refl
      | Some (Open hop) ↦ refl
    ]

changed_room : (h : Hops) (triad : Triad) (change : Hop → Hop) → (changed h triad change).room ≡ h.room
changed_room h triad change =
    elim (option_and_then as_hop (map.get h.held triad)) as (λ (x : Option Hop). (change_in h triad change x).room ≡ h.room) [
      | None ↦ refl
      | Some hop ↦ refl
    ]

abandoned_room : (h : Hops) (triad : Triad) → (abandoned h triad).room ≡ h.room
abandoned_room h triad = cond_both _ _ _ (λ (k : Hops). k.room ≡ h.room) (λ t. refl) (λ t. refl)

removed_room : (h : Hops) (triad : Triad) → (removed h triad).room ≡ h.room
removed_room h triad = cond_both _ _ _ (λ (k : Hops). k.room ≡ h.room) (λ t. refl) (λ t. refl)

given_room : (h : Hops) (p : Option Entry) → (given_up p h).room ≡ h.room
given_room h None = refl
given_room h (Some p) = elim (opened_triad p.kind) as (λ (opened : Option Triad). (abandoned_if opened h).room ≡ h.room) [
  | None ↦ refl
  | Some triad ↦ abandoned_room h triad
]

answered_hops : (config : ModuleSettings) (s : State) (asked : Request) (b : Bool) → (answered_state b config s asked).hops.room ≡ s.hops.room
answered_hops config s asked true = refl
answered_hops config s asked false = refl

answered_pendings : (config : ModuleSettings) (s : State) (asked : Request) (b : Bool) → (answered_state b config s asked).pendings.room ≡ s.pendings.room
answered_pendings config s asked true = refl
answered_pendings config s asked false = refl

hops_room : (config : ModuleSettings) (s : State) (e : Effect) → (apply config s e).hops.room ≡ s.hops.room
hops_room config s (Answers up asked) = answered_hops config s asked (resets config s asked)
hops_room config s (Begins sending opening) = refl
hops_room config s (Accepts opening open_ link) = finished_room (begun s.hops opening) opening.triad 0 s.now
hops_room config s (Finishes number triad bytes success) = finished_room s.hops triad success.ot_id s.now
hops_room config s (Takes number bytes) = given_room s.hops (map.get s.pendings.entries number)
hops_room config s (PendingTimesOut number) = given_room s.hops (map.get s.pendings.entries number)
hops_room config s (Removes triad) = removed_room s.hops triad
hops_room config s (HopTimesOut triad) = removed_room s.hops triad
hops_room config s (Renews triad side) =
    cond_both _ _ _ (λ (k : Hops). k.room ≡ s.hops.room) (λ t. changed_room s.hops triad (touched side s.now)) (λ t. refl)
hops_room config s (Counts triad side count) =
    cond_both _ _ _ (λ (k : Hops). k.room ≡ s.hops.room) (λ t. changed_room s.hops triad (counted side count)) (λ t. refl)
hops_room config s e = refl

pendings_room : (config : ModuleSettings) (s : State) (e : Effect) → (apply config s e).pendings.room ≡ s.pendings.room
pendings_room config s (Answers up asked) = answered_pendings config s asked (resets config s asked)
pendings_room config s e = refl

-- ---- the sizes of the assemblies stay

abbrev AreSized : List AssemblyConfig → AssemblyMap → Type 0
AreSized configs m = (i : ℕ) → size_in m i ≡ size_in (zeroed configs) i

abbrev with_nobody : ModuleSettings → AssemblyMap → Ends
with_nobody config m = record { objects = record { identity = config.identity; assemblies = m }; owners = map.empty }

answered_same : (config : ModuleSettings) (s : State) (asked : Request) (b : Bool) → AreSized config.assemblies s.assemblies
    → AreSized config.assemblies (answered_state b config s asked).assemblies
answered_same config s asked true h i = reset_sizes s.assemblies i ∙ h i
answered_same config s asked false h i = answered_sizes (with_nobody config s.assemblies) config.assemblies asked h i

-- what fits an assembly fits one of the same size
fits_same : (m old : AssemblyMap) (j : ℕ) (b : List ℕ) → size_in m j ≡ size_in old j → IsSomeAnd (map.get old j) (λ held. length held ≤ length b)
    → IsSomeAnd (map.get m j) (λ held. length held ≤ length b)
fits_same m old j b same fits =
    elim (map.get m j) as (λ (x : Option (List ℕ)). option_map length x ≡ size_in old j → IsSomeAnd x (λ held. length held ≤ length b)) [
      | None ↦ λ e. elim (map.get old j) as (λ (y : Option (List ℕ)). None ≡ option_map length y → IsSomeAnd y (λ held. length held ≤ length b)
          → ⊥) [
            | None ↦ λ n f. f
            | Some held ↦ λ n f. cc
          ] e fits
      | Some x ↦ λ e. elim (map.get old j) as (λ (y : Option (List ℕ)). Some (length x) ≡ option_map length y
          → IsSomeAnd y (λ held. length held ≤ length b) → length x ≤ length b) [
            | None ↦ λ n f. absurd f
            | Some held ↦ λ n f. let l : length x ≡ length held = cc in omega (arith, l, f)
          ] e fits
    ] same

configured_same : (m old : AssemblyMap) (o : OpenRequest) (link : EndLink) (a : Option Application) → application_of (segments_of o.path) ≡ a
    → FitsWith old link a → ((i : ℕ) → size_in m i ≡ size_in old i) → (j : ℕ) → size_in (configured m o link) j ≡ size_in m j
configured_same m old o link None e fits same j = absurd fits
configured_same m old o link (Some a) e fits same j =
    let is : configuration_of o ≡ a.bytes = ap (λ (p : Option Application). option_map_or (λ a. a.bytes) p []) e in
    written_sizes m link.config (configuration_of o)
    (fits_same m old link.config (configuration_of o) (same link.config)
    (subst (λ (b : List ℕ). IsSomeAnd (map.get old link.config) (λ held. length held ≤ length b)) (sym is) fits)) j

overwritten_same : (m : AssemblyMap) (i : ℕ) (b : List ℕ) (j : ℕ) → size_in (overwritten m i b) j ≡ size_in m j
overwritten_same m i b j =
    elim (map.get m i) as (λ (x : Option (List ℕ)). map.get m i ≡ x
    → size_in (cond (option_map_or (λ size. eqb size (length b)) (option_map length x) false) (map.insert m i b) m) j ≡ size_in m j) [
      | None ↦ λ at. refl
      | Some held ↦ λ at. elim (eqb (length held) (length b)) as (λ (c : Bool). eqb (length held) (length b) ≡ c
          → size_in (cond c (map.insert m i b) m) j ≡ size_in m j) [
            | true ↦ λ t.
                let l : length held ≡ length b = eqb-true (length held) (length b) t in
                put_sizes m i b (subst (λ (x : Option (List ℕ)). IsSomeAnd x (λ held. length b ≡ length held)) (sym at) (sym l)) j
            | false ↦ λ t. refl
          ] refl
    ] refl

sized_after : (config : ModuleSettings) (s0 s : State) (turn : Turn) (e : Effect) → AreSized config.assemblies s0.assemblies
    → Tells config s0 turn.event e → AreSized config.assemblies s.assemblies → AreSized config.assemblies (apply config s e).assemblies
sized_after config s0 s turn (Answers up asked) first tells h i = answered_same config s asked (resets config s asked) h i
sized_after config s0 s turn (Accepts opening o link) first tells h i =
    configured_same s.assemblies s0.assemblies o link (application_of (segments_of o.path)) refl (fits_row s0.assemblies _ o link tells.fits)
    (λ j. h j ∙ sym (first j)) i ∙ h i
sized_after config s0 s turn (Writes instance bytes) first tells h i = overwritten_same s.assemblies instance bytes i ∙ h i
sized_after config s0 s turn e first tells h i = h i

-- ---- a history keeps both

record Made (config : ModuleSettings) (s : State) : Type 0 where
  pendings : s.pendings.room ≡ config.pending_room
  hops : s.hops.room ≡ config.hop_room
  sized : AreSized config.assemblies s.assemblies

made_stays : (config : ModuleSettings) (turns : List Turn) → IsHistory config turns → Made config (state_after config turns)
made_stays config [] h = record { pendings = refl; hops = refl; sized = λ i. refl }
made_stays config (turn ∷ turns) h =
    let before = made_stays config turns h.0 in
    by_turn config (state_after config turns) turn.event (λ s outs. Made config s)
    (λ s outs e tells old. record {
      pendings = pendings_room config s e ∙ old.pendings;
      hops = hops_room config s e ∙ old.hops;
      sized = sized_after config (state_after config turns) s turn e before.sized tells old.sized;
    })
    (state_after config (turn ∷ turns)) turn.outputs (newest config turn turns h) before

-- ---- the turn of a reset

cleared : (config : ModuleSettings) (m : AssemblyMap) → AreSized config.assemblies m → zeroed (configs_in m) ≡ zeroed config.assemblies
cleared config m sized = ap (λ (t : Ends). t.objects.assemblies) (reset_again (with_nobody config m) config.assemblies sized)

-- a frame uses no op up
abbrev no_op : UpSide
no_op = Link 0 [] 0

state_is : (config : ModuleSettings) (s : State) → Made config s → reset_state s ≡ made_again config no_op s
state_is config s made = let bytes = cleared config s.assemblies made.sized in let p = made.pendings in let h = made.hops in cc

effects_are : (config : ModuleSettings) (turns : List Turn) (turn : Turn) (r : ResetIn config turns turn)
    (now : Turned config (state_after config turns) turn.event (state_after config (turn ∷ turns)) turn.outputs)
    → now.effects ≡ with_spending r.up (Answers r.up r.request ∷ [])
effects_are config turns turn r now =
    let both : Some now.effects ≡ Some (with_spending r.up (Answers r.up r.request ∷ [])) = sym now.decided ∙ r.decided in cc

spent : (config : ModuleSettings) (s : State) (op : ℕ) → Made config s → Made config (record s { ops = spent_with op s.ops })
spent config s op made = record { pendings = made.pendings; hops = made.hops; sized = made.sized }

by_up : (config : ModuleSettings) (s : State) (up : UpSide) (asked : Request) → Made config s → resets config s asked ≡ true
    → applied config s (with_spending up (Answers up asked ∷ [])) ≡ made_again config up s
by_up config s (Link port address number) asked made read = ap (λ (b : Bool). answered_state b config s asked) read ∙ state_is config s made
by_up config s (Local op) asked made read =
    ap (λ (b : Bool). answered_state b config (record s { ops = spent_with op s.ops }) asked) read
    ∙ state_is config (record s { ops = spent_with op s.ops }) (spent config s op made)

-- it is as it was made, in its next incarnation
pub reset_makes_again : (config : ModuleSettings) (turn : Turn) (turns : List Turn) → IsHistory config (turn ∷ turns) → (r : ResetIn config turns turn)
    → state_after config (turn ∷ turns) ≡ made_again config r.up (state_after config turns)
reset_makes_again config turn turns h r =
    let now = newest config turn turns h in
    let s = state_after config turns in
    sym now.state
    ∙ ap (applied config s) (effects_are config turns turn r now)
    ∙ by_up config s r.up r.request (made_stays config turns h.0) r.read

-- ---- what stands has a number or an id of the incarnation that it was drawn in

abbrev AreFrom : ℕ → State → Type 0
AreFrom low s = (low ≤ s.pendings.next) × ((n : ℕ) (p : Entry) → map.get s.pendings.entries n ≡ Some p → low ≤ n)

from_after : (config : ModuleSettings) (low : ℕ) (s : State) (e : Effect) → AreFrom low s → AreFrom low (apply config s e)
from_after config low s e h =
    let next = numbers_after config s (e ∷ []) in
    let first = h.0 in (
      omega (arith, next, first),
      λ n p at. elim (pending_cases config s e n p at) [
        | inl old ↦ h.1 n p old
        | inr new ↦ let is = new.0 in omega (arith, is, first)
      ],
    )

from_turns : (config : ModuleSettings) (low : ℕ) (later before : List Turn) → IsHistory config (later ++ before) → AreFrom low (state_after config before)
    → AreFrom low (state_after config (later ++ before))
from_turns config low [] before h from = from
from_turns config low (turn ∷ later) before h from =
    by_turn config (state_after config (later ++ before)) turn.event (λ s outs. AreFrom low s)
    (λ s outs e tells old. from_after config low s e old)
    (state_after config (turn ∷ later ++ before)) turn.outputs (newest config turn (later ++ before) h) (from_turns config low later before h.0 from)

abbrev HaveIdsFrom : ℕ → State → Type 0
HaveIdsFrom low s = (low ≤ s.hops.next) × ((q : Triad) (x : Held) (id : ℕ) → map.get s.hops.held q ≡ Some x → HasId (ids_of x) id → low ≤ id)

as_ids : (ids own : OwnIds) (id : ℕ) → ids ≡ own → HasId ids id → HasId own id
as_ids ids own id e h = subst (λ (i : OwnIds). HasId i id) e h

ids_from_after : (config : ModuleSettings) (low : ℕ) (s : State) (e : Effect) → HaveIdsFrom low s → HaveIdsFrom low (apply config s e)
ids_from_after config low s e h =
    let next = ids_after config s (e ∷ []) in
    let first = h.0 in
    (omega (arith, next, first), λ q x id at has. by_case q x id has (held_cases config s e q x at))
  where
    by_case : (q : Triad) (x : Held) (id : ℕ) → HasId (ids_of x) id → HeldCase s e q x → low ≤ id
    by_case q x id has (Stands stood) = h.1 q stood.old id stood.at (as_ids (ids_of x) (ids_of stood.old) id (sym (same_ids stood.old x stood.core)) has)
    by_case q x id has (Begun sending opening effect_is triad_is held_is) =
        let range = own_range s.hops.next id opening (as_ids (ids_of x) (own_ids s.hops.next opening) id (ap ids_of held_is) has) in
        let from = range.0 in let first = h.0 in omega (arith, from, first)
    by_case q x id has (Ended opening o link effect_is triad_is held_is) =
        let range = own_range s.hops.next id opening (as_ids (ids_of x) (own_ids s.hops.next opening) id (ap ids_of held_is) has) in
        let from = range.0 in let first = h.0 in omega (arith, from, first)
    by_case q x id has (Finished by) = h.1 q (IsOpening by.opening by.ids) id by.was (as_ids (ids_of x) by.ids id (ap ids_of by.is) has)

ids_from_turns : (config : ModuleSettings) (low : ℕ) (later before : List Turn) → IsHistory config (later ++ before)
    → HaveIdsFrom low (state_after config before) → HaveIdsFrom low (state_after config (later ++ before))
ids_from_turns config low [] before h from = from
ids_from_turns config low (turn ∷ later) before h from =
    by_turn config (state_after config (later ++ before)) turn.event (λ s outs. HaveIdsFrom low s)
    (λ s outs e tells old. ids_from_after config low s e old)
    (state_after config (turn ∷ later ++ before)) turn.outputs (newest config turn (later ++ before) h) (ids_from_turns config low later before h.0 from)

-- ---- after a reset

earlier : (config : ModuleSettings) (later before : List Turn) → IsHistory config (later ++ before) → IsHistory config before
earlier config [] before h = h
earlier config (turn ∷ later) before h = earlier config later before h.0

module _ (config : ModuleSettings) (later before : List Turn) (turn : Turn) (h : IsHistory config (later ++ (turn ∷ before))) (r : ResetIn config before turn)
  where
    abbrev at_reset : State
    at_reset = state_after config before

    abbrev there : State
    there = state_after config (later ++ (turn ∷ before))

    made : state_after config (turn ∷ before) ≡ made_again config r.up at_reset
    made = reset_makes_again config turn before (earlier config later (turn ∷ before) h) r

    from_reset : AreFrom (reborn at_reset.pendings.next) there
    from_reset =
        from_turns config (reborn at_reset.pendings.next) later (turn ∷ before) h
        (subst (λ (s : State). AreFrom (reborn at_reset.pendings.next) s) (sym made)
        (omega arith, λ n p at. let none : None ≡ Some p = sym (map.get-empty {X = Entry} nat_cmp n) ∙ at in absurd (cc)))

    ids_from_reset : HaveIdsFrom (reborn at_reset.hops.next) there
    ids_from_reset =
        ids_from_turns config (reborn at_reset.hops.next) later (turn ∷ before) h
        (subst (λ (s : State). HaveIdsFrom (reborn at_reset.hops.next) s) (sym made)
        (omega arith, λ q x id at has. let none : None ≡ Some x = sym (map.get-empty {X = Held} triad_cmp q) ∙ at in absurd (cc)))

    -- numbers and ids that are drawn then are of a later incarnation
    pub numbers_from_reset : reborn at_reset.pendings.next ≤ there.pendings.next
    numbers_from_reset = from_reset.0

    pub ids_drawn_from_reset : reborn at_reset.hops.next ≤ there.hops.next
    ids_drawn_from_reset = ids_from_reset.0

    -- no request waits under a number from before it
    pub none_waits : (n : ℕ) → n < reborn at_reset.pendings.next → map.get there.pendings.entries n ≡ None
    none_waits n low =
        elim (map.get there.pendings.entries n) as (λ (x : Option Entry). map.get there.pendings.entries n ≡ x → x ≡ None) [
          | None ↦ λ at. refl
          | Some p ↦ λ at. let from = from_reset.1 n p at in absurd (omega (arith, from, low))
        ] refl

    has_id : (id : ℕ) (own : Option ℕ) → is_id id own ≡ true → own ≡ Some id
    has_id id None t = absurd (cc)
    has_id id (Some k) t = ap (λ (i : ℕ). Some i) (eqb-true k id t)

    no_hop : (o : Option Hop) (id : ℕ) → id < reborn at_reset.hops.next
        → ((hop : Hop) → o ≡ Some hop → (hop_at there.hops hop.opening.triad ≡ Some hop) × HasId hop.ids id) → o ≡ None
    no_hop None id low found = refl
    no_hop (Some hop) id low found =
        let f = found hop refl in
        let from = ids_from_reset.1 hop.opening.triad (Open hop) id (open_at there.hops hop.opening.triad hop f.0) f.1 in
        absurd (omega (arith, from, low))

    -- no connection goes by an id from before it
    pub none_by_up : (id port : ℕ) (from : List ℕ) → id < reborn at_reset.hops.next → hop_by_up there.hops id port from ≡ None
    none_by_up id port from low = no_hop (hop_by_up there.hops id port from) id low (λ hop e.
        let found = found_own (is_hop_by_up id port from) there.hops hop e (own_triads config (later ++ (turn ∷ before)) h) in
        (found.0, inl (has_id id hop.ids.up (and_parts (is_id id hop.ids.up) (up_is port from hop.opening.up) found.1).0)))

    pub none_by_down : (id port : ℕ) (from : List ℕ) → id < reborn at_reset.hops.next → hop_by_down there.hops id port from ≡ None
    none_by_down id port from low = no_hop (hop_by_down there.hops id port from) id low (λ hop e.
        let found = found_own (is_hop_by_down id port from) there.hops hop e (own_triads config (later ++ (turn ∷ before)) h) in
        (found.0, inr (has_id id hop.ids.down (and_parts (is_id id hop.ids.down) (down_is port from hop.opening.down) found.1).0)))

-- ---- the number of a request is drawn in its turn

sent_within : (config : ModuleSettings) (n : ℕ) (s : State) (es : List Effect)
    → weight_in (is_request n) (outputs_of config s es) + undrawn n (applied config s es) ≤ undrawn n s
sent_within config n s [] = omega arith
sent_within config n s (e ∷ es) =
    let join = weight_in-append (is_request n) (output_of config s e) (outputs_of config (apply config s e) es) in
    let here = numbers_each config n s e in
    let rest = sent_within config n (apply config s e) es in
    omega (arith, join, here, rest)

-- it is from the next before the turn on, and below the next after it
pub number_range : (config : ModuleSettings) (turn : Turn) (turns : List Turn) (port n : ℕ) (to bytes : List ℕ) → IsHistory config (turn ∷ turns)
    → Has turn.outputs (outputs.Send port to (bodies.Request n bytes))
    → ((state_after config turns).pendings.next ≤ n) × (n < (state_after config (turn ∷ turns)).pendings.next)
number_range config turn turns port n to bytes h has =
    let now = newest config turn turns h in
    let s = state_after config turns in
    let sum = sent_within config n s now.effects in
    let given : weight_in (is_request n) (outputs_of config s now.effects) ≡ weight_in (is_request n) turn.outputs = ap (weight_in (is_request n)) now.out in
    let left : undrawn n (applied config s now.effects) ≡ undrawn n (state_after config (turn ∷ turns)) = ap (undrawn n) now.state in
    let some = weight_has (is_request n) turn.outputs (outputs.Send port to (bodies.Request n bytes)) has in
    let one = ap mark (eq-eqb n n refl) in
    let small = mark_small (leb s.pendings.next n) in
    let from = leb-true s.pendings.next n (mark_one (leb s.pendings.next n) (omega (arith, sum, given, left, some, one))) in
    let to_ = leb-false (state_after config (turn ∷ turns)).pendings.next n
    (mark_none (leb (state_after config (turn ∷ turns)).pendings.next n) (omega (arith, sum, given, left, some, one, small))) in
    (from, omega (arith, to_))
