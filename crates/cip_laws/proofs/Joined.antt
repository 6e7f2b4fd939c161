-- Each request that opens a connection waits beside what it opens: both are of one turn, in which the request was sent.
use Rattle.std.proofs.Common.{◌≡◌, ℕ, Bool, true, false, cond, List, [], ◌∷◌, ◌++◌, Option, Some, None, refl, sym, ap, subst, ◌∙◌, ◌⊎◌, inl, inr}
use Rattle.std.specs.FinMap as map
use Rattle.std.specs.Cmp.{nat_cmp_total}
use Rattle.std.specs.Ordering.{nat_cmp}
use Rattle.std.specs.Prelude.{is_some}
use Rattle.std.specs.Option.{option_map_or}
use Rattle.std.proofs.lemmas.Bool.{cond_both}
use Rattle.cip_base.specs.declared.triad.Triad.{Triad}
use Rattle.cip_base.proofs.Triads.{triads_total}
use Rattle.cip_hops.proofs.Steps.{triads_apart}
use Rattle.cip_pending.specs.declared.entry.Entry.{Entry}
use Rattle.cip_pending.specs.declared.entry.Kind.{Kind}
use Rattle.cip_pending.specs.Kinds.{opened_triad}
use Rattle.cip_hops.specs.declared.opening.Opening.{Opening}
use Rattle.cip_hops.specs.declared.opening.OwnIds.{OwnIds}
use Rattle.cip_hops.specs.declared.hop.Hop.{Hop}
use Rattle.cip_hops.specs.declared.hop.Held.{Held}
use Rattle.cip_hops.specs.declared.hop.Held.TheVariants.{Opening as IsOpening, Open}
use Rattle.cip_hops.specs.Sides.{own_ids}
use Rattle.cip_hops.specs.Hops.{Hops, opening_at, hop_at, open_in, opened, finished, begun, without, change_in, changed, is_link, touched, counted}
use Rattle.cip_open.specs.Open.{Open as OpenRequest}
use Rattle.cip_open.specs.Success.{OpenSuccess}
use Rattle.cip_target.specs.declared.link.EndLink.{EndLink}
use Rattle.cip_laws.specs.EffectLists.{IsStill}
use Rattle.cip_config.specs.declared.config.ModuleSettings.{ModuleSettings}
use Rattle.cip_event.specs.declared.event.Body.TheVariants as bodies
use Rattle.cip_event.specs.declared.event.Event.{Event}
use Rattle.cip_event.specs.declared.event.Output.{Output}
use Rattle.cip_event.specs.declared.event.Output.TheVariants as outputs
use Rattle.cip_routing.specs.Effects.{Sending, Effect, Forwards, Begins, Accepts, Finishes, Takes, PendingTimesOut, Removes, HopTimesOut, Renews, Counts}
use Rattle.cip_routing.specs.Effects.{entry_for, kind_for, abandoned, abandoned_if, removed, given_up, ends_here, apply, output_of, applied, outputs_of}
use Rattle.cip_routing.specs.Effects.{Answers}
use Rattle.cip_routing.specs.Effects.{resets, answered_state}
use Rattle.cip_routing.specs.State.{State}
use Rattle.cip_laws.specs.Tells.{Tells, ForwardsAs, BeginsAs, AcceptsAs, FinishesAs, SentOn, ClosedOn}
use Rattle.cip_routing.proofs.Opens.{opens_for}
use Rattle.cip_routing.proofs.Fits.{numbers_apart}
use Rattle.cip_base.proofs.Points.{put_here, put_apart, gone_apart}
use Rattle.cip_routing.proofs.Removed.{open_at}
use Rattle.cip_laws.proofs.TellsAskers.{begins_asker, open_asker}
use Rattle.cip_routing.proofs.Waiting.{waits_at}
use Rattle.cip_laws.specs.Births.{Past}
use Rattle.cip_laws.specs.Histories.{Turn, state_after, IsHistory}
use Rattle.cip_laws.specs.Turns.{Has}
use Rattle.cip_laws.proofs.Asking.{has_left, has_right}
use Rattle.cip_base.proofs.MapCases.{remove_cases}
use Rattle.cip_laws.proofs.Puts.{puts, pending_cases}
use Rattle.cip_laws.proofs.Quiet.{alone, reply_alone}
use Rattle.cip_laws.proofs.Turns.{Turned, newest, by_places, outputs-append}
pub use Rattle.cip_laws.specs.Openings.{OpenSent, SentIn, Opens, Joined}
use Rattle.cip_message.specs.Request.{Request}

-- ---- what is opening stays so

opening_apart : (h : Hops) (k q : Triad) (hop : Hop) (o : Opening) (ids : OwnIds) → hop_at h k ≡ Some hop → map.get h.held q ≡ Some (IsOpening o ids) → q ≡ k
    → ⊥
opening_apart h k q hop o ids e at same =
    let both : Some (IsOpening o ids) ≡ Some (Open hop) = sym at ∙ ap (map.get h.held) same ∙ open_at h k hop e in cc

removed_opening : (h : Hops) (k q : Triad) (o : Opening) (ids : OwnIds) → map.get h.held q ≡ Some (IsOpening o ids)
    → map.get (removed h k).held q ≡ Some (IsOpening o ids)
removed_opening h k q o ids at =
    elim (hop_at h k) as (λ (x : Option Hop). hop_at h k ≡ x → map.get (cond (is_some x) (without h k) h).held q ≡ Some (IsOpening o ids)) [
      | None ↦ λ e. at
      | Some hop ↦ λ e. gone_apart triads_total triads_apart h.held k q (opening_apart h k q hop o ids e at) ∙ at
    ] refl

changed_opening : (h : Hops) (k q : Triad) (change : Hop → Hop) (o : Opening) (ids : OwnIds) → map.get h.held q ≡ Some (IsOpening o ids)
    → map.get (changed h k change).held q ≡ Some (IsOpening o ids)
changed_opening h k q change o ids at =
    elim (hop_at h k) as (λ (x : Option Hop). hop_at h k ≡ x → map.get (change_in h k change x).held q ≡ Some (IsOpening o ids)) [
      | None ↦ λ e. at
      | Some hop ↦ λ e. put_apart triads_total triads_apart h.held k (Open (change hop)) q (opening_apart h k q hop o ids e at) ∙ at
    ] refl

if_opening : (b : Bool) (g h : Hops) (q : Triad) (o : Opening) (ids : OwnIds) → map.get g.held q ≡ Some (IsOpening o ids)
    → map.get h.held q ≡ Some (IsOpening o ids) → map.get (cond b g h).held q ≡ Some (IsOpening o ids)
if_opening true g h q o ids a b = a
if_opening false g h q o ids a b = b

finished_apart : (h : Hops) (k q : Triad) (id now : ℕ) → (q ≡ k → ⊥) → map.get (finished h k id now).held q ≡ map.get h.held q
finished_apart h k q id now apart =
    elim (map.get h.held k) as (λ (x : Option Held). map.get (open_in h k id now x).held q ≡ map.get h.held q) [
      | None ↦ refl
      | Some (IsOpening o ids) ↦ put_apart triads_total triads_apart h.held k (Open (opened o ids id now)) q apart
      | Some (Open hop) ↦ refl
    ]

abandoned_apart : (h : Hops) (k q : Triad) → (q ≡ k → ⊥) → map.get (abandoned h k).held q ≡ map.get h.held q
abandoned_apart h k q apart = cond_both (is_some (opening_at h k)) (without h k) h (λ (n : Hops). map.get n.held q ≡ map.get h.held q)
    (λ t. gone_apart triads_total triads_apart h.held k q apart) (λ t. refl)

-- ---- a request and what it opens

module _ (P : ℕ → Entry → Opening → OwnIds → Type 0) where
  -- no request that opens is new, and what is opening for one that is left stands
  joined_kept : (s new : State) → Joined P s
      → ((n : ℕ) (p : Entry) (triad : Triad) → map.get new.pendings.entries n ≡ Some p → opened_triad p.kind ≡ Some triad
      → map.get s.pendings.entries n ≡ Some p)
      → ((n : ℕ) (p : Entry) (triad : Triad) (o : Opening) (ids : OwnIds) → map.get new.pendings.entries n ≡ Some p → opened_triad p.kind ≡ Some triad
      → map.get s.hops.held triad ≡ Some (IsOpening o ids)
      → map.get new.hops.held triad ≡ Some (IsOpening o ids))
      → Joined P new
  joined_kept s new h old stays = record {
    each = λ n p triad at kind.
        let was = h.each n p triad (old n p triad at kind) kind in
        record { opening = was.opening; ids = was.ids; at = stays n p triad was.opening was.ids at kind was.at; of = was.of };
    one = λ m n p q triad at there kind too. h.one m n p q triad (old m p triad at kind) (old n q triad there too) kind too;
  }

  -- one waits no more; what it was opening is gone
  joined_taken : (s new : State) (number : ℕ) → Joined P s → new.pendings.entries ≡ map.remove s.pendings.entries number
      → new.hops ≡ given_up (map.get s.pendings.entries number) s.hops → Joined P new
  joined_taken s new number h gone left =
      let was : (n : ℕ) (p : Entry) → map.get new.pendings.entries n ≡ Some p → (n ≡ number → ⊥) × (map.get s.pendings.entries n ≡ Some p) =
      λ n p at. remove_cases nat_cmp_total numbers_apart s.pendings.entries number n p (ap (λ m. map.get m n) (sym gone) ∙ at) in
      joined_kept s new h (λ n p triad at kind. (was n p at).1)
      (λ n p triad o ids at kind there.
      let stands : (x : Option Entry) → map.get s.pendings.entries number ≡ x → map.get (given_up x s.hops).held triad ≡ Some (IsOpening o ids) = elim [
        | None ↦ λ e. there
        | Some q ↦ λ e. by_opening s number n p q triad o ids h (was n p at).0 (was n p at).1 kind e there (opened_triad q.kind) refl
      ] in
      ap (λ (x : Hops). map.get x.held triad) left ∙ stands (map.get s.pendings.entries number) refl)
    where
      by_opening : (s : State) (number n : ℕ) (p q : Entry) (triad : Triad) (o : Opening) (ids : OwnIds) → Joined P s → (n ≡ number → ⊥)
          → map.get s.pendings.entries n ≡ Some p → opened_triad p.kind ≡ Some triad
          → map.get s.pendings.entries number ≡ Some q → map.get s.hops.held triad ≡ Some (IsOpening o ids) → (k : Option Triad) → opened_triad q.kind ≡ k
          → map.get (abandoned_if k s.hops).held triad ≡ Some (IsOpening o ids)
      by_opening s number n p q triad o ids h other at kind e there None is = there
      by_opening s number n p q triad o ids h other at kind e there (Some k) is =
          abandoned_apart s.hops k triad (λ same. other (h.one n number p q triad at e kind (is ∙ ap (λ (t : Triad). Some t) (sym same)))) ∙ there

no_forward : (config : ModuleSettings) (s : State) (event : Event) (sending : Sending) (kind : Kind) (triad : Triad)
    → ForwardsAs config s event sending kind → opened_triad kind ≡ Some triad → ⊥
no_forward config s event sending kind triad (SentOn is h) e = let no : None ≡ Some triad = ap opened_triad (sym is) ∙ e in cc
no_forward config s event sending kind triad (ClosedOn k is h) e = let no : None ≡ Some triad = ap opened_triad (sym is) ∙ e in cc

-- ---- a turn

module _ (config : ModuleSettings) (turns : List Turn) (turn : Turn)
    (now : Turned config (state_after config turns) turn.event (state_after config (turn ∷ turns)) turn.outputs) where
  abbrev s0 : State
  s0 = state_after config turns

  abbrev SentBy : ℕ → Entry → Opening → OwnIds → Type 0
  SentBy n p o ids = OpenSent config n p o ids turns turn ⊎ Past (OpenSent config n p o ids) turns

  -- what an effect of the turn gives, the turn gives
  given_by : (before after : List Effect) (e : Effect) (x : Output) → before ++ (e ∷ after) ≡ now.effects
      → Has (output_of config (applied config s0 before) e) x → Has turn.outputs x
  given_by before after e x is h =
      subst (λ (os : List Output). Has os x) (sym (outputs-append config s0 before (e ∷ after)) ∙ ap (outputs_of config s0) is ∙ now.out)
      (has_right (outputs_of config s0 before) (outputs_of config (applied config s0 before) (e ∷ after)) x
      (has_left (output_of config (applied config s0 before) e) (outputs_of config (apply config (applied config s0 before) e) after) x h))

  module _ (before after : List Effect) (sending : Sending) (o : Opening)
      (is : before ++ (Begins sending o ∷ after) ≡ now.effects) (tells : BeginsAs config s0 turn.event sending o)
      (h : Joined SentBy (applied config s0 before)) where
    abbrev s : State
    s = applied config s0 before

    abbrev new : State
    new = apply config s (Begins sending o)

    quiet : IsStill s0 s
    quiet = alone config s0 turn.event now.effects before after (Begins sending o) sending.up (begins_asker config s0 turn.event sending o tells) now.decided
        is
        refl

    free : map.get s.hops.held o.triad ≡ None
    free = ap (λ (x : Hops). map.get x.held o.triad) quiet.0 ∙ ap (λ (x : Opening). map.get s0.hops.held x.triad) tells.opening_is ∙ tells.free

    begun_new : (n : ℕ) (p : Entry) → n ≡ s.pendings.next → puts s (Begins sending o) ≡ Some p → SentBy n p o (own_ids s.hops.next o)
    begun_new n p number put =
        let same : entry_for s sending (kind_for o) ≡ p = cc in
        inl (record {
          sending = sending;
          tells = tells;
          number = number ∙ ap (λ x. x.next) quiet.1;
          ids_are = ap (λ (x : Hops). own_ids x.next o) quiet.0;
          sent = given_by before after (Begins sending o) (outputs.Send sending.port sending.address (bodies.Request n sending.bytes)) is
              (inl (ap (λ (k : ℕ). outputs.Send sending.port sending.address (bodies.Request k sending.bytes)) (sym number)));
          up_is = ap (λ (x : Entry). x.up) (sym same);
          port_is = ap (λ (x : Entry). x.port) (sym same);
          address_is = ap (λ (x : Entry). x.address) (sym same);
          words_is = ap (λ (x : Entry). x.words) (sym same);
        })

    new_triad : (p : Entry) (triad : Triad) → puts s (Begins sending o) ≡ Some p → opened_triad p.kind ≡ Some triad → triad ≡ o.triad
    new_triad p triad put kind =
        let same : entry_for s sending (kind_for o) ≡ p = cc in
        let both : Some triad ≡ Some o.triad = sym kind ∙ ap (λ (x : Entry). opened_triad x.kind) (sym same) ∙ opens_for o in
        cc

    old_apart : (n : ℕ) (p : Entry) (triad : Triad) → map.get s.pendings.entries n ≡ Some p → opened_triad p.kind ≡ Some triad → triad ≡ o.triad → ⊥
    old_apart n p triad at kind same =
        let was = h.each n p triad at kind in
        let no : None ≡ Some (IsOpening was.opening was.ids) = sym free ∙ ap (map.get s.hops.held) (sym same) ∙ was.at in cc

    joined_begins : Joined SentBy new
    joined_begins = record {
      each = λ n p triad at kind. elim (pending_cases config s (Begins sending o) n p at) as (λ _. Opens SentBy new n p triad) [
        | inl old ↦
            let was = h.each n p triad old kind in
            record {
              opening = was.opening;
              ids = was.ids;
              at = put_apart triads_total triads_apart s.hops.held o.triad (IsOpening o (own_ids s.hops.next o)) triad (old_apart n p triad old kind)
                  ∙ was.at;
              of = was.of;
            }
        | inr put ↦ record {
          opening = o;
          ids = own_ids s.hops.next o;
          at = ap (map.get new.hops.held) (new_triad p triad put.1 kind)
              ∙ put_here triads_total triads_apart s.hops.held o.triad (IsOpening o (own_ids s.hops.next o));
          of = begun_new n p put.0 put.1;
        }
      ];
      one = λ m n p q triad at there kind too. elim (pending_cases config s (Begins sending o) m p at) as (λ _. m ≡ n) [
        | inl old ↦ elim (pending_cases config s (Begins sending o) n q there) as (λ _. m ≡ n) [
          | inl older ↦ h.one m n p q triad old older kind too
          | inr put ↦ absurd (old_apart m p triad old kind (new_triad q triad put.1 too))
        ]
        | inr put ↦ elim (pending_cases config s (Begins sending o) n q there) as (λ _. m ≡ n) [
          | inl old ↦ absurd (old_apart n q triad old too (new_triad p triad put.1 kind))
          | inr again ↦ put.0 ∙ sym again.0
        ]
      ];
    }

  module _ (before after : List Effect) where
    abbrev mid : State
    mid = applied config s0 before

    abbrev after_it : Effect → State
    after_it e = apply config mid e

    -- the requests that wait are the same, and what is opening still is
    same_waits : (e : Effect) → Joined SentBy mid → (after_it e).pendings ≡ mid.pendings
        → ((q : Triad) (o : Opening) (ids : OwnIds) → map.get mid.hops.held q ≡ Some (IsOpening o ids)
        → map.get (after_it e).hops.held q ≡ Some (IsOpening o ids)) → Joined SentBy (after_it e)
    same_waits e h same stays = joined_kept SentBy mid (after_it e) h (λ n p triad at kind. ap (λ x. map.get x.entries n) (sym same) ∙ at)
        (λ n p triad o ids at kind there. stays triad o ids there)

    joined_forwards : (sending : Sending) (kind : Kind) → ForwardsAs config s0 turn.event sending kind
        → Joined SentBy mid → Joined SentBy (after_it (Forwards sending kind))
    joined_forwards sending kind tells h =
        joined_kept SentBy mid (after_it (Forwards sending kind)) h
        (λ n p triad at opened. elim (pending_cases config mid (Forwards sending kind) n p at) as (λ _. map.get mid.pendings.entries n ≡ Some p) [
          | inl old ↦ old
          | inr put ↦
              let same : entry_for mid sending kind ≡ p = let e = put.1 in cc in
              absurd (no_forward config s0 turn.event sending kind triad tells (ap (λ (x : Entry). opened_triad x.kind) same ∙ opened))
        ])
        (λ n p triad o ids at opened there. there)

    joined_accepts : (o : Opening) (open_ : OpenRequest) (link : EndLink) → before ++ (Accepts o open_ link ∷ after) ≡ now.effects
        → AcceptsAs config s0 turn.event o open_ link
        → Joined SentBy mid → Joined SentBy (after_it (Accepts o open_ link))
    joined_accepts o open_ link is tells h =
        let quiet : IsStill s0 mid = alone config s0 turn.event now.effects before after (Accepts o open_ link) tells.up
        (open_asker config s0 turn.event tells.up open_ tells.asks) now.decided is refl in
        let free : map.get mid.hops.held o.triad ≡ None = ap (λ (x : Hops). map.get x.held o.triad) quiet.0
        ∙ ap (λ (x : Opening). map.get s0.hops.held x.triad) tells.opening_is ∙ tells.free in
        same_waits (Accepts o open_ link) h refl (λ q p ids at.
        let apart : q ≡ o.triad → ⊥ = λ same. let no : None ≡ Some (IsOpening p ids) = sym free ∙ ap (map.get mid.hops.held) (sym same) ∙ at in cc in
        finished_apart (begun mid.hops o) o.triad q 0 mid.now apart
        ∙ put_apart triads_total triads_apart mid.hops.held o.triad (IsOpening o (own_ids mid.hops.next o)) q apart ∙ at)

    joined_finishes : (number : ℕ) (k : Triad) (bytes : List ℕ) (success : OpenSuccess) → before ++ (Finishes number k bytes success ∷ after) ≡ now.effects
        → FinishesAs s0 turn.event number k bytes success
        → Joined SentBy mid → Joined SentBy (after_it (Finishes number k bytes success))
    joined_finishes number k bytes success is tells h =
        let first : before ≡ [] = reply_alone config s0 turn.event now.effects before after (Finishes number k bytes success) tells.came.port number
        tells.came.from bytes tells.came.event_is now.decided is in
        let same : mid ≡ s0 = ap (applied config s0) first in
        let waits : map.get mid.pendings.entries number ≡ Some tells.entry =
        ap (λ (x : State). map.get x.pendings.entries number) same
        ∙ waits_at s0.pendings number tells.came.port tells.came.from tells.entry tells.came.waits in
        let was : (n : ℕ) (p : Entry) → map.get (after_it (Finishes number k bytes success)).pendings.entries n ≡ Some p
        → (n ≡ number → ⊥) × (map.get mid.pendings.entries n ≡ Some p) =
        λ n p at. remove_cases nat_cmp_total numbers_apart mid.pendings.entries number n p at in
        joined_kept SentBy mid (after_it (Finishes number k bytes success)) h (λ n p triad at kind. (was n p at).1)
        (λ n p triad o ids at kind there.
        finished_apart mid.hops k triad success.ot_id mid.now
        (λ one. (was n p at).0 (h.one n number p tells.entry triad (was n p at).1 waits kind (tells.kind ∙ ap (λ (t : Triad). Some t) (sym one)))) ∙ there)

    joined_answers : (asked : Request) (b : Bool) → Joined SentBy mid → Joined SentBy (answered_state b config mid asked)
    joined_answers asked true h = record {
      each = λ n p triad at kind. let none : None ≡ Some p = sym (map.get-empty {X = Entry} nat_cmp n) ∙ at in absurd (cc);
      one = λ m n p q triad at there kind too. let none : None ≡ Some p = sym (map.get-empty {X = Entry} nat_cmp m) ∙ at in absurd (cc);
    }
    joined_answers asked false h = joined_kept SentBy mid (answered_state false config mid asked) h (λ n p triad at kind. at)
        (λ n p triad o ids at kind there. there)

    joined_each : (e : Effect) → before ++ (e ∷ after) ≡ now.effects → Tells config s0 turn.event e → Joined SentBy mid → Joined SentBy (after_it e)
    joined_each (Forwards sending kind) is tells h = joined_forwards sending kind tells h
    joined_each (Begins sending o) is tells h = joined_begins before after sending o is tells h
    joined_each (Accepts o open_ link) is tells h = joined_accepts o open_ link is tells h
    joined_each (Finishes number k bytes success) is tells h = joined_finishes number k bytes success is tells h
    joined_each (Takes number bytes) is tells h = joined_taken SentBy mid (after_it (Takes number bytes)) number h refl refl
    joined_each (PendingTimesOut number) is tells h = joined_taken SentBy mid (after_it (PendingTimesOut number)) number h refl refl
    joined_each (Removes triad) is tells h = same_waits (Removes triad) h refl (λ q o ids at. removed_opening mid.hops triad q o ids at)
    joined_each (HopTimesOut triad) is tells h = same_waits (HopTimesOut triad) h refl (λ q o ids at. removed_opening mid.hops triad q o ids at)
    joined_each (Renews triad side) is tells h =
        same_waits (Renews triad side) h refl (λ q o ids at. if_opening (option_map_or (is_link side) (hop_at mid.hops triad) false)
        (changed mid.hops triad (touched side mid.now)) mid.hops q o ids
        (changed_opening mid.hops triad q (touched side mid.now) o ids at) at)
    joined_each (Counts triad side count) is tells h =
        same_waits (Counts triad side count) h refl (λ q o ids at. if_opening (option_map_or ends_here (hop_at mid.hops triad) false)
        (changed mid.hops triad (counted side count)) mid.hops q o ids
        (changed_opening mid.hops triad q (counted side count) o ids at) at)
    joined_each (Answers up asked) is tells h = joined_answers asked (resets config mid asked) h
    joined_each e is tells h = same_waits e h refl (λ q o ids at. at)

-- over a history
older_joined : (config : ModuleSettings) (turn : Turn) (turns : List Turn) (s : State) → Joined (SentIn config turns) s
    → Joined (λ n p o ids. OpenSent config n p o ids turns turn ⊎ Past (OpenSent config n p o ids) turns) s
older_joined config turn turns s h = record {
  each = λ n p triad at kind. let was = h.each n p triad at kind in record { opening = was.opening; ids = was.ids; at = was.at; of = inr was.of };
  one = h.one;
}

pub joined : (config : ModuleSettings) (turns : List Turn) → IsHistory config turns → Joined (SentIn config turns) (state_after config turns)
joined config [] h = record {
  each = λ n p triad at kind. let none : None ≡ Some p = sym (map.get-empty {X = Entry} nat_cmp n) ∙ at in absurd (cc);
  one = λ m n p q triad at there kind too. let none : None ≡ Some p = sym (map.get-empty {X = Entry} nat_cmp m) ∙ at in absurd (cc);
}
joined config (turn ∷ turns) h =
    let now = newest config turn turns h in
    by_places config (state_after config turns) turn.event (state_after config (turn ∷ turns)) turn.outputs now
    (λ s outs. Joined (λ n p o ids. OpenSent config n p o ids turns turn ⊎ Past (OpenSent config n p o ids) turns) s)
    (λ before after e is tells old. joined_each config turns turn now before after e is tells old)
    (older_joined config turn turns (state_after config turns) (joined config turns h.0))
