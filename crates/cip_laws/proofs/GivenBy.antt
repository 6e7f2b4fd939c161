-- Which effect gave a reply to an up side, the end of a connection, a refusal or a drop.
use Rattle.std.proofs.Common.{◌≡◌, ℕ, true, List, [], ◌∷◌, Option, Some, None, refl, sym, ap, subst, inl, inr, arith, ◌∙◌, Bool, false}
use Rattle.std.specs.FinMap as map
use Rattle.std.proofs.lemmas.Bool.{eq-eqb, and_from}
use Rattle.std.proofs.lemmas.Slice.Eq.{bytes_eq-Decides}
use Rattle.std.specs.Str.{bytes_eq}
use Rattle.std.proofs.Common.{eqb, ◌&&◌}
use Rattle.cip_message.specs.Reply.{reply_bytes}
use Rattle.cip_pending.specs.declared.entry.Entry.{Entry}
use Rattle.cip_pending.specs.declared.entry.UpSide.{UpSide}
use Rattle.cip_pending.specs.declared.entry.UpSide.TheVariants.{Link, Local}
use Rattle.cip_hops.specs.declared.hop.Hop.{Hop}
use Rattle.cip_hops.specs.declared.hop.Side.{Side}
use Rattle.cip_hops.specs.declared.hop.Side.TheVariants.{Up, Down}
use Rattle.cip_hops.specs.declared.opening.HopUp.{HopUp}
use Rattle.cip_hops.specs.declared.opening.HopUp.TheVariants.{Link as UpLink, Local as UpLocal}
use Rattle.cip_hops.specs.declared.opening.HopDown.{HopDown}
use Rattle.cip_hops.specs.declared.opening.HopDown.TheVariants.{Link as DownLink, End}
use Rattle.cip_hops.specs.Hops.{hop_at}
use Rattle.cip_event.specs.declared.event.Output.TheVariants as outputs
use Rattle.cip_routing.specs.Resets.{held_ops, all_ended}
use Rattle.cip_config.specs.declared.config.ModuleSettings.{ModuleSettings}
use Rattle.cip_event.specs.declared.event.Event.{Event}
use Rattle.cip_event.specs.declared.event.Output.{Output}
use Rattle.cip_routing.specs.Effects.{Effect, Replies, Answers, Forwards, Begins, Finishes, Takes, PendingTimesOut, HopTimesOut, Passes, RefusesCommand, Drops}
use Rattle.cip_routing.specs.Effects.{resets, here_answer, ended_by as told_ended, reply_up, replied, timed_out_reply, timed_out_bytes, datum_up, datum_down}
use Rattle.cip_routing.specs.Effects.{datum_by, passed, succeeded, waits_large, output_of, succeeded_at}
use Rattle.cip_laws.specs.Outputs.{RepliesBy, AtOnce, Here, Opened, Taken, Late, tells_end, EndedBy, ByTimeOut, ByReset, ByRefusal, ByDrop}
use Rattle.cip_routing.specs.State.{State}
use Rattle.cip_laws.specs.Tells.{Tells}
use Rattle.cip_laws.specs.Weights.{mark, same_up, is_reply, weight_in}
use Rattle.cip_laws.specs.Turns.{Has}
use Rattle.cip_laws.proofs.Claims.{no_reply_passed}
use Rattle.cip_laws.proofs.Weighing.{weight_has, none_reset}
use Rattle.cip_laws.specs.Tells.{RepliesAs, AnswersAs}
use Rattle.cip_hops.specs.declared.hop.Held.{Held}

-- ---- a reply, by a link or to an op

same_self : (up : UpSide) → same_up up up ≡ true
same_self (Link port from n) =
    and_from (eqb port port && bytes_eq from from) (eqb n n)
    (and_from (eqb port port) (bytes_eq from from) (eq-eqb port port refl) ((bytes_eq-Decides from from).1 refl))
    (eq-eqb n n refl)
same_self (Local op) = eq-eqb op op refl

weighs : (up : UpSide) (bytes : List ℕ) → is_reply up (reply_up up bytes) ≡ 1
weighs (Link port from n) bytes = ap mark (same_self (Link port from n))
weighs (Local op) bytes = ap mark (same_self (Local op))

reply_parts : (v up : UpSide) (b bytes : List ℕ) → reply_up v b ≡ reply_up up bytes → (v ≡ up) × (b ≡ bytes)
reply_parts (Link p a k) (Link port from n) b bytes e = (cc, cc)
reply_parts (Local o) (Local op) b bytes e = (cc, cc)
reply_parts (Link p a k) (Local op) b bytes e = absurd (cc)
reply_parts (Local o) (Link port from n) b bytes e = absurd (cc)

module _ (up : UpSide) (bytes : List ℕ) where
  one_of : (v : UpSide) (b : List ℕ) → Has (reply_up v b ∷ []) (reply_up up bytes) → (v ≡ up) × (b ≡ bytes)
  one_of v b (inl e) = reply_parts v up b bytes e
  one_of v b (inr h) = absurd h

  replied_of : (x : Option Entry) (b : List ℕ) → Has (replied x b) (reply_up up bytes) → (p : Entry) × (x ≡ Some p) × (p.up ≡ up) × (b ≡ bytes)
  replied_of None b h = absurd h
  replied_of (Some p) b h = let is = one_of p.up b h in (p, refl, is.0, is.1)

  late_of : (x : Option Entry) → Has (timed_out_reply x) (reply_up up bytes)
      → (p : Entry) × (x ≡ Some p) × (p.up ≡ up) × (timed_out_bytes p.kind p.words ≡ bytes)
  late_of None h = absurd h
  late_of (Some p) h = let is = one_of p.up (timed_out_bytes p.kind p.words) h in (p, refl, is.0, is.1)

  -- outputs that reply to nobody hold none
  none_of : (os : List Output) → weight_in (is_reply up) os ≡ 0 → Has os (reply_up up bytes) → ⊥
  none_of os none h = let some = weight_has (is_reply up) os (reply_up up bytes) h in let one = weighs up bytes in omega (arith, none, some, one)

  pub answered_by : (config : ModuleSettings) (s0 : State) (event : Event) (mid : State) (e : Effect) → Tells config s0 event e
      → Has (output_of config mid e) (reply_up up bytes) → RepliesBy config s0 event mid e up bytes
  answered_by config s0 event mid (Replies v b) tells h =
      let is = one_of v b h in
      AtOnce (subst (λ (u : UpSide). RepliesAs config s0 event u bytes) is.0 (subst (λ (c : List ℕ). RepliesAs config s0 event v c) is.1 tells))
  answered_by config s0 event mid (Answers v asked) tells (inr h) =
      absurd (none_of (told_ended (resets config mid asked) mid) (none_reset (is_reply up) (λ op. refl) (resets config mid asked) mid) h)
  answered_by config s0 event mid (Answers v asked) tells (inl e) =
      let is = one_of v (reply_bytes (here_answer config mid asked)) (inl e) in
      Here asked (ap (λ (u : UpSide). Answers u asked) is.0) (subst (λ (u : UpSide). AnswersAs config s0 event u asked) is.0 tells) (sym is.1)
  answered_by config s0 event mid (Finishes number triad came success) tells h =
      let is = replied_of (map.get mid.pendings.entries number) (succeeded_at mid number triad came success) h in
      let held : Option Held = map.get mid.hops.held triad in
      Opened number triad came success is.0 refl is.1 is.2 (sym is.3 ∙ ap (λ (p : Option Entry). succeeded (waits_large p) held came success) is.1)
  answered_by config s0 event mid (Takes number b) tells h =
      let is = replied_of (map.get mid.pendings.entries number) b h in Taken number is.0 (ap (Takes number) is.3) is.1 is.2
  answered_by config s0 event mid (PendingTimesOut number) tells h =
      let is = late_of (map.get mid.pendings.entries number) h in Late number is.0 refl is.1 is.2 (sym is.3)
  answered_by config s0 event mid (Passes triad side b) tells h =
      absurd (none_of (passed side (hop_at mid.hops triad) b) (no_reply_passed up side (hop_at mid.hops triad) b) h)
  answered_by config s0 event mid (Forwards sending kind) tells h = absurd (none_of (output_of config mid (Forwards sending kind)) refl h)
  answered_by config s0 event mid (Begins sending opening) tells h = absurd (none_of (output_of config mid (Begins sending opening)) refl h)
  answered_by config s0 event mid (HopTimesOut triad) tells h = absurd (none_of (output_of config mid (HopTimesOut triad)) refl h)
  answered_by config s0 event mid (RefusesCommand fault) tells h = absurd (none_of (output_of config mid (RefusesCommand fault)) refl h)
  answered_by config s0 event mid (Drops reason) tells h = absurd (none_of (output_of config mid (Drops reason)) refl h)
  answered_by config s0 event mid e tells h = absurd h

-- ---- the end of a connection, a refusal, a drop

reply_ends_none : (v : UpSide) (b : List ℕ) → tells_end (reply_up v b) ≡ 0
reply_ends_none (Link port address number) b = refl
reply_ends_none (Local op) b = refl

up_ends_none : (to : HopUp) (b : List ℕ) → tells_end (datum_up to b) ≡ 0
up_ends_none (UpLink port address their_id) b = refl
up_ends_none (UpLocal op) b = refl

down_ends_none : (hop : Hop) (to : HopDown) (b : List ℕ) → tells_end (datum_down hop to b) ≡ 0
down_ends_none hop (DownLink port address) b = refl
down_ends_none hop (End config consume produce) b = refl

by_ends_none : (side : Side) (hop : Hop) (b : List ℕ) → tells_end (datum_by side hop b) ≡ 0
by_ends_none Up hop b = up_ends_none hop.opening.up b
by_ends_none Down hop b = down_ends_none hop hop.opening.down b

module _ (x : Output) (ends : tells_end x ≡ 1) where
  single : (y : Output) → tells_end y ≡ 0 → Has (y ∷ []) x → ⊥
  single y none (inl e) = let same = ap tells_end e in omega (arith, none, ends, same)
  single y none (inr h) = h

  replied_none : (p : Option Entry) (b : List ℕ) → Has (replied p b) x → ⊥
  replied_none None b h = h
  replied_none (Some p) b h = single (reply_up p.up b) (reply_ends_none p.up b) h

  late_none : (p : Option Entry) → Has (timed_out_reply p) x → ⊥
  late_none None h = h
  late_none (Some p) h = single (reply_up p.up (timed_out_bytes p.kind p.words)) (reply_ends_none p.up (timed_out_bytes p.kind p.words)) h

  passed_none : (side : Side) (hop : Option Hop) (b : List ℕ) → Has (passed side hop b) x → ⊥
  passed_none side None b h = h
  passed_none side (Some hop) b h = single (datum_by side hop b) (by_ends_none side hop b) h

  told_op : (ops : List ℕ) → Has (all_ended ops) x → (op : ℕ) × (x ≡ outputs.Ended op)
  told_op [] h = absurd h
  told_op (op ∷ ops) (inl e) = (op, sym e)
  told_op (op ∷ ops) (inr h) = told_op ops h

  told_so : (b : Bool) (s : State) → Has (told_ended b s) x → (b ≡ true) × Has (all_ended (held_ops s)) x
  told_so true s h = (refl, h)
  told_so false s h = absurd h

  pub ended_by : (config : ModuleSettings) (s : State) (event : Event) (mid : State) (e : Effect) → Tells config s event e → Has (output_of config mid e) x
      → EndedBy config s event mid e x
  ended_by config s event mid (HopTimesOut triad) tells (inl e) = ByTimeOut triad refl (sym e) tells
  ended_by config s event mid (HopTimesOut triad) tells (inr h) = absurd h
  ended_by config s event mid (RefusesCommand fault) tells (inl e) = ByRefusal fault refl (sym e) tells
  ended_by config s event mid (RefusesCommand fault) tells (inr h) = absurd h
  ended_by config s event mid (Drops reason) tells (inl e) = ByDrop reason refl (sym e) tells
  ended_by config s event mid (Drops reason) tells (inr h) = absurd h
  ended_by config s event mid (Replies v b) tells h = absurd (single (reply_up v b) (reply_ends_none v b) h)
  ended_by config s event mid (Answers v asked) tells (inl e) =
      absurd (single (reply_up v (reply_bytes (here_answer config mid asked))) (reply_ends_none v (reply_bytes (here_answer config mid asked))) (inl e))
  ended_by config s event mid (Answers v asked) tells (inr h) =
      let by = told_so (resets config mid asked) mid h in
      let op = told_op (held_ops mid) by.1 in
      ByReset v asked op.0 refl op.1 by.0 by.1 tells
  ended_by config s event mid (Forwards sending kind) tells h = absurd (single _ refl h)
  ended_by config s event mid (Begins sending opening) tells h = absurd (single _ refl h)
  ended_by config s event mid (Finishes number triad came success) tells h =
      absurd (replied_none (map.get mid.pendings.entries number) (succeeded_at mid number triad came success) h)
  ended_by config s event mid (Takes number b) tells h = absurd (replied_none (map.get mid.pendings.entries number) b h)
  ended_by config s event mid (PendingTimesOut number) tells h = absurd (late_none (map.get mid.pendings.entries number) h)
  ended_by config s event mid (Passes triad side b) tells h = absurd (passed_none side (hop_at mid.hops triad) b h)
  ended_by config s event mid e tells h = absurd h
