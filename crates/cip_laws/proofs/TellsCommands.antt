-- What a command tells, read backwards.
use Rattle.std.proofs.Common.{◌≡◌, ℕ, Bool, true, false, cond, eqb, not, is_some, List, [], ◌∷◌, ◌++◌, length, refl, sym, ap, ◌∙◌, inr, Option, Some, None}
use Rattle.std.specs.List.{All}
use Rattle.std.specs.Prelude.{slice_index, option_and_then}
use Rattle.std.specs.FinMap as map
use Rattle.std.proofs.lemmas.Bool.{eqb-true}
use Rattle.std.proofs.lemmas.List.Elements.{All-head, All-tail}
use Rattle.cip_base.specs.Fields.{word}
use Rattle.cip_base.specs.declared.timing.Timing.{Timing}
use Rattle.cip_base.specs.declared.triad.Triad.{Triad}
use Rattle.cip_base.specs.Triads.{triad_cmp}
use Rattle.cip_base.proofs.Triads.{triads_total}
use Rattle.cip_unconnected.specs.Unconnected.{Unconnected, is_too_long}
use Rattle.cip_open.specs.Open.{Open}
use Rattle.cip_pending.specs.declared.entry.UpSide.TheVariants.{Local}
use Rattle.cip_hops.specs.declared.hop.Hop.{Hop}
use Rattle.cip_hops.specs.declared.hop.Side.TheVariants.{Up, Down}
use Rattle.cip_hops.specs.declared.hop.Held.{Held}
use Rattle.cip_hops.specs.declared.hop.Held.TheVariants.{Opening as IsOpening, Open as IsOpen}
use Rattle.cip_hops.specs.Hops.{Hops, as_hop, hop_by_op}
use Rattle.cip_hops.proofs.Steps.{triads_apart}
use Rattle.cip_base.proofs.Views.{get-at}
use Rattle.cip_target.specs.Assemblies.{size_in}
use Rattle.cip_config.specs.declared.config.ModuleSettings.{ModuleSettings}
use Rattle.cip_event.specs.declared.event.Event.{Event}
use Rattle.cip_event.specs.declared.event.Event.TheVariants as events
use Rattle.cip_event.specs.declared.event.Command.{Command}
use Rattle.cip_event.specs.declared.event.Command.TheVariants as commands
use Rattle.cip_event.specs.declared.event.Refused.{Refused}
use Rattle.cip_event.specs.declared.event.Refused.TheVariants as refused
use Rattle.cip_routing.specs.CommandRows.{CommandRow}
use Rattle.cip_routing.specs.CommandRows as rows
use Rattle.cip_routing.specs.CommandRows.{op_row, close_command_row, send_row, enter_row, set_row, produce_row}
use Rattle.cip_routing.specs.Effects.{Effect, Counts, Passes, Writes}
use Rattle.cip_routing.specs.Produced.{reads_from, made_effects, held_effects, each_effects, next_count}
use Rattle.cip_routing.specs.State.{State, is_spent}
use Rattle.cip_routing.specs.Table.{refused_effects, sent, asked_open, close_of, send_effects, open_command_effects, closed_effects, close_command_effects}
use Rattle.cip_routing.specs.Table.{entered_effects, enter_effects, produce_effects, command_effects}
use Rattle.cip_laws.specs.Tells.{Entered, Made, CountedDown, Set, Produced, command_row, refused_by, RefusesAs, AllTell}
use Rattle.cip_routing.proofs.Conditions.{past}
use Rattle.cip_laws.proofs.AskedOpens.{asks_asker, asks_row}
use Rattle.cip_laws.proofs.TellsEach.{all_append}
use Rattle.cip_laws.proofs.TellsSends.{sends_tell}
use Rattle.cip_laws.proofs.TellsOpens.{opens_tell}
use Rattle.cip_laws.proofs.TellsCloses.{closes_tell}

-- a command meets the row that refuses it
refuses : (s : State) (command : Command) (row : CommandRow) (fault : Refused) → command_row s command ≡ row → refused_by row ≡ Some fault
    → RefusesAs s (events.Command command) fault
refuses s command row fault meets is = record { command = command; event_is = refl; meets = ap refused_by meets ∙ is }

refused_told : (config : ModuleSettings) (s : State) (command : Command) (row : CommandRow) (es : List Effect) → command_row s command ≡ row
    → (row ≡ rows.Taken → AllTell config s (events.Command command) es)
    → AllTell config s (events.Command command) (refused_effects row es)
refused_told config s command rows.OpUsed es meets told = (refuses s command rows.OpUsed refused.OpUsed meets refl, tt)
refused_told config s command rows.NotOpen es meets told = (refuses s command rows.NotOpen refused.NotOpen meets refl, tt)
refused_told config s command rows.ReservedService es meets told = (refuses s command rows.ReservedService refused.ReservedService meets refl, tt)
refused_told config s command rows.WrongSize es meets told = (refuses s command rows.WrongSize refused.WrongSize meets refl, tt)
refused_told config s command rows.NoInstance es meets told = (refuses s command rows.NoInstance refused.NoInstance meets refl, tt)
refused_told config s command rows.Taken es meets told = told refl

-- ---- commands that spell a request

send_unused : (s : State) (op : ℕ) (u : Unconnected) → send_row s op u ≡ rows.Taken → is_spent op s.ops ≡ false
unfolding send_row
send_unused s op u e =
    (past (is_spent op s.ops) rows.OpUsed (cond (eqb (slice_index u.request 0) 0x52) rows.ReservedService
    (cond (is_too_long u) rows.WrongSize rows.Taken)) rows.Taken e (λ other. cc)).0

send_command_tells : (config : ModuleSettings) (s : State) (op : ℕ) (timing : Timing) (path asked : List ℕ)
    → AllTell config s (events.Command (commands.Send op timing path asked))
    (send_effects config s op (sent timing path asked) (send_row s op (sent timing path asked)))
send_command_tells config s op timing path asked =
    refused_told config s (commands.Send op timing path asked) (send_row s op (sent timing path asked)) _ refl
    (λ taken. let unused = send_unused s op (sent timing path asked) taken in (
      record { asks = refl; unused = unused },
      sends_tell config s (events.Command (commands.Send op timing path asked)) (Local op) (sent timing path asked)
          (inr (record { op = op; timing = timing; path = path; asked = asked; event_is = refl; up_is = refl; spells = refl; unused = unused })),
    ))

open_command_tells : (config : ModuleSettings) (s : State) (command : Command) (op : ℕ) (o : Open) → asked_open config.identity command ≡ Some (op, o)
    → AllTell config s (events.Command command) (open_command_effects config s op o)
open_command_tells config s command op o asks =
    refused_told config s command (op_row s op) _ (asks_row config.identity s command op o asks)
    (λ taken. let unused = (past (is_spent op s.ops) rows.OpUsed rows.Taken rows.Taken taken (λ other. cc)).0 in (
      record { asks = asks_asker config.identity command op o asks; unused = unused },
      opens_tell config s (events.Command command) (Local op) o
          (inr (record { op = op; command = command; event_is = refl; up_is = refl; asks = asks; unused = unused })),
    ))

close_unused : (s : State) (op of : ℕ) → close_command_row s op of ≡ rows.Taken → is_spent op s.ops ≡ false
close_unused s op of e = (past (is_spent op s.ops) rows.OpUsed (cond (not (is_some (hop_by_op s.hops of))) rows.NotOpen rows.Taken) rows.Taken e
    (λ other. cc)).0

closed_tells : (config : ModuleSettings) (s : State) (op of : ℕ) (timing : Timing) (x : Option Hop) → hop_by_op s.hops of ≡ x → is_spent op s.ops ≡ false
    → AllTell config s (events.Command (commands.Close op of timing)) (closed_effects s op of timing x)
closed_tells config s op of timing None found unused = tt
closed_tells config s op of timing (Some hop) found unused = (
  record { asks = refl; unused = unused },
  closes_tell config s (events.Command (commands.Close op of timing)) (Local op) (Local of) (close_of timing hop)
      (inr (record {
        op = op;
        of = of;
        timing = timing;
        hop = hop;
        event_is = refl;
        up_is = refl;
        sender_is = refl;
        opened = found;
        spells = refl;
        unused =
            unused;
      })),
)

close_command_tells : (config : ModuleSettings) (s : State) (op of : ℕ) (timing : Timing)
    → AllTell config s (events.Command (commands.Close op of timing)) (close_command_effects s op of timing)
close_command_tells config s op of timing =
    refused_told config s (commands.Close op of timing) (close_command_row s op of) _ refl
    (λ taken. closed_tells config s op of timing (hop_by_op s.hops of) refl (close_unused s op of taken))

-- ---- data that the application gives

entered_tells : (config : ModuleSettings) (s : State) (of : ℕ) (bytes : List ℕ) (hop : Hop) (b : Bool) → hop_by_op s.hops of ≡ Some hop
    → eqb (length bytes) hop.opening.ot_size ≡ b
    → AllTell config s (events.Command (commands.Enter of bytes)) (refused_effects (cond b rows.Taken rows.WrongSize) (entered_effects bytes (Some hop)))
entered_tells config s of bytes hop true found sized = (Entered of hop refl refl refl found (eqb-true (length bytes) hop.opening.ot_size sized), tt)
entered_tells config s of bytes hop false found sized = (
  refuses s (commands.Enter of bytes) rows.WrongSize refused.WrongSize (ap (enter_row bytes) found ∙ ap (λ t. cond t rows.Taken rows.WrongSize) sized) refl,
  tt,
)

enter_tells : (config : ModuleSettings) (s : State) (of : ℕ) (bytes : List ℕ) (x : Option Hop) → hop_by_op s.hops of ≡ x
    → AllTell config s (events.Command (commands.Enter of bytes)) (enter_effects bytes x)
enter_tells config s of bytes None found =
    (refuses s (commands.Enter of bytes) rows.NotOpen refused.NotOpen (ap (enter_row bytes) found) refl, tt)
enter_tells config s of bytes (Some hop) found = entered_tells config s of bytes hop (eqb (length bytes) hop.opening.ot_size) found refl

set_tells : (config : ModuleSettings) (s : State) (instance : ℕ) (bytes : List ℕ) (x : Option ℕ) → size_in s.assemblies instance ≡ x
    → AllTell config s (events.Command (commands.Set instance bytes)) (refused_effects (set_row bytes x) (Writes instance bytes ∷ []))
set_tells config s instance bytes None sized =
    (refuses s (commands.Set instance bytes) rows.NoInstance refused.NoInstance (ap (set_row bytes) sized) refl, tt)
set_tells config s instance bytes (Some size) sized =
    elim (eqb (length bytes) size) as (λ b. eqb (length bytes) size ≡ b
    → AllTell config s (events.Command (commands.Set instance bytes)) (refused_effects (cond b rows.Taken rows.WrongSize) (Writes instance bytes ∷ []))) [
      | true ↦ λ t. (Set refl (sized ∙ ap (λ (n : ℕ). Some n) (sym (eqb-true (length bytes) size t))), tt)
      | false ↦ λ t. (
        refuses s (commands.Set instance bytes) rows.WrongSize refused.WrongSize (ap (set_row bytes) sized ∙ ap (λ u. cond u rows.Taken rows.WrongSize) t) refl,
        tt,
      )
    ] refl

-- ---- an assembly that is sent

datum_tells : (config : ModuleSettings) (s : State) (event : Event) (held : List ℕ) (hop : Hop) (b : Bool) → Produced s event hop held
    → eqb hop.opening.class 1 ≡ b
    → AllTell config s event
    (cond b (Counts hop.opening.triad Down (next_count hop.produced) ∷ Passes hop.opening.triad Up (word (next_count hop.produced) ++ held) ∷ [])
    (Passes hop.opening.triad Up held ∷ []))
datum_tells config s event held hop true made class = (
  CountedDown hop held refl refl (eqb-true hop.opening.class 1 class) refl made,
  (Made held hop refl refl (sym (ap (λ b. cond b (word (next_count hop.produced) ++ held) held) class)) made, tt),
)
datum_tells config s event held hop false made class = (
  Made held hop refl refl (sym (ap (λ b. cond b (word (next_count hop.produced) ++ held) held) class))
      made,
  tt,
)

module _ (config : ModuleSettings) (s : State) (instance : ℕ) (held : List ℕ) (holds : map.get s.assemblies instance ≡ Some held) where
  held_tells : (key : Triad) (x : Held) → map.get s.hops.held key ≡ Some x
      → AllTell config s (events.Command (commands.Produce instance)) (held_effects instance held x)
  held_tells key (IsOpening o ids) at = tt
  held_tells key (IsOpen hop) at =
      elim (reads_from instance hop.opening.down) as (λ b. reads_from instance hop.opening.down ≡ b
      → AllTell config s (events.Command (commands.Produce instance)) (cond b (made_effects held hop) [])) [
        | true ↦ λ t. datum_tells config s (events.Command (commands.Produce instance)) held hop (eqb hop.opening.class 1)
            (record { instance = instance; key = key; event_is = refl; holds = holds; stands = ap (option_and_then as_hop) at; reads = t }) refl
        | false ↦ λ t. tt
      ] refl

  each_tells : (es : List (Triad × Held)) → All (λ e. map.get s.hops.held e.0 ≡ Some e.1) es
      → AllTell config s (events.Command (commands.Produce instance)) (each_effects instance held es)
  each_tells [] h = tt
  each_tells (e ∷ es) h =
      all_append config s (events.Command (commands.Produce instance)) (held_effects instance held e.1) (each_effects instance held es)
      (held_tells e.0 e.1 (All-head (λ (e : Triad × Held). map.get s.hops.held e.0 ≡ Some e.1) e es h))
      (each_tells es (All-tail (λ (e : Triad × Held). map.get s.hops.held e.0 ≡ Some e.1) e es h))

-- each entry stands under its key
pub each_stands : (h : Hops) → All (λ e. map.get h.held e.0 ≡ Some e.1) (map.entries h.held)
each_stands h = λ k d lt. get-at triad_cmp triads_total triads_apart h.held k d lt

produce_tells : (config : ModuleSettings) (s : State) (instance : ℕ) (x : Option (List ℕ)) → map.get s.assemblies instance ≡ x
    → AllTell config s (events.Command (commands.Produce instance)) (produce_effects s instance x)
produce_tells config s instance None holds =
    (refuses s (commands.Produce instance) rows.NoInstance refused.NoInstance (ap produce_row holds) refl, tt)
produce_tells config s instance (Some held) holds = each_tells config s instance held holds (map.entries s.hops.held) (each_stands s.hops)

-- ---- the group

pub commands_tell : (config : ModuleSettings) (s : State) (command : Command) → AllTell config s (events.Command command) (command_effects config s command)
commands_tell config s (commands.Open op timing path params) = open_command_tells config s (commands.Open op timing path params) op _ refl
commands_tell config s (commands.LargeOpen op timing path params) = open_command_tells config s (commands.LargeOpen op timing path params) op _ refl
commands_tell config s (commands.Close op of timing) = close_command_tells config s op of timing
commands_tell config s (commands.Send op timing path asked) = send_command_tells config s op timing path asked
commands_tell config s (commands.Enter of bytes) = enter_tells config s of bytes (hop_by_op s.hops of) refl
commands_tell config s (commands.Set instance bytes) = set_tells config s instance bytes (size_in s.assemblies instance) refl
commands_tell config s (commands.Produce instance) = produce_tells config s instance (map.get s.assemblies instance) refl
