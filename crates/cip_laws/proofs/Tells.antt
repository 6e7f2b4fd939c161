-- The routing table read backwards: what each effect of an event tells.
use Rattle.std.proofs.Common.{◌≡◌, ℕ, ◌+◌, ◌*◌, ◌^◌, Bool, true, false, cond, ltb, List, refl, subst, Some, None}
use Rattle.std.proofs.lemmas.Bool.{ltb-true}
use Rattle.cip_config.specs.declared.config.ModuleSettings.{ModuleSettings}
use Rattle.cip_event.specs.declared.event.Body.{Body}
use Rattle.cip_event.specs.declared.event.Body.TheVariants as bodies
use Rattle.cip_event.specs.declared.event.Event.{Event}
use Rattle.cip_event.specs.declared.event.Event.TheVariants as events
use Rattle.cip_routing.specs.Effects.{Effect}
use Rattle.cip_routing.specs.State.{State}
use Rattle.cip_routing.specs.Table.{frame_effects, command_effects, tick_effects, decide}
use Rattle.cip_laws.specs.Tells.{AllTell}
use Rattle.cip_laws.proofs.TellsRequests.{requests_tell}
use Rattle.cip_laws.proofs.TellsReplies.{replies_tell}
use Rattle.cip_laws.proofs.TellsData.{data_tell}
use Rattle.cip_laws.proofs.TellsCommands.{commands_tell}
use Rattle.cip_laws.proofs.TellsTicks.{ticks_tell}

pub frames_tell : (config : ModuleSettings) (s : State) (port : ℕ) (from : List ℕ) (body : Body)
    → AllTell config s (events.Frame port from body) (frame_effects config s port from body)
frames_tell config s port from (bodies.Request number bytes) = requests_tell config s port from number bytes
frames_tell config s port from (bodies.Reply number bytes) = replies_tell config s port from number bytes
frames_tell config s port from (bodies.Data id bytes) = data_tell config s port from id bytes

decided : (config : ModuleSettings) (s : State) (event : Event) (fs es : List Effect) → Some fs ≡ Some es → AllTell config s event fs
    → AllTell config s event es
decided config s event fs es e told = let same : fs ≡ es = cc in subst (AllTell config s event) same told

tick_tells : (config : ModuleSettings) (s : State) (ms : ℕ) (es : List Effect) (b : Bool) → ltb (s.now + 1000 * ms) (2 ^ 63) ≡ b
    → cond b (Some (tick_effects s (1000 * ms))) None ≡ Some es → AllTell config s (events.Tick ms) es
tick_tells config s ms es true t e = decided config s (events.Tick ms) (tick_effects s (1000 * ms)) es e
    (ticks_tell config s ms (ltb-true (s.now + 1000 * ms) (2 ^ 63) t))
tick_tells config s ms es false t e = absurd (cc)

pub decide_tells : (config : ModuleSettings) (s : State) (event : Event) (es : List Effect) → decide config s event ≡ Some es → AllTell config s event es
decide_tells config s (events.Command command) es e = decided config s (events.Command command) (command_effects config s command) es e
    (commands_tell config s command)
decide_tells config s (events.Frame port from body) es e =
    decided config s (events.Frame port from body) (frame_effects config s port from body) es e (frames_tell config s port from body)
decide_tells config s (events.Tick ms) es e = tick_tells config s ms es (ltb (s.now + 1000 * ms) (2 ^ 63)) refl e
