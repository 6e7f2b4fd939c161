-- Which events go which way in a step.
use Rattle.cip_event.specs.declared.event.Body.{Body}
use Rattle.cip_event.specs.declared.event.Body.TheVariants as bodies
use Rattle.cip_event.specs.declared.event.Command.{Command}
use Rattle.cip_event.specs.declared.event.Command.TheVariants as commands
use Rattle.cip_event.specs.declared.event.Event.{Event}
use Rattle.cip_event.specs.declared.event.Event.TheVariants as events

-- a request or a reply
abbrev pub IsMessage : Body → Type 0
IsMessage (bodies.Request number bytes) = Unit {0}
IsMessage (bodies.Reply number bytes) = Unit {0}
IsMessage (bodies.Data id bytes) = ⊥

-- a command but an Enter
abbrev pub IsNoEnter : Command → Type 0
IsNoEnter (commands.Open op timing path params) = Unit {0}
IsNoEnter (commands.LargeOpen op timing path params) = Unit {0}
IsNoEnter (commands.Close op of timing) = Unit {0}
IsNoEnter (commands.Send op timing path asked) = Unit {0}
IsNoEnter (commands.Enter of bytes) = ⊥
IsNoEnter (commands.Set instance bytes) = Unit {0}
IsNoEnter (commands.Produce instance) = Unit {0}

-- a command but an Enter, or a frame that holds a message: its bytes do not go on as they are
abbrev pub IsLeftWhole : Event → Type 0
IsLeftWhole (events.Command command) = IsNoEnter command
IsLeftWhole (events.Frame port from body) = IsMessage body
IsLeftWhole (events.Tick by) = ⊥

-- a command but an Enter that has one output at most
abbrev pub IsSingle : Command → Type 0
IsSingle (commands.Open op timing path params) = Unit {0}
IsSingle (commands.LargeOpen op timing path params) = Unit {0}
IsSingle (commands.Close op of timing) = Unit {0}
IsSingle (commands.Send op timing path asked) = Unit {0}
IsSingle (commands.Enter of bytes) = ⊥
IsSingle (commands.Set instance bytes) = Unit {0}
IsSingle (commands.Produce instance) = ⊥
