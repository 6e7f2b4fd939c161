-- Whom each effect of a request replies to: who asked.
use Rattle.std.proofs.Common.{◌≡◌, ℕ, List, sym, ap, ◌∙◌, inl, inr, Some}
use Rattle.cip_message.specs.Request.{Request}
use Rattle.cip_unconnected.specs.Unconnected.{Unconnected}
use Rattle.cip_open.specs.Open.{Open}
use Rattle.cip_close.specs.Close.{Close}
use Rattle.cip_pending.specs.declared.entry.UpSide.{UpSide}
use Rattle.cip_pending.specs.declared.entry.Kind.{Kind}
use Rattle.cip_hops.specs.declared.opening.Opening.{Opening}
use Rattle.cip_config.specs.declared.config.ModuleSettings.{ModuleSettings}
use Rattle.cip_event.specs.declared.event.Event.{Event}
use Rattle.cip_routing.specs.RequestRows.{RequestRow}
use Rattle.cip_routing.specs.Effects.{Sending}
use Rattle.cip_routing.specs.State.{State}
use Rattle.cip_laws.proofs.AskedOpens.{asks_asker}
use Rattle.cip_laws.specs.Tells.{asker, Came, AsksSend, AsksOpen, AsksClose, RepliesAs, RequestFails, SendUnread, SendFails, OpenUnread, OpenFails, OpenEnds}
use Rattle.cip_laws.specs.Tells.{CloseUnread, CloseFails, CloseEnds, AnswersAs, Itself, Embedded, ForwardsAs, BeginsAs, SentOn, ClosedOn}

pub came_asker : (config : ModuleSettings) (event : Event) (up : UpSide) (row : RequestRow) → Came config event up row → asker event ≡ Some up
came_asker config event up row came = ap asker came.event_is ∙ ap (λ (u : UpSide). Some u) (sym came.up_is)

pub send_asker : (config : ModuleSettings) (s : State) (event : Event) (up : UpSide) (u : Unconnected) → AsksSend config s event up u → asker event ≡ Some up
send_asker config s event up u (inl h) = came_asker config event up _ h.came
send_asker config s event up u (inr h) = ap asker h.event_is ∙ ap (λ (u : UpSide). Some u) (sym h.up_is)

pub open_asker : (config : ModuleSettings) (s : State) (event : Event) (up : UpSide) (o : Open) → AsksOpen config s event up o → asker event ≡ Some up
open_asker config s event up o (inl h) = came_asker config event up _ h.came
open_asker config s event up o (inr h) =
    ap asker h.event_is ∙ asks_asker config.identity h.command h.op o h.asks ∙ ap (λ (u : UpSide). Some u) (sym h.up_is)

pub close_asker : (config : ModuleSettings) (s : State) (event : Event) (up sender : UpSide) (c : Close) → AsksClose config s event up sender c
    → asker event ≡ Some up
close_asker config s event up sender c (inl h) = came_asker config event up _ h.came
close_asker config s event up sender c (inr h) = ap asker h.event_is ∙ ap (λ (u : UpSide). Some u) (sym h.up_is)

pub replies_asker : (config : ModuleSettings) (s : State) (event : Event) (up : UpSide) (bytes : List ℕ) → RepliesAs config s event up bytes
    → asker event ≡ Some up
replies_asker config s event up bytes (RequestFails service refusal came e) = came_asker config event up _ came
replies_asker config s event up bytes (SendUnread asked fault came read e) = came_asker config event up _ came
replies_asker config s event up bytes (SendFails u refusal asks meets e) = send_asker config s event up u asks
replies_asker config s event up bytes (OpenUnread large asked fault came read e) = came_asker config event up _ came
replies_asker config s event up bytes (OpenFails o refusal asks meets e) = open_asker config s event up o asks
replies_asker config s event up bytes (OpenEnds o link asks meets e) = open_asker config s event up o asks
replies_asker config s event up bytes (CloseUnread asked fault came read e) = came_asker config event up _ came
replies_asker config s event up bytes (CloseFails sender c refusal asks meets e) = close_asker config s event up sender c asks
replies_asker config s event up bytes (CloseEnds sender c asks meets e) = close_asker config s event up sender c asks

pub answers_asker : (config : ModuleSettings) (s : State) (event : Event) (up : UpSide) (asked : Request) → AnswersAs config s event up asked
    → asker event ≡ Some up
answers_asker config s event up asked (Itself came) = came_asker config event up _ came
answers_asker config s event up asked (Embedded u asks whole read) = send_asker config s event up u asks

pub forwards_asker : (config : ModuleSettings) (s : State) (event : Event) (sending : Sending) (kind : Kind)
    → ForwardsAs config s event sending kind → asker event ≡ Some sending.up
forwards_asker config s event sending kind (SentOn is h) = send_asker config s event sending.up h.u h.asks
forwards_asker config s event sending kind (ClosedOn triad is h) =
    close_asker config s event sending.up h.closes.sender h.c h.closes.asks

pub begins_asker : (config : ModuleSettings) (s : State) (event : Event) (sending : Sending) (opening : Opening)
    → BeginsAs config s event sending opening → asker event ≡ Some sending.up
begins_asker config s event sending opening h = open_asker config s event sending.up h.o h.asks
