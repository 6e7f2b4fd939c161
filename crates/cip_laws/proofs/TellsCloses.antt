-- What a Forward_Close tells, read backwards.
use Rattle.std.proofs.Common.{◌≡◌, ℕ, List, refl, ap, inl, Result, Ok, Err}
use Rattle.cip_message.specs.declared.fault.DataFault.{DataFault}
use Rattle.cip_close.specs.Close.{Close}
use Rattle.cip_close.specs.CloseAt.{close_at}
use Rattle.cip_pending.specs.declared.entry.UpSide.{UpSide}
use Rattle.cip_config.specs.declared.config.ModuleSettings.{ModuleSettings}
use Rattle.cip_event.specs.declared.event.Event.{Event}
use Rattle.cip_routing.specs.CloseRows.{CloseRow, Refuses, Forwarded, ClosedAtTheEnd, close_row}
use Rattle.cip_routing.specs.RequestRows.{ForwardClose}
use Rattle.cip_routing.specs.State.{State}
use Rattle.cip_routing.specs.Table.{close_on, close_effects, close_data_effects}
use Rattle.cip_laws.specs.Tells.{Came, AsksClose, Closes, CloseUnread, CloseFails, CloseEnds, AllTell, ClosedOn}
use Rattle.cip_routing.proofs.ClosesForwarded.{close_stands, down_forwards}

-- ---- the group

close_told : (config : ModuleSettings) (s : State) (event : Event) (up sender : UpSide) (c : Close) (row : CloseRow) → AsksClose config s event up sender c
    → close_row s sender c ≡ row → AllTell config s event (close_effects up c row)
close_told config s event up sender c (Refuses fault) asks e = (CloseFails sender c fault asks e refl, tt)
close_told config s event up sender c (Forwarded port address rest) asks e =
    let h = close_stands s sender c (Forwarded port address rest) e (λ other. cc) in
    let g = down_forwards s.pendings c h.0.opening.down port address rest h.3 in
    let closes : Closes config s event up c h.0 = record { sender = sender; asks = asks; stands = h.1; own = h.2 } in (
      record { up = up; c = c; hop = h.0; closes = closes; triad_is = refl },
      (
        ClosedOn c.fields.triad refl (record {
          c = c;
          hop = h.0;
          next = g.0;
          closes = closes;
          triad_is = refl;
          below = g.1;
          first = g.2;
          port_is = g.3;
          address_is = g.4;
          bytes_are = ap (close_on c) g.5;
          wait_is = refl;
          words_are = refl;
          ticks = g.6;
        }),
        tt,
      ),
    )
close_told config s event up sender c ClosedAtTheEnd asks e =
    let h = close_stands s sender c ClosedAtTheEnd e (λ other. cc) in (
      record { up = up; c = c; hop = h.0; closes = record { sender = sender; asks = asks; stands = h.1; own = h.2 }; triad_is = refl },
      (CloseEnds sender c asks e refl, tt),
    )

pub closes_tell : (config : ModuleSettings) (s : State) (event : Event) (up sender : UpSide) (c : Close) → AsksClose config s event up sender c
    → AllTell config s event (close_effects up c (close_row s sender c))
closes_tell config s event up sender c asks = close_told config s event up sender c (close_row s sender c) asks refl

read_told : (config : ModuleSettings) (s : State) (event : Event) (up : UpSide) (asked : List ℕ) (r : Result Close DataFault)
    → Came config event up (ForwardClose asked)
    → close_at asked ≡ r → AllTell config s event (close_data_effects s up asked r)
read_told config s event up asked (Err fault) came e = (CloseUnread asked fault came e refl, tt)
read_told config s event up asked (Ok c) came e = closes_tell config s event up up c (inl (record { asked = asked; came = came; read = e; sender_is = refl }))

-- a Forward_Close in a frame
pub close_tells : (config : ModuleSettings) (s : State) (event : Event) (up : UpSide) (asked : List ℕ) → Came config event up (ForwardClose asked)
    → AllTell config s event (close_data_effects s up asked (close_at asked))
close_tells config s event up asked came = read_told config s event up asked (close_at asked) came refl
