-- Where a datum goes, and that a datum that came or was entered gives one at most.
use Rattle.std.proofs.Common.{◌≡◌, ℕ, ◌≤◌, Bool, true, false, List, [], ◌∷◌, Option, Some, None, refl, sym, ap, arith}
use Rattle.std.specs.FinMap as map
use Rattle.cip_message.specs.Reply.{reply_bytes}
use Rattle.cip_pending.specs.declared.entry.Entry.{Entry}
use Rattle.cip_pending.specs.declared.entry.UpSide.{UpSide}
use Rattle.cip_pending.specs.declared.entry.UpSide.TheVariants.{Link, Local}
use Rattle.cip_hops.specs.declared.opening.HopDown.{HopDown}
use Rattle.cip_hops.specs.declared.opening.HopDown.TheVariants.{Link as DownLink, End}
use Rattle.cip_hops.specs.declared.opening.HopUp.{HopUp}
use Rattle.cip_hops.specs.declared.opening.HopUp.TheVariants.{Link as UpLink, Local as UpLocal}
use Rattle.cip_hops.specs.declared.hop.Hop.{Hop}
use Rattle.cip_hops.specs.declared.hop.Side.{Side}
use Rattle.cip_hops.specs.declared.hop.Side.TheVariants.{Up, Down}
use Rattle.cip_hops.specs.Hops.{hop_at, hop_by_op}
use Rattle.cip_config.specs.declared.config.ModuleSettings.{ModuleSettings}
use Rattle.cip_routing.specs.CommandRows.{CommandRow}
use Rattle.cip_routing.specs.CommandRows as command
use Rattle.cip_event.specs.declared.event.Body.TheVariants as bodies
use Rattle.cip_event.specs.declared.event.Command.TheVariants as commands
use Rattle.cip_event.specs.declared.event.Event.TheVariants as events
use Rattle.cip_event.specs.declared.event.Output.{Output}
use Rattle.cip_routing.specs.CommandRows.{enter_row}
use Rattle.cip_routing.specs.DataRows.{DataRow, data_row}
use Rattle.cip_routing.specs.DataRows as datum
use Rattle.cip_laws.specs.EffectLists.{gain}
use Rattle.cip_routing.specs.Effects.{Effect, Replies, Answers, Finishes, Takes, PendingTimesOut, Passes, here_answer, reply_up, replied, timed_out_reply}
use Rattle.cip_routing.specs.Effects.{timed_out_bytes, datum_up, datum_down, datum_by, passed, apply, output_of, outputs_of, succeeded_at}
use Rattle.cip_laws.specs.Outputs.{is_datum, DatumOf, GoesUp, Arrives, GoesDown, IsConsumed, one_datum}
use Rattle.cip_routing.specs.State.{State}
use Rattle.cip_routing.specs.Table.{datum_effects, entered_effects, enter_effects, refused_effects, decide}
use Rattle.cip_laws.specs.Weights.{mark, weight_in}
use Rattle.cip_laws.proofs.PassedBy.{passes, counts_none}
use Rattle.cip_laws.proofs.Weighing.{weight_in-append, answered_alone}

-- ---- where a datum goes

goes_up : (hop : Hop) (up : HopUp) (bytes : List ℕ) (x : Output) → hop.opening.up ≡ up → datum_up up bytes ≡ x → DatumOf hop Up bytes x
goes_up hop (UpLink port to their_id) bytes x is given = GoesUp port to their_id refl is (sym given)
goes_up hop (UpLocal op) bytes x is given = Arrives op refl is (sym given)

goes_down : (hop : Hop) (down : HopDown) (bytes : List ℕ) (x : Output) → hop.opening.down ≡ down → datum_down hop down bytes ≡ x → DatumOf hop Down bytes x
goes_down hop (DownLink port to) bytes x is given = GoesDown port to refl is (sym given)
goes_down hop (End config consume produce) bytes x is given = IsConsumed config consume produce refl is (sym given)

pub datum_of : (hop : Hop) (side : Side) (bytes : List ℕ) (x : Output) → datum_by side hop bytes ≡ x → DatumOf hop side bytes x
datum_of hop Up bytes x given = goes_up hop hop.opening.up bytes x refl given
datum_of hop Down bytes x given = goes_down hop hop.opening.down bytes x refl given

-- ---- how many an effect gives

none_up : (v : UpSide) (bytes : List ℕ) → one_datum (reply_up v bytes) ≡ 0
none_up (Link port address number) bytes = refl
none_up (Local op) bytes = refl

none_replied : (p : Option Entry) (bytes : List ℕ) → weight_in one_datum (replied p bytes) ≡ 0
none_replied None bytes = refl
none_replied (Some p) bytes = let none = none_up p.up bytes in omega (arith, none)

none_late : (p : Option Entry) → weight_in one_datum (timed_out_reply p) ≡ 0
none_late None = refl
none_late (Some p) = let none = none_up p.up (timed_out_bytes p.kind p.words) in omega (arith, none)

mark_most : (b : Bool) → mark b ≤ 1
mark_most true = omega arith
mark_most false = omega arith

one_passed : (side : Side) (hop : Option Hop) (bytes : List ℕ) → weight_in one_datum (passed side hop bytes) ≤ 1
one_passed side None bytes = omega arith
one_passed side (Some hop) bytes = let most = mark_most (is_datum (datum_by side hop bytes)) in omega (arith, most)

given_each : (config : ModuleSettings) (s : State) (e : Effect) → weight_in one_datum (output_of config s e) ≤ passes e
given_each config s (Replies v bytes) = let none = none_up v bytes in omega (arith, none)
given_each config s (Answers v asked) =
    let none = none_up v (reply_bytes (here_answer config s asked)) in
    let alone = answered_alone one_datum (λ op. refl) config s v asked in
    omega (arith, none, alone)
given_each config s (Finishes number triad bytes success) =
    let none = none_replied (map.get s.pendings.entries number) (succeeded_at s number triad bytes success) in omega (arith, none)
given_each config s (Takes number bytes) = let none = none_replied (map.get s.pendings.entries number) bytes in omega (arith, none)
given_each config s (PendingTimesOut number) = let none = none_late (map.get s.pendings.entries number) in omega (arith, none)
given_each config s (Passes triad side bytes) = let most = one_passed side (hop_at s.hops triad) bytes in omega (arith, most)
given_each config s e = omega arith

given_all : (config : ModuleSettings) (s : State) (es : List Effect) → weight_in one_datum (outputs_of config s es) ≤ gain passes es
given_all config s [] = omega arith
given_all config s (e ∷ es) =
    let here = given_each config s e in
    let there = given_all config (apply config s e) es in
    let sum = weight_in-append one_datum (output_of config s e) (outputs_of config (apply config s e) es) in
    omega (arith, here, there, sum)

-- ---- a datum that came, and one that is entered

came_once : (bytes : List ℕ) (row : DataRow) → gain passes (datum_effects bytes row) ≤ 1
came_once bytes datum.UnknownId = omega arith
came_once bytes datum.WrongSize = omega arith
came_once bytes (datum.PassedOn triad side) = omega arith
came_once bytes (datum.Consumed triad instance count written) = let none = counts_none triad count in omega (arith, none)
came_once bytes (datum.Repeated triad) = omega arith
came_once bytes (datum.Arrived triad) = omega arith

entered_once : (row : CommandRow) (bytes : List ℕ) (hop : Option Hop) → gain passes (refused_effects row (entered_effects bytes hop)) ≤ 1
entered_once command.OpUsed bytes hop = omega arith
entered_once command.NotOpen bytes hop = omega arith
entered_once command.ReservedService bytes hop = omega arith
entered_once command.WrongSize bytes hop = omega arith
entered_once command.NoInstance bytes hop = omega arith
entered_once command.Taken bytes None = omega arith
entered_once command.Taken bytes (Some hop) = omega arith

pub frame_once : (config : ModuleSettings) (s : State) (port id : ℕ) (from bytes : List ℕ) (es : List Effect)
    → decide config s (events.Frame port from (bodies.Data id bytes)) ≡ Some es → weight_in one_datum (outputs_of config s es) ≤ 1
frame_once config s port id from bytes es decided =
    let whole : Some (datum_effects bytes (data_row config s port from id bytes)) ≡ Some es = decided in
    let same : datum_effects bytes (data_row config s port from id bytes) ≡ es = cc in
    let most = came_once bytes (data_row config s port from id bytes) in
    let gained = ap (gain passes) same in
    let all = given_all config s es in
    omega (arith, most, gained, all)

pub enter_once : (config : ModuleSettings) (s : State) (of : ℕ) (bytes : List ℕ) (es : List Effect)
    → decide config s (events.Command (commands.Enter of bytes)) ≡ Some es → weight_in one_datum (outputs_of config s es) ≤ 1
enter_once config s of bytes es decided =
    let whole : Some (enter_effects bytes (hop_by_op s.hops of)) ≡ Some es = decided in
    let same : enter_effects bytes (hop_by_op s.hops of) ≡ es = cc in
    let most = entered_once (enter_row bytes (hop_by_op s.hops of)) bytes (hop_by_op s.hops of) in
    let gained = ap (gain passes) same in
    let all = given_all config s es in
    omega (arith, most, gained, all)
