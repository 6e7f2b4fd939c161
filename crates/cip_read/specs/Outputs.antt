-- What the line of an output shows. Two empty words stand before its number, for the two spaces.
use Rattle.std.specs.Prelude.{ℕ, ◌^◌, if◌then◌else◌, List, Option, Some, None, codes}
use Rattle.std.specs.Str.{bytes_eq}
use Rattle.cip_base.specs.declared.triad.Triad.{Triad}
use Rattle.cip_event.specs.declared.event.Body.{Body}
use Rattle.cip_event.specs.declared.event.Body.TheVariants.{Request, Reply, Data}
use Rattle.cip_event.specs.declared.event.Output.{Output}
use Rattle.cip_event.specs.declared.event.Output.TheVariants.{Send, Done, Refused, Consumed}
use Rattle.cip_event.specs.declared.event.Output.TheVariants.{Arrived, Expired, Ended, Dropped}
use Rattle.cip_event.specs.declared.event.Refused.{Refused as Refusal}
use Rattle.cip_event.specs.declared.event.Refused.TheVariants.{OpUsed, NotOpen, WrongSize}
use Rattle.cip_event.specs.declared.event.Refused.TheVariants.{ReservedService, NoInstance}
use Rattle.cip_event.specs.declared.event.Dropped.{Dropped as Drop}
use Rattle.cip_event.specs.declared.event.Dropped.TheVariants.{Malformed, Late, UnknownId}
use Rattle.cip_event.specs.declared.event.Dropped.TheVariants as dropped
use Rattle.cip_words.specs.Shown.{below, number_of, bytes_of}
use Rattle.cip_read.specs.Fields.{◌>>=◌, nth, of_words, port_of, address_of}

abbrev pub body_of : List ℕ → ℕ → List ℕ → Option Body
body_of kind number bytes =
    if bytes_eq kind (codes "request") then Some (Request number bytes)
    else if bytes_eq kind (codes "reply") then Some (Reply number bytes)
    else if bytes_eq kind (codes "data") then Some (Data number bytes)
    else None

-- `K send PORT ADDRESS request NUMBER BYTES`, and with `reply` or `data`
abbrev pub send_of : List (List ℕ) → Option Output
send_of w = do
  port ← port_of (nth w 4)
  to ← address_of (nth w 5)
  number ← below (2 ^ 32) (number_of (nth w 7))
  bytes ← bytes_of (nth w 8)
  body ← body_of (nth w 6) number bytes
  Some (Send port to body)

-- `K done OP BYTES`
abbrev pub done_of : List (List ℕ) → Option Output
done_of w = do
  op ← below (2 ^ 32) (number_of (nth w 4))
  reply ← bytes_of (nth w 5)
  Some (Done op reply)

abbrev pub refusal_of : List ℕ → Option Refusal
refusal_of word =
    if bytes_eq word (codes "OpUsed") then Some OpUsed
    else if bytes_eq word (codes "NotOpen") then Some NotOpen
    else if bytes_eq word (codes "WrongSize") then Some WrongSize
    else if bytes_eq word (codes "ReservedService") then Some ReservedService
    else if bytes_eq word (codes "NoInstance") then Some NoInstance
    else None

-- `K refused FAULT`
abbrev pub refused_of : List (List ℕ) → Option Output
refused_of w = refusal_of (nth w 4) >>= λ fault. Some (Refused fault)

abbrev pub triad_of : List (List ℕ) → Option Triad
triad_of w = do
  serial ← below (2 ^ 16) (number_of (nth w 4))
  vendor ← below (2 ^ 16) (number_of (nth w 5))
  originator ← below (2 ^ 32) (number_of (nth w 6))
  Some (record { serial = serial; vendor = vendor; originator = originator })

-- `K consumed TRIAD INSTANCE BYTES`
abbrev pub consumed_of : List (List ℕ) → Option Output
consumed_of w = do
  triad ← triad_of w
  instance ← below (2 ^ 32) (number_of (nth w 7))
  bytes ← bytes_of (nth w 8)
  Some (Consumed triad instance bytes)

-- `K arrived OP BYTES`
abbrev pub arrived_of : List (List ℕ) → Option Output
arrived_of w = do
  op ← below (2 ^ 32) (number_of (nth w 4))
  bytes ← bytes_of (nth w 5)
  Some (Arrived op bytes)

-- `K expired TRIAD`
abbrev pub expired_of : List (List ℕ) → Option Output
expired_of w = triad_of w >>= λ triad. Some (Expired triad)

-- `K ended OP`
abbrev pub ended_of : List (List ℕ) → Option Output
ended_of w = below (2 ^ 32) (number_of (nth w 4)) >>= λ op. Some (Ended op)

abbrev pub drop_of : List ℕ → Option Drop
drop_of word =
    if bytes_eq word (codes "Malformed") then Some Malformed
    else if bytes_eq word (codes "Late") then Some Late
    else if bytes_eq word (codes "UnknownId") then Some UnknownId
    else if bytes_eq word (codes "WrongSize") then Some dropped.WrongSize
    else None

-- `K dropped REASON`
abbrev pub dropped_of : List (List ℕ) → Option Output
dropped_of w = drop_of (nth w 4) >>= λ reason. Some (Dropped reason)

abbrev pub output_by : List ℕ → List (List ℕ) → Option Output
output_by word w =
    if bytes_eq word (codes "send") then of_words 9 w (send_of w)
    else if bytes_eq word (codes "done") then of_words 6 w (done_of w)
    else if bytes_eq word (codes "refused") then of_words 5 w (refused_of w)
    else if bytes_eq word (codes "consumed") then of_words 9 w (consumed_of w)
    else if bytes_eq word (codes "arrived") then of_words 6 w (arrived_of w)
    else if bytes_eq word (codes "expired") then of_words 7 w (expired_of w)
    else if bytes_eq word (codes "ended") then of_words 5 w (ended_of w)
    else if bytes_eq word (codes "dropped") then of_words 5 w (dropped_of w)
    else None

-- the word behind the number says what the others are
abbrev pub output_of : List (List ℕ) → Option Output
output_of w = output_by (nth w 3) w
