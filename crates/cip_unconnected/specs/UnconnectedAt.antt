-- What reading data as that of Unconnected_Send gives. Definitions above, which go by cases on what
-- was read, use these functions; the relation of `Unconnected` says what they have to be, and the
-- laws of this crate tie the two together.
use Rattle.std.specs.Prelude.{ℕ, ◌+◌, ◌%◌, take, drop, slice_index, slice_get, Option, Result, Ok, Err}
use Rattle.cip_base.specs.Words.{Octets, WordCount}
use Rattle.cip_message.specs.declared.fault.DataFault.{DataFault}
use Rattle.cip_message.specs.declared.fault.DataFault.TheVariants as data_faults
use Rattle.cip_message.specs.Numbers.{word_in}
use Rattle.cip_message.specs.Counted.{counted_path_at}
use Rattle.cip_unconnected.specs.declared.fault.UnconnectedFault.{UnconnectedFault}
use Rattle.cip_unconnected.specs.declared.fault.UnconnectedFault.TheVariants.{Short, Long, Route}
use Rattle.cip_unconnected.specs.Unconnected.{Unconnected}

-- where the route size stands: behind the embedded request and its pad
abbrev pub route_place : Octets → ℕ
route_place b = 4 + (word_in b 2 + word_in b 2 % 2)

-- the record, once its route was read
abbrev pub with_route : Octets → Result Octets DataFault → Result Unconnected UnconnectedFault
with_route b (Ok route) =
    Ok (record {
      timing = record { tick = slice_index b 0; ticks = slice_index b 1 };
      request = take (word_in b 2) (drop 4 b);
      route = route;
    })
with_route b (Err data_faults.Short) = Err Short
with_route b (Err data_faults.Long) = Err Long
with_route b (Err (data_faults.Path f)) = Err (Route f)

-- the record, or the first fault that fits
unfoldable pub unconnected_at : Octets → Result Unconnected UnconnectedFault
unconnected_at b = with_route b (counted_path_at (route_place b) (route_place b + 2) b)

-- the route size, in words, where its byte is there
abbrev pub route_words_of : Octets → Option WordCount
route_words_of b = slice_get b (route_place b)
