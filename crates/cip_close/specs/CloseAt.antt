-- What reading data as that of Forward_Close gives: each field at its place. Definitions above,
-- which go by cases on what was read, use these functions; the relation of `Close` says what they
-- have to be, and the laws of this crate tie the two.
use Rattle.std.specs.Prelude.{slice_index, slice_get, Option, Result}
use Rattle.cip_base.specs.Words.{Octets, WordCount}
use Rattle.cip_base.specs.declared.triad.Triad.{Triad}
use Rattle.cip_close.specs.declared.request.TheConstants.{CLOSE_FIXED_PART}
use Rattle.cip_message.specs.declared.fault.DataFault.{DataFault}
use Rattle.cip_message.specs.Numbers.{triad_in, triad_within}
use Rattle.cip_message.specs.Counted.{counted_path_at, with_part}
use Rattle.cip_close.specs.declared.request.CloseFields.{CloseFields}
use Rattle.cip_close.specs.Close.{Close, close_with}

abbrev pub close_fields_in : Octets → CloseFields
close_fields_in b = record {
  timing = record { tick = slice_index b 0; ticks = slice_index b 1 };
  triad = triad_in b 2;
}

abbrev pub close_in : Octets → Octets → Close
close_in b path = close_with (close_fields_in b) path

-- the record, or the first fault that fits: the path size is byte 10, and the path begins at byte
-- 12
unfoldable pub close_at : Octets → Result Close DataFault
close_at b = with_part (close_in b) (counted_path_at 10 CLOSE_FIXED_PART b)

-- the triad and the path size, each where its bytes are there
abbrev pub close_triad_of : Octets → Option Triad
close_triad_of b = triad_within b 2

abbrev pub close_words_of : Octets → Option WordCount
close_words_of b = slice_get b 10
