-- What reading data as that of an open gives: each field at its place. Definitions above,
-- which go by cases on what was read, use these functions; the relation of `Open` says what they
-- have to be, and the laws of this crate tie the two.
use Rattle.std.specs.Prelude.{◌+◌, ◌*◌, Bool, slice_index, slice_get, Option, Result}
use Rattle.cip_base.specs.Words.{Octets, WordCount}
use Rattle.cip_base.specs.declared.triad.Triad.{Triad}
use Rattle.cip_message.specs.declared.fault.DataFault.{DataFault}
use Rattle.cip_message.specs.Numbers.{double_in, triad_in, triad_within}
use Rattle.cip_message.specs.Counted.{counted_path_at, with_part}
use Rattle.cip_open.specs.declared.request.OpenFields.{OpenFields}
use Rattle.cip_open.specs.Kinds.{params_width, params_in, words_place, open_fixed_part}
use Rattle.cip_open.specs.Open.{Open, open_with}

abbrev pub open_fields_in : Bool → Octets → OpenFields
open_fields_in large b = record {
  timing = record { tick = slice_index b 0; ticks = slice_index b 1 };
  ot_id = double_in b 2;
  to_id = double_in b 6;
  triad = triad_in b 10;
  multiplier = slice_index b 18;
  ot_rpi = double_in b 22;
  ot_params = params_in large b 26;
  to_rpi = double_in b (26 + params_width large);
  to_params = params_in large b (30 + params_width large);
  transport = slice_index b (30 + 2 * params_width large);
  large = large;
}

abbrev pub open_in : Bool → Octets → Octets → Open
open_in large b path = open_with (open_fields_in large b) path

-- the record, or the first fault that fits: of a Forward_Open the path size is byte 35, and the
-- path begins at byte 36; of a Large_Forward_Open byte 39, and byte 40
unfoldable pub open_at : Bool → Octets → Result Open DataFault
open_at large b =
    with_part (open_in large b) (counted_path_at (words_place large) (open_fixed_part large) b)

-- the triad and the path size, each where its bytes are there
abbrev pub open_triad_of : Octets → Option Triad
open_triad_of b = triad_within b 10

abbrev pub open_words_of : Bool → Octets → Option WordCount
open_words_of large b = slice_get b (words_place large)
