-- The two services that open a connection: Forward_Open, service 54, and Large_Forward_Open,
-- service 5B, of the Connection Manager (Volume 1, chapter 3, Forward_Open and Large_Forward_Open).
-- A large open has its network connection parameters in double words; all else is alike.
use Rattle.std.specs.Prelude.{ℕ, ◌+◌, ◌*◌, Bool, if◌then◌else◌}
use Rattle.cip_base.specs.Fields.{word, double}
use Rattle.cip_base.specs.Words.{Octets}
use Rattle.cip_message.specs.Numbers.{word_in, double_in}
use Rattle.cip_open.specs.declared.kinds.TheConstants.{FORWARD_OPEN, LARGE_FORWARD_OPEN, FORWARD_OPEN_REPLY, LARGE_FORWARD_OPEN_REPLY}

-- the service of the request, and that of its reply
abbrev pub open_service : Bool → ℕ
open_service large = if large then LARGE_FORWARD_OPEN else FORWARD_OPEN

abbrev pub open_reply_service : Bool → ℕ
open_reply_service large = if large then LARGE_FORWARD_OPEN_REPLY else FORWARD_OPEN_REPLY

-- the bytes of one direction's network connection parameters
abbrev pub params_width : Bool → ℕ
params_width large = if large then 4 else 2

abbrev pub params_bytes : Bool → ℕ → Octets
params_bytes large p = if large then double p else word p

abbrev pub params_in : Bool → Octets → ℕ → ℕ
params_in large b i = if large then double_in b i else word_in b i

-- where the path size in words stands in the data
abbrev pub words_place : Bool → ℕ
words_place large = 31 + 2 * params_width large

-- the bytes of the data before the path
abbrev pub open_fixed_part : Bool → ℕ
open_fixed_part large = 32 + 2 * params_width large
