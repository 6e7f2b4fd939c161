-- The network connection parameters of one direction of a connection, in a word or, of a large
-- open, in a double word (Volume 1, chapter 3, network connection parameters).
use Rattle.std.specs.Prelude.{ℕ, ◌/◌, ◌%◌, ◌==◌, Bool, if◌then◌else◌}
use Rattle.cip_open.specs.declared.parameters.Priority.{Priority}
use Rattle.cip_open.specs.declared.parameters.Priority.TheVariants.{Low, High, Scheduled, Urgent}
use Rattle.cip_open.specs.declared.parameters.ConnectionKind.{ConnectionKind}
use Rattle.cip_open.specs.declared.parameters.ConnectionKind.TheVariants.{Null, Multicast, PointToPoint, Reserved}
use Rattle.cip_open.specs.declared.parameters.Params.{Params}

-- bits 11 to 10
abbrev pub priority_of : ℕ → Priority
priority_of n =
    if n == 0 then Low else if n == 1 then High else if n == 2 then Scheduled else Urgent

-- bits 14 to 13
abbrev pub kind_of : ℕ → ConnectionKind
kind_of n =
    if n == 0 then Null else if n == 1 then Multicast else if n == 2 then PointToPoint else Reserved

-- of this word: bit 9 says that the size varies, bit 15 that an owner may be redundant; bit 12 is
-- reserved
abbrev pub sized : ℕ → ℕ → Params
sized size w = record {
  size = size;
  variable = (w / 512) % 2 == 1;
  priority = priority_of ((w / 1024) % 4);
  kind = kind_of ((w / 8192) % 4);
  redundant = (w / 32768) % 2 == 1;
}

-- bits 8 to 0 are the size
abbrev pub params_of : ℕ → Params
params_of w = sized (w % 512) w

-- bits 15 to 0 are the size; the high word is laid out as the word above
abbrev pub large_params_of : ℕ → Params
large_params_of w = sized (w % 65536) (w / 65536)

-- of an open that is large or not
abbrev pub open_params_of : Bool → ℕ → Params
open_params_of large w = if large then large_params_of w else params_of w

-- the parameters with these parts, each as its bits say it
abbrev pub parts : ℕ → ℕ → ℕ → ℕ → ℕ → Params
parts size variable priority kind redundant = record {
  size = size;
  variable = variable == 1;
  priority = priority_of priority;
  kind = kind_of kind;
  redundant = redundant == 1;
}
