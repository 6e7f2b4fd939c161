-- The services of the two kinds of open are those of requests, those of their replies those of replies.
use Rattle.std.proofs.Common.{◌≤◌, ◌<◌, Bool, true, false, arith}
use Rattle.cip_open.specs.Kinds.{open_service, open_reply_service}

pub service_low : (large : Bool) → open_service large < 128
service_low true = omega arith
service_low false = omega arith

pub reply_service_high : (large : Bool) → 128 ≤ open_reply_service large
reply_service_high true = omega arith
reply_service_high false = omega arith
