use Rattle.std.proofs.Common.{refl}
use Rattle.cip_target.proofs.Sizes.{answered_sizes, accepted_sizes, consumed_sizes, reset_keeps}
use Rattle.cip_target.proofs.laws.sizes_stay.Goals as goal

pub returns : goal.returns
returns c = record {
  made = λ identity configs i. refl;
  answered = answered_sizes;
  accepted = accepted_sizes;
  consumed = consumed_sizes;
  released = λ t configs i has. has;
  reset = reset_keeps;
}
