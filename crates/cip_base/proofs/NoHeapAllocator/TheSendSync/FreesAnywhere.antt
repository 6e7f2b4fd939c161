use denote.Param.Send.{Frees}
use Rattle.cip_base.specs.contracts.NoHeapAllocator.TheImpl.{ghosts}

pub frees : Frees ghosts ghosts.dealloc_token
frees = record { frees = λ a τ p. tt }
