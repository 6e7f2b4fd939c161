-- The order of frames' names.
use Rattle.std.specs.Prelude.{◌≡◌, List}
use Rattle.std.specs.Ordering.{nat_cmp, ordering_then}
use Rattle.std.specs.List.{AllByRecursion}
use Rattle.std.specs.List.Sorted.{IsStrictlySortedBy}
use Rattle.std.specs.declared.cmp.Ordering.{Ordering}
use Rattle.std.specs.declared.cmp.Ordering.TheVariants.{Less}
use Rattle.cip_event.specs.declared.frame.FrameName.{FrameName}

-- by entry, then by place among its outputs
abbrev pub name_cmp : FrameName → FrameName → Ordering
name_cmp f g = ordering_then (nat_cmp f.entry g.entry) (nat_cmp f.output g.output)

abbrev pub AreRising : List FrameName → Type 0
AreRising = IsStrictlySortedBy name_cmp

-- each of the names is below this one
abbrev pub AllBefore : FrameName → List FrameName → Type 0
AllBefore f = AllByRecursion (λ g. name_cmp g f ≡ Less)
