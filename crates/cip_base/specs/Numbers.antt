-- How an index by number is kept: its pairs in rising number.
use Rattle.std.specs.Ordering.{nat_cmp}
use Rattle.std.specs.FinMap as map
use Rattle.cip_base.specs.Rising.{IsRising}
use Rattle.cip_base.specs.Index.{Index}
use Rattle.cip_base.specs.declared.index.NumberIndex.TheInside.{Inside}

abbrev pub IsNumbers : Inside → Type 0
IsNumbers t = IsRising nat_cmp t.pairs.items

abbrev pub numbers : Inside → Index nat_cmp
numbers t = record { room = t.pairs.room; keys = map.from_sorted t.pairs.items }
