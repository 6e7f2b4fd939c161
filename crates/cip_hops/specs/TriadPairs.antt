-- How an index by triad is kept: its pairs in rising triad.
use Rattle.std.specs.FinMap as map
use Rattle.cip_base.specs.Triads.{triad_cmp}
use Rattle.cip_base.specs.Rising.{IsRising}
use Rattle.cip_base.specs.Index.{Index}
use Rattle.cip_hops.specs.declared.triads.TriadIndex.TheInside.{Inside}

abbrev pub IsTriads : Inside → Type 0
IsTriads t = IsRising triad_cmp t.pairs.items

abbrev pub triads : Inside → Index triad_cmp
triads t = record { room = t.pairs.room; keys = map.from_sorted t.pairs.items }
