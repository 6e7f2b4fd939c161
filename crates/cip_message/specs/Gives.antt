-- A reader gives what reading gives: the same value, seen by a view, or the same fault.
use Rattle.std.specs.Prelude.{◌≡◌, Result, Ok, Err}

abbrev pub Gives : {X Y E : Type 0} → (X → Y) → Result X E → Result Y E → Type 0
Gives view (Ok x) read = read ≡ Ok (view x)
Gives view (Err e) read = read ≡ Err e
