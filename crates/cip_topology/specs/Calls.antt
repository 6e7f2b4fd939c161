-- What a call that reads a table answers, beside what the rules say.
use Rattle.std.specs.Prelude.{◌≡◌, Result, Ok, Err}
use Rattle.cip_topology.specs.declared.fault.LoadFault.{LoadFault}
use Rattle.cip_topology.specs.declared.fault.LoadFault.TheVariants.{NotToml, NoMemory}
use Rattle.cip_topology.specs.Keys.{Read}

-- a fault is the one that reading gives, unless memory ran out
abbrev pub Fails : {A : Type 0} → LoadFault → Read A → Type 0
Fails NoMemory read = Unit {0}
Fails (NotToml syntax) read = ⊥
Fails fault read = read ≡ Err fault

-- what a call returned, seen by view, is what reading gives
abbrev pub Gives : {X A : Type 0} → (X → A) → Result X LoadFault → Read A → Type 0
Gives view (Ok x) read = read ≡ Ok (view x)
Gives view (Err fault) read = Fails fault read
