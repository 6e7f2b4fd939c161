-- Queues, one for each module.
use Rattle.std.specs.Prelude.{ℕ, List, [], ◌∷◌, ◌++◌, ◌+◌, length, get_or, set}
use Rattle.cip_base.specs.declared.numbers.ModuleId.{ModuleId}

-- the queue of module m
abbrev pub queue_at : {X : Type 0} → List (List X) → ℕ → List X
queue_at queues m = get_or queues m []

-- each of these at the end of its module's queue, one after the other
abbrev pub enqueue : {X : Type 0} → List (List X) → List (ModuleId × X) → List (List X)
enqueue queues [] = queues
enqueue queues (x ∷ xs) =
    enqueue (set queues x.0.0 (queue_at queues x.0.0 ++ x.1 ∷ [])) xs

-- how many are in all queues
abbrev pub count_all : {X : Type 0} → List (List X) → ℕ
count_all [] = 0
count_all (queue ∷ queues) = length queue + count_all queues
