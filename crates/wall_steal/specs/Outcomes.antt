-- What a caller's outcome owes of deques whose rule asks nothing.
use Rattle.std.specs.Prelude.{ℕ, List, ⊤}
use Rattle.crossbeam_deque.specs.Tasks.{Takes, FindsFew}

-- the rule that asks nothing
abbrev pub Anything : {T : Type 0} → List T → List (Unit {0}) → Type 0
Anything items views = ⊤

-- whatever deque it is, a task that is taken tells `then`, and an empty deque tells `empty`
abbrev pub Tells : {T : Type 0} → (Unit {0} → List T → Unit {0} → Type 0) → (Unit {0} → Type 0) → Type 0
Tells {T} then empty = ((port : ℕ) → Takes {T = T} {V = Unit {0}} Anything port tt 1 (then tt)) × ((port : ℕ) → FindsFew {T = T} {V = Unit {0}} Anything 0 port tt (empty tt))
