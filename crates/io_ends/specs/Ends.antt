-- What a call does to the bytes of an end and to its count of faults.
use Rattle.std.specs.Prelude.{ℕ, ◌+◌, ◌-◌, ◌^◌, ◌≤◌, min, List, ◌++◌, drop}
use Rattle.std.specs.Option.{option_map}
use Rattle.std.specs.declared.option.Option.{Option}

-- a count of faults that is raised by one, and stands still at its type's end
abbrev pub count_after : ℕ → ℕ
count_after count = min (count + 1) (2 ^ 64 - 1)

-- the count of faults rose, or stands at its type's end
abbrev pub Rose : ℕ → ℕ → Type 0
Rose before now = count_after before ≤ now

-- the first n bytes that were left were given, where the source tells them
abbrev pub given : ℕ → Option (List ℕ) → Option (List ℕ)
given n left = option_map (drop n) left

-- the piece was taken after what had been taken, where the sink tells it
abbrev pub taken_after : Option (List ℕ) → List ℕ → Option (List ℕ)
taken_after taken piece = option_map (λ bytes. bytes ++ piece) taken
