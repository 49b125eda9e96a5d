-- What divides the numbers of a list, part by part.
use Rattle.std.specs.Prelude.{◌≡◌, ℕ, ◌<◌, ℤ, pos, ◌*ℤ◌, ◌<ℤ◌, List, map, unsigned_abs}
use Rattle.std.specs.List.{All}
use Prim.Native.Nat.{◌∣◌}
use Rattle.quad_field.specs.declared.quad.Quad.{Quad}
use Rattle.quad_field.specs.Quads.{scaled}

-- k divides both parts
abbrev pub DividesParts : ℕ → Quad → Type 0
DividesParts k x = (k ∣ unsigned_abs x.a) × (k ∣ unsigned_abs x.b)

-- k is a common divisor of all parts of the list
abbrev pub DividesAll : ℕ → List Quad → Type 0
DividesAll k xs = All (DividesParts k) xs

-- no whole number above 1 divides all parts of the list
abbrev pub IsPrimitive : List Quad → Type 0
IsPrimitive xs = (k : ℕ) → DividesAll k xs → k ≡ 1

-- the numbers xs over d are the numbers ys over e: a whole g above zero is cancelled
abbrev pub IsCancelled : List Quad → ℤ → List Quad → ℤ → Type 0
IsCancelled xs d ys e = (g : ℤ) × (pos 0 <ℤ g) × (xs ≡ map (scaled g) ys) × (d ≡ e *ℤ g)

-- g is the greatest common divisor of d and all parts of the list, above zero
pub record IsCommonDivisor (xs : List Quad) (d : ℤ) (g : ℕ) : Type 0 where
  pub positive : 0 < g
  pub of_number : g ∣ unsigned_abs d
  pub of_list : DividesAll g xs
  pub greatest : (k : ℕ) → k ∣ unsigned_abs d → DividesAll k xs → k ∣ g
