use Rattle.std.proofs.Common.{ℕ, suc, subst, arith}
use Rattle.std.specs.Int.{IsGcd}
use Rattle.std.proofs.lemmas.Int.{ints}
use Rattle.std.proofs.Math.Nat.{dvd-sub, one-dvd}
use Prim.Native.Nat.{◌∣◌}
use Rattle.hinge_form.proofs.tests.places_base_points.Goals as goal

-- 1 and n have no common divisor, and n and n + 1 have none
of_one : (n : ℕ) → IsGcd 1 n 1
of_one n = (one-dvd 1, one-dvd n, λ k p q. p)

by_one : (n : ℕ) → IsGcd n 1 1
by_one n = (one-dvd n, one-dvd 1, λ k p q. q)

of_neighbours : (n : ℕ) → IsGcd (suc n) n 1
of_neighbours n = (one-dvd (suc n), one-dvd n, λ k p q. subst (λ m. k ∣ m) (omega arith) (dvd-sub k p q))

pub place_of-requires : goal.place_of-requires
place_of-requires c _ = record { form = ((omega (arith, ints), λ _ _. by_one 0), (omega (arith, ints), λ _ _. of_one 1)); bounded = (omega arith, omega arith, omega arith, omega arith); above = omega (arith, ints) }

pub place_of-requires-2 : goal.place_of-requires-2
place_of-requires-2 c _ = record { form = ((omega (arith, ints), λ _ _. of_one 10), (omega (arith, ints), λ _ _. of_neighbours 10)); bounded = (omega arith, omega arith, omega arith, omega arith); above = omega (arith, ints) }

pub place_of-requires-3 : goal.place_of-requires-3
place_of-requires-3 c _ = record { form = ((omega (arith, ints), λ _ _. of_one 2), (omega (arith, ints), λ _ _. of_neighbours 3)); bounded = (omega arith, omega arith, omega arith, omega arith); above = omega (arith, ints) }
