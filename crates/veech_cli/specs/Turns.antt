-- The turns of classes, or why they are not found.
use Rattle.std.specs.Prelude.{◌≡◌, ℕ, ℤ, ◌+◌, ◌*◌, ◌/◌, ◌%◌, ◌<◌, List, Result, length, map, min, IfOk, IfErr}
use Rattle.std.specs.Fork.{slice_chunk}
use Rattle.terrain.specs.Places.{IsAt}
use Rattle.std.specs.Global.{Vec}
use Rattle.plane.specs.Matrices.{FieldMatrix}
use Rattle.returning.specs.Turns.{AreTurns}
use Rattle.veech_cli.specs.declared.refusal.Refusal.{Refusal}
use Rattle.veech_cli.specs.Surfaces.{RefusesTurns}

-- the turns of these classes, or what refuses them
abbrev pub AreTurnsFound : ℕ → List (List ℤ) → Result (Vec (Vec FieldMatrix)) Refusal → Type 0
AreTurnsFound d codes found = IfOk found (λ turns. AreTurns d codes (map (λ v. v.items) turns.items)) × IfErr found (λ refusal. RefusesTurns d codes refusal.status)

-- what is found of the turns of classes, chunk by chunk of so many
pub record AreParts (d : ℕ) (codes : List (List ℤ)) (size : ℕ) (parts : List (Result (Vec (Vec FieldMatrix)) Refusal)) : Type 0 where
  pub some : 0 < size
  pub count : length parts ≡ length codes / size + min 1 (length codes % size)
  pub inside : (i : ℕ) → i < length parts → i * size < length codes
  pub each : (i : ℕ) (part : Result (Vec (Vec FieldMatrix)) Refusal) → IsAt parts i part → AreTurnsFound d (slice_chunk codes size i) part
