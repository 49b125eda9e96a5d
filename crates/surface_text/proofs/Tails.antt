-- What follows the word of a base line.
use Rattle.std.proofs.Common.{◌≡◌, ◌≢◌, ℕ, List, ◌∷◌, ap, sym, ◌∙◌}
use Rattle.surface_text.specs.declared.file.Point.{Point}
use Rattle.surface_text.specs.declared.fronts.Reading.{Reading}
use Rattle.surface_text.specs.Limits.{IsBoundedPoint}
use Rattle.surface_text.specs.Spelling.{point_text}
use Rattle.surface_text.specs.Readings.{IsReading, IsPointOf, IsTailPoint}
use Rattle.surface_text.proofs.Numbers.{same_reading}

-- behind a space
tail_is : (text : List ℕ) (at : Point) → 32 ∷ text ≡ 32 ∷ point_text at → text ≡ point_text at
tail_is text at e = cc

-- a point behind a space is read as the point
pub tail_point : (tail text : List ℕ) → tail ≡ 32 ∷ text → (r : Reading Point) → IsReading (IsPointOf text) IsBoundedPoint r → IsReading (IsTailPoint tail) IsBoundedPoint r
tail_point tail text head r read =
    same_reading (IsPointOf text) (IsTailPoint tail) IsBoundedPoint
    (λ at is. (head ∙ ap (λ (end : List ℕ). 32 ∷ end) is.0, is.1)) (λ at is. (tail_is text at (sym head ∙ is.0), is.1)) r read

-- no space, no point
pub no_point : (tail : List ℕ) → ((text : List ℕ) → tail ≢ 32 ∷ text) → (at : Point) → ¬ (IsTailPoint tail at)
no_point tail none at is = none (point_text at) is.0
