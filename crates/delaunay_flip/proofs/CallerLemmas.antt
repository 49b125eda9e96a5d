-- What the crates above cite: lemmas on bases and on how the flipping ends, about public definitions alone.
use Rattle.std.proofs.Common.{ℕ, List, sym, subst}
use Rattle.surface_text.specs.declared.file.Point.{Point}
use Rattle.quad_field.specs.FieldNumber.{IsFieldNumber}
use Rattle.surface_text.specs.Limits.{IsBasePoint}
use Rattle.tri_core.specs.declared.half.Half.{Half}
use Rattle.tri_core.specs.Triangulation.{IsTriangulation}
use Rattle.hinge_form.specs.Hinges.{IsStrictAt, place_at}
use Rattle.hinge_form.proofs.CallerLemmas.{place_inside}
use Rattle.delaunay_flip.specs.Bases.{Ending, EndsAt}
use Rattle.delaunay_flip.proofs.Flips.{after_valid}
-- ---- the standard points are base points
pub use Rattle.delaunay_flip.proofs.Fractions.{within}
-- ---- at a point the flipping ends in one way, and it ends
pub use Rattle.delaunay_flip.proofs.Endings.{one_ending}
pub use Rattle.delaunay_flip.proofs.Ends.{some_ending}
-- ---- and so over a list of points
pub use Rattle.delaunay_flip.proofs.Listing.{one_listed}
pub use Rattle.delaunay_flip.proofs.Ends.{some_listed}

-- ---- the triangulation in which the flipping ends is strict at the point
pub strict_there : (d : ℕ) (halves later : List Half) (at : Point) (most n : ℕ) → EndsAt d halves at most (Ending.strict later n) → IsStrictAt d later (place_at at)
strict_there d halves later at most n (m, last, come, (e, _, _, is)) = subst (λ x. IsStrictAt d x (place_at at)) (sym e) is

-- and it is a triangulation
pub valid_there : (d : ℕ) → IsFieldNumber d → (halves later : List Half) → IsTriangulation d halves → (at : Point) → IsBasePoint at → (most n : ℕ) → EndsAt d halves at most (Ending.strict later n)
    → IsTriangulation d later
valid_there d field halves later valid at inside most n (m, last, come, (e, _, _, is)) =
    subst (IsTriangulation d) (sym e) (after_valid d field (place_at at) (place_inside d at inside) m halves last valid come.after)
