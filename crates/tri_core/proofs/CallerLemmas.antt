-- What the crates above cite: lemmas on half-edges, triangles and flips that speak of public definitions alone.
use Rattle.std.proofs.Common.{◌≡◌, ℕ}
use Rattle.tri_core.specs.HalfEdges.{triangle_of, next_of, previous_of}
use Rattle.tri_core.specs.Flips.{number_after}
use Rattle.tri_core.proofs.Moves.{cycled-first, cycled-second, cycled-third, cycled-fourth, outer_four}
-- ---- numbers round a triangle
pub use Rattle.tri_core.proofs.Triangles.{side_next, side_previous, next_next, previous_previous, next_previous, previous_next, of_one_triangle}
-- ---- the vectors of a triangle: they sum to zero, the first turns to the left into the second; the same from the next one on; the third from the others
pub use Rattle.tri_core.proofs.Quadrilaterals.{IsTriple, triple_turned, triple_third, opposite_does_not_turn, from_opposite}
-- and of two triangles: the new diagonal with the sides behind it, and the sum of two sides by that of the others
pub use Rattle.tri_core.proofs.Quadrilaterals.{triple_first, across}
-- ---- a half-edge of a triangulation: its triangle, each of the three from the others, its twin
pub use Rattle.tri_core.proofs.Triangles.{IsTripleAt, triple_at, triple_along, IsTripleOf, triple_of, own_is, next_is, previous_is, opposite_of_twin}
pub use Rattle.tri_core.proofs.Triangles.{number_small, next_inside, previous_inside, twin_inside, triangle_inside}
pub use Rattle.tri_core.proofs.Triangles.{not_its_own, half_apart, edge_apart, half_or_twin, no_half_here, half_is}
-- ---- a set of triangles that is closed under twins and holds some triangle holds all
pub use Rattle.tri_core.proofs.Connected.{joined_from}
-- ---- half-edges are known by their vectors and twins
pub use Rattle.tri_core.proofs.Unique.{same_halves}
-- ---- the numbers before and after a flip
pub use Rattle.tri_core.proofs.Moves.{number_before, number_back, number_forth, number_injective, number_within, before_within}
pub use Rattle.tri_core.proofs.Moves.{number_same, first_not_outer, second_not_outer, outer_or_not, elsewhere_not_outer, outer_triangle, after_triangle}
-- ---- a flip: what it leaves, that it is one, from either half-edge, and a triangulation
pub use Rattle.tri_core.proofs.Leaves.{Leaves, leaves, number_from_twin, flip_from_twin}
pub use Rattle.tri_core.proofs.Unique.{one_flip}
pub use Rattle.tri_core.proofs.Flipped.{triangulation-flip}
-- ---- several flips: where half-edges go and come from, that there is one result, and that flips one after another are flips at once
pub use Rattle.tri_core.proofs.SeveralFlips.{number_following, number_preceding, number_staying, ComesFrom, comes_from, flipped_once}
pub use Rattle.tri_core.proofs.Folds.{bool_equal, among_more, among_cases, among_from, among_twin, one_more, all_first}
-- ---- images
pub use Rattle.tri_core.proofs.Images.{inverse_swapped, inverse_composed, forth_inside, back_inside, forth_back, forth_injective}
pub use Rattle.tri_core.proofs.Images.{previous_kept, frame_carried, image_turns_left, translation_vectors, translation_from, translation_same}
-- ---- half-edges with every vector mapped are the image, and a triangulation; and half-edges that are carried with next and twin are carried by a bijection
pub use Rattle.tri_core.proofs.Mapped.{mapped_image, mapped_valid}
pub use Rattle.tri_core.proofs.Bijections.{carried_inverse}

-- where the outer sides of the flip at h go, whose twin is g
module _ (h g : ℕ) (apart : ¬ (triangle_of h ≡ triangle_of g)) where
  pub number_of_next : number_after h g (next_of h) ≡ previous_of h
  number_of_next = cycled-first (next_of h) (previous_of h) (next_of g) (previous_of g) (next_of h) (λ i. next_of h)

  pub number_of_previous : number_after h g (previous_of h) ≡ next_of g
  number_of_previous = cycled-second (next_of h) (previous_of h) (next_of g) (previous_of g) (previous_of h) (outer_four h g apart) (λ i. previous_of h)

  pub number_of_next_of_twin : number_after h g (next_of g) ≡ previous_of g
  number_of_next_of_twin = cycled-third (next_of h) (previous_of h) (next_of g) (previous_of g) (next_of g) (outer_four h g apart) (λ i. next_of g)

  pub number_of_previous_of_twin : number_after h g (previous_of g) ≡ next_of h
  number_of_previous_of_twin = cycled-fourth (next_of h) (previous_of h) (next_of g) (previous_of g) (previous_of g) (outer_four h g apart) (λ i. previous_of g)
