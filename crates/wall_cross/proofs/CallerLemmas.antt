-- What the crates above cite: lemmas on flips at once, walls and crossings that speak of public definitions alone.
-- ---- flips at all members of a set
-- where the half-edges of a member's two triangles go, and that its twin is kept
pub use Rattle.wall_cross.proofs.AtOnce.{twin_member, member_stays, member_twin, next_goes, previous_goes, number_inside, still_inside}
-- the vectors there afterwards
pub use Rattle.wall_cross.proofs.AtOnce.{at_previous, at_next, at_next_of_twin, at_twin}
-- a triangulation again, where the members' quadrilaterals are strictly convex
pub use Rattle.wall_cross.proofs.AtOnce.{flipped_valid}
-- the value and the triple of a member are the opposite ones
pub use Rattle.wall_cross.proofs.Values.{member_value, member_triple}
-- the same flips once more lead back
pub use Rattle.wall_cross.proofs.Back.{flipped_back}
-- ---- walls
-- no two sides of a triangle have the line of one wall
pub use Rattle.wall_cross.proofs.Sides.{on_wall_convex, sides_apart}
-- the half-edges of a wall's edges are those on its line; each edge is listed once, and of a triangle one side at most
pub use Rattle.wall_cross.proofs.Members.{place_of, listed, listed_inside, listed_fresh, on_line, from_line, wall_spread, first_spread, member_convex, member_zero, other_positive}
pub use Rattle.wall_cross.proofs.Orders.{none_shared}
-- ---- crossings
-- the flips one after another, in the wall's order or another, are all flips, and what they leave is only one
pub use Rattle.wall_cross.proofs.Ahead.{all_flipped}
pub use Rattle.wall_cross.proofs.Orders.{in_any_order, one_crossing}
-- what lies behind a wall: a triangulation, strict at some half-plane point, with known signs at the wall's points and the same edges for a wall
pub use Rattle.wall_cross.proofs.Behind.{crossing_valid, strict_behind, edge_behind, opposite_behind, wall_behind}
pub use Rattle.wall_cross.proofs.Crossed.{crossing_of_wall, wall_again, crossed_back}
-- ---- paths
pub use Rattle.wall_cross.proofs.Paths.{reached_itself, reached_behind, reached_crossing}
