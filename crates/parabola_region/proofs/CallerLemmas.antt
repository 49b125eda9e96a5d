-- What the crates above cite.
-- ---- two walls with an edge in common are one, and a triangulation has one list of walls
pub use Rattle.parabola_region.proofs.OneList.{one_wall, one_list}
