-- What the crates above cite: glued polygons are cut into one list of half-edges, and it is a triangulation.
-- there is one
pub use Rattle.ear_cut.proofs.Existence.{some_cutting}
-- and no other
pub use Rattle.ear_cut.proofs.Only.{one_cutting}
-- it is a triangulation
pub use Rattle.ear_cut.proofs.Triangulated.{triangulation}
