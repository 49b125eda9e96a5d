-- What the crates above cite: lemmas on graphs and returning derivatives that speak of public definitions alone.
-- ---- what the quotients of a base's graph ask for
pub use Rattle.returning.proofs.Places.{place_reached, lead_inside}
pub use Rattle.returning.proofs.Classes.{root_known, lead_matrix, first_matrix, turn_matrix}
-- ---- returning derivatives have determinant one
pub use Rattle.returning.proofs.Areas.{returning_one}
