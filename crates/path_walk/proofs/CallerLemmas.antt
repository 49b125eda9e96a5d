-- What the crates above cite: lemmas on walks that speak of public definitions alone.
pub use Rattle.path_walk.proofs.Walks.{stands_once, no_end_without_wall, no_end_wide, one_stop, wall_or_wide, end_reached}
