-- What the crates above cite: lemmas on classes that speak of public definitions alone.
-- ---- the canonical triangulation of a class is one, as is what lies behind its walls
pub use Rattle.class_node.specs.Once.{class_valid, behind_valid}
-- ---- a class has one list of walls, one triangulation lies behind a wall, and a wall has one lead
pub use Rattle.class_node.specs.Once.{one_list_of_walls, one_behind, one_frame, one_lead}
