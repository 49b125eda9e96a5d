-- What the crates above cite of images, their walls and their crossings: lemmas about public definitions alone.
-- ---- images: composed, the way back, the inverse, by another writing of the matrix; an image of a triangulation is one
pub use Rattle.wall_cross.proofs.CarriedImages.{image_composed, image_inverse, image_rewritten}
pub use Rattle.wall_cross.proofs.CarriedImages.{back_once, back_next, back_twin, translation_back, translation_then_image, image_then_translation}
pub use Rattle.wall_cross.proofs.ValidImages.{image_valid}
-- ---- places and forms: heights, half-plane points, positive multiples
pub use Rattle.wall_cross.proofs.Pulled.{pulled_length, pulled_inside, pulled_onto, multiple_pulled, multiple_unpulled, pushed_value, pushed_onto, multiple_pushed, multiple_unpushed}
-- ---- the edge of a half-edge has its form
pub use Rattle.wall_cross.proofs.CarriedEdges.{edge_name, name_form, each_half}
-- ---- what is carried: the forms of half-edges and edges, strictness at a point, wall lines and their half-edges, lists of walls
pub use Rattle.wall_cross.proofs.CarriedHinges.{strict_forth, strict_back}
pub use Rattle.wall_cross.proofs.CarriedWalls.{forms_match, edge_forms_match, walls_match, halves_match, edges_match, walls_with_an_edge, line_of_multiple}
pub use Rattle.wall_cross.proofs.CarriedWallLists.{one_wall, wall_to, wall_from, one_to, one_from}
-- ---- flips at once: they can be made, and those of an image leave the image
pub use Rattle.wall_cross.proofs.CarriedExistence.{flipped_some}
pub use Rattle.wall_cross.proofs.CarriedFlips.{all_flipped_image}
-- ---- crossings: each is a triangulation and has an image; those of one wall and of the wall that it is carried to; those of a class
pub use Rattle.wall_cross.proofs.CarriedClasses.{cross_valid, cross_image, class_crossing}
pub use Rattle.wall_cross.proofs.CarriedReach.{wall_crossed, wall_carried, crossing_carried}
-- ---- what is reached: triangulations, and it is carried; from behind a wall, and from what is reached, a path leads back
pub use Rattle.wall_cross.proofs.CarriedReach.{reached_valid, reached_image}
pub use Rattle.wall_cross.proofs.CarriedBack.{crossed_over, reached_through, reached_back}
