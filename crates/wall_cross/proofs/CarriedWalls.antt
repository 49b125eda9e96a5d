-- The walls of an image: a line is one exactly where the carried line is, with the carried edges.
use Rattle.std.proofs.Common.{◌↔◌, ℕ, ◌<◌, List, length, sym, subst}
use Rattle.std.specs.List.{Contains}
use Rattle.rings.specs.Matrices.{Matrix, matrix_det}
use Rattle.rings.specs.Bounds.{HasPoint}
use Rattle.rings.proofs.Multiples.{multiple_through, multiple_swapped, multiple_zero}
use Rattle.quad_field.specs.declared.quad.Quad.{Quad}
use Rattle.quad_field.specs.FieldNumber.{IsFieldNumber}
use Rattle.quad_field.specs.Quads.{quad_ops, IsPositive}
use Rattle.quad_field.proofs.CallerLemmas.{quad_ring, order_of}
use Rattle.tri_core.specs.declared.half.Half.{Half}
use Rattle.tri_core.specs.Triangulation.{IsTriangulation}
use Rattle.tri_core.specs.Flips.{IsEdge}
use Rattle.tri_core.specs.Images.{IsImage}
use Rattle.tri_core.proofs.CallerLemmas.{forth_inside}
use Rattle.hinge_form.specs.Hinges.{Triple, full_triple}
use Rattle.hinge_form.specs.Lines.{IsMultiple}
use Rattle.hinge_form.specs.Walls.{IsEdgeOf, IsWallLine, IsWall}
use Rattle.wall_cross.specs.Pulled.{pushed}
use Rattle.wall_cross.specs.Edges.{IsEdgeName, AreMatching}
use Rattle.wall_cross.proofs.Pulled.{line_forth, line_back, point_forth, point_back}
use Rattle.wall_cross.proofs.CarriedEdges.{name_form, point_from_line, line_from_point}
use Rattle.wall_cross.proofs.CarriedHinges.{fourth_of, triple_carried, turns, fourth_positive}

module _ (d : ℕ) (field : IsFieldNumber d) where
  pub through : (l k j : Triple) → IsMultiple d l k → IsMultiple d k j → IsMultiple d l j
  through l k j h g = multiple_through (quad_ops d) (quad_ring d) (order_of d field) l k j h g

  pub swapped : (l k : Triple) → IsMultiple d l k → IsMultiple d k l
  swapped l k h = multiple_swapped (quad_ops d) (quad_ring d) (order_of d field) l k h

  -- the line of a positive multiple is the same wall
  pub line_of_multiple : (halves : List Half) (l k : Triple) → IsMultiple d l k → IsTriangulation d halves → IsWallLine d halves l → IsWallLine d halves k
  line_of_multiple halves l k h valid wall =
      let point = wall.1 in (
        wall.0,
        record {
          inside = point.inside;
          on = multiple_zero (quad_ops d) (quad_ring d) (order_of d field) l k wall.0 h point.on;
          others = λ e edge none. point.others e edge (λ m. none (through k l (full_triple d halves e) (swapped l k h) m));
        },
      )

module _ (d : ℕ) (field : IsFieldNumber d) (n : Matrix Quad) (m : ℕ) (from to : List Half) (forth back : ℕ → ℕ) (valid : IsTriangulation d from) (valid_to : IsTriangulation d to)
    (image : IsImage d n m from to forth back) where
  -- the pushed line is a wall exactly where the line is
  pub wall_forth : (l : Triple) → IsWallLine d from l → IsWallLine d to (pushed (quad_ops d) n l)
  wall_forth l wall =
      line_from_point d to valid_to (pushed (quad_ops d) n l)
      (subst (HasPoint (quad_ops d) (IsPositive d) (pushed (quad_ops d) n l) (full_triple d to)) (sym image.count)
      (point_forth (quad_ops d) (quad_ring d) (order_of d field) n (turns d field n m from to forth back valid valid_to image) (full_triple d from) (full_triple d to) (length from) forth back image.each_once
      (fourth_of d m) (matrix_det (quad_ops d) n) (fourth_positive d field n m from to forth back valid valid_to image) (turns d field n m from to forth back valid valid_to image)
      (triple_carried d field n m from to forth back valid valid_to image) l (point_from_line d from valid l wall)))

  pub wall_back : (l : Triple) → IsWallLine d to (pushed (quad_ops d) n l) → IsWallLine d from l
  wall_back l wall =
      line_from_point d from valid l
      (point_back (quad_ops d) (quad_ring d) (order_of d field) n (turns d field n m from to forth back valid valid_to image) (full_triple d from) (full_triple d to) (length from) forth back image.each_once
      (fourth_of d m) (matrix_det (quad_ops d) n) (fourth_positive d field n m from to forth back valid valid_to image) (turns d field n m from to forth back valid valid_to image)
      (triple_carried d field n m from to forth back valid valid_to image) l
      (subst (HasPoint (quad_ops d) (IsPositive d) (pushed (quad_ops d) n l) (full_triple d to)) image.count (point_from_line d to valid_to (pushed (quad_ops d) n l) wall)))

  -- the form of a half-edge and that of its image match
  pub forms_match : (k : ℕ) → k < length from → AreMatching d n (full_triple d from k) (full_triple d to (forth k))
  forms_match k below = (
    fourth_of d m,
    matrix_det (quad_ops d) n,
    fourth_positive d field n m from to forth back valid valid_to image,
    turns d field n m from to forth back valid valid_to image,
    triple_carried d field n m from to forth back valid valid_to image k below,
  )

  pub multiple_forth : (l : Triple) (k : ℕ) → k < length from → IsMultiple d l (full_triple d from k) → IsMultiple d (pushed (quad_ops d) n l) (full_triple d to (forth k))
  multiple_forth l k below h =
      line_forth (quad_ops d) (quad_ring d) (order_of d field) n (turns d field n m from to forth back valid valid_to image) (full_triple d from) (full_triple d to) (length from) forth back image.each_once
      (fourth_of d m) (matrix_det (quad_ops d) n) (fourth_positive d field n m from to forth back valid valid_to image) (turns d field n m from to forth back valid valid_to image)
      (triple_carried d field n m from to forth back valid valid_to image) l k below h

  pub multiple_back : (l : Triple) (k : ℕ) → k < length from → IsMultiple d (pushed (quad_ops d) n l) (full_triple d to (forth k)) → IsMultiple d l (full_triple d from k)
  multiple_back l k below h =
      line_back (quad_ops d) (quad_ring d) (order_of d field) n (turns d field n m from to forth back valid valid_to image) (full_triple d from) (full_triple d to) (length from) forth back image.each_once
      (fourth_of d m) (matrix_det (quad_ops d) n) (fourth_positive d field n m from to forth back valid valid_to image) (turns d field n m from to forth back valid valid_to image)
      (triple_carried d field n m from to forth back valid valid_to image) l k below h

  -- matching lines, l of the first and r of the image
  module _ (l r : Triple) (matching : AreMatching d n l r) where
    abbrev back_again : IsMultiple d r (pushed (quad_ops d) n l)
    back_again = swapped d field (pushed (quad_ops d) n l) r matching

    -- one is a wall exactly where the other is
    pub walls_match : IsWallLine d from l ↔ IsWallLine d to r
    walls_match = (
      λ wall. line_of_multiple d field to (pushed (quad_ops d) n l) r matching valid_to (wall_forth l wall),
      λ wall. wall_back l (line_of_multiple d field to r (pushed (quad_ops d) n l) back_again valid_to wall),
    )

    -- and their half-edges match
    pub halves_match : (k : ℕ) → k < length from → IsMultiple d l (full_triple d from k) ↔ IsMultiple d r (full_triple d to (forth k))
    halves_match k below = (
      λ h. through d field r (pushed (quad_ops d) n l) (full_triple d to (forth k)) back_again (multiple_forth l k below h),
      λ h. multiple_back l k below (through d field (pushed (quad_ops d) n l) r (full_triple d to (forth k)) matching h),
    )

    -- and so their edges
    pub edges_match : (h e : ℕ) → IsEdge from h → IsEdgeName to (forth h) e → IsEdgeOf d from l h ↔ IsEdgeOf d to r e
    edges_match h e edge name =
        let same = name_form d to valid_to (forth h) e (forth_inside d n m from to forth back image h edge.0) name in
        let both = halves_match h edge.0 in (
          λ own. (name.1, subst (IsMultiple d r) (sym same) (both.0 own.1)),
          λ own. (edge, both.1 (subst (IsMultiple d r) same own.1)),
        )

  -- the form of an edge and that of its image's edge
  pub edge_forms_match : (h e : ℕ) → IsEdge from h → IsEdgeName to (forth h) e → AreMatching d n (full_triple d from h) (full_triple d to e)
  edge_forms_match h e edge name =
      subst (AreMatching d n (full_triple d from h)) (sym (name_form d to valid_to (forth h) e (forth_inside d n m from to forth back image h edge.0) name))
      (forms_match h edge.0)

  -- two walls with one pair of matching edges: their forms match, and so do all their edges
  pub walls_with_an_edge : (l r : Triple) (edges others : List ℕ) (h e : ℕ) → IsWall d from l edges → IsWall d to r others → Contains edges h → IsEdgeName to (forth h) e → Contains others e
      → AreMatching d n l r × ((k i : ℕ) → IsEdge from k → IsEdgeName to (forth k) i → Contains edges k ↔ Contains others i)
  walls_with_an_edge l r edges others h e one two own name there =
      let of_l = (one.all.exactly h).0 own in
      let of_r = (two.all.exactly e).0 there in
      let matching : AreMatching d n l r =
      through d field (pushed (quad_ops d) n l) (full_triple d to e) r
      (subst (IsMultiple d (pushed (quad_ops d) n l)) (sym (name_form d to valid_to (forth h) e (forth_inside d n m from to forth back image h of_l.0.0) name))
      (multiple_forth l h of_l.0.0 of_l.1))
      (swapped d field r (full_triple d to e) of_r.1) in (
        matching,
        λ k i edge is.
            let both = edges_match l r matching k i edge is in (
              λ h. (two.all.exactly i).1 (both.0 ((one.all.exactly k).0 h)),
              λ h. (one.all.exactly k).1 (both.1 ((two.all.exactly i).0 h)),
            ),
      )

  -- the line of the image of a wall's edge is a wall
  pub wall_of_edge : (l : Triple) (edges : List ℕ) (h e : ℕ) → IsWall d from l edges → Contains edges h → IsEdgeName to (forth h) e → IsWallLine d to (full_triple d to e)
  wall_of_edge l edges h e wall own name =
      let of_l = (wall.all.exactly h).0 own in
      (walls_match (full_triple d from h) (full_triple d to e) (edge_forms_match h e of_l.0 name)).0
      (line_of_multiple d field from l (full_triple d from h) of_l.1 valid wall.line)
