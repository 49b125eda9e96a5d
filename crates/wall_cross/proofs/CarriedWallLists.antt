-- The walls of an image correspond one to one.
use Rattle.std.proofs.Common.{◌≡◌, ℕ, ◌<◌, ◌≤◌, List, length, sym, ap, ◌∙◌, subst, arith, inl, inr}
use Rattle.std.specs.Prelude.{slice_index}
use Rattle.std.specs.List.{Contains}
use Rattle.std.proofs.lemmas.Bool.{cases_eq, cases_lt}
use Rattle.std.proofs.lemmas.List.Elements.{Contains-get_or}
use Rattle.std.proofs.lemmas.Grind.{get_or_default_zero}
use Rattle.rings.specs.Matrices.{Matrix}
use Rattle.quad_field.specs.declared.quad.Quad.{Quad}
use Rattle.quad_field.specs.FieldNumber.{IsFieldNumber}
use Rattle.quad_field.specs.Quads.{quad_ops}
use Rattle.quad_field.proofs.CallerLemmas.{quad_ring, order_of}
use Rattle.tri_core.specs.declared.half.Half.{Half}
use Rattle.tri_core.specs.HalfEdges.{twin_at}
use Rattle.tri_core.specs.Triangulation.{IsTriangulation}
use Rattle.tri_core.specs.Flips.{IsEdge}
use Rattle.tri_core.specs.Images.{IsImage}
use Rattle.tri_core.proofs.CallerLemmas.{forth_inside}
use Rattle.hinge_form.specs.Hinges.{Triple, full_triple}
use Rattle.hinge_form.specs.Lines.{IsMultiple}
use Rattle.hinge_form.specs.Walls.{IsWallLine}
use Rattle.wall_cross.specs.Pulled.{pushed}
use Rattle.wall_cross.specs.Edges.{AreMatching, IsEdgeName}
use Rattle.wall_cross.specs.Correspondence.{AreWalls, IsWallPair}
use Rattle.wall_cross.proofs.CarriedEdges.{edge_name}
use Rattle.wall_cross.proofs.CarriedHinges.{turns}
use Rattle.wall_cross.proofs.Pulled.{multiple_unpushed}
use Rattle.wall_cross.proofs.CarriedWalls.{through, swapped, walls_with_an_edge, wall_of_edge, wall_back, edge_forms_match, line_of_multiple}

-- in a list that ascends the first is the least
pub first_least : (numbers : List ℕ) → ((i j : ℕ) → i < j → j < length numbers → slice_index numbers i < slice_index numbers j) → (h : ℕ) → Contains numbers h → slice_index numbers 0 ≤ h
first_least numbers up h there =
    let at : slice_index numbers there.0 ≡ h = sym (get_or_default_zero numbers there.0 h there.1) ∙ there.2 in
    elim (cases_eq there.0 0) [
      | inl e ↦ let same : slice_index numbers 0 ≡ h = ap (slice_index numbers) (sym e) ∙ at in omega arith
      | inr ne ↦ let less : slice_index numbers 0 < slice_index numbers there.0 = up 0 there.0 (omega arith) there.1 in omega (arith, less, at)
    ]

module _ (d : ℕ) (field : IsFieldNumber d) where
  module _ (halves : List Half) (count : ℕ) (form : ℕ → Triple) (edges : ℕ → List ℕ) (walls : AreWalls d halves count form edges) where
    -- a wall has an edge, its least
    pub has_least : (j : ℕ) → j < count → Contains (edges j) (slice_index (edges j) 0)
    has_least j below = let some = (walls.each j below).some in Contains-get_or (edges j) 0 0 (omega arith)

    least_before : (i j : ℕ) → i < count → j < count → IsMultiple d (form i) (form j) → slice_index (edges i) 0 ≤ slice_index (edges j) 0
    least_before i j a b h =
        let one = walls.each i a in
        let two = walls.each j b in
        let e = slice_index (edges j) 0 in
        let own = (two.all.exactly e).0 (has_least j b) in
        first_least (edges i) one.all.ascends e ((one.all.exactly e).1 (own.0, through d field (form i) (form j) (full_triple d halves e) h own.1))

    -- two walls of one line are one
    pub one_wall : (i j : ℕ) → i < count → j < count → IsMultiple d (form i) (form j) → i ≡ j
    one_wall i j a b h =
        let here = least_before i j a b h in
        let there = least_before j i b a (swapped d field (form i) (form j) h) in
        elim (cases_eq i j) [
          | inl e ↦ e
          | inr ne ↦ elim (cases_lt i j) [
            | inl less ↦ let up = walls.ascends i j less b in absurd (omega arith)
            | inr not ↦ let up = walls.ascends j i (omega arith) a in absurd (omega arith)
          ]
        ]

module _ (d : ℕ) (field : IsFieldNumber d) (n : Matrix Quad) (m : ℕ) (from to : List Half) (forth back : ℕ → ℕ) (valid : IsTriangulation d from) (valid_to : IsTriangulation d to)
    (image : IsImage d n m from to forth back) (count count_to : ℕ) (form form_to : ℕ → Triple) (edges edges_to : ℕ → List ℕ) (walls : AreWalls d from count form edges)
    (walls_to : AreWalls d to count_to form_to edges_to) where
  abbrev Pair : ℕ → ℕ → Type 0
  Pair i j = IsWallPair d n from to forth (form i) (form_to j) (edges i) (edges_to j)

  -- a pair from one edge of each
  pair_by : (i j h e : ℕ) → i < count → j < count_to → Contains (edges i) h → IsEdgeName to (forth h) e → Contains (edges_to j) e → Pair i j
  pair_by i j h e a b own name there =
      let both = walls_with_an_edge d field n m from to forth back valid valid_to image (form i) (form_to j) (edges i) (edges_to j) h e (walls.each i a) (walls_to.each j b) own name there in
      record { same_line = both.0; same_edges = both.1 }

  -- each wall has one of the image
  pub wall_to : (i : ℕ) → i < count → (j : ℕ) × (j < count_to) × IsWallPair d n from to forth (form i) (form_to j) (edges i) (edges_to j)
  wall_to i below =
      let wall = walls.each i below in
      let h = slice_index (edges i) 0 in
      let own = has_least d field from count form edges walls i below in
      let edge = ((wall.all.exactly h).0 own).0 in
      let name = edge_name d to valid_to (forth h) (forth_inside d n m from to forth back image h edge.0) in
      let found = walls_to.every name.0 name.1.1 (wall_of_edge d field n m from to forth back valid valid_to image (form i) (edges i) h name.0 wall own name.1) in
      (found.0, found.1, pair_by i found.0 h name.0 below found.1 own name.1 found.2)

  -- each edge of the image is that of an edge
  edge_back : (e : ℕ) → IsEdge to e → (h : ℕ) × IsEdge from h × IsEdgeName to (forth h) e
  edge_back e edge =
      let inside = subst (λ l. e < l) image.count edge.0 in
      let k = back e in
      let at = image.each_once.back_inside e inside in
      let is = image.each_once.forth_back e inside in
      let name = edge_name d from valid k at in (
        name.0,
        name.1.1,
        (
          elim name.1.0 [
            | inl same ↦ inl (sym is ∙ ap forth (sym same))
            | inr same ↦
                inr (sym is ∙ ap forth (sym (valid.paired k at).1) ∙ image.twin (twin_at from k) (valid.paired k at).0 ∙ ap (λ m. twin_at to (forth m)) (sym same))
          ],
          edge,
        ),
      )

  -- each wall of the image has one
  pub wall_from : (j : ℕ) → j < count_to → (i : ℕ) × (i < count) × IsWallPair d n from to forth (form i) (form_to j) (edges i) (edges_to j)
  wall_from j below =
      let wall = walls_to.each j below in
      let e = slice_index (edges_to j) 0 in
      let own = has_least d field to count_to form_to edges_to walls_to j below in
      let of_e = (wall.all.exactly e).0 own in
      let h = edge_back e of_e.0 in
      let there : IsWallLine d to (full_triple d to e) = line_of_multiple d field to (form_to j) (full_triple d to e) of_e.1 valid_to wall.line in
      let pushed_there : IsWallLine d to (pushed (quad_ops d) n (full_triple d from h.0)) =
      line_of_multiple d field to (full_triple d to e) (pushed (quad_ops d) n (full_triple d from h.0))
      (swapped d field (pushed (quad_ops d) n (full_triple d from h.0)) (full_triple d to e) (edge_forms_match d field n m from to forth back valid valid_to image h.0 e h.1 h.2)) valid_to there in
      let found = walls.every h.0 h.1 (wall_back d field n m from to forth back valid valid_to image (full_triple d from h.0) pushed_there) in
      (found.0, found.1, pair_by found.0 j h.0 e found.1 below found.2 h.2 own)

  -- and only one
  pub one_to : (i j k : ℕ) → j < count_to → k < count_to → AreMatching d n (form i) (form_to j) → AreMatching d n (form i) (form_to k) → j ≡ k
  one_to i j k a b h g =
      one_wall d field to count_to form_to edges_to walls_to j k a b
      (through d field (form_to j) (pushed (quad_ops d) n (form i)) (form_to k) (swapped d field (pushed (quad_ops d) n (form i)) (form_to j) h) g)

  pub one_from : (i j k : ℕ) → i < count → j < count → AreMatching d n (form i) (form_to k) → AreMatching d n (form j) (form_to k) → i ≡ j
  one_from i j k a b h g =
      one_wall d field from count form edges walls i j a b
      (multiple_unpushed (quad_ops d) (quad_ring d) (order_of d field) n (turns d field n m from to forth back valid valid_to image) (form i) (form j)
      (through d field (pushed (quad_ops d) n (form i)) (form_to k) (pushed (quad_ops d) n (form j)) h (swapped d field (pushed (quad_ops d) n (form j)) (form_to k) g)))
