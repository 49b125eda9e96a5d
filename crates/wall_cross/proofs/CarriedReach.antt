-- Each wall has one of an image that it is carried to, each crossing an image, and so what is reached.
use Rattle.std.proofs.Common.{◌≡◌, ◌⊎◌, ℕ, zero, suc, ◌<◌, ◌≤◌, Bool, true, false, List, length, refl, sym, subst, arith, inl, inr}
use Rattle.std.specs.Prelude.{◌&&◌, slice_index}
use Rattle.std.specs.List.{Contains}
use Rattle.std.proofs.lemmas.Bool.{cases_lt, true≢false, and_from, and_parts}
use Rattle.std.proofs.lemmas.List.Elements.{Contains-get_or}
use Rattle.rings.specs.Matrices.{Matrix}
use Rattle.quad_field.specs.declared.quad.Quad.{Quad}
use Rattle.quad_field.specs.FieldNumber.{IsFieldNumber}
use Rattle.quad_field.specs.Quads.{quad_ops}
use Rattle.tri_core.specs.declared.half.Half.{Half}
use Rattle.tri_core.specs.HalfEdges.{twin_at}
use Rattle.tri_core.specs.Triangulation.{IsTriangulation}
use Rattle.tri_core.specs.SeveralFlips.{is_among}
use Rattle.tri_core.specs.Images.{IsImage, IsImageBy}
use Rattle.tri_core.proofs.CallerLemmas.{forth_inside, back_inside, forth_back}
use Rattle.hinge_form.specs.Hinges.{Triple, full_triple, IsHingeTriple}
use Rattle.hinge_form.specs.Lines.{IsMultiple}
use Rattle.hinge_form.specs.Walls.{IsEdgeOf, IsListing, IsWall}
use Rattle.hinge_form.proofs.CallerLemmas.{full_some, multiple_of_hinge, least_edge_of}
use Rattle.wall_cross.specs.Pulled.{pushed}
use Rattle.wall_cross.specs.Edges.{AreMatching}
use Rattle.wall_cross.specs.Crossings.{Crosses, LeadsIn}
use Rattle.wall_cross.proofs.Crossed.{crossing_of_wall}
use Rattle.wall_cross.proofs.CarriedLists.{listing_some, reduced_some}
use Rattle.wall_cross.proofs.CarriedEdges.{edge_name, name_form}
use Rattle.wall_cross.proofs.CarriedWalls.{through, swapped, multiple_forth, multiple_back, walls_match}
use Rattle.wall_cross.proofs.Members.{on_line, from_line, wall_spread}
use Rattle.wall_cross.proofs.CarriedExistence.{flipped, flipped_some}
use Rattle.wall_cross.proofs.CarriedClasses.{cross_valid, cross_image}

-- ---- which of two facts holds, as a truth value
decided : {A B : Type 0} → A ⊎ B → Bool
decided (inl a) = true
decided (inr b) = false

decided_true : {A B : Type 0} (s : A ⊎ B) → ¬ B → decided s ≡ true
unfolding decided
decided_true (inl a) none = refl
decided_true (inr b) none = absurd (none b)

decided_first : {A B : Type 0} (s : A ⊎ B) → decided s ≡ true → A
unfolding decided
decided_first (inl a) e = a
decided_first (inr b) e = absurd (true≢false (sym e))

-- ---- the wall that a wall is carried to
module _ (d : ℕ) (field : IsFieldNumber d) (n : Matrix Quad) (m : ℕ) (from to : List Half) (forth back : ℕ → ℕ) (valid : IsTriangulation d from) (valid_to : IsTriangulation d to)
    (image : IsImage d n m from to forth back) (l : Triple) (edges : List ℕ) (wall : IsWall d from l edges) where
  abbrev line : Triple
  line = pushed (quad_ops d) n l

  -- its edges are the edges whose half-edges come from the wall's
  test : ℕ → Bool
  test e = decided (cases_lt e (twin_at to e)) && is_among from edges (length edges) (back e)

  tested : (e : ℕ) → IsEdgeOf d to (pushed (quad_ops d) n l) e → (e < length to) × (test e ≡ true)
  unfolding test
  tested e own =
      let inside = back_inside d n m from to forth back image e own.0.0 in
      let there = forth_back d n m from to forth back image e own.0.0 in
      let up : e < twin_at to e = own.0.1 in (
        own.0.0,
        and_from (decided (cases_lt e (twin_at to e))) (is_among from edges (length edges) (back e)) (decided_true (cases_lt e (twin_at to e)) (λ low. omega (arith, up, low)))
            (from_line d field from valid l edges wall (back e) inside
            (multiple_back d field n m from to forth back valid valid_to image l (back e) inside (subst (λ (i : ℕ). IsMultiple d line (full_triple d to i)) (sym there) own.1))),
      )

  from_test : (e : ℕ) → e < length to → test e ≡ true → IsEdgeOf d to (pushed (quad_ops d) n l) e
  unfolding test
  from_test e below is =
      let inside = back_inside d n m from to forth back image e below in
      let there = forth_back d n m from to forth back image e below in
      let parts = and_parts (decided (cases_lt e (twin_at to e))) (is_among from edges (length edges) (back e)) is in (
        (below, decided_first (cases_lt e (twin_at to e)) parts.0),
        subst (λ (i : ℕ). IsMultiple d line (full_triple d to i)) there
            (multiple_forth d field n m from to forth back valid valid_to image l (back e) inside (on_line d field from valid l edges wall (back e) inside parts.1)),
      )

  listing : (others : List ℕ) × IsListing (IsEdgeOf d to (pushed (quad_ops d) n l)) others
  listing = listing_some test (IsEdgeOf d to line) (length to) tested from_test

  module _ (others : List ℕ) (all : IsListing (IsEdgeOf d to (pushed (quad_ops d) n l)) others) where
    -- there is one
    some_edge : 1 ≤ length others
    some_edge =
        let h = slice_index edges 0 in
        let own = least_edge_of d field from valid l edges wall in
        let there = forth_inside d n m from to forth back image h own.0.0 in
        let name = edge_name d to valid_to (forth h) there in
        let found : Contains others name.0 =
        (all.exactly name.0).1 (
          name.1.1,
          subst (IsMultiple d line) (sym (name_form d to valid_to (forth h) name.0 there name.1)) (multiple_forth d field n m from to forth back valid valid_to image l h own.0.0 own.1),
        ) in
        let under : found.0 < length others = found.1 in
        omega (arith, under)

    least_own : IsEdgeOf d to (pushed (quad_ops d) n l) (slice_index others 0)
    least_own = (all.exactly (slice_index others 0)).0 (Contains-get_or others 0 0 some_edge)

    -- and the reduced form of the least is that of the wall
    module _ (k : Triple) (least : IsHingeTriple d to (slice_index others 0) k) where
      matching : AreMatching d n l k
      matching =
          let full = full_triple d to (slice_index others 0) in
          through d field line full k least_own.1 (swapped d field k full (multiple_of_hinge d field to valid_to (slice_index others 0) least_own.0.0 k least))

      carried_wall : IsWall d to k others
      carried_wall = record {
        some = some_edge;
        least = least;
        all = record {
          ascends = all.ascends;
          exactly = λ e. (
            (λ c. let own = (all.exactly e).0 c in (own.0, through d field k line (full_triple d to e) (swapped d field line k matching) own.1)),
            (λ own. (all.exactly e).1 (own.0, through d field line k (full_triple d to e) matching own.1)),
          );
        };
        line = (walls_match d field n m from to forth back valid valid_to image l k matching).0 wall.line;
      }

  pub wall_carried : (k : Triple) × (others : List ℕ) × AreMatching d n l k × IsWall d to k others
  wall_carried =
      let others = listing.0 in
      let all = listing.1 in
      let reduced = reduced_some (full_triple d to (slice_index others 0)) (full_some d to (slice_index others 0) valid_to (least_own others all).0.0 field) in
      (reduced.0, others, matching others all reduced.0 reduced.1, carried_wall others all reduced.0 reduced.1)

-- ---- a wall can be crossed
pub wall_crossed : (d : ℕ) → IsFieldNumber d → (halves : List Half) → IsTriangulation d halves → (l : Triple) (edges : List ℕ) → IsWall d halves l edges → (later : List Half) × Crosses d halves l edges later
wall_crossed d field halves valid l edges wall =
    let set = is_among halves edges (length edges) in
    let spread = wall_spread d field halves valid l edges wall in
    let later = flipped d halves valid set spread in
    (later, crossing_of_wall d halves later l edges wall (flipped_some d halves valid set spread))

-- ---- a crossing has an image
module _ (d : ℕ) (field : IsFieldNumber d) (n : Matrix Quad) (m : ℕ) (from to : List Half) (valid : IsTriangulation d from) (valid_to : IsTriangulation d to) (image : IsImageBy d n m from to) where
  pub crossing_carried : (l : Triple) (edges : List ℕ) (later : List Half) → Crosses d from l edges later
      → (k : Triple) × (others : List ℕ) × (later_to : List Half) × AreMatching d n l k × Crosses d to k others later_to × IsImageBy d n m later later_to
  crossing_carried l edges later cross =
      let found = wall_carried d field n m from to image.0 image.1 valid valid_to image.2 l edges cross.0 in
      let over = wall_crossed d field to valid_to found.0 found.1 found.3 in
      (found.0, found.1, over.0, found.2, over.1, cross_image d field n m from to valid valid_to image l found.0 edges found.1 found.2 later over.0 cross over.1)

-- ---- what is reached
pub reached_valid : (d : ℕ) → IsFieldNumber d → (from : List Half) → IsTriangulation d from → (steps : ℕ) (to : List Half) → LeadsIn d from steps to → IsTriangulation d to
reached_valid d field from valid zero to same = subst (IsTriangulation d) (sym same) valid
reached_valid d field from valid (suc steps) to path =
    let between = path.0 in
    let last = path.2 in
    cross_valid d field between (reached_valid d field from valid steps between path.1) last.0 last.1 to last.2

pub reached_image : (d : ℕ) → IsFieldNumber d → (n : Matrix Quad) (m : ℕ) (from to : List Half) → IsTriangulation d from → IsTriangulation d to → IsImageBy d n m from to
    → (steps : ℕ) (later : List Half) → LeadsIn d from steps later → (later_to : List Half) × LeadsIn d to steps later_to × IsImageBy d n m later later_to
reached_image d field n m from to valid valid_to image zero later same = (to, refl, subst (λ (halves : List Half). IsImageBy d n m halves to) (sym same) image)
reached_image d field n m from to valid valid_to image (suc steps) later path =
    let between = path.0 in
    let last = path.2 in
    let before = reached_image d field n m from to valid valid_to image steps between path.1 in
    let between_to = before.0 in
    let after =
    crossing_carried d field n m between between_to (reached_valid d field from valid steps between path.1) (reached_valid d field to valid_to steps between_to before.1) before.2 last.0 last.1 later last.2 in
    (after.2, (between_to, before.1, (after.0, after.1, after.4)), after.5)
