-- The list of walls, one hinge after another.
use Rattle.std.proofs.Common.{◌≡◌, ℕ, zero, suc, ◌+◌, ◌<◌, ◌≤◌, List, [], ◌∷◌, ◌++◌, length, get_or, subst, sym, ap, refl, ◌∙◌, arith, below_more}
use mathlib.Core.Logic.{inl, inr}
use Rattle.std.specs.Prelude.{◌⊎◌, Some}
use Rattle.std.specs.List.{Contains}
use Rattle.std.proofs.lemmas.List.{get_or_append_left, get_or_push, get_or_default, get_or-map, length-map, map_push}
use Rattle.hinge_form.specs.declared.wall.Wall.{Wall}
use Rattle.std.proofs.lemmas.Bool.{cases_lt, cases_eq}
use Rattle.quad_field.specs.FieldNumber.{IsFieldNumber}
use Rattle.tri_core.specs.declared.half.Half.{Half}
use Rattle.tri_core.specs.Triangulation.{IsTriangulation}
use Rattle.hinge_form.specs.Triples.{Triple}
use Rattle.hinge_form.specs.Hinges.{full_triple, IsHingeTriple}
use Rattle.hinge_form.specs.Lines.{IsMultiple}
use Rattle.hinge_form.specs.Walls.{IsWallLine, IsWall, IsListing, IsEdgeOf}
use Rattle.parabola_region.specs.declared.hinge_list.Hinge.{Hinge}
use Rattle.parabola_region.specs.HingeLists.{form_at, edge_at, IsHingeList, IsPositiveEverywhere}
use Rattle.parabola_region.specs.Stretches.{HasPointFor}
use Rattle.parabola_region.specs.WallLists.{PlainWall, plain_wall, plain_walls, no_wall, wall_at, least_edge, IsCovered, IsWallList}
use Rattle.parabola_region.specs.Found.{AreWalls, IsOwnBelow, IsFound}
use Rattle.parabola_region.specs.Different.{HasFormBefore}
use Rattle.parabola_region.proofs.Lists.{length_more, each_more, ascends_more}
use Rattle.parabola_region.proofs.Lines.{itself, swapped, through, line_of_multiple, own_somewhere, full_own, own_full, line_from_point, point_from_line, own_edges}

-- a covered edge stays covered
pub covered_more : (walls : List PlainWall) (wall : PlainWall) (h : ℕ) → IsCovered walls h → IsCovered (walls ++ wall ∷ []) h
covered_more walls wall h c = (c.0, omega (arith, length_more walls wall, c.1), subst (λ (w : PlainWall). Contains w.1 h) (sym (get_or_append_left walls (wall ∷ []) no_wall c.0 c.1)) c.2)

pub covered_last : (walls : List PlainWall) (wall : PlainWall) (h : ℕ) → Contains wall.1 h → IsCovered (walls ++ wall ∷ []) h
covered_last walls wall h c = (length walls, omega (arith, length_more walls wall), subst (λ (w : PlainWall). Contains w.1 h) (sym (get_or_push walls wall no_wall (length walls) refl)) c)

-- a list that holds a number below which none is begins with it
first_is : (numbers : List ℕ) → ((i j : ℕ) → i < j → j < length numbers → get_or numbers i 0 < get_or numbers j 0) → (h : ℕ) → Contains numbers h
    → ¬ ((0 < length numbers) × (get_or numbers 0 0 < h)) → get_or numbers 0 0 ≡ h
first_is numbers ascends h (zero, under, e) none = get_or_default numbers 0 0 h under ∙ e
first_is numbers ascends h (suc m, under, e) none =
    absurd (none (omega arith, subst (λ x. get_or numbers 0 0 < x) (get_or_default numbers (suc m) 0 h under ∙ e) (ascends 0 (suc m) (omega arith) under)))

module _ (d : ℕ) (field : IsFieldNumber d) (halves : List Half) (valid : IsTriangulation d halves) (forms : List Hinge) (list : IsHingeList d halves (length halves) forms) where
  pub none_yet : AreWalls d halves forms 0 []
  none_yet = record {
    ascends = λ i j less under. absurd (omega arith);
    each = λ j under. absurd (omega arith);
    before = λ j under. absurd (omega arith);
    covered = λ k under line. absurd (omega arith);
  }

  module _ (n : ℕ) (walls : List PlainWall) (are : AreWalls d halves forms n walls) (under : n < length forms) where
    abbrev l : Triple
    l = form_at forms n

    further : (j : ℕ) → (k : ℕ) × (k < n) × (least_edge (wall_at walls j) ≡ edge_at forms k) → (k : ℕ) × (k < n + 1) × (least_edge (wall_at walls j) ≡ edge_at forms k)
    further j b = (b.0, omega (arith, b.1), b.2)

    -- one more hinge that adds no wall
    pub adds_none : (IsWallLine d halves l → IsCovered walls (edge_at forms n)) → AreWalls d halves forms (n + 1) walls
    adds_none here = record {
      ascends = are.ascends;
      each = are.each;
      before = λ j u. further j (are.before j u);
      covered = below_more (λ k. IsWallLine d halves (form_at forms k) → IsCovered walls (edge_at forms k)) n are.covered here;
    }

    pub adds_no_line : ¬ (HasPointFor d l forms) → AreWalls d halves forms (n + 1) walls
    adds_no_line none = adds_none (λ line. absurd (none (point_from_line d field halves valid forms list l line)))

    -- a wall line with the form of an earlier hinge is covered with it
    pub covered_before : HasFormBefore forms n → IsWallLine d halves l → IsCovered walls (edge_at forms n)
    covered_before b line =
        let c = are.covered b.0 b.1 (subst (IsWallLine d halves) (sym b.2) line) in
        let w = are.each c.0 c.1 in
        let f : Triple = (wall_at walls c.0).0 in
        let e = (w.all.exactly (edge_at forms b.0)).0 c.2 in
        let own : IsMultiple d f (form_at forms b.0) = own_full d field halves valid forms list f b.0 (omega (arith, b.1)) e.1 in
        (c.0, c.1, (w.all.exactly (edge_at forms n)).1 ((list.each n under).edge, full_own d field halves valid forms list f n under (subst (IsMultiple d f) b.2 own)))

    -- one that adds a wall
    module _ (point : HasPointFor d l forms) (new : ¬ (IsCovered walls (edge_at forms n))) (edges : List ℕ) (owns : IsListing (IsOwnBelow d l forms (length forms)) edges) where
      line : IsWallLine d halves l
      line = line_from_point d field halves valid forms list l point

      wall : PlainWall
      wall = (l, edges)

      all : IsListing (IsEdgeOf d halves l) edges
      all = record {
        ascends = owns.ascends;
        exactly = λ h. let both = own_edges d field halves valid forms list l line h in (λ c. both.0 ((owns.exactly h).0 c), λ e. (owns.exactly h).1 (both.1 e));
      }

      holds_itself : Contains edges (edge_at forms n)
      holds_itself = (owns.exactly (edge_at forms n)).1 (n, under, itself d field l, refl)

      -- a hinge before n has another line: else this line were a wall's already
      none_before : (k : ℕ) → k < n → ¬ (IsMultiple d l (form_at forms k))
      none_before k less own =
          let c = are.covered k less (line_of_multiple d field halves l (form_at forms k) own line) in
          let w = are.each c.0 c.1 in
          let f : Triple = (wall_at walls c.0).0 in
          let e = (w.all.exactly (edge_at forms k)).0 c.2 in
          let to_k : IsMultiple d f (form_at forms k) = own_full d field halves valid forms list f k (omega arith) e.1 in
          let to_n : IsMultiple d f l = through d field f (form_at forms k) l to_k (swapped d field l (form_at forms k) own) in
          new (c.0, c.1, (w.all.exactly (edge_at forms n)).1 ((list.each n under).edge, full_own d field halves valid forms list f n under to_n))

      -- hinges of lesser edges stand before
      stands_before : (k : ℕ) → k < length forms → edge_at forms k < edge_at forms n → k < n
      stands_before k inside less = go (cases_lt k n)
        where
          go : (k < n) ⊎ (n ≤ k) → k < n
          go (inl h) = h
          go (inr h) = later (cases_eq n k)
            where
              later : (n ≡ k) ⊎ ¬ (n ≡ k) → k < n
              later (inl e) = let same : edge_at forms n ≡ edge_at forms k = ap (edge_at forms) e in absurd (omega arith)
              later (inr m) = let more : edge_at forms n < edge_at forms k = list.ascends n k (omega arith) inside in absurd (omega arith)

      least_is : get_or edges 0 0 ≡ edge_at forms n
      least_is = first_is edges owns.ascends (edge_at forms n) holds_itself (λ h.
          let o = (owns.exactly (get_or edges 0 0)).0 (0, h.0, get_or_default edges 0 (get_or edges 0 0) 0 h.0) in
          none_before o.0 (stands_before o.0 o.1 (subst (λ x. x < edge_at forms n) (sym o.3) h.1)) o.2)

      is_wall : IsWall d halves l edges
      is_wall = record {
        some = let c = holds_itself in omega (arith, c.1);
        least = subst (λ (h : ℕ). IsHingeTriple d halves h l) (sym least_is) (list.each n under).triple;
        all = all;
        line = line;
      }

      least_before : (j : ℕ) → j < length walls → least_edge (wall_at walls j) < get_or edges 0 0
      least_before j u =
          let b = are.before j u in
          let less : edge_at forms b.0 < edge_at forms n = list.ascends b.0 n b.1 under in
          omega (arith, b.2, least_is)

      pub adds_wall : AreWalls d halves forms (n + 1) (walls ++ (l, edges) ∷ [])
      adds_wall = record {
        ascends = ascends_more least_edge walls (l, edges) no_wall are.ascends least_before;
        each = each_more (λ (w : PlainWall). IsWall d halves w.0 w.1) walls (l, edges) no_wall are.each is_wall;
        before = each_more (λ (w : PlainWall). (k : ℕ) × (k < n + 1) × (least_edge w ≡ edge_at forms k)) walls (l, edges) no_wall (λ j u. further j (are.before j u)) (n, omega arith, least_is);
        covered = below_more (λ k. IsWallLine d halves (form_at forms k) → IsCovered (walls ++ (l, edges) ∷ []) (edge_at forms k)) n
            (λ k u other. covered_more walls (l, edges) (edge_at forms k) (are.covered k u other)) (λ _. covered_last walls (l, edges) (edge_at forms n) holds_itself);
      }

  -- the walls of all hinges
  pub all_walls : (walls : List PlainWall) → AreWalls d halves forms (length forms) walls → IsWallList d halves walls
  all_walls walls are = record { ascends = are.ascends; each = are.each; every = λ h edge wall_line. go h wall_line (list.every h edge.0 edge) }
    where
      go : (h : ℕ) → IsWallLine d halves (full_triple d halves h) → ((i : ℕ) × (i < length forms) × (edge_at forms i ≡ h)) ⊎ IsPositiveEverywhere d halves h → IsCovered walls h
      go h wall_line (inl f) =
          let there : IsWallLine d halves (full_triple d halves (edge_at forms f.0)) = subst (λ (k : ℕ). IsWallLine d halves (full_triple d halves k)) (sym f.2) wall_line in
          subst (IsCovered walls) f.2
          (are.covered f.0 f.1 (line_of_multiple d field halves (full_triple d halves (edge_at forms f.0)) (form_at forms f.0)
          (swapped d field (form_at forms f.0) (full_triple d halves (edge_at forms f.0)) (full_own d field halves valid forms list (form_at forms f.0) f.0 f.1 (itself d field (form_at forms f.0)))) there))
      go h wall_line (inr all) = absurd (own_somewhere d field halves valid (full_triple d halves h) wall_line h (itself d field (full_triple d halves h)) all)

-- a wall that is read from a list
pub plain_at : (walls : List Wall) (i : ℕ) (wall : Wall) → i < length walls → wall ≡ get_or walls i wall → wall_at (plain_walls walls) i ≡ plain_wall wall
plain_at walls i wall under e = get_or-map plain_wall walls i wall no_wall under ∙ ap plain_wall (sym e)

pub plain_length : (walls : List Wall) → length (plain_walls walls) ≡ length walls
plain_length walls = length-map walls plain_wall

-- a wall that was found, as the code has it
pub found_wall : (d : ℕ) (field : IsFieldNumber d) (halves : List Half) (valid : IsTriangulation d halves) (forms : List Hinge) (list : IsHingeList d halves (length halves) forms)
    (n : ℕ) (walls : List Wall) → AreWalls d halves forms n (plain_walls walls) → n < length forms → (wall : Wall) → IsFound d halves forms n (plain_walls walls) (Some wall)
    → AreWalls d halves forms (n + 1) (plain_walls (walls ++ wall ∷ []))
found_wall d field halves valid forms list n walls are under wall found =
    subst (AreWalls d halves forms (n + 1)) (ap (λ (l : Triple). plain_walls walls ++ (l, wall.edges.items) ∷ []) (sym found.2) ∙ sym (map_push plain_wall walls wall))
    (adds_wall d field halves valid forms list n (plain_walls walls) are under found.0 found.1 wall.edges.items found.3)
