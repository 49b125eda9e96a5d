-- One step of a walk: the wall that is chosen is one of the triangulation's.
use Rattle.std.proofs.Common.{◌≡◌, ◌∙◌, ℕ, ◌<◌, List, length, get_or, ap, sym, subst}
use Rattle.std.proofs.lemmas.List.{get_or-map, length-map}
use Rattle.tri_core.specs.declared.half.Half.{Half}
use Rattle.hinge_form.specs.declared.wall.Wall.{Wall}
use Rattle.hinge_form.specs.Triples.{of_form}
use Rattle.hinge_form.specs.Walls.{IsWall}
use Rattle.parabola_region.specs.WallLists.{PlainWall, plain_wall, plain_walls, no_wall, wall_at, IsWallList}
use Rattle.path_walk.specs.Walks.{AtWall}

module _ (d : ℕ) (halves : List Half) (walls slice : List Wall) (same : slice ≡ walls) (list : IsWallList d halves (plain_walls walls)) (j : ℕ) where
  module _ (wall other : Wall) (under : j < length slice) (found : wall ≡ get_or slice j other) where
    is_there : j < length (plain_walls walls)
    is_there = subst (λ (n : ℕ). j < n) (ap length same ∙ sym (length-map walls plain_wall)) under

    is_wall : wall_at (plain_walls walls) j ≡ plain_wall wall
    is_wall =
        let here : j < length walls = subst (λ (w : List Wall). j < length w) same under in
        get_or-map plain_wall walls j other no_wall here ∙ ap plain_wall (ap (λ (w : List Wall). get_or w j other) (sym same) ∙ sym found)

    pub chosen_wall : IsWall d halves (of_form wall.form) wall.edges.items
    chosen_wall = subst (λ (p : PlainWall). IsWall d halves p.0 p.1) is_wall (list.each j is_there)

    pub at_chosen : (P : List ℕ → Type 0) → P wall.edges.items → AtWall d halves j P
    at_chosen P p = (plain_walls walls, list, is_there, subst P (sym (ap (λ (w : PlainWall). w.1) is_wall)) p)
