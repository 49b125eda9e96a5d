-- How many walls a class has, and each of them.
use Rattle.std.proofs.Common.{◌≡◌, ◌∙◌, ℕ, ◌<◌, ◌≤◌, List, length, get_or, ap, sym, subst, arith, true≢false}
use Rattle.std.specs.Prelude.{ℤ, ◌↔◌, Result, Ok, Err, IsOk, IfOk, OnErr}
use Rattle.std.specs.Coded.{Coded-set, coded_ℕ, le_prop}
use mathlib.Core.Logic.{∥∥₁_elim, ∥∥₁_map}
use Rattle.std.proofs.lemmas.List.{get_or-map, length-map}
use Rattle.tri_core.specs.declared.half.Half.{Half}
use Rattle.hinge_form.specs.declared.wall.Wall.{Wall}
use Rattle.hinge_form.specs.Triples.{of_form}
use Rattle.hinge_form.specs.Walls.{IsWall}
use Rattle.parabola_region.specs.WallLists.{PlainWall, plain_wall, plain_walls, no_wall, wall_at, IsWallList}
use Rattle.plane.specs.Matrices.{FieldMatrix}
use Rattle.canon_code.specs.Canonical.{canonical}
use Rattle.class_node.specs.Leads.{IsLead}
use Rattle.class_node.specs.Classes.{IsClassOver, AreWallsOf, HasWallsOver}
use Rattle.class_node.specs.Once.{class_valid, one_list_of_walls, few_walls}

module _ (d : ℕ) (code : List ℤ) where
  -- the number of walls is the length of their list
  pub count_is : (n : ℕ) (walls : List PlainWall) → HasWallsOver d code n → AreWallsOf d code walls → length walls ≡ n
  count_is n walls has are =
      ∥∥₁_elim has (Coded-set coded_ℕ (length walls) n) (λ (x : IsClassOver d code × ((walls : List PlainWall) × AreWallsOf d code walls × (length walls ≡ n))).
      ap length (one_list_of_walls d code x.0 walls x.1.0 are x.1.1) ∙ x.1.2)

  pub few_of_class : (walls : List Wall) → ∥ IsClassOver d code ∥₁ → AreWallsOf d code (plain_walls walls) → length walls ≤ 768
  few_of_class walls own are =
      ∥∥₁_elim own le_prop (λ (o : IsClassOver d code).
      let few : length (plain_walls walls) ≤ 768 = few_walls d (canonical d code) (plain_walls walls) o.0 (class_valid d code o) are in
      let same : length (plain_walls walls) ≡ length walls = length-map walls plain_wall in
      omega (arith, few, same))

  pub has_count : (walls : List Wall) → ∥ IsClassOver d code ∥₁ → AreWallsOf d code (plain_walls walls) → HasWallsOver d code (length walls)
  has_count walls own are = ∥∥₁_map own (λ (o : IsClassOver d code). (o, (plain_walls walls, are, length-map walls plain_wall)))

  pub below_count : (n w : ℕ) (walls : List Wall) → HasWallsOver d code n → AreWallsOf d code (plain_walls walls) → w < n → w < length (plain_walls walls)
  below_count n w walls has are less = subst (λ m. w < m) (sym (count_is n (plain_walls walls) has are)) less

  pub below_length : (n w : ℕ) (walls : List Wall) → HasWallsOver d code n → AreWallsOf d code (plain_walls walls) → w < n → w < length walls
  below_length n w walls has are less = subst (λ m. w < m) (length-map walls plain_wall) (below_count n w walls has are less)

-- wall number w of a list
module _ (walls : List Wall) (w : ℕ) (wall other : Wall) (inside : w < length walls) (found : wall ≡ get_or walls w other) where
  pub wall_is : wall_at (plain_walls walls) w ≡ plain_wall wall
  wall_is = get_or-map plain_wall walls w other no_wall inside ∙ ap plain_wall (sym found)

  pub wall_listed : (d : ℕ) (halves : List Half) → IsWallList d halves (plain_walls walls) → IsWall d halves (of_form wall.form) wall.edges.items
  wall_listed d halves list = subst (λ (p : PlainWall). IsWall d halves p.0 p.1) wall_is (list.each w (subst (λ n. w < n) (sym (length-map walls plain_wall)) inside))

-- what is so exactly where a call is Ok isn't so where it isn't
pub on_error : {A B X : Type 0} (r : Result A B) → IsOk r ↔ X → OnErr r (¬ X)
on_error (Ok x) fits = tt
on_error (Err e) fits = λ x. true≢false (sym (fits.1 x))

-- the lead of a wall, over the field of a terrain
pub leads_by : {E : Type 0} (d e : ℕ) (code : List ℤ) (w : ℕ) (r : Result (List ℤ × FieldMatrix) E) → e ≡ d → ∥ IsClassOver d code ∥₁ → IfOk r (λ x. IsLead e code w x.0 x.1)
    → IfOk r (λ x. ∥ IsClassOver d code × IsLead d code w x.0 x.1 ∥₁)
leads_by d e code w (Ok x) same own lead = ∥∥₁_map own (λ (o : IsClassOver d code). (o, subst (λ (f : ℕ). IsLead f code w x.0 x.1) same lead))
leads_by d e code w (Err f) same own lead = tt
