-- What the bodies that cross a wall answer, and that crossing back leads back.
use Rattle.std.proofs.Common.{◌≡◌, ℕ, zero, suc, ◌<◌, Bool, List, length, subst, refl, arith}
use Rattle.std.specs.Prelude.{◌||◌, slice_index, Result, Ok, Err, OnOk}
use Rattle.quad_field.specs.FieldNumber.{IsFieldNumber}
use Rattle.quad_field.specs.Quads.{quad_ops}
use Rattle.rings.specs.Lines.{opposite_triple}
use Rattle.tri_core.specs.declared.half.Half.{Half}
use Rattle.tri_core.specs.HalfEdges.{twin_at}
use Rattle.tri_core.specs.Triangulation.{IsTriangulation}
use Rattle.tri_core.specs.SeveralFlips.{is_either, is_among, AreFlipped}
use Rattle.tri_core.specs.Images.{AreTranslationEqual}
use Rattle.tri_core.proofs.CallerLemmas.{translation_same}
use Rattle.hinge_form.specs.Triples.{Triple}
use Rattle.hinge_form.specs.Walls.{IsWall}
use Rattle.wall_cross.specs.Crossings.{AreAllFlipped, Crosses}
use Rattle.wall_cross.proofs.Members.{wall_spread}
use Rattle.wall_cross.proofs.Behind.{same_twin, wall_behind}
use Rattle.wall_cross.proofs.Back.{flipped_back}

-- what follows where an answer is Ok
pub on_ok : {A B : Type 0} (r : Result A B) (X Y : Type 0) → (X → Y) → OnOk r X → OnOk r Y
on_ok (Ok a) X Y f x = f x
on_ok (Err e) X Y f x = x

-- what the flips at all edges of a wall leave is a crossing of it
pub crossing_of_wall : (d : ℕ) (halves later : List Half) (form : Triple) (edges : List ℕ) → IsWall d halves form edges → AreAllFlipped d halves edges later → Crosses d halves form edges later
crossing_of_wall d halves later form edges wall flips = (wall, (later, flips, translation_same d later))

-- where the edges of a list keep their twins, the set of their half-edges is kept
same_members : (halves later : List Half) (edges : List ℕ) (n : ℕ) → ((i : ℕ) → i < n → twin_at later (slice_index edges i) ≡ twin_at halves (slice_index edges i))
    → is_among later edges n ≡ is_among halves edges n
same_members halves later edges zero same = refl
same_members halves later edges (suc n) same =
    let before = same_members halves later edges n (λ i less. same i (omega arith)) in
    let twin = same n (omega arith) in
    λ t k. before t k || is_either (slice_index edges n) (twin t) k

module _ (d : ℕ) (field : IsFieldNumber d) (halves : List Half) (valid : IsTriangulation d halves) (form : Triple) (edges : List ℕ) (wall : IsWall d halves form edges)
    (later : List Half) (flips : AreAllFlipped d halves edges later) where
  -- the same edges are a wall again
  pub wall_again : (other : Triple) × IsWall d later other edges
  wall_again = (opposite_triple (quad_ops d) form, wall_behind d field halves valid form edges wall later flips)

  -- and crossing it leads back
  pub crossed_back : (last : List Half) → AreAllFlipped d later edges last → AreTranslationEqual d halves last
  crossed_back last again =
      let same : is_among later edges (length edges) ≡ is_among halves edges (length edges) =
      same_members halves later edges (length edges) (same_twin d field halves valid form edges wall later flips) in
      flipped_back d halves valid (is_among halves edges (length edges)) (wall_spread d field halves valid form edges wall) later last flips
      (subst (λ (set : ℕ → Bool). AreFlipped d later set last) same again)
