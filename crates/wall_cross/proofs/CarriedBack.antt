-- From behind a wall a crossing leads back, up to a translation; and so does a path from what is reached.
use Rattle.std.proofs.Common.{ℕ, zero, suc, List, refl, sym, subst}
use Rattle.quad_field.specs.FieldNumber.{IsFieldNumber}
use Rattle.quad_field.specs.Quads.{quad_ops}
use Rattle.tri_core.specs.declared.half.Half.{Half}
use Rattle.tri_core.specs.Triangulation.{IsTriangulation}
use Rattle.tri_core.specs.Images.{identity_matrix, AreTranslationEqual}
use Rattle.tri_core.proofs.CallerLemmas.{translation_same}
use Rattle.wall_cross.specs.Crossings.{LiesBehind, LeadsIn, IsReached}
use Rattle.wall_cross.proofs.Behind.{crossing_valid}
use Rattle.wall_cross.proofs.Paths.{reached_behind}
use Rattle.wall_cross.proofs.Crossed.{wall_again, crossed_back}
use Rattle.wall_cross.proofs.CarriedImages.{translation_then_image}
use Rattle.wall_cross.proofs.CarriedClasses.{cross_valid}
use Rattle.wall_cross.proofs.CarriedReach.{wall_crossed, crossing_carried, reached_image, reached_valid}

-- one path after another
pub reached_through : (d : ℕ) (from between : List Half) → IsReached d from between → (n : ℕ) (to : List Half) → LeadsIn d between n to → IsReached d from to
reached_through d from between reached zero to same = subst (IsReached d from) (sym same) reached
reached_through d from between reached (suc n) to path = reached_behind d from path.0 to (reached_through d from between reached n path.0 path.1) path.2

module _ (d : ℕ) (field : IsFieldNumber d) where
  -- translation-equal to what is translation-equal
  translated_twice : (one two three : List Half) → AreTranslationEqual d one two → AreTranslationEqual d two three → AreTranslationEqual d one three
  translated_twice one two three first second = (
    (λ k. second.0 (first.0 k)),
    (λ k. first.1 (second.1 k)),
    translation_then_image d (identity_matrix (quad_ops d)) 1 one two three first.0 first.1 second.0 second.1 first.2 second.2,
  )

  -- ---- one crossing
  pub crossed_over : (from to : List Half) → IsTriangulation d from → LiesBehind d from to → (back : List Half) × LiesBehind d to back × AreTranslationEqual d from back
  crossed_over from to valid behind =
      let l = behind.0 in
      let edges = behind.1 in
      let wall = behind.2.0 in
      let flipped = behind.2.1.0 in
      let flips = behind.2.1.1 in
      let move = behind.2.1.2 in
      let valid_flipped = crossing_valid d field from valid l edges wall flipped flips in
      let again = wall_again d field from valid l edges wall flipped flips in
      let over = wall_crossed d field flipped valid_flipped again.0 edges again.1 in
      let last = over.0 in
      let there = crossing_carried d field (identity_matrix (quad_ops d)) 1 flipped to valid_flipped (cross_valid d field from valid l edges to behind.2) move again.0 edges last over.1 in
      let home : AreTranslationEqual d from last =
      translated_twice from over.1.1.0 last (crossed_back d field from valid l edges wall flipped flips over.1.1.0 over.1.1.1) over.1.1.2 in
      (there.2, (there.0, there.1, there.4), translated_twice from last there.2 home there.5)

  -- ---- paths
  -- a crossing, and then a path
  crossing_first : (from between : List Half) → LiesBehind d from between → (n : ℕ) (to : List Half) → LeadsIn d between n to → LeadsIn d from (suc n) to
  crossing_first from between behind zero to same = (from, refl, subst (LiesBehind d from) (sym same) behind)
  crossing_first from between behind (suc n) to path = (path.0, crossing_first from between behind n path.0 path.1, path.2)

  path_back : (from : List Half) → IsTriangulation d from → (n : ℕ) (to : List Half) → LeadsIn d from n to → (back : List Half) × IsReached d to back × AreTranslationEqual d from back
  path_back from valid zero to same = (to, (zero, refl), subst (AreTranslationEqual d from) (sym same) (translation_same d from))
  path_back from valid (suc n) to path =
      let between = path.0 in
      let valid_between = reached_valid d field from valid n between path.1 in
      let before = path_back from valid n between path.1 in
      let over = crossed_over between to valid_between path.2 in
      let valid_to = reached_valid d field from valid (suc n) to path in
      let valid_over = cross_valid d field to valid_to over.1.0 over.1.1 over.0 over.1.2 in
      let there = reached_image d field (identity_matrix (quad_ops d)) 1 between over.0 valid_between valid_over over.2 before.1.0 before.0 before.1.1 in
      (there.0, (suc before.1.0, crossing_first to over.0 over.1 before.1.0 there.0 there.1), translated_twice from before.0 there.0 before.2 there.2)

  pub reached_back : (from to : List Half) → IsTriangulation d from → IsReached d from to → (back : List Half) × IsReached d to back × AreTranslationEqual d from back
  reached_back from to valid reached = path_back from valid reached.0 to reached.1
