-- What the table of a kept triangulation says of it, before and after the flip of the least edge of negative value.
use Rattle.std.proofs.Common.{◌≡◌, ℕ, List, ap, subst, inl, inr}
use Rattle.std.specs.Prelude.{pos, Option, Some, None}
use Rattle.quad_field.specs.FieldNumber.{IsFieldNumber}
use Rattle.quad_field.specs.Quads.{quad}
use Rattle.quad_field.specs.declared.formula.Formula.{Formula}
use Rattle.quad_field.specs.declared.formula.Formula.TheVariants.{F12}
use Rattle.tri_core.specs.declared.half.Half.{Half}
use Rattle.tri_core.specs.Triangulation.{IsTriangulation}
use Rattle.tri_core.specs.Flips.{IsStrictlyConvex, IsFlip, DiagonalFits, IsEdge}
use Rattle.hinge_form.specs.Hinges.{Triple, IsHalfPlanePoint}
use Rattle.hinge_form.proofs.CallerLemmas.{convex_at}
use Rattle.delaunay_flip.specs.Flipping.{IsNegative, IsZeroAt, IsLeast, IsLeastOrNone}
use Rattle.delaunay_flip.specs.Widths.{EdgesFit, FlipFits, IsWideEdge}
use Rattle.delaunay_flip.specs.Words.{Holds}
use Rattle.delaunay_flip.specs.Tables.{entry, IsTable, IsTableBut, sides_of}
use Rattle.delaunay_flip.specs.Keeping.{IsNotFlipped}
use Rattle.delaunay_flip.specs.declared.edge_values.EdgeValues.{EdgeValues}
use Rattle.delaunay_flip.specs.declared.kept.KeptFault.TheVariants.{Wide}
use Rattle.delaunay_flip.proofs.Signs.{negative_not_positive, zero_by_value}
use Rattle.delaunay_flip.proofs.Flips.{one_least, flip_valid}
use Rattle.delaunay_flip.proofs.Untouched.{table_after, edge_after}

module _ (d : ℕ) (q : Triple) (halves : List Half) (table : EdgeValues) (all : IsTable d q halves table) where
  -- every edge fits
  pub table_fits : EdgesFit d q halves
  table_fits h edge = (all.right h (λ none. none)).fits edge

  -- the least edge of the set is that of negative value
  pub table_least : (least : Option ℕ) → IsLeastOrNone (Holds table.negative.words) least → IsLeastOrNone (IsNegative d q halves) least
  table_least None none = λ h n. none h ((all.right h (λ x. x)).negative.1 n)
  table_least (Some h) least = ((all.right h (λ x. x)).negative.0 least.0, λ k less n. least.1 k less ((all.right k (λ x. x)).negative.1 n))

  -- the least edge for which zero is entered is that of value zero
  pub table_zero : IsFieldNumber d → IsTriangulation d halves → (least : Option ℕ) → IsLeastOrNone (λ h. IsEdge halves h × (entry table h ≡ quad (pos 0) (pos 0))) least
      → IsLeastOrNone (IsZeroAt d q halves) least
  table_zero field valid None none = λ h z. none h (from h z)
    where
      from : (h : ℕ) → IsZeroAt d q halves h → IsEdge halves h × (entry table h ≡ quad (pos 0) (pos 0))
      from h z = let zero = (zero_by_value d field halves valid h z.0 q (entry table h) ((all.right h (λ x. x)).value z.0)).1 z in (z.0, λ i. quad (zero.0 i) (zero.1 i))
  table_zero field valid (Some h) least = (to h least.0, λ k less z. least.1 k less (from k z))
    where
      from : (h : ℕ) → IsZeroAt d q halves h → IsEdge halves h × (entry table h ≡ quad (pos 0) (pos 0))
      from h z = let zero = (zero_by_value d field halves valid h z.0 q (entry table h) ((all.right h (λ x. x)).value z.0)).1 z in (z.0, λ i. quad (zero.0 i) (zero.1 i))

      to : (h : ℕ) → IsEdge halves h × (entry table h ≡ quad (pos 0) (pos 0)) → IsZeroAt d q halves h
      to h e = (zero_by_value d field halves valid h e.0 q (entry table h) ((all.right h (λ x. x)).value e.0)).0 (ap (λ x. x.a) e.1, ap (λ x. x.b) e.1)

module _ (d : ℕ) (field : IsFieldNumber d) (q : Triple) (place : IsHalfPlanePoint d q) (halves : List Half) (valid : IsTriangulation d halves)
    (h : ℕ) (least : IsLeast (IsNegative d q halves) h) where
  -- the least edge of negative value can be flipped
  pub least_convex : IsStrictlyConvex d halves h
  least_convex = convex_at d halves h q field valid least.0.0.0 place (negative_not_positive d field q halves h least.0)

  -- where its diagonal fits, that of the next flip does
  pub least_fits : DiagonalFits d halves h → FlipFits d q halves
  least_fits fits k other = subst (DiagonalFits d halves) (one_least (IsNegative d q halves) h k least other) fits

  module _ (later : List Half) (flip : IsFlip d halves h later) where
    -- the table after the flip
    pub least_after : (table : EdgeValues) → IsTable d q halves table → IsTableBut d q later (sides_of later h) table
    least_after = table_after d halves h later valid least.0.0 flip (flip_valid d field q place halves later h valid least.0 flip) q

    pub least_edge_after : IsEdge later h
    least_edge_after = edge_after d halves h later valid least.0.0 flip (flip_valid d field q place halves later h valid least.0 flip)

    -- a width that is met after the flip
    pub wide_after : DiagonalFits d halves h → (formula : Formula) (k : ℕ) → IsWideEdge d q later formula k → IsNotFlipped d q halves (Wide formula k)
    wide_after fits formula k wide = inr (least_fits fits, (later, (h, least, flip), wide))

  -- a width that is met at the flip
  pub wide_flip : (formula : Formula) → formula ≡ F12 → ¬ (DiagonalFits d halves h) → IsNotFlipped d q halves (Wide formula h)
  wide_flip formula e wide = inl (e, least, wide)
