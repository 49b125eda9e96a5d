-- When a polygon is convex.
use Rattle.std.proofs.Common.{◌≡◌, ◌↔◌, ℕ, zero, suc, ◌+◌, ◌<◌, ◌≤◌, inl, inr, List, [], ◌∷◌, Bool, false, Some, None, length, get_or, refl, sym, ◌∙◌, arith, IsTrue}
use Rattle.std.specs.List.{AllByRecursion}
use Rattle.std.proofs.lemmas.Bool.{both_ways, cases_order}
use Rattle.std.proofs.lemmas.List.{length-map}
use Rattle.quad_field.specs.declared.quad.Quad.{Quad}
use Rattle.plane.specs.Vectors.{Vector}
use Rattle.surface_text.specs.declared.file.Polygon.{Polygon}
use Rattle.gluing.specs.Polygons.{Rises, TurnsOnce, IsConvex}
use Rattle.gluing.specs.Bounds.{AreCornersProper, IsFirstRise}
use Rattle.gluing.specs.Parts.{sides_of}

-- what holds of all elements holds of each
pub all_at : {X : Type 0} (P : X → Type 0) (xs : List X) (d : X) (i : ℕ) → AllByRecursion P xs → i < length xs → P (get_or xs i d)
all_at P [] d i all h = absurd (omega arith)
all_at P (x ∷ xs) d zero all h = all.0
all_at P (x ∷ xs) d (suc i) all h = all_at P xs d i all.1 (omega arith)

pub length-sides : (polygons : List Polygon) → length (sides_of polygons) ≡ length polygons
length-sides polygons = length-map polygons (λ (polygon : Polygon). polygon.sides.items)

-- the first rise is the only one exactly where none follows
pub once_from_last : (d : ℕ) (sides : List (Vector Quad)) (i : ℕ) (last : Bool) → IsFirstRise d sides 0 (Some i)
    → (IsTrue last ↔ ((k : ℕ) → i + 1 ≤ k → k < length sides → ¬ (Rises d sides k))) → (IsTrue last ↔ TurnsOnce d sides)
once_from_last d sides i last first behind = (
  (λ yes. (
    i,
    first.1,
    first.2,
    (λ k h r. elim (cases_order k i) [
      | inl e ↦ e
      | inr less ↦ elim less [ inl l ↦ absurd (first.3 k (omega arith) l r) | inr g ↦ absurd (behind.0 yes k (omega arith) h r) ]
    ]),
  )),
  (λ once. behind.1 (λ k from h r. let one : k ≡ i = once.3 k h r ∙ sym (once.3 i first.1 first.2) in omega arith)),
)

-- without a rise it doesn't turn once
pub never_once : (d : ℕ) (sides : List (Vector Quad)) → IsFirstRise d sides 0 None → (IsTrue false ↔ TurnsOnce d sides)
never_once d sides none = ((λ no. absurd (both_ways false refl no)), (λ once. absurd (none once.0 (omega arith) once.1 once.2)))

pub convex_from : (d : ℕ) (sides : List (Vector Quad)) → AreCornersProper d sides → TurnsOnce d sides → IsConvex d sides
convex_from d sides corners once = record {
  sides_nonzero = λ i h. (corners i h).0;
  never_right = λ i h. (corners i h).1;
  never_back = λ i h. (corners i h).2;
  once = once;
}

pub convex_corners : (d : ℕ) (sides : List (Vector Quad)) → IsConvex d sides → AreCornersProper d sides
convex_corners d sides convex = λ i h. (convex.sides_nonzero i h, convex.never_right i h, convex.never_back i h)
