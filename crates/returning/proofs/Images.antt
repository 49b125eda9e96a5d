-- Images of triangulations are an action of the matrices of positive determinant, and carry crossings.
use Rattle.std.proofs.Common.{◌≡◌, ℕ, zero, suc, ◌*◌, sym, ap, ◌∙◌, subst, List, [], ◌∷◌}
use Rattle.std.specs.Prelude.{pos}
use Rattle.rings.specs.Ring.{Ops, IsRing, Expr, var, expr}
use Rattle.rings.specs.Order.{IsOrdered}
use Rattle.rings.specs.Vectors.{Vector, multiple_vector}
use Rattle.rings.specs.Matrices.{Matrix, mapped, matrix_product, multiple_matrix}
use Rattle.rings.proofs.Solver.{identity}
use Rattle.rings.proofs.Factors.{cancel_vector}
use Rattle.rings.proofs.Matrices.{mapped_twice, mapped_multiple}
use Rattle.quad_field.specs.declared.quad.Quad.{Quad}
use Rattle.quad_field.specs.FieldNumber.{IsFieldNumber}
use Rattle.quad_field.specs.Quads.{quad_ops}
use Rattle.quad_field.proofs.CallerLemmas.{quad_ring, order_of, natural_positive}
use Rattle.plane.proofs.CallerLemmas.{scaled_rows, unit_matrix}
use Rattle.tri_core.specs.declared.half.Half.{Half}
use Rattle.tri_core.specs.HalfEdges.{vector_at}
use Rattle.tri_core.specs.Triangulation.{IsTriangulation}
use Rattle.tri_core.specs.Images.{IsImageBy}
use Rattle.tri_core.proofs.CallerLemmas.{back_inside, forth_back, translation_same}
use Rattle.wall_cross.specs.Crossings.{LiesBehind, LeadsIn, IsReached}
use Rattle.wall_cross.proofs.CallerLemmas.{reached_itself, reached_behind}
use Rattle.wall_cross.proofs.CarriedCallers.{image_composed, image_rewritten, back_once, back_next, back_twin, cross_valid, crossing_carried, crossed_over}
use Rattle.terrain.specs.Reach.{Path}
use Rattle.terrain.specs.Reach.Path.{start, on}
use Rattle.returning.proofs.Groups.{HasImages}
use Rattle.returning.proofs.Matrices.{Turning, Same, unit, product, inverse, inverse_of}

-- ---- vectors
module _ {R : Type 0} (O : Ops R) (L : IsRing O) where
  -- (1·k)·u = k·u, and ((c·m)·1)·u = m·(c·u)
  once_mapped : (k : Matrix R) (u : Vector R) → mapped O (multiple_matrix O (O.int (pos 1)) k) u ≡ mapped O k u
  once_mapped k u i = (one k.0 k.1 i, one k.2 k.3 i)
    where
      one : (p q : R) → O.add (O.mul (O.mul (O.int (pos 1)) p) u.0) (O.mul (O.mul (O.int (pos 1)) q) u.1) ≡ O.add (O.mul p u.0) (O.mul q u.1)
      one p q =
          identity O L (p ∷ q ∷ u.0 ∷ u.1 ∷ []) (expr.add (expr.mul (expr.mul (expr.int (pos 1)) (var 0)) (var 2)) (expr.mul (expr.mul (expr.int (pos 1)) (var 1)) (var 3)))
          (expr.add (expr.mul (var 0) (var 2)) (expr.mul (var 1) (var 3))) tt

  unit_mapped : (c m : R) (u : Vector R) → multiple_vector O m (multiple_vector O c u) ≡ mapped O (multiple_matrix O (O.mul c m) (unit_matrix O)) u
  unit_mapped c m u i =
      let values = c ∷ m ∷ u.0 ∷ u.1 ∷ [] in
      let u' : Vector Expr = (var 2, var 3) in
      let right = mapped expr (multiple_matrix expr (expr.mul (var 0) (var 1)) (unit_matrix expr)) u' in (
        identity O L values (expr.mul (var 1) (expr.mul (var 0) (var 2))) right.0 tt i,
        identity O L values (expr.mul (var 1) (expr.mul (var 0) (var 3))) right.1 tt i,
      )

  module _ {P : R → Type 0} (Q : IsOrdered O P) where
    -- m·x = n·u gives c·u = i·x where i/c is the inverse of n/m
    undone : (n i : Matrix R) (m c : R) (u x : Vector R) → P m → multiple_matrix O (O.int (pos 1)) (matrix_product O i n) ≡ multiple_matrix O (O.mul c m) (unit_matrix O)
        → multiple_vector O m x ≡ mapped O n u → multiple_vector O c u ≡ mapped O i x
    undone n i m c u x pm e f =
        cancel_vector O L Q m (multiple_vector O c u) (mapped O i x) pm
        (unit_mapped c m u ∙ ap (λ k. mapped O k u) (sym e) ∙ once_mapped (matrix_product O i n) u ∙ sym (mapped_twice O L i n u) ∙ ap (mapped O i) (sym f) ∙ mapped_multiple O L i m x)

-- ---- images
module _ (d : ℕ) (field : IsFieldNumber d) where
  -- t is the image of s by a, and both are triangulations
  abbrev pub Image : Turning d field → List Half → List Half → Type 0
  Image a s t = IsTriangulation d s × IsTriangulation d t × IsImageBy d a.0.rows a.0.denominator s t

  image_same : (a b : Turning d field) (s t : List Half) → Same d field a b → Image a s t → Image b s t
  image_same a b s t e i = (
    i.0,
    i.1,
    (
      i.2.0,
      i.2.1,
      image_rewritten d field a.0.rows b.0.rows a.0.denominator b.0.denominator s t i.2.0 i.2.1 b.1.0
          (sym (scaled_rows d (pos a.0.denominator) b.0.rows) ∙ sym e ∙ scaled_rows d (pos b.0.denominator) a.0.rows) i.2.2,
    ),
  )

  image_compose : (a b : Turning d field) (s t u : List Half) → Image a s t → Image b t u → Image (product d field b a) s u
  image_compose a b s t u i j = (
    i.0,
    j.1,
    (
      (λ k. j.2.0 (i.2.0 k)),
      (λ k. i.2.1 (j.2.1 k)),
      image_composed d a.0.rows b.0.rows a.0.denominator b.0.denominator s t u i.2.0 i.2.1 j.2.0 j.2.1 i.2.2 j.2.2,
    ),
  )

  inverse_is : (a : Turning d field) → let b = inverse d field a in multiple_matrix (quad_ops d) ((quad_ops d).int (pos 1)) (matrix_product (quad_ops d) b.0.rows a.0.rows)
      ≡ multiple_matrix (quad_ops d) ((quad_ops d).mul ((quad_ops d).int (pos b.0.denominator)) ((quad_ops d).int (pos a.0.denominator))) (unit_matrix (quad_ops d))
  inverse_is a =
      let b = inverse d field a in
      sym (scaled_rows d (pos 1) (matrix_product (quad_ops d) b.0.rows a.0.rows)) ∙ (inverse_of d field a).2.0 ∙ scaled_rows d (pos (b.0.denominator * a.0.denominator)) (unit_matrix (quad_ops d))
      ∙ ap (λ x. multiple_matrix (quad_ops d) x (unit_matrix (quad_ops d))) ((quad_ring d).int-mul (pos b.0.denominator) (pos a.0.denominator))

  image_back : (a : Turning d field) (s t : List Half) → Image a s t → Image (inverse d field a) t s
  image_back a s t (valid, valid_to, (forth, back, i)) =
      let n : Matrix Quad = a.0.rows in
      let m : ℕ = a.0.denominator in
      let b = inverse d field a in (
        valid_to,
        valid,
        (
          back,
          forth,
          record {
            denominator = b.1.0;
            count = sym i.count;
            each_once = back_once d n m s t forth back valid i;
            next = back_next d n m s t forth back valid i;
            twin = back_twin d n m s t forth back valid i;
            vectors = λ k below.
                undone (quad_ops d) (quad_ring d) (order_of d field) n b.0.rows ((quad_ops d).int (pos m)) ((quad_ops d).int (pos b.0.denominator)) (vector_at s (back k)) (vector_at t k)
                (natural_positive d m a.1.0) (inverse_is a)
                (ap (λ j. multiple_vector (quad_ops d) ((quad_ops d).int (pos m)) (vector_at t j)) (sym (forth_back d n m s t forth back i k below))
                ∙ i.vectors (back k) (back_inside d n m s t forth back i k below));
          },
        ),
      )

  pub image_self : (s : List Half) → IsTriangulation d s → Image (unit d field) s s
  image_self s valid = (valid, valid, translation_same d s)

  pub images : HasImages (Same d field) (product d field) (unit d field) (inverse d field) Image (LiesBehind d)
  images = record {
    same = λ {a = a} {b = b} {s = s} {t = t} e i. image_same a b s t e i;
    compose = λ {a = a} {b = b} {s = s} {t = t} {u = u} i j. image_compose a b s t u i j;
    back = λ {a = a} {s = s} {t = t} i. image_back a s t i;
    crossed = λ {a = a} {s = s} {s' = s'} {t = t} i c.
        let r = crossing_carried d field a.0.rows a.0.denominator s s' i.0 i.1 i.2 c.0 c.1 t c.2 in
        (r.2, (r.0, r.1, r.4), (cross_valid d field s i.0 c.0 c.1 t c.2, cross_valid d field s' i.1 r.0 r.1 r.2 r.4, r.5));
    cross_back = λ {s = s} {t = t} i c.
        let valid_to = cross_valid d field s i.0 c.0 c.1 t c.2 in
        let r = crossed_over d field s t i.0 c in
        (r.0, r.1, (i.0, cross_valid d field t valid_to r.1.0 r.1.1 r.0 r.1.2, r.2));
  }

-- ---- paths of crossings
pub to_path : (d : ℕ) (base : List Half) (n : ℕ) (end : List Half) → LeadsIn d base n end → Path (LiesBehind d) base end
to_path d base zero end same = subst (Path (LiesBehind d) base) (sym same) start
to_path d base (suc n) end path = on (to_path d base n path.0 path.1) path.2

pub from_path : (d : ℕ) (base : List Half) {end : List Half} → Path (LiesBehind d) base end → IsReached d base end
from_path d base start = reached_itself d base
from_path d base (on {k = k} {d = end} p c) = reached_behind d base k end (from_path d base p) c
