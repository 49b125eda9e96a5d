-- What a flip leaves as it was: the edges that are no sides of its two triangles.
use Rattle.std.proofs.Common.{◌≡◌, ◌≢◌, ◌↔◌, ℕ, ◌<◌, List, length, refl, sym, ◌∙◌, ap, subst, arith, inl, inr}
use Rattle.std.proofs.lemmas.Bool.{cases_lt}
use Rattle.rings.specs.Forms.{three_row_determinant, hinge_triple}
use Rattle.quad_field.specs.Quads.{quad_ops, IsPositive}
use Rattle.quad_field.specs.Width.{term_ops}
use Rattle.plane.specs.Vectors.{opposite_vector}
use Rattle.tri_core.specs.declared.half.Half.{Half}
use Rattle.tri_core.specs.HalfEdges.{vector_at, twin_at, triangle_of, next_of, previous_of}
use Rattle.tri_core.specs.Triangulation.{IsTriangulation}
use Rattle.tri_core.specs.Flips.{IsEdge, IsFlip, IsOuter, number_after}
use Rattle.tri_core.proofs.CallerLemmas.{side_next, side_previous, of_one_triangle, next_inside, previous_inside, twin_inside, number_same, number_of_next, number_of_previous, number_of_next_of_twin, number_of_previous_of_twin, Leaves, leaves}
use Rattle.hinge_form.specs.Hinges.{Triple, hinge_a, hinge_c, hinge_d, hinge_value, full_triple, IsHingeTriple, TripleFits, vector_leaves}
use Rattle.hinge_form.specs.Triples.{IsReduced, AllThreeFit}
use Rattle.delaunay_flip.specs.Flipping.{IsNegative}
use Rattle.delaunay_flip.specs.Widths.{EdgeFits}
use Rattle.delaunay_flip.specs.Tables.{IsRightAt, IsTable, IsTableBut, IsOf, IsOfSome, sides_of}
use Rattle.delaunay_flip.specs.declared.edge_values.EdgeValues.{EdgeValues}
use Rattle.delaunay_flip.proofs.TableLemmas.{right_no_edge}

-- two lists in which half-edge k is an edge or isn't, and has the same hinge
pub record HasSameHinge (d : ℕ) (halves later : List Half) (k : ℕ) : Type 0 where
  pub edge : IsEdge later k ↔ IsEdge halves k
  pub first : hinge_a later k ≡ hinge_a halves k
  pub second : hinge_c d later k ≡ hinge_c d halves k
  pub third : hinge_d later k ≡ hinge_d halves k

module _ (d : ℕ) (halves later : List Half) (k : ℕ) (same : HasSameHinge d halves later k) where
  -- so all that is said of its hinge is the same
  full_same : full_triple d later k ≡ full_triple d halves k
  full_same i = hinge_triple (quad_ops d) (same.first i) (same.second i) (same.third i)

  value_same : (q : Triple) → hinge_value d later k q ≡ hinge_value d halves k q
  value_same q i = three_row_determinant (quad_ops d) q (same.first i) (same.second i) (same.third i)

  triple_to : (l : Triple) → IsHingeTriple d halves k l → IsHingeTriple d later k l
  triple_to l t = subst (λ (full : Triple). IsReduced full l) (sym full_same) t

  triple_from : (l : Triple) → IsHingeTriple d later k l → IsHingeTriple d halves k l
  triple_from l t = subst (λ (full : Triple). IsReduced full l) full_same t

  width_same : TripleFits d later k ≡ TripleFits d halves k
  width_same i = AllThreeFit d (hinge_triple term_ops (vector_leaves (same.first i)) (vector_leaves (same.second i)) (vector_leaves (same.third i)))

  module _ (q : Triple) where
    fits_same : EdgeFits d q halves k → EdgeFits d q later k
    fits_same fits = (subst (λ (A : Type 0). A) (sym width_same) fits.0, λ l t. fits.1 l (triple_from l t))

    negative_same : IsNegative d q later k ↔ IsNegative d q halves k
    negative_same = (
      λ n. (same.edge.0 n.0, subst (λ v. IsPositive d ((quad_ops d).neg v)) (value_same q) n.1),
      λ n. (same.edge.1 n.0, subst (λ v. IsPositive d ((quad_ops d).neg v)) (sym (value_same q)) n.1),
    )

    -- and what a table has for it
    pub right_same : (table : EdgeValues) → IsRightAt d q halves table k → IsRightAt d q later table k
    right_same table right = record {
      fits = λ edge. fits_same (right.fits (same.edge.0 edge));
      value = λ edge. let v = right.value (same.edge.0 edge) in (v.0, triple_to v.0 v.1, v.2);
      negative = (λ p. negative_same.1 (right.negative.0 p), λ n. right.negative.1 (negative_same.0 n));
    }

module _ (d : ℕ) (halves : List Half) (h : ℕ) (later : List Half) (valid : IsTriangulation d halves) (edge : IsEdge halves h) (flip : IsFlip d halves h later) (later_valid : IsTriangulation d later) where
  abbrev g : ℕ
  g = twin_at halves h

  left : Leaves d halves h g later
  left = leaves d halves h later valid edge.0 flip g refl

  apart : ¬ (triangle_of h ≡ triangle_of g)
  apart = left.apart.apart

  -- a half-edge is of an outer side where it is one
  of_outer : (s : ℕ) → IsOuter h g s → (k : ℕ) → IsOf later s k → IsOfSome later (sides_of later h) k
  of_outer s outer k of = elim outer [
    | inl e ↦ inr (inl (subst (λ m. IsOf later m k) e of))
    | inr o ↦ elim o [
      | inl e ↦ inr (inr (inl (subst (λ m. IsOf later m k) e of)))
      | inr o ↦ elim o [
        | inl e ↦ inr (inr (inr (inl (subst (λ m. IsOf later m k) (e ∙ ap next_of (sym left.twin)) of))))
        | inr e ↦ inr (inr (inr (inr (inl (subst (λ m. IsOf later m k) (e ∙ ap previous_of (sym left.twin)) of)))))
      ]
    ]
  ]

  -- an outer side becomes an outer side
  outer_after : (s : ℕ) → IsOuter h g s → IsOuter h g (number_after h g s)
  outer_after s outer = elim outer [
    | inl e ↦ inr (inl (ap (number_after h g) e ∙ number_of_next h g apart))
    | inr o ↦ elim o [
      | inl e ↦ inr (inr (inl (ap (number_after h g) e ∙ number_of_previous h g apart)))
      | inr o ↦ elim o [
        | inl e ↦ inr (inr (inr (ap (number_after h g) e ∙ number_of_next_of_twin h g apart)))
        | inr e ↦ inl (ap (number_after h g) e ∙ number_of_previous_of_twin h g apart)
      ]
    ]
  ]

  -- a half-edge that is neither h nor its twin nor an outer side lies in another triangle
  elsewhere : (k : ℕ) → k ≢ h → k ≢ g → ¬ (IsOuter h g k) → ¬ (triangle_of k ≡ triangle_of h) × ¬ (triangle_of k ≡ triangle_of g)
  elsewhere k a b none = (
    λ e. elim (of_one_triangle h k (sym e)) [ inl same ↦ a same | inr o ↦ elim o [ inl n ↦ none (inl n) | inr p ↦ none (inr (inl p)) ] ],
    λ e. elim (of_one_triangle g k (sym e)) [ inl same ↦ b same | inr o ↦ elim o [ inl n ↦ none (inr (inr (inl n))) | inr p ↦ none (inr (inr (inr p))) ] ],
  )

  module _ (k : ℕ) (below : k < length halves) (out : ¬ (IsOfSome later (sides_of later h) k)) where
    abbrev t : ℕ
    t = twin_at halves k

    inside : k < length later
    inside = subst (λ n. k < n) (sym left.count) below

    not_h : k ≢ h
    not_h e = out (inl (inl e))

    not_g : k ≢ g
    not_g e = out (inl (inr (e ∙ sym left.twin)))

    not_outer : ¬ (IsOuter h g k)
    not_outer outer = out (of_outer k outer k (inl refl))

    own : ¬ (triangle_of k ≡ triangle_of h) × ¬ (triangle_of k ≡ triangle_of g)
    own = elsewhere k not_h not_g not_outer

    -- its twin lies elsewhere too, and stays
    twin_after : twin_at later k ≡ number_after h g t
    twin_after = ap (twin_at later) (sym (number_same h g k not_outer)) ∙ left.twins k below

    twin_not_outer : ¬ (IsOuter h g t)
    twin_not_outer outer =
        out (of_outer (number_after h g t) (outer_after t outer) k (inr (sym (later_valid.paired k inside).1 ∙ ap (twin_at later) twin_after)))

    twin_not_h : t ≢ h
    twin_not_h e = not_g (sym (valid.paired k below).1 ∙ ap (twin_at halves) e)

    twin_not_g : t ≢ g
    twin_not_g e = not_h (sym (valid.paired k below).1 ∙ ap (twin_at halves) e ∙ (valid.paired h edge.0).1)

    twin_own : ¬ (triangle_of t ≡ triangle_of h) × ¬ (triangle_of t ≡ triangle_of g)
    twin_own = elsewhere t twin_not_h twin_not_g twin_not_outer

    twin_same : twin_at later k ≡ t
    twin_same = left.twin_kept k below not_outer twin_not_outer

    hinge_same : HasSameHinge d halves later k
    hinge_same =
        let far = twin_inside d halves k valid below in
        record {
          edge = (λ e. (below, subst (λ n. k < n) twin_same e.1), λ e. (inside, subst (λ n. k < n) (sym twin_same) e.1));
          first = left.elsewhere k below own.0 own.1;
          second =
              ap (opposite_vector (quad_ops d))
              (left.elsewhere (previous_of k) (previous_inside d halves k valid below) (λ e. own.0 (sym (side_previous k) ∙ e)) (λ e. own.1 (sym (side_previous k) ∙ e)));
          third =
              ap (λ m. vector_at later (next_of m)) twin_same
              ∙ left.elsewhere (next_of t) (next_inside d halves t valid far) (λ e. twin_own.0 (sym (side_next t) ∙ e)) (λ e. twin_own.1 (sym (side_next t) ∙ e));
        }

  -- what a table has is so after the flip, but for the sides of the two triangles
  pub table_after : (q : Triple) (table : EdgeValues) → IsTable d q halves table → IsTableBut d q later (sides_of later h) table
  table_after q table all = record {
    count = all.count ∙ sym left.count;
    right = λ k out. elim (cases_lt k (length halves)) [
      | inl below ↦ right_same d halves later k (hinge_same k below out) q table (all.right k (λ none. none))
      | inr past ↦
          right_no_edge d q later table k (λ e. let inside = subst (λ n. k < n) left.count e.0 in omega arith)
          (λ held. let inside = ((all.right k (λ none. none)).negative.0 held).0.0 in omega arith)
    ];
  }

  -- and h is an edge of it
  pub edge_after : IsEdge later h
  edge_after = (subst (λ n. h < n) (sym left.count) edge.0, subst (λ n. h < n) (sym left.twin) edge.1)
