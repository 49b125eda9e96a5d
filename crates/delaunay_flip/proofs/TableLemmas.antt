-- Tables of the values of edges: filled from the least edge on, renewed at an edge, and what a flip leaves of them.
use Rattle.std.proofs.Common.{◌≡◌, ◌≢◌, ◌↔◌, ℕ, ◌+◌, ◌<◌, ◌≤◌, List, ◌∷◌, length, get_or, sym, ◌∙◌, ap, subst, arith, inl, inr}
use Rattle.std.specs.Prelude.{pos, ◌⊎◌, vec_len}
use Rattle.std.proofs.lemmas.Bool.{cases_eq, cases_lt}
use Rattle.std.proofs.lemmas.List.{get_or-set_same, get_or-set_other}
use Rattle.quad_field.specs.declared.quad.Quad.{Quad}
use Rattle.quad_field.specs.declared.formula.Formula.{Formula}
use Rattle.quad_field.specs.FieldNumber.{IsFieldNumber}
use Rattle.quad_field.specs.Quads.{quad, quad_ops, IsPositive}
use Rattle.tri_core.specs.declared.half.Half.{Half}
use Rattle.tri_core.specs.HalfEdges.{twin_at}
use Rattle.tri_core.specs.Triangulation.{IsTriangulation}
use Rattle.tri_core.specs.Flips.{IsEdge}
use Rattle.hinge_form.specs.Hinges.{Triple}
use Rattle.delaunay_flip.specs.Flipping.{IsValueAt}
use Rattle.delaunay_flip.specs.Widths.{EdgeFits, IsFirstWide, IsWideEdge}
use Rattle.delaunay_flip.specs.Words.{Holds}
use Rattle.delaunay_flip.specs.Tables.{entry, IsRightAt, IsEntered, IsTable, IsTableBut, IsNamed, IsRenewed, IsOf}
use Rattle.delaunay_flip.specs.declared.edge_values.EdgeValues.{EdgeValues}
use Rattle.delaunay_flip.proofs.Signs.{negative_by_value}

-- a table is so below h, and has nothing in its set from h on
pub record IsFilled (d : ℕ) (q : Triple) (halves : List Half) (h : ℕ) (table : EdgeValues) : Type 0 where
  pub count : vec_len table.values ≡ length halves
  pub below : (k : ℕ) → k < h → IsRightAt d q halves table k
  pub above : (k : ℕ) → h ≤ k → ¬ (Holds table.negative.words k)

module _ (d : ℕ) (q : Triple) (halves : List Half) where
  -- what is so for k stays so where its entry and its place in the set stay
  pub right_kept : (earlier later : EdgeValues) (k : ℕ) → entry later k ≡ entry earlier k → Holds later.negative.words k ↔ Holds earlier.negative.words k
      → IsRightAt d q halves earlier k → IsRightAt d q halves later k
  right_kept earlier later k same held right = record {
    fits = right.fits;
    value = λ edge. subst (IsValueAt d q halves k) (sym same) (right.value edge);
    negative = (λ p. right.negative.0 (held.0 p), λ n. held.1 (right.negative.1 n));
  }

  -- what is no edge, and isn't in the set, is so
  pub right_no_edge : (table : EdgeValues) (k : ℕ) → ¬ (IsEdge halves k) → ¬ (Holds table.negative.words k) → IsRightAt d q halves table k
  right_no_edge table k none out = record {
    fits = λ edge. absurd (none edge);
    value = λ edge. absurd (none edge);
    negative = (λ p. absurd (out p), λ n. absurd (none n.0));
  }

  -- another entry is kept
  entered_entry : (h : ℕ) (v : Quad) (fd : ℕ) (earlier later : EdgeValues) → IsEntered fd h v earlier later → (k : ℕ) → k ≢ h → entry later k ≡ entry earlier k
  entered_entry h v fd earlier later entered k other =
      ap (λ xs. get_or xs k (quad (pos 0) (pos 0))) entered.values ∙ get_or-set_other earlier.values.items h k v (quad (pos 0) (pos 0)) other

  pub right_other : (h : ℕ) (v : Quad) (fd : ℕ) (earlier later : EdgeValues) → IsEntered fd h v earlier later → (k : ℕ) → k ≢ h → IsRightAt d q halves earlier k → IsRightAt d q halves later k
  right_other h v fd earlier later entered k other =
      right_kept earlier later k (entered_entry h v fd earlier later entered k other) (entered.others k other)

  module _ (fd : ℕ) (same : fd ≡ d) (field : IsFieldNumber fd) (valid : IsTriangulation d halves) where
    -- the value of an edge is entered
    pub right_entered : (h : ℕ) (v : Quad) (earlier later : EdgeValues) → IsEdge halves h → vec_len earlier.values ≡ length halves → EdgeFits d q halves h → IsValueAt d q halves h v
        → IsEntered fd h v earlier later → IsRightAt d q halves later h
    right_entered h v earlier later edge count fits value entered =
        let long = earlier.values.ok.0 in
        let inside : h < length earlier.values.items = subst (λ n. h < n) (sym count ∙ long) edge.0 in
        let is : entry later h ≡ v = ap (λ xs. get_or xs h (quad (pos 0) (pos 0))) entered.values ∙ get_or-set_same earlier.values.items h v (quad (pos 0) (pos 0)) inside in
        let both = negative_by_value d (subst IsFieldNumber same field) halves valid h edge q v value in
        let this = subst (λ n. Holds later.negative.words h ↔ IsPositive n ((quad_ops n).neg v)) same entered.this in
        record {
          fits = λ e. fits;
          value = λ e. subst (IsValueAt d q halves h) (sym is) value;
          negative = (λ p. both.0 (this.0 p), λ n. this.1 (both.1 n));
        }

    -- a table is filled on by an edge
    pub filled_edge : (h : ℕ) (v : Quad) (earlier later : EdgeValues) → IsEdge halves h → EdgeFits d q halves h → IsValueAt d q halves h v
        → IsEntered fd h v earlier later → IsFilled d q halves h earlier → IsFilled d q halves (h + 1) later
    filled_edge h v earlier later edge fits value entered filled = record {
      count = entered.count ∙ filled.count;
      below = λ k less. elim (cases_eq k h) [
        | inl e ↦ subst (IsRightAt d q halves later) (sym e) (right_entered h v earlier later edge filled.count fits value entered)
        | inr apart ↦ right_other h v fd earlier later entered k apart (filled.below k (omega arith))
      ];
      above = λ k more held. filled.above k (omega arith) ((entered.others k (λ e. omega arith)).0 held);
    }

    -- the edge of half-edge h is renewed: it is taken out of the set by the name that it hasn't, and entered by the name that it has
    pub renewed : (h low high : ℕ) (v : Quad) (earlier between later : EdgeValues) → IsNamed halves h low high → EdgeFits d q halves low → IsValueAt d q halves low v
        → vec_len between.values ≡ length halves → between.values.items ≡ earlier.values.items
        → ¬ (Holds between.negative.words high) → ((k : ℕ) → k ≢ high → Holds between.negative.words k ↔ Holds earlier.negative.words k)
        → IsEntered fd low v between later → IsRenewed d q halves h earlier later
    renewed h low high v earlier between later named fits value count items out others entered = record {
      here = λ k of. elim (one_of k of) [
        | inl e ↦ subst (IsRightAt d q halves later) (sym e) (right_entered low v between later named.edge count fits value entered)
        | inr e ↦ subst (IsRightAt d q halves later) (sym e) (right_no_edge later high named.other (λ held. out ((entered.others high apart).0 held)))
      ];
      entries = λ k not_of. entered_entry low v fd between later entered k (λ e. not_of (of_low k e)) ∙ ap (λ xs. get_or xs k (quad (pos 0) (pos 0))) items;
      sets = λ k not_of.
          let first = entered.others k (λ e. not_of (of_low k e)) in
          let second = others k (λ e. not_of (of_high k e)) in
          (λ p. second.0 (first.0 p), λ p. first.1 (second.1 p));
    }
      where
        apart : high ≢ low
        apart e = named.other (subst (IsEdge halves) (sym e) named.edge)

        one_of : (k : ℕ) → IsOf halves h k → (k ≡ low) ⊎ (k ≡ high)
        one_of k of = elim named.names [
          | inl n ↦ elim of [ inl e ↦ inl (e ∙ n.0) | inr e ↦ inr (e ∙ n.1) ]
          | inr n ↦ elim of [ inl e ↦ inr (e ∙ n.0) | inr e ↦ inl (e ∙ n.1) ]
        ]

        of_low : (k : ℕ) → k ≡ low → IsOf halves h k
        of_low k e = elim named.names [ inl n ↦ inl (e ∙ sym n.0) | inr n ↦ inr (e ∙ sym n.1) ]

        of_high : (k : ℕ) → k ≡ high → IsOf halves h k
        of_high k e = elim named.names [ inl n ↦ inr (e ∙ sym n.1) | inr n ↦ inl (e ∙ sym n.0) ]

  -- a table is filled on where there is no edge
  pub filled_no_edge : (h : ℕ) (table : EdgeValues) → ¬ (IsEdge halves h) → IsFilled d q halves h table → IsFilled d q halves (h + 1) table
  filled_no_edge h table none filled = record {
    count = filled.count;
    below = λ k less. elim (cases_eq k h) [
      | inl e ↦ subst (IsRightAt d q halves table) (sym e) (right_no_edge table h none (filled.above h (omega arith)))
      | inr apart ↦ filled.below k (omega arith)
    ];
    above = λ k more. filled.above k (omega arith);
  }

  -- a table that is filled to the end
  pub filled_all : (h : ℕ) (table : EdgeValues) → length halves ≤ h → IsFilled d q halves h table → IsTable d q halves table
  filled_all h table end filled = record {
    count = filled.count;
    right = λ k _. elim (cases_lt k h) [
      | inl less ↦ filled.below k less
      | inr more ↦ right_no_edge table k (λ edge. let inside = edge.0 in omega arith) (filled.above k (omega arith))
    ];
  }

  -- the first edge that doesn't fit
  pub wide_edge : (h : ℕ) (formula : Formula) (table : EdgeValues) → IsFilled d q halves h table → IsEdge halves h → IsFirstWide d q halves h formula → IsWideEdge d q halves formula h
  wide_edge h formula table filled edge first = (
    ((edge, misfit first), λ k less other. other.1 ((filled.below k less).fits other.0)),
    first,
  )
    where
      misfit : IsFirstWide d q halves h formula → ¬ (EdgeFits d q halves h)
      misfit (inl (_, wide)) fits = wide fits.0
      misfit (inr (_, _, wide)) fits = wide fits.1

  -- k is of a half-edge, or it isn't
  of_or_not : (h k : ℕ) → IsOf halves h k ⊎ ¬ (IsOf halves h k)
  of_or_not h k = elim (cases_eq k h) [
    | inl e ↦ inl (inl e)
    | inr a ↦ elim (cases_eq k (twin_at halves h)) [
      | inl e ↦ inl (inr e)
      | inr b ↦ inr (λ of. elim of [ inl e ↦ a e | inr e ↦ b e ])
    ]
  ]

  -- one side fewer is left
  pub renewed_side : (h : ℕ) (sides : List ℕ) (earlier later : EdgeValues) → vec_len later.values ≡ length halves → IsRenewed d q halves h earlier later
      → IsTableBut d q halves (h ∷ sides) earlier → IsTableBut d q halves sides later
  renewed_side h sides earlier later count renewed but = record {
    count = count;
    right = λ k left. elim (of_or_not h k) [
      | inl of ↦ renewed.here k of
      | inr out ↦
          right_kept earlier later k (renewed.entries k out) (renewed.sets k out)
          (but.right k (λ some. elim some [ inl of ↦ out of | inr of ↦ left of ]))
    ];
  }
