-- The half-edges of a wall: those of its edges, which are all on its line, and no two of them are sides of one triangle.
use Rattle.std.proofs.Common.{◌≡◌, ◌⊎◌, ℕ, ◌<◌, ◌≤◌, true, false, List, length, sym, ap, ◌∙◌, subst, arith, inl, inr}
use Rattle.std.specs.Prelude.{pos, slice_index}
use Rattle.std.specs.List.{Contains}
use Rattle.std.proofs.lemmas.Bool.{true≢false, false_from_ne_true}
use Rattle.std.proofs.lemmas.List.{get_or_default}
use Rattle.std.proofs.lemmas.List.Elements.{Contains-get_or}
use Rattle.quad_field.specs.FieldNumber.{IsFieldNumber}
use Rattle.quad_field.specs.Quads.{quad_ops, IsPositive}
use Rattle.tri_core.specs.declared.half.Half.{Half}
use Rattle.tri_core.specs.HalfEdges.{twin_at, next_of, previous_of}
use Rattle.tri_core.specs.Triangulation.{IsTriangulation}
use Rattle.tri_core.specs.Flips.{IsStrictlyConvex}
use Rattle.tri_core.specs.SeveralFlips.{is_among, IsSpread}
use Rattle.tri_core.proofs.CallerLemmas.{next_previous, next_inside, previous_inside, half_or_twin, among_cases, among_from, among_more, among_twin}
use Rattle.hinge_form.specs.Triples.{Triple}
use Rattle.hinge_form.specs.Hinges.{hinge_value, full_triple}
use Rattle.hinge_form.specs.Lines.{IsMultiple}
use Rattle.hinge_form.specs.Walls.{IsWall, IsWallPoint, IsEdgeOf}
use Rattle.hinge_form.proofs.CallerLemmas.{value_from_twin, full_triple-twin, edge_of_wall, zero_on_line}
use Rattle.wall_cross.proofs.Sides.{on_wall_convex, sides_apart}

-- the place in a list of what it contains
pub place_of : (numbers : List ℕ) (n : ℕ) → Contains numbers n → (i : ℕ) × (i < length numbers) × (slice_index numbers i ≡ n)
place_of numbers n c = (c.0, c.1, get_or_default numbers c.0 0 n c.1 ∙ c.2)

module _ (d : ℕ) (field : IsFieldNumber d) (halves : List Half) (valid : IsTriangulation d halves) (form : Triple) (edges : List ℕ) (wall : IsWall d halves form edges) where
  abbrev edge : ℕ → ℕ
  edge i = slice_index edges i

  pub listed : (i : ℕ) → i < length edges → IsEdgeOf d halves form (slice_index edges i)
  listed i less = edge_of_wall d field halves valid form edges wall (slice_index edges i) (Contains-get_or edges i 0 less)

  pub listed_inside : (i : ℕ) → i < length edges → slice_index edges i < length halves
  listed_inside i less = (listed i less).0.0

  -- the half-edges of the wall are those on its line
  pub on_line : (k : ℕ) → k < length halves → is_among halves edges (length edges) k ≡ true → IsMultiple d form (full_triple d halves k)
  on_line k below e =
      let found = among_cases halves edges (length edges) k e in
      let own = listed found.0 found.1 in
      elim found.2 [
        | inl same ↦ subst (λ (m : ℕ). IsMultiple d form (full_triple d halves m)) (sym same) own.1
        | inr same ↦
            subst (IsMultiple d form)
            (sym (ap (full_triple d halves) same ∙ full_triple-twin d halves (edge found.0) valid own.0.0)) own.1
      ]

  pub from_line : (k : ℕ) → k < length halves → IsMultiple d form (full_triple d halves k) → is_among halves edges (length edges) k ≡ true
  from_line k below own = elim (half_or_twin d halves k valid below) [
    | inl named ↦
        let at = place_of edges k ((wall.all.exactly k).1 (named, own)) in
        among_from halves edges (length edges) k at.0 at.1 (inl (sym at.2))
    | inr named ↦
        let g = twin_at halves k in
        let at = place_of edges g ((wall.all.exactly g).1 (named, subst (IsMultiple d form) (sym (full_triple-twin d halves k valid below)) own)) in
        among_from halves edges (length edges) k at.0 at.1 (inr (sym (valid.paired k below).1 ∙ ap (twin_at halves) (sym at.2)))
  ]

  -- each edge is listed once, and not by its twin
  pub listed_fresh : (i : ℕ) → i < length edges → is_among halves edges i (slice_index edges i) ≡ false
  listed_fresh i less = false_from_ne_true _ (λ e. never (among_cases halves edges i (edge i) e))
    where
      never : (j : ℕ) × (j < i) × ((slice_index edges i ≡ slice_index edges j) ⊎ (slice_index edges i ≡ twin_at halves (slice_index edges j))) → ⊥
      never (j, before, is) =
          let up : slice_index edges j < slice_index edges i = wall.all.ascends j i before less in
          let inside : j < length edges = omega arith in
          elim is [
            | inl same ↦ omega arith
            | inr same ↦
                let back : twin_at halves (slice_index edges i) ≡ slice_index edges j = ap (twin_at halves) same ∙ (valid.paired (slice_index edges j) (listed_inside j inside)).1 in
                let down : slice_index edges i < twin_at halves (slice_index edges i) = (listed i less).0.1 in
                omega arith
          ]

  -- the set holds twins, and of each triangle one side at most
  pub wall_spread : IsSpread halves (is_among halves edges (length edges))
  wall_spread = record {
    twin = λ k below. among_twin d halves valid edges listed_inside (length edges) k (omega arith) below;
    after = λ k below e. false_from_ne_true _ (λ x. lone k below (on_line k below e) (on_line (next_of k) (next_inside d halves k valid below) x));
    before = λ k below e. false_from_ne_true _ (λ x.
        let p = previous_of k in
        let there = previous_inside d halves k valid below in
        lone p there (on_line p there x) (subst (λ (m : ℕ). IsMultiple d form (full_triple d halves m)) (sym (next_previous k)) (on_line k below e)));
  }
    where
      lone : (k : ℕ) → k < length halves → IsMultiple d form (full_triple d halves k) → ¬ (IsMultiple d form (full_triple d halves (next_of k)))
      lone = sides_apart d field halves valid form wall.line.0 wall.line.1

  -- and so does the set of the first n edges
  pub first_spread : (n : ℕ) → n ≤ length edges → IsSpread halves (is_among halves edges n)
  first_spread n few = record {
    twin = λ k below. among_twin d halves valid edges listed_inside n k few below;
    after = λ k below e. rest (next_of k) (wall_spread.after k below (all k e));
    before = λ k below e. rest (previous_of k) (wall_spread.before k below (all k e));
  }
    where
      all : (k : ℕ) → is_among halves edges n k ≡ true → is_among halves edges (length edges) k ≡ true
      all k e = among_more halves edges n (length edges) k few e

      rest : (k : ℕ) → is_among halves edges (length edges) k ≡ false → is_among halves edges n k ≡ false
      rest k none = false_from_ne_true _ (λ x. true≢false (sym (all k x) ∙ none))

  -- ---- at a point of the wall
  pub member_convex : (k : ℕ) → k < length halves → is_among halves edges (length edges) k ≡ true → IsStrictlyConvex d halves k
  member_convex k below e = on_wall_convex d field halves valid form wall.line.0 wall.line.1 k below (on_line k below e)

  module _ (q : Triple) (point : IsWallPoint d halves form q) where
    pub member_zero : (k : ℕ) → k < length halves → is_among halves edges (length edges) k ≡ true → hinge_value d halves k q ≡ (quad_ops d).int (pos 0)
    member_zero k below e = zero_on_line d field halves valid form k (on_line k below e) q point.on

    pub other_positive : (k : ℕ) → k < length halves → is_among halves edges (length edges) k ≡ false → IsPositive d (hinge_value d halves k q)
    other_positive k below free = elim (half_or_twin d halves k valid below) [
      | inl named ↦ point.others k named (λ own. true≢false (sym (from_line k below own) ∙ free))
      | inr named ↦
          subst (IsPositive d) (value_from_twin d halves k valid below q)
          (point.others (twin_at halves k) named (λ own. true≢false (sym (from_line k below (subst (IsMultiple d form) (full_triple-twin d halves k valid below) own)) ∙ free)))
    ]
