-- Behind a wall: the flipped triangulation is one, its edges have known signs at the wall's points, and the same edges are a wall with the opposite form.
use Rattle.std.proofs.Common.{◌≡◌, ◌⊎◌, ℕ, zero, suc, [], ◌∷◌, ◌<◌, Bool, true, false, List, length, refl, sym, ◌∙◌, ap, subst, inl, inr, arith, get_or}
use Rattle.std.specs.Prelude.{ℤ, pos, negsuc, neg_ℤ, unsigned_abs, slice_index}
use Rattle.std.specs.List.{Contains}
use Rattle.std.proofs.lemmas.Bool.{cases_Bool, true≢false}
use Rattle.std.proofs.lemmas.List.Elements.{Contains-get_or}
use Prim.Native.Nat.{◌∣◌}
use Rattle.rings.specs.Ring.{Ops, IsRing, var, expr}
use Rattle.rings.specs.Lines.{multiple, opposite_triple, IsOn}
use Rattle.rings.proofs.Solver.{identity}
use Rattle.rings.proofs.Signs.{minus_zero}
use Rattle.rings.proofs.Multiples.{opposite_value, opposite_of_multiple, multiple_zero}
use Rattle.quad_field.specs.declared.quad.Quad.{Quad}
use Rattle.quad_field.specs.Content.{DividesParts}
use Rattle.quad_field.specs.FieldNumber.{IsFieldNumber}
use Rattle.quad_field.specs.Quads.{quad_ops, scaled, IsPositive}
use Rattle.quad_field.proofs.CallerLemmas.{quad_ring, order_of, scaled_is}
use Rattle.tri_core.specs.declared.half.Half.{Half}
use Rattle.tri_core.specs.HalfEdges.{twin_at}
use Rattle.tri_core.specs.Triangulation.{IsTriangulation}
use Rattle.tri_core.specs.Flips.{IsEdge}
use Rattle.tri_core.specs.SeveralFlips.{is_among, IsSpread}
use Rattle.tri_core.proofs.CallerLemmas.{comes_from, among_cases, among_from}
use Rattle.hinge_form.specs.Triples.{Triple, times, HasNoDivisor}
use Rattle.hinge_form.specs.Hinges.{hinge_value, full_triple, IsHalfPlanePoint, IsStrictAt}
use Rattle.hinge_form.specs.Lines.{IsMultiple}
use Rattle.hinge_form.specs.Walls.{IsWall, IsWallPoint, IsEdgeOf}
use Rattle.hinge_form.proofs.CallerLemmas.{value_of_triple, strict_somewhere}
use Rattle.wall_cross.specs.Crossings.{AreAllFlipped}
use Rattle.wall_cross.proofs.Apexes.{alike_positive}
use Rattle.wall_cross.proofs.AtOnce.{member_twin, flipped_valid}
use Rattle.wall_cross.proofs.Members.{place_of, listed, listed_inside, wall_spread, member_convex, member_zero, other_positive}
use Rattle.wall_cross.proofs.Values.{member_value, member_triple, value_alike}

-- ---- the opposite of a triple
-- a number and its negative have the same divisors
abs_same : (a : ℤ) → unsigned_abs (neg_ℤ a) ≡ unsigned_abs a
abs_same (pos zero) = refl
abs_same (pos (suc n)) = refl
abs_same (negsuc n) = refl

parts_same : (d k : ℕ) (x : Quad) → DividesParts k ((quad_ops d).neg x) → DividesParts k x
parts_same d k x h = (subst (λ (n : ℕ). k ∣ n) (abs_same x.a) h.0, subst (λ (n : ℕ). k ∣ n) (abs_same x.b) h.1)

three : (P : Quad → Type 0) (x y z : Quad) → P x → P y → P z → (i : ℕ) (d : Quad) → i < 3 → P (get_or (x ∷ y ∷ z ∷ []) i d)
three P x y z p q r zero d h = p
three P x y z p q r (suc zero) d h = q
three P x y z p q r (suc (suc zero)) d h = r
three P x y z p q r (suc (suc (suc i))) d h = absurd (omega arith)

no_divisor : (d : ℕ) (l : Triple) → HasNoDivisor l → HasNoDivisor (opposite_triple (quad_ops d) l)
no_divisor d l none k all =
    none k (three (DividesParts k) l.0 l.1 l.2
    (parts_same d k l.0 (all 0 l.0 (omega arith))) (parts_same d k l.1 (all 1 l.1 (omega arith))) (parts_same d k l.2 (all 2 l.2 (omega arith))))

times_opposite : (d g : ℕ) (l : Triple) → opposite_triple (quad_ops d) (times g l) ≡ times g (opposite_triple (quad_ops d) l)
times_opposite d g l i = (one l.0 i, one l.1 i, one l.2 i)
  where
    one : (x : Quad) → (quad_ops d).neg (scaled (pos g) x) ≡ scaled (pos g) ((quad_ops d).neg x)
    one x =
        ap (quad_ops d).neg (scaled_is d (pos g) x)
        ∙ identity (quad_ops d) (quad_ring d) ((quad_ops d).int (pos g) ∷ x ∷ []) (expr.neg (expr.mul (var 0) (var 1))) (expr.mul (var 0) (expr.neg (var 1))) tt
        ∙ sym (scaled_is d (pos g) ((quad_ops d).neg x))

module _ (d : ℕ) (field : IsFieldNumber d) (halves : List Half) (valid : IsTriangulation d halves) (form : Triple) (edges : List ℕ) (wall : IsWall d halves form edges)
    (later : List Half) (flips : AreAllFlipped d halves edges later) where
  abbrev O : Ops Quad
  O = quad_ops d

  abbrev L : IsRing (quad_ops d)
  L = quad_ring d

  abbrev set : ℕ → Bool
  set k = is_among halves edges (length edges) k

  abbrev edge : ℕ → ℕ
  edge i = slice_index edges i

  spread : IsSpread halves (is_among halves edges (length edges))
  spread = wall_spread d field halves valid form edges wall

  -- a crossing is a triangulation
  pub crossing_valid : IsTriangulation d later
  crossing_valid = flipped_valid d halves valid (is_among halves edges (length edges)) spread later flips (λ h below e. (member_convex d field halves valid form edges wall h below e).fourth)

  within : (k : ℕ) → k < length later → k < length halves
  within k = subst (λ (l : ℕ). k < l) flips.count

  listed_member : (i : ℕ) → i < length edges → is_among halves edges (length edges) (slice_index edges i) ≡ true
  listed_member i less = among_from halves edges (length edges) (edge i) i less (inl (λ t. edge i))

  pub same_twin : (i : ℕ) → i < length edges → twin_at later (slice_index edges i) ≡ twin_at halves (slice_index edges i)
  same_twin i less = member_twin d halves valid (is_among halves edges (length edges)) spread later flips (edge i) (listed_inside d field halves valid form edges wall i less) (listed_member i less)

  -- the edges of the wall still are edges
  still_edge : (i : ℕ) → i < length edges → IsEdge later (slice_index edges i)
  still_edge i less =
      let named = (listed d field halves valid form edges wall i less).0 in
      (subst (λ (l : ℕ). edge i < l) (sym flips.count) named.0, subst (λ (k : ℕ). edge i < k) (sym (same_twin i less)) named.1)

  -- and an edge that is a half-edge of the wall is one of them
  listed_from : (k : ℕ) → IsEdge later k → is_among halves edges (length edges) k ≡ true → (i : ℕ) × (i < length edges) × (slice_index edges i ≡ k)
  listed_from k named e =
      let found = among_cases halves edges (length edges) k e in
      let i : ℕ = found.0 in
      let less : i < length edges = found.1 in
      elim found.2 [
        | inl same ↦ (i, less, sym same)
        | inr same ↦
            let inside = listed_inside d field halves valid form edges wall i less in
            let up : slice_index edges i < k = subst (λ (j : ℕ). edge i < j) (sym same) (listed d field halves valid form edges wall i less).0.1 in
            let twin : twin_at later k ≡ slice_index edges i =
            member_twin d halves valid (is_among halves edges (length edges)) spread later flips k (within k named.0) e ∙ ap (twin_at halves) same ∙ (valid.paired (edge i) inside).1 in
            let down : k < slice_index edges i = subst (λ (j : ℕ). k < j) twin named.1 in
            absurd (omega arith)
      ]

  -- ---- at a point of the wall
  module _ (q : Triple) (point : IsWallPoint d halves form q) where
    zeros : (h : ℕ) → h < length halves → is_among halves edges (length edges) h ≡ true → hinge_value d halves h q ≡ (quad_ops d).int (pos 0)
    zeros h below e = member_zero d field halves valid form edges wall q point h below e

    -- the half-edges of the wall have the value zero again, and all others a positive one
    zero_behind : (k : ℕ) → k < length later → is_among halves edges (length edges) k ≡ true → hinge_value d later k q ≡ (quad_ops d).int (pos 0)
    zero_behind k below e =
        member_value d halves valid (is_among halves edges (length edges)) spread later flips k (within k below) e q ∙ ap O.neg (zeros k (within k below) e) ∙ minus_zero O L (order_of d field)

    positive_behind : (k : ℕ) → k < length later → is_among halves edges (length edges) k ≡ false → IsPositive d (hinge_value d later k q)
    positive_behind k below free =
        let o = comes_from d halves valid (is_among halves edges (length edges)) spread k (within k below) in
        subst (λ (m : ℕ). IsPositive d (hinge_value d later m q)) o.goes
        (alike_positive O L (order_of d field) _ _
        (value_alike d halves valid (is_among halves edges (length edges)) spread later flips q zeros field crossing_valid o.origin o.inside (o.outside free))
        (other_positive d field halves valid form edges wall q point o.origin o.inside (o.outside free)))

    pub edge_behind : (k : ℕ) → IsEdge later k
        → (Contains edges k × (hinge_value d later k q ≡ (quad_ops d).int (pos 0))) ⊎ (¬ (Contains edges k) × IsPositive d (hinge_value d later k q))
    edge_behind k named = elim (cases_Bool (set k)) [
      | inl e ↦
          let at = listed_from k named e in
          inl (subst (Contains edges) at.2 (Contains-get_or edges at.0 0 at.1), zero_behind k named.0 e)
      | inr free ↦ inr (
        λ c. let at = place_of edges k c in
            true≢false (sym (subst (λ (m : ℕ). is_among halves edges (length edges) m ≡ true) at.2 (listed_member at.0 at.1)) ∙ free),
        positive_behind k named.0 free,
      )
    ]

  -- ---- the wall from behind
  abbrev behind : Triple
  behind = opposite_triple O form

  triple_behind : (i : ℕ) → i < length edges → full_triple d later (slice_index edges i) ≡ opposite_triple (quad_ops d) (full_triple d halves (slice_index edges i))
  triple_behind i less = member_triple d halves valid (is_among halves edges (length edges)) spread later flips (edge i) (listed_inside d field halves valid form edges wall i less) (listed_member i less)

  -- the values of the wall's edges are the opposite ones
  pub opposite_behind : (h : ℕ) → Contains edges h → (q : Triple) → hinge_value d later h q ≡ (quad_ops d).neg (hinge_value d halves h q)
  opposite_behind h c q =
      let at = place_of edges h c in
      subst (λ (k : ℕ). hinge_value d later k q ≡ O.neg (hinge_value d halves k q)) at.2
      (member_value d halves valid (is_among halves edges (length edges)) spread later flips (edge at.0) (listed_inside d field halves valid form edges wall at.0 at.1) (listed_member at.0 at.1) q)

  multiple_behind : (i : ℕ) → i < length edges → IsMultiple d (opposite_triple (quad_ops d) form) (full_triple d later (slice_index edges i))
  multiple_behind i less =
      let own = (listed d field halves valid form edges wall i less).1 in
      let full = full_triple d halves (edge i) in (
        own.0,
        own.1,
        own.2,
        own.3,
        ap (multiple O own.0) (triple_behind i less) ∙ sym (opposite_of_multiple O L own.0 full) ∙ ap (opposite_triple O) own.4 ∙ opposite_of_multiple O L own.1 form,
      )

  contained : (h : ℕ) → Contains edges h → IsEdgeOf d later (opposite_triple (quad_ops d) form) h
  contained h c =
      let at = place_of edges h c in
      subst (IsEdgeOf d later behind) at.2 (still_edge at.0 at.1, multiple_behind at.0 at.1)

  on_behind : IsOn (quad_ops d) (opposite_triple (quad_ops d) form) wall.line.0
  on_behind = opposite_value O L form wall.line.0 ∙ ap O.neg wall.line.1.on ∙ minus_zero O L (order_of d field)

  container : (h : ℕ) → IsEdgeOf d later (opposite_triple (quad_ops d) form) h → Contains edges h
  container h own = elim (edge_behind wall.line.0 wall.line.1 h own.0) [
    | inl is ↦ is.0
    | inr not ↦
        absurd ((order_of d field).zero_is_not
        (subst (IsPositive d) (value_of_triple d later h wall.line.0 ∙ multiple_zero O L (order_of d field) behind (full_triple d later h) wall.line.0 own.1 on_behind) not.1))
  ]

  pub wall_behind : IsWall d later (opposite_triple (quad_ops d) form) edges
  wall_behind = record {
    some = wall.some;
    least = record {
      divisor = wall.least.divisor;
      taken_out = triple_behind 0 wall.some ∙ ap (opposite_triple O) wall.least.taken_out ∙ times_opposite d wall.least.divisor form;
      reduced = no_divisor d form wall.least.reduced;
    };
    all = record { ascends = wall.all.ascends; exactly = λ h. (contained h, container h) };
    line = (
      wall.line.0,
      record {
        inside = wall.line.1.inside;
        on = on_behind;
        others = λ h named none. elim (edge_behind wall.line.0 wall.line.1 h named) [
          | inl is ↦ absurd (none (contained h is.0).1)
          | inr not ↦ not.1
        ];
      },
    );
  }

  -- so the crossing is strict at some half-plane point
  pub strict_behind : (q : Triple) × IsHalfPlanePoint d q × IsStrictAt d later q
  strict_behind = strict_somewhere d field later crossing_valid behind edges wall_behind
