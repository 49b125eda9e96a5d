-- Flips at once keep the area: the corners of the two triangles of a flipped edge have, two by two, the same sums.
use Rattle.std.proofs.Common.{◌≡◌, ℕ, ◌<◌, Bool, true, false, if◌then◌else◌, List, [], ◌∷◌, length, arith, sym, ap, ◌∙◌, subst, inl, inr}
use mathlib.Core.Path.{ap₂}
use Rattle.std.specs.Prelude.{pos}
use Rattle.std.proofs.lemmas.Bool.{cases_Bool}
use Rattle.rings.specs.Ring.{Ops, IsRing, Expr, var, expr}
use Rattle.rings.specs.Forms.{det}
use Rattle.rings.specs.Vectors.{Vector, vector_sum, opposite_vector, zero_vector}
use Rattle.rings.proofs.Solver.{identity}
use Rattle.quad_field.specs.declared.quad.Quad.{Quad}
use Rattle.quad_field.specs.FieldNumber.{IsFieldNumber}
use Rattle.quad_field.specs.Quads.{quad_ops}
use Rattle.quad_field.proofs.CallerLemmas.{quad_ring, order_of, natural_positive}
use Rattle.tri_core.specs.declared.half.Half.{Half}
use Rattle.tri_core.specs.HalfEdges.{vector_at, twin_at, next_of, previous_of}
use Rattle.tri_core.specs.Triangulation.{IsTriangulation}
use Rattle.tri_core.specs.SeveralFlips.{IsSpread, AreFlipped}
use Rattle.tri_core.specs.Images.{AreInverse}
use Rattle.tri_core.proofs.CallerLemmas.{next_next, previous_previous, next_previous, previous_next, next_inside, previous_inside, twin_inside, triple_at, number_staying}
use Rattle.wall_cross.proofs.CallerLemmas.{at_previous, at_next, at_next_of_twin, at_twin}
use Rattle.returning.specs.Areas.{total, corner, six_areas}
use Rattle.returning.proofs.Sums.{total_paired}

-- three vectors of variables, and the fourth that closes them
abbrev n' : Vector Expr
n' = (var 0, var 1)

abbrev p' : Vector Expr
p' = (var 2, var 3)

abbrev q' : Vector Expr
q' = (var 4, var 5)

abbrev fourth : {R : Type 0} → Ops R → Vector R → Vector R → Vector R → Vector R
fourth O n p q = opposite_vector O (vector_sum O (vector_sum O n p) q)

module _ {R : Type 0} (O : Ops R) (L : IsRing O) where
  -- h + n + p = 0 and -h + q + r = 0 give h = -(n + p) and r = -(n + p + q)
  first_of : (h n p : Vector R) → vector_sum O (vector_sum O h n) p ≡ zero_vector O → h ≡ opposite_vector O (vector_sum O n p)
  first_of h n p e i = (part h.0 n.0 p.0 (ap (λ (x : Vector R). x.0) e) i, part h.1 n.1 p.1 (ap (λ (x : Vector R). x.1) e) i)
    where
      part : (u v w : R) → O.add (O.add u v) w ≡ O.int (pos 0) → u ≡ O.neg (O.add v w)
      part u v w e =
          identity O L (u ∷ v ∷ w ∷ []) (var 0) (expr.sub (expr.add (expr.add (var 0) (var 1)) (var 2)) (expr.add (var 1) (var 2))) tt
          ∙ ap (λ x. O.sub x (O.add v w)) e ∙ identity O L (v ∷ w ∷ []) (expr.sub (expr.int (pos 0)) (expr.add (var 0) (var 1))) (expr.neg (expr.add (var 0) (var 1))) tt

  last_of : (g q r : Vector R) → vector_sum O (vector_sum O g q) r ≡ zero_vector O → r ≡ opposite_vector O (vector_sum O g q)
  last_of g q r e i = (part g.0 q.0 r.0 (ap (λ (x : Vector R). x.0) e) i, part g.1 q.1 r.1 (ap (λ (x : Vector R). x.1) e) i)
    where
      part : (u v w : R) → O.add (O.add u v) w ≡ O.int (pos 0) → w ≡ O.neg (O.add u v)
      part u v w e =
          identity O L (u ∷ v ∷ w ∷ []) (var 2) (expr.sub (expr.add (expr.add (var 0) (var 1)) (var 2)) (expr.add (var 0) (var 1))) tt
          ∙ ap (λ x. O.sub x (O.add u v)) e ∙ identity O L (u ∷ v ∷ []) (expr.sub (expr.int (pos 0)) (expr.add (var 0) (var 1))) (expr.neg (expr.add (var 0) (var 1))) tt

  fourth_of : (n p q : Vector R) → opposite_vector O (vector_sum O (opposite_vector O (opposite_vector O (vector_sum O n p))) q) ≡ fourth O n p q
  fourth_of n p q i = (part n.0 p.0 q.0 i, part n.1 p.1 q.1 i)
    where
      part : (n p q : R) → O.neg (O.add (O.neg (O.neg (O.add n p))) q) ≡ O.neg (O.add (O.add n p) q)
      part n p q =
          identity O L (n ∷ p ∷ q ∷ []) (expr.neg (expr.add (expr.neg (expr.neg (expr.add (var 0) (var 1)))) (var 2))) (expr.neg (expr.add (expr.add (var 0) (var 1)) (var 2))) tt

  -- the corners of (h, n, p) and (g, q, r), and those of (-(r + n), r, n) and (-(p + q), p, q)
  own_corners : (n p q : Vector R) → let r = fourth O n p q in
      O.add (det O (opposite_vector O (vector_sum O r n)) r) (det O (opposite_vector O (vector_sum O p q)) p)
      ≡ O.add (det O (opposite_vector O (vector_sum O n p)) n) (det O (opposite_vector O (opposite_vector O (vector_sum O n p))) q)
  own_corners n p q =
      let r' = fourth expr n' p' q' in
      identity O L (n.0 ∷ n.1 ∷ p.0 ∷ p.1 ∷ q.0 ∷ q.1 ∷ [])
      (expr.add (det expr (opposite_vector expr (vector_sum expr r' n')) r') (det expr (opposite_vector expr (vector_sum expr p' q')) p'))
      (expr.add (det expr (opposite_vector expr (vector_sum expr n' p')) n') (det expr (opposite_vector expr (opposite_vector expr (vector_sum expr n' p'))) q')) tt

  next_corners : (n p q : Vector R) → let r = fourth O n p q in O.add (det O r n) (det O p q) ≡ O.add (det O n p) (det O q r)
  next_corners n p q =
      let r' = fourth expr n' p' q' in
      identity O L (n.0 ∷ n.1 ∷ p.0 ∷ p.1 ∷ q.0 ∷ q.1 ∷ []) (expr.add (det expr r' n') (det expr p' q')) (expr.add (det expr n' p') (det expr q' r')) tt

  previous_corners : (n p q : Vector R) → let r = fourth O n p q in
      O.add (det O n (opposite_vector O (vector_sum O r n))) (det O q (opposite_vector O (vector_sum O p q)))
      ≡ O.add (det O p (opposite_vector O (vector_sum O n p))) (det O r (opposite_vector O (opposite_vector O (vector_sum O n p))))
  previous_corners n p q =
      let r' = fourth expr n' p' q' in
      identity O L (n.0 ∷ n.1 ∷ p.0 ∷ p.1 ∷ q.0 ∷ q.1 ∷ [])
      (expr.add (det expr n' (opposite_vector expr (vector_sum expr r' n'))) (det expr q' (opposite_vector expr (vector_sum expr p' q'))))
      (expr.add (det expr p' (opposite_vector expr (vector_sum expr n' p'))) (det expr r' (opposite_vector expr (opposite_vector expr (vector_sum expr n' p'))))) tt

module _ (d : ℕ) (halves : List Half) (valid : IsTriangulation d halves) (set : ℕ → Bool) (spread : IsSpread halves set) where
  -- in the two triangles of a member the half-edges are exchanged: it and its twin, those behind them, and those before them
  abbrev partner : ℕ → ℕ
  partner k =
      if set k then twin_at halves k
      else if set (previous_of k) then next_of (twin_at halves (previous_of k))
      else if set (next_of k) then previous_of (twin_at halves (next_of k))
      else k

  partner_own : (k : ℕ) → set k ≡ true → partner k ≡ twin_at halves k
  partner_own k e =
      ap (λ (b : Bool). if b then twin_at halves k else if set (previous_of k) then next_of (twin_at halves (previous_of k)) else if set (next_of k) then previous_of (twin_at halves (next_of k)) else k) e

  partner_next : (k : ℕ) → set k ≡ false → set (previous_of k) ≡ true → partner k ≡ next_of (twin_at halves (previous_of k))
  partner_next k e f =
      ap (λ (b : Bool). if b then twin_at halves k else if set (previous_of k) then next_of (twin_at halves (previous_of k)) else if set (next_of k) then previous_of (twin_at halves (next_of k)) else k) e
      ∙ ap (λ (b : Bool). if b then next_of (twin_at halves (previous_of k)) else if set (next_of k) then previous_of (twin_at halves (next_of k)) else k) f

  partner_previous : (k : ℕ) → set k ≡ false → set (previous_of k) ≡ false → set (next_of k) ≡ true → partner k ≡ previous_of (twin_at halves (next_of k))
  partner_previous k e f g =
      ap (λ (b : Bool). if b then twin_at halves k else if set (previous_of k) then next_of (twin_at halves (previous_of k)) else if set (next_of k) then previous_of (twin_at halves (next_of k)) else k) e
      ∙ ap (λ (b : Bool). if b then next_of (twin_at halves (previous_of k)) else if set (next_of k) then previous_of (twin_at halves (next_of k)) else k) f
      ∙ ap (λ (b : Bool). if b then previous_of (twin_at halves (next_of k)) else k) g

  partner_none : (k : ℕ) → set k ≡ false → set (previous_of k) ≡ false → set (next_of k) ≡ false → partner k ≡ k
  partner_none k e f g =
      ap (λ (b : Bool). if b then twin_at halves k else if set (previous_of k) then next_of (twin_at halves (previous_of k)) else if set (next_of k) then previous_of (twin_at halves (next_of k)) else k) e
      ∙ ap (λ (b : Bool). if b then next_of (twin_at halves (previous_of k)) else if set (next_of k) then previous_of (twin_at halves (next_of k)) else k) f
      ∙ ap (λ (b : Bool). if b then previous_of (twin_at halves (next_of k)) else k) g

  -- the three pairs of a member
  module _ (h : ℕ) (below : h < length halves) (member : set h ≡ true) where
    abbrev g : ℕ
    g = twin_at halves h

    g_inside : g < length halves
    g_inside = twin_inside d halves h valid below

    g_member : set g ≡ true
    g_member = spread.twin h below ∙ member

    next_partner : partner (next_of h) ≡ next_of g
    next_partner =
        partner_next (next_of h) (spread.after h below member) (ap set (previous_next h) ∙ member) ∙ ap (λ i. next_of (twin_at halves i)) (previous_next h)

    previous_partner : partner (previous_of h) ≡ previous_of g
    previous_partner =
        partner_previous (previous_of h) (spread.before h below member) (ap set (previous_previous h) ∙ spread.after h below member) (ap set (next_previous h) ∙ member)
        ∙ ap (λ i. previous_of (twin_at halves i)) (next_previous h)

  -- each half-edge is in one of four places
  module _ (P : ℕ → Type 0) (own : (h : ℕ) → h < length halves → set h ≡ true → P h) (next : (h : ℕ) → h < length halves → set h ≡ true → P (next_of h))
      (previous : (h : ℕ) → h < length halves → set h ≡ true → P (previous_of h))
      (none : (k : ℕ) → k < length halves → set k ≡ false → set (previous_of k) ≡ false → set (next_of k) ≡ false → P k)
    where
      by_place : (k : ℕ) → k < length halves → P k
      by_place k below = elim (cases_Bool (set k)) [
        | inl e ↦ own k below e
        | inr a ↦ elim (cases_Bool (set (previous_of k))) [
          | inl e ↦ subst P (next_previous k) (next (previous_of k) (previous_inside d halves k valid below) e)
          | inr b ↦ elim (cases_Bool (set (next_of k))) [
            | inl e ↦ subst P (previous_next k) (previous (next_of k) (next_inside d halves k valid below) e)
            | inr c ↦ none k below a b c
          ]
        ]
      ]

  partner_inside : (k : ℕ) → k < length halves → partner k < length halves
  partner_inside =
      by_place (λ k. partner k < length halves)
      (λ h below e. subst (λ i. i < length halves) (sym (partner_own h e)) (g_inside h below e))
      (λ h below e. subst (λ i. i < length halves) (sym (next_partner h below e)) (next_inside d halves (twin_at halves h) valid (g_inside h below e)))
      (λ h below e. subst (λ i. i < length halves) (sym (previous_partner h below e)) (previous_inside d halves (twin_at halves h) valid (g_inside h below e)))
      (λ k below a b c. subst (λ i. i < length halves) (sym (partner_none k a b c)) below)

  partner_twice : (k : ℕ) → k < length halves → partner (partner k) ≡ k
  partner_twice =
      by_place (λ k. partner (partner k) ≡ k)
      (λ h below e. ap partner (partner_own h e) ∙ partner_own (twin_at halves h) (g_member h below e) ∙ (valid.paired h below).1)
      (λ h below e. ap partner (next_partner h below e) ∙ next_partner (twin_at halves h) (g_inside h below e) (g_member h below e) ∙ ap next_of (valid.paired h below).1)
      (λ h below e. ap partner (previous_partner h below e) ∙ previous_partner (twin_at halves h) (g_inside h below e) (g_member h below e) ∙ ap previous_of (valid.paired h below).1)
      (λ k below a b c. ap partner (partner_none k a b c) ∙ partner_none k a b c)

  partners : AreInverse (length halves) partner partner
  partners = record { forth_inside = partner_inside; back_inside = partner_inside; back_forth = partner_twice; forth_back = partner_twice }

  module _ (later : List Half) (flips : AreFlipped d halves set later) where
    -- the corners of two half-edges have the same sum before and after
    abbrev HaveSameSum : ℕ → ℕ → Type 0
    HaveSameSum k j = (quad_ops d).add (corner d later k) (corner d later j) ≡ (quad_ops d).add (corner d halves k) (corner d halves j)

    module _ (h : ℕ) (below : h < length halves) (member : set h ≡ true) where
      abbrev O : Ops Quad
      O = quad_ops d

      abbrev N : Vector Quad
      N = vector_at halves (next_of h)

      abbrev P : Vector Quad
      P = vector_at halves (previous_of h)

      abbrev Q : Vector Quad
      Q = vector_at halves (next_of (twin_at halves h))

      abbrev F : Vector Quad
      F = fourth O N P Q

      own_is : vector_at halves h ≡ opposite_vector O (vector_sum O N P)
      own_is = first_of O (quad_ring d) (vector_at halves h) N P (triple_at d halves h valid below).closed

      twin_is : vector_at halves (twin_at halves h) ≡ opposite_vector O (opposite_vector O (vector_sum O N P))
      twin_is = (valid.paired h below).2 ∙ ap (opposite_vector O) own_is

      fourth_is : vector_at halves (previous_of (twin_at halves h)) ≡ F
      fourth_is =
          last_of O (quad_ring d) (vector_at halves (twin_at halves h)) Q (vector_at halves (previous_of (twin_at halves h)))
          (triple_at d halves (twin_at halves h) valid (g_inside h below member)).closed
          ∙ ap (λ u. opposite_vector O (vector_sum O u Q)) twin_is ∙ fourth_of O (quad_ring d) N P Q

      diagonal_is : vector_at later h ≡ opposite_vector O (vector_sum O F N)
      diagonal_is = flips.diagonals h below member ∙ ap (λ u. opposite_vector O (vector_sum O u N)) fourth_is

      other_is : vector_at later (twin_at halves h) ≡ opposite_vector O (vector_sum O P Q)
      other_is = at_twin d halves valid set spread later flips h below member

      next_is : vector_at later (next_of h) ≡ F
      next_is = at_next d halves valid set spread later flips h below member ∙ fourth_is

      previous_is : vector_at later (previous_of h) ≡ N
      previous_is = at_previous d halves valid set spread later flips h below member

      twin_next_is : vector_at later (next_of (twin_at halves h)) ≡ P
      twin_next_is = at_next_of_twin d halves valid set spread later flips h below member

      twin_previous_is : vector_at later (previous_of (twin_at halves h)) ≡ Q
      twin_previous_is = at_previous d halves valid set spread later flips (twin_at halves h) (g_inside h below member) (g_member h below member)

      own_sum : HaveSameSum h (twin_at halves h)
      own_sum =
          ap₂ O.add (ap₂ (det O) diagonal_is next_is) (ap₂ (det O) other_is twin_next_is)
          ∙ own_corners O (quad_ring d) N P Q
          ∙ sym (ap₂ O.add (ap (λ u. det O u N) own_is) (ap (λ u. det O u Q) twin_is))

      next_sum : HaveSameSum (next_of h) (next_of (twin_at halves h))
      next_sum =
          ap₂ O.add (ap₂ (det O) next_is (ap (vector_at later) (next_next h) ∙ previous_is)) (ap₂ (det O) twin_next_is (ap (vector_at later) (next_next (twin_at halves h)) ∙ twin_previous_is))
          ∙ next_corners O (quad_ring d) N P Q
          ∙ sym (ap₂ O.add (ap (λ j. det O N (vector_at halves j)) (next_next h)) (ap (λ u. det O Q u) (ap (vector_at halves) (next_next (twin_at halves h)) ∙ fourth_is)))

      previous_sum : HaveSameSum (previous_of h) (previous_of (twin_at halves h))
      previous_sum =
          ap₂ O.add (ap₂ (det O) previous_is (ap (vector_at later) (next_previous h) ∙ diagonal_is)) (ap₂ (det O) twin_previous_is (ap (vector_at later) (next_previous (twin_at halves h)) ∙ other_is))
          ∙ previous_corners O (quad_ring d) N P Q
          ∙ sym (ap₂ O.add (ap (λ u. det O P u) (ap (vector_at halves) (next_previous h) ∙ own_is)) (ap₂ (det O) fourth_is (ap (vector_at halves) (next_previous (twin_at halves h)) ∙ twin_is)))

    -- a triangle without a member keeps its vectors
    kept : (k : ℕ) → k < length halves → set k ≡ false → set (previous_of k) ≡ false → set (next_of k) ≡ false → vector_at later k ≡ vector_at halves k
    kept k below a b c = ap (vector_at later) (sym (number_staying halves set k b c)) ∙ flips.vectors k below a

    corner_kept : (k : ℕ) → k < length halves → set k ≡ false → set (previous_of k) ≡ false → set (next_of k) ≡ false → corner d later k ≡ corner d halves k
    corner_kept k below a b c =
        ap₂ (det (quad_ops d)) (kept k below a b c)
        (kept (next_of k) (next_inside d halves k valid below) c (ap set (previous_next k) ∙ a) (ap set (next_next k) ∙ b))

    same_sums : (k : ℕ) → k < length halves → HaveSameSum k (partner k)
    same_sums =
        by_place (λ k. HaveSameSum k (partner k))
        (λ h below e. subst (HaveSameSum h) (sym (partner_own h e)) (own_sum h below e))
        (λ h below e. subst (HaveSameSum (next_of h)) (sym (next_partner h below e)) (next_sum h below e))
        (λ h below e. subst (HaveSameSum (previous_of h)) (sym (previous_partner h below e)) (previous_sum h below e))
        (λ k below a b c. subst (HaveSameSum k) (sym (partner_none k a b c)) (ap₂ (quad_ops d).add (corner_kept k below a b c) (corner_kept k below a b c)))

    -- flips at all members of a set keep the area
    pub flips_keep : IsFieldNumber d → six_areas d later ≡ six_areas d halves
    flips_keep field =
        ap (λ k. total (quad_ops d) k (corner d later)) flips.count
        ∙ total_paired (quad_ops d) (quad_ring d) (order_of d field) (natural_positive d 2 (omega arith)) (length halves) partner (corner d later) (corner d halves) partners same_sums
