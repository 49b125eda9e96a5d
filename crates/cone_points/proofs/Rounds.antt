-- Going round a vertex comes back to the start.
use Rattle.std.proofs.Common.{◌≡◌, ℕ, zero, suc, ◌+◌, ◌-◌, ◌*◌, ◌/◌, ◌<◌, List, length, subst, sym, ap, ◌∙◌, refl, arith}
use Rattle.tri_core.specs.declared.half.Half.{Half}
use Rattle.tri_core.specs.HalfEdges.{twin_at, previous_of}
use Rattle.tri_core.specs.Triangulation.{IsTriangulation}
use Rattle.cone_points.specs.Vertices.{turned, turned_often, StartsWith}
use Rattle.rings.proofs.Pigeonhole.{Repeats, repeats}

-- turning first, and then often
pub often_first : (halves : List Half) (q k : ℕ) → turned_often halves (suc q) k ≡ turned_often halves q (turned halves k)
often_first halves zero k = refl
often_first halves (suc q) k = ap (turned halves) (often_first halves q k)

pub often_sum : (halves : List Half) (a b h : ℕ) → turned_often halves (a + b) h ≡ turned_often halves a (turned_often halves b h)
often_sum halves zero b h =
    let e : 0 + b ≡ b = omega arith in
    ap (λ m. turned_often halves m h) e
often_sum halves (suc a) b h =
    let e : suc a + b ≡ suc (a + b) = omega arith in
    ap (λ m. turned_often halves m h) e ∙ ap (turned halves) (often_sum halves a b h)

-- what starts where k starts, and k where h starts
pub starts_trans : (halves : List Half) (h k l : ℕ) → StartsWith halves h k → StartsWith halves k l → StartsWith halves h l
starts_trans halves h k l p q = (q.0 + p.0, often_sum halves q.0 p.0 h ∙ ap (turned_often halves q.0) p.1 ∙ q.1)

module _ (d : ℕ) (halves : List Half) (valid : IsTriangulation d halves) where
  -- the number of half-edges is three times that of triangles
  pub triangles : (F : ℕ) × (length halves ≡ 3 * F)
  triangles = (length halves / 3, omega (arith, valid.count.0))

  pub previous_inside : (h : ℕ) → h < length halves → previous_of h < length halves
  previous_inside h l = omega (arith, l, triangles.1)

  previous_apart : (i j : ℕ) → previous_of i ≡ previous_of j → i ≡ j
  previous_apart i j e = omega (arith, e)

  pub turned_inside : (h : ℕ) → h < length halves → turned halves h < length halves
  turned_inside h l = (valid.paired (previous_of h) (previous_inside h l)).0

  pub turned_apart : (i j : ℕ) → i < length halves → j < length halves → turned halves i ≡ turned halves j → i ≡ j
  turned_apart i j l k e =
      previous_apart i j (sym (valid.paired (previous_of i) (previous_inside i l)).1 ∙ ap (twin_at halves) e ∙ (valid.paired (previous_of j) (previous_inside j k)).1)

  pub often_inside : (m h : ℕ) → h < length halves → turned_often halves m h < length halves
  often_inside zero h l = l
  often_inside (suc m) h l = turned_inside _ (often_inside m h l)

  often_cancel : (a h k : ℕ) → h < length halves → k < length halves → turned_often halves a h ≡ turned_often halves a k → h ≡ k
  often_cancel zero h k l m e = e
  often_cancel (suc a) h k l m e = often_cancel a h k l m (turned_apart _ _ (often_inside a h l) (often_inside a k m) e)

  -- h comes back to itself
  pub returns_to : (h : ℕ) → h < length halves → (p : ℕ) × (turned_often halves (suc p) h ≡ h)
  returns_to h l =
      let w : Repeats (length halves) (λ i. turned_often halves i h) = repeats (length halves) (λ i. turned_often halves i h) (λ i below. often_inside i h l) in
      let p : ℕ = w.1 - w.0 - 1 in
      let e : w.1 ≡ w.0 + suc p = omega (arith, w.2) in (
        p,
        sym (often_cancel w.0 h (turned_often halves (suc p) h) l (often_inside (suc p) h l)
            (w.4 ∙ ap (λ m. turned_often halves m h) e ∙ often_sum halves w.0 (suc p) h)),
      )

  starts_next : (h : ℕ) → h < length halves → (k : ℕ) → StartsWith halves k h → StartsWith halves (turned halves k) h
  starts_next h l k (zero, e) =
      let r = returns_to h l in
      (r.0, ap (λ x. turned_often halves r.0 (turned halves x)) e ∙ sym (often_first halves r.0 h) ∙ r.1)
  starts_next h l k (suc q, e) = (q, sym (often_first halves q k) ∙ e)

  starts_back : (h : ℕ) → h < length halves → (m : ℕ) → StartsWith halves (turned_often halves m h) h
  starts_back h l zero = (0, refl)
  starts_back h l (suc m) = starts_next h l (turned_often halves m h) (starts_back h l m)

  -- h starts where what starts with it starts
  pub starts_sym : (h k : ℕ) → h < length halves → StartsWith halves h k → StartsWith halves k h
  starts_sym h k l s = subst (λ x. StartsWith halves x h) s.1 (starts_back h l s.0)

  pub starts_inside : (h k : ℕ) → h < length halves → StartsWith halves h k → k < length halves
  starts_inside h k l s = subst (λ x. x < length halves) s.1 (often_inside s.0 h l)
