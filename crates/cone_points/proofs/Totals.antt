-- As many half-edges rise as there are edges more than triangles, and the genus.
use Rattle.std.proofs.Common.{◌≡◌, ℕ, zero, suc, ◌+◌, ◌-◌, ◌*◌, ◌/◌, ◌<◌, ◌≤◌, Bool, true, false, not, ◌&&◌, List, length, get_or, subst, sym, ap, ◌∙◌, refl, arith}
use Rattle.std.specs.Prelude.{◌⊎◌}
use mathlib.Core.Logic.{inl, inr}
use Rattle.std.proofs.lemmas.Bool.{cases_order}
use Rattle.std.proofs.lemmas.Bool.Decides.{Decides-ltb}
use Rattle.std.specs.Prelude.{ltb}
use Rattle.quad_field.specs.FieldNumber.{IsFieldNumber}
use Rattle.tri_core.specs.declared.half.Half.{Half}
use Rattle.tri_core.specs.HalfEdges.{twin_at, previous_of}
use Rattle.tri_core.specs.Triangulation.{IsTriangulation, IsTriangle}
use Rattle.cone_points.specs.Vertices.{IsVertex, IsNumberOf}
use Rattle.cone_points.specs.Angles.{IsGenus}
use Rattle.tri_core.specs.Flips.{IsEdge}
use Rattle.cone_points.specs.Walks.{TellsUpper, rises_by, number_below}
use Rattle.cone_points.proofs.Rounds.{triangles}
use Rattle.cone_points.proofs.Rising.{up_turned, up_twin, not_all_up, not_all_down, false_of}
use Rattle.cone_points.proofs.Numbers.{bit, clash, number_half, number_of, number_all}
use Rattle.cone_points.proofs.Parity.{even}

-- of each three numbers one less is in the first set than in the second
pub number_threes : (a b : ℕ → Bool) (F : ℕ) → ((t : ℕ) → t < F → bit (a (3 * t)) + bit (a (3 * t + 1)) + bit (a (3 * t + 2)) + 1 ≡ bit (b (3 * t)) + bit (b (3 * t + 1)) + bit (b (3 * t + 2)))
    → number_below a (3 * F) + F ≡ number_below b (3 * F)
number_threes a b zero each = refl
number_threes a b (suc F) each =
    let e : 3 * suc F ≡ suc (suc (suc (3 * F))) = omega arith in
    let p : suc (3 * F) ≡ 3 * F + 1 = omega arith in
    let q : suc (suc (3 * F)) ≡ 3 * F + 2 = omega arith in
    let open_up : (s : ℕ → Bool) → number_below s (3 * suc F) ≡ number_below s (3 * F) + bit (s (3 * F)) + bit (s (3 * F + 1)) + bit (s (3 * F + 2)) =
    (λ s. ap (number_below s) e ∙ ap (λ x. number_below s (3 * F) + bit (s (3 * F)) + bit (s x) + bit (s (suc (suc (3 * F))))) p
    ∙ ap (λ x. number_below s (3 * F) + bit (s (3 * F)) + bit (s (3 * F + 1)) + bit (s x)) q) in
    omega (arith, open_up a, open_up b, number_threes a b F (λ t l. each t (omega (arith, l))), each F (omega arith))

-- the rising sides of a triangle, by its upper sides: neither all nor none
pub three_sides : (x y z : Bool) → ¬ ((x ≡ true) × (y ≡ true) × (z ≡ true)) → ¬ ((x ≡ false) × (y ≡ false) × (z ≡ false))
    → bit (not x && not z) + bit (not y && not x) + bit (not z && not y) + 1 ≡ bit (not x) + bit (not y) + bit (not z)
three_sides true true true all none = absurd (all (refl, refl, refl))
three_sides true true false all none = refl
three_sides true false true all none = refl
three_sides true false false all none = refl
three_sides false true true all none = refl
three_sides false true false all none = refl
three_sides false false true all none = refl
three_sides false false false all none = absurd (none (refl, refl, refl))

module _ (d : ℕ) (halves : List Half) (valid : IsTriangulation d halves) (number : IsFieldNumber d) (uppers : List Bool) (tells : TellsUpper d halves uppers) where
  abbrev up : ℕ → Bool
  up k = get_or uppers k false

  abbrev down : ℕ → Bool
  down k = not (up k)

  -- a half-edge rises where the one before it is lower too
  rises_is : (h p : ℕ) → h < length halves → p ≡ previous_of h → bit (rises_by halves uppers h) ≡ bit (not (up h) && not (up p))
  rises_is h p l e = ap (λ b. bit (not (up h) && b)) (up_turned d halves valid number uppers tells h l ∙ ap down (sym e))

  -- in each triangle one side less rises than is lower
  one_less : (t : ℕ) → IsTriangle halves t → bit (rises_by halves uppers (3 * t)) + bit (rises_by halves uppers (3 * t + 1)) + bit (rises_by halves uppers (3 * t + 2)) + 1 ≡ bit (down (3 * t)) + bit (down (3 * t + 1)) + bit (down (3 * t + 2))
  one_less t l =
      let n = triangles d halves valid in
      let a = rises_is (3 * t) (3 * t + 2) l (omega arith) in
      let b = rises_is (3 * t + 1) (3 * t) (omega (arith, l, n.1)) (omega arith) in
      let c = rises_is (3 * t + 2) (3 * t + 1) (omega (arith, l, n.1)) (omega arith) in
      omega (arith, a, b, c, three_sides (up (3 * t)) (up (3 * t + 1)) (up (3 * t + 2)) (not_all_up d halves valid number uppers tells t l) (not_all_down d halves valid number uppers tells t l))

  -- h is the name of an edge
  abbrev pub edge : ℕ → Bool
  edge h = ltb h (twin_at halves h)

  twin_apart : (h : ℕ) → h < length halves → ¬ (twin_at halves h ≡ h)
  twin_apart h l e = go (up h) (sym (ap up e) ∙ up_twin d halves valid number uppers tells h l)
    where
      go : (b : Bool) → b ≡ not b → ⊥
      go true e = clash e
      go false e = clash (sym e)

  edge_twin : (h : ℕ) → h < length halves → edge (twin_at halves h) ≡ not (edge h)
  edge_twin h l = ap (ltb (twin_at halves h)) (valid.paired h l).1 ∙ go (cases_order (twin_at halves h) h)
    where
      go : (twin_at halves h ≡ h) ⊎ ((twin_at halves h < h) ⊎ (h < twin_at halves h)) → ltb (twin_at halves h) h ≡ not (edge h)
      go (inl e) = absurd (twin_apart h l e)
      go (inr (inl less)) = (Decides-ltb (twin_at halves h) h).1 less ∙ sym (ap not (false_of (edge h) (λ t. omega (arith, less, (Decides-ltb h (twin_at halves h)).0 t))))
      go (inr (inr more)) = false_of (ltb (twin_at halves h) h) (λ t. omega (arith, more, (Decides-ltb (twin_at halves h) h).0 t)) ∙ sym (ap not ((Decides-ltb h (twin_at halves h)).1 more))

  -- there are as many edges as lower half-edges
  edges_lower : number_below edge (length halves) ≡ number_below down (length halves)
  edges_lower =
      let inside : (h : ℕ) → h < length halves → twin_at halves h < length halves = λ h l. (valid.paired h l).0 in
      let twice : (h : ℕ) → h < length halves → twin_at halves (twin_at halves h) ≡ h = λ h l. (valid.paired h l).1 in
      omega (
        arith,
        number_half (length halves) (twin_at halves) inside twice edge edge_twin,
        number_half (length halves) (twin_at halves) inside twice down (λ h l. ap not (up_twin d halves valid number uppers tells h l)),
      )

  -- rising half-edges and triangles are as many as edges
  pub rises_edges : (F : ℕ) → length halves ≡ 3 * F → number_below (rises_by halves uppers) (length halves) + F ≡ number_below edge (length halves)
  rises_edges F e =
      let threes = number_threes (rises_by halves uppers) down F (λ t l. one_less t (omega (arith, l, e))) in
      subst (λ n. number_below (rises_by halves uppers) n + F ≡ number_below down n) (sym e) threes ∙ sym edges_lower

  pub edges_are : IsNumberOf (IsEdge halves) (number_below edge (length halves))
  edges_are = number_of (IsEdge halves) edge (length halves) (λ k. (λ h. (h.0, (Decides-ltb k (twin_at halves k)).0 h.1), λ h. (h.0, (Decides-ltb k (twin_at halves k)).1 h.1)))

  pub triangles_are : (F : ℕ) → length halves ≡ 3 * F → IsNumberOf (IsTriangle halves) F
  triangles_are F e =
      subst (IsNumberOf (IsTriangle halves)) (number_all F) (number_of (IsTriangle halves) (λ k. true) F (λ k. (λ h. omega (arith, h.0, e), λ h. (omega (arith, h, e), refl))))

  -- the number of rising half-edges and that of vertices give the genus
  pub genus_is : (V S g : ℕ) → IsNumberOf (IsVertex halves) V → S ≡ number_below (rises_by halves uppers) (length halves) → V ≤ S → g ≡ (S + 2 - V) / 2
      → (S + 2 ≡ 2 * g + V) × IsGenus halves g
  genus_is V S g vertices sum most is =
      let F = triangles d halves valid in
      let E : ℕ = number_below edge (length halves) in
      let e = rises_edges F.0 F.1 in
      let k = even d halves valid V E F.0 vertices edges_are (triangles_are F.0 F.1) in
      let same : S + 2 ≡ 2 * g + V = omega (arith, sum, most, is, e, k.1) in
      (same, record { V = V; E = E; F = F.0; vertices = vertices; edges = edges_are; triangles = triangles_are F.0 F.1; euler = omega (arith, same, e, sum) })
