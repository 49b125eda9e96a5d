-- The flipping ends: at each triangulation it stops or goes on, and it goes on no more often than it may.
use Rattle.std.proofs.Common.{◌≡◌, ℕ, zero, suc, ◌+◌, ◌<◌, ◌≤◌, List, [], ◌∷◌, length, refl, subst, arith, inl, inr}
use Rattle.std.specs.Prelude.{◌⊎◌}
use Rattle.std.specs.List.{AllByRecursion}
use Rattle.std.proofs.lemmas.Bool.{cases_lt}
use Rattle.quad_field.specs.FieldNumber.{IsFieldNumber}
use Rattle.quad_field.specs.declared.formula.Formula.{Formula}
use Rattle.quad_field.specs.declared.formula.Formula.TheVariants.{F2, F8, F12}
use Rattle.surface_text.specs.declared.file.Point.{Point}
use Rattle.surface_text.specs.Limits.{IsBasePoint}
use Rattle.tri_core.specs.declared.half.Half.{Half}
use Rattle.tri_core.specs.HalfEdges.{twin_at}
use Rattle.tri_core.specs.Triangulation.{IsTriangulation}
use Rattle.tri_core.specs.Flips.{IsEdge, DiagonalFits}
use Rattle.hinge_form.specs.Hinges.{Triple, IsHalfPlanePoint, place_at}
use Rattle.hinge_form.proofs.CallerLemmas.{place_inside}
use Rattle.delaunay_flip.specs.Flipping.{IsNegative, IsZeroAt, IsLeast, IsDelaunay}
use Rattle.delaunay_flip.specs.Widths.{ValueFitsAt, EdgeFits, EdgesFit, IsFirstWide}
use Rattle.delaunay_flip.specs.Bases.{Ending, Comes, Stops, EndsAt, EndsListed, IsDecisive}
use Rattle.delaunay_flip.specs.Bases.Ending.{strict, not_strict, flips_ended, wide}
use Rattle.delaunay_flip.proofs.Signs.{sign_at, negative_not_positive, strict_where_none, fits_by_triple, zero_not_negative, zero_not_positive}
use Rattle.delaunay_flip.proofs.Flips.{one_least, after_valid}
use Rattle.delaunay_flip.proofs.Deciding.{IsDecided, both, denied, twice_denied, triple_or_not, place_or_not, diagonal_or_not, least_or_none}
use Rattle.delaunay_flip.proofs.Contents.{some_triple}
use Rattle.delaunay_flip.proofs.Existing.{some_flip}
use Rattle.delaunay_flip.proofs.Endings.{GoesOn, comes_first, comes_more}

module _ (d : ℕ) (field : IsFieldNumber d) (q : Triple) (halves : List Half) (valid : IsTriangulation d halves) where
  -- ---- what is decided at a half-edge
  edge_or_not : (h : ℕ) → IsDecided (IsEdge halves h)
  edge_or_not h = both (less_or_not h (length halves)) (less_or_not h (twin_at halves h))
    where
      less_or_not : (m n : ℕ) → IsDecided (m < n)
      less_or_not m n = elim (cases_lt m n) [ inl less ↦ inl less | inr more ↦ inr (λ less. omega arith) ]

  value_or_not : (h : ℕ) → IsEdge halves h → IsDecided (ValueFitsAt d q halves h)
  value_or_not h edge =
      let l = some_triple d field halves valid h edge.0 in
      elim (place_or_not d l.0 q) [
        | inl fits ↦ inl (fits_by_triple d field halves valid h edge l.0 l.1 q fits)
        | inr none ↦ inr (λ all. none (all l.0 l.1))
      ]

  misfit_or_not : (h : ℕ) → IsDecided (IsEdge halves h × ¬ (EdgeFits d q halves h))
  misfit_or_not h = elim (edge_or_not h) [
    | inl edge ↦ both (inl edge) (denied (both (triple_or_not d halves h) (value_or_not h edge)))
    | inr none ↦ inr (λ x. none x.0)
  ]

  negative_or_not : (h : ℕ) → IsDecided (IsNegative d q halves h)
  negative_or_not h = elim (edge_or_not h) [
    | inl edge ↦ elim (sign_at d field q halves h edge) [
      | inl n ↦ inl n
      | inr other ↦ inr (λ n. elim other [ inl z ↦ zero_not_negative d field q halves h z n | inr p ↦ negative_not_positive d field q halves h n p ])
    ]
    | inr none ↦ inr (λ n. none n.0)
  ]

  zero_or_not : (h : ℕ) → IsDecided (IsZeroAt d q halves h)
  zero_or_not h = elim (edge_or_not h) [
    | inl edge ↦ elim (sign_at d field q halves h edge) [
      | inl n ↦ inr (λ z. zero_not_negative d field q halves h z n)
      | inr other ↦ elim other [ inl z ↦ inl z | inr p ↦ inr (λ z. zero_not_positive d field q halves h z p) ]
    ]
    | inr none ↦ inr (λ z. none z.0)
  ]

  -- ---- what is decided at a triangulation
  -- where no edge is a misfit, all fit
  all_fit : ((k : ℕ) → k < length halves → ¬ (IsEdge halves k × ¬ (EdgeFits d q halves k))) → EdgesFit d q halves
  all_fit none h edge = twice_denied (both (triple_or_not d halves h) (value_or_not h edge)) (λ wide. none h edge.0 (edge, wide))

  -- the first formula that is wide at a misfit
  some_first : (h : ℕ) → ¬ (EdgeFits d q halves h) → (formula : Formula) × IsFirstWide d q halves h formula
  some_first h misfit = elim (triple_or_not d halves h) [
    | inl fits ↦ (F8, inr (refl, fits, λ value. misfit (fits, value)))
    | inr none ↦ (F2, inl (refl, none))
  ]

  module _ (most n : ℕ) where
    -- where no value is negative, the flipping stops
    stops_at_rest : EdgesFit d q halves → IsDelaunay d q halves → (e : Ending) × Stops d q most n halves e
    stops_at_rest edges none = elim (least_or_none (IsZeroAt d q halves) zero_or_not (length halves)) [
      | inl least ↦ (not_strict least.0, (edges, none, least.1))
      | inr positive ↦ (strict halves n, (refl, refl, edges, strict_where_none d field q halves none (λ h z. positive h z.0.0 z)))
    ]

    -- where one is, it stops or goes on
    stops_at_flip : n ≤ most → EdgesFit d q halves → (h : ℕ) → IsLeast (IsNegative d q halves) h → ((e : Ending) × Stops d q most n halves e) ⊎ GoesOn d q most n halves
    stops_at_flip within edges h least = elim (cases_lt n most) [
      | inl less ↦ elim (diagonal_or_not d halves h) [
        | inl fits ↦ inr (record {
          left = less;
          edges = edges;
          flip = λ k other. subst (DiagonalFits d halves) (one_least (IsNegative d q halves) h k least other) fits;
          some = (h, least);
        })
        | inr none ↦ inl (wide F12 n h, (refl, inr (edges, less, (refl, least, none))))
      ]
      | inr more ↦ inl (flips_ended, (omega arith, edges, (h, least.0)))
    ]

    -- so it stops or goes on
    stops_or_goes : n ≤ most → ((e : Ending) × Stops d q most n halves e) ⊎ GoesOn d q most n halves
    stops_or_goes within = elim (least_or_none (λ k. IsEdge halves k × ¬ (EdgeFits d q halves k)) misfit_or_not (length halves)) [
      | inl misfit ↦
          let first = some_first misfit.0 misfit.1.0.1 in
          inl (wide first.0 n misfit.0, (refl, inl (misfit.1, first.1)))
      | inr none ↦
          let edges = all_fit none in
          elim (least_or_none (IsNegative d q halves) negative_or_not (length halves)) [
            | inl least ↦ stops_at_flip within edges least.0 least.1
            | inr positive ↦ inl (stops_at_rest edges (λ h x. positive h x.0.0 x))
          ]
    ]

module _ (d : ℕ) (field : IsFieldNumber d) (halves : List Half) (valid : IsTriangulation d halves) (at : Point) (base : IsBasePoint at) (most : ℕ) where
  abbrev q : Triple
  q = place_at at

  place : IsHalfPlanePoint d q
  place = place_inside d at base

  -- what comes of n flips is a triangulation, at which the flipping stops or goes on
  here : (n : ℕ) (later : List Half) → Comes d q halves most n later → ((e : Ending) × EndsAt d halves at most e) ⊎ GoesOn d q most n later
  here n later come = elim (stops_or_goes d field q later (after_valid d field q place n halves later valid come.after) most n come.within) [
    | inl stop ↦ inl (stop.0, (n, later, come, stop.1))
    | inr go ↦ inr go
  ]

  -- and where it goes on, the next triangulation comes of one flip more
  next : (n : ℕ) (later : List Half) → Comes d q halves most n later → GoesOn d q most n later → (then : List Half) × Comes d q halves most (suc n) then
  next n later come go =
      let flip = some_flip d later go.some.0 (after_valid d field q place n halves later valid come.after) go.some.1.0.0.0 in
      (flip.0, comes_more d field halves valid q place most n (suc n) later flip.0 (omega arith) go.left go.edges go.flip (go.some.0, go.some.1, flip.1) come)

  ends_from : (rest n : ℕ) → rest + n ≡ most → (later : List Half) → Comes d q halves most n later → (e : Ending) × EndsAt d halves at most e
  ends_from zero n left later come = elim (here n later come) [
    | inl ends ↦ ends
    | inr go ↦ let less = go.left in absurd (omega arith)
  ]
  ends_from (suc rest) n left later come = elim (here n later come) [
    | inl ends ↦ ends
    | inr go ↦ let then = next n later come go in ends_from rest (suc n) (omega arith) then.0 then.1
  ]

  pub some_ending : (e : Ending) × EndsAt d halves at most e
  some_ending = ends_from most 0 (omega arith) halves (comes_first d q halves most halves refl)

-- an ending is decisive, or an edge of value zero
decisive_or_weak : (d : ℕ) (halves : List Half) (point : Point) (most : ℕ) (e : Ending) → EndsAt d halves point most e → IsDecisive e ⊎ ((h : ℕ) × EndsAt d halves point most (not_strict h))
decisive_or_weak d halves point most (strict later n) ends = inl _
decisive_or_weak d halves point most (not_strict h) ends = inr (h, ends)
decisive_or_weak d halves point most flips_ended ends = inl _
decisive_or_weak d halves point most (wide formula n h) ends = inl _

-- over a list with some point the flipping ends
pub some_listed : (d : ℕ) → IsFieldNumber d → (halves : List Half) → IsTriangulation d halves → (points : List Point) → AllByRecursion IsBasePoint points → 1 ≤ length points → (most : ℕ)
    → (at : Point) × ((e : Ending) × EndsListed d halves points most at e)
some_listed d field halves valid [] all some most = absurd (omega arith)
some_listed d field halves valid (point ∷ []) all some most =
    let here = some_ending d field halves valid point all.0 most in
    (point, (here.0, (refl, here.1)))
some_listed d field halves valid (point ∷ next ∷ points) all some most =
    let here = some_ending d field halves valid point all.0 most in
    let rest = some_listed d field halves valid (next ∷ points) all.1 (omega arith) most in
    elim (decisive_or_weak d halves point most here.0 here.1) [
      | inl decisive ↦ (point, (here.0, inl (refl, here.1, decisive)))
      | inr weak ↦ (rest.0, (rest.1.0, inr (weak, rest.1.1)))
    ]
