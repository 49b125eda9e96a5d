-- How the flipping ends: where it stops it doesn't go on, and it stops in one way.
use Rattle.std.proofs.Common.{◌≡◌, ℕ, suc, ◌+◌, ◌<◌, List, refl, sym, ◌∙◌, ap, subst, arith, inl, inr}
use Rattle.std.specs.Prelude.{Result}
use Rattle.std.proofs.lemmas.Bool.{cases_eq, cases_order}
use Rattle.quad_field.specs.FieldNumber.{IsFieldNumber}
use Rattle.quad_field.specs.declared.formula.Formula.{Formula}
use Rattle.surface_text.specs.declared.file.Point.{Point}
use Rattle.tri_core.specs.declared.half.Half.{Half}
use Rattle.tri_core.specs.Triangulation.{Triangulation, IsTriangulation}
use Rattle.hinge_form.specs.Hinges.{Triple, IsHalfPlanePoint, place_at}
use Rattle.delaunay_flip.specs.Flipping.{IsNegative, IsZeroAt, IsLeast, IsNextFlip, AfterFlips}
use Rattle.delaunay_flip.specs.Widths.{EdgesFit, FlipFits, FitsBefore, IsFirstWide, IsWideEdge, IsWideAt}
use Rattle.delaunay_flip.specs.Bases.{Ending, Comes, Stops, EndsAt}
use Rattle.delaunay_flip.specs.Bases.Ending.{strict, not_strict, flips_ended, wide}
use Rattle.delaunay_flip.specs.Answers.{Says, IsRight, IsComplete}
use Rattle.delaunay_flip.specs.declared.base.Base.{Base}
use Rattle.delaunay_flip.specs.declared.base.BaseFault.{BaseFault}
use Rattle.delaunay_flip.proofs.Signs.{strict_not_negative, strict_not_zero}
use Rattle.delaunay_flip.proofs.Flips.{one_least, one_after, before_after}

-- a flip is made at `later`, and nothing is wide
pub record GoesOn (d : ℕ) (q : Triple) (most n : ℕ) (later : List Half) : Type 0 where
  pub left : n < most
  pub edges : EdgesFit d q later
  pub flip : FlipFits d q later
  pub some : (h : ℕ) × IsLeast (IsNegative d q later) h

-- one formula is the first that is wide at an edge
one_first : (d : ℕ) (q : Triple) (halves : List Half) (h : ℕ) (first second : Formula) → IsFirstWide d q halves h first → IsFirstWide d q halves h second → first ≡ second
one_first d q halves h first second (inl a) (inl b) = a.0 ∙ sym b.0
one_first d q halves h first second (inl a) (inr b) = absurd (a.1 b.1)
one_first d q halves h first second (inr a) (inl b) = absurd (b.1 a.1)
one_first d q halves h first second (inr a) (inr b) = a.0 ∙ sym b.0

module _ (d : ℕ) (field : IsFieldNumber d) (q : Triple) (most n : ℕ) (later : List Half) where
  -- an edge that doesn't fit
  not_all : (formula : Formula) (h : ℕ) → IsWideEdge d q later formula h → ¬ (EdgesFit d q later)
  not_all formula h edge fits = edge.0.0.1 (fits h edge.0.0.0)

  -- where a width is met, no flip is made
  wide_ends : (formula : Formula) (h : ℕ) → IsWideAt d q later (n < most) formula h → ¬ (GoesOn d q most n later)
  wide_ends formula h (inl edge) go = not_all formula h edge go.edges
  wide_ends formula h (inr (edges, left, flip)) go = flip.2 (go.flip h flip.1)

  -- where the flipping stops, no flip is made
  pub stops_or_goes : (e : Ending) → Stops d q most n later e → ¬ (GoesOn d q most n later)
  stops_or_goes (strict last m) (_, _, edges, is) go = strict_not_negative d field q later is go.some.0 go.some.1.0
  stops_or_goes (not_strict h) (edges, delaunay, least) go = delaunay go.some.0 go.some.1.0
  stops_or_goes flips_ended (e, edges, (h, negative)) go = let less = go.left in absurd (omega (arith, e, less))
  stops_or_goes (wide formula m h) (f, is) go = wide_ends formula h is go

  -- where all edges fit, a width is met at a flip that may be made
  wide_needs : (formula : Formula) (h : ℕ) → EdgesFit d q later → IsWideAt d q later (n < most) formula h → (n < most) × IsNegative d q later h
  wide_needs formula h edges (inl edge) = absurd (not_all formula h edge edges)
  wide_needs formula h edges (inr (_, left, flip)) = (left, flip.1.0)

  -- one formula is wide, at one edge
  one_wide : (m : ℕ) (first second : Formula) (h k : ℕ) → IsWideAt d q later (n < most) first h → IsWideAt d q later (n < most) second k → wide first m h ≡ wide second m k
  one_wide m first second h k (inl a) (inl b) =
      let same : k ≡ h = one_least _ k h b.0 a.0 in
      let formulas = one_first d q later h first second a.1 (subst (λ x. IsFirstWide d q later x second) same b.1) in
      λ i. wide (formulas i) m (sym same i)
  one_wide m first second h k (inl a) (inr (edges, _, _)) = absurd (not_all first h a edges)
  one_wide m first second h k (inr (edges, _, _)) (inl b) = absurd (not_all second k b edges)
  one_wide m first second h k (inr (_, _, a)) (inr (_, _, b)) =
      let same : h ≡ k = one_least (IsNegative d q later) h k a.1 b.1 in
      let formulas : first ≡ second = a.0 ∙ sym b.0 in
      λ i. wide (formulas i) m (same i)

  -- at one triangulation the flipping stops in one way
  pub one_stop : (e f : Ending) → Stops d q most n later e → Stops d q most n later f → e ≡ f
  one_stop (strict last m) (strict last' m') (a, b, _, _) (a', b', _, _) = ap (λ x. strict x m) (a ∙ sym a') ∙ ap (strict last') (b ∙ sym b')
  one_stop (strict last m) (not_strict h) (_, _, _, is) (_, _, least) = absurd (strict_not_zero d field q later is h least.0)
  one_stop (strict last m) flips_ended (_, _, _, is) (_, _, (h, negative)) = absurd (strict_not_negative d field q later is h negative)
  one_stop (strict last m) (wide formula m' h) (_, _, edges, is) (_, w) = absurd (strict_not_negative d field q later is h (wide_needs formula h edges w).1)
  one_stop (not_strict h) (strict last m) (_, _, least) (_, _, _, is) = absurd (strict_not_zero d field q later is h least.0)
  one_stop (not_strict h) (not_strict k) (_, _, a) (_, _, b) = ap not_strict (one_least (IsZeroAt d q later) h k a b)
  one_stop (not_strict h) flips_ended (_, delaunay, _) (_, _, (k, negative)) = absurd (delaunay k negative)
  one_stop (not_strict h) (wide formula m k) (edges, delaunay, _) (_, w) = absurd (delaunay k (wide_needs formula k edges w).1)
  one_stop flips_ended (strict last m) (_, _, (h, negative)) (_, _, _, is) = absurd (strict_not_negative d field q later is h negative)
  one_stop flips_ended (not_strict h) (_, _, (k, negative)) (_, delaunay, _) = absurd (delaunay k negative)
  one_stop flips_ended flips_ended a b = refl
  one_stop flips_ended (wide formula m h) (e, edges, _) (_, w) = let less = (wide_needs formula h edges w).0 in absurd (omega (arith, e, less))
  one_stop (wide formula m h) (strict last m') (_, w) (_, _, edges, is) = absurd (strict_not_negative d field q later is h (wide_needs formula h edges w).1)
  one_stop (wide formula m k) (not_strict h) (_, w) (edges, delaunay, _) = absurd (delaunay k (wide_needs formula k edges w).1)
  one_stop (wide formula m h) flips_ended (_, w) (e, edges, _) = let less = (wide_needs formula h edges w).0 in absurd (omega (arith, e, less))
  one_stop (wide formula m h) (wide other m' k) (a, w) (b, w') = ap (λ x. wide formula x h) (a ∙ sym b) ∙ one_wide m' formula other h k w w'

module _ (d : ℕ) (field : IsFieldNumber d) (halves : List Half) (valid : IsTriangulation d halves) where
  -- the flipping doesn't go on before it stops
  not_before : (q : Triple) → IsHalfPlanePoint d q → (most n m : ℕ) (one two : List Half) (e : Ending) → Comes d q halves most n one → Stops d q most n one e
      → Comes d q halves most m two → ¬ (n < m)
  not_before q place most n m one two e a stops b less =
      let x = before_after d field q place m n halves two less b.after in
      let is : x.0 ≡ one = one_after d field q place n halves x.0 one valid x.1 a.after in
      let fits = b.fits n one less a.after in
      let inside = b.within in
      stops_or_goes d field q most n one e stops (record {
        left = omega arith;
        edges = fits.0;
        flip = fits.1;
        some = subst (λ y. (h : ℕ) × IsLeast (IsNegative d q y) h) is x.2;
      })

  -- at one point the flipping ends in one way
  pub one_ending : (at : Point) → IsHalfPlanePoint d (place_at at) → (most : ℕ) (e f : Ending) → EndsAt d halves at most e → EndsAt d halves at most f → e ≡ f
  one_ending at place most e f a b =
      let q = place_at at in
      elim (cases_order a.0 b.0) [
        | inl same ↦
            let come = subst (λ x. Comes d q halves most x a.1) same a.2 in
            let stop = subst (λ x. Stops d q most x a.1 e) same a.3 in
            let is : a.1 ≡ b.1 = one_after d field q place b.0 halves a.1 b.1 valid come.after b.2.after in
            one_stop d field q most b.0 b.1 e f (subst (λ x. Stops d q most b.0 x e) is stop) b.3
        | inr other ↦ elim other [
          | inl less ↦ absurd (not_before q place most a.0 b.0 a.1 b.1 e a.2 a.3 b.2 less)
          | inr more ↦ absurd (not_before q place most b.0 a.0 b.1 a.1 f b.2 b.3 a.2 more)
        ]
      ]

  -- one more flip
  pub comes_more : (q : Triple) → IsHalfPlanePoint d q → (most n m : ℕ) (one two : List Half) → m ≡ n + 1 → n < most → EdgesFit d q one → FlipFits d q one → IsNextFlip d q one two
      → Comes d q halves most n one → Comes d q halves most m two
  comes_more q place most n m one two e less edges flip next come =
      subst (λ x. Comes d q halves most x two) (omega arith) more
    where
      fits : FitsBefore d q halves (suc n)
      fits k between before after = elim (cases_eq k n) [
        | inl e ↦
            let same : between ≡ one = one_after d field q place n halves between one valid (subst (λ x. AfterFlips d q x halves between) e after) come.after in
            (subst (EdgesFit d q) (sym same) edges, subst (FlipFits d q) (sym same) flip)
        | inr apart ↦ come.fits k between (omega arith) after
      ]

      more : Comes d q halves most (suc n) two
      more = record { within = omega arith; after = (one, come.after, next); fits = fits }

-- no flip is made at the start
pub comes_first : (d : ℕ) (q : Triple) (halves : List Half) (most : ℕ) (later : List Half) → later ≡ halves → Comes d q halves most 0 later
comes_first d q halves most later e = record { within = omega arith; after = e; fits = λ m between less. absurd (omega arith) }

-- where all answers that say an ending agree, a right one is complete
pub complete_from : (tri : Triangulation) (Ends : Point → Ending → Type 0) (answer : Result Base BaseFault)
    → ((at to : Point) (e f : Ending) → Ends at e → Ends to f → (at ≡ to) × (e ≡ f)) → IsRight tri Ends answer → IsComplete tri Ends answer
complete_from tri Ends answer one (inl (at, e, ends, says)) to f other =
    let same = one at to e f ends other in
    inl (subst (λ x. Says tri answer x f) same.0 (subst (Says tri answer at) same.1 says))
complete_from tri Ends answer one (inr memory) to f other = inr memory

-- the endings at a point
abbrev pub EndsThere : Triangulation → Point → ℕ → Point → Ending → Type 0
EndsThere tri at most point ending = (point ≡ at) × EndsAt tri.field tri.halves at most ending
