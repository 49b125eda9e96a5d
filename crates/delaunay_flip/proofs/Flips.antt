-- What comes of many flips is a triangulation, and unique.
use Rattle.std.proofs.Common.{◌≡◌, ℕ, zero, suc, ◌<◌, List, sym, ◌∙◌, subst, arith, inl, inr}
use Rattle.std.proofs.lemmas.Bool.{cases_eq, cases_order}
use Rattle.quad_field.specs.FieldNumber.{IsFieldNumber}
use Rattle.tri_core.specs.declared.half.Half.{Half}
use Rattle.tri_core.specs.Triangulation.{IsTriangulation}
use Rattle.tri_core.specs.Flips.{IsFlip}
use Rattle.tri_core.proofs.CallerLemmas.{one_flip, triangulation-flip}
use Rattle.hinge_form.specs.Hinges.{Triple, IsHalfPlanePoint}
use Rattle.hinge_form.proofs.CallerLemmas.{convex_at}
use Rattle.delaunay_flip.specs.Flipping.{IsNegative, IsLeast, AfterFlips}
use Rattle.delaunay_flip.proofs.Signs.{negative_not_positive}

-- the least number is one
pub one_least : (P : ℕ → Type 0) (h k : ℕ) → IsLeast P h → IsLeast P k → h ≡ k
one_least P h k a b = elim (cases_order h k) [
  | inl e ↦ e
  | inr other ↦ elim other [
    | inl less ↦ absurd (b.1 h less a.0)
    | inr more ↦ absurd (a.1 k more b.0)
  ]
]

module _ (d : ℕ) (field : IsFieldNumber d) (q : Triple) (place : IsHalfPlanePoint d q) where
  -- a flip of an edge of negative value is a triangulation
  pub flip_valid : (halves later : List Half) (h : ℕ) → IsTriangulation d halves → IsNegative d q halves h → IsFlip d halves h later → IsTriangulation d later
  flip_valid halves later h valid negative flip =
      triangulation-flip d halves h later valid negative.0.0 (convex_at d halves h q field valid negative.0.0 place (negative_not_positive d field q halves h negative)) flip

  -- and so is what comes of many flips
  pub after_valid : (n : ℕ) (halves later : List Half) → IsTriangulation d halves → AfterFlips d q n halves later → IsTriangulation d later
  after_valid zero halves later valid after = subst (IsTriangulation d) (sym after) valid
  after_valid (suc n) halves later valid (between, after, (h, least, flip)) = flip_valid between later h (after_valid n halves between valid after) least.0 flip

  -- one triangulation comes of so many flips
  pub one_after : (n : ℕ) (halves one two : List Half) → IsTriangulation d halves → AfterFlips d q n halves one → AfterFlips d q n halves two → one ≡ two
  one_after zero halves one two valid a b = a ∙ sym b
  one_after (suc n) halves one two valid (first, a, (h, least, flip)) (second, b, (k, other, last)) =
      let same : first ≡ second = one_after n halves first second valid a b in
      let least_too : IsLeast (IsNegative d q second) h = subst (λ x. IsLeast (IsNegative d q x) h) same least in
      let edges : h ≡ k = one_least (IsNegative d q second) h k least_too other in
      let flip_too : IsFlip d second k one = subst (λ x. IsFlip d x k one) same (subst (λ x. IsFlip d first x one) edges flip) in
      one_flip d second k (after_valid n halves second valid b) other.0.0.0 one two flip_too last

  -- before so many flips there are fewer, and a flip that follows
  pub before_after : (n m : ℕ) (halves later : List Half) → m < n → AfterFlips d q n halves later
      → (between : List Half) × AfterFlips d q m halves between × ((h : ℕ) × IsLeast (IsNegative d q between) h)
  before_after zero m halves later less after = absurd (omega arith)
  before_after (suc n) m halves later less (between, after, (h, least, flip)) = elim (cases_eq m n) [
    | inl e ↦ (between, subst (λ x. AfterFlips d q x halves between) (sym e) after, (h, least))
    | inr apart ↦ before_after n m halves between (omega arith) after
  ]
