-- What is known while a kept triangulation is flipped, and what is right to answer where that ends.
use Rattle.std.proofs.Common.{◌≡◌, ℕ, ◌+◌, ◌<◌, List, refl, sym, ◌∙◌, subst, inl, inr}
use Rattle.std.specs.Prelude.{true, false, Result, Ok, Err, Option, Some, None, is_some}
use Rattle.std.proofs.lemmas.Bool.{false≢true}
use Rattle.quad_field.specs.FieldNumber.{IsFieldNumber}
use Rattle.quad_field.specs.declared.formula.Formula.{Formula}
use Rattle.quad_field.specs.declared.formula.Formula.TheVariants.{F2, F8, F12}
use Rattle.surface_text.specs.declared.file.Point.{Point}
use Rattle.tri_core.specs.declared.half.Half.{Half}
use Rattle.tri_core.specs.Triangulation.{Triangulation, IsTriangulation}
use Rattle.hinge_form.specs.Hinges.{Triple, IsHalfPlanePoint, place_at}
use Rattle.delaunay_flip.specs.Flipping.{IsNegative, IsZeroAt, IsLeast, IsLeastOrNone, IsDelaunay, IsNextFlip}
use Rattle.delaunay_flip.specs.Widths.{EdgesFit, FlipFits, IsWideEdge}
use Rattle.delaunay_flip.specs.Bases.{Ending, Comes, Stops}
use Rattle.delaunay_flip.specs.Bases.Ending.{strict, not_strict, flips_ended, wide}
use Rattle.delaunay_flip.specs.Keeping.{KeptAt, IsNotKept, IsNotFlipped}
use Rattle.delaunay_flip.specs.Faults.{IsOfFlip, base_fault}
use Rattle.delaunay_flip.specs.Answers.{Says, IsRight}
use Rattle.delaunay_flip.specs.declared.base.Base.{Base}
use Rattle.delaunay_flip.specs.declared.base.BaseFault.{BaseFault}
use Rattle.delaunay_flip.specs.declared.base.BaseFault.TheVariants.{NotStrict, FlipsEnded}
use Rattle.delaunay_flip.specs.declared.kept.KeptFault.{KeptFault}
use Rattle.delaunay_flip.specs.declared.kept.KeptFault.TheVariants.{Wide, Memory}
use Rattle.delaunay_flip.proofs.Signs.{strict_where_none}
use Rattle.delaunay_flip.proofs.Endings.{EndsThere, comes_more, comes_first}

-- what is kept comes of a triangulation by n flips at a point, nothing is wide before it, and every edge of it fits
pub record IsOnTheWay (tri : Triangulation) (at : Point) (most n : ℕ) (kept : KeptAt) : Type 0 where
  pub field : kept.tri.field ≡ tri.field
  pub point : kept.point ≡ at
  pub comes : Comes tri.field (place_at at) tri.halves most n kept.tri.halves
  pub fits : EdgesFit tri.field (place_at at) kept.tri.halves

-- the least number with a property is there, or it isn't
pub least_some : (P : ℕ → Type 0) (least : Option ℕ) → IsLeastOrNone P least → true ≡ is_some least → (h : ℕ) × P h
least_some P None none e = absurd (false≢true (sym e))
least_some P (Some h) least e = (h, least.0)

pub least_none : (P : ℕ → Type 0) (least : Option ℕ) → IsLeastOrNone P least → false ≡ is_some least → (h : ℕ) → ¬ (P h)
least_none P None none e = none
least_none P (Some h) least e = absurd (false≢true e)

-- no edge formula is that of a new diagonal
not_of_flip : (d : ℕ) (q : Triple) (halves : List Half) (formula : Formula) (h : ℕ) → IsWideEdge d q halves formula h → ¬ (formula ≡ F12)
not_of_flip d q halves formula h (_, inl a) e = apart (sym a.0 ∙ e)
  where
    apart : ¬ (F2 ≡ F12)
    apart e = cc
not_of_flip d q halves formula h (_, inr a) e = apart (sym a.0 ∙ e)
  where
    apart : ¬ (F8 ≡ F12)
    apart e = cc

module _ (tri : Triangulation) (field : IsFieldNumber tri.field) (valid : IsTriangulation tri.field tri.halves) (at : Point) (place : IsHalfPlanePoint tri.field (place_at at)) (most : ℕ) where
  abbrev d : ℕ
  d = tri.field

  abbrev q : Triple
  q = place_at at

  -- the answer that says what stops
  right_from : (n : ℕ) (later : List Half) (e : Ending) (answer : Result Base BaseFault) → Comes d q tri.halves most n later → Stops d q most n later e → Says tri answer at e
      → IsRight tri (EndsThere tri at most) answer
  right_from n later e answer come stops says = inl (at, e, (refl, (n, later, come, stops)), says)

  -- nothing is kept
  pub right_not_kept : (fault : KeptFault) → IsNotKept d q tri.halves fault → IsRight tri (EndsThere tri at most) (Err (base_fault fault 0))
  right_not_kept (Wide formula h) edge = right_from 0 tri.halves (wide formula 0 h) (Err (base_fault (Wide formula h) 0)) (comes_first d q tri.halves most tri.halves refl) (refl, inl edge) refl
  right_not_kept Memory _ = inr refl

  -- the first that is kept
  pub first_kept : (kept : KeptAt) → kept.tri ≡ tri → kept.point ≡ at → EdgesFit d q tri.halves → IsOnTheWay tri at most 0 kept
  first_kept kept e point fits = record {
    field = λ i. (e i).field;
    point = point;
    comes = comes_first d q tri.halves most kept.tri.halves (λ i. (e i).halves);
    fits = subst (λ (t : Triangulation). EdgesFit d q t.halves) (sym e) fits;
  }

  module _ (n : ℕ) (kept : KeptAt) (way : IsOnTheWay tri at most n kept) where
    -- what is said of the kept triangulation, by the names of the given one
    here : (P : ℕ → Triple → Type 0) → P kept.tri.field (place_at kept.point) → P d q
    here P p = subst (λ (x : Point). P d (place_at x)) way.point (subst (λ c. P c (place_at kept.point)) way.field p)

    -- a value is negative, and no flip is left
    pub right_ended : n ≡ most → (h : ℕ) → IsNegative kept.tri.field (place_at kept.point) kept.tri.halves h → IsRight tri (EndsThere tri at most) (Err (FlipsEnded at))
    right_ended e h negative =
        right_from n kept.tri.halves flips_ended (Err (FlipsEnded at)) way.comes (e, way.fits, (h, here (λ c p. IsNegative c p kept.tri.halves h) negative)) refl

    -- no value is negative
    pub right_weak : (h : ℕ) → IsDelaunay kept.tri.field (place_at kept.point) kept.tri.halves → IsLeast (IsZeroAt kept.tri.field (place_at kept.point) kept.tri.halves) h
        → IsRight tri (EndsThere tri at most) (Err (NotStrict h))
    right_weak h none least =
        right_from n kept.tri.halves (not_strict h) (Err (NotStrict h)) way.comes
        (way.fits, here (λ c p. IsDelaunay c p kept.tri.halves) none, here (λ c p. IsLeast (IsZeroAt c p kept.tri.halves) h) least) refl

    pub right_strict : (base : Base) → base.tri ≡ kept.tri → base.point ≡ at → base.flips ≡ n → IsDelaunay kept.tri.field (place_at kept.point) kept.tri.halves
        → ((h : ℕ) → ¬ (IsZeroAt kept.tri.field (place_at kept.point) kept.tri.halves h)) → IsRight tri (EndsThere tri at most) (Ok base)
    right_strict base e point flips none positive =
        right_from n kept.tri.halves (strict kept.tri.halves n) (Ok base) way.comes
        (refl, refl, way.fits, strict_where_none d field q kept.tri.halves (here (λ c p. IsDelaunay c p kept.tri.halves) none) (here (λ c p. (h : ℕ) → ¬ (IsZeroAt c p kept.tri.halves h)) positive))
        ((λ i. (e i).field) ∙ way.field, λ i. (e i).halves, point, flips)

    -- a flip is made
    pub next_kept : (m : ℕ) (next : KeptAt) → m ≡ n + 1 → n < most → next.tri.field ≡ kept.tri.field → next.point ≡ kept.point
        → IsNextFlip kept.tri.field (place_at kept.point) kept.tri.halves next.tri.halves → FlipFits kept.tri.field (place_at kept.point) kept.tri.halves
        → EdgesFit kept.tri.field (place_at kept.point) next.tri.halves → IsOnTheWay tri at most m next
    next_kept m next e less same point flip fits edges = record {
      field = same ∙ way.field;
      point = point ∙ way.point;
      comes =
          comes_more d field tri.halves valid q place most n m kept.tri.halves next.tri.halves e less way.fits (here (λ c p. FlipFits c p kept.tri.halves) fits)
          (here (λ c p. IsNextFlip c p kept.tri.halves next.tri.halves) flip) way.comes;
      fits = here (λ c p. EdgesFit c p next.tri.halves) edges;
    }

    -- or refused
    not_flipped : (fault : KeptFault) (answer : BaseFault) → n < most → IsNotFlipped d q kept.tri.halves fault → (IsOfFlip fault → answer ≡ base_fault fault n)
        → (¬ (IsOfFlip fault) → answer ≡ base_fault fault (n + 1)) → IsRight tri (EndsThere tri at most) (Err answer)
    not_flipped (Wide formula h) answer less (inl flip) at_it after =
        right_from n kept.tri.halves (wide formula n h) (Err answer) way.comes (refl, inr (way.fits, less, flip)) (at_it flip.0)
    not_flipped (Wide formula h) answer less (inr (fits, (later, flip, edge))) at_it after =
        right_from (n + 1) later (wide formula (n + 1) h) (Err answer)
        (comes_more d field tri.halves valid q place most n (n + 1) kept.tri.halves later refl less way.fits fits flip way.comes)
        (refl, inl edge) (after (not_of_flip d q later formula h edge))
    not_flipped Memory answer less _ at_it after = inr (after (λ none. none))

    pub right_not_flipped : (fault : KeptFault) (answer : BaseFault) → n < most → IsNotFlipped kept.tri.field (place_at kept.point) kept.tri.halves fault
        → (IsOfFlip fault → answer ≡ base_fault fault n) → (¬ (IsOfFlip fault) → answer ≡ base_fault fault (n + 1)) → IsRight tri (EndsThere tri at most) (Err answer)
    right_not_flipped fault answer less is = not_flipped fault answer less (here (λ c p. IsNotFlipped c p kept.tri.halves fault) is)
