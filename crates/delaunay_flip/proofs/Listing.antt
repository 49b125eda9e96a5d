-- How a list of points ends, tried in order, and only in one way.
use Rattle.std.proofs.Common.{◌≡◌, ℕ, ◌+◌, ◌-◌, ◌<◌, List, [], ◌∷◌, length, drop, get_or, refl, sym, ◌∙◌, ap, subst, arith, inl, inr}
use Rattle.std.specs.Prelude.{Result, Ok, Err}
use Rattle.std.specs.List.{AllByRecursion}
use Rattle.std.proofs.lemmas.List.{drop_more}
use Rattle.std.proofs.Math.ListN.{drop_of_length-le}
use Rattle.quad_field.specs.FieldNumber.{IsFieldNumber}
use Rattle.surface_text.specs.declared.file.Point.{Point}
use Rattle.surface_text.specs.Limits.{IsBasePoint}
use Rattle.tri_core.specs.declared.half.Half.{Half}
use Rattle.tri_core.specs.Triangulation.{Triangulation, IsTriangulation}
use Rattle.hinge_form.proofs.CallerLemmas.{place_inside}
use Rattle.delaunay_flip.specs.Bases.{Ending, EndsAt, EndsListed, IsDecisive}
use Rattle.delaunay_flip.specs.Bases.Ending.{strict, not_strict, flips_ended, wide}
use Rattle.delaunay_flip.specs.Answers.{Says, IsForMemory, IsRight, IsNotStrict}
use Rattle.delaunay_flip.specs.declared.base.Base.{Base}
use Rattle.delaunay_flip.specs.declared.base.BaseFault.{BaseFault}
use Rattle.delaunay_flip.specs.declared.base.BaseFault.TheVariants.{NotStrict, FlipsEnded, Wide, Memory}
use Rattle.delaunay_flip.proofs.Endings.{EndsThere, one_ending}

-- an answer that says an edge of value zero, and one that doesn't
says_weak : (tri : Triangulation) (answer : Result Base BaseFault) (at : Point) (e : Ending) → Says tri answer at e → IsNotStrict answer → (h : ℕ) × (e ≡ not_strict h)
says_weak tri (Ok base) at e says weak = absurd weak
says_weak tri (Err fault) at (strict later n) says weak = absurd says
says_weak tri (Err fault) at (not_strict h) says weak = (h, refl)
says_weak tri (Err fault) at flips_ended says weak = absurd (apart (weak.0) at (sym weak.1 ∙ says))
  where
    apart : (h : ℕ) (at : Point) → ¬ (NotStrict h ≡ FlipsEnded at)
    apart h at e = cc
says_weak tri (Err fault) at (wide formula n h) says weak = absurd (apart (weak.0) (sym weak.1 ∙ says))
  where
    apart : (k : ℕ) → ¬ (NotStrict k ≡ Wide formula n h)
    apart k e = cc

memory_not_weak : (answer : Result Base BaseFault) → IsForMemory answer → ¬ (IsNotStrict answer)
memory_not_weak (Ok base) memory weak = weak
memory_not_weak (Err fault) memory weak = apart weak.0 (sym weak.1 ∙ memory)
  where
    apart : (k : ℕ) → ¬ (NotStrict k ≡ Memory)
    apart k e = cc

says_decisive : (tri : Triangulation) (answer : Result Base BaseFault) (at : Point) (e : Ending) → Says tri answer at e → ¬ (IsNotStrict answer) → IsDecisive e
says_decisive tri answer at (strict later n) says none = _
says_decisive tri (Ok base) at (not_strict h) says none = says
says_decisive tri (Err fault) at (not_strict h) says none = none (h, says)
says_decisive tri answer at flips_ended says none = _
says_decisive tri answer at (wide formula n h) says none = _

module _ (tri : Triangulation) (most : ℕ) where
  -- a list's ending is that of a later part of it
  abbrev pub EndsAs : List Point → List Point → Type 0
  EndsAs points rest = (at : Point) (e : Ending) → EndsListed tri.field tri.halves rest most at e → EndsListed tri.field tri.halves points most at e

  -- where the first point of more than one isn't strict, the list ends as the rest
  ends_later : (points : List Point) (point next : Point) (rest : List Point) (answer : Result Base BaseFault) → EndsAs points (point ∷ next ∷ rest)
      → IsRight tri (EndsThere tri point most) answer → IsNotStrict answer → EndsAs points (next ∷ rest)
  ends_later points point next rest answer from (inl (at, e, (same, ends), says)) weak to f later =
      let h = says_weak tri answer at e says weak in
      from to f (inr ((h.0, subst (EndsAt tri.field tri.halves point most) h.1 ends), later))
  ends_later points point next rest answer from (inr memory) weak to f later = absurd (memory_not_weak answer memory weak)

  -- a decisive answer at it stands
  right_here : (points : List Point) (point next : Point) (rest : List Point) (answer : Result Base BaseFault) → EndsAs points (point ∷ next ∷ rest)
      → IsRight tri (EndsThere tri point most) answer → ¬ (IsNotStrict answer) → IsRight tri (EndsListed tri.field tri.halves points most) answer
  right_here points point next rest answer from (inl (at, e, (same, ends), says)) none =
      inl (at, e, from at e (inl (same, ends, says_decisive tri answer at e says none)), says)
  right_here points point next rest answer from (inr memory) none = inr memory

  -- the last point's answer stands
  right_last : (points : List Point) (point : Point) (answer : Result Base BaseFault) → EndsAs points (point ∷ [])
      → IsRight tri (EndsThere tri point most) answer → IsRight tri (EndsListed tri.field tri.halves points most) answer
  right_last points point answer from (inl (at, e, ends, says)) = inl (at, e, from at e ends, says)
  right_last points point answer from (inr memory) = inr memory

  -- the same at place i of the list, where it isn't the last
  pub weak_at : (points : List Point) (i : ℕ) (d : Point) (answer : Result Base BaseFault) → i < length points - 1 → EndsAs points (drop i points)
      → IsRight tri (EndsThere tri (get_or points i d) most) answer → IsNotStrict answer → EndsAs points (drop (i + 1) points)
  weak_at points i d answer less from right weak =
      let second = drop_more points (i + 1) d (omega arith) in
      let both = drop_more points i d (omega arith) ∙ ap (λ rest. get_or points i d ∷ rest) second in
      subst (EndsAs points) (sym second) (ends_later points (get_or points i d) (get_or points (i + 1) d) (drop (i + 1 + 1) points) answer (subst (EndsAs points) both from) right weak)

  pub decisive_at : (points : List Point) (i : ℕ) (d : Point) (answer : Result Base BaseFault) → i < length points - 1 → EndsAs points (drop i points)
      → IsRight tri (EndsThere tri (get_or points i d) most) answer → ¬ (IsNotStrict answer) → IsRight tri (EndsListed tri.field tri.halves points most) answer
  decisive_at points i d answer less from right none =
      let second = drop_more points (i + 1) d (omega arith) in
      let both = drop_more points i d (omega arith) ∙ ap (λ rest. get_or points i d ∷ rest) second in
      right_here points (get_or points i d) (get_or points (i + 1) d) (drop (i + 1 + 1) points) answer (subst (EndsAs points) both from) right none

  pub last_at : (points : List Point) (i j : ℕ) (d : Point) (answer : Result Base BaseFault) → i ≡ j → i + 1 ≡ length points → EndsAs points (drop i points)
      → IsRight tri (EndsThere tri (get_or points j d) most) answer → IsRight tri (EndsListed tri.field tri.halves points most) answer
  last_at points i j d answer e last from right =
      let none : drop (i + 1) points ≡ [] = drop_of_length-le points (omega arith) in
      let both = drop_more points i d (omega arith) ∙ ap (λ rest. get_or points i d ∷ rest) none in
      right_last points (get_or points i d) answer (subst (EndsAs points) both from) (subst (λ k. IsRight tri (EndsThere tri (get_or points k d) most) answer) (sym e) right)

-- over a list the flipping ends in one way
pub one_listed : (d : ℕ) → IsFieldNumber d → (halves : List Half) → IsTriangulation d halves → (points : List Point) → AllByRecursion IsBasePoint points → (most : ℕ) (at to : Point) (e f : Ending)
    → EndsListed d halves points most at e → EndsListed d halves points most to f → (at ≡ to) × (e ≡ f)
one_listed d field halves valid [] all most at to e f a b = absurd a
one_listed d field halves valid (point ∷ []) all most at to e f (s, a) (t, b) =
    (s ∙ sym t, one_ending d field halves valid point (place_inside d point all.0) most e f a b)
one_listed d field halves valid (point ∷ next ∷ points) all most at to e f (inl (s, a, _)) (inl (t, b, _)) =
    (s ∙ sym t, one_ending d field halves valid point (place_inside d point all.0) most e f a b)
one_listed d field halves valid (point ∷ next ∷ points) all most at to e f (inl (s, a, decisive)) (inr ((h, b), _)) =
    absurd (subst IsDecisive (one_ending d field halves valid point (place_inside d point all.0) most e (not_strict h) a b) decisive)
one_listed d field halves valid (point ∷ next ∷ points) all most at to e f (inr ((h, a), _)) (inl (t, b, decisive)) =
    absurd (subst IsDecisive (one_ending d field halves valid point (place_inside d point all.0) most f (not_strict h) b a) decisive)
one_listed d field halves valid (point ∷ next ∷ points) all most at to e f (inr (_, a)) (inr (_, b)) =
    one_listed d field halves valid (next ∷ points) all.1 most at to e f a b
