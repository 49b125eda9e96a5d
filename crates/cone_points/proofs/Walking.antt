-- A walk about a vertex, step by step.
use Rattle.std.proofs.Common.{◌≡◌, ℕ, suc, ◌+◌, ◌-◌, ◌<◌, ◌≤◌, Bool, true, false, ◌&&◌, eqb, List, length, get_or, set, subst, sym, ap, ◌∙◌, refl, arith}
use Rattle.std.specs.Prelude.{◌⊎◌}
use mathlib.Core.Logic.{inl, inr}
use Rattle.std.proofs.lemmas.Bool.{cases_eq, eq-eqb, ne_eqb}
use Rattle.std.proofs.lemmas.List.{get_or-set_same, get_or-set_other, length-set}
use Rattle.tri_core.specs.declared.half.Half.{Half}
use Rattle.cone_points.specs.Vertices.{turned, StartsWith}
use Rattle.cone_points.specs.Walks.{rises_by, number_below, IsMarked, risen, IsTurnedOn}
use Rattle.cone_points.proofs.Numbers.{bit, number_same, number_sum, number_single, number_rest}

-- a state of a walk from h: of the half-edges marked since the start, only the last one's next may be unmarked
pub record IsWalk (halves : List Half) (uppers : List Bool) (h : ℕ) (old marks : List Bool) (place rises : ℕ) : Type 0 where
  pub as_many : length marks ≡ length halves
  pub inside : place < length halves
  pub starts : StartsWith halves h place
  pub count : risen halves uppers marks ≡ risen halves uppers old + rises
  pub kept : (k : ℕ) → IsMarked old k → IsMarked marks k
  pub more : (k : ℕ) → IsMarked marks k → IsMarked old k ⊎ StartsWith halves h k
  pub next : (k : ℕ) → IsMarked marks k → IsMarked marks (turned halves k) ⊎ (turned halves k ≡ place)
  pub first : IsMarked marks h ⊎ (place ≡ h)

-- how many marks are left to set
abbrev pub unmarked : List Bool → ℕ
unmarked marks = length marks - number_below (λ k. get_or marks k false) (length marks)

pub starts_self : (halves : List Half) (h : ℕ) → StartsWith halves h h
starts_self halves h = (0, refl)

pub starts_next : (halves : List Half) (h k : ℕ) → StartsWith halves h k → StartsWith halves h (turned halves k)
starts_next halves h k s = (suc s.0, ap (turned halves) s.1)

pub marked_here : (marks : List Bool) (place : ℕ) → place < length marks → IsMarked (set marks place true) place
marked_here marks place l = get_or-set_same marks place true false l

pub marked_still : (marks : List Bool) (place k : ℕ) → place < length marks → IsMarked marks k → IsMarked (set marks place true) k
marked_still marks place k l m = go (cases_eq k place)
  where
    go : (k ≡ place) ⊎ ¬ (k ≡ place) → IsMarked (set marks place true) k
    go (inl e) = subst (IsMarked (set marks place true)) (sym e) (marked_here marks place l)
    go (inr ne) = get_or-set_other marks place k true false ne ∙ m

pub marked_before : (marks : List Bool) (place k : ℕ) → IsMarked (set marks place true) k → (k ≡ place) ⊎ IsMarked marks k
marked_before marks place k m = go (cases_eq k place)
  where
    go : (k ≡ place) ⊎ ¬ (k ≡ place) → (k ≡ place) ⊎ IsMarked marks k
    go (inl e) = inl e
    go (inr ne) = inr (sym (get_or-set_other marks place k true false ne) ∙ m)

-- one more mark counts one more, where the set has it
pub number_marked : (marks : List Bool) (place n : ℕ) (a : ℕ → Bool) → place < length marks → place < n → get_or marks place false ≡ false
    → number_below (λ k. get_or (set marks place true) k false && a k) n ≡ number_below (λ k. get_or marks k false && a k) n + bit (a place)
number_marked marks place n a l inside free =
    number_sum (λ k. get_or marks k false && a k) (λ k. eqb k place && a k) (λ k. get_or (set marks place true) k false && a k) n (λ k below. go k (cases_eq k place))
    ∙ ap (λ x. number_below (λ k. get_or marks k false && a k) n + x) (number_single a n place inside)
  where
    go : (k : ℕ) → (k ≡ place) ⊎ ¬ (k ≡ place) → bit (get_or (set marks place true) k false && a k) ≡ bit (get_or marks k false && a k) + bit (eqb k place && a k)
    go k (inl e) =
        let one : get_or (set marks place true) k false ≡ true = ap (λ x. get_or (set marks place true) x false) e ∙ marked_here marks place l in
        let none : get_or marks k false ≡ false = ap (λ x. get_or marks x false) e ∙ free in
        let here : eqb k place ≡ true = eq-eqb k place e in
        let p : bit (get_or (set marks place true) k false && a k) ≡ bit (a k) = ap (λ b. bit (b && a k)) one in
        let q : bit (get_or marks k false && a k) ≡ 0 = ap (λ b. bit (b && a k)) none in
        let r : bit (eqb k place && a k) ≡ bit (a k) = ap (λ b. bit (b && a k)) here in
        omega (arith, p, q, r)
    go k (inr ne) =
        let p : bit (get_or (set marks place true) k false && a k) ≡ bit (get_or marks k false && a k) = ap (λ b. bit (b && a k)) (get_or-set_other marks place k true false ne) in
        let r : bit (eqb k place && a k) ≡ 0 = ap (λ b. bit (b && a k)) (ne_eqb k place ne) in
        omega (arith, p, r)

pub risen_marked : (halves : List Half) (uppers marks : List Bool) (place : ℕ) → length marks ≡ length halves → place < length halves → get_or marks place false ≡ false
    → risen halves uppers (set marks place true) ≡ risen halves uppers marks + bit (rises_by halves uppers place)
risen_marked halves uppers marks place e l free = number_marked marks place (length halves) (rises_by halves uppers) (omega (arith, e, l)) l free

-- no more rise than there are
pub risen_most : (halves : List Half) (uppers marks : List Bool) → risen halves uppers marks ≤ length halves
risen_most halves uppers marks = omega (arith, number_rest (λ k. get_or marks k false && rises_by halves uppers k) (length halves))

pub unmarked_less : (marks : List Bool) (place : ℕ) → place < length marks → get_or marks place false ≡ false → unmarked (set marks place true) < unmarked marks
unmarked_less marks place l free =
    let e : length (set marks place true) ≡ length marks = length-set marks place true in
    let with_true : (m : List Bool) → number_below (λ k. get_or m k false && true) (length marks) ≡ number_below (λ k. get_or m k false) (length marks) =
    (λ m. number_same (λ k. get_or m k false && true) (λ k. get_or m k false) (length marks) (λ k less. and_true (get_or m k false))) in
    let more = number_marked marks place (length marks) (λ k. true) l l free in
    let most = number_rest (λ k. get_or (set marks place true) k false) (length marks) in
    let moved : number_below (λ k. get_or (set marks place true) k false) (length (set marks place true)) ≡ number_below (λ k. get_or (set marks place true) k false) (length marks) =
    ap (number_below (λ k. get_or (set marks place true) k false)) e in
    omega (arith, e, with_true (set marks place true), with_true marks, more, most, moved)
  where
    and_true : (b : Bool) → (b && true) ≡ b
    and_true true = refl
    and_true false = refl

-- the start of a walk
pub walk_start : (halves : List Half) (uppers : List Bool) (h : ℕ) (marks : List Bool) → length marks ≡ length halves → h < length halves → IsTurnedOn halves marks → IsWalk halves uppers h marks marks h 0
walk_start halves uppers h marks e l on = record {
  as_many = e;
  inside = l;
  starts = starts_self halves h;
  count = omega arith;
  kept = λ k m. m;
  more = λ k m. inl m;
  next = λ k m. inl (on k m);
  first = inr refl;
}

-- a step
pub walk_step : (halves : List Half) (uppers : List Bool) (h : ℕ) (old marks : List Bool) (place rises : ℕ) → IsWalk halves uppers h old marks place rises
    → get_or marks place false ≡ false → turned halves place < length halves → (r : ℕ) → r ≡ bit (rises_by halves uppers place)
    → IsWalk halves uppers h old (set marks place true) (turned halves place) (rises + r)
walk_step halves uppers h old marks place rises w free inside r is =
    let l : place < length marks = omega (arith, w.as_many, w.inside) in
    record {
      as_many = length-set marks place true ∙ w.as_many;
      inside = inside;
      starts = starts_next halves h place w.starts;
      count = omega (arith, risen_marked halves uppers marks place w.as_many w.inside free, w.count, is);
      kept = λ k m. marked_still marks place k l (w.kept k m);
      more = λ k m. elim (marked_before marks place k m) [ inl e ↦ inr (subst (StartsWith halves h) (sym e) w.starts) | inr b ↦ w.more k b ];
      next = λ k m. elim (marked_before marks place k m) [
        | inl e ↦ inr (ap (turned halves) e)
        | inr b ↦ inl (reach k (w.next k b) l)
      ];
      first = inl (begun w.first l);
    }
  where
    reach : (k : ℕ) → IsMarked marks (turned halves k) ⊎ (turned halves k ≡ place) → place < length marks → IsMarked (set marks place true) (turned halves k)
    reach k (inl m) l = marked_still marks place (turned halves k) l m
    reach k (inr e) l = subst (IsMarked (set marks place true)) (sym e) (marked_here marks place l)

    begun : IsMarked marks h ⊎ (place ≡ h) → place < length marks → IsMarked (set marks place true) h
    begun (inl m) l = marked_still marks place h l m
    begun (inr e) l = subst (IsMarked (set marks place true)) e (marked_here marks place l)

-- at the end each marked half-edge has its next marked
pub walk_end : (halves : List Half) (uppers : List Bool) (h : ℕ) (old marks : List Bool) (place rises : ℕ) → IsWalk halves uppers h old marks place rises
    → IsMarked marks place → IsTurnedOn halves marks × IsMarked marks h
walk_end halves uppers h old marks place rises w m = (λ k b. on k (w.next k b), begun w.first)
  where
    on : (k : ℕ) → IsMarked marks (turned halves k) ⊎ (turned halves k ≡ place) → IsMarked marks (turned halves k)
    on k (inl b) = b
    on k (inr e) = subst (IsMarked marks) (sym e) m

    begun : IsMarked marks h ⊎ (place ≡ h) → IsMarked marks h
    begun (inl b) = b
    begun (inr e) = subst (IsMarked marks) e m
