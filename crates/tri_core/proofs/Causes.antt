-- No two conditions fail first together, and none fails at a triangulation.
use Rattle.std.proofs.Common.{◌≡◌, ℕ, ◌⊎◌, inl, inr, List, [], ◌∷◌, sym, ◌∙◌, ap}
use Rattle.std.proofs.lemmas.Bool.{cases_order}
use Rattle.tri_core.specs.declared.half.Half.{Half}
use Rattle.tri_core.specs.declared.tri.BadTri.{BadTri}
use Rattle.tri_core.specs.declared.tri.BadTri.TheVariants.{Count, Wide, Sum, Turn, Twin, Apart, Memory}
use Rattle.tri_core.specs.Triangulation.{HasTriangles, IsTriangulation}
use Rattle.tri_core.specs.Refusals.{FailsFirst, HoldsAll, Condition, conditions, IsFirstRefusal, IsCause, IsForced, IsFree}

-- what holds everywhere fails nowhere
never : {Counts P : ℕ → Type 0} (n : ℕ) → HoldsAll Counts P → ¬ (FailsFirst Counts P n)
never n holds first = first.fails (holds n first.place)

-- there is one first failure
one_first : {Counts P : ℕ → Type 0} (m n : ℕ) → FailsFirst Counts P m → FailsFirst Counts P n → n ≡ m
one_first m n first other =
    elim (cases_order n m) [ inl e ↦ e | inr less ↦ elim less [ inl l ↦ absurd (other.fails (first.before n l)) | inr g ↦ absurd (first.fails (other.before m g)) ] ]

-- so there is one refusal of a list of conditions
one_refusal : (cs : List Condition) (bad other : BadTri) → IsFirstRefusal cs bad → IsFirstRefusal cs other → other ≡ bad
one_refusal [] bad other first second = absurd first
one_refusal (c ∷ cs) bad other (inl (n, e, fails)) (inl (m, f, fails')) = f ∙ ap c.refusal (one_first n m fails fails') ∙ sym e
one_refusal (c ∷ cs) bad other (inl (n, e, fails)) (inr (holds, second)) = absurd (never n holds fails)
one_refusal (c ∷ cs) bad other (inr (holds, first)) (inl (m, f, fails')) = absurd (never m holds fails')
one_refusal (c ∷ cs) bad other (inr (holds, first)) (inr (holds', second)) = one_refusal cs bad other first second

module _ (d : ℕ) (halves : List Half) where
  -- `Count` is refused only where it fails
  pub count_fails : IsFirstRefusal (conditions d halves) Count → ¬ (HasTriangles halves)
  count_fails (inl (n, e, fails)) count = fails.fails count
  count_fails (inr (holds, inl (n, e, fails))) count = cc
  count_fails (inr (holds, inr (closed, inl (n, e, fails)))) count = cc
  count_fails (inr (holds, inr (closed, inr (turns, inl (n, e, fails))))) count = cc
  count_fails (inr (holds, inr (closed, inr (turns, inr (paired, inl (n, e, fails)))))) count = cc
  count_fails (inr (holds, inr (closed, inr (turns, inr (paired, inr none))))) count = none.1

  -- no condition fails at a triangulation
  none_fails : (bad : BadTri) → IsTriangulation d halves → ¬ (IsFirstRefusal (conditions d halves) bad)
  none_fails bad valid (inl (n, e, fails)) = fails.fails valid.count
  none_fails bad valid (inr (holds, inl (n, e, fails))) = never n valid.closed fails
  none_fails bad valid (inr (holds, inr (closed, inl (n, e, fails)))) = never n valid.turns fails
  none_fails bad valid (inr (holds, inr (closed, inr (turns, inl (n, e, fails))))) = never n valid.paired fails
  none_fails bad valid (inr (holds, inr (closed, inr (turns, inr (paired, inl (n, e, fails)))))) = never n valid.joined fails
  none_fails bad valid (inr (holds, inr (closed, inr (turns, inr (paired, inr none))))) = none.1

  -- no cause but of width or memory holds at a triangulation
  pub no_cause : (bad : BadTri) → IsTriangulation d halves → IsCause d halves bad → IsFree bad
  no_cause Count valid cause = none_fails Count valid cause
  no_cause (Wide formula) valid cause = tt
  no_cause (Sum t) valid cause = none_fails (Sum t) valid cause
  no_cause (Turn t) valid cause = none_fails (Turn t) valid cause
  no_cause (Twin h) valid cause = none_fails (Twin h) valid cause
  no_cause (Apart t) valid cause = none_fails (Apart t) valid cause
  no_cause Memory valid cause = tt

  -- a refusal is free, or that of a condition
  free_or_first : (bad : BadTri) → IsCause d halves bad → IsFree bad ⊎ IsFirstRefusal (conditions d halves) bad
  free_or_first Count cause = inr cause
  free_or_first (Wide formula) cause = inl tt
  free_or_first (Sum t) cause = inr cause
  free_or_first (Turn t) cause = inr cause
  free_or_first (Twin h) cause = inr cause
  free_or_first (Apart t) cause = inr cause
  free_or_first Memory cause = inl tt

  -- a forced refusal is that of a condition
  forced_first : (bad : BadTri) → IsForced bad → IsCause d halves bad → IsFirstRefusal (conditions d halves) bad
  forced_first Count forced cause = cause
  forced_first (Wide formula) forced cause = absurd forced
  forced_first (Sum t) forced cause = cause
  forced_first (Turn t) forced cause = cause
  forced_first (Twin h) forced cause = cause
  forced_first (Apart t) forced cause = cause
  forced_first Memory forced cause = absurd forced

  -- of the refusals that have their cause, one alone is neither for width nor for memory
  pub one_cause : (bad other : BadTri) → IsForced bad → IsCause d halves bad → IsCause d halves other → (other ≡ bad) ⊎ IsFree other
  one_cause bad other forced cause cause' = elim (free_or_first other cause') [
    | inl free ↦ inr free
    | inr second ↦ inl (one_refusal (conditions d halves) bad other (forced_first bad forced cause) second)
  ]

  -- at a triangulation a cause is of width or memory, so no other is given
  pub not_forced : (bad : BadTri) → IsTriangulation d halves → IsForced bad → ¬ (IsCause d halves bad)
  not_forced bad valid forced cause = none_fails bad valid (forced_first bad forced cause)
