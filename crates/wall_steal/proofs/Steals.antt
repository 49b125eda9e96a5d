-- What a steal and a pop tell where they found nothing.
use Rattle.std.proofs.Common.{Option, Some, None}
use Rattle.std.specs.Prelude.{MatchOption, IfNone}
use Rattle.crossbeam_deque.specs.Steals.{MatchSteal}
use Rattle.crossbeam_deque.specs.declared.steal.Steal.{Steal}
use Rattle.crossbeam_deque.specs.declared.steal.Steal.TheVariants.{Empty, Success, Retry}

module _ {T : Type 0} where
  -- the part that speaks of an empty deque
  pub empty_told : (s : Steal T) (P Q R : Type 0) (S : T → Type 0) → MatchSteal s (P × Q) R S → MatchSteal s Q (Unit {0}) (λ _. Unit {0})
  empty_told Empty P Q R S told = told.1
  empty_told (Success x) P Q R S told = tt
  empty_told Retry P Q R S told = tt

  pub none_told : (o : Option T) (P Q : Type 0) (S : T → Type 0) → MatchOption o (P × Q) S → IfNone o Q
  none_told None P Q S told = told.1
  none_told (Some x) P Q S told = tt
