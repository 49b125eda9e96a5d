-- The number of a keeper.
use Rattle.std.proofs.Common.{◌≡◌, ℕ, Option, Some, sym, ap, ◌∙◌}
use Rattle.class_shards.specs.Keepers.{number_or_0}

-- a number that is there is that number
pub numbered : (o : Option ℕ) (b : ℕ) → o ≡ Some b → number_or_0 o ≡ b
numbered o b is = ap number_or_0 is

-- who keeps a number keeps its own
pub keeps_own : (o p : Option ℕ) → p ≡ o → o ≡ Some (number_or_0 o) → p ≡ Some (number_or_0 p)
keeps_own o p same keeps = same ∙ keeps ∙ ap (λ (x : Option ℕ). Some (number_or_0 x)) (sym same)
