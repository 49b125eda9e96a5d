-- For private contracts alone: the first word of bytes, and what reading numbers answers.
use Rattle.std.specs.Prelude.{◌≡◌, ◌≢◌, ℕ, ℤ, List, [], ◌∷◌, ◌++◌, ⊤}
use Rattle.std.specs.List.{AllByRecursion}
use Rattle.canon_code.specs.declared.fault.CodeFault.{CodeFault}
use Rattle.canon_code.specs.declared.fault.CodeFault.TheVariants.{Form, Memory}
use Rattle.canon_code.specs.CodeText.{Lists}

-- there are no bytes, or they begin with a space
abbrev pub StopsAtSpace : List ℕ → Type 0
StopsAtSpace [] = ⊤
StopsAtSpace (byte ∷ bytes) = byte ≡ 32

-- the bytes before the first space, or all of them, and what is left
pub record FrontOf (bytes front tail : List ℕ) : Type 0 where
  pub found : bytes ≡ front ++ tail
  pub lacks : AllByRecursion (λ byte. byte ≢ 32) front
  pub stops : StopsAtSpace tail

-- the bytes list no numbers, or memory ran out
abbrev pub IsTextFault : List ℕ → CodeFault → Type 0
IsTextFault bytes Form = (numbers : List ℤ) → ¬ (Lists bytes numbers)
IsTextFault bytes Memory = ⊤
IsTextFault bytes fault = ⊥
