-- The text of a summary: how many classes and matrices a report has.
use Rattle.std.specs.Prelude.{ℕ, List, [], ◌∷◌, codes}
use Rattle.std.specs.List.{concat}
use Rattle.plane.specs.Spelling.{natural_text}

-- what `plain --summary` prints of so many classes and matrices
abbrev pub summary_lines : ℕ → ℕ → List ℕ
summary_lines classes matrices = concat (codes "classes " ∷ natural_text classes ∷ codes "\nmatrices " ∷ natural_text matrices ∷ codes "\nend\n" ∷ [])

-- what `trial` prints of the surface of this number: the number, and then the summary
abbrev pub trial_lines : ℕ → ℕ → ℕ → List ℕ
trial_lines number classes matrices = concat (codes "trial " ∷ natural_text number ∷ codes "\n" ∷ summary_lines classes matrices ∷ [])
