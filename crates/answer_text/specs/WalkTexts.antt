-- The text of `path`.
use Rattle.std.specs.Prelude.{ℕ, ℤ, Bool, true, false, List, [], ◌∷◌, codes}
use Rattle.std.specs.List.{concat}
use Rattle.plane.specs.Spelling.{natural_text}
use Rattle.report_text.specs.Reports.{class_text}

-- the line that says whether the end of a walk is translation-equal to its start
abbrev pub same_line : Bool → List ℕ
same_line true = codes "same yes\n"
same_line false = codes "same no\n"

-- what `path` prints of a walk: the number of its choices, that line, and the class of its end
abbrev pub walk_text : ℕ → Bool → List ℤ → List ℕ
walk_text choices same code = concat (codes "path " ∷ natural_text choices ∷ codes "\n" ∷ same_line same ∷ class_text code ∷ codes "\nend\n" ∷ [])
