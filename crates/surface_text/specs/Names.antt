-- For private contracts alone: the names of sides.
use Rattle.std.specs.Prelude.{◌≡◌, ◌≤◌, ℕ, List, ◌++◌, codes}
use Rattle.plane.specs.Spelling.{natural_text}
use Rattle.surface_text.specs.declared.names.Name.{Name}

-- the text `P.E` of a side's name
abbrev pub name_text : Name → List ℕ
name_text name = natural_text name.p ++ codes "." ++ natural_text name.e

-- the bytes spell this name
abbrev pub IsNameOf : List ℕ → Name → Type 0
IsNameOf bytes name = bytes ≡ name_text name

-- both numbers of a name are bounded
abbrev pub IsBoundedName : Name → Type 0
IsBoundedName name = (name.p ≤ 1000000000) × (name.e ≤ 1000000000)
