-- What a refusal of a text says.
use Rattle.std.specs.Prelude.{◌≡◌, ℕ, List, ⊤}
use Rattle.surface_text.specs.declared.file.TextFault.{TextFault}
use Rattle.surface_text.specs.declared.file.TextFault.TheVariants.{Bad, Memory}
use Rattle.surface_text.specs.Spelling.{Content, text}
use Rattle.surface_text.specs.Limits.{IsWithinLimits}
use Rattle.surface_text.specs.Causes.{IsRefused}

-- the cause and the line are those for which the text is refused; want of memory says nothing
abbrev pub IsFaultOf : List ℕ → TextFault → Type 0
IsFaultOf bytes (Bad cause line) = IsRefused bytes cause line
IsFaultOf bytes Memory = ⊤

-- the bytes are the text of this file within the limits
abbrev pub IsTextOf : List ℕ → Content → Type 0
IsTextOf bytes file = (bytes ≡ text file) × IsWithinLimits file
