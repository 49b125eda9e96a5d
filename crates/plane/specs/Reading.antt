-- For private functions alone, no public contract cites it: what a word, or a part of one, is read as, case by case.
use Rattle.std.specs.Prelude.{◌≡◌, ◌≢◌, ℕ, suc, zero, ◌<◌, ◌≤◌, ◌^◌, ℤ, pos, negsuc, List, length, slice_index, ◌⊎◌}
use Rattle.quad_field.specs.declared.quad.Quad.{Quad}
use Rattle.quad_field.specs.Width.{FitsI128, PartsFit}
use Rattle.plane.specs.declared.vec2.Vec2.{Vec2}
use Rattle.plane.specs.declared.words.NaturalWord.{NaturalWord}
use Rattle.plane.specs.declared.words.NaturalWord.TheVariants as natural_word
use Rattle.plane.specs.declared.words.WholeWord.{WholeWord}
use Rattle.plane.specs.declared.words.WholeWord.TheVariants as whole_word
use Rattle.plane.specs.declared.words.QuadWord.{QuadWord}
use Rattle.plane.specs.declared.words.QuadWord.TheVariants as quad_word
use Rattle.plane.specs.declared.words.VectorWord.{VectorWord}
use Rattle.plane.specs.declared.words.VectorWord.TheVariants as vector_word
use Rattle.plane.specs.Spelling.{natural_text, quad_text, vector_text}

-- the natural number that is spelled, that it is 2^128 or more, or that none is spelled
abbrev pub IsNaturalRead : List ℕ → NaturalWord → Type 0
IsNaturalRead word (natural_word.Value n) = (word ≡ natural_text n) × (n < 2 ^ 128)
IsNaturalRead word natural_word.Large = (n : ℕ) × (word ≡ natural_text n) × ¬ (n < 2 ^ 128)
IsNaturalRead word natural_word.Not = (n : ℕ) → word ≢ natural_text n

-- the whole number that is spelled, that it lies outside i128, or that none is spelled
abbrev pub IsWholeRead : (ℤ → Type 0) → WholeWord → Type 0
IsWholeRead Spells (whole_word.Value n) = Spells n × FitsI128 n
IsWholeRead Spells whole_word.Large = (n : ℤ) × Spells n × ¬ (FitsI128 n)
IsWholeRead Spells whole_word.Not = (n : ℤ) → ¬ (Spells n)

-- the K-integer that is spelled, that a part lies outside i128, or that none is spelled
abbrev pub IsQuadRead : List ℕ → QuadWord → Type 0
IsQuadRead word (quad_word.Value x) = (word ≡ quad_text x) × PartsFit x
IsQuadRead word quad_word.Large = (x : Quad) × (word ≡ quad_text x) × ¬ (PartsFit x)
IsQuadRead word quad_word.Not = (x : Quad) → word ≢ quad_text x

-- the vector that is spelled, that a part of a coordinate lies outside i128, or that none is spelled
abbrev pub IsVectorRead : List ℕ → VectorWord → Type 0
IsVectorRead word (vector_word.Value v) = (word ≡ vector_text v) × PartsFit v.s × PartsFit v.t
IsVectorRead word vector_word.Large = (v : Vec2) × (word ≡ vector_text v) × ¬ (PartsFit v.s × PartsFit v.t)
IsVectorRead word vector_word.Not = (v : Vec2) → word ≢ vector_text v

-- the digits are those of n, which isn't below 0
abbrev pub IsNonnegative : List ℕ → ℤ → Type 0
IsNonnegative digits (pos n) = digits ≡ natural_text n
IsNonnegative digits (negsuc n) = ⊥

-- the digits are those of n, which is above 0
abbrev pub IsPositive : List ℕ → ℤ → Type 0
IsPositive digits (pos zero) = ⊥
IsPositive digits (pos (suc n)) = digits ≡ natural_text (suc n)
IsPositive digits (negsuc n) = ⊥

-- the digits are those of -n, and n is below 0
abbrev pub IsNegative : List ℕ → ℤ → Type 0
IsNegative digits (pos n) = ⊥
IsNegative digits (negsuc n) = digits ≡ natural_text (suc n)

-- `+` or `-`
abbrev pub IsSign : ℕ → Type 0
IsSign byte = (byte ≡ 43) ⊎ (byte ≡ 45)

-- the first sign behind the first byte stands at end, or end is the length
pub record EndsAtSign (word : List ℕ) (end : ℕ) : Type 0 where
  pub within : end ≤ length word
  pub positive : 0 < length word → 0 < end
  pub before : (k : ℕ) → 0 < k → k < end → ¬ (IsSign (slice_index word k))
  pub sign : end < length word → IsSign (slice_index word end)

-- the first comma stands at end, or end is the length
pub record EndsAtComma (word : List ℕ) (end : ℕ) : Type 0 where
  pub within : end ≤ length word
  pub before : (k : ℕ) → k < end → slice_index word k ≢ 44
  pub comma : end < length word → slice_index word end ≡ 44
