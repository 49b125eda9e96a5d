-- What the crates above cite: the file of each number is within the limits of the text, and its polygons make a surface.
use Rattle.std.proofs.Common.{ℕ, ◌<◌}
use Rattle.surface_text.specs.Limits.{IsWithinLimits}
use Rattle.gluing.specs.Gluings.{IsGluing, gluing_of}
use Rattle.family_gen.specs.Families.{family_of}
use Rattle.family_gen.proofs.Surfaces.{of_number}

pub within_limits : (n : ℕ) → n < 200 → IsWithinLimits (family_of n)
within_limits n small = (of_number n small).limits

pub glued : (n : ℕ) → n < 200 → IsGluing (gluing_of (family_of n))
glued n small = (of_number n small).glued
