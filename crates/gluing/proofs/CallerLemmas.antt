-- What the crates above cite: a file within the limits of the text is glued, or refused for one cause in one line.
use Rattle.std.proofs.Common.{◌≡◌, ℕ, ◌⊎◌, inl, inr, refl}
use Rattle.surface_text.specs.Spelling.{Content}
use Rattle.surface_text.specs.Limits.{IsWithinLimits}
use Rattle.gluing.specs.declared.fault.GlueFault.{GlueFault}
use Rattle.gluing.specs.declared.fault.GlueFault.TheVariants.{Bad, Memory}
use Rattle.gluing.specs.Gluings.{IsGluing, gluing_of}
use Rattle.gluing.specs.Refusals.{IsRefused, checks_of, IsFaultOf}
use Rattle.gluing.proofs.Causes as causes
use Rattle.gluing.proofs.Refusing as refusing
use Rattle.gluing.proofs.Deciding as deciding

-- a file that is glued isn't refused
pub not_both : (file : Content) (cause line : ℕ) → IsGluing (gluing_of file) → ¬ (IsRefused file cause line)
not_both file cause line valid refused = refusing.passes_first (checks_of file) cause line (causes.all_pass file valid) refused

-- a file is refused for one cause in one line
pub one_refusal : (file : Content) (cause other line place : ℕ) → IsRefused file cause line → IsRefused file other place → (cause ≡ other) × (line ≡ place)
one_refusal file cause other line place one two = refusing.one_first (checks_of file) cause other line place one two

-- a file within the limits is glued or refused
pub glued_or_refused : (file : Content) → IsWithinLimits file → IsGluing (gluing_of file) ⊎ ((cause : ℕ) × (line : ℕ) × IsRefused file cause line)
glued_or_refused file limits = elim (refusing.some_first (checks_of file) (deciding.decide_file file limits.field)) [
  | inl all ↦ inl (causes.surface_from file limits all.0 all.1.0 all.1.1.0 all.1.1.1.0 all.1.1.1.1.0)
  | inr refused ↦ inr refused
]

-- the one fault of a file that is glued is want of memory
pub memory_alone : (file : Content) (fault : GlueFault) → IsGluing (gluing_of file) → IsFaultOf file fault → fault ≡ Memory
memory_alone file (Bad cause line) valid is = absurd (not_both file cause line valid is)
memory_alone file Memory valid is = refl

-- a fault is the refusal of the file, where it has one, or want of memory
pub fault_is : (file : Content) (fault : GlueFault) (cause line : ℕ) → IsFaultOf file fault → IsRefused file cause line → (fault ≡ Bad cause line) ⊎ (fault ≡ Memory)
fault_is file (Bad other place) cause line is refused =
    let same = one_refusal file other cause place line is refused in
    inl (λ i. Bad (same.0 i) (same.1 i))
fault_is file Memory cause line is refused = inr refl
