-- What the crates above cite: one file for one text, one refusal for one text, and the form of base points.
use Rattle.std.proofs.Common.{◌≡◌, ℕ, zero, suc, ◌%◌, ◌≤◌, List, length, subst}
use Rattle.std.specs.Prelude.{ℤ, pos, ◌≤ℤ◌, ◌<ℤ◌, unsigned_abs}
use Rattle.std.specs.Int.{IsGcd}
use Rattle.std.proofs.lemmas.Int.{ints}
use Rattle.std.proofs.lemmas.Nat.Gcd.{IsGcd-from_mod, IsGcd-from_zero}
use Rattle.std.proofs.Common.{arith}
use Rattle.surface_text.specs.declared.file.Point.{Point}
use Rattle.surface_text.specs.Spelling.{Content, text}
use Rattle.surface_text.specs.Limits.{IsFraction, IsBasePoint}
use Rattle.surface_text.specs.Causes.{IsRefused}
use Rattle.surface_text.specs.Refusals.{IsTextOf}
use Rattle.surface_text.proofs.Neither as neither_of
use Rattle.surface_text.proofs.Outcomes as outcomes
use Rattle.surface_text.proofs.Verdicts as verdicts

-- ---- texts
-- files with one text are the same
pub one_file : (x y : Content) → text x ≡ text y → x ≡ y
one_file x y same = verdicts.text_injective x y same

-- a text is refused for one cause in one line
pub one_refusal : (bytes : List ℕ) (cause other line place : ℕ) → IsRefused bytes cause line → IsRefused bytes other place → (cause ≡ other) × (line ≡ place)
one_refusal bytes cause other line place one two = verdicts.refused_once bytes cause other line place one two

-- the text of a file within the limits isn't refused
pub not_both : (bytes : List ℕ) (file : Content) (cause line : ℕ) → IsTextOf bytes file → ¬ (IsRefused bytes cause line)
not_both bytes file cause line is = outcomes.text_not_refused bytes file cause line is

-- and no short text is neither
pub neither : (bytes : List ℕ) → length bytes ≤ 1048576 → ((file : Content) → ¬ (IsTextOf bytes file)) → ¬ ((cause line : ℕ) → ¬ (IsRefused bytes cause line))
neither bytes short no_file not_refused = neither_of.neither bytes short no_file not_refused

-- ---- base points
-- Euclid's steps from a and b come to 1 and 0 after so many remainders
abbrev pub EndsInOne : ℕ → ℕ → ℕ → Type 0
EndsInOne zero a b = (b ≡ 0) × (a ≡ 1)
EndsInOne (suc k) a b = EndsInOne k b (a % b)

lowest : (k a b : ℕ) → EndsInOne k a b → IsGcd a b 1
lowest zero a b h = subst (λ (m : ℕ). IsGcd a b m) h.1 (IsGcd-from_zero a b h.0)
lowest (suc k) a b h = IsGcd-from_mod a b 1 (lowest k b (a % b) h)

-- a fraction with such steps has its form
pub fraction : (k : ℕ) (n d : ℤ) → pos 1 ≤ℤ d → EndsInOne k (unsigned_abs n) (unsigned_abs d) → IsFraction n d
fraction k n d positive ends = (positive, λ _ _. lowest k (unsigned_abs n) (unsigned_abs d) ends)

-- the denominators of a base point are above 0
pub denominators_positive : (at : Point) → IsBasePoint at → (pos 0 <ℤ at.xd) × (pos 0 <ℤ at.yd)
denominators_positive at is = (above at.xd is.form.0.0, above at.yd is.form.1.0)
  where
    above : (n : ℤ) → pos 1 ≤ℤ n → pos 0 <ℤ n
    above n h = omega (arith, ints)
