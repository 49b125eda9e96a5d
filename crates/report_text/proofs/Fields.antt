-- The number of a field, read from a word.
use Rattle.std.proofs.Common.{◌≡◌, ℕ, Option, Some, None, List, ap, sym, ◌∙◌, subst}
use Rattle.std.specs.Prelude.{◌↔◌, SomeIff}
use Rattle.quad_field.specs.FieldNumber.{IsFieldNumber}
use Rattle.plane.specs.Spelling.{natural_text}
use Rattle.plane.proofs.CallerLemmas.{natural_text_injective}

pub field_iff : (word : List ℕ) (d : ℕ) (r : Option ℕ) → word ≡ natural_text d → SomeIff r (IsFieldNumber d) d → (n : ℕ) → (r ≡ Some n) ↔ ((word ≡ natural_text n) × IsFieldNumber n)
field_iff word d None spelled other n = (λ e. absurd (cc), λ is. absurd (other (subst IsFieldNumber (natural_text_injective n d (sym is.0 ∙ spelled)) is.1)))
field_iff word d (Some x) spelled given n = (
  λ e.
      let own : x ≡ d = given.1 in
      let same : d ≡ n = cc in (spelled ∙ ap natural_text same, subst IsFieldNumber same given.0),
  λ is.
      let own : x ≡ d = given.1 in
      let same : n ≡ d = natural_text_injective n d (sym is.0 ∙ spelled) in cc,
)
