use Rattle.std.proofs.Common.{ℕ, [], ◌∷◌, ◌*◌, sym, subst}
use Rattle.std.specs.Prelude.{ℤ, pos, unsigned_abs}
use Prim.Native.Nat.{◌∣◌}
use Rattle.std.specs.Int.{w128}
use Rattle.std.proofs.lemmas.Int.{to_z-of_z}
use Rattle.quad_field.specs.Quads.{quad}
use Rattle.quad_field.specs.Content.{DividesAll}
use Rattle.canon_code.proofs.Divisors.{content_fits, content_positive, content_divides, content_within}
use Rattle.canon_code.proofs.whole.common.Goals as goal

pub returns-then-divides-2-clause-within : goal.returns-then-divides-2-clause-within
returns-then-divides-2-clause-within c = λ k n p q r s t. subst (λ z. k ∣ (n * unsigned_abs z)) (sym (to_z-of_z w128 c.args.g c.ranges.g)) p

pub overflow_cast-result : goal.overflow_cast-result
overflow_cast-result c =
    let x = c.args.x in
    let y = c.args.y in
    let r : ℕ = c.content.result in
    let same = to_z-of_z w128 c.args.g c.ranges.g in
    content_fits c.args.g x y r c.ranges.g c.requires
    (subst (λ (z : ℤ). DividesAll r (quad z (pos 0) ∷ x ∷ y ∷ [])) same c.content.ensures.divides)
    (subst (λ (z : ℤ). (k : ℕ) → DividesAll k (quad z (pos 0) ∷ x ∷ y ∷ []) → k ∣ r) same c.content.ensures.greatest)

pub returns-clause-positive : goal.returns-clause-positive
returns-clause-positive c =
    let x = c.args.x in
    let y = c.args.y in
    let r : ℕ = c.content.result in
    let same = to_z-of_z w128 c.args.g c.ranges.g in
    content_positive c.args.g x y r c.ranges.g c.requires
    (subst (λ (z : ℤ). DividesAll r (quad z (pos 0) ∷ x ∷ y ∷ [])) same c.content.ensures.divides)
    (subst (λ (z : ℤ). (k : ℕ) → DividesAll k (quad z (pos 0) ∷ x ∷ y ∷ []) → k ∣ r) same c.content.ensures.greatest)

pub returns-clause-divides : goal.returns-clause-divides
returns-clause-divides c =
    let x = c.args.x in
    let y = c.args.y in
    let r : ℕ = c.content.result in
    let same = to_z-of_z w128 c.args.g c.ranges.g in
    content_divides c.args.g x y r c.ranges.g c.requires
    (subst (λ (z : ℤ). DividesAll r (quad z (pos 0) ∷ x ∷ y ∷ [])) same c.content.ensures.divides)
    (subst (λ (z : ℤ). (k : ℕ) → DividesAll k (quad z (pos 0) ∷ x ∷ y ∷ []) → k ∣ r) same c.content.ensures.greatest)

pub returns-clause-within : goal.returns-clause-within
returns-clause-within c =
    let x = c.args.x in
    let y = c.args.y in
    let r : ℕ = c.content.result in
    let same = to_z-of_z w128 c.args.g c.ranges.g in
    content_within c.args.g x y r c.ranges.g c.requires
    (subst (λ (z : ℤ). DividesAll r (quad z (pos 0) ∷ x ∷ y ∷ [])) same c.content.ensures.divides)
    (subst (λ (z : ℤ). (k : ℕ) → DividesAll k (quad z (pos 0) ∷ x ∷ y ∷ []) → k ∣ r) same c.content.ensures.greatest)
