use Rattle.std.proofs.Common.{rules, ◌≡◌, ◌∙◌, ℕ, ap, subst, Option}
use Rattle.std.specs.Prelude.{◌⊎◌, IfSome, FitsSigned}
use Rattle.std.specs.Int.{w64}
use Rattle.std.proofs.lemmas.Int.{to_z-of_z}
use Rattle.quad_field.specs.declared.quad.Quad.{Quad}
use Rattle.quad_field.specs.Quads.{quad_ops, scaled}
use Rattle.plane.specs.Vectors.{Vector, vector, det}
use Rattle.canon_code.specs.declared.small.SmallFrame.{SmallFrame}
use Rattle.canon_code.specs.Small.{quad_of, vector_of, IsSmallFrame}
use Rattle.canon_code.specs.WholeFrames.{IsWhole, IsNotWhole, IsNoMultiple}
use Rattle.canon_code.proofs.Results.{if_some_two, if_none}
use Rattle.canon_code.proofs.SmallFrames.{whole_from, none_from}
use Rattle.canon_code.proofs.whole.pair_over.Goals as goal

pub returns-in-Some-small_numbers-clause-whole : goal.returns-in-Some-small_numbers-clause-whole
returns-in-Some-small_numbers-clause-whole c =
    let d : ℕ = c.args.f.now in
    let start = c.args.start.now in
    let v : Vector Quad = vector c.args.v.now in
    let small : SmallFrame = c.in-Some.small in
    let fits : FitsSigned w64 small.divisor = search rules in
    let own : IsSmallFrame d start.frame start.divisor small = subst (λ (o : Option SmallFrame). IfSome o (IsSmallFrame d start.frame start.divisor)) c.in-Some.is c.requires.small in
    let s = c.in-Some-small_numbers.s in
    let t = c.in-Some-small_numbers.t in
    let first : quad_of s ≡ det (quad_ops d) v (vector_of small.g) = subst (λ (n : ℕ). quad_of s ≡ det (quad_ops n) v (vector_of small.g)) c.number.ensures.number c.in-Some-small_numbers.ensures.first in
    let second : quad_of t ≡ det (quad_ops d) (vector_of small.e) v = subst (λ (n : ℕ). quad_of t ≡ det (quad_ops n) (vector_of small.e) v) c.number.ensures.number c.in-Some-small_numbers.ensures.second in
    if_some_two c.whole_both.result _ _ (λ w. IsWhole d start.frame start.divisor v (w.0, w.1)) c.whole_both.ensures.first c.whole_both.ensures.second
    (λ w p q.
    whole_from d start.frame start.divisor small own v (quad_of s) (quad_of t) first second (w.0, w.1)
    (p ∙ ap (λ n. scaled n w.0) (to_z-of_z w64 small.divisor fits)) (q ∙ ap (λ n. scaled n w.1) (to_z-of_z w64 small.divisor fits)))

pub returns-in-Some-small_numbers-clause-none : goal.returns-in-Some-small_numbers-clause-none
returns-in-Some-small_numbers-clause-none c =
    let d : ℕ = c.args.f.now in
    let start = c.args.start.now in
    let v : Vector Quad = vector c.args.v.now in
    let small : SmallFrame = c.in-Some.small in
    let fits : FitsSigned w64 small.divisor = search rules in
    let own : IsSmallFrame d start.frame start.divisor small = subst (λ (o : Option SmallFrame). IfSome o (IsSmallFrame d start.frame start.divisor)) c.in-Some.is c.requires.small in
    let s = c.in-Some-small_numbers.s in
    let t = c.in-Some-small_numbers.t in
    let first : quad_of s ≡ det (quad_ops d) v (vector_of small.g) = subst (λ (n : ℕ). quad_of s ≡ det (quad_ops n) v (vector_of small.g)) c.number.ensures.number c.in-Some-small_numbers.ensures.first in
    let second : quad_of t ≡ det (quad_ops d) (vector_of small.e) v = subst (λ (n : ℕ). quad_of t ≡ det (quad_ops n) (vector_of small.e) v) c.number.ensures.number c.in-Some-small_numbers.ensures.second in
    if_none c.whole_both.result _ (IsNotWhole d start.frame start.divisor v) c.whole_both.ensures.none
    (λ none.
    none_from d start.frame start.divisor small own v (quad_of s) (quad_of t) first second
    (subst (λ n. IsNoMultiple n (quad_of s) ⊎ IsNoMultiple n (quad_of t)) (to_z-of_z w64 small.divisor fits) none))
