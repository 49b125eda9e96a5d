use Rattle.std.proofs.Common.{◌≡◌, ◌∙◌, ℕ, Option, subst}
use Rattle.std.specs.Prelude.{IfSome, pos}
use Rattle.quad_field.specs.Quads.{quad_ops}
use Rattle.plane.specs.Vectors.{Vector, vector, det}
use Rattle.quad_field.specs.declared.quad.Quad.{Quad}
use Rattle.canon_code.specs.declared.small.SmallFrame.{SmallFrame}
use Rattle.canon_code.specs.Small.{quad_of, vector_of, IsSmallFrame}
use Rattle.canon_code.proofs.small.quick_numbers.Goals as goal

pub returns-in-Some-small_numbers-clause-first : goal.returns-in-Some-small_numbers-clause-first
returns-in-Some-small_numbers-clause-first c =
    let d : ℕ = c.args.f.now in
    let frame = c.args.frame.now in
    let v : Vector Quad = vector c.args.v.now in
    let small : SmallFrame = c.in-Some.small in
    let own : IsSmallFrame d frame (pos 1) small = subst (λ (o : Option SmallFrame). IfSome o (IsSmallFrame d frame (pos 1))) c.in-Some.is c.requires.small in
    let s = c.in-Some-small_numbers.s in
    let first : quad_of s ≡ det (quad_ops d) v (vector_of small.g) = subst (λ (n : ℕ). quad_of s ≡ det (quad_ops n) v (vector_of small.g)) c.number.ensures.number c.in-Some-small_numbers.ensures.first in
    c.wide.ensures ∙ first ∙ own.first v

pub returns-in-Some-small_numbers-clause-second : goal.returns-in-Some-small_numbers-clause-second
returns-in-Some-small_numbers-clause-second c =
    let d : ℕ = c.args.f.now in
    let frame = c.args.frame.now in
    let v : Vector Quad = vector c.args.v.now in
    let small : SmallFrame = c.in-Some.small in
    let own : IsSmallFrame d frame (pos 1) small = subst (λ (o : Option SmallFrame). IfSome o (IsSmallFrame d frame (pos 1))) c.in-Some.is c.requires.small in
    let t = c.in-Some-small_numbers.t in
    let second : quad_of t ≡ det (quad_ops d) (vector_of small.e) v = subst (λ (n : ℕ). quad_of t ≡ det (quad_ops n) (vector_of small.e) v) c.number.ensures.number c.in-Some-small_numbers.ensures.second in
    c.wide-in-Some-small_numbers.ensures ∙ second ∙ own.second v
