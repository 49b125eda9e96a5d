-- A triple as the list of its three parts.
use Rattle.std.proofs.Common.{◌≡◌, ℕ, List, [], ◌∷◌, length, get_or, arith, ap}
use Rattle.std.specs.Prelude.{pos, map, All}
use Rattle.quad_field.specs.declared.quad.Quad.{Quad}
use Rattle.quad_field.specs.Content.{IsPrimitive}
use Rattle.quad_field.specs.Quads.{quad, scaled, IsZero}
use Rattle.hinge_form.specs.Triples.{Triple, zeros, IsReduced}

-- a triple that isn't zero has a part that isn't
pub not_all_zero : (l : Triple) → ¬ (l ≡ zeros) → ¬ (All IsZero (l.0 ∷ l.1 ∷ l.2 ∷ []))
not_all_zero l some all =
    let part : (x : Quad) → IsZero x → x ≡ quad (pos 0) (pos 0) = λ x z i. quad (z.0 i) (z.1 i) in
    let x = part l.0 (all 0 l.0 (omega arith)) in
    let y = part l.1 (all 1 l.1 (omega arith)) in
    let z = part l.2 (all 2 l.2 (omega arith)) in
    some (λ i. (x i, y i, z i))

-- what is left of the three parts is the reduced triple
pub parts_reduced : (l : Triple) (g : ℕ) (xs : List Quad) (e : Quad) → (l.0 ∷ l.1 ∷ l.2 ∷ []) ≡ map (scaled (pos g)) xs → IsPrimitive xs
    → IsReduced l (get_or xs 0 e, get_or xs 1 e, get_or xs 2 e)
parts_reduced l g [] e same primitive = absurd (omega (arith, ap length same))
parts_reduced l g (x ∷ []) e same primitive = absurd (omega (arith, ap length same))
parts_reduced l g (x ∷ y ∷ []) e same primitive = absurd (omega (arith, ap length same))
parts_reduced l g (x ∷ y ∷ z ∷ []) e same primitive = record {
  divisor = g;
  taken_out = λ i. (get_or (same i) 0 e, get_or (same i) 1 e, get_or (same i) 2 e);
  reduced = primitive;
}
parts_reduced l g (x ∷ y ∷ z ∷ w ∷ more) e same primitive = absurd (omega (arith, ap length same))
