-- A triple that isn't zero has a greatest common divisor, which can be taken out: so every hinge triple is there.
use Rattle.std.proofs.Common.{◌≡◌, ℕ, zero, suc, ◌%◌, ◌<◌, ◌≤◌, List, [], ◌∷◌, length, refl, arith}
use Rattle.std.specs.Prelude.{ℤ, pos, unsigned_abs}
use Rattle.std.specs.Int.{IsGcd}
use Rattle.std.specs.Int.RustNames.{int_div}
use Prim.Native.Nat.{◌∣◌}
use Rattle.std.proofs.lemmas.Int.{ints}
use Rattle.std.proofs.lemmas.Nat.Gcd.{IsGcd-from_mod, IsGcd-from_zero, dvd_trans, dvd-zero, dvd_antisymm}
use Rattle.quad_field.specs.declared.quad.Quad.{Quad}
use Rattle.quad_field.specs.FieldNumber.{IsFieldNumber}
use Rattle.quad_field.specs.Quads.{quad, scaled}
use Rattle.quad_field.specs.Content.{DividesParts, DividesAll}
use Rattle.quad_field.proofs.CallerLemmas.{exact_quotient, primitive_left}
use Rattle.tri_core.specs.declared.half.Half.{Half}
use Rattle.tri_core.specs.Triangulation.{IsTriangulation}
use Rattle.hinge_form.specs.Triples.{Triple, zeros, IsReduced}
use Rattle.hinge_form.specs.Hinges.{full_triple, IsHingeTriple}
use Rattle.hinge_form.proofs.CallerLemmas.{full_some}

-- Euclid's greatest common divisor
gcd_of : (fuel a b : ℕ) → b ≤ fuel → (g : ℕ) × IsGcd a b g
gcd_of fuel a zero enough = (a, IsGcd-from_zero a 0 refl)
gcd_of zero a (suc b) enough = absurd (omega arith)
gcd_of (suc fuel) a (suc b) enough =
    let next = gcd_of fuel (suc b) (a % suc b) (omega arith) in
    (next.0, IsGcd-from_mod a (suc b) next.0 next.1)

-- g divides the parts of a list, and whatever divides them divides g
record IsContent (xs : List Quad) (g : ℕ) : Type 0 where
  divides : DividesAll g xs
  greatest : (k : ℕ) → DividesAll k xs → k ∣ g

content_of : (xs : List Quad) → (g : ℕ) × IsContent xs g
content_of [] = (0, record { divides = λ i e less. absurd (omega arith); greatest = λ k all. dvd-zero k })
content_of (x ∷ xs) =
    let rest = content_of xs in
    let parts = gcd_of (unsigned_abs x.b) (unsigned_abs x.a) (unsigned_abs x.b) (omega arith) in
    let all = gcd_of rest.0 parts.0 rest.0 (omega arith) in (
      all.0,
      record {
        divides = more all.0 x xs (dvd_trans all.0 all.1.0 parts.1.0, dvd_trans all.0 all.1.0 parts.1.1) (λ i e less. let both = rest.1.divides i e less in (dvd_trans all.0 all.1.1 both.0, dvd_trans all.0 all.1.1 both.1));
        greatest = λ k divides.
            let here : DividesParts k x = divides 0 x (omega arith) in
            all.1.2 k (parts.1.2 k here.0 here.1) (rest.1.greatest k (λ i e less. divides (suc i) e (omega arith)));
      },
    )
  where
    more : (k : ℕ) (x : Quad) (xs : List Quad) → DividesParts k x → DividesAll k xs → DividesAll k (x ∷ xs)
    more k x xs here rest zero e less = here
    more k x xs here rest (suc i) e less = rest i e (omega arith)

-- the parts divided by g
abbrev quotient : ℕ → Quad → Quad
quotient g x = quad (int_div x.a (pos g)) (int_div x.b (pos g))

divided : (g : ℕ) (x : Quad) → DividesParts g x → x ≡ scaled (pos g) (quotient g x)
divided g x all i = quad (exact_quotient x.a (pos g) all.0 i) (exact_quotient x.b (pos g) all.1 i)

-- what 0 divides is zero
zero_divides : (x : Quad) → DividesParts 0 x → x ≡ quad (pos 0) (pos 0)
zero_divides x all i = quad (part x.a all.0 i) (part x.b all.1 i)
  where
    part : (n : ℤ) → 0 ∣ unsigned_abs n → n ≡ pos 0
    part n h = let e : 0 ≡ unsigned_abs n = dvd_antisymm h (dvd-zero (unsigned_abs n)) in omega (arith, ints)

-- a triple that isn't zero, reduced
some_reduced : (l : Triple) → ¬ (l ≡ zeros) → (m : Triple) × IsReduced l m
some_reduced l some = go (content_of (l.0 ∷ l.1 ∷ l.2 ∷ []))
  where
    go : (g : ℕ) × IsContent (l.0 ∷ l.1 ∷ l.2 ∷ []) g → (m : Triple) × IsReduced l m
    go (zero, content) =
        let all = content.divides in
        absurd (some (λ i. (zero_divides l.0 (all 0 l.0 (omega arith)) i, zero_divides l.1 (all 1 l.1 (omega arith)) i, zero_divides l.2 (all 2 l.2 (omega arith)) i)))
    go (suc n, content) =
        let g : ℕ = suc n in
        let all = content.divides in
        let first = divided g l.0 (all 0 l.0 (omega arith)) in
        let second = divided g l.1 (all 1 l.1 (omega arith)) in
        let third = divided g l.2 (all 2 l.2 (omega arith)) in (
          (quotient g l.0, quotient g l.1, quotient g l.2),
          record {
            divisor = g;
            taken_out = λ i. (first i, second i, third i);
            reduced =
                primitive_left g (l.0 ∷ l.1 ∷ l.2 ∷ []) (quotient g l.0 ∷ quotient g l.1 ∷ quotient g l.2 ∷ []) (omega arith) content.greatest
                (λ i. first i ∷ second i ∷ third i ∷ []);
          },
        )

-- an edge has a hinge triple
pub some_triple : (d : ℕ) → IsFieldNumber d → (halves : List Half) → IsTriangulation d halves → (h : ℕ) → h < length halves → (l : Triple) × IsHingeTriple d halves h l
some_triple d field halves valid h below = some_reduced (full_triple d halves h) (full_some d halves h valid below field)
