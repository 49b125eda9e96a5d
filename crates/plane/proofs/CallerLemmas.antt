-- What the crates above cite: lemmas on the spellings of numbers and vectors, and on matrices, about public definitions alone.
use Rattle.std.proofs.Common.{◌≡◌, ◌≢◌, ℕ, zero, suc, ◌+◌, ◌<◌, ◌≤◌, ℤ, pos, negsuc, List, [], ◌∷◌, ◌++◌, length, arith}
use Rattle.std.specs.List.{AllByRecursion}
use Rattle.std.specs.Char.{digit_value}
use Rattle.std.specs.Str.Parse.{AllDigits}
use Rattle.quad_field.specs.declared.quad.Quad.{Quad}
use Rattle.plane.specs.declared.vec2.Vec2.{Vec2}
use Rattle.plane.specs.Spelling.{natural_text, whole_text, root_text, quad_text, vector_text}
use Rattle.plane.proofs.Naturals as naturals
-- one value for one spelling
pub use Rattle.plane.proofs.Naturals.{natural_text_injective}
pub use Rattle.plane.proofs.Wholes.{whole_injective, root_injective}
pub use Rattle.plane.proofs.Quads.{quad_injective}
pub use Rattle.plane.proofs.Vectors.{vector_injective}
-- one matrix in lowest terms for one value, and the identity is one
pub use Rattle.plane.proofs.LowestTerms.{one_value, identity_lowest}
-- what a matrix is reduced to has its value
pub use Rattle.plane.proofs.LowestTerms.{reduced_value}
-- having one value is an equivalence
pub use Rattle.plane.proofs.MatrixGroup.{same_self, same_back, same_on}
-- products respect it, are associative, and have the identity as their unit
pub use Rattle.plane.proofs.MatrixGroup.{product_some, same_times, times_assoc, one_times, times_one}
-- quotients by an inverse, and that there is one inverse only
pub use Rattle.plane.proofs.MatrixGroup.{quotient_is, cancel_right, inverse_same, one_inverse}
-- multiples by whole numbers as those of the ring, and the inverse by the adjugate
pub use Rattle.plane.proofs.MatrixGroup.{scaled_rows, inverse_rows, adjugate_inverse}
-- determinants of products, and of matrices of one value
pub use Rattle.plane.proofs.Determinants.{det_of, times_det, same_det}
-- what has a positive determinant: what has its value, the identity, products, factors, inverses and quotients
pub use Rattle.plane.proofs.Determinants.{same_positive, identity_positive, times_positive, first_positive, inverse_positive, quotient_positive, has_inverse}
-- and what has one other than zero
pub use Rattle.plane.proofs.Determinants.{positive_some, same_not_zero, identity_not_zero, times_not_zero, first_not_zero, second_not_zero, inverse_not_zero, quotient_not_zero}
-- the identities of matrices over every commutative ring that these rest on
pub use Rattle.plane.proofs.MatrixRing.{unit_matrix, scaled_adjugate, opposite_matrix, matrix_is, product_assoc, unit_product, product_unit, product_multiples, unit_det, adjugate_product, product_adjugate}
-- the cofactors of two whole numbers, and what they divide
pub use Rattle.plane.proofs.Cofactors.{Cofactors, cofactors, parts}

-- the bytes of a natural number are digits, at least one
pub natural_text_digits : (n : ℕ) → AllDigits 10 (natural_text n)
natural_text_digits n = let is = naturals.natural_text_is n in is.digits

pub natural_text_some : (n : ℕ) → 0 < length (natural_text n)
natural_text_some n = naturals.natural_text_some n

-- the byte of a digit
pub glyph_of_value : (c : ℕ) → digit_value c < 10 → 48 + digit_value c ≡ c
glyph_of_value c low = naturals.glyph_of_value c low

-- every byte is one of those from `+` to `z`
abbrev pub AreHigh : List ℕ → Type 0
AreHigh bytes = AllByRecursion (λ byte. (43 ≤ byte) × (byte ≤ 122)) bytes

high_both : (xs ys : List ℕ) → AreHigh xs → AreHigh ys → AreHigh (xs ++ ys)
high_both [] ys left right = right
high_both (x ∷ xs) ys left right = (left.0, high_both xs ys left.1 right)

high_digit : (c : ℕ) → digit_value c < 10 → (43 ≤ c) × (c ≤ 122)
high_digit c low = let same : 48 + digit_value c ≡ c = glyph_of_value c low in (omega arith, omega arith)

high_digits : (cs : List ℕ) → AllDigits 10 cs → AreHigh cs
high_digits [] all = tt
high_digits (c ∷ cs) all = (high_digit c all.0, high_digits cs all.1)

high_one : (byte : ℕ) (bytes : List ℕ) → 43 ≤ byte → byte ≤ 122 → AreHigh bytes → AreHigh (byte ∷ bytes)
high_one byte bytes low high rest = ((low, high), rest)

-- so are those of all numbers and vectors
pub natural_text_high : (n : ℕ) → AreHigh (natural_text n)
natural_text_high n = high_digits (natural_text n) (natural_text_digits n)

pub whole_text_high : (n : ℤ) → AreHigh (whole_text n)
whole_text_high (pos n) = natural_text_high n
whole_text_high (negsuc n) = high_one 45 (natural_text (suc n)) (omega arith) (omega arith) (natural_text_high (suc n))

pub root_text_high : (n : ℤ) → AreHigh (root_text n)
root_text_high (pos zero) = tt
root_text_high (pos (suc n)) =
    high_one 43 (natural_text (suc n) ++ 114 ∷ []) (omega arith) (omega arith)
    (high_both (natural_text (suc n)) (114 ∷ []) (natural_text_high (suc n)) (high_one 114 [] (omega arith) (omega arith) tt))
root_text_high (negsuc n) =
    high_one 45 (natural_text (suc n) ++ 114 ∷ []) (omega arith) (omega arith)
    (high_both (natural_text (suc n)) (114 ∷ []) (natural_text_high (suc n)) (high_one 114 [] (omega arith) (omega arith) tt))

pub quad_text_high : (x : Quad) → AreHigh (quad_text x)
quad_text_high x = high_both (whole_text x.a) (root_text x.b) (whole_text_high x.a) (root_text_high x.b)

pub vector_text_high : (v : Vec2) → AreHigh (vector_text v)
vector_text_high v =
    high_both (quad_text v.s ++ 44 ∷ []) (quad_text v.t)
    (high_both (quad_text v.s) (44 ∷ []) (quad_text_high v.s) (high_one 44 [] (omega arith) (omega arith) tt)) (quad_text_high v.t)

-- bytes that lack a lower one, such as the space
pub high_lacks : (stop : ℕ) (bytes : List ℕ) → stop < 43 → AreHigh bytes → AllByRecursion (λ byte. byte ≢ stop) bytes
high_lacks stop [] low high = tt
high_lacks stop (b ∷ bytes) low high = (λ e. let one = high.0 in omega (arith, one.0), high_lacks stop bytes low high.1)

-- no spelling has a space
pub natural_text_no_space : (n : ℕ) → AllByRecursion (λ byte. byte ≢ 32) (natural_text n)
natural_text_no_space n = high_lacks 32 (natural_text n) (omega arith) (natural_text_high n)

pub whole_text_no_space : (n : ℤ) → AllByRecursion (λ byte. byte ≢ 32) (whole_text n)
whole_text_no_space n = high_lacks 32 (whole_text n) (omega arith) (whole_text_high n)

pub quad_text_no_space : (x : Quad) → AllByRecursion (λ byte. byte ≢ 32) (quad_text x)
quad_text_no_space x = high_lacks 32 (quad_text x) (omega arith) (quad_text_high x)

pub vector_text_no_space : (v : Vec2) → AllByRecursion (λ byte. byte ≢ 32) (vector_text v)
vector_text_no_space v = high_lacks 32 (vector_text v) (omega arith) (vector_text_high v)
