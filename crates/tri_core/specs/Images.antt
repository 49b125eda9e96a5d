-- Images of triangulations by a matrix over K, and classes. A matrix over K is n/m: a matrix n of K-integers over a whole number m above zero.
use Rattle.std.specs.Prelude.{◌≡◌, ℕ, pos, ◌<◌, List, length}
use Rattle.rings.specs.Ring.{Ops}
use Rattle.rings.specs.Vectors.{multiple_vector}
use Rattle.rings.specs.Matrices.{Matrix, mapped, matrix_det}
use Rattle.quad_field.specs.Quads.{quad_ops, IsPositive}
use Rattle.quad_field.specs.declared.quad.Quad.{Quad}
use Rattle.tri_core.specs.declared.half.Half.{Half}
use Rattle.tri_core.specs.HalfEdges.{vector_at, twin_at, next_of}

-- a bijection of the numbers below n, and the way back
pub record AreInverse (n : ℕ) (forth back : ℕ → ℕ) : Type 0 where
  pub forth_inside : (k : ℕ) → k < n → forth k < n
  pub back_inside : (k : ℕ) → k < n → back k < n
  pub back_forth : (k : ℕ) → k < n → back (forth k) ≡ k
  pub forth_back : (k : ℕ) → k < n → forth (back k) ≡ k

-- `to` is the image of `from` by n/m, half-edge by half-edge: a bijection keeps next and twin, and carries each vector v to n/m·v
pub record IsImage (d : ℕ) (n : Matrix Quad) (m : ℕ) (from to : List Half) (forth back : ℕ → ℕ) : Type 0 where
  pub denominator : 0 < m
  pub count : length to ≡ length from
  pub each_once : AreInverse (length from) forth back
  pub next : (k : ℕ) → k < length from → forth (next_of k) ≡ next_of (forth k)
  pub twin : (k : ℕ) → k < length from → forth (twin_at from k) ≡ twin_at to (forth k)
  pub vectors : (k : ℕ) → k < length from
      → multiple_vector (quad_ops d) ((quad_ops d).int (pos m)) (vector_at to (forth k)) ≡ mapped (quad_ops d) n (vector_at from k)

-- `to` is the image of `from` by n/m
abbrev pub IsImageBy : ℕ → Matrix Quad → ℕ → List Half → List Half → Type 0
IsImageBy d n m from to = (forth : ℕ → ℕ) × (back : ℕ → ℕ) × IsImage d n m from to forth back

-- two triangulations are of one class: one is the image of the other by a matrix of positive determinant
abbrev pub AreOfOneClass : ℕ → List Half → List Half → Type 0
AreOfOneClass d from to = (n : Matrix Quad) × (m : ℕ) × IsPositive d (matrix_det (quad_ops d) n) × IsImageBy d n m from to

-- (1, 0; 0, 1)
abbrev pub identity_matrix : {R : Type 0} → Ops R → Matrix R
identity_matrix O = (O.int (pos 1), O.int (pos 0), O.int (pos 0), O.int (pos 1))

-- two triangulations are translation-equal: one is the image of the other by the identity
abbrev pub AreTranslationEqual : ℕ → List Half → List Half → Type 0
AreTranslationEqual d from to = IsImageBy d (identity_matrix (quad_ops d)) 1 from to

-- n/m takes the frame of half-edge h, which is its vector and the next one's, to the frame of half-edge k
abbrev pub CarriesFrame : ℕ → Matrix Quad → ℕ → List Half → ℕ → List Half → ℕ → Type 0
CarriesFrame d n m from h to k =
    let O = quad_ops d in
    (multiple_vector O (O.int (pos m)) (vector_at to k) ≡ mapped O n (vector_at from h))
    × (multiple_vector O (O.int (pos m)) (vector_at to (next_of k)) ≡ mapped O n (vector_at from (next_of h)))
