-- Half-edges made of numbers, and what a code lists.
use Rattle.std.proofs.Common.{◌≡◌, ℕ, zero, suc, ◌+◌, ◌*◌, ◌/◌, ◌%◌, ◌<◌, List, [], ◌∷◌, ◌++◌, length, refl, sym, ap, ◌∙◌, subst, arith}
use Rattle.std.specs.Prelude.{ℤ, pos, unsigned_abs, map}
use Rattle.std.specs.List.{range_with_len}
use Rattle.std.proofs.lemmas.List.FromFn.{map-range_with_len_more, length-map-range_with_len, get_or-map-range_with_len}
use Rattle.quad_field.specs.declared.quad.Quad.{Quad}
use Rattle.plane.specs.declared.vec2.Vec2.{Vec2}
use Rattle.plane.specs.Vectors.{Vector, vector}
use Rattle.tri_core.specs.declared.half.Half.{Half}
use Rattle.tri_core.specs.HalfEdges.{half_at, no_half, vector_at, twin_at}
use Rattle.tri_core.specs.Triangulation.{IsTriangulation}
use Rattle.canon_code.specs.Codes.{IsCode}
use Rattle.canon_code.specs.Canonical.{number_at, side_from, half_of, canonical_half, canonical, PairFits, ThirdVectorsFit}
use Rattle.canon_code.specs.Refusals.{HasSerialLength}
use Rattle.canon_code.specs.Listing.{IsTwinNumber, HasTwins, HasThird, with_triangle}
use Rattle.canon_code.proofs.Rows.{length-rows}
use Rattle.canon_code.proofs.Canonical.{in_code}

-- a half-edge by its triangle and its side
pub half_by : (numbers : List ℤ) (k t j : ℕ) → k / 3 ≡ t → k % 3 ≡ j → canonical_half 0 numbers k ≡ half_of (side_from 0 numbers (2 + 11 * t) j) (unsigned_abs (number_at numbers (2 + 11 * t + (8 + j))))
half_by numbers k t j e f i = half_of (side_from 0 numbers (2 + 11 * e i) (f i)) (unsigned_abs (number_at numbers (2 + 11 * e i + (8 + f i))))

-- a half-edge by its parts
pub made : (v : Vec2) (a b : ℕ) (w : Vector Quad) → vector v ≡ w → a ≡ b → (let half : Half = record { vec = v; twin = a } in half) ≡ half_of w b
made v a b w e f i = record { vec = record { s = (e i).0; t = (e i).1 }; twin = f i }

-- one triangle more
pub triangle_more : (numbers : List ℤ) (t : ℕ) (halves : List Half) → halves ≡ map (canonical_half 0 numbers) (range_with_len 0 (3 * t))
    → with_triangle numbers halves t ≡ map (canonical_half 0 numbers) (range_with_len 0 (3 * (t + 1)))
triangle_more numbers t halves is =
    let f : ℕ → Half = canonical_half 0 numbers in
    let last : 3 * t + 1 + 1 + 1 ≡ 3 * (t + 1) = omega arith in
    ap (λ (l : List Half). with_triangle numbers l t) is
    ∙ ap (λ (l : List Half). (l ++ f (3 * t + 1) ∷ []) ++ f (3 * t + 2) ∷ []) (sym (map-range_with_len_more f 0 (3 * t) (3 * t) (omega arith)))
    ∙ ap (λ (l : List Half). l ++ f (3 * t + 2) ∷ []) (sym (map-range_with_len_more f 0 (3 * t + 1) (3 * t + 1) (omega arith)))
    ∙ sym (map-range_with_len_more f 0 (3 * t + 1 + 1) (3 * t + 2) (omega arith))
    ∙ ap (λ n. map f (range_with_len 0 n)) last

-- the half-edges of a triangle appended one by one
pub three_pushed : (numbers : List ℤ) (t : ℕ) (halves one two three : List Half) (x y z : Half) → x ≡ canonical_half 0 numbers (3 * t) → y ≡ canonical_half 0 numbers (3 * t + 1) → z ≡ canonical_half 0 numbers (3 * t + 2)
    → one ≡ halves ++ x ∷ [] → two ≡ one ++ y ∷ [] → three ≡ two ++ z ∷ [] → three ≡ with_triangle numbers halves t
three_pushed numbers t halves one two three x y z p q r e f g =
    g ∙ ap (λ (l : List Half). l ++ z ∷ []) (f ∙ ap (λ (l : List Half). l ++ y ∷ []) e)
    ∙ λ i. ((halves ++ p i ∷ []) ++ q i ∷ []) ++ r i ∷ []

-- sides, half-edges and canonical triangulations are the same over every field
side_same : (d : ℕ) (code : List ℤ) (i j : ℕ) → side_from 0 code i j ≡ side_from d code i j
side_same d code i zero = refl
side_same d code i (suc zero) = refl
side_same d code i (suc (suc j)) = refl

pub canonical_same : (d : ℕ) (code : List ℤ) → canonical 0 code ≡ canonical d code
canonical_same d code i =
    map (λ k. half_of (side_same d code (2 + 11 * (k / 3)) (k % 3) i) (unsigned_abs (number_at code (2 + 11 * (k / 3) + (8 + k % 3))))) (range_with_len 0 (3 * unsigned_abs (number_at code 0)))

-- half-edge k of the canonical triangulation
pub canonical_at : (d : ℕ) (code : List ℤ) (k : ℕ) → k < length (canonical d code) → half_at (canonical d code) k ≡ canonical_half d code k
canonical_at d code k less =
    get_or-map-range_with_len (canonical_half d code) 0 (3 * unsigned_abs (number_at code 0)) k k no_half (omega (arith, less, length-map-range_with_len (canonical_half d code) 0 (3 * unsigned_abs (number_at code 0)))) (omega arith)

pub canonical_count : (d : ℕ) (code : List ℤ) → length (canonical d code) ≡ 3 * unsigned_abs (number_at code 0)
canonical_count d code = length-map-range_with_len (canonical_half d code) 0 (3 * unsigned_abs (number_at code 0))

-- a third vector that fits in the canonical triangulation
pub third_listed : (d : ℕ) (code : List ℤ) (t : ℕ) → t < unsigned_abs (number_at code 0) → ThirdVectorsFit d code → HasThird code t
third_listed d code t less fit =
    let inside : 3 * t + 2 < length (canonical d code) = omega (arith, canonical_count d code, less) in
    let is : vector_at (canonical d code) (3 * t + 2) ≡ side_from 0 code (2 + 11 * t) 2 =
    ap (λ (x : Half). let v : Vector Quad = (x.vec.s, x.vec.t) in v)
    (canonical_at d code (3 * t + 2) inside ∙ sym (λ i. half_of (side_same d code (2 + 11 * ((3 * t + 2) / 3)) ((3 * t + 2) % 3) i) (unsigned_abs (number_at code (2 + 11 * ((3 * t + 2) / 3) + (8 + (3 * t + 2) % 3)))))
    ∙ half_by code (3 * t + 2) t 2 (omega arith) (omega arith)) in
    subst PairFits is (fit t inside)

-- ---- what a code lists
module _ (d : ℕ) (halves : List Half) (code : List ℤ) (valid : IsTriangulation d halves) (own : IsCode d halves code) where
  first_number : number_at code 0 ≡ pos (length halves / 3)
  first_number = ap (λ (l : List ℤ). number_at l 0) own.serial.numbers

  -- it has the length of a serial
  pub code_long : HasSerialLength code
  code_long = record {
    triangles = length halves / 3;
    first = first_number;
    some = omega (arith, valid.count.1);
    few = omega (arith, valid.count.2);
    count = ap length own.serial.numbers ∙ omega (arith, length-rows own.serial.written (λ k. own.serial.number (twin_at halves (own.serial.place k))) (length halves / 3));
  }

  -- the numbers of twins are natural and small
  pub code_twins : (t : ℕ) → t < unsigned_abs (number_at code 0) → HasTwins code t
  code_twins t less =
      let inside : t < length halves / 3 = subst (λ (n : ℕ). t < n) (ap unsigned_abs first_number) less in
      record {
        first = twin 8 (3 * t) (omega arith) (omega (arith, inside)) (in_code own.serial.written says (length halves / 3) own.serial.scale code own.serial.numbers t 8 inside (omega arith));
        second = twin 9 (3 * t + 1) (omega arith) (omega (arith, inside)) (in_code own.serial.written says (length halves / 3) own.serial.scale code own.serial.numbers t 9 inside (omega arith));
        third = twin 10 (3 * t + 2) (omega arith) (omega (arith, inside)) (in_code own.serial.written says (length halves / 3) own.serial.scale code own.serial.numbers t 10 inside (omega arith));
      }
    where
      says : ℕ → ℕ
      says k = own.serial.number (twin_at halves (own.serial.place k))

      twin : (i k : ℕ) → i < 11 → k < length halves → number_at code (2 + 11 * t + i) ≡ pos (says k) → IsTwinNumber (number_at code (2 + 11 * t + i))
      twin i k small below e =
          let n = own.serial.numbering in
          let least : says k < length halves = n.each_once.back_inside (twin_at halves (own.serial.place k)) (valid.paired (own.serial.place k) (n.each_once.forth_inside k below)).0 in
          (says k, e, omega (arith, least, valid.count.2))
