-- The canonical triangulation of a serial is a triangulation, and its image by the frame is the one that the serial is of.
use Rattle.std.proofs.Common.{◌≡◌, ℕ, zero, suc, ◌+◌, ◌*◌, ◌/◌, ◌%◌, ◌-◌, ◌<◌, ◌≤◌, IsTrue, List, ◌∷◌, length, get_or, sym, ap, ◌∙◌, subst, inl, inr, arith}
use Rattle.std.specs.Prelude.{ℤ, pos, unsigned_abs}
use mathlib.Core.Path.{ap₂}
use Rattle.std.proofs.lemmas.Bool.{cases_eq, cases_lt}
use Rattle.std.proofs.lemmas.List.{get_or_append_left, get_or-append_right}
use Rattle.std.proofs.lemmas.List.FromFn.{length-map-range_with_len, get_or-map-range_with_len}
use Rattle.quad_field.specs.declared.quad.Quad.{Quad}
use Rattle.quad_field.specs.FieldNumber.{IsFieldNumber}
use Rattle.quad_field.specs.Quads.{quad_ops, IsPositive}
use Rattle.quad_field.proofs.CallerLemmas.{quad_ring, order_of, natural_positive}
use Rattle.plane.specs.Vectors.{Vector, det, vector_sum, opposite_vector}
use Rattle.tri_core.specs.declared.half.Half.{Half}
use Rattle.tri_core.specs.HalfEdges.{half_at, no_half, vector_at, twin_at, next_of, triangle_of}
use Rattle.tri_core.specs.Triangulation.{IsTriangulation, IsPaired, IsJoined}
use Rattle.rings.specs.Vectors.{multiple_vector}
use Rattle.rings.specs.Matrices.{mapped}
use Rattle.tri_core.specs.Images.{AreInverse, IsImage}
use Rattle.canon_code.specs.Serials.{IsWritten, row, rows, IsSerial}
use Rattle.canon_code.specs.Canonical.{number_at, vector_from, side_from, canonical_half, canonical, scale_of, frame}
use Rattle.canon_code.proofs.Frames.{written_maps, written_once, written_det, written_opposite, sum_opposite}
use Rattle.canon_code.proofs.Rows.{length-rows}
use Rattle.canon_code.proofs.Serials.{turn_at, thrice, serial_carried_back}
use Rattle.canon_code.proofs.Reconstructed.{written_third_at, next_number}
use Rattle.tri_core.proofs.CallerLemmas.{joined_from}
use Rattle.rings.proofs.Ordered.{factor}

-- number i of triangle t stands at place 11t + i of the rows
pub row_at : (w : ℕ → Vector Quad) (f : ℕ → ℕ) (n t i : ℕ) → t < n → i < 11 → get_or (rows w f n) (11 * t + i) (pos 0) ≡ get_or (row w f t) i (pos 0)
row_at w f zero t i less small = absurd (omega (arith, less))
row_at w f (suc n) t i less small =
    elim (cases_lt t n) [
      | inl below ↦
          get_or_append_left (rows w f n) (row w f n) (pos 0) (11 * t + i) (omega (arith, length-rows w f n, below, small)) ∙ row_at w f n t i below small
      | inr above ↦
          let same : t ≡ n = omega arith in
          let place : 11 * t + i - 11 * n ≡ i = omega (arith, same) in
          get_or-append_right (rows w f n) (row w f n) (11 * n) (11 * t + i) (pos 0) (length-rows w f n) (omega (arith, same))
          ∙ ap (λ k. get_or (row w f n) k (pos 0)) place ∙ ap (λ k. get_or (row w f k) i (pos 0)) (sym same)
    ]

-- two numbers further
pub two_further : (a b : ℤ) (xs : List ℤ) (i : ℕ) → get_or (a ∷ b ∷ xs) (2 + i) (pos 0) ≡ get_or xs i (pos 0)
two_further a b xs i = let e : 2 + i ≡ suc (suc i) = omega arith in ap (λ k. get_or (a ∷ b ∷ xs) k (pos 0)) e

module _ (w : ℕ → Vector Quad) (f : ℕ → ℕ) (n m : ℕ) (code : List ℤ) (is : code ≡ pos n ∷ pos m ∷ rows w f n) where
  -- number i of triangle t in the code
  pub in_code : (t i : ℕ) → t < n → i < 11 → number_at code (2 + 11 * t + i) ≡ get_or (row w f t) i (pos 0)
  in_code t i less small =
      let e : 2 + 11 * t + i ≡ 2 + (11 * t + i) = omega arith in
      ap (λ k. get_or code k (pos 0)) e ∙ ap (λ c. get_or c (2 + (11 * t + i)) (pos 0)) is ∙ two_further (pos n) (pos m) (rows w f n) (11 * t + i) ∙ row_at w f n t i less small

  in_code_zero : (t : ℕ) → t < n → number_at code (2 + 11 * t) ≡ get_or (row w f t) 0 (pos 0)
  in_code_zero t less = let e : 2 + 11 * t ≡ 2 + 11 * t + 0 = omega arith in ap (λ k. get_or code k (pos 0)) e ∙ in_code t 0 less (omega arith)

  in_code_next : (t i j : ℕ) → t < n → i + j < 11 → number_at code (2 + 11 * t + i + j) ≡ get_or (row w f t) (i + j) (pos 0)
  in_code_next t i j less small = let e : 2 + 11 * t + i + j ≡ 2 + 11 * t + (i + j) = omega arith in ap (λ k. get_or code k (pos 0)) e ∙ in_code t (i + j) less small

  vectors_equal : (u v : Vector Quad) → u.0.a ≡ v.0.a → u.0.b ≡ v.0.b → u.1.a ≡ v.1.a → u.1.b ≡ v.1.b → u ≡ v
  vectors_equal u v p q r s i = (record { a = p i; b = q i }, record { a = r i; b = s i })

  first_vector : (t : ℕ) → t < n → vector_from code (2 + 11 * t) ≡ w (3 * t)
  first_vector t less =
      vectors_equal (vector_from code (2 + 11 * t)) (w (3 * t)) (in_code_zero t less) (in_code t 1 less (omega arith)) (in_code t 2 less (omega arith)) (in_code t 3 less (omega arith))

  second_vector : (t : ℕ) → t < n → vector_from code (2 + 11 * t + 4) ≡ w (3 * t + 1)
  second_vector t less =
      vectors_equal (vector_from code (2 + 11 * t + 4)) (w (3 * t + 1)) (in_code t 4 less (omega arith)) (in_code_next t 4 1 less (omega arith)) (in_code_next t 4 2 less (omega arith)) (in_code_next t 4 3 less (omega arith))

  twin_number : (t j : ℕ) → t < n → j < 3 → unsigned_abs (number_at code (2 + 11 * t + (8 + j))) ≡ f (3 * t + j)
  twin_number t zero less small =
      let e : 3 * t ≡ 3 * t + 0 = omega arith in ap unsigned_abs (in_code t 8 less (omega arith)) ∙ ap f e
  twin_number t (suc zero) less small = ap unsigned_abs (in_code t 9 less (omega arith))
  twin_number t (suc (suc zero)) less small = ap unsigned_abs (in_code t 10 less (omega arith))
  twin_number t (suc (suc (suc j))) less small = absurd (omega (arith, small))

module _ (d : ℕ) (field : IsFieldNumber d) (halves : List Half) (h : ℕ) (code : List ℤ) (valid : IsTriangulation d halves) (below : h < length halves) (own : IsSerial d halves h code) where
  -- what the code says of the twin of half-edge k
  abbrev twin_says : ℕ → ℕ
  twin_says k = own.number (twin_at halves (own.place k))

  count_is : unsigned_abs (number_at code 0) ≡ length halves / 3
  count_is = ap (λ c. unsigned_abs (number_at c 0)) own.numbers

  pub scale_is : scale_of code ≡ own.scale
  scale_is = ap (λ c. unsigned_abs (number_at c 1)) own.numbers

  all_numbers : 3 * unsigned_abs (number_at code 0) ≡ length halves
  all_numbers = ap (λ n. 3 * n) count_is ∙ thrice (length halves) valid.count.0

  pub as_many : length (canonical d code) ≡ length halves
  as_many = length-map-range_with_len (canonical_half d code) 0 (3 * unsigned_abs (number_at code 0)) ∙ all_numbers

  half_is : (k : ℕ) → k < length halves → half_at (canonical d code) k ≡ canonical_half d code k
  half_is k less =
      get_or-map-range_with_len (canonical_half d code) 0 (3 * unsigned_abs (number_at code 0)) k k no_half (omega (arith, all_numbers, less)) (omega arith)

  -- the vector of half-edge k is what is written
  pub vector_is : (k : ℕ) → k < length halves → vector_at (canonical d code) k ≡ own.written k
  vector_is k less = ap (λ (x : Half). let v : Vector Quad = (x.vec.s, x.vec.t) in v) (half_is k less) ∙ go (k / 3) (k % 3) (omega (arith, valid.count.0)) (omega arith) (omega arith)
    where
      go : (t j : ℕ) → t < length halves / 3 → j < 3 → 3 * t + j ≡ k → side_from d code (2 + 11 * t) j ≡ own.written k
      go t zero inside small e =
          let f : 3 * t ≡ k = omega arith in
          first_vector own.written twin_says (length halves / 3) own.scale code own.numbers t inside ∙ ap own.written f
      go t (suc zero) inside small e = second_vector own.written twin_says (length halves / 3) own.scale code own.numbers t inside ∙ ap own.written e
      go t (suc (suc zero)) inside small e =
          ap₂ (λ u v. opposite_vector (quad_ops d) (vector_sum (quad_ops d) u v))
          (first_vector own.written twin_says (length halves / 3) own.scale code own.numbers t inside) (second_vector own.written twin_says (length halves / 3) own.scale code own.numbers t inside)
          ∙ sym (written_third_at d field halves h code valid below own t (omega (arith, e, less))) ∙ ap own.written e
      go t (suc (suc (suc j))) inside small e = absurd (omega (arith, small))

  -- and its twin what the code says
  pub twin_is : (k : ℕ) → k < length halves → twin_at (canonical d code) k ≡ own.number (twin_at halves (own.place k))
  twin_is k less =
      let e : 3 * (k / 3) + k % 3 ≡ k = omega arith in
      ap (λ (x : Half). x.twin) (half_is k less)
      ∙ twin_number own.written twin_says (length halves / 3) own.scale code own.numbers (k / 3) (k % 3) (omega (arith, valid.count.0)) (omega arith)
      ∙ ap twin_says e

  -- m·(vector of the place) = frame·(vector of the canonical triangulation)
  maps_at : (k : ℕ) → k < length halves → multiple_vector (quad_ops d) ((quad_ops d).int (pos own.scale)) (vector_at halves (own.place k)) ≡ mapped (quad_ops d) (frame halves h) (own.written k)
  maps_at k less =
      written_maps (quad_ops d) (quad_ring d) (order_of d field) ((quad_ops d).int (pos own.scale)) (vector_at halves h) (vector_at halves (next_of h)) (vector_at halves (own.place k)) (own.written k)
      (turn_at d field halves h valid below) (own.vectors k less)

  pub framed : IsImage d (frame halves h) own.scale (canonical d code) halves own.place own.number
  framed = record {
    denominator = own.least.0.0;
    count = sym as_many;
    each_once = subst (λ n. AreInverse n own.place own.number) (sym as_many) own.numbering.each_once;
    next = λ k less. own.numbering.next k (here k less);
    twin = λ k less.
        ap own.place (twin_is k (here k less))
        ∙ own.numbering.each_once.forth_back (twin_at halves (own.place k)) (valid.paired (own.place k) (own.numbering.each_once.forth_inside k (here k less))).0;
    vectors = λ k less. maps_at k (here k less) ∙ ap (mapped (quad_ops d) (frame halves h)) (sym (vector_is k (here k less)));
  }
    where
      here : (k : ℕ) → k < length (canonical d code) → k < length halves
      here k less = subst (λ n. k < n) as_many less

  first_inside : (t : ℕ) → 3 * t < length (canonical d code) → 3 * t + 2 < length halves
  first_inside t less = omega (arith, as_many, valid.count.0)

  closed_is : (t : ℕ) → 3 * t < length (canonical d code) → let O = quad_ops d in
      vector_sum O (vector_sum O (vector_at (canonical d code) (3 * t)) (vector_at (canonical d code) (3 * t + 1))) (vector_at (canonical d code) (3 * t + 2)) ≡ (O.int (pos 0), O.int (pos 0))
  closed_is t less =
      let in_third = first_inside t less in
      ap₂ (λ (u v : Vector Quad). vector_sum (quad_ops d) u v)
      (ap₂ (λ (u v : Vector Quad). vector_sum (quad_ops d) u v) (vector_is (3 * t) (omega (arith, in_third))) (vector_is (3 * t + 1) (omega (arith, in_third))))
      (vector_is (3 * t + 2) in_third ∙ written_third_at d field halves h code valid below own t in_third)
      ∙ sum_opposite (quad_ops d) (quad_ring d) (own.written (3 * t)) (own.written (3 * t + 1))

  turns_is : (t : ℕ) → 3 * t < length (canonical d code) → IsPositive d (det (quad_ops d) (vector_at (canonical d code) (3 * t)) (vector_at (canonical d code) (3 * t + 1)))
  turns_is t less =
      let in_third = first_inside t less in
      let one : 3 * t < length halves = omega (arith, in_third) in
      let two' : 3 * t + 1 < length halves = omega (arith, in_third) in
      subst (IsPositive d) (ap₂ (det (quad_ops d)) (sym (vector_is (3 * t) one)) (sym (vector_is (3 * t + 1) two')))
      (factor (quad_ops d) (quad_ring d) (order_of d field) (det (quad_ops d) (own.written (3 * t)) (own.written (3 * t + 1))) (det (quad_ops d) (vector_at halves h) (vector_at halves (next_of h)))
      (subst (IsPositive d)
      (written_det (quad_ops d) (quad_ring d) ((quad_ops d).int (pos own.scale)) (vector_at halves h) (vector_at halves (next_of h)) (vector_at halves (own.place (3 * t))) (vector_at halves (own.place (3 * t + 1)))
      (own.written (3 * t)) (own.written (3 * t + 1)) (maps_at (3 * t) one) (maps_at (3 * t + 1) two'))
      ((order_of d field).product _ _ ((order_of d field).product _ _ scale scale) (turned one)))
      (turn_at d field halves h valid below))
    where
      scale : IsPositive d ((quad_ops d).int (pos own.scale))
      scale = natural_positive d own.scale own.least.0.0

      turned : 3 * t < length halves → IsPositive d (det (quad_ops d) (vector_at halves (own.place (3 * t))) (vector_at halves (own.place (3 * t + 1))))
      turned one =
          let e : next_of (3 * t) ≡ 3 * t + 1 = omega arith in
          subst (λ p. IsPositive d (det (quad_ops d) (vector_at halves (own.place (3 * t))) (vector_at halves p))) (sym (own.numbering.next (3 * t) one) ∙ ap own.place e)
          (turn_at d field halves (own.place (3 * t)) valid (own.numbering.each_once.forth_inside (3 * t) one))

  -- the twin of a half-edge of the canonical triangulation, by its place
  twin_inside : (k : ℕ) → k < length halves → own.number (twin_at halves (own.place k)) < length halves
  twin_inside k less = own.numbering.each_once.back_inside (twin_at halves (own.place k)) (valid.paired (own.place k) (own.numbering.each_once.forth_inside k less)).0

  twin_place : (k : ℕ) → k < length halves → own.place (own.number (twin_at halves (own.place k))) ≡ twin_at halves (own.place k)
  twin_place k less = own.numbering.each_once.forth_back (twin_at halves (own.place k)) (valid.paired (own.place k) (own.numbering.each_once.forth_inside k less)).0

  paired_is : (k : ℕ) → k < length (canonical d code) → IsPaired d (canonical d code) k
  paired_is k under =
      let less : k < length halves = subst (λ n. k < n) as_many under in
      let there = valid.paired (own.place k) (own.numbering.each_once.forth_inside k less) in (
        omega (arith, twin_is k less, twin_inside k less, as_many),
        ap (twin_at (canonical d code)) (twin_is k less) ∙ twin_is (own.number (twin_at halves (own.place k))) (twin_inside k less)
            ∙ ap (λ p. own.number (twin_at halves p)) (twin_place k less) ∙ ap own.number there.1 ∙ own.numbering.each_once.back_forth k less,
        ap (vector_at (canonical d code)) (twin_is k less) ∙ vector_is (own.number (twin_at halves (own.place k))) (twin_inside k less)
            ∙ written_once (quad_ops d) (quad_ring d) (order_of d field) ((quad_ops d).int (pos own.scale)) (vector_at halves h) (vector_at halves (next_of h)) (opposite_vector (quad_ops d) (vector_at halves (own.place k)))
            (own.written (own.number (twin_at halves (own.place k)))) (opposite_vector (quad_ops d) (own.written k)) (turn_at d field halves h valid below)
            (subst (λ (v : Vector Quad). IsWritten (quad_ops d) ((quad_ops d).int (pos own.scale)) (vector_at halves h) (vector_at halves (next_of h)) v (own.written (own.number (twin_at halves (own.place k)))))
            (ap (vector_at halves) (twin_place k less) ∙ there.2) (own.vectors (own.number (twin_at halves (own.place k))) (twin_inside k less)))
            (written_opposite (quad_ops d) (quad_ring d) ((quad_ops d).int (pos own.scale)) (vector_at halves h) (vector_at halves (next_of h)) (vector_at halves (own.place k)) (own.written k) (own.vectors k less))
            ∙ ap (opposite_vector (quad_ops d)) (sym (vector_is k less)),
      )

  -- half-edges of one triangle have numbers of one triangle
  same_triangle : (x : ℕ) → x < length halves → triangle_of (own.number (3 * triangle_of x)) ≡ triangle_of (own.number x)
  same_triangle x inside =
      let in_one : next_of x < length halves = after x inside in
      let one = next_number halves h own.place own.number valid.count.0 own.numbering x inside in
      let two' = next_number halves h own.place own.number valid.count.0 own.numbering (next_of x) in_one in
      elim (cases_eq (3 * triangle_of x) x) [
        | inl e ↦ ap (λ y. triangle_of (own.number y)) e
        | inr ne ↦ elim (cases_eq (3 * triangle_of x) (next_of x)) [
          | inl e ↦ ap (λ y. triangle_of (own.number y)) e ∙ ap triangle_of one ∙ same (own.number x)
          | inr other ↦
              let e : 3 * triangle_of x ≡ next_of (next_of x) = omega arith in
              ap (λ y. triangle_of (own.number y)) e ∙ ap triangle_of (two' ∙ ap next_of one) ∙ same (next_of (own.number x)) ∙ same (own.number x)
        ]
      ]
    where
      same : (k : ℕ) → triangle_of (next_of k) ≡ triangle_of k
      same k = omega arith

      after : (k : ℕ) → k < length halves → next_of k < length halves
      after k less = omega (arith, valid.count.0)

  joined_is : (t : ℕ) → 3 * t < length (canonical d code) → IsJoined (canonical d code) t
  joined_is t under = λ set start closed.
      let less : 3 * t < length halves = subst (λ n. 3 * t < n) as_many under in
      let place_in : own.place (3 * t) < length halves = own.numbering.each_once.forth_inside (3 * t) less in
      let some : 0 < length halves = omega arith in
      let first_in : own.place 0 < length halves = own.numbering.each_once.forth_inside 0 some in
      let t_is : triangle_of (3 * t) ≡ t = omega arith in
      let zero_is : triangle_of 0 ≡ 0 = omega arith in
      subst (λ k. IsTrue (set k)) (same_triangle (own.place (3 * t)) place_in ∙ ap triangle_of (own.numbering.each_once.back_forth (3 * t) less) ∙ t_is)
      (joined_from d halves valid (λ s. set (triangle_of (own.number (3 * s))))
      (λ y inside old.
      let k_in : own.number y < length halves = own.numbering.each_once.back_inside y inside in
      let back : own.place (own.number y) ≡ y = own.numbering.each_once.forth_back y inside in
      subst (λ k. IsTrue (set k)) (ap triangle_of (twin_is (own.number y) k_in ∙ ap (λ z. own.number (twin_at halves z)) back) ∙ sym (same_triangle (twin_at halves y) (valid.paired y inside).0))
      (closed (own.number y) (subst (λ n. own.number y < n) (sym as_many) k_in) (subst (λ k. IsTrue (set k)) (same_triangle y inside) old)))
      (triangle_of (own.place 0)) (omega (arith, first_in))
      (subst (λ k. IsTrue (set k)) (sym (same_triangle (own.place 0) first_in ∙ ap triangle_of (own.numbering.each_once.back_forth 0 some) ∙ zero_is)) start)
      (triangle_of (own.place (3 * t))) (omega (arith, place_in)))

  -- the canonical triangulation is a triangulation
  pub canonical_valid : IsTriangulation d (canonical d code)
  canonical_valid = record {
    count = subst (λ n. (n % 3 ≡ 0) × (6 ≤ n) × (n ≤ 768)) (sym as_many) valid.count;
    closed = closed_is;
    turns = turns_is;
    paired = paired_is;
    joined = joined_is;
  }

  -- and its serial at half-edge 0 is the code
  pub canonical_serial : IsSerial d (canonical d code) 0 code
  canonical_serial =
      let some : 0 < length (canonical d code) = omega (arith, as_many, below) in
      serial_carried_back d field (frame halves h) own.scale (canonical d code) halves own.place own.number canonical_valid valid framed 0 code some
      (subst (λ k. IsSerial d halves k code) (sym own.numbering.start) own)
