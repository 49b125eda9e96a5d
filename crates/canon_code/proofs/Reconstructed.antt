-- Triangulations with one serial are images of one another.
use Rattle.std.proofs.Common.{◌≡◌, ℕ, ◌+◌, ◌*◌, ◌/◌, ◌%◌, ◌<◌, List, ◌∷◌, length, sym, ap, ◌∙◌, subst, arith, inl, inr}
use Rattle.std.specs.Prelude.{ℤ, pos}
use mathlib.Core.Path.{ap₂}
use Rattle.std.proofs.lemmas.Bool.{cases_eq}
use Rattle.quad_field.specs.declared.quad.Quad.{Quad}
use Rattle.quad_field.specs.FieldNumber.{IsFieldNumber}
use Rattle.quad_field.specs.Quads.{quad_ops, IsPositive}
use Rattle.quad_field.proofs.CallerLemmas.{quad_ring, order_of, natural_positive, has_whole}
use Rattle.plane.specs.Vectors.{Vector, det, vector_sum, opposite_vector}
use Rattle.tri_core.specs.declared.half.Half.{Half}
use Rattle.tri_core.specs.HalfEdges.{vector_at, twin_at, next_of, previous_of}
use Rattle.tri_core.specs.Triangulation.{IsTriangulation}
use Rattle.tri_core.proofs.CallerLemmas.{triple_at, image_turns_left}
use Rattle.rings.specs.Vectors.{multiple_vector}
use Rattle.rings.specs.Matrices.{Matrix, mapped, multiple_matrix}
use Rattle.tri_core.specs.Images.{AreInverse, IsImage, AreOfOneClass, CarriesFrame}
use Rattle.canon_code.specs.Numberings.{IsNumbering}
use Rattle.canon_code.specs.Serials.{IsWrittenAt, rows, IsSerial}
use Rattle.canon_code.proofs.Frames.{written_third, written_carried, between, between_first, between_second}
use Rattle.canon_code.proofs.Rows.{rows_say, SaysAlike}
use Rattle.rings.proofs.Matrices.{both_times}
use Rattle.quad_field.specs.Multiples.{HasWhole}
use Rattle.canon_code.proofs.Serials.{turn_at, thrice}

pub next_number : (halves : List Half) (h : ℕ) (place number : ℕ → ℕ) → length halves % 3 ≡ 0 → IsNumbering halves h place number → (x : ℕ) → x < length halves
    → number (next_of x) ≡ next_of (number x)
next_number halves h place number triples num x below =
    let k : ℕ = number x in
    let own : k < length halves = num.each_once.back_inside x below in
    let there : next_of k < length halves = inside (length halves) k triples own in
    ap number (ap next_of (sym (num.each_once.forth_back x below)) ∙ sym (num.next k own)) ∙ num.each_once.back_forth (next_of k) there
  where
    inside : (n k : ℕ) → n % 3 ≡ 0 → k < n → next_of k < n
    inside n k e h = omega arith

module _ (d : ℕ) (field : IsFieldNumber d) where
  -- the third vector of a triangle is written by the first two
  pub written_third_at : (halves : List Half) (h : ℕ) (serial : List ℤ) (valid : IsTriangulation d halves) → h < length halves → (a : IsSerial d halves h serial) → (t : ℕ) → 3 * t + 2 < length halves
      → a.written (3 * t + 2) ≡ opposite_vector (quad_ops d) (vector_sum (quad_ops d) (a.written (3 * t)) (a.written (3 * t + 1)))
  written_third_at halves h serial valid below a t inside =
      written_third (quad_ops d) (quad_ring d) (order_of d field) ((quad_ops d).int (pos a.scale)) (vector_at halves h) (vector_at halves (next_of h))
      (vector_at halves (a.place (3 * t))) (vector_at halves (a.place (3 * t + 1))) (vector_at halves (a.place (3 * t + 2)))
      (a.written (3 * t)) (a.written (3 * t + 1)) (a.written (3 * t + 2)) (turn_at d field halves h valid below)
      closed (a.vectors (3 * t) first) (a.vectors (3 * t + 1) (omega arith)) (a.vectors (3 * t + 2) inside)
    where
      first : 3 * t < length halves
      first = omega arith

      second : next_of (a.place (3 * t)) ≡ a.place (3 * t + 1)
      second = let e : next_of (3 * t) ≡ 3 * t + 1 = omega arith in sym (a.numbering.next (3 * t) first) ∙ ap a.place e

      third : previous_of (a.place (3 * t)) ≡ a.place (3 * t + 2)
      third =
          let e : next_of (3 * t + 1) ≡ 3 * t + 2 = omega arith in
          twice (a.place (3 * t)) ∙ ap next_of second ∙ sym (a.numbering.next (3 * t + 1) (omega arith)) ∙ ap a.place e
        where
          twice : (k : ℕ) → previous_of k ≡ next_of (next_of k)
          twice k = omega arith

      closed : let O = quad_ops d in
          vector_sum O (vector_sum O (vector_at halves (a.place (3 * t))) (vector_at halves (a.place (3 * t + 1)))) (vector_at halves (a.place (3 * t + 2))) ≡ (O.int (pos 0), O.int (pos 0))
      closed =
          ap₂ (λ p q. let O = quad_ops d in vector_sum O (vector_sum O (vector_at halves (a.place (3 * t))) (vector_at halves p)) (vector_at halves q)) (sym second) (sym third)
          ∙ (triple_at d halves (a.place (3 * t)) valid (a.numbering.each_once.forth_inside (3 * t) first)).closed

  module _ (from to : List Half) (h h' : ℕ) (serial : List ℤ) (valid : IsTriangulation d from) (valid' : IsTriangulation d to) (below : h < length from) (below' : h' < length to)
      (a : IsSerial d from h serial) (b : IsSerial d to h' serial) where
    -- the two lists
    lists : pos (length from / 3) ∷ pos a.scale ∷ rows a.written (λ k. a.number (twin_at from (a.place k))) (length from / 3)
        ≡ pos (length to / 3) ∷ pos b.scale ∷ rows b.written (λ k. b.number (twin_at to (b.place k))) (length to / 3)
    lists = sym a.numbers ∙ b.numbers

    thirds : length from / 3 ≡ length to / 3
    thirds = let e = lists in cc

    scales : a.scale ≡ b.scale
    scales = let e = lists in cc

    counts : length to ≡ length from
    counts = sym (sym (thrice (length from) valid.count.0) ∙ ap (λ n. 3 * n) thirds ∙ thrice (length to) valid'.count.0)

    alike : (t : ℕ) → t < length from / 3 → SaysAlike a.written b.written (λ k. a.number (twin_at from (a.place k))) (λ k. b.number (twin_at to (b.place k))) t
    alike t less =
        let tails : rows a.written (λ k. a.number (twin_at from (a.place k))) (length from / 3) ≡ rows b.written (λ k. b.number (twin_at to (b.place k))) (length to / 3) = let e = lists in cc in
        rows_say a.written b.written (λ k. a.number (twin_at from (a.place k))) (λ k. b.number (twin_at to (b.place k))) (length from / 3)
        (tails ∙ ap (rows b.written (λ k. b.number (twin_at to (b.place k)))) (sym thirds)) t less

    -- each half-edge is written alike
    vectors_alike : (k : ℕ) → k < length from → a.written k ≡ b.written k
    vectors_alike k own =
        let t : ℕ = k / 3 in
        let less : t < length from / 3 = omega (arith, valid.count.0) in
        elim (cases_eq k (3 * t)) [
          | inl same ↦ subst (λ j. a.written j ≡ b.written j) (sym same) (alike t less).first
          | inr ne ↦ elim (cases_eq k (3 * t + 1)) [
            | inl same ↦ subst (λ j. a.written j ≡ b.written j) (sym same) (alike t less).second
            | inr other ↦
                let same : 3 * t + 2 ≡ k = omega arith in
                subst (λ j. a.written j ≡ b.written j) same
                (written_third_at from h serial valid below a t (omega arith)
                ∙ ap₂ (λ u v. opposite_vector (quad_ops d) (vector_sum (quad_ops d) u v)) (alike t less).first (alike t less).second
                ∙ sym (written_third_at to h' serial valid' below' b t (omega (arith, counts))))
          ]
        ]

    -- each twin has one number
    twins_alike : (k : ℕ) → k < length from → a.number (twin_at from (a.place k)) ≡ b.number (twin_at to (b.place k))
    twins_alike k own =
        let t : ℕ = k / 3 in
        let less : t < length from / 3 = omega (arith, valid.count.0) in
        let P : ℕ → Type 0 = λ j. a.number (twin_at from (a.place j)) ≡ b.number (twin_at to (b.place j)) in
        elim (cases_eq k (3 * t)) [
          | inl same ↦ subst P (sym same) (alike t less).twin_first
          | inr ne ↦ elim (cases_eq k (3 * t + 1)) [
            | inl same ↦ subst P (sym same) (alike t less).twin_second
            | inr other ↦ let same : 3 * t + 2 ≡ k = omega arith in subst P same (alike t less).twin_third
          ]
        ]

    abbrev pub forth : ℕ → ℕ
    forth x = b.place (a.number x)

    abbrev pub back : ℕ → ℕ
    back y = a.place (b.number y)

    in_to : (k : ℕ) → k < length from → k < length to
    in_to k less = subst (λ l. k < l) (sym counts) less

    in_from : (k : ℕ) → k < length to → k < length from
    in_from k less = subst (λ l. k < l) counts less

    -- x in `from` and its image in `to` have one number
    number_forth : (x : ℕ) → x < length from → b.number (forth x) ≡ a.number x
    number_forth x own = b.numbering.each_once.back_forth (a.number x) (in_to (a.number x) (a.numbering.each_once.back_inside x own))

    inverse : AreInverse (length from) forth back
    inverse = record {
      forth_inside = λ x own. in_from (forth x) (b.numbering.each_once.forth_inside (a.number x) (in_to (a.number x) (a.numbering.each_once.back_inside x own)));
      back_inside = λ y own. a.numbering.each_once.forth_inside (b.number y) (in_from (b.number y) (b.numbering.each_once.back_inside y (in_to y own)));
      back_forth = λ x own. ap a.place (number_forth x own) ∙ a.numbering.each_once.forth_back x own;
      forth_back = λ y own.
          ap b.place (a.numbering.each_once.back_forth (b.number y) (in_from (b.number y) (b.numbering.each_once.back_inside y (in_to y own))))
          ∙ b.numbering.each_once.forth_back y (in_to y own);
    }

    pub frame_positive : IsPositive d (det (quad_ops d) (vector_at from h) (vector_at from (next_of h)))
    frame_positive = turn_at d field from h valid below

    -- the image by a matrix that carries the frame
    module _ (n : Matrix Quad) (m : ℕ) (some : 0 < m) (frame : CarriesFrame d n m from h to h') where
      carries : (x : ℕ) → x < length from → multiple_vector (quad_ops d) ((quad_ops d).int (pos m)) (vector_at to (forth x)) ≡ mapped (quad_ops d) n (vector_at from x)
      carries x own =
          written_carried (quad_ops d) (quad_ring d) (order_of d field) n ((quad_ops d).int (pos m)) ((quad_ops d).int (pos a.scale))
          (vector_at from h) (vector_at from (next_of h)) (vector_at from x) (vector_at to h') (vector_at to (next_of h')) (vector_at to (forth x)) (a.written (a.number x))
          (natural_positive d a.scale a.least.0.0) frame_positive (turn_at d field to h' valid' below') frame.0 frame.1 one other
        where
          inside : a.number x < length from
          inside = a.numbering.each_once.back_inside x own

          one : IsWrittenAt d from h a.scale x (a.written (a.number x))
          one = subst (λ j. IsWrittenAt d from h a.scale j (a.written (a.number x))) (a.numbering.each_once.forth_back x own) (a.vectors (a.number x) inside)

          other : IsWrittenAt d to h' a.scale (forth x) (a.written (a.number x))
          other =
              subst (λ (w : Vector Quad). IsWrittenAt d to h' a.scale (forth x) w) (sym (vectors_alike (a.number x) inside))
              (subst (λ s. IsWrittenAt d to h' s (forth x) (b.written (a.number x))) (sym scales) (b.vectors (a.number x) (in_to (a.number x) inside)))

      pub reconstructed : IsImage d n m from to forth back
      reconstructed = record {
        denominator = some;
        count = counts;
        each_once = inverse;
        next = λ x own.
            ap b.place (next_number from h a.place a.number valid.count.0 a.numbering x own)
            ∙ b.numbering.next (a.number x) (in_to (a.number x) (a.numbering.each_once.back_inside x own));
        twin = λ x own.
            let inside : a.number x < length from = a.numbering.each_once.back_inside x own in
            ap (λ y. b.place (a.number (twin_at from y))) (sym (a.numbering.each_once.forth_back x own))
            ∙ ap b.place (twins_alike (a.number x) inside)
            ∙ b.numbering.each_once.forth_back (twin_at to (forth x)) (valid'.paired (forth x) (b.numbering.each_once.forth_inside (a.number x) (in_to (a.number x) inside))).0;
        vectors = carries;
      }

    -- a whole multiple of the frame's determinant
    abbrev pub whole : HasWhole d (det (quad_ops d) (vector_at from h) (vector_at from (next_of h)))
    whole = has_whole d field (det (quad_ops d) (vector_at from h) (vector_at from (next_of h))) frame_positive

    -- the matrix that takes the one frame to the other, times that whole number
    abbrev pub matrix : Matrix Quad
    matrix =
        multiple_matrix (quad_ops d) whole.multiplier
        (between (quad_ops d) (quad_ring d) (order_of d field) (vector_at from h) (vector_at from (next_of h)) (vector_at to h') (vector_at to (next_of h')))

    carries_frame : CarriesFrame d matrix whole.whole from h to h'
    carries_frame = (
      times (vector_at from h) (vector_at to h')
          (between_first (quad_ops d) (quad_ring d) (order_of d field) (vector_at from h) (vector_at from (next_of h)) (vector_at to h') (vector_at to (next_of h'))),
      times (vector_at from (next_of h)) (vector_at to (next_of h'))
          (between_second (quad_ops d) (quad_ring d) (order_of d field) (vector_at from h) (vector_at from (next_of h)) (vector_at to h') (vector_at to (next_of h'))),
    )
      where
        times : (v z : Vector Quad)
            → multiple_vector (quad_ops d) (det (quad_ops d) (vector_at from h) (vector_at from (next_of h))) z
            ≡ mapped (quad_ops d) (between (quad_ops d) (quad_ring d) (order_of d field) (vector_at from h) (vector_at from (next_of h)) (vector_at to h') (vector_at to (next_of h'))) v
            → multiple_vector (quad_ops d) ((quad_ops d).int (pos whole.whole)) z ≡ mapped (quad_ops d) matrix v
        times v z e =
            both_times (quad_ops d) (quad_ring d) (between (quad_ops d) (quad_ring d) (order_of d field) (vector_at from h) (vector_at from (next_of h)) (vector_at to h') (vector_at to (next_of h')))
            (det (quad_ops d) (vector_at from h) (vector_at from (next_of h))) whole.multiplier ((quad_ops d).int (pos whole.whole)) v z whole.multiple e

    -- equal serials give one class
    pub one_class : AreOfOneClass d from to
    one_class =
        let image : IsImage d matrix whole.whole from to forth back = reconstructed matrix whole.whole whole.positive carries_frame in
        (matrix, whole.whole, image_turns_left d matrix whole.whole from to forth back image valid field valid', (forth, back, image))
