-- Serials: carried by images, and one for each start.
use Rattle.std.proofs.Common.{◌≡◌, ℕ, ◌*◌, ◌/◌, ◌%◌, ◌<◌, List, ◌∷◌, length, refl, sym, ap, ◌∙◌, subst, arith}
use Rattle.std.specs.Prelude.{ℤ, pos}
use mathlib.Core.Path.{ap₂}
use native.Mathlib.Nat.{le_antisymm}
use Rattle.quad_field.specs.declared.quad.Quad.{Quad}
use Rattle.quad_field.specs.FieldNumber.{IsFieldNumber}
use Rattle.quad_field.specs.Quads.{quad_ops, IsPositive}
use Rattle.quad_field.proofs.CallerLemmas.{quad_ring, order_of, natural_positive}
use Rattle.plane.specs.Vectors.{Vector, det}
use Rattle.tri_core.specs.declared.half.Half.{Half}
use Rattle.tri_core.specs.HalfEdges.{vector_at, twin_at, next_of}
use Rattle.tri_core.specs.Triangulation.{IsTriangulation}
use Rattle.tri_core.proofs.CallerLemmas.{triple_at, image_turns_left}
use Rattle.rings.specs.Vectors.{multiple_vector}
use Rattle.rings.specs.Matrices.{Matrix, mapped}
use Rattle.tri_core.specs.Images.{IsImage}
use Rattle.canon_code.specs.Numberings.{IsNumbering}
use Rattle.canon_code.specs.Serials.{IsWrittenAt, IsScale, IsLeastScale, rows, IsSerial}
use Rattle.canon_code.proofs.Frames.{written_forth, written_back, written_once}
use Rattle.canon_code.proofs.Numberings.{HasTwinsInside, Keeps, next_inside, numbering_carried, one_place, one_number}
use Rattle.canon_code.proofs.Rows.{rows_alike}

pub twins_inside : (d : ℕ) (halves : List Half) → IsTriangulation d halves → HasTwinsInside halves
twins_inside d halves valid = record { triples = valid.count.0; inside = λ k below. (valid.paired k below).0 }

-- three times a third
pub thrice : (n : ℕ) → n % 3 ≡ 0 → 3 * (n / 3) ≡ n
thrice n e = omega arith

module _ (d : ℕ) (field : IsFieldNumber d) where
  -- each half-edge turns to the left into the next
  pub turn_at : (halves : List Half) (h : ℕ) → IsTriangulation d halves → h < length halves → IsPositive d (det (quad_ops d) (vector_at halves h) (vector_at halves (next_of h)))
  turn_at halves h valid below = (triple_at d halves h valid below).turns

  module _ (n : Matrix Quad) (m : ℕ) (from to : List Half) (forth back : ℕ → ℕ) (valid : IsTriangulation d from) (valid' : IsTriangulation d to) (image : IsImage d n m from to forth back) where
    pub keeps : Keeps from to forth back
    keeps = record { count = image.count; each_once = image.each_once; next = image.next; twin = image.twin }

    pub inside_to : (k : ℕ) → k < length from → forth k < length to
    inside_to k below = subst (λ l. forth k < l) (sym image.count) (image.each_once.forth_inside k below)

    next_vectors : (h : ℕ) → h < length from
        → multiple_vector (quad_ops d) ((quad_ops d).int (pos m)) (vector_at to (next_of (forth h))) ≡ mapped (quad_ops d) n (vector_at from (next_of h))
    next_vectors h below =
        ap (λ k. multiple_vector (quad_ops d) ((quad_ops d).int (pos m)) (vector_at to k)) (sym (image.next h below))
        ∙ image.vectors (next_of h) (next_inside (length from) h valid.count.0 below)

    denominator_positive : (h : ℕ) → h < length from → IsPositive d ((quad_ops d).int (pos m))
    denominator_positive h below = natural_positive d m image.denominator

    -- coordinates are carried
    written_at_forth : (h k s : ℕ) (w : Vector Quad) → h < length from → k < length from → IsWrittenAt d from h s k w → IsWrittenAt d to (forth h) s (forth k) w
    written_at_forth h k s w below inside written =
        written_forth (quad_ops d) (quad_ring d) (order_of d field) n ((quad_ops d).int (pos m)) ((quad_ops d).int (pos s))
        (vector_at from h) (vector_at from (next_of h)) (vector_at from k) (vector_at to (forth h)) (vector_at to (next_of (forth h))) (vector_at to (forth k)) w
        (denominator_positive h below) (image.vectors h below) (next_vectors h below) (image.vectors k inside) written

    written_at_back : (h k s : ℕ) (w : Vector Quad) → h < length from → k < length from → IsWrittenAt d to (forth h) s (forth k) w → IsWrittenAt d from h s k w
    written_at_back h k s w below inside written =
        written_back (quad_ops d) (quad_ring d) (order_of d field) n ((quad_ops d).int (pos m)) ((quad_ops d).int (pos s))
        (vector_at from h) (vector_at from (next_of h)) (vector_at from k) (vector_at to (forth h)) (vector_at to (next_of (forth h))) (vector_at to (forth k)) w
        (image_turns_left d n m from to forth back image valid field valid') (image.vectors h below) (next_vectors h below) (image.vectors k inside) written

    scale_forth : (h s : ℕ) → h < length from → IsScale d from h s → IsScale d to (forth h) s
    scale_forth h s below scale = (
      scale.0,
      (λ k inside.
          let own : back k < length from = image.each_once.back_inside k (subst (λ l. k < l) image.count inside) in
          let w : (w : Vector Quad) × IsWrittenAt d from h s (back k) w = scale.1 (back k) own in (
            w.0,
            subst (λ (j : ℕ). IsWrittenAt d to (forth h) s j w.0) (image.each_once.forth_back k (subst (λ l. k < l) image.count inside))
                (written_at_forth h (back k) s w.0 below own w.1),
          )),
    )

    scale_back : (h s : ℕ) → h < length from → IsScale d to (forth h) s → IsScale d from h s
    scale_back h s below scale = (
      scale.0,
      (λ k inside.
          let w : (w : Vector Quad) × IsWrittenAt d to (forth h) s (forth k) w = scale.1 (forth k) (inside_to k inside) in (
            w.0,
            written_at_back h k s w.0 below inside w.1,
          )),
    )

    least_forth : (h s : ℕ) → h < length from → IsLeastScale d from h s → IsLeastScale d to (forth h) s
    least_forth h s below least = (scale_forth h s below least.0, λ r other. least.1 r (scale_back h r below other))

    -- the serial of an image is the serial
    pub serial_carried : (h : ℕ) (serial : List ℤ) → h < length from → IsSerial d from h serial → IsSerial d to (forth h) serial
    serial_carried h serial below own = record {
      place = λ k. forth (own.place k);
      number = λ k. own.number (back k);
      scale = own.scale;
      written = own.written;
      numbering = numbering_carried from to forth back (twins_inside d from valid) keeps h own.place own.number own.numbering;
      least = least_forth h own.scale below own.least;
      vectors = λ k inside.
          let here : k < length from = subst (λ l. k < l) image.count inside in
          written_at_forth h (own.place k) own.scale (own.written k) below (own.numbering.each_once.forth_inside k here) (own.vectors k here);
      numbers =
          own.numbers
          ∙ ap (λ (r : List ℤ). pos (length from / 3) ∷ pos own.scale ∷ r)
          (rows_alike own.written own.written (λ k. own.number (twin_at from (own.place k))) (λ k. own.number (back (twin_at to (forth (own.place k))))) (length from / 3)
          (λ k less. refl) (λ k less. twins k (subst (λ l. k < l) (thrice (length from) valid.count.0) less)))
          ∙ ap (λ l. pos (l / 3) ∷ pos own.scale ∷ rows own.written (λ k. own.number (back (twin_at to (forth (own.place k))))) (l / 3)) (sym image.count);
    }
      where
        twins : (k : ℕ) → k < length from → own.number (twin_at from (own.place k)) ≡ own.number (back (twin_at to (forth (own.place k))))
        twins k here =
            let inside : own.place k < length from = own.numbering.each_once.forth_inside k here in
            ap own.number (sym (image.each_once.back_forth (twin_at from (own.place k)) (valid.paired (own.place k) inside).0) ∙ ap back (image.twin (own.place k) inside))

    in_from : (k : ℕ) → k < length to → k < length from
    in_from k inside = subst (λ l. k < l) image.count inside

    keeps_back : Keeps to from back forth
    keeps_back = record {
      count = sym image.count;
      each_once = record {
        forth_inside = λ k inside. subst (λ l. back k < l) (sym image.count) (image.each_once.back_inside k (in_from k inside));
        back_inside = λ k inside. inside_to k (in_from k inside);
        back_forth = λ k inside. image.each_once.forth_back k (in_from k inside);
        forth_back = λ k inside. image.each_once.back_forth k (in_from k inside);
      };
      next = λ k inside.
          let own : back k < length from = image.each_once.back_inside k (in_from k inside) in
          ap (λ j. back (next_of j)) (sym (image.each_once.forth_back k (in_from k inside)))
          ∙ ap back (sym (image.next (back k) own))
          ∙ image.each_once.back_forth (next_of (back k)) (next_inside (length from) (back k) valid.count.0 own);
      twin = λ k inside.
          let own : back k < length from = image.each_once.back_inside k (in_from k inside) in
          ap (λ j. back (twin_at to j)) (sym (image.each_once.forth_back k (in_from k inside)))
          ∙ ap back (sym (image.twin (back k) own))
          ∙ image.each_once.back_forth (twin_at from (back k)) (valid.paired (back k) own).0;
    }

    -- a serial of the image is a serial
    pub serial_carried_back : (h : ℕ) (serial : List ℤ) → h < length from → IsSerial d to (forth h) serial → IsSerial d from h serial
    serial_carried_back h serial below own = record {
      place = λ k. back (own.place k);
      number = λ k. own.number (forth k);
      scale = own.scale;
      written = own.written;
      numbering =
          subst (λ j. IsNumbering from j (λ k. back (own.place k)) (λ k. own.number (forth k))) (image.each_once.back_forth h below)
          (numbering_carried to from back forth (twins_inside d to valid') keeps_back (forth h) own.place own.number own.numbering);
      least = (scale_back h own.scale below own.least.0, λ r other. own.least.1 r (scale_forth h r below other));
      vectors = λ k inside.
          let there : k < length to = subst (λ l. k < l) (sym image.count) inside in
          let placed : own.place k < length to = own.numbering.each_once.forth_inside k there in
          written_at_back h (back (own.place k)) own.scale (own.written k) below (image.each_once.back_inside (own.place k) (in_from (own.place k) placed))
          (subst (λ j. IsWrittenAt d to (forth h) own.scale j (own.written k)) (sym (image.each_once.forth_back (own.place k) (in_from (own.place k) placed))) (own.vectors k there));
      numbers =
          own.numbers
          ∙ ap (λ (r : List ℤ). pos (length to / 3) ∷ pos own.scale ∷ r)
          (rows_alike own.written own.written (λ k. own.number (twin_at to (own.place k))) (λ k. own.number (forth (twin_at from (back (own.place k))))) (length to / 3)
          (λ k less. refl) (λ k less. twins k (subst (λ l. k < l) (thrice (length to) valid'.count.0) less)))
          ∙ ap (λ l. pos (l / 3) ∷ pos own.scale ∷ rows own.written (λ k. own.number (forth (twin_at from (back (own.place k))))) (l / 3)) image.count;
    }
      where
        twins : (k : ℕ) → k < length to → own.number (twin_at to (own.place k)) ≡ own.number (forth (twin_at from (back (own.place k))))
        twins k there =
            let placed : own.place k < length from = in_from (own.place k) (own.numbering.each_once.forth_inside k there) in
            ap own.number
            (ap (twin_at to) (sym (image.each_once.forth_back (own.place k) placed)) ∙ sym (image.twin (back (own.place k)) (image.each_once.back_inside (own.place k) placed)))

  -- a start has one serial
  pub serial_once : (halves : List Half) (h : ℕ) (one other : List ℤ) → IsTriangulation d halves → h < length halves → IsSerial d halves h one → IsSerial d halves h other → one ≡ other
  serial_once halves h one other valid below a b =
      a.numbers
      ∙ ap₂ (λ s (r : List ℤ). pos (length halves / 3) ∷ pos s ∷ r) scales
      (rows_alike a.written b.written (λ k. a.number (twin_at halves (a.place k))) (λ k. b.number (twin_at halves (b.place k))) (length halves / 3)
      (λ k less. vectors k (inside k less)) (λ k less. twins k (inside k less)))
      ∙ sym b.numbers
    where
      inside : (k : ℕ) → k < 3 * (length halves / 3) → k < length halves
      inside k less = subst (λ l. k < l) (thrice (length halves) valid.count.0) less

      scales : a.scale ≡ b.scale
      scales = le_antisymm (a.least.1 b.scale b.least.0) (b.least.1 a.scale a.least.0)

      places : (k : ℕ) → k < length halves → a.place k ≡ b.place k
      places k own = one_place halves h a.place a.number b.place b.number (twins_inside d halves valid) a.numbering b.numbering k own

      vectors : (k : ℕ) → k < length halves → a.written k ≡ b.written k
      vectors k own =
          written_once (quad_ops d) (quad_ring d) (order_of d field) ((quad_ops d).int (pos b.scale)) (vector_at halves h) (vector_at halves (next_of h)) (vector_at halves (b.place k))
          (a.written k) (b.written k) (turn_at halves h valid below)
          (subst (λ s. IsWrittenAt d halves h s (b.place k) (a.written k)) scales (subst (λ p. IsWrittenAt d halves h a.scale p (a.written k)) (places k own) (a.vectors k own)))
          (b.vectors k own)

      twins : (k : ℕ) → k < length halves → a.number (twin_at halves (a.place k)) ≡ b.number (twin_at halves (b.place k))
      twins k own =
          ap (λ p. a.number (twin_at halves p)) (places k own)
          ∙ one_number halves h a.place a.number b.place b.number (twins_inside d halves valid) a.numbering b.numbering (twin_at halves (b.place k))
          (valid.paired (b.place k) (b.numbering.each_once.forth_inside k own)).0
