-- Codes are equal exactly for one class, and starts are the symmetries.
use Rattle.std.proofs.Common.{◌≡◌, ◌↔◌, ℕ, ◌<◌, List, [], ◌∷◌, length, refl, sym, ap, ◌∙◌, subst}
use mathlib.Core.Path.{ap₂}
use Rattle.std.specs.Prelude.{ℤ, ◌<ℤ◌}
use Rattle.std.specs.Ordering.{int_cmp, MatchOrdering, ordering_then, ordering_reverse}
use Rattle.std.specs.Cmp.Lexicographic.{slice_cmp}
use Rattle.std.specs.declared.cmp.Ordering.{Ordering}
use Rattle.std.specs.declared.cmp.Ordering.TheVariants.{Less, Equal, Greater}
use Rattle.std.proofs.lemmas.Cmp.{int_cmp_total, int_ranked}
use Rattle.quad_field.specs.declared.quad.Quad.{Quad}
use Rattle.quad_field.specs.FieldNumber.{IsFieldNumber}
use Rattle.tri_core.specs.declared.half.Half.{Half}
use Rattle.tri_core.specs.Triangulation.{IsTriangulation}
use Rattle.rings.specs.Matrices.{Matrix}
use Rattle.tri_core.specs.Images.{IsImage, IsImageBy, AreOfOneClass, CarriesFrame}
use Rattle.canon_code.specs.Serials.{IsSerial}
use Rattle.canon_code.specs.Codes.{IsBefore, IsCode, IsStart}
use Rattle.tri_core.proofs.CallerLemmas.{frame_carried}
use Rattle.canon_code.proofs.Serials.{serial_carried, serial_carried_back}
use Rattle.canon_code.specs.Canonical.{canonical, frame}
use Rattle.canon_code.proofs.Canonical.{canonical_valid, framed}
use Rattle.canon_code.proofs.Reconstructed.{one_class, reconstructed, forth, back}

-- lists of whole numbers of which neither is before the other are equal
pub equal_unless_before : (xs ys : List ℤ) → ¬ (IsBefore xs ys) → ¬ (IsBefore ys xs) → xs ≡ ys
equal_unless_before [] [] p q = refl
equal_unless_before [] (y ∷ ys) p q = absurd (p refl)
equal_unless_before (x ∷ xs) [] p q = absurd (q refl)
equal_unless_before (x ∷ xs) (y ∷ ys) p q = go (int_cmp x y) refl (int_ranked x y (int_cmp x y) refl) (equal_unless_before xs ys)
  where
    back : int_cmp y x ≡ ordering_reverse (int_cmp x y)
    back = int_cmp_total.antisymm y x

    go : (o : Ordering) → int_cmp x y ≡ o → MatchOrdering o (x <ℤ y) (x ≡ y) (y <ℤ x) → (¬ (IsBefore xs ys) → ¬ (IsBefore ys xs) → xs ≡ ys) → x ∷ xs ≡ y ∷ ys
    go Less e r rest = absurd (p (ap (λ o. ordering_then o (slice_cmp int_cmp xs ys)) e))
    go Equal e r rest =
        ap₂ ◌∷◌ r (rest (λ b. p (ap (λ o. ordering_then o (slice_cmp int_cmp xs ys)) e ∙ b)) (λ b. q (ap (λ o. ordering_then o (slice_cmp int_cmp ys xs)) (back ∙ ap ordering_reverse e) ∙ b)))
    go Greater e r rest = absurd (q (ap (λ o. ordering_then o (slice_cmp int_cmp ys xs)) (back ∙ ap ordering_reverse e)))

-- a triangulation has one code
pub code_once : (d : ℕ) (halves : List Half) (code other : List ℤ) → IsCode d halves code → IsCode d halves other → code ≡ other
code_once d halves code other a b = equal_unless_before code other (b.least a.start code a.inside a.serial) (a.least b.start other b.inside b.serial)

module _ (d : ℕ) (field : IsFieldNumber d) where
  -- the code of an image is the code
  pub code_carried : (n : Matrix Quad) (m : ℕ) (from to : List Half) (forth back : ℕ → ℕ) (code : List ℤ) → IsTriangulation d from → IsTriangulation d to → IsImage d n m from to forth back
      → IsCode d from code → IsCode d to code
  code_carried n m from to forth back code valid valid' image own = record {
    start = forth own.start;
    inside = subst (λ l. forth own.start < l) (sym image.count) (image.each_once.forth_inside own.start own.inside);
    serial = serial_carried d field n m from to forth back valid valid' image own.start code own.inside own.serial;
    least = λ h other inside serial.
        let here : h < length from = subst (λ l. h < l) image.count inside in
        let there : back h < length from = image.each_once.back_inside h here in
        own.least (back h) other there
        (serial_carried_back d field n m from to forth back valid valid' image (back h) other there
        (subst (λ k. IsSerial d to k other) (sym (image.each_once.forth_back h here)) serial));
  }

  -- codes are equal exactly for triangulations of one class
  pub same_code : (from to : List Half) (code other : List ℤ) → IsTriangulation d from → IsTriangulation d to → IsCode d from code → IsCode d to other → (code ≡ other) ↔ AreOfOneClass d from to
  same_code from to code other valid valid' a b = (
    (λ e. one_class d field from to a.start b.start code valid valid' a.inside b.inside a.serial (subst (IsSerial d to b.start) (sym e) b.serial)),
    (λ c. code_once d to code other (code_carried c.0 c.1 from to c.3.0 c.3.1 code valid valid' c.3.2 a) b),
  )

  -- a matrix takes a triangulation to itself exactly where it takes the frame of a start to the frame of a start
  pub symmetries : (halves : List Half) (code : List ℤ) (first : ℕ) (n : Matrix Quad) (m : ℕ) → IsTriangulation d halves → IsStart d halves code first → 0 < m
      → IsImageBy d n m halves halves ↔ ((h : ℕ) × IsStart d halves code h × CarriesFrame d n m halves first halves h)
  symmetries halves code first n m valid start some = (
    (λ (image : IsImageBy d n m halves halves). (
      image.0 first,
      (image.2.each_once.forth_inside first start.0, serial_carried d field n m halves halves image.0 image.1 valid valid image.2 first code start.0 start.1),
      frame_carried d n m halves halves image.0 image.1 image.2 valid first start.0,
    )),
    (λ (h : (h : ℕ) × IsStart d halves code h × CarriesFrame d n m halves first halves h). (
      forth d field halves halves first h.0 code valid valid start.0 h.1.0 start.1 h.1.1,
      back d field halves halves first h.0 code valid valid start.0 h.1.0 start.1 h.1.1,
      reconstructed d field halves halves first h.0 code valid valid start.0 h.1.0 start.1 h.1.1 n m some h.2,
    )),
  )

  -- a code of the image is the code
  pub code_carried_back : (n : Matrix Quad) (m : ℕ) (from to : List Half) (forth back : ℕ → ℕ) (code : List ℤ) → IsTriangulation d from → IsTriangulation d to → IsImage d n m from to forth back
      → IsCode d to code → IsCode d from code
  code_carried_back n m from to forth back code valid valid' image own =
      let here : own.start < length from = subst (λ l. own.start < l) image.count own.inside in
      let there : back own.start < length from = image.each_once.back_inside own.start here in
      record {
        start = back own.start;
        inside = there;
        serial =
            serial_carried_back d field n m from to forth back valid valid' image (back own.start) code there
            (subst (λ k. IsSerial d to k code) (sym (image.each_once.forth_back own.start here)) own.serial);
        least = λ h other inside serial.
            own.least (forth h) other (subst (λ l. forth h < l) (sym image.count) (image.each_once.forth_inside h inside))
            (serial_carried d field n m from to forth back valid valid' image h other inside serial);
      }

  -- the code of the canonical triangulation of a code is the code
  pub canonical_code : (halves : List Half) (code : List ℤ) → IsTriangulation d halves → IsCode d halves code → IsCode d (canonical d code) code
  canonical_code halves code valid own =
      code_carried_back (frame halves own.start) own.serial.scale (canonical d code) halves own.serial.place own.serial.number code
      (canonical_valid d field halves own.start code valid own.inside own.serial) valid (framed d field halves own.start code valid own.inside own.serial) own
