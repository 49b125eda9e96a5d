-- A start compared with the best row by row, in a numbering that goes no further than the rows.
use Rattle.std.proofs.Common.{◌≡◌, ℕ, ◌+◌, ◌*◌, ◌/◌, ◌<◌, List, length, take, drop, refl, sym, ap, ◌∙◌, arith}
use Rattle.std.specs.Prelude.{ℤ, pos}
use Rattle.std.specs.Ordering.{int_cmp}
use Rattle.std.specs.Cmp.Lexicographic.{slice_cmp}
use Rattle.std.specs.declared.cmp.Ordering.TheVariants.{Equal, Greater}
use Rattle.quad_field.specs.FieldNumber.{IsFieldNumber}
use Rattle.tri_core.specs.declared.half.Half.{Half}
use Rattle.tri_core.specs.HalfEdges.{twin_at}
use Rattle.tri_core.specs.Triangulation.{IsTriangulation}
use Rattle.canon_code.specs.declared.whole.Scaled.{Scaled}
use Rattle.canon_code.specs.Canonical.{number_at}
use Rattle.canon_code.specs.Codes.{IsBefore}
use Rattle.canon_code.specs.Numbered.{entry, IsUnderWay}
use Rattle.canon_code.specs.Serials.{row, IsSerial}
use Rattle.canon_code.specs.WholeFrames.{IsScaledBy, IsWholeRow, HasNoWhole}
use Rattle.canon_code.proofs.Compared.{BeginsWith, begins_none, begins_more, differs, none_differs, eleven}
use Rattle.canon_code.proofs.WholeFrames.{AreWholeTo, whole_more, row_in_serial, row_is, after_from, after_broken, same_from}

-- the new numbers of the twins, in a serial's numbering
abbrev pub twins_of : (d : ℕ) (halves : List Half) (h : ℕ) (serial : List ℤ) → IsSerial d halves h serial → ℕ → ℕ
twins_of d halves h serial s k = s.number (twin_at halves (s.place k))

-- both vectors of the first triangles are whole, and where the scale is the best one the best begins with their numbers
pub record BeginsWhole (d : ℕ) (halves : List Half) (start : Scaled) (best : List ℤ) (t : ℕ) : Type 0 where
  pub whole : (serial : List ℤ) (s : IsSerial d halves start.h serial) → AreWholeTo d halves start s.place t
  pub begins : (serial : List ℤ) (s : IsSerial d halves start.h serial) → pos s.scale ≡ number_at best 1 → BeginsWith s.written (twins_of d halves start.h serial s) (length halves / 3) s.scale best t

module _ (d : ℕ) (field : IsFieldNumber d) (halves : List Half) (valid : IsTriangulation d halves) (best : List ℤ) (start : Scaled) (is : IsScaledBy d halves (number_at best 1) start)
    (long : length best ≡ 2 + 11 * (length halves / 3)) (first : number_at best 0 ≡ pos (length halves / 3)) where
  -- no triangle is read yet
  pub begins_first : BeginsWhole d halves start best 0
  begins_first = record {
    whole = λ serial s k less. absurd (omega (arith, less));
    begins = λ serial s one. begins_none s.written (twins_of d halves start.h serial s) (length halves / 3) s.scale best (omega (arith, long)) first (sym one);
  }

  -- where a half-edge has no whole numbers the start is after the best
  pub after_none : HasNoWhole d halves start → (serial : List ℤ) → IsSerial d halves start.h serial → IsBefore best serial
  after_none none serial s = after_broken d field halves valid (number_at best 1) start is serial s best (omega (arith, long)) first refl none

  -- where no triangle differs the best is its serial
  pub same_all : BeginsWhole d halves start best (length halves / 3) → IsSerial d halves start.h best
  same_all b =
      same_from d field halves valid (number_at best 1) start is b.whole best
      (λ serial s one.
      ap (λ (l : List ℤ). slice_cmp int_cmp l best) s.numbers ∙ none_differs s.written (twins_of d halves start.h serial s) (length halves / 3) s.scale best long (b.begins serial s one))

  -- triangle t, at which the search has looked
  module _ (t : ℕ) (inside : t < length halves / 3) (b : BeginsWhole d halves start best t) (places numbers : List ℕ) (w : IsUnderWay halves start.h places numbers (3 * (t + 1)))
      (r : List ℤ) (own : IsWholeRow d halves start (entry places) (entry numbers) t r) where
    of_serial : (serial : List ℤ) (s : IsSerial d halves start.h serial) → IsWholeRow d halves start s.place s.number t r
    of_serial serial s = row_in_serial d field halves valid (number_at best 1) start is serial s places numbers t w r own

    same_row : (serial : List ℤ) (s : IsSerial d halves start.h serial) → pos s.scale ≡ number_at best 1 → r ≡ row s.written (twins_of d halves start.h serial s) t
    same_row serial s one = row_is d field halves valid (number_at best 1) start is serial s one t (omega (arith, inside)) r (of_serial serial s)

    -- one that is the best's
    pub begins_next : slice_cmp int_cmp r (take 11 (drop (2 + 11 * t) best)) ≡ Equal → BeginsWhole d halves start best (t + 1)
    begins_next tie = record {
      whole = λ serial s. let f = of_serial serial s in whole_more d halves start s.place t (b.whole serial s) (f.0, f.1, f.2, f.3);
      begins = λ serial s one.
          begins_more s.written (twins_of d halves start.h serial s) (length halves / 3) s.scale best t (b.begins serial s one)
          (ap (λ (l : List ℤ). slice_cmp int_cmp l (take 11 (drop (2 + 11 * t) best))) (sym (same_row serial s one)) ∙ tie);
    }

    -- one that is greater
    pub after_greater : slice_cmp int_cmp r (take 11 (drop (2 + 11 * t) best)) ≡ Greater → (serial : List ℤ) → IsSerial d halves start.h serial → IsBefore best serial
    after_greater greater serial s =
        after_from d field halves valid (number_at best 1) start is serial s best (omega (arith, long)) first refl
        (λ one.
        ap (λ (l : List ℤ). slice_cmp int_cmp l best) s.numbers
        ∙ differs s.written (twins_of d halves start.h serial s) (length halves / 3) s.scale best t Greater inside (b.begins serial s one) (eleven (length halves / 3) t best long inside)
        (ap (λ (l : List ℤ). slice_cmp int_cmp l (take 11 (drop (2 + 11 * t) best))) (sym (same_row serial s one)) ∙ greater) (λ e. cc))
