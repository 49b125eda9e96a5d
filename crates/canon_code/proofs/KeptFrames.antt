-- Frames that are kept.
use Rattle.std.proofs.Common.{◌≡◌, ℕ, ◌*◌, ◌<◌, List, length, refl, sym, ap, ◌∙◌, subst}
use mathlib.Core.Path.{subst₂}
use Rattle.std.specs.Prelude.{ℤ, pos, ◌<ℤ◌, ◌*ℤ◌, unsigned_abs, IfSome, get_or}
use Rattle.std.proofs.lemmas.List.Elements.{All-get_or}
use Rattle.quad_field.specs.declared.quad.Quad.{Quad}
use Rattle.quad_field.specs.FieldNumber.{IsFieldNumber}
use Rattle.quad_field.specs.Quads.{quad_ops}
use Rattle.plane.specs.Vectors.{Vector}
use Rattle.tri_core.specs.declared.half.Half.{Half}
use Rattle.tri_core.specs.HalfEdges.{vector_at}
use Rattle.tri_core.specs.Triangulation.{IsTriangulation}
use Rattle.canon_code.specs.declared.whole.Scaled.{Scaled}
use Rattle.canon_code.specs.declared.kept_frames.KeptFrame.{KeptFrame}
use Rattle.canon_code.specs.declared.kept_frames.KeptFrames.{KeptFrames}
use Rattle.canon_code.specs.declared.coordinates.Frame.{Frame}
use Rattle.canon_code.specs.Numbered.{entry}
use Rattle.canon_code.specs.Coordinates.{pair_at, AreCoordinates}
use Rattle.canon_code.specs.Distinct.{ArePairs, AreListed, AreTaken}
use Rattle.canon_code.specs.Serials.{IsWritten, IsScale}
use Rattle.canon_code.specs.Small.{IsSmallFrame}
use Rattle.canon_code.specs.WholeFrames.{IsFrameOf, IsWhole, IsScaledBy}
use Rattle.canon_code.specs.KeptFrames.{HaveOneFrame, IsKeptFrame, AreKeptFrames}
use Rattle.canon_code.proofs.KeptVectors.{listed_from}
use Rattle.canon_code.proofs.WholeFrames.{whole_coordinates}

-- one that is kept
pub kept_at : (d : ℕ) (halves : List Half) (kept : KeptFrames) → AreKeptFrames d halves kept → (i : ℕ) (frame : KeptFrame) → i < length kept.frames.items → frame ≡ get_or kept.frames.items i frame
    → IsKeptFrame d halves kept.distinct.firsts.items kept.scale frame
kept_at d halves kept is i frame inside read =
    subst (IsKeptFrame d halves kept.distinct.firsts.items kept.scale) (sym read) (All-get_or (IsKeptFrame d halves kept.distinct.firsts.items kept.scale) kept.frames.items i frame inside is.each)

-- the frame of a start is that of each other with the same two vectors
pub moved_frame : (d : ℕ) (halves : List Half) (m : ℤ) (start later : Scaled) → IsScaledBy d halves m start → HaveOneFrame halves start.h later.h → later.h < length halves
    → later.frame ≡ start.frame → later.divisor ≡ start.divisor → IsScaledBy d halves m later
moved_frame d halves m start later is same inside frame divisor = record {
  inside = inside;
  frame = subst (IsFrameOf d halves later.h) (sym frame) (record { e = is.frame.e ∙ same.0; g = is.frame.g ∙ same.1; norm = is.frame.norm });
  positive = subst (λ z. pos 0 <ℤ z) (sym divisor) is.positive;
  some = is.some;
  norm = ap (λ f. f.norm) frame ∙ is.norm ∙ ap (λ z. m *ℤ z) (sym divisor);
  least = λ n scale. is.least n (scale_back n scale);
}
  where
    scale_back : (n : ℕ) → IsScale d halves later.h n → IsScale d halves start.h n
    scale_back n scale = (
      scale.0,
      λ k less. (
        (scale.1 k less).0,
        subst₂ (λ (e g : Vector Quad). IsWritten (quad_ops d) ((quad_ops d).int (pos n)) e g (vector_at halves k) (scale.1 k less).0) (sym same.0) (sym same.1) (scale.1 k less).1,
      ),
    )

-- and so are its numbers in 64 bits, and those of the different vectors
pub moved_small : (d : ℕ) (start later : Scaled) → later.frame ≡ start.frame → later.divisor ≡ start.divisor → later.small ≡ start.small
    → IfSome start.small (IsSmallFrame d start.frame start.divisor) → IfSome later.small (IsSmallFrame d later.frame later.divisor)
moved_small d start later frame divisor small is =
    subst (λ s. IfSome s (IsSmallFrame d later.frame later.divisor)) (sym small) (subst₂ (λ (f : Frame) (g : ℤ). IfSome start.small (IsSmallFrame d f g)) (sym frame) (sym divisor) is)

pub moved_pairs : (d : ℕ) (halves : List Half) (start later : Scaled) (firsts : List ℕ) (list : List Quad) → later.frame ≡ start.frame → later.divisor ≡ start.divisor
    → ArePairs d halves start firsts list → ArePairs d halves later firsts list
moved_pairs d halves start later firsts list frame divisor is = record {
  few = is.few;
  whole = λ i less. subst₂ (λ (f : Frame) (g : ℤ). IsWhole d f g (vector_at halves (entry firsts i)) (pair_at list i)) (sym frame) (sym divisor) (is.whole i less);
}

-- a start with the two vectors of a frame that is kept: the numbers that are listed with the frame are its coordinates
module _ (d : ℕ) (field : IsFieldNumber d) (halves : List Half) (valid : IsTriangulation d halves) (kept : KeptFrames) (all : AreKeptFrames d halves kept)
    (frame : KeptFrame) (own : IsKeptFrame d halves kept.distinct.firsts.items kept.scale frame) (h : ℕ) (inside : h < length halves) (same : HaveOneFrame halves frame.start.h h) where
  abbrev later : Scaled
  later = record { h = h; frame = frame.start.frame; divisor = frame.start.divisor; small = frame.start.small }

  scaled : IsScaledBy d halves kept.scale later
  scaled = moved_frame d halves kept.scale frame.start later own.start same inside refl refl

  listed : AreListed d halves later kept.distinct.places.items frame.list.items
  listed =
      listed_from d halves later kept.distinct.firsts.items kept.distinct.places.items frame.list.items all.distinct
      (moved_pairs d halves frame.start later kept.distinct.firsts.items frame.list.items refl refl own.pairs)

  pub kept_coordinates : (taken : List Quad) → length taken ≡ 2 * length halves → AreTaken kept.distinct.places.items frame.list.items taken (length halves)
      → AreCoordinates d halves h (unsigned_abs kept.scale) taken
  kept_coordinates taken long is =
      whole_coordinates d field halves valid kept.scale later scaled taken long
      (λ k less. subst (IsWhole d frame.start.frame frame.start.divisor (vector_at halves k)) (sym (is.same k less)) (listed.whole k less (is.inside k less)))
