-- For private contracts alone: a start that is tried.
use Rattle.std.specs.Prelude.{◌≡◌, ℕ, ℤ, pos, ◌/◌, List, length, unsigned_abs}
use Rattle.tri_core.specs.declared.half.Half.{Half}
use Rattle.canon_code.specs.declared.serial.Tried.{Tried}
use Rattle.canon_code.specs.Numbered.{IsNumberedBy}
use Rattle.canon_code.specs.Coordinates.{AreCoordinates}
use Rattle.canon_code.specs.Listed.{serial_to}

-- the numbering and the coordinates of start h
pub record IsTried (d : ℕ) (halves : List Half) (h : ℕ) (tried : Tried) : Type 0 where
  pub numbering : IsNumberedBy halves h tried.numbering.places.items tried.numbering.numbers.items
  pub scale : pos (unsigned_abs tried.coordinates.scale) ≡ tried.coordinates.scale
  pub coordinates : AreCoordinates d halves h (unsigned_abs tried.coordinates.scale) tried.coordinates.list.items

-- the serial that these make
abbrev pub tried_serial : List Half → Tried → List ℤ
tried_serial halves tried =
    serial_to halves tried.numbering.places.items tried.numbering.numbers.items tried.coordinates.list.items (length halves / 3) (unsigned_abs tried.coordinates.scale) (length halves / 3)
