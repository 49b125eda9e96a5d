-- For private contracts alone: half-edges that have the same serials, since symmetries take them to one another.
use Rattle.std.specs.Prelude.{◌≡◌, ℕ, ℤ, ◌<◌, ◌≤◌, List, length}
use Rattle.tri_core.specs.declared.half.Half.{Half}
use Rattle.canon_code.specs.declared.canon.Best.{Best}
use Rattle.canon_code.specs.Serials.{IsSerial}
use Rattle.canon_code.specs.Numbered.{entry, IsNumberedBy}
use Rattle.canon_code.specs.Least.{IsBestTo}

-- half-edges h and k have the same serials
pub record HaveSameSerials (d : ℕ) (halves : List Half) (h k : ℕ) : Type 0 where
  pub forth : (serial : List ℤ) → IsSerial d halves h serial → IsSerial d halves k serial
  pub back : (serial : List ℤ) → IsSerial d halves k serial → IsSerial d halves h serial

-- the half-edges at the same places of two lists have the same serials
abbrev pub AreAlike : ℕ → List Half → List ℕ → List ℕ → Type 0
AreAlike d halves list other = (k : ℕ) → k < length list → HaveSameSerials d halves (entry list k) (entry other k)

-- each number of the list is below n
abbrev pub AreBelow : ℕ → List ℕ → Type 0
AreBelow n list = (i : ℕ) → i < length list → entry list i < n

-- each half-edge is linked to one that isn't after it
abbrev pub LeadBack : List ℕ → Type 0
LeadBack links = (k : ℕ) → k < length links → entry links k ≤ k

-- and to one that has the same serials
abbrev pub KeepSerials : ℕ → List Half → List ℕ → Type 0
KeepSerials d halves links = (k : ℕ) → k < length links → HaveSameSerials d halves k (entry links k)

-- each half-edge has such a link
pub record AreLinked (d : ℕ) (halves : List Half) (links : List ℕ) : Type 0 where
  pub as_many : length links ≡ length halves
  pub back : LeadBack links
  pub same : KeepSerials d halves links

-- such links, and the half-edges in the order of the new numbers from a start of the best
pub record AreOrbits (d : ℕ) (halves : List Half) (best : List ℤ) (places links : List ℕ) : Type 0 where
  pub start : ℕ
  pub numbers : List ℕ
  pub numbering : IsNumberedBy halves start places numbers
  pub serial : IsSerial d halves start best
  pub linked : AreLinked d halves links

-- the best of the first starts, and the orbits that are known
pub record IsBestOf (d : ℕ) (halves : List Half) (bound : ℕ) (best : Best) : Type 0 where
  pub least : IsBestTo d halves bound best.serial.items best.starts.items
  pub orbits : AreOrbits d halves best.serial.items best.orbits.places.items best.orbits.links.items
