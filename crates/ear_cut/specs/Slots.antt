-- The slots of sides in a table of places; only private clauses cite it.
use Rattle.std.specs.Prelude.{◌≡◌, ℕ, ◌+◌, ◌-◌, ◌*◌, ◌<◌, ◌≤◌, List, length, take, get_or, ⊤}
use Rattle.plane.specs.declared.vec2.Vec2.{Vec2}
use Rattle.ear_cut.specs.Cuttings.{Origin, Side}
use Rattle.ear_cut.specs.Steps.{total, source_at}

-- how many sides polygons have
abbrev pub side_count : List (List Vec2) → ℕ
side_count polygons = total (λ (sides : List Vec2). length sides) polygons

-- the slots of the first sides of polygons, behind two for each triangle; and, last, how many slots there are
pub record AreFirstSlots (triangles : ℕ) (polygons : List (List Vec2)) (first : List ℕ) : Type 0 where
  pub count : length first ≡ length polygons + 1
  pub each : (p : ℕ) → p ≤ length polygons → get_or first p 0 ≡ 2 * triangles + side_count (take p polygons)

-- how many slots there are
abbrev pub slot_count : List ℕ → ℕ
slot_count first = get_or first (length first - 1) 0

-- the slot of a side, by where it comes from
abbrev pub slot_in : List ℕ → Origin → ℕ
slot_in first (Origin.outer p e) = get_or first p 0 + e
slot_in first (Origin.chord t) = 2 * t
slot_in first (Origin.back t) = 2 * t + 1

-- the first side of its polygon has a slot
abbrev pub HasFirstSlot : List ℕ → Origin → Type 0
HasFirstSlot first (Origin.outer p e) = p < length first
HasFirstSlot first (Origin.chord t) = ⊤
HasFirstSlot first (Origin.back t) = ⊤

-- each side has a slot, and no two have one
pub record AreSlots (first : List ℕ) (sides : List Side) : Type 0 where
  pub there : (h : ℕ) → h < length sides → HasFirstSlot first (source_at sides h)
  pub inside : (h : ℕ) → h < length sides → slot_in first (source_at sides h) < slot_count first
  pub once : (h k : ℕ) → h < length sides → k < length sides → slot_in first (source_at sides h) ≡ slot_in first (source_at sides k) → h ≡ k

-- in the slots of the first so many sides stand their numbers
abbrev pub ArePlaces : List ℕ → List Side → ℕ → List ℕ → Type 0
ArePlaces first sides many places = (h : ℕ) → h < many → get_or places (slot_in first (source_at sides h)) 0 ≡ h
