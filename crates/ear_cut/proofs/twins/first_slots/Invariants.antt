use Rattle.std.proofs.Common.{◌≡◌, ◌+◌, ◌*◌, map, take}
use Rattle.ear_cut.specs.Slots.{side_count, AreFirstSlots}
use Rattle.ear_cut.proofs.Courses.{of}
use Rattle.ear_cut.proofs.twins.first_slots.Given as goal

abbrev pub invariant-loop-polygon : goal.invariant-loop-polygon
invariant-loop-polygon l = record {
  slots : AreFirstSlots l.triangles (map of (take l.polygon-index l.polygons)) l.first.items;
  last : l.slot ≡ 2 * l.triangles + side_count (map of (take l.polygon-index l.polygons));
}
