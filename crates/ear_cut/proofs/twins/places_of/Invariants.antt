use Rattle.std.proofs.Common.{◌≡◌, vec_len}
use Rattle.ear_cut.specs.Steps.{seen}
use Rattle.ear_cut.specs.Slots.{slot_count, ArePlaces}
use Rattle.ear_cut.proofs.twins.places_of.Given as goal

abbrev pub invariant-loop-h : goal.invariant-loop-h
invariant-loop-h l = record {
  long : vec_len l.places ≡ slot_count l.first;
  so_far : ArePlaces l.first (seen l.edges) l.h l.places.items;
}
