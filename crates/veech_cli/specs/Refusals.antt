-- The statuses that say why a step of a run gave nothing. They serve private clauses alone.
use Rattle.io_ends.specs.declared.reading.ReadAll.{ReadAll}
use Rattle.io_ends.specs.declared.reading.ReadAll.TheVariants as read_faults
use Rattle.surface_text.specs.declared.file.TextFault.{TextFault}
use Rattle.surface_text.specs.declared.file.TextFault.TheVariants as text_faults
use Rattle.gluing.specs.declared.fault.GlueFault.{GlueFault}
use Rattle.gluing.specs.declared.fault.GlueFault.TheVariants as glue_faults
use Rattle.delaunay_flip.specs.declared.base.BaseFault.{BaseFault}
use Rattle.delaunay_flip.specs.declared.base.BaseFault.TheVariants as base_faults
use Rattle.parabola_region.specs.declared.fault.RegionFault.{RegionFault}
use Rattle.parabola_region.specs.declared.fault.RegionFault.TheVariants as region_faults
use Rattle.path_walk.specs.declared.fault.WalkFault.{WalkFault}
use Rattle.path_walk.specs.declared.fault.WalkFault.TheVariants as walk_faults
use Rattle.answer_text.specs.declared.status.Status.{Status}
use Rattle.answer_text.specs.declared.status.Status.TheVariants.{File, NotStrict, FlipsEnded, TooWide, ReadFault, Memory, No}
use Rattle.answer_text.specs.declared.no_cause.NoCause.TheVariants.{Wall}
use Rattle.answer_text.specs.declared.place.Place.TheVariants.{Flips, Base, Walk}

-- the source wasn't read
abbrev pub status_of_reading : ReadAll → Status
status_of_reading read_faults.Fault = ReadFault
status_of_reading read_faults.TooLong = File 0 0
status_of_reading read_faults.Memory = Memory

-- the text of the input is refused
abbrev pub status_of_text : TextFault → Status
status_of_text (text_faults.Bad cause line) = File cause line
status_of_text text_faults.Memory = Memory

-- the polygons of the input aren't glued
abbrev pub status_of_gluing : GlueFault → Status
status_of_gluing (glue_faults.Bad cause line) = File cause line
status_of_gluing glue_faults.Memory = Memory

-- the triangulation of the input has no base
abbrev pub status_of_base : BaseFault → Status
status_of_base (base_faults.NotStrict edge) = NotStrict edge
status_of_base (base_faults.FlipsEnded point) = FlipsEnded point
status_of_base (base_faults.Wide formula flips edge) = TooWide formula (Flips flips edge)
status_of_base base_faults.Memory = Memory

-- the region of the base isn't found
abbrev pub status_of_region : RegionFault → Status
status_of_region (region_faults.Wide formula) = TooWide formula Base
status_of_region region_faults.Memory = Memory

-- the walk has no end
abbrev pub status_of_walk : WalkFault → Status
status_of_walk (walk_faults.NoSuchWall place) = No (Wall place)
status_of_walk (walk_faults.Wide formula place) = TooWide formula (Walk place)
status_of_walk walk_faults.Memory = Memory
