use Rattle.walls_out.specs.Seats.{view_of}
use Rattle.wall_steal.specs.Cells.{cell_of}
use Rattle.explore_shared.proofs.Ends.{ends_well}
use Rattle.explore_shared.proofs.run.run_one.Goals as goal

pub returns : goal.returns
returns g c = ends_well g.N.Naming.count (cell_of c.args.halt.now) (view_of c.args.worker.seat) _ c.work.result c.work.ensures.drained c.work.ensures.halted
