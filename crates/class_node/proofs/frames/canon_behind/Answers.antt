use Rattle.class_node.specs.Once.{first_start}
use Rattle.class_node.proofs.frames.canon_behind.Goals as goal

pub returns-in-Ok-clause-own : goal.returns-in-Ok-clause-own
returns-in-Ok-clause-own c = ∣ (c.number-number.ensures.valid, c.in-Ok.ensures.made) ∣₁

pub returns-in-Ok-clause-fits : goal.returns-in-Ok-clause-fits
returns-in-Ok-clause-fits c = let made = c.in-Ok.ensures.made in made.3

pub returns-in-Ok-clause-frame : goal.returns-in-Ok-clause-frame
returns-in-Ok-clause-frame c =
    let canon = c.in-Ok.canon in
    let first = first_start c.args.f.now c.args.tri.now.halves canon.code canon.starts.items canon.start c.in-Ok.ensures.starts c.in-Ok.ensures.start in
    record {
      start = canon.start;
      is_start = first.0;
      first = first.1;
      frame_at = record { carries = c.in-Ok.ensures.frame; lowest = c.denominator-lowest.ensures.lowest };
    }
