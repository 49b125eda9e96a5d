use Rattle.std.proofs.Common.{◌+◌, ◌/◌, ℕ, length, arith}
use Rattle.terrain.proofs.CallerLemmas.{at_within, read}
use Rattle.veech_cli.proofs.JoinedTurns.{found_at}
use Rattle.veech_cli.proofs.turns.turns_by_workers.Goals as goal

pub returns : goal.returns
returns g c =
    let codes = c.args.codes.now in
    let parts = c.in_ok-parts.parts in
    let each = c.in_ok-parts.ensures.each in
    let size : ℕ = length codes / c.args.workers + 1 in
    c.joined.ensures c.args.terrain.now codes size (record {
      some = omega arith;
      count = (let l = c.in_ok-parts.ensures.len in omega (arith, l, parts.ok.0));
      inside = λ i less. let k = (each i (read parts.items i less).0 (omega (arith, less, parts.ok.0))).1 in omega (arith, k.argument_is.nonempty, k.argument_is.in_bounds);
      each = λ i part at.
          let h = at_within parts.items i part at in
          let k = (each i part (omega (arith, h, parts.ok.0))).1 in
          found_at c.args.terrain.now codes size parts.items i part k.argument.now at k.argument_is.value k.call;
    })
