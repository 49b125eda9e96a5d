use Rattle.std.proofs.Common.{◌≡◌, ◌<◌, ◌+◌, ◌-◌, ◌/◌, List, length, map, get_or, arith, sym, ap, ◌∙◌, subst}
use Rattle.std.specs.Prelude.{ℤ}
use Rattle.terrain.specs.Places.{IsAt}
use Rattle.explore_core.proofs.Elements.{number_read, key_read}
use Rattle.explore_core.proofs.Searches.{halve_up, halve_down, gap_at, not_there}
use Rattle.explore_core.proofs.search.find.Goals as goal

pub returns-in-Equal-clause-found : goal.returns-in-Equal-clause-found
returns-in-Equal-clause-found g c =
    let laws = g.met.T.Terrain g.world.𝓛 g.world.𝓜 g.world.𝓡 ((λ s x. x), (λ x. x), (λ x. x), λ x. x) in
    let numbers = g.T.Key.Numbers.numbers in
    let key : g.row.R.Denot → List ℤ = λ r. numbers (g.R.Keyed.key_of r) in
    let keys = map key c.args.rows.now in
    let k = numbers c.args.key.now in
    let middle = c.loop-low.low + (c.loop-low.high - c.loop-low.low) / 2 in
    let l = c.loop-low.invariant in
    let within : middle < length c.args.places.now = omega arith in
    let at = number_read c.args.places.now middle within in
    let place = get_or c.args.places.now middle 0 in
    let row = c.index-rows-place.result in
    let there = key_read key c.args.rows.now place row (c.requires.within middle place at) c.index-rows-place.is in
    let same : g.T.Terrain.order (key row) k ≡ g.T.Terrain.order (numbers c.key.result.now) k = ap (λ x. g.T.Terrain.order (numbers x) k) (sym c.key.ensures) in
    subst (λ (x : List ℤ). IsAt keys place x) (laws.order_exact (key row) k (same ∙ sym c.in-Equal.ensures)) there

pub loop-low-preserved-in-Less : goal.loop-low-preserved-in-Less
loop-low-preserved-in-Less g c =
    let laws = g.met.T.Terrain g.world.𝓛 g.world.𝓜 g.world.𝓡 ((λ s x. x), (λ x. x), (λ x. x), λ x. x) in
    let numbers = g.T.Key.Numbers.numbers in
    let key : g.row.R.Denot → List ℤ = λ r. numbers (g.R.Keyed.key_of r) in
    let keys = map key c.args.rows.now in
    let k = numbers c.args.key.now in
    let middle = c.loop-low.low + (c.loop-low.high - c.loop-low.low) / 2 in
    let l = c.loop-low.invariant in
    let within : middle < length c.args.places.now = omega arith in
    let at = number_read c.args.places.now middle within in
    let place = get_or c.args.places.now middle 0 in
    let row = c.index-rows-place.result in
    let there = key_read key c.args.rows.now place row (c.requires.within middle place at) c.index-rows-place.is in
    let same : g.T.Terrain.order (key row) k ≡ g.T.Terrain.order (numbers c.key.result.now) k = ap (λ x. g.T.Terrain.order (numbers x) k) (sym c.key.ensures) in
    halve_up g.T.Terrain.order keys c.args.places.now k laws.order_total c.requires c.loop-low.low c.loop-low.high middle place (key row) l (omega arith) (omega arith) at there (same ∙ sym c.in-Less.ensures)

pub loop-low-preserved : goal.loop-low-preserved
loop-low-preserved g c =
    let laws = g.met.T.Terrain g.world.𝓛 g.world.𝓜 g.world.𝓡 ((λ s x. x), (λ x. x), (λ x. x), λ x. x) in
    let numbers = g.T.Key.Numbers.numbers in
    let key : g.row.R.Denot → List ℤ = λ r. numbers (g.R.Keyed.key_of r) in
    let keys = map key c.args.rows.now in
    let k = numbers c.args.key.now in
    let middle = c.loop-low.low + (c.loop-low.high - c.loop-low.low) / 2 in
    let l = c.loop-low.invariant in
    let within : middle < length c.args.places.now = omega arith in
    let at = number_read c.args.places.now middle within in
    let place = get_or c.args.places.now middle 0 in
    let row = c.index-rows-place.result in
    let there = key_read key c.args.rows.now place row (c.requires.within middle place at) c.index-rows-place.is in
    let same : g.T.Terrain.order (key row) k ≡ g.T.Terrain.order (numbers c.key.result.now) k = ap (λ x. g.T.Terrain.order (numbers x) k) (sym c.key.ensures) in
    halve_down g.T.Terrain.order keys c.args.places.now k laws.order_total c.requires c.loop-low.low c.loop-low.high middle place (key row) l (omega arith) (omega arith) at there (same ∙ sym c.in-Greater.ensures)

pub returns-clause-gap : goal.returns-clause-gap
returns-clause-gap g c =
    let laws = g.met.T.Terrain g.world.𝓛 g.world.𝓜 g.world.𝓡 ((λ s x. x), (λ x. x), (λ x. x), λ x. x) in
    let numbers = g.T.Key.Numbers.numbers in
    let key : g.row.R.Denot → List ℤ = λ r. numbers (g.R.Keyed.key_of r) in
    let keys = map key c.args.rows.now in
    let k = numbers c.args.key.now in
    gap_at g.T.Terrain.order keys c.args.places.now k c.loop-low.low c.loop-low.high c.loop-low.invariant c.loop-low-test.false

pub returns-clause-fresh : goal.returns-clause-fresh
returns-clause-fresh g c =
    let laws = g.met.T.Terrain g.world.𝓛 g.world.𝓜 g.world.𝓡 ((λ s x. x), (λ x. x), (λ x. x), λ x. x) in
    let numbers = g.T.Key.Numbers.numbers in
    let key : g.row.R.Denot → List ℤ = λ r. numbers (g.R.Keyed.key_of r) in
    let keys = map key c.args.rows.now in
    let k = numbers c.args.key.now in
    not_there g.T.Terrain.order keys c.args.places.now k laws.order_total c.requires c.loop-low.low (gap_at g.T.Terrain.order keys c.args.places.now k c.loop-low.low c.loop-low.high c.loop-low.invariant c.loop-low-test.false)
