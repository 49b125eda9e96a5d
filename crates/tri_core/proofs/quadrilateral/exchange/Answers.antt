use Rattle.std.proofs.Common.{ℕ, List}
use Rattle.plane.specs.declared.vec2.Vec2.{Vec2}
use Rattle.tri_core.specs.declared.half.Half.{Half}
use Rattle.tri_core.specs.HalfEdges.{twin_at}
use Rattle.tri_core.specs.Flips.{IsOuter}
use Rattle.tri_core.specs.Slots.{IsCarried}
use Rattle.tri_core.proofs.Links.{LeftOne, LeftTwo, LeftThree, first-within, first-link, second-within, second-link, third-within, third-link, fourth-within, fourth-link}
use Rattle.tri_core.proofs.quadrilateral.exchange.Goals as goal

pub link_back-requires-clause-twin : goal.link_back-requires-clause-twin
link_back-requires-clause-twin c =
    let halves : List Half = c.args.halves.now in
    let h : ℕ = c.args.edge in
    let g : ℕ = twin_at halves h in
    let u : Vec2 = c.args.diagonal.vec in
    let v : Vec2 = c.args.diagonal.opposite in
    let apart = c.requires.apart in
    let pairs = c.requires.pairs in
    let start : IsCarried halves h g u v (IsOuter h g) c.write_slots.new.halves = c.write_slots.ensures in
    first-within halves h g u v apart pairs c.write_slots.new.halves c.previous.result c.previous.ensures start

pub link_back-requires-2-clause-twin : goal.link_back-requires-2-clause-twin
link_back-requires-2-clause-twin c =
    let halves : List Half = c.args.halves.now in
    let h : ℕ = c.args.edge in
    let g : ℕ = twin_at halves h in
    let u : Vec2 = c.args.diagonal.vec in
    let v : Vec2 = c.args.diagonal.opposite in
    let apart = c.requires.apart in
    let pairs = c.requires.pairs in
    let start : IsCarried halves h g u v (IsOuter h g) c.write_slots.new.halves = c.write_slots.ensures in
    let first : IsCarried halves h g u v (LeftOne h g) c.link_back.new.halves = first-link halves h g u v apart pairs c.write_slots.new.halves c.previous.result c.link_back.new.halves c.previous.ensures c.link_back.ensures start in
    second-within halves h g u v apart pairs c.link_back.new.halves c.next.result c.next.ensures first

pub link_back-requires-3-clause-twin : goal.link_back-requires-3-clause-twin
link_back-requires-3-clause-twin c =
    let halves : List Half = c.args.halves.now in
    let h : ℕ = c.args.edge in
    let g : ℕ = twin_at halves h in
    let u : Vec2 = c.args.diagonal.vec in
    let v : Vec2 = c.args.diagonal.opposite in
    let apart = c.requires.apart in
    let pairs = c.requires.pairs in
    let start : IsCarried halves h g u v (IsOuter h g) c.write_slots.new.halves = c.write_slots.ensures in
    let first : IsCarried halves h g u v (LeftOne h g) c.link_back.new.halves = first-link halves h g u v apart pairs c.write_slots.new.halves c.previous.result c.link_back.new.halves c.previous.ensures c.link_back.ensures start in
    let second : IsCarried halves h g u v (LeftTwo g) c.link_back-2.new.halves = second-link halves h g u v apart pairs c.link_back.new.halves c.next.result c.link_back-2.new.halves c.next.ensures c.link_back-2.ensures first in
    third-within halves h g u v apart pairs c.link_back-2.new.halves c.previous-2.result c.previous-2.ensures second

pub link_back-requires-4-clause-twin : goal.link_back-requires-4-clause-twin
link_back-requires-4-clause-twin c =
    let halves : List Half = c.args.halves.now in
    let h : ℕ = c.args.edge in
    let g : ℕ = twin_at halves h in
    let u : Vec2 = c.args.diagonal.vec in
    let v : Vec2 = c.args.diagonal.opposite in
    let apart = c.requires.apart in
    let pairs = c.requires.pairs in
    let start : IsCarried halves h g u v (IsOuter h g) c.write_slots.new.halves = c.write_slots.ensures in
    let first : IsCarried halves h g u v (LeftOne h g) c.link_back.new.halves = first-link halves h g u v apart pairs c.write_slots.new.halves c.previous.result c.link_back.new.halves c.previous.ensures c.link_back.ensures start in
    let second : IsCarried halves h g u v (LeftTwo g) c.link_back-2.new.halves = second-link halves h g u v apart pairs c.link_back.new.halves c.next.result c.link_back-2.new.halves c.next.ensures c.link_back-2.ensures first in
    let third : IsCarried halves h g u v (LeftThree g) c.link_back-3.new.halves = third-link halves h g u v apart pairs c.link_back-2.new.halves c.previous-2.result c.link_back-3.new.halves c.previous-2.ensures c.link_back-3.ensures second in
    fourth-within halves h g u v apart pairs c.link_back-3.new.halves c.next-2.result c.next-2.ensures third

pub returns : goal.returns
returns c =
    let halves : List Half = c.args.halves.now in
    let h : ℕ = c.args.edge in
    let g : ℕ = twin_at halves h in
    let u : Vec2 = c.args.diagonal.vec in
    let v : Vec2 = c.args.diagonal.opposite in
    let apart = c.requires.apart in
    let pairs = c.requires.pairs in
    let start : IsCarried halves h g u v (IsOuter h g) c.write_slots.new.halves = c.write_slots.ensures in
    let first : IsCarried halves h g u v (LeftOne h g) c.link_back.new.halves = first-link halves h g u v apart pairs c.write_slots.new.halves c.previous.result c.link_back.new.halves c.previous.ensures c.link_back.ensures start in
    let second : IsCarried halves h g u v (LeftTwo g) c.link_back-2.new.halves = second-link halves h g u v apart pairs c.link_back.new.halves c.next.result c.link_back-2.new.halves c.next.ensures c.link_back-2.ensures first in
    let third : IsCarried halves h g u v (LeftThree g) c.link_back-3.new.halves = third-link halves h g u v apart pairs c.link_back-2.new.halves c.previous-2.result c.link_back-3.new.halves c.previous-2.ensures c.link_back-3.ensures second in
    fourth-link halves h g u v apart pairs c.link_back-3.new.halves c.next-2.result c.link_back-4.new.halves c.next-2.ensures c.link_back-4.ensures third
