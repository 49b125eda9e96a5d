use Rattle.std.proofs.Common.{◌∙◌, ◌<◌, ◌≤◌, ℕ, List, length, arith}
use Rattle.std.proofs.lemmas.List.{length-set}
use Rattle.canon_code.specs.Numbered.{entry}
use Rattle.canon_code.proofs.SameSerials.{alike_on, leads_back, keeps_serials}
use Rattle.canon_code.proofs.orbits.shorten.Goals as goal

pub loop-k-preserved : goal.loop-k-preserved
loop-k-preserved c =
    let links : List ℕ = c.loop-k.links in
    let k : ℕ = c.loop-k.k in
    let is = c.loop-k.invariant in
    let less : k < length links = omega (arith, c.loop-k-test.true, is.0) in
    let at : ℕ = entry links k in
    let back : at ≤ k = is.1 k less in
    let inside : at < length links = omega (arith, back, less) in
    let before : entry links at ≤ k = omega (arith, back, is.1 at inside) in (
      length-set links k (entry links at) ∙ is.0,
      leads_back links k (entry links at) less before is.1,
      λ d halves keep.
          let now = is.2 d halves keep in
          keeps_serials d halves links k (entry links at) less (alike_on d halves k at (entry links at) (now k less) (now at inside)) now,
    )
