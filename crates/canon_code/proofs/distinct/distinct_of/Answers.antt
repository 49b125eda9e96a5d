use Rattle.std.proofs.Common.{rules, ◌≡◌, ℕ, List, [], sym}
use mathlib.Core.Path.{subst₂}
use Rattle.canon_code.specs.Distinct.{AreKept}
use Rattle.canon_code.proofs.KeptVectors.{kept_none}
use Rattle.canon_code.proofs.distinct.distinct_of.Goals as goal

pub loop-k-init : goal.loop-k-init
loop-k-init c =
    let first : c.in_ok-firsts.firsts.items ≡ [] = search rules in
    let second : c.in_ok-places.places.items ≡ [] = search rules in
    subst₂ (λ (x y : List ℕ). AreKept c.args.tri.now.halves x y 0) (sym first) (sym second) (kept_none c.args.tri.now.halves)
