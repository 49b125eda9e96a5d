use Rattle.std.proofs.Common.{arith, rules, Some, None, codes}
use Rattle.std.proofs.lemmas.Bool.Decides.{Decides-eqb}
use Rattle.std.proofs.lemmas.Slice.Eq.{strip_prefix_is}
use Rattle.surface_text.proofs.Runs.{sides_value, sides_large, sides_not, sides_end, sides_empty, sides_beyond}
use Rattle.surface_text.proofs.sides.sides_of.Goals as goal

pub returns-in-Not : goal.returns-in-Not
returns-in-Not c =
    let head = strip_prefix_is Decides-eqb c.sides.rest.now (codes " ") (Some c.in-Some.behind) c.in-Some.ensures.cases in
    sides_not c.sides.invariant head c.front.ensures c.in-Not.ensures

pub sides-preserved-in_ok-push-in-Value : goal.sides-preserved-in_ok-push-in-Value
sides-preserved-in_ok-push-in-Value c =
    let head = strip_prefix_is Decides-eqb c.sides.rest.now (codes " ") (Some c.in-Some.behind) c.in-Some.ensures.cases in
    rw c.in_ok-push-in-Value.ensures.items (sides_value c.in-Value.v c.sides.invariant head c.front.ensures c.in-Value.ensures)

pub sides-preserved : goal.sides-preserved
sides-preserved c =
    let head = strip_prefix_is Decides-eqb c.sides.rest.now (codes " ") (Some c.in-Some.behind) c.in-Some.ensures.cases in
    sides_large c.sides.invariant head c.front.ensures c.in-Large.ensures

pub returns-then-not-all_bounded : goal.returns-then-not-all_bounded
returns-then-not-all_bounded c =
    let none = strip_prefix_is Decides-eqb c.sides.rest.now (codes " ") None c.in_default.ensures.cases in
    sides_beyond c.sides.invariant none (search rules)

pub returns-then-is_empty : goal.returns-then-is_empty
returns-then-is_empty c =
    let none = strip_prefix_is Decides-eqb c.sides.rest.now (codes " ") None c.in_default.ensures.cases in
    sides_empty c.sides.invariant none (search rules) (search rules)

pub returns : goal.returns
returns c =
    let none = strip_prefix_is Decides-eqb c.sides.rest.now (codes " ") None c.in_default.ensures.cases in
    sides_end c.sides.invariant none (search rules) (grind arith)
