use Rattle.std.proofs.Common.{◌≡◌, [], ap, subst, ◌∙◌, arith}
use Rattle.walls_out.specs.declared.view.View.{View}
use Rattle.walls_out.specs.Views.{joined}
use Rattle.walls_out.specs.Told.{HasDoneAll}
use Rattle.walls_out.proofs.Steps.{copies, joined_copy, joined_owes}
use Rattle.walls_out.proofs.count.CountSeat.certify.Goals as goal

pub split_seat-requires : goal.split_seat-requires
split_seat-requires c = (c.requires.name.1, omega (arith, c.args.count.now.one), copies _ _)

pub returns-clause-done : goal.returns-clause-done
returns-clause-done c =
    let v = c.args.self.now.seat.me.0 in
    let w = c.args.seen.now.seat.me.0 in
    let copy = ap (λ m. m.0) c.split_seat.ensures.4 in
    let is = c.join.ensures.view ∙ ap (λ (u : View). joined v u) copy in
    let zero = c.look.ensures.stays (ap (λ (u : View). u.seen) is ∙ joined_copy v w c.requires.seen) in
    let told = c.look.ensures.zero zero in
    let told' = subst (λ (u : View). (u.owed ≡ []) × HasDoneAll u) is (told.1, told.2) in
    (joined_owes v w told'.0, told'.1)
