use Rattle.std.proofs.Common.{◌≡◌, ◌<◌, ◌+◌, ◌∙◌, ◌++◌, ◌∷◌, [], List, length, map, take, refl, sym, ap, subst, arith}
use mathlib.Core.Path.{subst₂}
use Rattle.std.specs.Prelude.{Err}
use Rattle.std.proofs.lemmas.List.{get_or_read}
use Rattle.std.proofs.lemmas.Result.{err_from_is_err_and}
use Rattle.plane.specs.Matrices.{FieldMatrix, identity}
use Rattle.terrain.specs.Places.{IsAt}
use Rattle.quotient.specs.declared.fault.QuotientFault.TheVariants.{Wide}
use Rattle.quotient.specs.Trees.{row_at, matrix_at}
use Rattle.quotient.specs.Quotients.{Quotient, turn_quotient, turn_quotients, AreValues}
use Rattle.quotient.specs.WideProducts.{IsWideTurn}
use Rattle.quotient.proofs.Rows.{row_read, err_is}
use Rattle.quotient.proofs.Values.{place_more}
use Rattle.quotient.proofs.quotients.take_all_turns.Goals as goal

pub returns-in_err-take_turns-clause-wide : goal.returns-in_err-take_turns-clause-wide
returns-in_err-take_turns-clause-wide c = λ formula e.
    let k = c.loop-c.c in
    let row = row_read (λ v. v.items) c.args.turns.now k c.index-turns-c.result (omega arith) c.index-turns-c.is ∙ sym c.deref.ensures.value in
    let within : k < length c.args.turns.now = omega arith in
    let p = err_from_is_err_and c.from_residual.result c.from_residual.ensures.1 in
    let f = err_is c.from_residual.result p.0 c.in_err-take_turns.field-0.0 (Wide formula) p.1 p.2 e in
    let r = c.in_err-take_turns.ensures.wide formula (ap (λ x. Err x) f) in
    (r.0, (k, subst (λ n. k < n) c.requires.each within, subst (IsWideTurn c.args.f.now c.args.tree.now c.args.inverses.now k) (sym row) r.1))

pub loop-c-preserved : goal.loop-c-preserved
loop-c-preserved c =
    let k = c.loop-c.c in
    let tree = c.args.tree.now in
    let rows = map (λ v. v.items) c.args.turns.now in
    let row = row_read (λ v. v.items) c.args.turns.now k c.index-turns-c.result (omega arith) c.index-turns-c.is ∙ sym c.deref.ensures.value in
    record {
      kept = c.in_ok-take_turns.ensures.kept;
      taken = λ qs values.
          place_more c.args.f.now (turn_quotients tree rows) k (map (turn_quotient (matrix_at tree k)) c.deref.result.now) qs c.take_turns.new.list.list.items
          (ap (λ r. turn_quotients tree rows k ++ map (turn_quotient (matrix_at tree k)) r) row)
          (c.in_ok-take_turns.ensures.taken (qs ++ turn_quotients tree rows k) (c.loop-c.invariant.taken qs values));
    }
