use Rattle.std.proofs.Common.{◌≡◌, ◌<◌, ◌+◌, ◌∙◌, ◌++◌, ◌∷◌, [], List, length, map, take, refl, sym, ap, subst, arith}
use mathlib.Core.Path.{subst₂}
use Rattle.std.specs.Prelude.{Err}
use Rattle.std.proofs.lemmas.List.{get_or_read}
use Rattle.std.proofs.lemmas.Result.{err_from_is_err_and}
use Rattle.plane.specs.Matrices.{FieldMatrix, identity}
use Rattle.terrain.specs.Places.{IsAt}
use Rattle.quotient.specs.declared.fault.QuotientFault.TheVariants.{Wide}
use Rattle.quotient.specs.Trees.{matrix_at}
use Rattle.quotient.specs.Quotients.{Quotient, turn_quotient, AreValues}
use Rattle.quotient.specs.Width.{IsInverse}
use Rattle.quotient.specs.WideProducts.{IsWideProduct}
use Rattle.quotient.proofs.Rows.{element_read, err_is}
use Rattle.quotient.proofs.Values.{mapped_more}
use Rattle.quotient.proofs.quotients.take_turns.Goals as goal

pub returns-in_err-take_quotient-clause-wide : goal.returns-in_err-take_quotient-clause-wide
returns-in_err-take_quotient-clause-wide c = λ formula e.
    let d = c.args.f.now in
    let w = c.loop-turn.turn-index in
    let turn = c.turn-item.result in
    let at = element_read c.args.turns.now w turn (omega arith) c.turn-item.is in
    let from = get_or_read c.args.tree.now c.args.c c.index-tree-c.result c.requires.place c.index-tree-c.is identity in
    let within : c.args.c < length c.args.inverses.now = subst (λ n. c.args.c < n) (sym c.requires.inverses.0) c.requires.place in
    let inverse = get_or_read c.args.inverses.now c.args.c c.index-inverses-c.result within c.index-inverses-c.is identity in
    let p = err_from_is_err_and c.from_residual.result c.from_residual.ensures.1 in
    let f = err_is c.from_residual.result p.0 c.in_err-take_quotient.field-0.0 (Wide formula) p.1 p.2 e in
    let r = c.in_err-take_quotient.ensures.wide formula (ap (λ x. Err x) f) in
    (r.0, (w, turn, at, subst₂ (λ (h i : FieldMatrix). IsWideProduct d h turn i) from inverse r.1))

pub loop-turn-preserved : goal.loop-turn-preserved
loop-turn-preserved c =
    let d = c.args.f.now in
    let w = c.loop-turn.turn-index in
    let turn = c.turn-item.result in
    let tree = c.args.tree.now in
    let short : w < length c.args.turns.now = omega arith in
    let from = get_or_read tree c.args.c c.index-tree-c.result c.requires.place c.index-tree-c.is identity in
    let within : c.args.c < length c.args.inverses.now = subst (λ n. c.args.c < n) (sym c.requires.inverses.0) c.requires.place in
    let inverse = get_or_read c.args.inverses.now c.args.c c.index-inverses-c.result within c.index-inverses-c.is identity in
    let known = c.requires.inverses.1 c.args.c c.requires.place in
    let task = turn_quotient (matrix_at tree c.args.c) in
    record {
      kept = c.in_ok-take_quotient.ensures.kept;
      taken = λ qs values.
          mapped_more d task c.args.turns.now w turn (record { left = c.index-tree-c.result; middle = turn; right = matrix_at tree c.args.c }) qs c.take_quotient.new.list.list.items short c.turn-item.is
          (ap (λ (h : FieldMatrix). record { left = h; middle = turn; right = matrix_at tree c.args.c }) from)
          (c.in_ok-take_quotient.ensures.taken (matrix_at tree c.args.c) (qs ++ map task (take w c.args.turns.now)) known.0
          (subst (IsInverse d (matrix_at tree c.args.c)) (sym inverse) known.1) (c.loop-turn.invariant.taken qs values));
    }
