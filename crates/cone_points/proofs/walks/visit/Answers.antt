use Rattle.std.proofs.Common.{◌≡◌, ◌+◌, ◌∷◌, [], ◌++◌, length, sym, subst, arith}
use Rattle.cone_points.specs.Walks.{IsRound}
use Rattle.cone_points.proofs.Visits.{IsWalked, round_kept, round_more}
use Rattle.cone_points.proofs.walks.visit.Goals as goal

pub returns-then-marks-h : goal.returns-then-marks-h
returns-then-marks-h c =
    record { round = round_kept c.args.tri.now.field c.args.tri.now.halves c.requires.valid c.requires.number c.args.uppers.now c.requires.tells c.args.h c.args.marks.now c.args.turns.now.items c.requires.place c.requires.round c.if-marks-h.true }

pub returns : goal.returns
returns c =
    let e = c.walk-rises.ensures in
    let as_many : length c.walk-rises.new.marks ≡ length c.args.tri.now.halves = omega (arith, c.walk-rises.auto.marks, c.requires.round.as_many) in
    let walked : IsWalked c.args.tri.now.field c.args.tri.now.halves c.requires.valid c.requires.number c.args.uppers.now c.requires.tells c.args.h c.args.marks.now c.walk-rises.new.marks c.walk-rises.result =
    record { as_many = as_many; count = e.count; kept = e.kept; more = e.more; on = e.turned_on; start = e.start } in
    let items : c.push.new.self.items ≡ c.args.turns.now.items ++ c.walk-rises.result ∷ [] = c.in_ok-push.ensures.items in
    record {
      round = subst (IsRound c.args.tri.now.field c.args.tri.now.halves c.args.uppers.now (c.args.h + 1) c.walk-rises.new.marks) (sym items)
          (round_more c.args.tri.now.field c.args.tri.now.halves c.requires.valid c.requires.number c.args.uppers.now c.requires.tells c.args.h c.args.marks.now c.walk-rises.new.marks c.args.turns.now.items c.walk-rises.result c.requires.place c.requires.round c.if-marks-h.false walked);
    }
