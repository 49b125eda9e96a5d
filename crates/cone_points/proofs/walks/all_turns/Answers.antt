use Rattle.std.proofs.Common.{◌≡◌, ℕ, zero, suc, [], false, replicate, length, get_or, refl, sym, subst, ◌∙◌, arith}
use Rattle.std.proofs.lemmas.List.{length-replicate}
use Rattle.cone_points.specs.Walks.{IsRound}
use Rattle.cone_points.proofs.Visits.{round_none, round_all}
use Rattle.cone_points.proofs.walks.all_turns.Goals as goal

-- No mark stands in a list of marks that aren't made.
unmarked_all : (n t : ℕ) → get_or (replicate n false) t false ≡ false
unmarked_all zero t = refl
unmarked_all (suc n) zero = refl
unmarked_all (suc n) (suc t) = unmarked_all n t

pub loop-h-init : goal.loop-h-init
loop-h-init c =
    let n : ℕ = length c.args.uppers.now in
    let items : c.in_ok-marks.marks.items ≡ replicate n false = c.in_ok-marks.ensures.items_if_clones_equal (λ y e. e) in
    let start = round_none c.args.tri.now.field c.args.tri.now.halves c.requires.valid c.requires.number c.args.uppers.now c.requires.tells (replicate n false)
    (length-replicate n false ∙ c.requires.tells.as_many) (unmarked_all n) in
    subst (λ turns. IsRound c.args.tri.now.field c.args.tri.now.halves c.args.uppers.now 0 c.in_ok-marks.marks.items turns) (sym c.new-turns.ensures.items)
    (subst (λ marks. IsRound c.args.tri.now.field c.args.tri.now.halves c.args.uppers.now 0 marks []) (sym items) start)

at_end : (c : goal.After-drop-marks-2) → IsRound c.args.tri.now.field c.args.tri.now.halves c.args.uppers.now (length c.args.tri.now.halves) c.loop-h.marks.items c.loop-h.turns.items
at_end c =
    let e : c.loop-h.h ≡ length c.args.tri.now.halves = omega (arith, c.loop-h.auto.h-end, c.loop-h-test.false, c.requires.tells.as_many) in
    subst (λ b. IsRound c.args.tri.now.field c.args.tri.now.halves c.args.uppers.now b c.loop-h.marks.items c.loop-h.turns.items) e c.loop-h.invariant

pub returns-clause-turns : goal.returns-clause-turns
returns-clause-turns c = (at_end c).turns_are

pub returns-clause-sum : goal.returns-clause-sum
returns-clause-sum c = round_all c.args.tri.now.field c.args.tri.now.halves c.requires.valid c.requires.number c.args.uppers.now c.requires.tells c.loop-h.marks.items c.loop-h.turns.items (at_end c)
