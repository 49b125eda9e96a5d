use Rattle.std.proofs.Common.{◌≡◌, ℕ, ◌+◌, refl, arith}
use Rattle.std.proofs.lemmas.List.{length-take}
use Rattle.io_ends.specs.Ends.{given}
use Rattle.io_ends.proofs.Pieces.{given-more}
use Rattle.io_ends.proofs.reading.read_all.Goals as goal

-- where too many bytes came, one more than the limit was read
one_past : (g : _) (c : goal.After-drop-bytes-then-room-n g) → g.S.Source.left c.read.new.self ≡ given (c.args.limit + 1) (g.S.Source.left c.args.source.now)
one_past g c =
    given-more _ _ _ _ _ _ c.loop-bytes.invariant.read c.in_ok-n.ensures.moved (omega (arith, c.loop-bytes.bytes.ok, c.in_ok-n.ensures.within, length-take {A = ℕ}))

pub returns-then-room-n-clause-one_past : goal.returns-then-room-n-clause-one_past
returns-then-room-n-clause-one_past g c = λ _. one_past g c

pub returns-then-room-n-clause-reads : goal.returns-then-room-n-clause-reads
returns-then-room-n-clause-reads g c = (c.args.limit + 1, omega arith, ((λ _. refl), (λ _. refl)), one_past g c)

pub returns-in_err-extend_from_slice-clause-reads :
    goal.returns-in_err-extend_from_slice-clause-reads
returns-in_err-extend_from_slice-clause-reads g c =
    (c.loop-bytes.bytes.len + c.in_ok-n.n, omega arith, ((λ e. absurd (let h = rw e at c.from_residual-in_err-extend_from_slice.ensures.1 in cc)), (λ e. absurd (omega arith))), given-more _ _ _ _ _ _ c.loop-bytes.invariant.read c.in_ok-n.ensures.moved (omega (arith, c.loop-bytes.bytes.ok)))
