use Rattle.std.proofs.Common.{◌≡◌, ◌*ℤ◌, FitsSigned, rules}
use Rattle.std.specs.Int.{w128}
use Rattle.std.proofs.lemmas.Int.{to_z-of_z}
use Rattle.surface_text.proofs.Parabola.{square_fits, scaled_fits}
use Rattle.surface_text.proofs.points.scaled_square.Goals as goal

pub overflow_mul-result-2 : goal.overflow_mul-result-2
overflow_mul-result-2 c =
    let a : c.from.result ≡ c.args.n = search rules in
    let b : c.from-2.result ≡ c.args.n = search rules in
    let d : c.from-3.result ≡ c.args.d = search rules in
    let square : FitsSigned w128 (c.from.result *ℤ c.from-2.result) = rw (a, b) (square_fits c.args.n c.requires.n_bounded) in
    let scaled : FitsSigned w128 ((c.from.result *ℤ c.from-2.result) *ℤ c.from-3.result) = rw (a, b, d) (scaled_fits c.args.n c.args.d c.requires.n_bounded c.requires.d_bounded) in
    search (rules, to_z-of_z)

pub returns : goal.returns
returns c =
    let a : c.from.result ≡ c.args.n = search rules in
    let b : c.from-2.result ≡ c.args.n = search rules in
    let d : c.from-3.result ≡ c.args.d = search rules in
    let square : FitsSigned w128 (c.from.result *ℤ c.from-2.result) = rw (a, b) (square_fits c.args.n c.requires.n_bounded) in
    let scaled : FitsSigned w128 ((c.from.result *ℤ c.from-2.result) *ℤ c.from-3.result) = rw (a, b, d) (scaled_fits c.args.n c.args.d c.requires.n_bounded c.requires.d_bounded) in
    search (rules, to_z-of_z)
