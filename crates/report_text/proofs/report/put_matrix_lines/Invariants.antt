use Rattle.std.proofs.Common.{◌≡◌, ◌++◌, take}
use Rattle.std.specs.List.{flat_map}
use Rattle.report_text.specs.Reports.{matrix_line}
use Rattle.report_text.proofs.report.put_matrix_lines.Given as goal

-- the matrices so far
abbrev pub invariant-loop-matrix : goal.invariant-loop-matrix
invariant-loop-matrix l = l.out.items ≡ l.initial.out.items ++ flat_map matrix_line (take l.matrix-index l.matrices)
