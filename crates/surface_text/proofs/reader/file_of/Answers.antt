use Rattle.std.proofs.Common.{◌≡◌, ◌≢◌, [], length, ap, arith}
use Rattle.surface_text.specs.Spelling.{content}
use Rattle.surface_text.specs.Lines.{behind_field}
use Rattle.surface_text.proofs.Outcomes.{field_answer, behind_two, late_answer}
use Rattle.surface_text.proofs.reader.file_of.Goals as goal

pub returns-in-Err-field_line : goal.returns-in-Err-field_line
returns-in-Err-field_line c =
    field_answer c.args.bytes.now c.in-Ok.rest.now c.in-Err-field_line.cause c.bad-in-Err-field_line.result c.in-Ok.ensures c.in-Err-field_line.ensures c.bad-in-Err-field_line.ensures

pub returns-then-not-is_empty : goal.returns-then-not-is_empty
returns-then-not-is_empty c =
    let second = c.in-Ok-field_line.ensures in
    let same = behind_two c.args.bytes.now c.in-Ok.rest.now c.in-Ok-field_line.taken.1.now c.in-Ok-field_line.taken.0 c.in-Ok.ensures second.0 in
    let some : c.in_ok-file.rest.now ≢ [] = λ e. let none : length c.in_ok-file.rest.now ≡ 0 = ap length e in grind arith in
    late_answer c.args.bytes.now (behind_field c.in-Ok-field_line.taken.0 c.in-Ok-field_line.taken.1.now) (content c.in_ok-file.file) c.in_ok-file.rest.now c.next_number.result c.bad-then-not-is_empty.result
    same c.in_ok-file.ensures some c.next_number.ensures c.bad-then-not-is_empty.ensures
