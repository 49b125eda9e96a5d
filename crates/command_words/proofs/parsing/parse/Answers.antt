use Rattle.std.proofs.Common.{◌∙◌, ap, map, string_bytes, subst}
use Rattle.clap.specs.Simple.{App, HasMatchesOf}
use Rattle.clap.specs.Takes.{takes}
use Rattle.command_words.specs.Rows.{row_of}
use Rattle.command_words.proofs.ReadLemmas.{line_taken, line_rows}
use Rattle.command_words.proofs.FoundLemmas.{line_held}
use Rattle.command_words.proofs.parsing.parse.Goals as goal

pub unreachable-requires : goal.unreachable-requires
unreachable-requires c =
    let words = map string_bytes c.args.words.now in
    let line = c.requires.line in
    c.in_default.not-OutOfMemory
    (c.kind.ensures ∙ c.in-Err.ensures.passes (ap (λ (app : App). takes app words) c.in_ok-parser.ensures ∙ line_taken (row_of c.args.row.now) c.requires.row line.0 line.1 words line.2))

pub returns-in-Ok : goal.returns-in-Ok
returns-in-Ok c = λ options plain line.
    let row = row_of c.args.row.now in
    let words = map string_bytes c.args.words.now in
    line_held row c.requires.row options line.given plain _
    (line_rows row c.requires.row options plain words line c.in-Ok.matches (subst (λ (app : App). HasMatchesOf app words c.in-Ok.matches) c.in_ok-parser.ensures c.in-Ok.ensures.matches))
