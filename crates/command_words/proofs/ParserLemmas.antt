-- What clap makes of the command of a row.
use Rattle.std.proofs.Common.{◌≡◌, ◌≢◌, ◌∙◌, ℕ, ◌+◌, ◌<◌, ◌≤◌, true, cond, nat_lt, arith, List, [], ◌∷◌, ◌++◌, map, length, take, get_or, ap, sym}
use Rattle.std.proofs.lemmas.List.{map-append, take_more, take_all}
use Rattle.std.proofs.lemmas.Bool.Decides.{nat_tests}
use Rattle.command_words.specs.declared.rows.OptionRow.{OptionRow as TableRow}
use Rattle.command_words.specs.declared.rows.PlainBounds.{PlainBounds}
use Rattle.command_words.specs.Rows.{option_of}
use Rattle.command_words.specs.Parsers.{option_rule, values_rule, values_rules}

-- one argument more
pub one_rule_more : (options : List TableRow) (i : ℕ) (d : TableRow) → i < length options
    → map option_rule (map option_of (take i options)) ++ option_rule (option_of (get_or options i d)) ∷ [] ≡ map option_rule (map option_of (take (i + 1) options))
one_rule_more options i d less =
    sym (ap (λ os. map option_rule (map option_of os)) (take_more options i d less) ∙ ap (map option_rule) (map-append option_of (take i options) (get_or options i d ∷ []))
    ∙ map-append option_rule (map option_of (take i options)) (option_of (get_or options i d) ∷ []))

-- all arguments, with that of the plain values
pub all_rules : (options : List TableRow) (bounds : PlainBounds) (i : ℕ) → length options ≤ i → bounds.most ≢ 0
    → map option_rule (map option_of (take i options)) ++ values_rule ∷ [] ≡ map option_rule (map option_of options) ++ values_rules bounds
all_rules options bounds i past some =
    let positive : nat_lt 0 bounds.most ≡ true = grind (arith, nat_tests) in
    ap (λ os. map option_rule (map option_of os) ++ values_rule ∷ []) (take_all i options past) ∙ ap (λ b. map option_rule (map option_of options) ++ cond b (values_rule ∷ []) []) (sym positive)
