use Rattle.quad_field.proofs.comparison.+is_below_quotient.Given as goal

abbrev pub decreases-is_below_quotient : goal.decreases-is_below_quotient
decreases-is_below_quotient l = l.q
