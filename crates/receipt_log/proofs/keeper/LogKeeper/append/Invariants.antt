use Rattle.receipt_log.proofs.keeper.LogKeeper.append.Given as goal

abbrev pub ghosts-append_named : goal.ghosts-append_named
ghosts-append_named g a = record { entry = g.E.Numbers.numbers a.entry.now }
