use Rattle.receipt_log.proofs.keeper.LogKeeper.note.Given as goal

abbrev pub ghosts-note_named : goal.ghosts-note_named
ghosts-note_named g a = record { place = a.place }
