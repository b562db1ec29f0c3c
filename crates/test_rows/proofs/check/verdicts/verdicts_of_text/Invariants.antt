use Rattle.test_rows.proofs.check.verdicts.verdicts_of_text.Given as goal

abbrev pub ghosts-verdicts_of : goal.ghosts-verdicts_of
ghosts-verdicts_of a = record { name = a.blank.name; parts = a.blank.parts }
