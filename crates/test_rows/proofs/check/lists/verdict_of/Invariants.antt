use Rattle.test_rows.proofs.check.lists.verdict_of.Given as goal

abbrev pub ghosts-verdict : goal.ghosts-verdict
ghosts-verdict a = record { name = a.blank.name; parts = a.blank.parts }
