use Rattle.test_lists.proofs.verdicts.rows.verdicts_after_changes.Given as goal

abbrev pub ghosts-verdict_of : goal.ghosts-verdict_of
ghosts-verdict_of g a = record { name = a.blank.name; parts = a.blank.parts }
