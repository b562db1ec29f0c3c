use Rattle.test_lists.proofs.threads.documents.entered_by.Given as goal

abbrev pub ghosts-by_plan : goal.ghosts-by_plan
ghosts-by_plan g a = record { name = a.blank.name; parts = a.blank.parts }
