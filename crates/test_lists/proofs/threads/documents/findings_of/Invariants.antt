use Rattle.test_lists.proofs.threads.documents.findings_of.Given as goal

abbrev pub ghosts-one_thread : goal.ghosts-one_thread
ghosts-one_thread g a = record { name = a.blank.name; parts = a.blank.parts }
