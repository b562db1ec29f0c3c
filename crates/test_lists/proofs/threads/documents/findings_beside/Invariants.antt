use Rattle.test_lists.proofs.threads.documents.findings_beside.Given as goal

abbrev pub ghosts-by_threads : goal.ghosts-by_threads
ghosts-by_threads g a = record { name = a.blank.name; parts = a.blank.parts }
