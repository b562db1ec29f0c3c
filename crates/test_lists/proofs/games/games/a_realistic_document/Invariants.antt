use Rattle.test_lists.proofs.games.games.a_realistic_document.Given as goal

abbrev pub ghosts-play_lines : goal.ghosts-play_lines
ghosts-play_lines a = record { name = a.blank.name; parts = a.blank.parts }
