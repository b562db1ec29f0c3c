use Rattle.test_lists.proofs.games.judging.judged_and_made.Given as goal

abbrev pub ghosts-judge_all : goal.ghosts-judge_all
ghosts-judge_all a = record { name = a.blank.name; parts = a.blank.parts }
