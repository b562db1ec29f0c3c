use Rattle.pv_offer.proofs.trying.judge_alone.Given as goal

abbrev pub ghosts-judge_on : goal.ghosts-judge_on
ghosts-judge_on a = record { name = a.blank.name; parts = a.blank.parts }
