use Rattle.test_lists.proofs.need.spans.are_too_wide.Given as goal

abbrev pub ghosts-is_member : goal.ghosts-is_member
ghosts-is_member a = record { name = a.blank.name; parts = a.blank.parts }

abbrev pub ghosts-verdict : goal.ghosts-verdict
ghosts-verdict a = record { name = a.blank.name; parts = a.blank.parts }
