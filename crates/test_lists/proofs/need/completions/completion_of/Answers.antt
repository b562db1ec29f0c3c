use Rattle.test_lists.proofs.need.completions.completion_of.Goals as goal

pub complete-requires : goal.complete-requires
complete-requires c = record { names = let t = c.in_ok-doc.ensures.read in let s = t.spelled in s.is_prolog }
