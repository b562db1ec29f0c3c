use Rattle.std.proofs.Common.{inl, refl}
use Rattle.pv_denial.proofs.judging.judge.Goals as goal

pub returns-in_default-clause-judged : goal.returns-in_default-clause-judged
returns-in_default-clause-judged c = inl ((λ list about. c.in_default.ensures list about.is_listed about.is_path), refl)
