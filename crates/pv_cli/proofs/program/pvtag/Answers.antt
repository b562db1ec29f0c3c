use Rattle.pv_cli.proofs.program.pvtag.Goals as goal

pub returns-clause-guarded : goal.returns-clause-guarded
returns-clause-guarded g c = c.guarded_session_law.ensures _ _ _ _ c.run_words.ensures.runs
