use Rattle.pv_words.proofs.RawLines.{joins_lines, ends_line}
use Rattle.pv_words.proofs.laws.lines_law.Goals as goal

pub returns-clause-joined : goal.returns-clause-joined
returns-clause-joined c = joins_lines

pub returns-clause-end : goal.returns-clause-end
returns-clause-end c = ends_line
