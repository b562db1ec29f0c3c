use Rattle.std.proofs.Common.{◌∙◌, sym}
use Rattle.pv_edit.proofs.CloseMarkSearch.{none_is}
use Rattle.pv_edit.proofs.RunSearches.{near-searched}
use Rattle.pv_edit.proofs.close_marks.spell_close_mark_with.Goals as goal

pub returns : goal.returns
returns c = none_is c.search_with.result c.is_none.result c.is_none.ensures ∙ sym (near-searched c.search_with.ensures c.requires.front c.requires.back)
