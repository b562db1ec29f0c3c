use Rattle.std.proofs.Common.{◌∙◌, sym}
use Rattle.pv_edit.proofs.CloseMarkSearch.{none_is}
use Rattle.pv_edit.proofs.RunSearches.{near-searched}
use Rattle.pv_edit.proofs.close_marks.spell_close_mark.Goals as goal

pub returns : goal.returns
returns c = none_is c.search_near.result c.is_none.result c.is_none.ensures ∙ sym (near-searched c.search_near.ensures c.requires.front c.requires.back)
