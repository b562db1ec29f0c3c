use Rattle.pv_chars.proofs.NameLemmas.{is_name-IsName, IsName-is_name}
use Rattle.pv_chars.proofs.laws.name_test_law.Goals as goal

pub returns : goal.returns
returns c = λ bytes. (IsName-is_name bytes, is_name-IsName bytes)
