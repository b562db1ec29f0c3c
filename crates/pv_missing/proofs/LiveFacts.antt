-- What a live word has of its word.
use Rattle.std.proofs.Common.{List, [], ap, length, refl, suc, ◌∷◌, ◌≡◌}
use Rattle.pv_model.specs.Plain.{PlainToken, named}
use Rattle.pv_dtd.specs.Plain.{PlainDtd}
use Rattle.pv_missing.specs.LiveWords.{AreProductiveTokens, IsLiveWord, live_name, live_none, live_other, live_text, live_unproductive}
use Rattle.pv_missing.specs.WordLaws.{LiveFollows}
use Rattle.pv_missing.proofs.PossibleWords.{depths}
use Rattle.pv_missing.proofs.OneList.{covered_by_productive, same_coverable}

live_names : (g : PlainDtd) (w live : List PlainToken) → IsLiveWord g w live → AreProductiveTokens g live
live_names g w live live_none = tt
live_names g w live (live_name y v v' p r) = (p, live_names g v v' r)
live_names g w live (live_unproductive y v v' p r) = (tt, live_names g v v' r)
live_names g w live (live_text v v' r) = (tt, live_names g v v' r)
live_names g w live (live_other v v' r) = (tt, live_names g v v' r)

live_length : (g : PlainDtd) (w live : List PlainToken) → IsLiveWord g w live → length live ≡ length w
live_length g w live live_none = refl
live_length g w live (live_name y v v' p r) = ap suc (live_length g v v' r)
live_length g w live (live_unproductive y v v' p r) = ap suc (live_length g v v' r)
live_length g w live (live_text v v' r) = ap suc (live_length g v v' r)
live_length g w live (live_other v v' r) = ap suc (live_length g v v' r)

pub live_follows : LiveFollows
live_follows g w live l = record {
  names = live_names g w live l;
  same_length = live_length g w live l;
  itself = λ x p. let q = (depths g x live).0.0 p in same_coverable g w live l (covered_by_productive g q.0 q.1.whole live q.1.covers);
  itself_at_root = λ x p. let q = (depths g x live).1.0 p in same_coverable g w live l (covered_by_productive g q.0 (named x ∷ []) live q.1);
}
