-- The entries that a walk over sites and spans has listed are those of the word.
use Rattle.std.proofs.Common.{List, arith, get_or, length, ℕ, ◌<◌, ◌≤◌}
use Rattle.std.specs.List.{All, AllPairs}
use Rattle.pv_model.specs.Plain.{PlainToken}
use Rattle.pv_dtd.specs.Plain.{PlainDtd}
use Rattle.pv_rules.specs.Derivations.{IsWeight}
use Rattle.pv_rules.specs.PlainForms.{plain_site}
use Rattle.pv_rules.specs.Rules.{Goal, Rule, over}
use Rattle.pv_rules.specs.Sites.{PlainSite, content_site, name_site, part_site, rest_site}
use Rattle.pv_rules.proofs.DerivationLaws.{one_weight}
use Rattle.pv_span.specs.Weights.{AreWeights, tokens_of, weight_of}
use Rattle.pv_tables.specs.declared.tables.Entry.{Entry}
use Rattle.pv_span.specs.declared.weighing.Spans.{Spans}
use Rattle.pv_complete.specs.Listings.{HasMoreLight, IsLight, IsListedTo, StopsListing, key}
use Rattle.pv_tables.specs.Tables.{AreAllEntries, AreEntries, IsEntry, Precedes, kind_rank, site_number}
use Rattle.pv_complete.specs.TableWalks.{HasMoreEntries, StopsWord}
use Rattle.pv_complete.specs.declared.errors.NeedError.{NeedError}
use Rattle.pv_complete.specs.declared.errors.NeedError.TheVariants.{Impossible, NoMemory, TooHeavy, TooMany, TooWide}
use Rattle.pv_complete.proofs.Keys.{all_before}

four_kinds : (s : PlainSite) → kind_rank s < 4
four_kinds (content_site x) = omega arith
four_kinds (name_site x) = omega arith
four_kinds (part_site q) = omega arith
four_kinds (rest_site q) = omega arith

module _ (g : PlainDtd) (w : List PlainToken) (spans : Spans) (are : AreWeights g w spans) where
  entry_of_light : (e : Entry) → IsLight g (tokens_of spans) (weight_of spans) e → IsEntry g w e
  entry_of_light e l = record { is_site = l.is_site; is_span = span; weighs = rw l.weighs weight; light = l.light }
    where
      span : (e.from ≤ e.to) × (e.to ≤ length w)
      span = let n = are.long (plain_site e.site) l.is_site in let b = l.begins in let d = l.ends in (b, omega arith)

      weight : IsWeight (Rule g w) (over (plain_site e.site) e.from e.to) (weight_of spans (over (plain_site e.site) e.from e.to))
      weight = are.weights (plain_site e.site) e.from e.to l.is_site span

  light_of_entry : (e : Entry) → IsEntry g w e → IsLight g (tokens_of spans) (weight_of spans) e
  light_of_entry e i = record {
    is_site = i.is_site;
    begins = i.is_span.0;
    ends = let n = are.long (plain_site e.site) i.is_site in let d = i.is_span.1 in omega arith;
    weighs = one_weight Goal (Rule g w) (over (plain_site e.site) e.from e.to) e.value
        (weight_of spans (over (plain_site e.site) e.from e.to)) i.weighs
        (are.weights (plain_site e.site) e.from e.to i.is_site i.is_span);
    light = i.light;
  }

  entries_are : (es : List Entry) → All (IsLight g (tokens_of spans) (weight_of spans)) es → AllPairs Precedes es → AreEntries g w es
  entries_are es each ascend = record { each = λ k d lt. entry_of_light (get_or es k d) (each k d lt); ascend = ascend }

  pub all_entries : (es : List Entry) → IsListedTo g (tokens_of spans) (weight_of spans) (key 4 0 0 0) es → AreAllEntries g w es
  all_entries es l = record {
    are = entries_are es l.each l.ascend;
    all = λ e i. l.all e (light_of_entry e i) (all_before (kind_rank (plain_site e.site)) (site_number (plain_site e.site)) e.from e.to (four_kinds (plain_site e.site)));
  }

  pub more_entries : (room : ℕ) → HasMoreLight g (tokens_of spans) (weight_of spans) room → HasMoreEntries g w room
  more_entries room m = record { entries = m.entries; are_entries = entries_are m.entries m.each m.ascend; more = m.more }

  pub stops_word : (places : List ℕ) (room : ℕ) (e : NeedError) → StopsListing g (tokens_of spans) (weight_of spans) room e → StopsWord g w places room e
  stops_word places room (Impossible path) s = s
  stops_word places room (TooWide path) s = absurd s
  stops_word places room TooHeavy s = s
  stops_word places room TooMany s = more_entries room s
  stops_word places room NoMemory s = s
