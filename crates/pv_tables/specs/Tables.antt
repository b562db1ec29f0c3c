-- The tables of weights of a document, one for each Possible list.
use Rattle.std.specs.Prelude.{List, [], length, ℕ, ◌+◌, ◌<◌, ◌∷◌, ◌≡◌, ◌⊎◌}
use Rattle.std.specs.List.{All, AllPairs, Contains}
use Rattle.pv_model.specs.Plain.{PlainToken}
use Rattle.pv_dtd.specs.Plain.{PlainDtd}
use Rattle.pv_tree.specs.Lists.{Listed}
use Rattle.pv_tree.specs.Words.{word_of}
use Rattle.pv_tree.specs.declared.nodes.Verdict.TheVariants as verdict
use Rattle.pv_rules.specs.Derivations.{IsWeight, heaviest}
use Rattle.pv_rules.specs.PlainForms.{plain_site}
use Rattle.pv_rules.specs.Rules.{IsSpan, Rule, over}
use Rattle.pv_rules.specs.Sites.{HasSite, PlainSite}
use Rattle.pv_rules.specs.Sites.{content_site, name_site, part_site, rest_site}
use Rattle.pv_missing.specs.LiveWords.{IsLiveWord}
use Rattle.pv_missing.specs.Verdicts.{IsVerdict}
use Rattle.pv_tables.specs.declared.tables.Entry.{Entry}
use Rattle.pv_tables.specs.declared.tables.Table.{Table}

-- the kinds of sites in the order of entries: content, name, part, members of a sequence
abbrev pub kind_rank : PlainSite → ℕ
kind_rank (content_site x) = 0
kind_rank (name_site x) = 1
kind_rank (part_site q) = 2
kind_rank (rest_site q) = 3

-- the number of the name or part
abbrev pub site_number : PlainSite → ℕ
site_number (content_site x) = x
site_number (name_site x) = x
site_number (part_site q) = q
site_number (rest_site q) = q

-- what entries are ordered by: kind, number, and where the span begins and ends
abbrev pub key_of : Entry → List ℕ
key_of e = kind_rank (plain_site e.site) ∷ site_number (plain_site e.site) ∷ e.from ∷ e.to ∷ []

-- the first number in which the keys differ is less in the first one
abbrev pub IsBefore : List ℕ → List ℕ → Type 0
IsBefore [] ks = ⊥
IsBefore (h ∷ hs) [] = ⊥
IsBefore (h ∷ hs) (k ∷ ks) = (h < k) ⊎ ((h ≡ k) × IsBefore hs ks)

-- the first entry is before the second
abbrev pub Precedes : Entry → Entry → Type 0
Precedes e f = IsBefore (key_of e) (key_of f)

-- the value is the weight of a site of the DTD over a span of the word, and isn't past the cut
pub record IsEntry (g : PlainDtd) (w : List PlainToken) (e : Entry) : Type 0 where
  pub is_site : HasSite g (plain_site e.site)
  pub is_span : IsSpan w e.from e.to
  pub weighs : IsWeight (Rule g w) (over (plain_site e.site) e.from e.to) e.value
  pub light : e.value < heaviest

-- entries of the word, in strict order
pub record AreEntries (g : PlainDtd) (w : List PlainToken) (es : List Entry) : Type 0 where
  pub each : All (IsEntry g w) es
  pub ascend : AllPairs Precedes es

-- all entries of the word, in strict order
pub record AreAllEntries (g : PlainDtd) (w : List PlainToken) (es : List Entry) : Type 0 where
  pub are : AreEntries g w es
  pub all : (e : Entry) → IsEntry g w e → Contains es e

-- the table has the path of the list, and the entries of its live word
pub record IsTableOf {M : Type 0} (g : PlainDtd) (list : Listed M) (t : Table) : Type 0 where
  pub is_path : t.path ≡ list.path
  pub live : List PlainToken
  pub is_live : IsLiveWord g (word_of g list.kids) live
  pub entries : AreAllEntries g live t.entries

-- a table for each Possible list and for no other, in the order of the lists
pub data AreTables {M : Type 0} (g : PlainDtd) (root : List ℕ) :
    List (Listed M) → List Table → Type 0 where
  no_list : AreTables g root [] []
  possible_list : (list : Listed M) (lists : List (Listed M)) (t : Table) (ts : List Table) →
      IsVerdict g root list verdict.Possible → IsTableOf g list t → AreTables g root lists ts →
      AreTables g root (list ∷ lists) (t ∷ ts)
  other_list : (list : Listed M) (lists : List (Listed M)) (ts : List Table) →
      (IsVerdict g root list verdict.Possible → ⊥) → AreTables g root lists ts →
      AreTables g root (list ∷ lists) ts

-- how many entries the tables of a document may have
abbrev pub most_entries : ℕ
most_entries = 8388608

-- how many entries the tables have
abbrev pub entries_in : List Table → ℕ
entries_in [] = 0
entries_in (t ∷ ts) = length t.entries + entries_in ts
