-- Verdicts found by words are those of the lists.
use Rattle.std.proofs.Common.{◌≡◌, ◌∙◌, ap, sym, ℕ, Bool, List, [], length, Option, Some, None}
use Rattle.std.proofs.Common.{subst}
use Rattle.std.specs.Prelude.{MatchOption, false}
use Rattle.std.proofs.lemmas.List.{length-map}
use Rattle.std.specs.List.{between}
use Rattle.pv_dtd.specs.Plain.{PlainDtd}
use Rattle.pv_edit.specs.BroughtElements.{brings_element}
use Rattle.pv_edit.specs.Changes.{Change, in_place_of, list_after}
use Rattle.pv_missing.specs.Verdicts.{IsVerdict}
use Rattle.pv_missing.specs.ListWeights.{site_of}
use Rattle.pv_missing.specs.Widths.{FitsVerdict}
use Rattle.pv_missing.specs.WordVerdicts.{HoldsOne, IsVerdictByWord}
use Rattle.pv_missing.proofs.VerdictWords.{verdict_by_word}
use Rattle.pv_model.specs.Plain.{PlainToken}
use Rattle.pv_model.specs.PlainForms.{plain_token}
use Rattle.pv_tree.specs.Lists.{Owner, an_element}
use Rattle.pv_tree.specs.Plain.{Forest, Tree, forest_of}
use Rattle.pv_tree.specs.Words.{word_of}
use Rattle.pv_tree.specs.declared.nodes.Mark.{Mark}
use Rattle.pv_tree.specs.declared.nodes.Verdict.{Verdict}
use Rattle.pv_cache.specs.VerdictsAfterChange.{AreJudged, IsInnerJudged, IsJudged}
use Rattle.pv_cache.specs.ChangedWords.{AreFound, AreWords, IsFound, IsFoundList, IsInnerFound}
use Rattle.pv_cache.specs.ChangedWords.{IsInnerWord, IsWordOf}
use Rattle.pv_cache.specs.declared.updates.InnerVerdict.{InnerVerdict}
use Rattle.pv_cache.specs.declared.updates.ChangedVerdicts.{ChangedVerdicts}
use Rattle.pv_cache.specs.declared.words.InnerWord.{InnerWord}
use Rattle.pv_cache.specs.declared.words.ListWord.{ListWord}
use Rattle.pv_cache.specs.declared.words.Words.{Words}

module _ (g : PlainDtd) (root : List ℕ) where
  -- what is found by the word of a list is its verdict
  pub found-verdict : (owner : Owner) (kids : Forest Mark) (word : ListWord) (v : Verdict) →
      HoldsOne owner kids → IsWordOf g kids word → IsFound g (site_of g root owner) word v →
      IsVerdict g root (record { path = []; owner = owner; kids = kids }) v
  found-verdict owner kids word v h w f =
      let a =
      subst (λ (u : List PlainToken).
      IsVerdictByWord g (site_of g root owner) u word.is_bare v) w.tokens f in
      let b =
      subst (λ (n : Bool).
      IsVerdictByWord g (site_of g root owner) (word_of g kids) n v) w.bare a in
      (verdict_by_word Mark g root (record { path = []; owner = owner; kids = kids }) v h).1 b

  pub narrow-word : (kids : Forest Mark) (word : ListWord) → IsWordOf g kids word →
      FitsVerdict g (length word.tokens.items) → FitsVerdict g (length (word_of g kids))
  narrow-word kids word w f =
      subst (FitsVerdict g) (sym (length-map word.tokens.items plain_token) ∙ ap length w.tokens) f

  found-list : (owner : Owner) (kids : Forest Mark) (word : ListWord) (v : Verdict) →
      HoldsOne owner kids → IsWordOf g kids word → IsFoundList g (site_of g root owner) word v →
      IsJudged g root owner kids v
  found-list owner kids word v h w f =
      record {
        judged = found-verdict owner kids word v h w f.found;
        narrow = narrow-word kids word w f.narrow;
      }

  inner-judged : (c : Change Mark) (new : List (Tree Mark)) (inner : Option InnerWord)
      (i : Option InnerVerdict) →
      MatchOption inner (brings_element c.filling ≡ false) (IsInnerWord g c.filling new) →
      IsInnerFound g c.from inner i → IsInnerJudged g root c new i
  inner-judged c new None None w f = w
  inner-judged c new None (Some i) w f = absurd f
  inner-judged c new (Some inner) None w f = absurd f
  inner-judged c new (Some inner) (Some i) w f = (
    w.brought,
    f.0,
    record {
      name = inner.name.now;
      attrs = w.attrs;
      ending = w.ending;
      kids = w.kids;
      mark = w.mark;
      is_one = w.is_one;
      list = found-list (an_element inner.name.now) w.kids inner.word i.verdict tt w.word f.1;
    },
  )

  -- the verdicts that were found are those of the changed lists
  pub found-judged : (owner : Owner) (kids : List (Tree Mark)) (c : Change Mark) (words : Words)
      (vs : ChangedVerdicts) → HoldsOne owner (forest_of (list_after c kids)) →
      AreWords g c kids words → AreFound g (site_of g root owner) c.from words vs →
      AreJudged g root owner kids c vs.outer vs.inner
  found-judged owner kids c words vs h w f = record {
    outer =
        found-list owner (forest_of (list_after c kids)) words.outer.word vs.outer h
        w.outer.word f.outer;
    within =
        inner-judged c (in_place_of c.filling (between c.from c.to kids)) words.inner vs.inner
        w.inner f.inner;
  }
