-- What is told of a document is so.
use Rattle.std.proofs.Common.{Err, IfErr, List, Ok, Result, [], arith, length, lit≤, max, refl, sym}
use Rattle.std.proofs.Common.{ℕ, ◌∙◌, ◌∷◌, ◌<◌, ◌≡◌, ◌≤◌}
use Rattle.pv_dtd.specs.Hedge.{IsValid, elements}
use Rattle.pv_dtd.specs.Plain.{PlainDtd}
use Rattle.pv_dtd.specs.Proper.{IsProperDtd}
use Rattle.pv_tree.specs.Lists.{lists_of}
use Rattle.pv_tree.specs.Marks.{blank_mark}
use Rattle.pv_tree.specs.Plain.{PlainDoc}
use Rattle.pv_tree.specs.View.{view}
use Rattle.pv_tree.specs.declared.nodes.Mark.{Mark}
use Rattle.pv_tree.specs.declared.nodes.Verdict.{Verdict}
use Rattle.pv_read.specs.DocumentLaws.{GrammarsAgree, MeansSameWithinWider}
use Rattle.pv_read.specs.Meaning.{DocumentMeans, document_limits, is_document}
use Rattle.pv_write.specs.Laws.{WritesWhatIsSpelled}
use Rattle.pv_flat.specs.ComingEvents.{flat_limits}
use Rattle.pv_missing.specs.Completions.{Completes, HasCompletion}
use Rattle.pv_missing.specs.DocumentLaws.{BoundsAddUp, ExtensionsComplete, PossibleAreMissing, TagsExtend}
use Rattle.pv_missing.specs.Proper.{IsProperDoc}
use Rattle.pv_missing.specs.VerdictLaws.{NonePossible}
use Rattle.pv_missing.specs.Verdicts.{AreVerdicts, PlainVerdicts, possible_in}
use Rattle.pv_missing.proofs.OneList.{extends_refl}
use Rattle.pv_fresh.specs.Answers.{HasPossibility}
use Rattle.pv_compare.specs.Kept.{IsBodyText, KeepsDocument}
use Rattle.pv_long.specs.AddedBounds.{AreBounded}
use Rattle.pv_long.specs.NewTags.{IsWrittenWithTags}
use Rattle.pv_long.specs.BoundAnswers.{AreMissing, IsCompletion, IsCompletionText, IsExact}
use Rattle.pv_long.specs.BoundAnswers.{IsOwnText, IsWithinBounds, OneLeast, SaysHeavy, SaysNothing}
use Rattle.pv_long.specs.BoundAnswers.{TellsNone}
use Rattle.pv_long.specs.declared.answers.Completion.{Completion}
use Rattle.pv_long.specs.declared.answers.Missing.{Missing}
use Rattle.pv_long.specs.declared.errors.LongError.{LongError}
use Rattle.pv_long.specs.declared.errors.LongError.TheVariants as error
use Rattle.pv_long.proofs.TaggedDocs.{own_tags}

-- a document within its limits is one within wider ones
pub wide_text : MeansSameWithinWider → (root bytes : List ℕ) (doc : PlainDoc Mark) → DocumentMeans blank_mark root bytes (is_document doc) → IsBodyText root bytes doc
wide_text wider root bytes doc means = wider document_limits flat_limits blank_mark root bytes (is_document doc) (record { depth = tt; bytes = lit≤ tt }) tt means

pub one_least : OneLeast
one_least g root h a b one two = let p = one.least b two.completes in let q = two.least a one.completes in omega arith

module _ {M : Type 0} (g : PlainDtd) (root : List ℕ) (doc : PlainDoc M) where
  -- a valid document that is this one with marked elements completes it
  pub completion_text : TagsExtend → (body : PlainDoc Mark) (marks bytes : List ℕ) →
      IsBodyText root bytes body → IsValid g root (view body.root) → KeepsDocument doc body marks →
      IsWrittenWithTags g doc bytes → IsCompletionText g root doc (length marks) marks bytes
  completion_text tags_extend body marks bytes text valid kept written =
      let tags = tags_extend 0 (elements (view body.root)) marks (view doc.root) (view body.root) kept.tags in
      record {
        completed = body;
        is_text = text;
        completes = record {
          valid = valid;
          extends = tags.0;
          inserted = tags.1;
          same_before = kept.same_before;
          same_after = kept.same_after;
          counted = refl;
          tags = kept.tags;
        };
        written = written;
      }

  inserts : (c : Completion) → IsCompletion g root doc c → HasCompletion g root c.count (view doc.root)
  inserts c is = record { hedge = view is.completed.root; extends = is.completes.extends; valid = is.completes.valid; inserted = is.completes.inserted }

  -- the greater one of bounds that are added up and the number of the Possible lists is at most the
  -- number of each completion
  pub are_missing : BoundsAddUp M → PossibleAreMissing M → (sum least : ℕ) (vs : List Verdict) → IsProperDtd g → IsProperDoc doc → AreBounded g root (lists_of doc) 0 sum →
      AreVerdicts g root (lists_of doc) vs → least ≡ max sum (possible_in vs) → AreMissing g root doc least
  are_missing add_up possible_missing sum least vs proper proper_doc b are is n c =
      let h = add_up g root doc b.sum proper proper_doc b.bounds n c in
      let p = possible_missing g root doc (possible_in vs) proper proper_doc (record { verdicts = vs; are_verdicts = are; count = refl }) n c in
      let k = b.added in omega (arith, is)

  -- a document with a Possible list isn't valid
  pub not_valid : NonePossible M → (vs : List Verdict) → IsProperDtd g → IsProperDoc doc → AreVerdicts g root (lists_of doc) vs → 0 < possible_in vs → IsValid g root (view doc.root) → ⊥
  not_valid none vs proper proper_doc are some valid = let zero = ((none g root doc vs proper proper_doc are).0 valid).1 in omega (arith, zero)

  -- and one without is
  pub is_valid : NonePossible M → (vs : PlainVerdicts) → IsProperDtd g → IsProperDoc doc → HasPossibility root g doc vs → possible_in vs.verdicts ≡ 0 → IsValid g root (view doc.root)
  is_valid none vs proper proper_doc has zero = (none g root doc vs.verdicts proper proper_doc has.verdicts.are_verdicts).1 (has.possible, zero)

  -- a bound that isn't less than the number of a completion shows this to be least
  pub is_exact : (bytes : List ℕ) (least : ℕ) (c : Completion) → AreMissing g root doc least → IsCompletion g root doc c → c.count ≤ least → (IsValid g root (view doc.root) → ⊥) →
      IsExact g root doc bytes c
  is_exact bytes least c missing is h not = record {
    completion = is;
    least = record {
      completes = inserts c is;
      least = λ n some. let k = missing n some in omega arith;
    };
    keeps_valid = λ valid. absurd (not valid);
  }

  pub is_within : (vs : List Verdict) (least : ℕ) (c : Completion) → AreVerdicts g root (lists_of doc) vs → 0 < possible_in vs → AreMissing g root doc least → possible_in vs ≤ least →
      IsCompletion g root doc c → least < c.count → IsWithinBounds g root doc least c
  is_within vs least c are some missing reached is less = record {
    completion = is;
    less = less;
    missing = missing;
    lists = record {
      possible = possible_in vs;
      have_possible = record { verdicts = vs; are_verdicts = are; count = refl };
      some = some;
      reached = reached;
    };
  }

  pub says_heavy : (e : LongError) → SaysNothing e → SaysHeavy g root doc e
  says_heavy (error.Impossible path) h = absurd h
  says_heavy (error.TooWide path) h = absurd h
  says_heavy error.TooHeavy h = absurd h
  says_heavy error.TooMany h = tt
  says_heavy error.Unproved h = tt
  says_heavy error.NoMemory h = tt

  tells_none : (vs : PlainVerdicts) (e : LongError) → HasPossibility root g doc vs →
      SaysHeavy g root doc e → TellsNone g root doc e
  tells_none vs (error.Impossible path) has h = absurd h
  tells_none vs (error.TooWide path) has h = absurd h
  tells_none vs error.TooHeavy has h =
      record { may = record { narrow = has.narrow; possible = has.possible }; heavy = h }
  tells_none vs error.TooMany has h = record { narrow = has.narrow; possible = has.possible }
  tells_none vs error.Unproved has h = record { narrow = has.narrow; possible = has.possible }
  tells_none vs error.NoMemory has h = tt

  pub refused : (vs : PlainVerdicts) (told : Result Missing LongError) →
      HasPossibility root g doc vs → IfErr told (SaysHeavy g root doc) →
      IfErr told (TellsNone g root doc)
  refused vs (Ok m) has h = tt
  refused vs (Err e) has h = tells_none vs e has h

nothing_long : (xs : List ℕ) → length xs ≡ 0 → xs ≡ []
nothing_long [] e = refl
nothing_long (x ∷ xs) e = absurd (omega (arith, e))

-- a valid document is its own completion
pub own_exact : MeansSameWithinWider → GrammarsAgree → WritesWhatIsSpelled → ExtensionsComplete Mark Mark → (g : PlainDtd) (root : List ℕ) (doc : PlainDoc Mark) (bytes : List ℕ) (c : Completion) →
    DocumentMeans blank_mark root bytes (is_document doc) → IsValid g root (view doc.root) → IsOwnText bytes c → IsExact g root doc bytes c
own_exact wider agree writes complete g root doc bytes c means valid own =
    let all = complete g root doc doc valid (extends_refl (view doc.root)) refl refl in
    let none : all.1 ≡ 0 = let e = all.2.inserted in omega (arith, e) in
    let no_marks : all.0 ≡ [] = nothing_long all.0 (all.2.counted ∙ none) in
    let same : Completes g root doc doc [] 0 = rw (no_marks, none) at all.2 in
    let spelled = ((agree document_limits blank_mark root bytes doc).0 means).0.spelled in
    let written = own_tags g doc bytes (sym (writes root bytes doc spelled)) in
    let text : IsCompletionText g root doc 0 [] bytes = record { completed = doc; is_text = wide_text wider root bytes doc means; completes = same; written = written } in
    let is : IsCompletion g root doc c = rw (own.count, own.marks, own.body) text in
    record {
      completion = is;
      least = record {
        completes = inserts g root doc c is;
        least = λ n some. omega (arith, own.count);
      };
      keeps_valid = λ v. own.body;
    }
