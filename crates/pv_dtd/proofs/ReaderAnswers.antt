-- What the readers' answers tell of a text.
use Rattle.std.proofs.Common.{◌≡◌, ◌≤◌, ℕ, List, [], length, map, Result, Ok, Err, inl, inr, refl, sym, ap, ◌∙◌, subst}
use Rattle.std.specs.Result.{IfOk, IfErr}
use Rattle.pv_chars.specs.ByteOrderMark.{IsBehindByteOrderMark}
use Rattle.pv_model.specs.Plain.{PlainModel}
use Rattle.pv_dtd.specs.Plain.{PlainDtd}
use Rattle.pv_dtd.specs.Facts.{MAX_DTD_BYTES}
use Rattle.pv_dtd.specs.Items.{NamedModel, DtdItem, declared_in, models_in, mentioned_in}
use Rattle.pv_dtd.specs.Meaning.{Outcome, is_dtd, faulty, DtdRestMeans, DtdTextMeans, items}
use Rattle.pv_dtd.specs.Numbering.{dtd_of_items, names_of, number_among, model_with_numbers}
use Rattle.pv_dtd.specs.NameOrder.{with_names, NumbersModels}
use Rattle.pv_dtd.specs.PlainForms.{plain_dtd, refusal, Refuses, Answers}
use Rattle.pv_dtd.specs.RuleKinds.{kind_of_rule}
use Rattle.pv_dtd.specs.SoFar.{Tells, TellsFault, Declares}
use Rattle.pv_dtd.specs.declared.dtd.Dtd.{Dtd}
use Rattle.pv_dtd.specs.declared.errors.DtdError.{DtdError}
use Rattle.pv_dtd.specs.declared.errors.DtdError.TheVariants.{Syntax, Twice, MixedTwice, Parameter, Limit, NoMemory}
use Rattle.pv_dtd.specs.declared.rules.Rule.{Rule}
use Rattle.pv_dtd.specs.declared.rules.Rule.TheVariants.{Twice as TwiceRule, MixedTwice as MixedTwiceRule, Limit as LimitRule}
use Rattle.pv_dtd.proofs.NameSequences.{goes_on_self}
use Rattle.pv_dtd.proofs.NamesOnce.{once-distinct}
use Rattle.pv_dtd.proofs.TextMeaning.{same_text_meaning}

pub tells_rule : (rest : List ℕ) (rule : Rule) (k : ℕ) (e : DtdError) → e ≡ refusal (kind_of_rule rule) k → DtdRestMeans [] rest (faulty (kind_of_rule rule) k) → TellsFault rest e
tells_rule rest TwiceRule k e is m = rw is m
tells_rule rest MixedTwiceRule k e is m = rw is m
tells_rule rest LimitRule k e is m = rw is (inr m)

-- all names and models, with numbers for names
pub numbered_are : (read : List DtdItem) (names : List (List ℕ)) (models : List NamedModel)
    (parts : ℕ) → Declares names models parts read →
    (all : List (List ℕ)) (numbers : List PlainModel) →
    all ≡ with_names names (mentioned_in models) → NumbersModels all models numbers →
    (record { names = all; models = numbers }) ≡ dtd_of_items read
numbered_are read names models parts d all numbers is_all placed =
    let whole : all ≡ names_of read = is_all ∙ ap (λ ms. with_names names (mentioned_in ms))
    d.models_are ∙ ap (λ ns. with_names ns (mentioned_in (models_in read))) d.names_are
    ∙ sym (once-distinct (declared_in read) (mentioned_in (models_in read)) d.ruled.once) in
    let is_models : numbers ≡ map (model_with_numbers (number_among (names_of read))) (models_in read) =
    sym (placed all (goes_on_self all)) ∙ ap (λ ns. map (model_with_numbers (number_among ns)) models) whole ∙ ap (map (model_with_numbers (number_among (names_of read)))) d.models_are in
    pair_of all (names_of read) numbers _ whole is_models
  where
    pair_of : (a b : List (List ℕ)) (ms ns : List PlainModel) → a ≡ b → ms ≡ ns →
        (let g : PlainDtd = record { names = a; models = ms } in g)
        ≡ (let g : PlainDtd = record { names = b; models = ns } in g)
    pair_of a b ms ns e f = cc

abbrev pub HoldsItems : Dtd → List DtdItem → Type 0
HoldsItems d read = plain_dtd d ≡ dtd_of_items read

module _ (bytes rest : List ℕ) (short : length bytes ≤ MAX_DTD_BYTES) (mark : IsBehindByteOrderMark bytes rest) where
  pub read_by : (r : Result Dtd DtdError) → Tells HoldsItems rest r → IfOk r (λ d. DtdTextMeans bytes (is_dtd (plain_dtd d)))
  read_by (Ok d) t = items short mark (subst (λ g. DtdRestMeans [] rest (is_dtd g)) (sym t.2) t.1)
  read_by (Err e) t = tt

  error_by : (e : DtdError) → TellsFault rest e → Refuses bytes e
  error_by (Syntax k) t = items short mark t
  error_by (Twice k) t = items short mark t
  error_by (MixedTwice k) t = items short mark t
  error_by (Parameter k) t = items short mark t
  error_by (Limit k) (inl t) = inl (items short mark t)
  error_by (Limit k) (inr t) = inr (items short mark t)
  error_by NoMemory t = tt

  pub refused_by : (r : Result Dtd DtdError) → Tells HoldsItems rest r → IfErr r (λ e. Refuses bytes e)
  refused_by (Ok d) t = tt
  refused_by (Err e) t = error_by e t

-- a text that means this is answered so
without_memory : (o : Outcome) → Answers o (Err NoMemory)
without_memory (is_dtd g) = refl
without_memory (faulty kind k) = inr refl

refused_exactly : (bytes : List ℕ) (e : DtdError) → Refuses bytes e → (o : Outcome) → DtdTextMeans bytes o → Answers o (Err e)
refused_exactly bytes (Syntax k) r o m = subst (λ p. Answers p (Err (Syntax k))) (same_text_meaning bytes r m) (inl refl)
refused_exactly bytes (Twice k) r o m = subst (λ p. Answers p (Err (Twice k))) (same_text_meaning bytes r m) (inl refl)
refused_exactly bytes (MixedTwice k) r o m = subst (λ p. Answers p (Err (MixedTwice k))) (same_text_meaning bytes r m) (inl refl)
refused_exactly bytes (Parameter k) r o m = subst (λ p. Answers p (Err (Parameter k))) (same_text_meaning bytes r m) (inl refl)
refused_exactly bytes (Limit k) (inl r) o m = subst (λ p. Answers p (Err (Limit k))) (same_text_meaning bytes r m) (inl refl)
refused_exactly bytes (Limit k) (inr r) o m = subst (λ p. Answers p (Err (Limit k))) (same_text_meaning bytes r m) (inl refl)
refused_exactly bytes NoMemory r o m = without_memory o

pub exactly : (bytes : List ℕ) (r : Result Dtd DtdError) → IfOk r (λ d. DtdTextMeans bytes (is_dtd (plain_dtd d))) → IfErr r (λ e. Refuses bytes e) → (o : Outcome) → DtdTextMeans bytes o → Answers o r
exactly bytes (Ok d) read refused o m = subst (λ p. Answers p (Ok d)) (same_text_meaning bytes read m) refl
exactly bytes (Err e) read refused o m = refused_exactly bytes e refused o m
