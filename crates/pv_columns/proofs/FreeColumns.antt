-- Free columns by their layers.
use Rattle.std.proofs.Common.{Bool, Contains, List, None, [], arith, get_or, inl, inr, length, refl}
use Rattle.std.proofs.Common.{subst, suc, zero, ℕ, ◌+◌, ◌/◌, ◌%◌, ◌<◌, ◌∷◌, ◌≡◌}
use Rattle.std.proofs.lemmas.Bool.{cases_lt}
use Rattle.pv_model.specs.declared.models.Token.{Token}
use Rattle.pv_columns.specs.Marks.{AreMarked, IsAmong, IsMarked}
use Rattle.pv_columns.specs.Takes.{IsFree, Takes, free_leads, free_repeats, takes_column, takes_token}
use Rattle.pv_columns.specs.declared.rules.ColumnRule.{ColumnRule}
use Rattle.pv_columns.specs.Bits.{HasIn}
use Rattle.pv_columns.specs.Frees.{AreFree, AreRepeats, RepeatBefore}
use Rattle.pv_columns.specs.Rows.{IsLayer}
use Rattle.pv_columns.specs.Sets.{AreLayers, AreTokensBelow, TakesAll}
use Rattle.pv_columns.specs.Tokens.{token_number}
use Rattle.pv_columns.specs.declared.sets.Layer.{Layer}

pub layer_at : (xs : List Layer) (m : ℕ) → m < length xs → Layer
layer_at [] m l = absurd (omega arith)
layer_at (x ∷ xs) zero l = x
layer_at (x ∷ xs) (suc m) l = layer_at xs m (omega arith)

module _ (rules : List ColumnRule) (live : List Bool) where
  -- a token that is taken is that of a rule
  pub token_below : (count : ℕ) → AreTokensBelow count rules → (t : Token) (c : ℕ) → Takes rules live t c → token_number t / 64 < count
  token_below count below t c (takes_token _ r con e a s) = below r t con s
  token_below count below t c (takes_column _ d r con e a s i v) = token_below count below t d v

  pub all_taken : (layers : List Layer) (big small : ℕ) → AreLayers rules live layers → AreTokensBelow (length layers) rules →
      ((m : ℕ) (d : Layer) → m < length layers → (k : ℕ) → HasIn (get_or layers m d).words.items small k → HasIn (get_or layers m d).words.items big k) → TakesAll rules live big small
  all_taken layers big small are below within t v =
      let m = token_number t / 64 in
      let l = token_below (length layers) below t small v in
      let d = layer_at layers m l in
      ((are m d l) big t refl).0 (within m d l (token_number t % 64) (((are m d l) small t refl).1 v))

  pub none_before : (frees : List Bool) → frees ≡ live → RepeatBefore rules live 0 frees
  none_before frees e c m = ((let P : List Bool → Type 0 = λ v. IsMarked v c in subst P e m), (λ t l v. absurd (omega arith)))

  pub one_layer : (m : ℕ) (layer repeats : List ℕ) (old new : List Bool) → IsLayer rules live m layer → AreRepeats rules live m repeats →
      ((c : ℕ) → IsMarked new c → IsMarked old c × ((k : ℕ) → HasIn layer c k → HasIn repeats c k)) → RepeatBefore rules live m old → RepeatBefore rules live (m + 1) new
  one_layer m layer repeats old new is are kept before c marked =
      let k = kept c marked in let b = before c k.0 in (
        b.0,
        (λ t l v. elim (cases_lt (token_number t / 64) m) [
          | inl x ↦ b.1 t x v
          | inr x ↦ (let e : token_number t / 64 ≡ m = omega arith in are c t e (k.1 (token_number t % 64) ((is c t e).1 v)))
        ]),
      )

  pub all_free : (count : ℕ) (frees : List Bool) → AreTokensBelow count rules → RepeatBefore rules live count frees → AreFree rules live frees
  all_free count frees below before c m = let b = before c m in free_repeats c b.0 (λ t v. b.1 t (token_below count below t c v) v)

  -- a rule that leads to a free column
  pub leads : (frees : List Bool) → AreFree rules live frees → (r : ColumnRule) → Contains rules r →
      r.token ≡ None → AreMarked live r.columns.items → (d : ℕ) → IsAmong d r.columns.items →
      IsMarked frees d →
      TakesAll rules live d r.left → IsFree rules live r.left
  leads frees are r con s a d among marked all = free_leads r.left d r con refl s a among (are d marked) all
