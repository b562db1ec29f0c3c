-- Text with literals in quotes: what is read is spelled so, and what is spelled so is read.
use Rattle.std.proofs.Common.{◌≡◌, ℕ, List, [], ◌∷◌, ◌++◌, Bool, true, false, ◌&&◌, ◌==◌, not, IsTrue, cond, Option, Some, None, refl, sym, ap, ◌∙◌, append_assoc, eq-eqb}
use Rattle.std.proofs.lemmas.Bool.Decides.{Decides-eqb}
use Rattle.std.proofs.lemmas.Bool.{and_parts}
use Rattle.std.specs.List.{list_all}
use Rattle.pv_chars.specs.Declarations.{is_quote}
use Rattle.pv_dtd.specs.Spelling.{IsQuotedText, nothing, byte, literal}
use Rattle.pv_dtd.specs.ItemReading.{stop_at}
use Rattle.pv_chars.proofs.ReaderSteps.{same_some}

abbrev is_other : ℕ → ℕ → Bool
is_other quote b = not (b == quote)

-- after a text with literals stands a byte that stops
pub record Stops (stops : ℕ → Bool) (bytes : List ℕ) (stop : ℕ) (rest : List ℕ) : Type 0 where
  pub text : List ℕ
  pub is_text : IsQuotedText stops text
  pub whole : bytes ≡ text ++ stop ∷ rest
  pub is_stop : stops stop ≡ true

-- inside a literal: after its end and a text with literals stands a byte that stops
pub record StopsBehind (stops : ℕ → Bool) (quote : ℕ) (bytes : List ℕ) (stop : ℕ) (rest : List ℕ) : Type 0 where
  pub inner : List ℕ
  pub text : List ℕ
  pub is_inner : IsTrue (list_all (is_other quote) inner)
  pub is_text : IsQuotedText stops text
  pub whole : bytes ≡ inner ++ quote ∷ (text ++ stop ∷ rest)
  pub is_stop : stops stop ≡ true

abbrev StopsIn : (ℕ → Bool) → Option ℕ → List ℕ → ℕ → List ℕ → Type 0
StopsIn stops None bytes stop rest = Stops stops bytes stop rest
StopsIn stops (Some quote) bytes stop rest = StopsBehind stops quote bytes stop rest

module _ (stops : ℕ → Bool) (stop : ℕ) (rest : List ℕ) where
  outside_step : (b : ℕ) (bs : List ℕ) (is_q is_s : Bool) → is_quote b ≡ is_q → stops b ≡ is_s →
      ((mode : Option ℕ) → stop_at stops mode bs ≡ Some (stop, rest) → StopsIn stops mode bs stop rest) →
      cond is_q (stop_at stops (Some b) bs) (cond is_s (Some (b, bs)) (stop_at stops None bs)) ≡ Some (stop, rest) → Stops stops (b ∷ bs) stop rest
  outside_step b bs true is_s q s below e =
      let behind = below (Some b) e in
      record {
        text = b ∷ (behind.inner ++ b ∷ behind.text);
        is_text = literal b behind.inner behind.text q behind.is_inner behind.is_text refl;
        whole = ap (λ r. b ∷ r) (behind.whole ∙ sym (append_assoc behind.inner (b ∷ behind.text)
            (stop ∷ rest)));
        is_stop = behind.is_stop;
      }
  outside_step b bs false true q s below e =
      let pair : (b, bs) ≡ (stop, rest) = same_some _ _ e in
      let is : b ≡ stop = ap (λ (x : ℕ × List ℕ). x.0) pair in
      let after : bs ≡ rest = ap (λ (x : ℕ × List ℕ). x.1) pair in
      record { text = []; is_text = nothing refl; whole = cc; is_stop = rw (← is) s }
  outside_step b bs false false q s below e =
      let behind = below None e in
      record { text = b ∷ behind.text; is_text = byte b behind.text q s behind.is_text refl; whole = ap (λ r. b ∷ r) behind.whole; is_stop = behind.is_stop }

  inside_step : (quote b : ℕ) (bs : List ℕ) (same : Bool) → (b == quote) ≡ same →
      ((mode : Option ℕ) → stop_at stops mode bs ≡ Some (stop, rest) → StopsIn stops mode bs stop rest) →
      cond same (stop_at stops None bs) (stop_at stops (Some quote) bs) ≡ Some (stop, rest) → StopsBehind stops quote (b ∷ bs) stop rest
  inside_step quote b bs true is below e =
      let behind = below None e in
      let at = (Decides-eqb b quote).0 is in
      record { inner = []; text = behind.text; is_inner = refl; is_text = behind.is_text; whole = rw at (ap (λ r. quote ∷ r) behind.whole); is_stop = behind.is_stop }
  inside_step quote b bs false is below e =
      let behind = below (Some quote) e in
      record { inner = b ∷ behind.inner; text = behind.text; is_inner = rw is behind.is_inner; is_text = behind.is_text; whole = ap (λ r. b ∷ r) behind.whole; is_stop = behind.is_stop }

  pub stops_takes : (bytes : List ℕ) (mode : Option ℕ) → stop_at stops mode bytes ≡ Some (stop, rest) → StopsIn stops mode bytes stop rest
  stops_takes [] None e = cc
  stops_takes [] (Some quote) e = cc
  stops_takes (b ∷ bs) None e = outside_step b bs (is_quote b) (stops b) refl refl (stops_takes bs) e
  stops_takes (b ∷ bs) (Some quote) e = inside_step quote b bs (b == quote) refl (stops_takes bs) e

  literal_ends : (quote : ℕ) (inner after : List ℕ) → IsTrue (list_all (is_other quote) inner) → stop_at stops (Some quote) (inner ++ quote ∷ after) ≡ stop_at stops None after
  literal_ends quote [] after all = rw (eq-eqb quote quote refl) refl
  literal_ends quote (b ∷ bs) after all =
      let here = and_parts (is_other quote b) (list_all (is_other quote) bs) all in
      other (b == quote) here.0 (literal_ends quote bs after here.1)
    where
      other : (same : Bool) → not same ≡ true → stop_at stops (Some quote) (bs ++ quote ∷ after)
          ≡ stop_at stops None after → cond same (stop_at stops None (bs ++ quote ∷ after))
          (stop_at stops (Some quote) (bs ++ quote ∷ after)) ≡ stop_at stops None after
      other true is below = cc
      other false is below = below

  pub stop_at-append : {text : List ℕ} → IsQuotedText stops text → is_quote stop ≡ false → stops stop ≡ true → stop_at stops None (text ++ stop ∷ rest) ≡ Some (stop, rest)
  stop_at-append (nothing is) q s = rw (is, q, s) refl
  stop_at-append (byte b more not_q not_s below is) q s = rw (is, not_q, not_s) (stop_at-append below q s)
  stop_at-append (literal quote inner more is_q all below is) q s =
      rw (is, is_q, append_assoc inner (quote ∷ more) (stop ∷ rest), literal_ends quote inner (more ++ stop ∷ rest) all) (stop_at-append below q s)

-- bytes that are no quotes and don't stop
pub plain_before : (stops : ℕ → Bool) (text : List ℕ) → list_all (λ b. not (is_quote b) && not (stops b)) text ≡ true → {more : List ℕ} → IsQuotedText stops more → IsQuotedText stops (text ++ more)
plain_before stops [] all rest = rest
plain_before stops (b ∷ bs) all {more} rest =
    let here = and_parts (not (is_quote b) && not (stops b)) (list_all (λ b. not (is_quote b) && not (stops b)) bs) all in
    let two = and_parts (not (is_quote b)) (not (stops b)) here.0 in
    byte b (bs ++ more) (is_false (is_quote b) two.0) (is_false (stops b) two.1) (plain_before stops bs here.1 rest) refl
  where
    is_false : (test : Bool) → not test ≡ true → test ≡ false
    is_false true e = cc
    is_false false e = refl

-- where fewer bytes stop
pub fewer_stop : (more fewer : ℕ → Bool) → ((b : ℕ) → more b ≡ false → fewer b ≡ false) → {text : List ℕ} → IsQuotedText more text → IsQuotedText fewer text
fewer_stop more fewer less (nothing is) = nothing is
fewer_stop more fewer less (byte b rest not_q not_s below is) = byte b rest not_q (less b not_s) (fewer_stop more fewer less below) is
fewer_stop more fewer less (literal quote inner rest is_q all below is) = literal quote inner rest is_q all (fewer_stop more fewer less below) is
