-- A live word, token by token.
use Rattle.std.proofs.Common.{List, Some, [], append-nil, append_assoc, ap, arith, drop, get_or, length, map, suc, zero, ◌+◌, ◌++◌, ◌<◌, ◌≤◌, ◌∙◌, ◌∷◌, ◌≡◌, ℕ}
use Rattle.std.proofs.lemmas.List.{drop_all, drop_more, map-append}
use Rattle.pv_model.specs.Plain.{PlainToken, named}
use Rattle.pv_model.specs.PlainForms.{plain_token}
use Rattle.pv_dtd.specs.Plain.{PlainDtd}
use Rattle.pv_rules.specs.Rules.{IsKnownWord}
use Rattle.pv_missing.specs.LiveWords.{IsLiveWord, live_none}
use Rattle.pv_model.specs.declared.models.Token.{Token}

token_first : (tokens : List Token) (i : ℕ) (d : Token) → i < length tokens →
    map plain_token (drop i tokens) ≡ plain_token (get_or tokens i d) ∷ map plain_token (drop (i + 1) tokens)
token_first tokens i d h = ap (map plain_token) (drop_more tokens i d h)

one_known : (g : PlainDtd) (t : PlainToken) → ((y : ℕ) → t ≡ named y → y < length g.names) → IsKnownWord g (t ∷ [])
one_known g t h zero y e = h y (cc)
one_known g t h (suc k) y e = absurd cc

-- each token of a known word is known
pub known_at : (g : PlainDtd) (tokens : List Token) (i : ℕ) (d : Token) → i < length tokens → IsKnownWord g (map plain_token tokens) → IsKnownWord g (plain_token (get_or tokens i d) ∷ [])
known_at g [] i d h k = absurd (omega arith)
known_at g (t ∷ ts) zero d h k = one_known g (plain_token t) (λ y e. k 0 y (ap (λ v. Some v) e))
known_at g (t ∷ ts) (suc i) d h k = known_at g ts i d (omega arith) (λ j y e. k (suc j) y e)

-- the live word of all, where that of the tokens after one follows its own
pub follows_more : (g : PlainDtd) (tokens live : List Token) (i : ℕ) (d t : Token) (now : List Token) (rest : List PlainToken) → i < length tokens → now ≡ live ++ t ∷ [] →
    ((r : List PlainToken) → IsLiveWord g (map plain_token (drop i tokens)) r → IsLiveWord g (map plain_token tokens) (map plain_token live ++ r)) →
    ((w l : List PlainToken) → IsLiveWord g w l → IsLiveWord g (plain_token (get_or tokens i d) ∷ w) (plain_token t ∷ l)) →
    IsLiveWord g (map plain_token (drop (i + 1) tokens)) rest → IsLiveWord g (map plain_token tokens) (map plain_token now ++ rest)
follows_more g tokens live i d t now rest h n all one l =
    let here : IsLiveWord g (map plain_token (drop i tokens)) (plain_token t ∷ rest) = rw (token_first tokens i d h) (one (map plain_token (drop (i + 1) tokens)) rest l) in
    let whole = ap (λ x. x ++ rest) (ap (map plain_token) n ∙ map-append plain_token live (t ∷ [])) ∙ append_assoc (map plain_token live) (plain_token t ∷ []) rest in
    rw whole (all (plain_token t ∷ rest) here)

pub follows_all : (g : PlainDtd) (tokens live : List Token) (i : ℕ) → length tokens ≤ i →
    ((r : List PlainToken) → IsLiveWord g (map plain_token (drop i tokens)) r → IsLiveWord g (map plain_token tokens) (map plain_token live ++ r)) →
    IsLiveWord g (map plain_token tokens) (map plain_token live)
follows_all g tokens live i h all =
    let none : IsLiveWord g (map plain_token (drop i tokens)) [] = rw (drop_all i tokens h) live_none in
    rw (append-nil (map plain_token live)) at (all [] none)
