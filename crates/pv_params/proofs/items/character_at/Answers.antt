use Rattle.std.proofs.Common.{◌≡◌, ℕ, true, false, Some, sym, ap, ◌∙◌, arith}
use Rattle.std.specs.Prelude.{encode_utf8}
use Rattle.std.proofs.lemmas.Grind.{common_steps}
use Rattle.pv_chars.specs.Characters.{is_char}
use Rattle.pv_chars.specs.Scan.{after_bytes}
use Rattle.pv_params.specs.Items.{puts}
use Rattle.pv_params.proofs.CharactersRead.{no_digits, no_character, no_semicolon, is_character}
use Rattle.pv_params.proofs.items.character_at.Goals as goal
use Rattle.pv_params.proofs.items.character_at.Goals.{then-end-start-via-then-end-start, then-end-start-via-else-end-start+then-not-is_char}

pub returns-then-end-start : goal.returns-then-end-start
returns-then-end-start c =
    let begun : after_bytes c.args.front.now c.args.bytes.now ≡ Some c.in_ok-start.start.now = sym c.in_ok-start.ensures.after in
    elim c.then-end-start.branch [
      | then-end-start-via-then-end-start w ↦ sym (no_digits _ _ _ _ _ _ begun c.digits_at-value.ensures w.if-end-start.true)
      | then-end-start-via-else-end-start+then-not-is_char w ↦ let other : is_char
          c.digits_at-value.result.0 ≡ false = grind (arith, common_steps) in
          sym (no_character _ _ _ _ _ _ begun c.digits_at-value.ensures other)
    ]

pub returns-in_err-rest : goal.returns-in_err-rest
returns-in_err-rest c =
    let begun : after_bytes c.args.front.now c.args.bytes.now ≡ Some c.in_ok-start.start.now = sym c.in_ok-start.ensures.after in
    rw c.from_residual-in_err-rest.ensures (sym (no_semicolon _ _ _ _ _ _ begun c.digits_at-value.ensures (sym c.in_err-rest.ensures.after)))

pub returns : goal.returns
returns c =
    let begun : after_bytes c.args.front.now c.args.bytes.now ≡ Some c.in_ok-start.start.now = sym c.in_ok-start.ensures.after in
    let char : is_char c.digits_at-value.result.0 ≡ true = grind (arith, common_steps) in
    let same : c.in_ok-c.c ≡ c.digits_at-value.result.0 = c.in_ok-c.ensures.value.1 in
    ap (λ (code : ℕ). Some (puts (encode_utf8 code), c.in_ok-rest.rest.now)) same
    ∙ sym (is_character _ _ _ _ _ _ begun c.digits_at-value.ensures _
    (λ short. c.if-end-start.false short) char (sym c.in_ok-rest.ensures.after))
