use Rattle.std.proofs.Common.{◌≡◌, ◌≤◌, ◌+◌, ℕ, List, ◌∷◌, Bool, true, false, not, ◌==◌, drop, get_or, sym, ◌∙◌, ap, subst, arith}
use Rattle.std.proofs.lemmas.List.{drop_more, drop_all}
use Rattle.pv_chars.specs.Texts.{joined}
use Rattle.pv_chars.specs.Units.{units_in}
use Rattle.pv_chars.specs.Utf8.{continues}
use Rattle.pv_standoff.proofs.TextLemmas.{IsBehind, behind-start, behind-reference, behind-continued, behind-begun, behind-here, behind-end}
use Rattle.pv_standoff.proofs.texts.behind_units.Goals as goal
use Rattle.pv_standoff.proofs.texts.behind_units.Goals.{then-in_reference, else-in_reference+then-not-continues+else-begun-count, else-in_reference+else-not-continues}

pub bytes-init : goal.bytes-init
bytes-init c = (behind-start c.args.bytes.now, omega arith)

pub returns-then-begun-count : goal.returns-then-begun-count
returns-then-begun-count c =
    let bytes = c.args.bytes.now in
    let d = drop_more bytes c.bytes.at 0 c.bytes-test.true in
    let out = subst (λ s. IsBehind bytes s (drop c.bytes.at bytes) c.bytes.begun) c.if-in_reference.false c.bytes.invariant.0 in
    let h = subst (λ z. IsBehind bytes false z c.bytes.begun) d out in
    let new : continues (get_or bytes c.bytes.at 0) ≡ false = sym c.continues.ensures ∙ c.if-not-continues.true in
    let here = behind-here bytes (drop (c.bytes.at + 1) bytes) (get_or bytes c.bytes.at 0) c.bytes.begun new h in
    c.split_at.ensures.back ∙ d ∙ here ∙ ap (λ n. joined (drop n (units_in bytes))) c.if-begun-count.true

step-in : (bytes bs : List ℕ) (b n count m : ℕ) (s t : Bool) (at : List ℕ) → at ≡ b ∷ bs →
    s ≡ true → t ≡ not (b == 59) → m ≡ n → IsBehind bytes s at n × (n ≤ count) →
    IsBehind bytes t bs m × (m ≤ count)
step-in bytes bs b n count m s t at d e f g h =
    let one = subst (λ z. IsBehind bytes z at n) e h.0 in
    let two = subst (λ z. IsBehind bytes true z n) d one in
    (rw (g, f) (behind-reference bytes bs b n two), rw g h.1)

step-on : (bytes bs : List ℕ) (b n count m : ℕ) (s t : Bool) (at : List ℕ) → at ≡ b ∷ bs →
    s ≡ false → t ≡ s → m ≡ n → continues b ≡ true → IsBehind bytes s at n × (n ≤ count) →
    IsBehind bytes t bs m × (m ≤ count)
step-on bytes bs b n count m s t at d e f g c h =
    let one = subst (λ z. IsBehind bytes z at n) e h.0 in
    let two = subst (λ z. IsBehind bytes false z n) d one in
    (rw (g, f, e) (behind-continued bytes bs b n c two), rw g h.1)

step-new : (bytes bs : List ℕ) (b n count m : ℕ) (s t : Bool) (at : List ℕ) → at ≡ b ∷ bs →
    s ≡ false → t ≡ (b == 38) → m ≡ n + 1 → (n ≡ count → ⊥) → continues b ≡ false →
    IsBehind bytes s at n × (n ≤ count) →
    IsBehind bytes t bs m × (m ≤ count)
step-new bytes bs b n count m s t at d e f g o c h =
    let one = subst (λ z. IsBehind bytes z at n) e h.0 in
    let two = subst (λ z. IsBehind bytes false z n) d one in
    (rw (g, f) (behind-begun bytes bs b n c two), (let l = h.1 in omega (arith, g, o, l)))

pub bytes-preserved : goal.bytes-preserved
bytes-preserved c =
    let bytes = c.args.bytes.now in
    let b = get_or bytes c.bytes.at 0 in
    let bs = drop (c.bytes.at + 1) bytes in
    let d = drop_more bytes c.bytes.at 0 c.bytes-test.true in
    elim c.if-in_reference.branch [
      | then-in_reference w ↦ step-in bytes bs b c.bytes.begun c.args.count c.if-in_reference.begun c.bytes.in_reference c.if-in_reference.in_reference (drop c.bytes.at bytes) d
          w.if-in_reference.true w.in_reference-is w.begun-is c.bytes.invariant
      | else-in_reference+then-not-continues+else-begun-count w ↦ step-new bytes bs b c.bytes.begun
          c.args.count c.if-in_reference.begun c.bytes.in_reference c.if-in_reference.in_reference
          (drop c.bytes.at bytes) d
          w.if-in_reference.false w.in_reference-is w.begun-is w.if-begun-count.false (sym w.continues.ensures ∙ w.if-not-continues.true) c.bytes.invariant
      | else-in_reference+else-not-continues w ↦ step-on bytes bs b c.bytes.begun c.args.count c.if-in_reference.begun c.bytes.in_reference c.if-in_reference.in_reference (drop c.bytes.at bytes) d
          w.if-in_reference.false w.in_reference-is w.begun-is (sym w.continues.ensures ∙ w.if-not-continues.false) c.bytes.invariant
    ]

pub returns : goal.returns
returns c =
    let bytes = c.args.bytes.now in
    behind-end bytes c.bytes.in_reference c.bytes.begun c.args.count c.bytes.invariant.1
    (subst (λ z. IsBehind bytes c.bytes.in_reference z c.bytes.begun) (drop_all c.bytes.at bytes (omega arith)) c.bytes.invariant.0)
