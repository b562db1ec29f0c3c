use Rattle.std.proofs.Common.{◌≡◌, ◌+◌, ◌++◌, suc, codes, ap, ◌∙◌, append_assoc, arith}
use Rattle.pv_drill.specs.Drill.{section_text, sections}
use Rattle.pv_drill.proofs.drill.drill_doc.Goals as goal

pub loop-k-init : goal.loop-k-init
loop-k-init c = (omega arith, c.in_ok-text.ensures.items)

pub loop-k-preserved : goal.loop-k-preserved
loop-k-preserved c =
    let k = c.loop-k.k in
    let next : k + 1 ≡ suc k = omega arith in
    let next_back : suc k ≡ k + 1 = omega arith in (
      omega (arith, c.loop-k-test.true),
      c.in_ok-push_section.ensures ∙ ap (λ h. h ++ section_text (k + 1)) c.loop-k.invariant.1
          ∙ append_assoc (codes "<doc><head>drill</head>") (sections k) (section_text (k + 1))
          ∙ ap (λ n. codes "<doc><head>drill</head>" ++ (sections k ++ section_text n)) next
          ∙ ap (λ n. codes "<doc><head>drill</head>" ++ sections n) next_back,
    )
