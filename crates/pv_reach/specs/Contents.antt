-- Contents of names.
use Rattle.std.specs.Prelude.{ℕ, refl}
use Rattle.std.specs.Coded.{Coded, code_by, coded×, coded_ℕ}
use Rattle.pv_productive.specs.declared.grammar.Grammar.{Grammar}
use Rattle.pv_productive.specs.contracts.grammar.Grammar as grammar_row

-- the content of a name, by a grammar
pub record ContentOf : Type 0 where
  pub grammar : Grammar
  pub name : ℕ

-- it is stored as the pair of its fields
abbrev pub content_code : Coded ContentOf
content_code = code_by (Grammar × ℕ) (coded× grammar_row.the_row.coded coded_ℕ)
    (λ c. (c.grammar, c.name)) (λ p. record { grammar = p.0; name = p.1 }) (λ _. refl)
