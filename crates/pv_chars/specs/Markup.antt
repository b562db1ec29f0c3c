-- Comments, processing instructions and CDATA sections (XML 1.0, sections 2.5 to 2.7).
use Rattle.std.specs.Prelude.{◌≡◌, ◌⊎◌, ℕ, List, [], ◌++◌, codes, map}
use Rattle.std.specs.Char.{to_ascii_lowercase}
use Rattle.pv_chars.specs.Spaces.{IsSpace}
use Rattle.pv_chars.specs.Characters.{IsChars}
use Rattle.pv_chars.specs.Names.{IsName}
use Rattle.pv_chars.specs.Fronts.{ContainsBytes}

-- Comment: `<!--`, Chars that hold no `--` and don't end in `-`, `-->` (XML 1.0, 2.5)
pub record IsComment (bytes : List ℕ) : Type 0 where
  pub text : List ℕ
  pub are_chars : IsChars text
  pub no_dashes : ContainsBytes text (codes "--") → ⊥
  pub no_dash_at_end : (front : List ℕ) → text ≡ front ++ codes "-" → ⊥
  pub whole : bytes ≡ codes "<!--" ++ (text ++ codes "-->")

-- PITarget: a Name other than `xml` in any case (XML 1.0, 2.6)
pub record IsTarget (bytes : List ℕ) : Type 0 where
  pub is_name : IsName bytes
  pub not_xml : map to_ascii_lowercase bytes ≡ codes "xml" → ⊥

-- S and Chars
pub record IsSpacedChars (bytes : List ℕ) : Type 0 where
  pub space : List ℕ
  pub text : List ℕ
  pub is_space : IsSpace space
  pub are_chars : IsChars text
  pub whole : bytes ≡ space ++ text

-- nothing, or S and Chars
abbrev pub IsBehindTarget : List ℕ → Type 0
IsBehindTarget bytes = (bytes ≡ []) ⊎ IsSpacedChars bytes

-- PI: `<?`, PITarget, then nothing or S and Chars that hold no `?>`, `?>` (XML 1.0, 2.6)
pub record IsInstruction (bytes : List ℕ) : Type 0 where
  pub target : List ℕ
  pub behind : List ℕ
  pub is_target : IsTarget target
  pub is_behind : IsBehindTarget behind
  pub no_end : ContainsBytes behind (codes "?>") → ⊥
  pub whole : bytes ≡ codes "<?" ++ (target ++ (behind ++ codes "?>"))

-- CDSect: `<![CDATA[`, Chars that hold no `]]>`, `]]>` (XML 1.0, 2.7)
pub record IsCdata (bytes : List ℕ) : Type 0 where
  pub text : List ℕ
  pub are_chars : IsChars text
  pub no_end : ContainsBytes text (codes "]]>") → ⊥
  pub whole : bytes ≡ codes "<![CDATA[" ++ (text ++ codes "]]>")
