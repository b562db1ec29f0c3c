-- The requests: what the words after the program's name ask for.
use Rattle.std.specs.Prelude.{ℕ, List, [], ◌∷◌, codes, if◌then◌else◌, Option, Some, None}
use Rattle.std.specs.Prelude.{option_map}
use Rattle.std.specs.Str.{bytes_eq}
use Rattle.pv_chars.specs.Names.{is_name}
use Rattle.pv_many.specs.declared.requests.Question.{Question}
use Rattle.pv_many.specs.declared.requests.Question.TheVariants.{Check, Need, Valid}
use Rattle.pv_many.specs.declared.requests.Request.{Request}

-- a question of many documents: its word is followed by DTD and ROOT
pub data ManyRequest : Type 0 where
  request : (question : Question) (dtd root : List ℕ) → ManyRequest

-- the question that a word is
abbrev pub asked_question : List ℕ → Option Question
asked_question word =
    if bytes_eq word (codes "valid") then Some Valid
    else if bytes_eq word (codes "check") then Some Check
    else if bytes_eq word (codes "need") then Some Need
    else None

-- the request that these words are; ROOT is a Name of XML
unfoldable pub asked_request : List (List ℕ) → Option ManyRequest
asked_request (word ∷ dtd ∷ root ∷ []) =
    if is_name root then option_map (λ question. request question dtd root) (asked_question word)
    else None
asked_request words = None

-- the names of the files of a request apart from the documents: that of the DTD
abbrev pub dtd_asked : Option ManyRequest → List (List ℕ)
dtd_asked None = []
dtd_asked (Some (request question dtd root)) = dtd ∷ []

-- a request, seen as plain data
abbrev pub request_told : Request → ManyRequest
request_told r = request r.question r.dtd.now r.root.now
