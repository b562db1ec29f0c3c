-- The requests: what the words after the program's name ask for.
use Rattle.std.specs.Prelude.{ℕ, List, [], ◌∷◌, codes, if◌then◌else◌, Option, Some, None}
use Rattle.std.specs.Prelude.{option_map}
use Rattle.std.specs.Str.{bytes_eq}
use Rattle.pv_chars.specs.Names.{is_name}
use Rattle.pvlong.specs.declared.requests.Question.{Question}
use Rattle.pvlong.specs.declared.requests.Question.TheVariants.{Check, Complete, Need}
use Rattle.pvlong.specs.declared.requests.Request.{Request}

-- a question of a document: its word is followed by DTD, ROOT and DOC
pub data PlainRequest : Type 0 where
  request : (question : Question) (dtd root doc : List ℕ) → PlainRequest

-- the question that a word is
abbrev pub question_of : List ℕ → Option Question
question_of word =
    if bytes_eq word (codes "check") then Some Check
    else if bytes_eq word (codes "need") then Some Need
    else if bytes_eq word (codes "complete") then Some Complete
    else None

-- the request that these words are; ROOT is a Name of XML
unfoldable pub request_of : List (List ℕ) → Option PlainRequest
request_of (word ∷ dtd ∷ root ∷ doc ∷ []) =
    if is_name root then option_map (λ question. request question dtd root doc) (question_of word)
    else None
request_of words = None

-- the names of the files of a request, in the order in which they are fetched
abbrev pub files_asked : Option PlainRequest → List (List ℕ)
files_asked None = []
files_asked (Some (request question dtd root doc)) = dtd ∷ doc ∷ []

-- a request, seen as plain data
abbrev pub plain_request : Request → PlainRequest
plain_request r = request r.question r.named.dtd.now r.named.root.now r.named.doc.now
