-- The items of texts that are expanded, and the modes in which texts are read.
use Rattle.std.specs.Prelude.{ℕ, Bool, List}

-- How a text is read. The file is read in mode Between; a parameter declaration stands in it before
-- the rest, or none (XML 1.0, 4.4).
pub data Mode : Type 0 where
  file : (after_parameter : Bool) → Mode
  between : Mode
  inside : Mode
  value : Mode

-- What an item asks for: these bytes are put into the result; the text of the entity of this name
-- is read; an entity of this name is declared, with this value in its quotes;
-- a declaration with this word is copied, what it holds after the word is read (XML 1.0, 4.4).
pub data TextItem : Type 0 where
  puts : (bytes : List ℕ) → TextItem
  reference : (name : List ℕ) → TextItem
  parameter : (name : List ℕ) → (given : List ℕ) → TextItem
  declaration : (word : List ℕ) → (held : List ℕ) → TextItem
