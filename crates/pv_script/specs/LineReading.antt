-- Lines read from the left, as functions on lists. Which command a line spells is said in
-- Commands.antt.
use Rattle.std.specs.Prelude.{ℕ, List, codes, Option, Some, None, option_and_then, option_map}
use Rattle.std.specs.Prelude.{if◌then◌else◌}
use Rattle.std.specs.Str.{bytes_eq}
use Rattle.pv_edit.specs.declared.asks.Ask.{Ask}
use Rattle.pv_edit.specs.declared.asks.Ask.TheVariants as ask
use Rattle.pv_edit.specs.declared.edits.Edit.{Edit}
use Rattle.pv_edit.specs.declared.edits.Edit.TheVariants.{Wrap, Insert, Unwrap, Rename, Split}
use Rattle.pv_edit.specs.declared.edits.Edit.TheVariants.{Join, SetText, AddText, DelText}
use Rattle.pv_words.specs.Numbers.{number_spelled}
use Rattle.pv_words.specs.Paths.{path_spelled}
use Rattle.pv_words.specs.Words.{first_word}
use Rattle.pv_script.specs.declared.commands.Command.{Command}
use Rattle.pv_script.specs.declared.commands.Command.TheVariants as command

-- what is made of a first word that is a path, or a number, and of the words after it
abbrev pub on_path : {A : Type 0} → (List ℕ → List ℕ → Option A) → List ℕ → Option A
on_path f bytes =
    option_and_then (λ cut. option_and_then (λ path. f path cut.1) (path_spelled cut.0))
    (first_word bytes)

abbrev pub on_number : {A : Type 0} → (ℕ → List ℕ → Option A) → List ℕ → Option A
on_number f bytes =
    option_and_then (λ cut. option_and_then (λ n. f n cut.1) (number_spelled cut.0))
    (first_word bytes)

-- the edit of this word with these arguments
abbrev pub wrap_of : List ℕ → Option Edit
wrap_of bytes =
    on_path (λ path. on_number (λ from. on_number (λ to name. Some (Wrap path from to name)))) bytes

abbrev pub insert_of : List ℕ → Option Edit
insert_of bytes = on_path (λ path. on_number (λ at name. Some (Insert path at name))) bytes

abbrev pub unwrap_of : List ℕ → Option Edit
unwrap_of bytes = option_map Unwrap (path_spelled bytes)

abbrev pub rename_of : List ℕ → Option Edit
rename_of bytes = on_path (λ path name. Some (Rename path name)) bytes

abbrev pub split_of : List ℕ → Option Edit
split_of bytes = on_path (λ path rest. option_map (Split path) (number_spelled rest)) bytes

abbrev pub join_of : List ℕ → Option Edit
join_of bytes = option_map Join (path_spelled bytes)

abbrev pub set_text_of : List ℕ → Option Edit
set_text_of bytes = on_path (λ path text. Some (SetText path text)) bytes

abbrev pub add_text_of : List ℕ → Option Edit
add_text_of bytes = on_path (λ path. on_number (λ at text. Some (AddText path at text))) bytes

abbrev pub del_text_of : List ℕ → Option Edit
del_text_of bytes = option_map DelText (path_spelled bytes)

abbrev pub edit_of : List ℕ → List ℕ → Option Edit
edit_of word bytes =
    if bytes_eq word (codes "wrap") then wrap_of bytes
    else if bytes_eq word (codes "insert") then insert_of bytes
    else if bytes_eq word (codes "unwrap") then unwrap_of bytes
    else if bytes_eq word (codes "rename") then rename_of bytes
    else if bytes_eq word (codes "split") then split_of bytes
    else if bytes_eq word (codes "join") then join_of bytes
    else if bytes_eq word (codes "text") then set_text_of bytes
    else if bytes_eq word (codes "addtext") then add_text_of bytes
    else if bytes_eq word (codes "deltext") then del_text_of bytes
    else None

-- what is asked with these arguments of `offer`: of a new element where a blank stands among them
abbrev pub wrap_asked_of : List ℕ → Option Ask
wrap_asked_of bytes =
    on_path (λ path. on_number (λ from rest. option_map (ask.Wrap path from) (number_spelled rest)))
    bytes

abbrev pub rename_asked_of : List ℕ → Option Ask
rename_asked_of bytes = option_map ask.Rename (path_spelled bytes)

abbrev pub ask_by : List ℕ → Option (List ℕ × List ℕ) → Option Ask
ask_by bytes None = rename_asked_of bytes
ask_by bytes (Some cut) = wrap_asked_of bytes

abbrev pub ask_of : List ℕ → Option Ask
ask_of bytes = ask_by bytes (first_word bytes)

-- the command of this word with these arguments
abbrev pub command_with : List ℕ → List ℕ → Option Command
command_with word bytes =
    if bytes_eq word (codes "offer") then option_map command.Offer (ask_of bytes)
    else option_map command.Edit (edit_of word bytes)

-- the command that a line of several words spells
abbrev pub command_in : List ℕ → Option Command
command_in line = option_and_then (λ cut. command_with cut.0 cut.1) (first_word line)

-- the command that a line spells
abbrev pub command_of : List ℕ → Option Command
command_of line =
    if bytes_eq line (codes "undo") then Some command.Undo
    else if bytes_eq line (codes "redo") then Some command.Redo
    else if bytes_eq line (codes "history") then Some command.History
    else if bytes_eq line (codes "show") then Some command.Show
    else if bytes_eq line (codes "verdicts") then Some command.Verdicts
    else if bytes_eq line (codes "need") then Some command.Need
    else if bytes_eq line (codes "complete") then Some command.Complete
    else if bytes_eq line (codes "quit") then Some command.Quit
    else command_in line
