-- A line spells a command exactly where it is read as that command.
use Rattle.std.proofs.Common.{◌≡◌, ℕ, List, ◌∷◌, ◌++◌, Option, Some, None, Bool, true, false, inl, inr, ◌⊎◌, refl, sym, ap, ◌∙◌, arith, codes, decimal}
use Rattle.std.specs.Prelude.{if◌then◌else◌}
use Rattle.std.proofs.lemmas.Slice.Eq.{bytes_eq-Decides}
use Rattle.std.specs.Option.{option_and_then, option_map}
use Rattle.std.specs.Str.{bytes_eq}
use Rattle.pv_edit.specs.declared.asks.Ask.{Ask}
use Rattle.pv_edit.specs.declared.asks.Ask.TheVariants as asks
use Rattle.pv_edit.specs.declared.edits.Edit.{Edit}
use Rattle.pv_edit.specs.declared.edits.Edit.TheVariants.{Wrap, Insert, Unwrap, Rename, Split, Join, SetText, AddText, DelText}
use Rattle.pv_script.specs.Asks.{ask_text, numbers_asked}
use Rattle.pv_script.specs.Commands.{command_text, command_numbers, SpellsCommand, IsNoCommand}
use Rattle.pv_words.specs.Numbers.{AreNumbers, number_spelled}
use Rattle.pv_script.specs.Edits.{edit_text, numbers_in}
use Rattle.pv_script.specs.Laws.{OneCommand, CommandOrNone}
use Rattle.pv_words.specs.Paths.{path_text, path_spelled}
use Rattle.pv_words.specs.Words.{first_word}
use Rattle.pv_script.specs.LineReading.{on_number, wrap_of, insert_of, rename_of, split_of}
use Rattle.pv_script.specs.LineReading.{set_text_of, add_text_of, edit_of, wrap_asked_of, ask_by}
use Rattle.pv_script.specs.LineReading.{ask_of, command_in, command_of}
use Rattle.pv_script.specs.declared.commands.Command.{Command}
use Rattle.pv_script.specs.declared.commands.Command.TheVariants as commands
use Rattle.pv_script.proofs.ArgumentWords.{on_path-written, on_number-written, on-path, on-number}
use Rattle.pv_words.proofs.NumberWords.{number_spelled-decimal, number-word}
use Rattle.pv_words.proofs.PathWords.{path-free, path_spelled-path_text, path-word}
use Rattle.pv_words.proofs.FirstWords.{first_word-free, first_word-none, first_word-whole}

-- the edit that a line spells
abbrev edit_in : List ℕ → Option Edit
edit_in line = option_and_then (λ cut. edit_of cut.0 cut.1) (first_word line)

-- what follows the path of an edit
abbrev wrap_on : List ℕ → List ℕ → Option Edit
wrap_on path = on_number (λ from. on_number (λ to name. Some (Wrap path from to name)))

abbrev insert_on : List ℕ → List ℕ → Option Edit
insert_on path = on_number (λ at name. Some (Insert path at name))

abbrev rename_on : List ℕ → List ℕ → Option Edit
rename_on path name = Some (Rename path name)

abbrev split_on : List ℕ → List ℕ → Option Edit
split_on path rest = option_map (Split path) (number_spelled rest)

abbrev set_text_on : List ℕ → List ℕ → Option Edit
set_text_on path text = Some (SetText path text)

abbrev add_text_on : List ℕ → List ℕ → Option Edit
add_text_on path = on_number (λ at text. Some (AddText path at text))

-- the line of an edit is read as that edit
edit-read : (edit : Edit) → AreNumbers (numbers_in edit) → edit_in (edit_text edit) ≡ Some edit
edit-read (Wrap path from to name) all =
    on_path-written wrap_on path (decimal from ++ (32 ∷ (decimal to ++ (32 ∷ name)))) all.1.1
    ∙ on_number-written (λ (i : ℕ). on_number (λ (j : ℕ) (x : List ℕ). Some (Wrap path i j x))) from (decimal to ++ (32 ∷ name)) all.0
    ∙ on_number-written (λ (j : ℕ) (x : List ℕ). Some (Wrap path from j x)) to name all.1.0
edit-read (Insert path at name) all =
    on_path-written insert_on path (decimal at ++ (32 ∷ name)) all.1
    ∙ on_number-written (λ (i : ℕ) (x : List ℕ). Some (Insert path i x)) at name all.0
edit-read (Unwrap path) all = ap (option_map Unwrap) (path_spelled-path_text path all)
edit-read (Rename path name) all = on_path-written rename_on path name all
edit-read (Split path at) all = on_path-written split_on path (decimal at) all.1 ∙ ap (option_map (Split path)) (number_spelled-decimal at all.0)
edit-read (Join path) all = ap (option_map Join) (path_spelled-path_text path all)
edit-read (SetText path text) all = on_path-written set_text_on path text all
edit-read (AddText path at text) all =
    on_path-written add_text_on path (decimal at ++ (32 ∷ text)) all.1
    ∙ on_number-written (λ (i : ℕ) (x : List ℕ). Some (AddText path i x)) at text all.0
edit-read (DelText path) all = ap (option_map DelText) (path_spelled-path_text path all)

-- what follows the path of a new element that is asked of
abbrev asked_on : List ℕ → List ℕ → Option Ask
asked_on path = on_number (λ from rest. option_map (asks.Wrap path from) (number_spelled rest))

-- what stands after `offer`
abbrev asked_text : Ask → List ℕ
asked_text (asks.Wrap path from to) = path_text path ++ (32 ∷ (decimal from ++ (32 ∷ decimal to)))
asked_text (asks.Rename path) = path_text path

ask-read : (ask : Ask) → AreNumbers (numbers_asked ask) → ask_of (asked_text ask) ≡ Some ask
ask-read (asks.Wrap path from to) all =
    ap (ask_by (asked_text (asks.Wrap path from to))) (first_word-free (path_text path) (decimal from ++ (32 ∷ decimal to)) (path-free 32 path (omega arith) all.1.1))
    ∙ on_path-written asked_on path (decimal from ++ (32 ∷ decimal to)) all.1.1
    ∙ on_number-written (λ (i : ℕ) (rest : List ℕ). option_map (asks.Wrap path i) (number_spelled rest)) from (decimal to) all.0
    ∙ ap (option_map (asks.Wrap path from)) (number_spelled-decimal to all.1.0)
ask-read (asks.Rename path) all =
    ap (ask_by (path_text path)) (first_word-none (path_text path) (path-free 32 path (omega arith) all)) ∙ ap (option_map asks.Rename) (path_spelled-path_text path all)

pub command-read : (command : Command) → AreNumbers (command_numbers command) → command_of (command_text command) ≡ Some command
command-read (commands.Edit (Wrap path from to name)) all = ap (option_map commands.Edit) (edit-read (Wrap path from to name) all)
command-read (commands.Edit (Insert path at name)) all = ap (option_map commands.Edit) (edit-read (Insert path at name) all)
command-read (commands.Edit (Unwrap path)) all = ap (option_map commands.Edit) (edit-read (Unwrap path) all)
command-read (commands.Edit (Rename path name)) all = ap (option_map commands.Edit) (edit-read (Rename path name) all)
command-read (commands.Edit (Split path at)) all = ap (option_map commands.Edit) (edit-read (Split path at) all)
command-read (commands.Edit (Join path)) all = ap (option_map commands.Edit) (edit-read (Join path) all)
command-read (commands.Edit (SetText path text)) all = ap (option_map commands.Edit) (edit-read (SetText path text) all)
command-read (commands.Edit (AddText path at text)) all = ap (option_map commands.Edit) (edit-read (AddText path at text) all)
command-read (commands.Edit (DelText path)) all = ap (option_map commands.Edit) (edit-read (DelText path) all)
command-read commands.Undo all = refl
command-read commands.Redo all = refl
command-read commands.History all = refl
command-read commands.Show all = refl
command-read commands.Verdicts all = refl
command-read commands.Need all = refl
command-read commands.Complete all = refl
command-read (commands.Offer (asks.Wrap path from to)) all = ap (option_map commands.Offer) (ask-read (asks.Wrap path from to) all)
command-read (commands.Offer (asks.Rename path)) all = ap (option_map commands.Offer) (ask-read (asks.Rename path) all)
command-read commands.Quit all = refl

-- a word, a blank and these arguments spell the edit
record IsSpelled (word bytes : List ℕ) (edit : Edit) : Type 0 where
  text : word ++ (32 ∷ bytes) ≡ edit_text edit
  within : AreNumbers (numbers_in edit)

wrap-spelled : (bytes : List ℕ) (edit : Edit) → wrap_of bytes ≡ Some edit → IsSpelled (codes "wrap") bytes edit
wrap-spelled bytes edit found =
    let p = on-path wrap_on bytes edit found in
    let q = on-number (λ (i : ℕ). on_number (λ (j : ℕ) (x : List ℕ). Some (Wrap p.path i j x))) p.rest edit p.makes in
    let r = on-number (λ (j : ℕ) (x : List ℕ). Some (Wrap p.path q.number j x)) q.rest edit q.makes in
    let these = r.makes in
    let is : Wrap p.path q.number r.number r.rest ≡ edit = cc in
    rw (← is) record {
      text = ap (λ b. codes "wrap" ++ (32 ∷ b)) (p.whole ∙ ap (λ b. path_text p.path ++ (32 ∷ b)) (q.whole ∙ ap (λ b. decimal q.number ++ (32 ∷ b)) r.whole));
      within = (q.within, (r.within, p.within));
    }

insert-spelled : (bytes : List ℕ) (edit : Edit) → insert_of bytes ≡ Some edit → IsSpelled (codes "insert") bytes edit
insert-spelled bytes edit found =
    let p = on-path insert_on bytes edit found in
    let q = on-number (λ (i : ℕ) (x : List ℕ). Some (Insert p.path i x)) p.rest edit p.makes in
    let these = q.makes in
    let is : Insert p.path q.number q.rest ≡ edit = cc in
    rw (← is) record {
      text = ap (λ b. codes "insert" ++ (32 ∷ b)) (p.whole ∙ ap (λ b. path_text p.path ++ (32 ∷ b)) q.whole);
      within = (q.within, p.within);
    }

add-text-spelled : (bytes : List ℕ) (edit : Edit) → add_text_of bytes ≡ Some edit → IsSpelled (codes "addtext") bytes edit
add-text-spelled bytes edit found =
    let p = on-path add_text_on bytes edit found in
    let q = on-number (λ (i : ℕ) (x : List ℕ). Some (AddText p.path i x)) p.rest edit p.makes in
    let these = q.makes in
    let is : AddText p.path q.number q.rest ≡ edit = cc in
    rw (← is) record {
      text = ap (λ b. codes "addtext" ++ (32 ∷ b)) (p.whole ∙ ap (λ b. path_text p.path ++ (32 ∷ b)) q.whole);
      within = (q.within, p.within);
    }

rename-spelled : (bytes : List ℕ) (edit : Edit) → rename_of bytes ≡ Some edit → IsSpelled (codes "rename") bytes edit
rename-spelled bytes edit found =
    let p = on-path rename_on bytes edit found in
    let these = p.makes in
    let is : Rename p.path p.rest ≡ edit = cc in
    rw (← is) record { text = ap (λ b. codes "rename" ++ (32 ∷ b)) p.whole; within = p.within }

set-text-spelled : (bytes : List ℕ) (edit : Edit) → set_text_of bytes ≡ Some edit → IsSpelled (codes "text") bytes edit
set-text-spelled bytes edit found =
    let p = on-path set_text_on bytes edit found in
    let these = p.makes in
    let is : SetText p.path p.rest ≡ edit = cc in
    rw (← is) record { text = ap (λ b. codes "text" ++ (32 ∷ b)) p.whole; within = p.within }

split-by : (bytes path rest : List ℕ) (edit : Edit) (o : Option ℕ) → number_spelled rest ≡ o → option_map (Split path) o ≡ Some edit → bytes ≡ path_text path ++ (32 ∷ rest) → AreNumbers path →
    IsSpelled (codes "split") bytes edit
split-by bytes path rest edit None is makes whole within = cc
split-by bytes path rest edit (Some n) is makes whole within =
    let number = number-word rest n is in
    let this : Split path n ≡ edit = cc in
    rw (← this) record { text = ap (λ b. codes "split" ++ (32 ∷ b)) (whole ∙ ap (λ b. path_text path ++ (32 ∷ b)) number.digits); within = (number.within, within) }

split-spelled : (bytes : List ℕ) (edit : Edit) → split_of bytes ≡ Some edit → IsSpelled (codes "split") bytes edit
split-spelled bytes edit found =
    let p = on-path split_on bytes edit found in
    split-by bytes p.path p.rest edit (number_spelled p.rest) refl p.makes p.whole p.within

unwrap-by : (bytes : List ℕ) (edit : Edit) (o : Option (List ℕ)) → path_spelled bytes ≡ o → option_map Unwrap o ≡ Some edit → IsSpelled (codes "unwrap") bytes edit
unwrap-by bytes edit None is makes = cc
unwrap-by bytes edit (Some path) is makes =
    let read = path-word bytes path is in
    let this : Unwrap path ≡ edit = cc in
    rw (← this) record { text = ap (λ b. codes "unwrap" ++ (32 ∷ b)) read.text; within = read.within }

join-by : (bytes : List ℕ) (edit : Edit) (o : Option (List ℕ)) → path_spelled bytes ≡ o → option_map Join o ≡ Some edit → IsSpelled (codes "join") bytes edit
join-by bytes edit None is makes = cc
join-by bytes edit (Some path) is makes =
    let read = path-word bytes path is in
    let this : Join path ≡ edit = cc in
    rw (← this) record { text = ap (λ b. codes "join" ++ (32 ∷ b)) read.text; within = read.within }

del-text-by : (bytes : List ℕ) (edit : Edit) (o : Option (List ℕ)) → path_spelled bytes ≡ o → option_map DelText o ≡ Some edit → IsSpelled (codes "deltext") bytes edit
del-text-by bytes edit None is makes = cc
del-text-by bytes edit (Some path) is makes =
    let read = path-word bytes path is in
    let this : DelText path ≡ edit = cc in
    rw (← this) record { text = ap (λ b. codes "deltext" ++ (32 ∷ b)) read.text; within = read.within }

-- where the word is this, the edit is spelled by it
on-word : (word name bytes : List ℕ) (edit : Edit) (chosen other : Option Edit) (same : Bool) →
    bytes_eq word name ≡ same → (chosen ≡ Some edit → IsSpelled name bytes edit) →
    (other ≡ Some edit → IsSpelled word bytes edit) →
    (if same then chosen else other) ≡ Some edit → IsSpelled word bytes edit
on-word word name bytes edit chosen other true is here later found = rw ((bytes_eq-Decides word name).0 is) (here found)
on-word word name bytes edit chosen other false is here later found = later found

edit-spelled : (word bytes : List ℕ) (edit : Edit) → edit_of word bytes ≡ Some edit → IsSpelled word bytes edit
edit-spelled word bytes edit =
    on-word word (codes "wrap") bytes edit _ _ (bytes_eq word (codes "wrap")) refl (wrap-spelled bytes edit)
    (on-word word (codes "insert") bytes edit _ _ (bytes_eq word (codes "insert")) refl (insert-spelled bytes edit)
    (on-word word (codes "unwrap") bytes edit _ _ (bytes_eq word (codes "unwrap")) refl (unwrap-by bytes edit (path_spelled bytes) refl)
    (on-word word (codes "rename") bytes edit _ _ (bytes_eq word (codes "rename")) refl (rename-spelled bytes edit)
    (on-word word (codes "split") bytes edit _ _ (bytes_eq word (codes "split")) refl (split-spelled bytes edit)
    (on-word word (codes "join") bytes edit _ _ (bytes_eq word (codes "join")) refl (join-by bytes edit (path_spelled bytes) refl)
    (on-word word (codes "text") bytes edit _ _ (bytes_eq word (codes "text")) refl (set-text-spelled bytes edit)
    (on-word word (codes "addtext") bytes edit _ _ (bytes_eq word (codes "addtext")) refl (add-text-spelled bytes edit)
    (on-word word (codes "deltext") bytes edit _ _ (bytes_eq word (codes "deltext")) refl (del-text-by bytes edit (path_spelled bytes) refl)
    (λ never. cc)))))))))

-- these arguments of `offer` spell what is asked
record IsAskSpelled (bytes : List ℕ) (ask : Ask) : Type 0 where
  text : codes "offer" ++ (32 ∷ bytes) ≡ ask_text ask
  within : AreNumbers (numbers_asked ask)

wrap-asked-by : (bytes path rest places : List ℕ) (from : ℕ) (ask : Ask) (o : Option ℕ) →
    number_spelled places ≡ o → option_map (asks.Wrap path from) o ≡ Some ask →
    bytes ≡ path_text path ++ (32 ∷ rest) →
    rest ≡ decimal from ++ (32 ∷ places) → AreNumbers (from ∷ path) → IsAskSpelled bytes ask
wrap-asked-by bytes path rest places from ask None is makes whole more within = cc
wrap-asked-by bytes path rest places from ask (Some to) is makes whole more within =
    let number = number-word places to is in
    let this : asks.Wrap path from to ≡ ask = cc in
    rw (← this) record {
      text = ap (λ b. codes "offer" ++ (32 ∷ b)) (whole ∙ ap (λ b. path_text path ++ (32 ∷ b)) (more ∙ ap (λ b. decimal from ++ (32 ∷ b)) number.digits));
      within = (within.0, (number.within, within.1));
    }

wrap-asked : (bytes : List ℕ) (ask : Ask) → wrap_asked_of bytes ≡ Some ask → IsAskSpelled bytes ask
wrap-asked bytes ask found =
    let p = on-path asked_on bytes ask found in
    let q = on-number (λ (i : ℕ) (rest : List ℕ). option_map (asks.Wrap p.path i) (number_spelled rest)) p.rest ask p.makes in
    wrap-asked-by bytes p.path p.rest q.rest q.number ask (number_spelled q.rest) refl q.makes p.whole q.whole (q.within, p.within)

rename-asked-by : (bytes : List ℕ) (ask : Ask) (o : Option (List ℕ)) → path_spelled bytes ≡ o → option_map asks.Rename o ≡ Some ask → IsAskSpelled bytes ask
rename-asked-by bytes ask None is makes = cc
rename-asked-by bytes ask (Some path) is makes =
    let read = path-word bytes path is in
    let this : asks.Rename path ≡ ask = cc in
    rw (← this) record { text = ap (λ b. codes "offer" ++ (32 ∷ b)) read.text; within = read.within }

ask-spelled : (bytes : List ℕ) (ask : Ask) (o : Option (List ℕ × List ℕ)) → ask_by bytes o ≡ Some ask → IsAskSpelled bytes ask
ask-spelled bytes ask None found = rename-asked-by bytes ask (path_spelled bytes) refl found
ask-spelled bytes ask (Some cut) found = wrap-asked bytes ask found

-- the command of a question, or of an edit, is spelled by its word and arguments
offer-spelled : (bytes : List ℕ) (command : Command) (o : Option Ask) → ask_of bytes ≡ o → option_map commands.Offer o ≡ Some command → SpellsCommand (codes "offer" ++ (32 ∷ bytes)) command
offer-spelled bytes command None is found = cc
offer-spelled bytes command (Some ask) is found =
    let spelled = ask-spelled bytes ask (first_word bytes) is in
    let this : commands.Offer ask ≡ command = cc in
    rw (← this) record { text = spelled.text; numbers = spelled.within }

edit-command : (word bytes : List ℕ) (command : Command) (o : Option Edit) → edit_of word bytes ≡ o → option_map commands.Edit o ≡ Some command → SpellsCommand (word ++ (32 ∷ bytes)) command
edit-command word bytes command None is found = cc
edit-command word bytes command (Some edit) is found =
    let spelled = edit-spelled word bytes edit is in
    let this : commands.Edit edit ≡ command = cc in
    rw (← this) record { text = spelled.text; numbers = spelled.within }

with-by : (word bytes : List ℕ) (command : Command) (same : Bool) → bytes_eq word (codes "offer") ≡ same →
    (if same then option_map commands.Offer (ask_of bytes) else option_map commands.Edit (edit_of word bytes)) ≡ Some command → SpellsCommand (word ++ (32 ∷ bytes)) command
with-by word bytes command true is found = rw ((bytes_eq-Decides word (codes "offer")).0 is) (offer-spelled bytes command (ask_of bytes) refl found)
with-by word bytes command false is found = edit-command word bytes command (edit_of word bytes) refl found

in-line : (line : List ℕ) (command : Command) (o : Option (List ℕ × List ℕ)) → first_word line ≡ o → command_in line ≡ Some command → SpellsCommand line command
in-line line command None is found = let these = rw is at found in cc
in-line line command (Some (word, bytes)) is found =
    rw (first_word-whole line word bytes is) (with-by word bytes command (bytes_eq word (codes "offer")) refl (rw is at found))

-- where the line is this, the command is spelled by it
on-line : (line name : List ℕ) (command this : Command) (other : Option Command) (same : Bool) → bytes_eq line name ≡ same → (command_text this ≡ name) → AreNumbers (command_numbers this) →
    (other ≡ Some command → SpellsCommand line command) → (if same then Some this else other) ≡ Some command → SpellsCommand line command
on-line line name command this other true is text within later found =
    let chosen : this ≡ command = cc in
    rw (← chosen) record { text = (bytes_eq-Decides line name).0 is ∙ sym text; numbers = within }
on-line line name command this other false is text within later found = later found

pub command-spelled : (line : List ℕ) (command : Command) → command_of line ≡ Some command → SpellsCommand line command
command-spelled line command =
    on-line line (codes "undo") command commands.Undo _ (bytes_eq line (codes "undo")) refl refl tt
    (on-line line (codes "redo") command commands.Redo _ (bytes_eq line (codes "redo")) refl refl tt
    (on-line line (codes "history") command commands.History _ (bytes_eq line (codes "history")) refl refl tt
    (on-line line (codes "show") command commands.Show _ (bytes_eq line (codes "show")) refl refl tt
    (on-line line (codes "verdicts") command commands.Verdicts _ (bytes_eq line (codes "verdicts")) refl refl tt
    (on-line line (codes "need") command commands.Need _ (bytes_eq line (codes "need")) refl refl tt
    (on-line line (codes "complete") command commands.Complete _ (bytes_eq line (codes "complete")) refl refl tt
    (on-line line (codes "quit") command commands.Quit _ (bytes_eq line (codes "quit")) refl refl tt
    (in-line line command (first_word line) refl))))))))

pub spelled-read : (line : List ℕ) (command : Command) → SpellsCommand line command → command_of line ≡ Some command
spelled-read line command spelled = ap command_of spelled.text ∙ command-read command spelled.numbers

pub no-command : (line : List ℕ) → command_of line ≡ None → IsNoCommand line
no-command line none command spelled = let some = spelled-read line command spelled in cc

pub one-command : OneCommand
one-command line one other spelled also =
    let first = spelled-read line one spelled in
    let second = spelled-read line other also in
    cc

command-or-none : (line : List ℕ) (o : Option Command) → command_of line ≡ o → ((command : Command) × SpellsCommand line command) ⊎ IsNoCommand line
command-or-none line None is = inr (no-command line is)
command-or-none line (Some command) is = inl (command, command-spelled line command is)

pub some-command : CommandOrNone
some-command line = command-or-none line (command_of line) refl
