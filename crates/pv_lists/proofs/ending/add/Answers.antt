use Rattle.std.proofs.Common.{refl, ap, ◌∷◌, inl, inr, Some, None}
use Rattle.pv_model.specs.declared.models.Token.TheVariants.{Text}
use Rattle.pv_tree.specs.Marks.{blank_mark}
use Rattle.pv_tree.specs.Plain.{short, tagged}
use Rattle.pv_read.specs.Left.{just_opened}
use Rattle.pv_read.specs.PlainItems.{plain_item}
use Rattle.pv_lists.proofs.FactsAfterItems.{behind_start, behind_end, behind_empty, behind_misc}
use Rattle.pv_lists.proofs.FactsAfterItems.{behind_cdata, behind_text}
use Rattle.pv_lists.proofs.TypesFound.{type_of_tag}
use Rattle.pv_lists.proofs.Stack.{opened_room}
use Rattle.pv_lists.proofs.ending.add.Goals as goal

pub open-requires-clause-typed : goal.open-requires-clause-typed
open-requires-clause-typed g c =
    type_of_tag (g.J.ListJudge.judgement c.args.judge.now).dtd (plain_item c.args.item.now)
    c.in-StartTag.tag.name.now c.in-StartTag.tag.attrs.now c.args.kind
    (inl (ap plain_item c.in-StartTag.is)) c.requires.typed

pub open-requires-in-EmptyTag-clause-typed : goal.open-requires-in-EmptyTag-clause-typed
open-requires-in-EmptyTag-clause-typed g c =
    type_of_tag (g.J.ListJudge.judgement c.args.judge.now).dtd (plain_item c.args.item.now)
    c.in-EmptyTag.tag.name.now c.in-EmptyTag.tag.attrs.now c.args.kind
    (inr (ap plain_item c.in-EmptyTag.is)) c.requires.typed

pub close-requires-clause-room : goal.close-requires-clause-room
close-requires-clause-room g c =
    let room = c.requires.room in
    opened_room (g.J.ListJudge.judgement c.args.judge.now) room.root c.args.lists.now c.open-in-EmptyTag.new.lists room c.in-EmptyTag.tag.name.now c.in-EmptyTag.tag.attrs.now
    (c.in_ok-open-in-EmptyTag.ensures.read room.root c.in-EmptyTag.tag.attrs.now room.inner room.outer room.has_read)

pub returns-in_ok-open-in-StartTag-clause-behind : goal.returns-in_ok-open-in-StartTag-clause-behind
returns-in_ok-open-in-StartTag-clause-behind g c = λ root inner outer r.
    rw (ap plain_item c.in-StartTag.is) (behind_start (g.J.ListJudge.judgement c.args.judge.now)
    root inner outer c.open.new.lists c.in-StartTag.tag.name.now c.in-StartTag.tag.attrs.now
    (c.in_ok-open-in-StartTag.ensures.read root c.in-StartTag.tag.attrs.now inner outer r))

pub returns-in_ok-whole-in-EmptyTag-clause-behind : goal.returns-in_ok-whole-in-EmptyTag-clause-behind
returns-in_ok-whole-in-EmptyTag-clause-behind g c = λ root inner outer r.
    let is = ap plain_item c.in-EmptyTag.is in
    let name = c.in-EmptyTag.tag.name.now in
    let attrs = c.in-EmptyTag.tag.attrs.now in
    rw is (behind_empty (g.J.ListJudge.judgement c.args.judge.now) root inner outer c.close.new.lists c.in_ok-whole-in-EmptyTag.whole name attrs
    (c.in_ok-whole-in-EmptyTag.ensures.ended root attrs (just_opened name attrs) (inner ∷ outer) short blank_mark (c.in_ok-open-in-EmptyTag.ensures.read root attrs inner outer r)))

pub returns-in_ok-whole-in-EndTag-clause-behind : goal.returns-in_ok-whole-in-EndTag-clause-behind
returns-in_ok-whole-in-EndTag-clause-behind g c = λ root inner outer r.
    let is = ap plain_item c.in-EndTag.is in
    rw is (behind_end (g.J.ListJudge.judgement c.args.judge.now) root inner outer c.close-in-EndTag.new.lists c.in_ok-whole-in-EndTag.whole c.in-EndTag.name.now c.in-EndTag.gap.now
    (c.in_ok-whole-in-EndTag.ensures.ended root inner.attrs inner outer (tagged c.in-EndTag.gap.now) blank_mark r))

pub returns-in_ok-add_kid-in-TextRun-clause-behind : goal.returns-in_ok-add_kid-in-TextRun-clause-behind
returns-in_ok-add_kid-in-TextRun-clause-behind g c = λ root inner outer r.
    let is = ap plain_item c.in-TextRun.is in
    let added = c.in_ok-add_kid-in-TextRun.ensures in
    rw is (behind_text (g.J.ListJudge.judgement c.args.judge.now) root inner outer c.args.lists.now c.add_kid.new.self r added.inner (ap (λ (v : _). v.items) added.outer) added.found _ added.tokens
    c.in-TextRun.run'.now c.holds_data.result (rw is at c.requires.known) c.holds_data.ensures c.then_some.ensures)

pub returns-in_ok-add_kid-in-CdataSection-clause-behind : goal.returns-in_ok-add_kid-in-CdataSection-clause-behind
returns-in_ok-add_kid-in-CdataSection-clause-behind g c = λ root inner outer r.
    let is = ap plain_item c.in-CdataSection.is in
    let added = c.in_ok-add_kid-in-CdataSection.ensures in
    rw is (behind_cdata (g.J.ListJudge.judgement c.args.judge.now) root inner outer c.args.lists.now
    c.add_kid-in-CdataSection.new.self r added.inner (ap (λ (v : _). v.items) added.outer)
    added.found (Some Text) added.tokens
    c.in-CdataSection.field-0.now refl)

pub returns-in_ok-add_kid-in-CommentOrInstruction-clause-behind : goal.returns-in_ok-add_kid-in-CommentOrInstruction-clause-behind
returns-in_ok-add_kid-in-CommentOrInstruction-clause-behind g c = λ root inner outer r.
    let is = ap plain_item c.in-CommentOrInstruction.is in
    let added = c.in_ok-add_kid-in-CommentOrInstruction.ensures in
    rw is (behind_misc (g.J.ListJudge.judgement c.args.judge.now) root inner outer c.args.lists.now
    c.add_kid-in-CommentOrInstruction.new.self r added.inner
    (ap (λ (v : _). v.items) added.outer) added.found None added.tokens
    c.in-CommentOrInstruction.field-0.now refl)
