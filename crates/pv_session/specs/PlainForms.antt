-- The plain session that a session of the program is. The document that was opened is the one to
-- which its ways back lead.
use Rattle.pv_session.specs.SessionFacts.{KeepsWays, opened_doc}
use Rattle.pv_session.specs.Sessions.{PlainSession}
use Rattle.pv_session.specs.declared.session.Session.TheInside.{Inside}
use Rattle.pv_tree.specs.Marks.{unmarked_doc}

-- the plain form of a session
abbrev pub plain_session : Inside → PlainSession
plain_session s = record {
  dtd = s.marked.dtd;
  root = s.marked.root;
  opened = opened_doc s.ways_back.items (unmarked_doc s.marked.doc);
  past = s.past.items;
  undone = s.undone.items;
  moves = s.moves;
  doc = s.marked.doc;
}

-- what a session keeps of its ways back
abbrev pub Keeps : Inside → Type 0
Keeps s = KeepsWays (plain_session s) s.ways_back.items
