-- What is kept with a session on a document that was opened.
use Rattle.pv_complete.specs.RememberedGrammar.{Remembers}
use Rattle.pv_conversation.specs.declared.opened_session.OpenedSession.TheInside.{Inside}
use Rattle.pv_tree.specs.Prolog.{IsProlog}

-- A DOCTYPE of the opened document names the root, and what is remembered is right by the DTD.
pub record KeepsOpened (s : Inside) : Type 0 where
  pub prolog : IsProlog s.session.root s.session.opened.before
  pub remembers : Remembers s.session.dtd s.remembered
