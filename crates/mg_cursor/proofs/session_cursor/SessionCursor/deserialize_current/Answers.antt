use Rattle.std.proofs.Common.{is_some, ap, ◌∙◌, subst}
use Rattle.mg_cursor.specs.Documents.{DocumentCursor, ReadsAs}
use Rattle.mg_cursor.proofs.session_cursor.SessionCursor.deserialize_current.Goals as goal

pub read_current-requires : goal.read_current-requires
read_current-requires g c = ap (λ (d : DocumentCursor). is_some d.current) c.self.view_is ∙ c.requires

pub returns : goal.returns
returns g c = subst (λ (d : DocumentCursor). ReadsAs g.T.ReadRaw.stands_for g.T.ReadRaw.seen d.current c.read_current.result) c.self.view_is c.read_current.ensures
