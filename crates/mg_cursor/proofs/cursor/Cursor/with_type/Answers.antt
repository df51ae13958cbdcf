use Rattle.mg_cursor.proofs.cursor.Cursor.with_type.Goals as goal

pub invariant_of-result : goal.invariant_of-result
invariant_of-result g c = c.self.invariant

pub returns : goal.returns
returns g c = c.self.view_is
