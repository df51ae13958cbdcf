use Rattle.std.proofs.Common.{sym, ap, ◌∙◌, subst}
use Rattle.mg_cursor.specs.View.{client_of, current_of}
use Rattle.mg_change.specs.ClientStreams.{token_known}
use Rattle.mg_change.specs.StreamView.{IsOwnPlace, is_lent, token_lying}
use Rattle.mg_steps.specs.declared.token.TokenPlace.{TokenPlace}
use Rattle.mg_change.proofs.Linking.{own_saved, placed_saved, saved_place}
use Rattle.mg_change.proofs.changes.Changes.own.Goals as goal

pub save-requires : goal.save-requires
save-requires c =
    let s = c.args.self.now in
    c.requires.is (ap is_lent c.in-Event.is) ∙ sym (ap (λ (t : TokenPlace). token_lying t (token_known s.aggregate.resume) (current_of s.buffer) (client_of s.batches).token) c.in-Event.is)

pub returns-in-Saved-clause-placed : goal.returns-in-Saved-clause-placed
returns-in-Saved-clause-placed c = c.requires.placed

pub returns-in-Saved-clause-owned : goal.returns-in-Saved-clause-owned
returns-in-Saved-clause-owned c = subst IsOwnPlace (sym c.in-Saved.is) tt

pub returns-in-Event-clause-same : goal.returns-in-Event-clause-same
returns-in-Event-clause-same c = c.save.ensures.same

pub returns-in-Event-clause-placed : goal.returns-in-Event-clause-placed
returns-in-Event-clause-placed c = placed_saved c.save.new.self c.save.ensures.saved

pub returns-in-Event-clause-owned : goal.returns-in-Event-clause-owned
returns-in-Event-clause-owned c = own_saved c.save.new.self.token (saved_place c.save.new.self.token c.save.ensures.saved)

pub returns-in-Batch-clause-placed : goal.returns-in-Batch-clause-placed
returns-in-Batch-clause-placed c = c.requires.placed

pub returns-in-Batch-clause-owned : goal.returns-in-Batch-clause-owned
returns-in-Batch-clause-owned c = subst IsOwnPlace (sym c.in-Batch.is) tt
