use Rattle.std.proofs.lemmas.Bool.{iff_false}
use Rattle.std.proofs.Common.{refl, sym, subst}
use Rattle.mg_cursor.specs.View.{client_of}
use Rattle.mg_change.specs.Steps.{is_empty, next_is}
use Rattle.mg_change.specs.StreamView.{IsOwnPlace}
use Rattle.mg_change.proofs.Linking.{own_empty, own_saved, placed_saved, saved_is}
use Rattle.mg_change.proofs.Parts.{emptied_placed, emptied_so, next_found}
use Rattle.mg_change.proofs.changes.Changes.found.Goals as goal

-- ---- an event is next

pub returns-then-not-is_last-clause-finds : goal.returns-then-not-is_last-clause-finds
returns-then-not-is_last-clause-finds c = next_is (λ none_left. iff_false c.is_last.ensures c.if-not-is_last.true none_left) (next_found c.args.self.now c.requires.follows) refl

pub returns-then-not-is_last-clause-placed : goal.returns-then-not-is_last-clause-placed
returns-then-not-is_last-clause-placed c = placed_saved c.args.self.now (saved_is c.args.self.now.token c.requires.saved)

pub returns-then-not-is_last-clause-owned : goal.returns-then-not-is_last-clause-owned
returns-then-not-is_last-clause-owned c = own_saved c.args.self.now.token c.requires.saved

-- ---- the batch is empty

pub returns-clause-finds : goal.returns-clause-finds
returns-clause-finds c =
    let none_left = c.is_last.ensures.0 c.if-not-is_last.false in
    is_empty none_left (emptied_so c.args.self.now c.place_empty-self.result c.place_empty-self.ensures none_left c.requires.follows) refl

pub returns-clause-placed : goal.returns-clause-placed
returns-clause-placed c = emptied_placed c.args.self.now c.place_empty-self.result c.place_empty-self.ensures c.requires.saved c.requires.follows c.requires.rests

pub returns-clause-owned : goal.returns-clause-owned
returns-clause-owned c = subst IsOwnPlace (sym c.place_empty-self.ensures) (own_empty c.args.self.now.token (client_of c.args.self.now.batches).token (own_saved c.args.self.now.token c.requires.saved))
