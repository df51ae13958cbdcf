use Rattle.std.proofs.Common.{◌≡◌, ℕ, List, Option, Some, None, option_map, sym, ap, ◌∙◌, subst}
use Rattle.mg_bson.specs.Tree.{Tree}
use Rattle.mg_options.specs.declared.change_stream.ChangeStreamOptions.{ChangeStreamOptions}
use Rattle.mg_ops.specs.declared.change_stream.ChangeStreamData.{ChangeStreamData}
use Rattle.mg_cursor.specs.View.{client_of, current_of}
use Rattle.mg_change.specs.ClientStreams.{IsSaved, token_known}
use Rattle.mg_change.specs.ClosingStreams.{IsSoundClosing, closed_stream}
use Rattle.mg_change.specs.StreamView.{changes_of, is_lent, known_at, token_lying}
use Rattle.mg_change.specs.declared.changes.Changes.{Changes}
use Rattle.mg_steps.specs.declared.token.TokenPlace.{TokenPlace}
use Rattle.mg_change.proofs.Closed.{closed_sound}
use Rattle.mg_change.proofs.Parts.{closed_token}
use Rattle.mg_change.proofs.changes.Changes.close.Goals as goal

-- what is saved is so wherever the token lies
saved_so : (o : ChangeStreamOptions) (r : Option ChangeStreamData) (at : TokenPlace) (event : Option (List ℕ)) (batch : Option Tree) → IsSaved o (option_map (known_at at event batch) r) → IsSaved o r
saved_so o None at event batch h = h
saved_so o (Some known) at event batch h = h

token_so : (s : Changes) → IsSaved s.aggregate.args.options (changes_of s).aggregate.resume → token_lying s.token (token_known s.aggregate.resume) (current_of s.buffer) (client_of s.batches).token ≡ token_known (changes_of s).aggregate.resume
token_so s h =
    let batch = (client_of s.batches).token in
    closed_token s.aggregate.args.options s.aggregate.resume s.token (current_of s.buffer) batch (saved_so s.aggregate.args.options s.aggregate.resume s.token (current_of s.buffer) batch h)

pub new-requires-clause-sound : goal.new-requires-clause-sound
new-requires-clause-sound c =
    let s = c.args.self in
    subst (λ (t : Option Tree). IsSoundClosing (record (closed_stream (is_lent s.token) (changes_of s)) { token = t })) (sym (token_so s c.requires.sound.saved)) (closed_sound (is_lent s.token) (changes_of s) c.requires.sound)

pub new-requires-clause-saves : goal.new-requires-clause-saves
new-requires-clause-saves c = c.requires.placed.saves_so

pub returns : goal.returns
returns c =
    let s = c.args.self in
    c.new.ensures ∙ ap (λ (t : Option Tree). record (closed_stream (is_lent s.token) (changes_of s)) { token = t }) (token_so s c.requires.sound.saved)
