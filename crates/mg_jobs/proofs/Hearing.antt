-- What the replies of a store to a follow tell: the namespace of its watch, a token of a place that is there, and events with such tokens.
use Rattle.std.proofs.Common.{◌≡◌, ◌≤◌, ℕ, ℤ, pos, Bool, true, false, List, [], ◌∷◌, map, Option, Some, None, Ok, refl, sym, ap, ◌∙◌, subst}
use Rattle.std.specs.Prelude.{codes, if◌then◌else◌, is_some, option_and_then, option_map, unwrap_or}
use Rattle.mg_bson.specs.Tree.{Tree, Fields, field, no_fields}
use Rattle.mg_bson.specs.Raw.{IsDocument, fields, items}
use Rattle.mg_bson.specs.Reading.{doc}
use Rattle.mg_bson.specs.Spans.{array_inside, documents_inside, items_inside}
use Rattle.mg_bson.proofs.Inside.{inside_value}
use Rattle.mg_server.specs.Commands.{Batch, batch_of, documents_in}
use Rattle.mg_link.specs.Namespace.{Space, Target}
use Rattle.mg_server.specs.Rules.{documents_of_items, id_unless, killed_reply, token_of, watch_space}
use Rattle.mg_server.specs.State.{State}
use Rattle.mg_server.proofs.Requests.{IsNamed}
use Rattle.mg_server.proofs.Telling.{gave_reply, opened_reply, space_again}
use Rattle.mg_ops.specs.Cursors.{Cursor, cursor_of}
use Rattle.mg_cursor.specs.Batches.{batch_in, documents_of, or_else}
use Rattle.mg_players.proofs.Batches.{events_are}
use Rattle.mg_jobs.proofs.Tokened.{AreTokened}

-- the cursor is one of this watch, behind a place up to this one
pub record TellsThere (upto : ℕ) (on : Target) (c : Cursor) : Type 0 where
  pub space_is : c.space ≡ watch_space on
  pub id : ℕ
  pub id_is : c.id ≡ pos id
  pub place : ℕ
  pub within : place ≤ upto
  pub token_is : c.token ≡ Some (token_of place)

pub record IsTold (upto : ℕ) (on : Target) (bytes : List ℕ) : Type 0 where
  pub cursor : (c : Cursor) → cursor_of (fields bytes) ≡ Ok c → TellsThere upto on c
  pub events : (es : List (List ℕ)) → documents_of bytes ≡ Some es → AreTokened upto (map fields es)

documents_again : (events : List Fields) → documents_in (documents_of_items events) ≡ Some events
documents_again [] = refl
documents_again (d ∷ ds) = rw (documents_again ds) refl

abbrev said : ℕ → Space → List Fields → ℕ → Cursor
said id space events place = record { id = pos id; space = space; token = Some (token_of place); batch = documents_of_items events }

abbrev batch : ℕ → Space → List Fields → ℕ → Batch
batch id space events place = record { id = pos id; space = space; events = events; token = Some (token_of place) }

opened_says : (id : ℕ) (space : Space) (events : List Fields) (place entries : ℕ) → IsNamed space → cursor_of (opened_reply (pos id) space events place entries) ≡ Ok (said id space events place)
unfolding cursor_of
opened_says id space events place entries named = rw (space_again space named) refl

opened_holds : (id : ℕ) (space : Space) (events : List Fields) (place entries : ℕ) → IsNamed space → batch_of (opened_reply (pos id) space events place entries) ≡ Some (batch id space events place)
unfolding batch_of
opened_holds id space events place entries named = rw (space_again space named, documents_again events) refl

gave_says : (id : ℕ) (space : Space) (events : List Fields) (place : ℕ) → IsNamed space → cursor_of (gave_reply (pos id) space events place) ≡ Ok (said id space events place)
unfolding cursor_of
gave_says id space events place named = rw (space_again space named) refl

gave_holds : (id : ℕ) (space : Space) (events : List Fields) (place : ℕ) → IsNamed space → batch_of (gave_reply (pos id) space events place) ≡ Some (batch id space events place)
unfolding batch_of
gave_holds id space events place named = rw (space_again space named, documents_again events) refl

told_by : (upto : ℕ) (on : Target) (bytes : List ℕ) (id : ℕ) (events : List Fields) (place : ℕ) → cursor_of (fields bytes) ≡ Ok (said id (watch_space on) events place) → batch_of (fields bytes) ≡ Some (batch id (watch_space on) events place) → place ≤ upto → AreTokened upto events → IsTold upto on bytes
told_by upto on bytes id events place says holds within tokened = record {
  cursor = λ c is.
      let both : Ok (said id (watch_space on) events place) ≡ Ok c = sym says ∙ is in
      let same : said id (watch_space on) events place ≡ c = cc in
      subst (TellsThere upto on) same (record { space_is = refl; id = id; id_is = refl; place = place; within = within; token_is = refl });
  events = λ es is. subst (AreTokened upto) (sym (events_are bytes (batch id (watch_space on) events place) es holds is)) tokened;
}

-- as the reply to an aggregate does
pub opening_told : (upto : ℕ) (on : Target) (bytes : List ℕ) (id : ℕ) (events : List Fields) (place entries : ℕ) → IsNamed (watch_space on) → fields bytes ≡ opened_reply (pos id) (watch_space on) events place entries → place ≤ upto → AreTokened upto events → IsTold upto on bytes
opening_told upto on bytes id events place entries named is within tokened =
    told_by upto on bytes id events place (ap cursor_of is ∙ opened_says id (watch_space on) events place entries named) (ap batch_of is ∙ opened_holds id (watch_space on) events place entries named) within tokened

-- and that to a getMore
pub more_told : (upto : ℕ) (on : Target) (bytes : List ℕ) (id : ℕ) (events : List Fields) (place : ℕ) → IsNamed (watch_space on) → fields bytes ≡ gave_reply (pos id) (watch_space on) events place → place ≤ upto → AreTokened upto events → IsTold upto on bytes
more_told upto on bytes id events place named is within tokened =
    told_by upto on bytes id events place (ap cursor_of is ∙ gave_says id (watch_space on) events place named) (ap batch_of is ∙ gave_holds id (watch_space on) events place named) within tokened

-- the id of a reply, where its cursor has this id, is 0 or the same
abbrev pub left_id : Bool → ℕ → ℕ
left_id ended id = if ended then 0 else id

pub left_is : (ended : Bool) (id : ℕ) → id_unless ended (pos id) ≡ pos (left_id ended id)
left_is true id = refl
left_is false id = refl

-- ---- the reply to a killing

none_mapped : {A B : Type 0} (f : A → B) (o : Option A) → option_map f o ≡ None → o ≡ None
none_mapped f (Some x) is = absurd cc
none_mapped f None is = refl

is_there : (o : Option Fields) (k : List ℕ) (t : Tree) (fs : Fields) → unwrap_or o no_fields ≡ field k t fs → is_some o ≡ true
is_there (Some d) k t fs is = refl
is_there None k t fs is = absurd cc

killing_read : (bytes : List ℕ) (s : State) (ids : List ℤ) → fields bytes ≡ killed_reply s ids → IsDocument bytes
unfolding fields
killing_read bytes s ids is = is_there (doc bytes) _ _ _ is

none_inside : (bytes : List ℕ) (s : State) (ids : List ℤ) (name : List ℕ) → fields bytes ≡ killed_reply s ids → array_inside (codes "cursor") name bytes ≡ None
none_inside bytes s ids name is = none_mapped items (array_inside (codes "cursor") name bytes) (inside_value (codes "cursor") name bytes (killing_read bytes s ids is) ∙ ap (items_inside (codes "cursor") name) is)

none_of : (bytes : List ℕ) (s : State) (ids : List ℤ) → fields bytes ≡ killed_reply s ids → documents_of bytes ≡ None
unfolding documents_of batch_in
none_of bytes s ids is =
    let first = array_inside (codes "cursor") (codes "firstBatch") bytes in
    let other = array_inside (codes "cursor") (codes "nextBatch") bytes in
    ap (λ (o : Option (List ℕ)). option_and_then documents_inside (or_else o other)) (none_inside bytes s ids (codes "firstBatch") is) ∙ ap (option_and_then documents_inside) (none_inside bytes s ids (codes "nextBatch") is)

no_cursor_in : (bytes : List ℕ) (s : State) (ids : List ℤ) (c : Cursor) → fields bytes ≡ killed_reply s ids → cursor_of (fields bytes) ≡ Ok c → ⊥
unfolding cursor_of
no_cursor_in bytes s ids c is says = let bad = sym (ap cursor_of is) ∙ says in cc

-- it tells nothing of them
pub killing_told : (upto : ℕ) (on : Target) (bytes : List ℕ) (s : State) (ids : List ℤ) → fields bytes ≡ killed_reply s ids → IsTold upto on bytes
killing_told upto on bytes s ids is = record {
  cursor = λ c says. absurd (no_cursor_in bytes s ids c is says);
  events = λ es holds. let bad : None ≡ Some es = sym (none_of bytes s ids is) ∙ holds in absurd cc;
}
