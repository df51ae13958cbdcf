-- What a put hears of a list of indexes in a legal history: each document of it is an index.
use Rattle.std.proofs.Common.{◌≡◌, ◌≢◌, ◌⊎◌, ℕ, ℤ, pos, List, [], ◌∷◌, ◌++◌, map, take, Option, Some, None, Ok, refl, sym, ap, ◌∙◌, subst, inl, inr, option_map}
use Rattle.std.specs.Prelude.{codes, unwrap_or}
use Rattle.mg_bson.specs.Raw.{fields}
use Rattle.mg_bson.specs.Reading.{◌>>=◌}
use Rattle.mg_bson.specs.Tree.{Fields}
use Rattle.mg_server.specs.Calls.{HeardBy, Past}
use Rattle.mg_server.specs.Commands as commands
use Rattle.mg_server.specs.Commands.{Asked, Batch, Told, asked, asked_by, asks_more, asks_other, asks_query, batch_of, garbled, gave_by, space_at}
use Rattle.mg_link.specs.Exec.{IsSuccess}
use Rattle.mg_server.specs.History.{IsLegal, Step, state_of, told_at}
use Rattle.mg_link.specs.Log.{reply}
use Rattle.mg_link.specs.Namespace.{Space, space}
use Rattle.mg_server.specs.Query.{index_listed}
use Rattle.mg_server.specs.Standing.{OpensId, Stands}
use Rattle.mg_server.specs.State.{Cursor, Index, query, watching}
use Rattle.mg_server.specs.Step.{grown}
use Rattle.mg_server.proofs.Watched.{no_zero}
use Rattle.mg_options.specs.Fields.{fields_in}
use Rattle.mg_ops.specs.Cursors as cursors
use Rattle.mg_ops.specs.Cursors.{OpensWith, cursor_of}
use Rattle.mg_ops.specs.Naming.{IsNamed}
use Rattle.mg_ops.specs.declared.cursor_reply.CursorSpecification.{CursorSpecification}
use Rattle.mg_ops.proofs.Asking.{asks_for_more}
use Rattle.mg_ops.proofs.Reading.{named_read}
use Rattle.mg_ops.proofs.Replying.{same_id}
use Rattle.mg_cursor.specs.Causes.{HeardMore}
use Rattle.mg_cursor.specs.Client.{ClientCursor, at_rest, behind_reply, get_more, new_client}
use Rattle.mg_gridfs.specs.Buckets.{ClientBucket}
use Rattle.mg_gridfs.specs.Commands.{listing_lines}
use Rattle.mg_gridfs.specs.Cursors.{indexes_query}
use Rattle.mg_gridfs.specs.declared.indexes.Place.{Place}
use Rattle.mg_players.specs.InTurn.{AreInTurn}
use Rattle.mg_players.specs.PutFailures.{IsListBatch, IsListedIndex, IsOfList, first_batch, next_batch}
use Rattle.mg_players.proofs.Batches.{events_are}
use Rattle.mg_players.proofs.GetSteps.{query_opens, took}
use Rattle.mg_players.proofs.Prompting.{IsLawful, lawful_at, may_tell, never_garbled}
use Rattle.mg_jobs.proofs.ListCursors.{AreIndexes, AsksToList, HoldsIndexes, OpenedList, indexes_front, result_indexes, stays_list}
use Rattle.mg_jobs.proofs.PutHeard.{told_as}

-- ---- what it asks for

-- the indexes of a collection, or nothing that is known
abbrev IsListing : Asked → Type 0
IsListing a = ((space : Space) × (a ≡ asks_query (indexes_query space))) ⊎ (a ≡ asks_other)

lists_by : (o : Option Space) → IsListing (unwrap_or (option_map asks_query (o >>= λ space. Some (indexes_query space))) asks_other)
lists_by None = inr refl
lists_by (Some space) = inl (space, refl)

list_asks : (b : ClientBucket) (at : Place) → IsListing (unwrap_or (asked_by (fields_in (listing_lines b at))) asks_other)
unfolding commands.indexes_query
list_asks b at = lists_by (space_at (codes "listIndexes") (fields_in (listing_lines b at)))

listing_asks : (b : ClientBucket) (at : Place) (command : List ℕ) → fields command ≡ fields_in (listing_lines b at) → IsListing (asked command)
unfolding asked
listing_asks b at command is = subst (λ (fs : Fields). IsListing (unwrap_or (asked_by fs) asks_other)) (sym is) (list_asks b at)

-- ---- what it hears

-- each document of the reply's batch is an index, and where it tells a cursor, a list of indexes opened that
pub record BringsIndexes (history : List Step) (bytes : List ℕ) : Type 0 where
  pub batch : Batch
  pub there : batch_of (fields bytes) ≡ Some batch
  pub indexes : AreIndexes batch.events
  pub opens : batch.id ≢ pos 0 → OpenedList history batch.id

-- a cursor that a list opened, in a namespace that a server takes
record IsList (history : List Step) (c : ClientCursor) : Type 0 where
  named : IsNamed c.space
  knows : c.id ≢ pos 0 → OpenedList history c.id

module _ (past : Past) (history : List Step) (legal : IsLegal history) (stands : Stands past.calls history) (b : ClientBucket) where
  first_brings : (at : Place) (bytes : List ℕ) → HeardBy past (fields_in (listing_lines b at)) (reply bytes) → IsSuccess bytes → BringsIndexes history bytes
  first_brings at bytes h success =
      let t = took past history stands (fields_in (listing_lines b at)) bytes h in
      let l = lawful_at history t.position t.step legal t.there in
      let here : IsSuccess t.step.reply = subst IsSuccess t.reply_is success in
      elim (listing_asks b at t.step.command t.command_is) [
        | inl asks ↦
            let o = query_opens t.step l here (indexes_query asks.0) asks.1 in
            record {
              batch = o.batch;
              there = subst (λ (bs : List ℕ). batch_of (fields bs) ≡ Some o.batch) (sym t.reply_is) o.there;
              indexes = indexes_front o.batch.events o.left (result_indexes (grown l.before t.step.made) asks.0 (o.batch.events ++ o.left) o.these);
              opens = λ held. record { position = t.position; step = t.step; there = t.there; asks = subst AsksToList (sym asks.1) (asks.0, refl); opens = subst (λ (said : Told). OpensId said o.batch.id) (sym o.said) (refl, held) };
            }
        | inr other ↦ absurd (never_garbled t.step l (told_as t.step l here asks_other other))
      ]

  -- ---- of a getMore

  module _ (step : Step) (p : IsLawful step) (success : IsSuccess step.reply) (id : ℤ) (at : Space) (asks : asked step.command ≡ asks_more id at) where
    told_it : (o : Option Batch) → batch_of (fields step.reply) ≡ o → told_at step ≡ unwrap_or (option_map gave_by o) garbled
    told_it o is = told_as step p success (asks_more id at) asks ∙ ap (λ (x : Option Batch). unwrap_or (option_map gave_by x) garbled) is

    -- the cursor stood, and was one of a list
    more_by : ((c : Cursor) → p.before.cursors id ≡ Some c → HoldsIndexes c × OpenedList history id) → (o : Option Batch) → batch_of (fields step.reply) ≡ o → BringsIndexes history step.reply
    more_by holds None is = absurd (never_garbled step p (told_it None is))
    more_by holds (Some batch) is =
        elim (may_tell step p (asks_more id at) (gave_by batch) asks (told_it (Some batch) is)) [
          | inl watch ↦ absurd (holds (watching watch.watch watch.at) watch.stood).0
          | inr may ↦
              let stood = holds (query may.space (batch.events ++ may.left)) may.stood in
              record {
                batch = batch;
                there = is;
                indexes = indexes_front batch.events may.left stood.0;
                opens = λ held. elim may.same [
                  | inl same ↦ subst (OpenedList history) (sym same) stood.1
                  | inr over ↦ absurd (held over.0)
                ];
              }
        ]

  more_brings : (c : ClientCursor) (bytes : List ℕ) → IsList history c → HeardMore past c bytes → BringsIndexes history bytes
  more_brings c bytes w h =
      let t = took past history stands (get_more c h.session) bytes h.heard in
      let l = lawful_at history t.position t.step legal t.there in
      let asks = asks_for_more t.step.command c.id c.space c.manner.size c.manner.wait c.manner.comment h.session w.named t.command_is in
      subst (BringsIndexes history) (sym t.reply_is)
      (more_by t.step l (subst IsSuccess t.reply_is h.success) c.id c.space asks
      (λ d stood.
      let opened = w.knows (λ zero. no_zero history t.position d legal (subst (λ (z : ℤ). (state_of (take t.position history)).cursors z ≡ Some d) zero stood)) in
      (stays_list history t.position c.id d legal opened stood, opened)) (batch_of (fields t.step.reply)) refl)

  -- ---- of each batch

  opened_list : (at : Place) (bytes : List ℕ) (out : CursorSpecification) → HeardBy past (fields_in (listing_lines b at)) (reply bytes) → IsSuccess bytes → OpensWith None None None bytes out → IsList history (new_client out)
  opened_list at bytes out h success opens =
      let said : cursors.Cursor = record { id = out.info.id; space = space out.info.ns; token = out.post_batch_resume_token; batch = opens.opens.batch } in
      let brings = first_brings at bytes h success in
      let same = same_id (fields bytes) said brings.batch opens.opens.says brings.there in
      record { named = named_read (fields bytes) said opens.opens.says; knows = λ held. subst (OpenedList history) (sym same) (brings.opens (λ zero. held (same ∙ zero))) }

  behind_list : (c : ClientCursor) (bytes : List ℕ) (said : cursors.Cursor) → IsList history c → HeardMore past c bytes → cursor_of (fields bytes) ≡ Ok said → IsList history (behind_reply said c)
  behind_list c bytes said w h says =
      let brings = more_brings c bytes w h in
      let same = same_id (fields bytes) said brings.batch says brings.there in
      record { named = named_read (fields bytes) said says; knows = λ held. subst (OpenedList history) (sym same) (brings.opens (λ zero. held (same ∙ zero))) }

  replies_list : (c : ClientCursor) (last : ℕ) (replies : List (ℕ × List ℕ)) (at : ClientCursor) → AreInTurn past c last replies at → IsList history c → IsList history at
  replies_list c last [] at are w = subst (IsList history) (sym are) (record { named = w.named; knows = w.knows })
  replies_list c last (h ∷ more) at are w =
      replies_list (behind_reply are.5 c) h.0 more at are.7 (behind_list c h.1 are.5 w (record { session = are.2; heard = record { place = h.0; heard = are.3 }; success = are.4 }) are.6)

  list_cursor : (c : ClientCursor) → IsOfList past b c → IsList history c
  list_cursor c l =
      let w = replies_list (new_client l.out) l.place l.replies (at_rest c) l.behind (opened_list l.at l.first l.out (record { place = l.place; heard = l.heard }) l.success l.opens) in
      record { named = w.named; knows = w.knows }

  pub batch_brings : (bytes : List ℕ) → IsListBatch past b bytes → BringsIndexes history bytes
  batch_brings bytes (first_batch at h success) = first_brings at bytes h success
  batch_brings bytes (next_batch c l h) = more_brings c bytes (list_cursor c l) h

  -- ---- of each document

  item_at : (front after : List (List ℕ)) (document : List ℕ) → AreIndexes (map fields (front ++ document ∷ after)) → (i : Index) × (fields document ≡ index_listed i)
  item_at [] after document are = are.0
  item_at (x ∷ front) after document are = item_at front after document are.1

  pub listed_index : (document : List ℕ) → IsListedIndex past b document → (i : Index) × (fields document ≡ index_listed i)
  listed_index document l =
      let brings = batch_brings l.bytes l.batch in
      let these : map fields (l.front ++ document ∷ l.after) ≡ brings.batch.events = events_are l.bytes brings.batch (l.front ++ document ∷ l.after) brings.there l.holds in
      item_at l.front l.after document (subst AreIndexes (sym these) brings.indexes)
