-- What a server that holds nothing back tells a put of the indexes of its collections: each batch holds some, and nothing else, while some are left.
use Rattle.std.proofs.Common.{◌≡◌, ◌≢◌, ◌⊎◌, ◌<◌, ◌≤◌, ◌+◌, ℕ, zero, suc, ℤ, pos, Bool, true, false, List, [], ◌∷◌, ◌++◌, length, map, take, Option, Some, None, Ok, refl, sym, ap, ◌∙◌, subst, inl, inr, arith, length-append}
use Rattle.std.specs.Prelude.{if◌then◌else◌, option_and_then, option_map, unwrap_or}
use Rattle.std.proofs.lemmas.List.{length-map}
use Rattle.std.specs.Ordering.{int_eq}
use Rattle.mg_bson.specs.Raw.{fields}
use Rattle.mg_bson.specs.Tree.{Fields, Tree}
use Rattle.mg_server.specs.Calls.{HeardAt, HeardBy, Past}
use Rattle.mg_server.specs.Commands.{Asked, Batch, Told, asked, asks_more, asks_query, batch_of, documents_in, garbled, gave_by, opened, opened_by, time_in}
use Rattle.mg_link.specs.Exec.{IsSuccess}
use Rattle.mg_server.specs.History.{IsLegal, Step, state_of, step_after, told_at}
use Rattle.mg_link.specs.Log.{fault, reply}
use Rattle.mg_link.specs.Namespace.{Space, space}
use Rattle.mg_server.specs.Prompt.{AnswersAtOnce}
use Rattle.mg_server.specs.Query.{Query, id_index, index_listed, result, through}
use Rattle.mg_link.specs.Session.{Session}
use Rattle.mg_server.specs.Standing.{OpensId}
use Rattle.mg_server.specs.State.{Collection, Cursor, Index, State, collection_in, give, indexes_of, put_cursor, query, watching}
use Rattle.mg_server.specs.Step.{Made, effect, grown, queried_at}
use Rattle.mg_link.specs.declared.error.Error.{Error}
use Rattle.mg_link.specs.declared.error.ErrorKind.TheVariants as kind
use Rattle.mg_server.proofs.Later.{grown-cursors, opens_given}
use Rattle.mg_server.proofs.Watched.{no_zero}
use Rattle.mg_options.specs.Fields.{fields_in}
use Rattle.mg_ops.specs.Cursors as cursors
use Rattle.mg_ops.specs.Cursors.{Manner, OpensWith, cursor_of, next_command}
use Rattle.mg_ops.specs.Failing.{CannotBeSent, HasBadSize}
use Rattle.mg_ops.specs.Limits.{SizePasses}
use Rattle.mg_ops.specs.Naming.{IsNamed}
use Rattle.mg_ops.specs.declared.cursor_reply.CursorSpecification.{CursorSpecification}
use Rattle.mg_ops.proofs.Asking.{asks_for_more}
use Rattle.mg_ops.proofs.Reading.{batch_as, batch_read, named_read}
use Rattle.mg_chunks.specs.Broken.{Breaks}
use Rattle.mg_records.specs.Readings.{FailsToRead, recorded}
use Rattle.mg_records.specs.Specifications.{index_of}
use Rattle.mg_cursor.specs.Batches.{BreaksBatch, documents_of}
use Rattle.mg_cursor.specs.Causes.{HeardMore, MoreFails, TellsNoCursor}
use Rattle.mg_cursor.specs.Client.{ClientCursor, at_rest, behind_reply, get_more, new_client}
use Rattle.mg_cursor.specs.Polling.{CannotAsk}
use Rattle.mg_cursor.specs.Seeking.{most_empty}
use Rattle.mg_gridfs.specs.Buckets.{ClientBucket}
use Rattle.mg_gridfs.specs.Commands.{listing_lines}
use Rattle.mg_gridfs.specs.Cursors.{indexes_query}
use Rattle.mg_gridfs.specs.Indexes.{space_in}
use Rattle.mg_gridfs.specs.declared.indexes.Place.{Place}
use Rattle.mg_jobs.specs.Own.{IsOwnCursor}
use Rattle.mg_players.specs.InTurn.{AreInTurn, empty_by, empty_with}
use Rattle.mg_players.specs.PutFailures.{IsListBatch, IsListedIndex, IsOfList, brought, first_batch, held_by, held_in, last_empty, next_batch}
use Rattle.mg_jobs.specs.PutLimits.{CannotPut, HasFewIndexes, a_getMore}
use Rattle.mg_players.specs.Puts.{PutTask, put_bucket}
use Rattle.mg_players.specs.Gets.{no_manner}
use Rattle.mg_players.proofs.Batches.{breaks_not, events_are, tells_not}
use Rattle.mg_players.proofs.Creating.{asked_creates, asking_none}
use Rattle.mg_jobs.proofs.ListCursors.{AreIndexes, AsksToList, HoldsIndexes, OpenedList, indexes_front, result_indexes, result_length, result_listed, stays_list}
use Rattle.mg_jobs.proofs.ListShortens.{FewOnly, IsFew, first_few, later_few, more_few, state_behind}
use Rattle.mg_players.proofs.Prompting.{lawful, may_tell, never_garbled}
use Rattle.mg_players.proofs.PutChecking.{opened_plainly}
use Rattle.mg_jobs.proofs.PutHeard.{IsKnown, OwnStep, a_getMore, lists_as, query_brings, request_well, succeeded, told_as}

-- ---- cursors that a reply tells

told_by_items : (said : cursors.Cursor) (o : Option (List Fields)) (batch : Batch) → option_map (batch_as said) o ≡ Some batch → batch.id ≡ said.id
told_by_items said None batch h = absurd cc
told_by_items said (Some events) batch h = let same : batch_as said events ≡ batch = cc in sym (ap (λ (b : Batch). b.id) same)

id_told : (bytes : List ℕ) (said : cursors.Cursor) (batch : Batch) → cursor_of (fields bytes) ≡ Ok said → batch_of (fields bytes) ≡ Some batch → batch.id ≡ said.id
id_told bytes said batch says there = told_by_items said (documents_in said.batch) batch (sym (batch_read (fields bytes) said says) ∙ there)

-- ---- the first batch of a list

result_by : (s t : State) (at : Space) → t.collections ≡ s.collections → result t (indexes_query at) ≡ result s (indexes_query at)
unfolding result
result_by s t at same = ap (λ (cs : List Collection). option_and_then (through []) (option_map (λ (c : Collection). map index_listed (id_index ∷ c.indexes)) (collection_in cs at))) same

-- another cursor changes no collection
cursor_stays : (s : State) (id : ℤ) (c : Cursor) (b : Bool) → (if b then s else record s { cursors = put_cursor id (Some c) s.cursors; given = give id s.given }).collections ≡ s.collections
cursor_stays s id c true = refl
cursor_stays s id c false = refl

query_stays : (s : State) (q : Query) (id : ℤ) (at : Space) (events : List Fields) (token : Option Tree) (time : Option ℕ) → (effect s (asks_query q) (opened id at events token time)).collections ≡ s.collections
unfolding effect
query_stays s q id at events token time = cursor_stays s id (queried_at s q at events) (int_eq id (pos 0))

none_front : (xs ys : List Fields) → xs ≡ [] → xs ++ ys ≡ ys
none_front xs ys none = ap (λ (l : List Fields). l ++ ys) none

-- a list of indexes is never empty
listed_some : (is : List Index) → map index_listed (id_index ∷ is) ≡ [] → ⊥
listed_some is h = cc

-- a batch that was heard: what it holds are indexes, and where it holds none the cursor has ended
record HoldsListed (history : List Step) (bytes : List ℕ) : Type 0 where
  batch : Batch
  there : batch_of (fields bytes) ≡ Some batch
  indexes : AreIndexes batch.events
  ends : batch.events ≡ [] → batch.id ≡ pos 0
  opens : batch.id ≢ pos 0 → OpenedList history batch.id

-- behind it the cursor holds no more than what is left of so many
record HoldsCounted (history : List Step) (bytes : List ℕ) (position most : ℕ) : Type 0 where
  batch : Batch
  there : batch_of (fields bytes) ≡ Some batch
  left : ℕ
  sum : length batch.events + left ≤ most
  few : batch.id ≢ pos 0 → IsFew history (suc position) left batch.id

-- what was read of it is no more than it holds
few_by : (bytes : List ℕ) (batch : Batch) (o : Option (List (List ℕ))) → documents_of bytes ≡ o → batch_of (fields bytes) ≡ Some batch → length (unwrap_or o []) ≤ length batch.events
few_by bytes batch None is there = omega arith
few_by bytes batch (Some ds) is there =
    let same = ap length (events_are bytes batch ds there is) in
    let long = length-map ds fields in
    omega (arith, same, long)

held_few : (bytes : List ℕ) (batch : Batch) → batch_of (fields bytes) ≡ Some batch → held_in bytes ≤ length batch.events
held_few bytes batch there = few_by bytes batch (documents_of bytes) refl there

-- a batch is one empty one at most
one_alone : (o : Option (List (List ℕ))) → empty_with 0 o ≤ 1
one_alone None = omega arith
one_alone (Some []) = omega arith
one_alone (Some (x ∷ xs)) = omega arith

none_before : (n : ℕ) → (1 ≤ n → ⊥) → n ≡ 0
none_before zero never = refl
none_before (suc n) never = absurd (never (omega arith))

grown_indexes : (s : State) (made : Made) (at : Space) → indexes_of (grown s made) at ≡ indexes_of s at
unfolding grown
grown_indexes s made at = refl

module _ (own : List ℕ) (history : List Step) (legal : IsLegal history) where
  module _ (command : Fields) (bytes : List ℕ) (s : OwnStep own history command bytes) (success : IsSuccess bytes) where
    here : IsSuccess s.step.reply
    here = subst IsSuccess s.reply_is success

    first_holds : (at : Space) → asked s.step.command ≡ asks_query (indexes_query at) → HoldsListed history bytes
    first_holds at asks =
        let q = indexes_query at in
        let p = s.at_once in
        let said : Fields = fields s.step.reply in
        let b = query_brings s.step (lawful s.step p) here q asks in
        let batch : Batch = b.0 in
        let told_so : told_at s.step ≡ opened_by (time_in said) batch = told_as s.step (lawful s.step p) here (asks_query q) asks ∙ ap (λ (o : Option Batch). unwrap_or (option_map (opened_by (time_in said)) o) garbled) b.1 in
        let may = may_tell s.step (lawful s.step p) (asks_query q) (opened_by (time_in said) batch) asks told_so in
        let g : State = grown p.before s.step.made in
        let after : State = step_after p.before s.step in
        let stays : after.collections ≡ g.collections
        = ap (λ (a : Asked). (effect g a (told_at s.step)).collections) asks ∙ ap (λ (t : Told). (effect g (asks_query q) t).collections) told_so ∙ query_stays g q batch.id batch.space batch.events batch.token (time_in said) in
        let prompt = subst (λ (a : Asked). AnswersAtOnce p.before after a (opened_by (time_in said) batch)) asks (subst (λ (t : Told). AnswersAtOnce p.before after (asked s.step.command) t) told_so p.prompt) in
        let back = prompt may.left (result_by g after at stays ∙ may.these) in
        let listed = result_listed g at (batch.events ++ may.left) may.these in
        record {
          batch = batch;
          there = subst (λ (bs : List ℕ). batch_of (fields bs) ≡ Some batch) (sym s.reply_is) b.1;
          indexes = indexes_front batch.events may.left (result_indexes g at (batch.events ++ may.left) may.these);
          ends = λ none. absurd (listed_some listed.0 (sym listed.1 ∙ none_front batch.events may.left none ∙ back.some (λ bad. cc) none));
          opens = λ held. record { position = s.position; step = s.step; there = s.there; asks = subst AsksToList (sym asks) (at, refl); opens = subst (λ (t : Told). OpensId t batch.id) (sym told_so) (refl, held) };
        }

    more_by : (id : ℤ) (at : Space) → asked s.step.command ≡ asks_more id at → (b : Option Batch) → batch_of (fields s.step.reply) ≡ b → (batch : Batch) × (batch_of (fields s.step.reply) ≡ Some batch)
    more_by id at asks None none = absurd (never_garbled s.step (lawful s.step s.at_once) (told_as s.step (lawful s.step s.at_once) here (asks_more id at) asks ∙ ap (λ (o : Option Batch). unwrap_or (option_map gave_by o) garbled) none))
    more_by id at asks (Some batch) there = (batch, there)

    pub more_brings : (id : ℤ) (at : Space) → asked s.step.command ≡ asks_more id at → (batch : Batch) × (batch_of (fields s.step.reply) ≡ Some batch)
    more_brings id at asks = more_by id at asks (batch_of (fields s.step.reply)) refl

    -- the cursor stood
    stands_list : (id : ℤ) (c : Cursor) → (id ≢ pos 0 → OpenedList history id) → s.at_once.before.cursors id ≡ Some c → HoldsIndexes c × (id ≢ pos 0)
    stands_list id c knows stood =
        let there : (state_of (take s.position history)).cursors id ≡ Some c = ap (λ (x : State). x.cursors id) s.before_is ∙ stood in
        let held : id ≢ pos 0 = λ zero. no_zero history s.position c legal (subst (λ (z : ℤ). (state_of (take s.position history)).cursors z ≡ Some c) zero there) in
        (stays_list history s.position id c legal (knows held) there, held)

    next_holds : (id : ℤ) (at : Space) → (id ≢ pos 0 → OpenedList history id) → asked s.step.command ≡ asks_more id at → HoldsListed history bytes
    next_holds id at knows asks =
        let p = s.at_once in
        let b = more_brings id at asks in
        let batch : Batch = b.0 in
        let told_so : told_at s.step ≡ gave_by batch = told_as s.step (lawful s.step p) here (asks_more id at) asks ∙ ap (λ (o : Option Batch). unwrap_or (option_map gave_by o) garbled) b.1 in
        let prompt = subst (λ (a : Asked). AnswersAtOnce p.before (step_after p.before s.step) a (gave_by batch)) asks (subst (λ (t : Told). AnswersAtOnce p.before (step_after p.before s.step) (asked s.step.command) t) told_so p.prompt) in
        let there : batch_of (fields bytes) ≡ Some batch = subst (λ (bs : List ℕ). batch_of (fields bs) ≡ Some batch) (sym s.reply_is) b.1 in
        elim (may_tell s.step (lawful s.step p) (asks_more id at) (gave_by batch) asks told_so) [
          | inl watch ↦ absurd (stands_list id (watching watch.watch watch.at) knows watch.stood).0
          | inr may ↦
              let stood = stands_list id (query may.space (batch.events ++ may.left)) knows may.stood in
              let back = prompt.1 may.space may.left may.stood in
              record {
                batch = batch;
                there = there;
                indexes = indexes_front batch.events may.left stood.0;
                ends = λ none. back.ends (back.some (λ bad. cc) none);
                opens = λ held. elim may.same [
                  | inl same ↦ subst (OpenedList history) (sym same) (knows stood.1)
                  | inr over ↦ absurd (held over.0)
                ];
              }
        ]

    -- ---- how many it holds

    behind_effect : (a : Asked) (said : Told) → asked s.step.command ≡ a → told_at s.step ≡ said → state_of (take (suc s.position) history) ≡ effect (grown s.at_once.before s.step.made) a said
    behind_effect a said asks is =
        state_behind history s.position s.step s.there ∙ ap (λ (x : State). step_after x s.step) s.before_is
        ∙ ap (λ (x : Asked). effect (grown s.at_once.before s.step.made) x (told_at s.step)) asks ∙ ap (λ (x : Told). effect (grown s.at_once.before s.step.made) a x) is

    first_counts : (at : Space) → asked s.step.command ≡ asks_query (indexes_query at) → length (indexes_of s.at_once.before at) < 1048576 → HoldsCounted history bytes s.position 1048576
    first_counts at asks fits =
        let q = indexes_query at in
        let p = s.at_once in
        let said : Fields = fields s.step.reply in
        let b = query_brings s.step (lawful s.step p) here q asks in
        let batch : Batch = b.0 in
        let told_so : told_at s.step ≡ opened_by (time_in said) batch = told_as s.step (lawful s.step p) here (asks_query q) asks ∙ ap (λ (o : Option Batch). unwrap_or (option_map (opened_by (time_in said)) o) garbled) b.1 in
        let may = may_tell s.step (lawful s.step p) (asks_query q) (opened_by (time_in said) batch) asks told_so in
        let g : State = grown p.before s.step.made in
        let all = result_length g at (batch.events ++ may.left) may.these in
        let same = ap length (grown_indexes p.before s.step.made at) in
        let sum = length-append batch.events may.left in
        let is = behind_effect (asks_query q) (opened_by (time_in said) batch) asks told_so in
        record {
          batch = batch;
          there = subst (λ (bs : List ℕ). batch_of (fields bs) ≡ Some batch) (sym s.reply_is) b.1;
          left = length may.left;
          sum = omega (arith, all, same, sum, fits);
          few = λ held. record {
            given = ap (λ (x : State). x.given batch.id) (state_behind history s.position s.step s.there ∙ ap (λ (x : State). step_after x s.step) s.before_is) ∙ opens_given p.before s.step batch.id p.may (subst (λ (x : Told). OpensId x batch.id) (sym told_so) (refl, held));
            few = subst (λ (x : State). FewOnly (length may.left) x batch.id) (sym is) (first_few g q batch.id batch.space batch.events may.left batch.token (time_in said) held may.these);
          };
        }

    next_counts : (id : ℤ) (at : Space) → (id ≢ pos 0 → OpenedList history id) → asked s.step.command ≡ asks_more id at → (q n : ℕ) → (id ≢ pos 0 → IsFew history (suc q) n id) → q < s.position → HoldsCounted history bytes s.position n
    next_counts id at knows asks q n known less =
        let p = s.at_once in
        let b = more_brings id at asks in
        let batch : Batch = b.0 in
        let told_so : told_at s.step ≡ gave_by batch = told_as s.step (lawful s.step p) here (asks_more id at) asks ∙ ap (λ (o : Option Batch). unwrap_or (option_map gave_by o) garbled) b.1 in
        let g : State = grown p.before s.step.made in
        let is = behind_effect (asks_more id at) (gave_by batch) asks told_so in
        elim (may_tell s.step (lawful s.step p) (asks_more id at) (gave_by batch) asks told_so) [
          | inl watch ↦ absurd (stands_list id (watching watch.watch watch.at) knows watch.stood).0
          | inr may ↦
              let held = (stands_list id (query may.space (batch.events ++ may.left)) knows may.stood).1 in
              let now = later_few history (suc q) s.position n id legal (omega (arith, less)) (known held) in
              let fits : length (batch.events ++ may.left) ≤ n = now.few (query may.space (batch.events ++ may.left)) (ap (λ (x : State). x.cursors id) s.before_is ∙ may.stood) in
              let sum = length-append batch.events may.left in
              let on = later_few history s.position (suc s.position) n id legal (omega arith) now in
              let stood : g.cursors id ≡ Some (query may.space (batch.events ++ may.left)) = ap (λ (f : ℤ → Option Cursor). f id) (grown-cursors p.before s.step.made) ∙ may.stood in
              let behind : IsFew history (suc s.position) (length may.left) id = record { given = on.given; few = subst (λ (x : State). FewOnly (length may.left) x id) (sym is) (more_few g id batch.id at batch.space may.space batch.events may.left batch.token stood) } in
              record {
                batch = batch;
                there = subst (λ (bs : List ℕ). batch_of (fields bs) ≡ Some batch) (sym s.reply_is) b.1;
                left = length may.left;
                sum = omega (arith, sum, fits);
                few = λ other. elim may.same [
                  | inl same ↦ subst (IsFew history (suc s.position) (length may.left)) (sym same) behind
                  | inr over ↦ absurd (other over.0)
                ];
              }
        ]

  -- ---- the cursor of a list

  module _ (past : Past) (heard : List ℕ → Type 0) (t : PutTask) (lost : (command : Fields) → HeardBy past command fault → ⊥) (taken : (command : Fields) (bytes : List ℕ) (h : HeardBy past command (reply bytes)) → IsKnown past t h.place command bytes → OwnStep own history command bytes) (hears : (command : Fields) (bytes : List ℕ) → HeardBy past command (reply bytes) → heard bytes) (files : IsNamed (put_bucket t).files) (chunks : IsNamed (put_bucket t).chunks) where
    abbrev B : ClientBucket
    B = put_bucket t

    record ReadsWell (c : ClientCursor) : Type 0 where
      named : IsNamed c.space
      manner_is : c.manner ≡ no_manner
      knows : c.id ≢ pos 0 → OpenedList history c.id
      own_cursor : IsOwnCursor heard c.id c.space

    list_holds : (at : Place) (bytes : List ℕ) → HeardBy past (fields_in (listing_lines B at)) (reply bytes) → IsSuccess bytes → HoldsListed history bytes
    list_holds at bytes h success =
        let s = taken (fields_in (listing_lines B at)) bytes h (succeeded success) in
        first_holds (fields_in (listing_lines B at)) bytes s success (space_in B at) (lists_as past own history t lost taken files chunks at s.step.command s.command_is)

    more_asks : (c : ClientCursor) (session : Option Session) (command : List ℕ) → IsNamed c.space → fields command ≡ get_more c session → asked command ≡ asks_more c.id c.space
    more_asks c session command named is = asks_for_more command c.id c.space c.manner.size c.manner.wait c.manner.comment session named is

    more_holds : (c : ClientCursor) (bytes : List ℕ) → ReadsWell c → HeardMore past c bytes → HoldsListed history bytes
    more_holds c bytes w h =
        let s = taken (get_more c h.session) bytes h.heard (succeeded h.success) in
        next_holds (get_more c h.session) bytes s h.success c.id c.space w.knows (more_asks c h.session s.step.command w.named s.command_is)

    opened_well : (at : Place) (first : List ℕ) (out : CursorSpecification) → HeardBy past (fields_in (listing_lines B at)) (reply first) → IsSuccess first → OpensWith None None None first out → ReadsWell (new_client out)
    opened_well at first out h success opens =
        let said : cursors.Cursor = record { id = out.info.id; space = space out.info.ns; token = out.post_batch_resume_token; batch = opens.opens.batch } in
        let holds = list_holds at first h success in
        let same = id_told first said holds.batch opens.opens.says holds.there in
        record {
          named = named_read (fields first) said opens.opens.says;
          manner_is = opened_plainly first out opens;
          knows = λ held. subst (OpenedList history) same (holds.opens (λ zero. held (sym same ∙ zero)));
          own_cursor = record { bytes = first; in_reply = hears (fields_in (listing_lines B at)) first h; cursor = said; says = opens.opens.says; id_is = refl; space_is = refl };
        }

    behind_well : (c : ClientCursor) (bytes : List ℕ) (said : cursors.Cursor) → ReadsWell c → HeardMore past c bytes → cursor_of (fields bytes) ≡ Ok said → ReadsWell (behind_reply said c)
    behind_well c bytes said w h says =
        let holds = more_holds c bytes w h in
        let same = id_told bytes said holds.batch says holds.there in
        record {
          named = named_read (fields bytes) said says;
          manner_is = w.manner_is;
          knows = λ held. subst (OpenedList history) same (holds.opens (λ zero. held (sym same ∙ zero)));
          own_cursor = record { bytes = bytes; in_reply = hears (get_more c h.session) bytes h.heard; cursor = said; says = says; id_is = refl; space_is = refl };
        }

    rested_well : (c : ClientCursor) → ReadsWell (at_rest c) → ReadsWell c
    rested_well c w = record { named = w.named; manner_is = w.manner_is; knows = w.knows; own_cursor = w.own_cursor }

    resting_well : (c : ClientCursor) → ReadsWell c → ReadsWell (at_rest c)
    resting_well c w = record { named = w.named; manner_is = w.manner_is; knows = w.knows; own_cursor = w.own_cursor }

    turn_more : (c : ClientCursor) (last place : ℕ) (bytes : List ℕ) (more : List (ℕ × List ℕ)) (at : ClientCursor) → AreInTurn past c last ((place, bytes) ∷ more) at → HeardMore past c bytes
    turn_more c last place bytes more at are = record { session = are.2; heard = record { place = place; heard = are.3 }; success = are.4 }

    replies_well : (c : ClientCursor) (last : ℕ) (replies : List (ℕ × List ℕ)) (at : ClientCursor) → AreInTurn past c last replies at → ReadsWell c → ReadsWell at
    replies_well c last [] at are w = subst ReadsWell (sym are) (resting_well c w)
    replies_well c last (h ∷ more) at are w = replies_well (behind_reply are.5 c) h.0 more at are.7 (behind_well c h.1 are.5 w (turn_more c last h.0 h.1 more at are) are.6)

    list_well : (c : ClientCursor) → IsOfList past B c → ReadsWell c
    list_well c l = rested_well c (replies_well (new_client l.out) l.place l.replies (at_rest c) l.behind (opened_well l.at l.first l.out (record { place = l.place; heard = l.heard }) l.success l.opens))

    batch_holds : (bytes : List ℕ) → IsListBatch past B bytes → HoldsListed history bytes
    batch_holds bytes (first_batch at h success) = list_holds at bytes h success
    batch_holds bytes (next_batch c l h) = more_holds c bytes (list_well c l) h

    -- ---- so its list fails for want of memory, or since a getMore is not built

    ask_by : (m : Manner) (id : ℤ) (at : Space) (e : Error) → m ≡ no_manner → IsOwnCursor heard id at → HasBadSize m.size e ⊎ CannotBeSent (next_command id at m) e → CannotPut heard t e
    ask_by m id at e plain own_one (inl bad) = absurd (subst (λ (x : Manner). SizePasses x.size) plain bad.1)
    ask_by m id at e plain own_one (inr cannot) = a_getMore id at own_one (subst (λ (x : Manner). CannotBeSent (next_command id at x) e) plain cannot)

    pub asked_excused : (c : ClientCursor) (e : Error) → IsOfList past B c → CannotAsk c None e → CannotPut heard t e
    asked_excused c e l cannot = let w = list_well c l in ask_by c.manner c.id c.space e w.manner_is w.own_cursor cannot

    pub more_well : (c : ClientCursor) (e : Error) → IsOfList past B c → MoreFails past c e → e.kind ≡ kind.OutOfMemory
    more_well c e l f =
        let w = list_well c l in
        request_well past own history t lost taken (get_more c f.session) false TellsNoCursor e (λ place bytes. a_getMore c l f.session refl) (λ bytes is. asked_creates bytes (get_more c f.session) is (asking_none c.id c.space c.manner f.session))
        (λ bytes s success breaks.
        let b = more_brings (get_more c f.session) bytes s success c.id c.space (more_asks c f.session s.step.command w.named s.command_is) in
        tells_not bytes b.0 e (subst (λ (bs : List ℕ). batch_of (fields bs) ≡ Some b.0) (sym s.reply_is) b.1) breaks) f.fails

    pub never_broken : (bytes : List ℕ) (e : Error) → IsListBatch past B bytes → BreaksBatch bytes e → ⊥
    never_broken bytes e batch breaks = let h = batch_holds bytes batch in breaks_not bytes h.batch e h.there breaks

    -- ---- and no two batches are empty in a row

    -- behind an empty one the cursor has ended
    ended_behind : (bytes : List ℕ) (said : cursors.Cursor) (h : HoldsListed history bytes) → cursor_of (fields bytes) ≡ Ok said → (o : Option (List (List ℕ))) → documents_of bytes ≡ o → 1 ≤ empty_with 0 o → said.id ≡ pos 0
    ended_behind bytes said h says None is some = absurd (let bad : 1 ≤ 0 = some in omega (arith, bad))
    ended_behind bytes said h says (Some (x ∷ xs)) is some = absurd (let bad : 1 ≤ 0 = some in omega (arith, bad))
    ended_behind bytes said h says (Some []) is some = sym (id_told bytes said h.batch says h.there) ∙ h.ends (sym (events_are bytes h.batch [] h.there is))

    few_empty : (c : ClientCursor) (last n : ℕ) (replies : List (ℕ × List ℕ)) (at : ClientCursor) → AreInTurn past c last replies at → ReadsWell c → n ≤ 1 → (1 ≤ n → c.id ≡ pos 0) → empty_by n replies ≤ 1
    few_empty c last n [] at are w few ends = few
    few_empty c last n (h ∷ more) at are w few ends =
        let m = turn_more c last h.0 h.1 more at are in
        let none = none_before n (λ some. are.1 (ends some)) in
        subst (λ (k : ℕ). empty_by (empty_with k (documents_of h.1)) more ≤ 1) (sym none)
        (few_empty (behind_reply are.5 c) h.0 (empty_with 0 (documents_of h.1)) more at are.7 (behind_well c h.1 are.5 w m are.6) (one_alone (documents_of h.1)) (λ some. ended_behind h.1 are.5 (more_holds c h.1 w m) are.6 (documents_of h.1) refl some))

    pub never_empty : (c : ClientCursor) (l : IsOfList past B c) → last_empty l ≡ most_empty → ⊥
    never_empty c l many =
        let h : HeardBy past (fields_in (listing_lines B l.at)) (reply l.first) = record { place = l.place; heard = l.heard } in
        let said : cursors.Cursor = record { id = l.out.info.id; space = space l.out.info.ns; token = l.out.post_batch_resume_token; batch = l.opens.opens.batch } in
        let few = few_empty (new_client l.out) l.place (empty_with 0 (documents_of l.first)) l.replies (at_rest c) l.behind (opened_well l.at l.first l.out h l.success l.opens) (one_alone (documents_of l.first))
        (λ some. ended_behind l.first said (list_holds l.at l.first h l.success) l.opens.opens.says (documents_of l.first) refl some) in
        omega (arith, few, many)

    index_read : (d : Fields) (i : Index) → d ≡ index_listed i → (e : Error) → FailsToRead (recorded (index_of d)) e → e.kind ≡ kind.OutOfMemory
    index_read d i is e (inl full) = ap (λ (x : Error). x.kind) full
    index_read d i is e (inr breaks) = absurd (subst (λ (x : Fields). Breaks (recorded (index_of x)) e) is breaks)

    item_at : (front after : List (List ℕ)) (document : List ℕ) → AreIndexes (map fields (front ++ document ∷ after)) → (i : Index) × (fields document ≡ index_listed i)
    item_at [] after document are = are.0
    item_at (x ∷ front) after document are = item_at front after document are.1

    pub index_well : (document : List ℕ) (e : Error) → IsListedIndex past B document → FailsToRead (recorded (index_of (fields document))) e → e.kind ≡ kind.OutOfMemory
    index_well document e l fails =
        let h = batch_holds l.bytes l.batch in
        let these : map fields (l.front ++ document ∷ l.after) ≡ h.batch.events = events_are l.bytes h.batch (l.front ++ document ∷ l.after) h.there l.holds in
        let i = item_at l.front l.after document (subst AreIndexes (sym these) h.indexes) in
        index_read (fields document) i.0 i.1 e fails

    -- ---- and it has not too many

    module _ (rises : (place place' : ℕ) (command command' : Fields) (bytes bytes' : List ℕ) (h : HeardAt past place command (reply bytes)) (h' : HeardAt past place' command' (reply bytes')) (k : IsKnown past t place command bytes) (k' : IsKnown past t place' command' bytes') → place < place' → (taken command bytes (record { place = place; heard = h }) k).position < (taken command' bytes' (record { place = place'; heard = h' }) k').position) (few : HasFewIndexes own history t) where
      -- behind the reply at a place
      abbrev Behind : (place q : ℕ) → Type 0
      Behind place q = (place' : ℕ) (command' : Fields) (bytes' : List ℕ) (h' : HeardAt past place' command' (reply bytes')) (k' : IsKnown past t place' command' bytes') → place < place' → q < (taken command' bytes' (record { place = place'; heard = h' }) k').position

      count_turn : (c : ClientCursor) (last : ℕ) (replies : List (ℕ × List ℕ)) (at : ClientCursor) (q n : ℕ) → AreInTurn past c last replies at → ReadsWell c → (c.id ≢ pos 0 → IsFew history (suc q) n c.id) → Behind last q → held_by replies ≤ n
      unfolding turn_more
      count_turn c last [] at q n are w known behind = omega arith
      count_turn c last (h ∷ more) at q n are w known behind =
          let m = turn_more c last h.0 h.1 more at are in
          let command : Fields = get_more c are.2 in
          let s = taken command h.1 m.heard (succeeded are.4) in
          let asks = more_asks c are.2 s.step.command w.named s.command_is in
          let k = next_counts command h.1 s are.4 c.id c.space w.knows asks q n known (behind h.0 command h.1 are.3 (succeeded are.4) are.0.0) in
          let w' = behind_well c h.1 are.5 w m are.6 in
          let same = id_told h.1 are.5 k.batch are.6 k.there in
          let rest = count_turn (behind_reply are.5 c) h.0 more at s.position k.left are.7 w' (λ held. subst (IsFew history (suc s.position) k.left) same (k.few (λ zero. held (sym same ∙ zero)))) (λ place' command' bytes' h' k' less. rises h.0 place' command command' h.1 bytes' are.3 h' (succeeded are.4) k' less) in
          let these = held_few h.1 k.batch k.there in
          let sum = k.sum in
          omega (arith, rest, these, sum)

      pub never_too_many : (c : ClientCursor) (l : IsOfList past B c) → 1048576 < brought l → ⊥
      never_too_many c l many =
          let command : Fields = fields_in (listing_lines B l.at) in
          let h : HeardBy past command (reply l.first) = record { place = l.place; heard = l.heard } in
          let s = taken command l.first h (succeeded l.success) in
          let k = first_counts command l.first s l.success (space_in B l.at) (lists_as past own history t lost taken files chunks l.at s.step.command s.command_is) (subst (λ (x : State). length (indexes_of x (space_in B l.at)) < 1048576) s.before_is (few s.position s.step l.at s.is_own s.there)) in
          let said : cursors.Cursor = record { id = l.out.info.id; space = space l.out.info.ns; token = l.out.post_batch_resume_token; batch = l.opens.opens.batch } in
          let same = id_told l.first said k.batch l.opens.opens.says k.there in
          let w = opened_well l.at l.first l.out h l.success l.opens in
          let rest = count_turn (new_client l.out) l.place l.replies (at_rest c) s.position k.left l.behind w (λ held. subst (IsFew history (suc s.position) k.left) same (k.few (λ zero. held (sym same ∙ zero)))) (λ place' command' bytes' h' k' less. rises l.place place' command command' l.first bytes' l.heard h' (succeeded l.success) k' less) in
          let these = held_few l.first k.batch k.there in
          let sum = k.sum in
          omega (arith, rest, these, sum, many)
