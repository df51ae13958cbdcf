-- What a server that holds nothing back tells a put: a request of it fails for want of memory alone.
use Rattle.std.proofs.Common.{◌≡◌, ◌≢◌, ◌<◌, ℕ, ℤ, pos, Bool, true, false, List, [], ◌∷◌, length, take, Contains, Option, Some, None, option_map, Ok, refl, sym, ap, ◌∙◌, subst, inl, inr}
use Rattle.std.specs.Prelude.{codes, option_and_then, slice_get, unwrap_or, if◌then◌else◌}
use Rattle.mg_bson.specs.Find.{get}
use Rattle.mg_bson.specs.Raw.{fields}
use Rattle.mg_bson.specs.Reading.{doc}
use Rattle.mg_bson.specs.Tree.{Fields, no_fields}
use Rattle.mg_server.specs.Calls.{Grows, HeardBy, HeardLast, IsOwn, Past, RequestFails, out_of_memory, was_broken, was_lost, was_refused}
use Rattle.mg_link.specs.Numbers.{as_integer}
use Rattle.mg_server.specs.Commands.{Asked, Batch, Failure, Told, asked, asks_create, asks_delete, asks_indexes, asks_insert, asks_other, asks_query, batch_of, deleted, deleted_by, failures_at, garbled, keeps_grammar, opened_by, time_in, told_by}
use Rattle.mg_link.specs.Errors.{command_code}
use Rattle.mg_link.specs.Exec.{FailsAs, FailsByReply, IsSuccess}
use Rattle.mg_link.specs.Failures.{refusal_by}
use Rattle.mg_server.specs.Files.{has_value}
use Rattle.mg_server.specs.Filter.{Condition}
use Rattle.mg_server.specs.History.{Step, state_of, step_after, told_at}
use Rattle.mg_link.specs.Log.{fault, reply}
use Rattle.mg_link.specs.Namespace.{Space}
use Rattle.mg_server.specs.Prompt.{AnswersAtOnce, MeetsConcern}
use Rattle.mg_server.specs.Query.{Query}
use Rattle.mg_link.specs.Reply.{Refusal, code_of, refusal_of, verdict_of}
use Rattle.mg_link.specs.Session.{Session}
use Rattle.mg_server.specs.State.{Index, State}
use Rattle.mg_server.specs.Step.{Made, MayTell, documents_of, grown}
use Rattle.mg_server.specs.Write.{chosen}
use Rattle.mg_link.specs.declared.error.Error.{Error}
use Rattle.mg_link.specs.declared.error.ErrorKind.{ErrorKind}
use Rattle.mg_link.specs.declared.error.ErrorKind.TheVariants as kind
use Rattle.mg_link.specs.declared.reply.Verdict.{Verdict}
use Rattle.mg_link.specs.declared.reply.Verdict.TheVariants as verdict
use Rattle.mg_server.proofs.Pasts.{heard_at_grows, heard_by, heard_grows}
use Rattle.mg_options.specs.Fields.{fields_in}
use Rattle.mg_ops.specs.Naming.{IsNamed}
use Rattle.mg_ops.specs.Writes.{WriteFails, failures_of}
use Rattle.mg_ops.proofs.Asking.{asks_to_insert_plainly}
use Rattle.mg_ops.proofs.AskingMore.{asks_for_indexes, asks_to_create, asks_to_delete, asks_to_index}
use Rattle.mg_cursor.specs.Causes.{TellsNoCursor}
use Rattle.mg_cursor.specs.Client.{ClientCursor, get_more}
use Rattle.mg_gridfs.specs.Buckets.{ClientBucket}
use Rattle.mg_gridfs.specs.Causes.{ListsFailure, ListsFirst, ListsFor}
use Rattle.mg_gridfs.specs.Checks.{namespace_exists}
use Rattle.mg_chunks.specs.Filters.{of_file}
use Rattle.mg_gridfs.specs.Commands.{any_lines, chunks_lines, creation_lines, deletion_lines, index_lines, listing_lines, record_lines}
use Rattle.mg_gridfs.specs.Cursors.{indexes_query}
use Rattle.mg_gridfs.specs.Indexes.{keys_of, space_in}
use Rattle.mg_gridfs.specs.declared.indexes.Place.{Place}
use Rattle.mg_gridfs.proofs.Meaning.{IsReading, any_reads, has_name, index_named, named_in}
use Rattle.mg_jobs.specs.Completing.{AreFresh, SendFresh}
use Rattle.mg_players.specs.PutFailures.{HeardCreation, HoldsBehind, IsOfList}
use Rattle.mg_players.specs.Puts.{PutTask, put_bucket}
use Rattle.mg_players.proofs.Batches.{tells_not}
use Rattle.mg_players.proofs.Creating.{creates}
use Rattle.mg_jobs.proofs.InsertWell.{never_lists, reads_count, reads_none}
use Rattle.mg_players.proofs.Prompting.{IsLawful, IsPrompted, lawful, may_tell, never_garbled, prompt_success, told_so}

-- the step of a command whose reply was heard, which was answered at once
pub record OwnStep (own : List ℕ) (history : List Step) (command : Fields) (bytes : List ℕ) : Type 0 where
  pub position : ℕ
  pub step : Step
  pub is_own : Contains own position
  pub there : slice_get history position ≡ Some step
  pub at_once : IsPrompted step
  pub before_is : state_of (take position history) ≡ at_once.before
  pub command_is : fields step.command ≡ command
  pub reply_is : bytes ≡ step.reply

-- Why such a step is known to be answered so: its reply is a success; or the put sends such a command, a list of indexes behind the creation of the collection.
pub data IsKnown (past : Past) (t : PutTask) (place : ℕ) (command : Fields) (bytes : List ℕ) : Type 0 where
  succeeded : IsSuccess bytes → IsKnown past t place command bytes
  a_find : command ≡ fields_in (any_lines (put_bucket t)) → IsKnown past t place command bytes
  a_creation : (at : Place) → command ≡ fields_in (creation_lines (put_bucket t) at) → IsKnown past t place command bytes
  a_listing : (at : Place) (created : HeardCreation past (put_bucket t) at) → created.place < place → command ≡ fields_in (listing_lines (put_bucket t) at) → IsKnown past t place command bytes
  a_getMore : (c : ClientCursor) → IsOfList past (put_bucket t) c → (session : Option Session) → command ≡ get_more c session → IsKnown past t place command bytes
  an_index : (at : Place) → command ≡ fields_in (index_lines (put_bucket t) at) → IsKnown past t place command bytes
  of_chunks : (documents : List Fields) → command ≡ fields_in (chunks_lines (put_bucket t) documents) → IsKnown past t place command bytes
  of_record : (document : Fields) → command ≡ fields_in (record_lines (put_bucket t) document) → IsKnown past t place command bytes
  a_removal : command ≡ fields_in (deletion_lines (put_bucket t) t.id) → IsKnown past t place command bytes

-- ---- successes

fails_as : (o : Option Fields) (wire : ℤ) (e : Error) → verdict_of (unwrap_or o no_fields) ≡ verdict.Success → FailsByReply o wire e → ⊥
unfolding verdict_of
fails_as (Some said) wire e success fails = subst (λ (v : Verdict). FailsAs v said wire e) success fails
fails_as None wire e success fails = absurd cc

fails_not : (bytes : List ℕ) (wire : ℤ) (e : Error) → IsSuccess bytes → FailsByReply (doc bytes) wire e → ⊥
unfolding fields
fails_not bytes wire e success fails = fails_as (doc bytes) wire e success fails

-- ---- queries

module _ (step : Step) (p : IsLawful step) (success : IsSuccess step.reply) where
  pub told_as : (a : Asked) → asked step.command ≡ a → told_at step ≡ told_by verdict.Success a (fields step.reply)
  told_as a asks = told_so step p verdict.Success success ∙ ap (λ (c : Asked). told_by verdict.Success c (fields step.reply)) asks

  -- the reply to a query has a batch
  brings_by : (q : Query) (b : Option Batch) → asked step.command ≡ asks_query q → batch_of (fields step.reply) ≡ b → (batch : Batch) × (batch_of (fields step.reply) ≡ Some batch)
  brings_by q None asks none =
      absurd (never_garbled step p (told_as (asks_query q) asks ∙ ap (λ (b : Option Batch). unwrap_or (option_map (opened_by (time_in (fields step.reply))) b) garbled) none))
  brings_by q (Some batch) asks there = (batch, there)

  pub query_brings : (q : Query) → asked step.command ≡ asks_query q → (batch : Batch) × (batch_of (fields step.reply) ≡ Some batch)
  query_brings q asks = brings_by q (batch_of (fields step.reply)) asks refl

  reading_whole : IsReading (asked step.command) → (e : Error) → TellsNoCursor step.reply e → ⊥
  reading_whole (inl q) e breaks = let b = query_brings q.0 q.1 in tells_not step.reply b.0 e b.1 breaks
  reading_whole (inr other) e breaks = never_garbled step p (told_as asks_other other)

reading_creates : (a : Asked) → IsReading a → creates a ≡ false
reading_creates a (inl q) = ap creates q.1
reading_creates a (inr other) = ap creates other

-- ---- writes

none_fails : (said : Fields) (e : Error) → failures_of 0 said ≡ Ok [] → WriteFails said e → ⊥
none_fails said e none (inl b) = let is = b.says in cc
none_fails said e none (inr first) = let is = first.listed in cc

-- a collection or an index is created without a failure
module _ (step : Step) (p : IsPrompted step) (e : Error) where
  met_as : (a : Asked) → asked step.command ≡ a → MeetsConcern a step.reply
  met_as a asks = subst (λ (c : Asked). MeetsConcern c step.reply) asks p.met

  created_whole : (space : Space) → asked step.command ≡ asks_create space → ListsFailure step.reply e → ⊥
  created_whole space asks fails = let met = met_as (asks_create space) asks in none_fails (fields step.reply) e (reads_none 0 (fields step.reply) met.1 met.0) fails

  indexed_whole : (space : Space) (indexes : List Index) → asked step.command ≡ asks_indexes space indexes → ListsFailure step.reply e → ⊥
  indexed_whole space indexes asks fails = let met = met_as (asks_indexes space indexes) asks in none_fails (fields step.reply) e (reads_none 0 (fields step.reply) met.1 met.0) fails

-- ---- a collection that is there

code_told : (k : ErrorKind) (labels : List (List ℕ)) (told : Refusal) → refusal_by k labels ≡ Some told → command_code k ≡ Some told.code
code_told (kind.Command c) labels told h = ap (λ (o : Option Refusal). option_map (λ (r : Refusal). r.code) o) h
code_told k labels told h = absurd cc

said_code : (said : Fields) → (refusal_of said).code ≡ code_of said
unfolding refusal_of
said_code said = refl

read_as : (bytes : List ℕ) (o : Option Fields) → doc bytes ≡ o → fields bytes ≡ unwrap_or o no_fields
unfolding fields
read_as bytes o is = ap (λ (x : Option Fields). unwrap_or x no_fields) is

nothing_said : verdict_of no_fields ≡ verdict.NoOk
unfolding verdict_of
nothing_said = refl

module _ (step : Step) (p : IsPrompted step) (space : Space) (asks : asked step.command ≡ asks_create space) (wire : ℤ) (e : Error) (other : command_code e.kind ≢ Some namespace_exists) where
  told_refused : (v : Verdict) (said : Fields) → fields step.reply ≡ said → verdict_of said ≡ v → told_at step ≡ told_by v (asked step.command) said
  told_refused v said is by = told_so step (lawful step p) v (ap verdict_of is ∙ by) ∙ ap (λ (fs : Fields). told_by v (asked step.command) fs) is

  refused_so : (v : Verdict) (said : Fields) → fields step.reply ≡ said → verdict_of said ≡ v → FailsAs v said wire e → e.kind ≡ kind.OutOfMemory
  refused_so verdict.Success said is by fails = absurd fails
  refused_so verdict.Refusal said is by (inl full) = ap (λ (x : Error). x.kind) full
  refused_so verdict.Refusal said is by (inr tells) =
      let there : code_of said ≡ namespace_exists
      = subst (λ (c : Asked). AnswersAtOnce p.before (step_after p.before step) c (told_by verdict.Refusal c said)) asks (subst (λ (t : Told). AnswersAtOnce p.before (step_after p.before step) (asked step.command) t) (told_refused verdict.Refusal said is by) p.prompt) in
      absurd (other (code_told e.kind e.labels (refusal_of said) tells.refusal ∙ ap (λ (z : ℤ). Some z) (said_code said ∙ there)))
  refused_so verdict.NoOk said is by fails = absurd (never_garbled step (lawful step p) (told_refused verdict.NoOk said is by))

  there_by : (o : Option Fields) → doc step.reply ≡ o → FailsByReply o wire e → e.kind ≡ kind.OutOfMemory
  there_by None is fails = absurd (never_garbled step (lawful step p) (told_refused verdict.NoOk no_fields (read_as step.reply None is) nothing_said))
  there_by (Some said) is fails = refused_so (verdict_of said) said (read_as step.reply (Some said) is) refl fails

  -- it is refused for that alone
  pub there_already : FailsByReply (doc step.reply) wire e → e.kind ≡ kind.OutOfMemory
  there_already fails = there_by (doc step.reply) refl fails

-- ---- the removal

module _ (s s' : State) (made : Made) (space : Space) (conditions : List Condition) (many : Bool) where
  abbrev TellsAtOnce : Told → Type 0
  TellsAtOnce t = MayTell s (grown s made) (asks_delete space conditions many) t made × AnswersAtOnce s s' (asks_delete space conditions many) t

  deletes_all : (n : Option ℤ) (fs : Option (List Failure)) → TellsAtOnce (unwrap_or (option_and_then (λ (n : ℤ). option_map (deleted n) fs) n) garbled) → (count : ℕ) × (n ≡ Some (pos count)) × (fs ≡ Some [])
  deletes_all None fs tells = absurd tells.0
  deletes_all (Some n) None tells = absurd tells.0
  deletes_all (Some n) (Some []) tells = (length (chosen conditions many (documents_of s space)), ap (λ (z : ℤ). Some z) tells.0.count, refl)
  deletes_all (Some n) (Some (f ∷ fs)) tells = let none = tells.1 in absurd cc

  deletes_within : (b : Bool) (o : Option Told) → TellsAtOnce (unwrap_or (if b then o else None) garbled) → TellsAtOnce (unwrap_or o garbled)
  deletes_within true o tells = tells
  deletes_within false o tells = absurd tells.0

module _ (step : Step) (p : IsPrompted step) (space : Space) (conditions : List Condition) (many : Bool) (asks : asked step.command ≡ asks_delete space conditions many) (success : IsSuccess step.reply) where
  tells_so : TellsAtOnce p.before (step_after p.before step) step.made space conditions many (told_by verdict.Success (asks_delete space conditions many) (fields step.reply))
  tells_so =
      let is = told_as step (lawful step p) success (asks_delete space conditions many) asks in (
        may_tell step (lawful step p) (asks_delete space conditions many) (told_by verdict.Success (asks_delete space conditions many) (fields step.reply)) asks is,
        subst (λ (c : Asked). AnswersAtOnce p.before (step_after p.before step) c (told_by verdict.Success (asks_delete space conditions many) (fields step.reply))) asks (subst (λ (t : Told). AnswersAtOnce p.before (step_after p.before step) (asked step.command) t) is p.prompt),
      )

  deleted_whole : (e : Error) → ListsFirst step.reply e → ⊥
  unfolding deleted_by
  deleted_whole e fails =
      let said : Fields = fields step.reply in
      let met = met_as step p e (asks_delete space conditions many) asks in
      let all = deletes_all p.before (step_after p.before step) step.made space conditions many (option_and_then as_integer (get (codes "n") said)) (failures_at (get (codes "writeErrors") said)) (deletes_within p.before (step_after p.before step) step.made space conditions many (keeps_grammar said) (deleted_by said) tells_so) in
      let none = reads_none 0 said all.2 met in
      let counted = reads_count said all.0 all.1 in
      elim fails [
        | inl b ↦ let is = b.says in absurd cc
        | inr h ↦ none_fails said e none h.2
      ]

-- ---- requests

module _ (past : Past) (own : List ℕ) (history : List Step) (t : PutTask) (lost : (command : Fields) → HeardBy past command fault → ⊥) (taken : (command : Fields) (bytes : List ℕ) (h : HeardBy past command (reply bytes)) → IsKnown past t h.place command bytes → OwnStep own history command bytes) where
  pub request_well : (command : Fields) (retries : Bool) (Broken : List ℕ → Error → Type 0) (e : Error) → ((place : ℕ) (bytes : List ℕ) → IsKnown past t place command bytes) → ((bytes : List ℕ) → fields bytes ≡ command → creates (asked bytes) ≡ false)
      → ((bytes : List ℕ) → OwnStep own history command bytes → IsSuccess bytes → Broken bytes e → ⊥) → RequestFails past command retries Broken e → e.kind ≡ kind.OutOfMemory
  request_well command retries Broken e known not whole (out_of_memory room) = room
  request_well command retries Broken e known not whole (was_lost is heard) = absurd (lost command (heard_by past command retries fault heard))
  request_well command retries Broken e known not whole (was_refused bytes heard fails) =
      let h = heard_by past command retries (reply bytes) heard in
      let s = taken command bytes h (known h.place bytes) in
      absurd (fails_not bytes past.wire e (subst IsSuccess (sym s.reply_is) (prompt_success s.step s.at_once (not s.step.command s.command_is))) fails)
  request_well command retries Broken e known not whole (was_broken bytes heard success broken) = absurd (whole bytes (taken command bytes (heard_by past command retries (reply bytes) heard) (succeeded success)) success broken)

  abbrev pub B : ClientBucket
  B = put_bucket t

  pub lists_as : IsNamed B.files → IsNamed B.chunks → (at : Place) (bytes : List ℕ) → fields bytes ≡ fields_in (listing_lines B at) → asked bytes ≡ asks_query (indexes_query (space_in B at))
  lists_as files chunks at bytes is = asks_for_indexes bytes (space_in B at) None (named_in B at files chunks) is

  module _ (files : IsNamed B.files) (chunks : IsNamed B.chunks) (e : Error) where
    pub find_well : RequestFails past (fields_in (any_lines B)) true TellsNoCursor e → e.kind ≡ kind.OutOfMemory
    find_well fails =
        request_well (fields_in (any_lines B)) true TellsNoCursor e (λ place bytes. a_find refl) (λ bytes is. reading_creates (asked bytes) (any_reads B bytes is))
        (λ bytes s success breaks. reading_whole s.step (lawful s.step s.at_once) (subst IsSuccess s.reply_is success) (any_reads B s.step.command s.command_is) e (subst (λ (b : List ℕ). TellsNoCursor b e) s.reply_is breaks)) fails

    -- behind the creation of the collection
    module _ (at : Place) (created : HeardCreation past B at) (later : Past) (grows : Grows later past) (behind : (p : ℕ) → IsOwn later p → created.place < p) where
      abbrev heard_there : (bytes : List ℕ) → HeardLast later (fields_in (listing_lines B at)) true (reply bytes) → HeardBy past (fields_in (listing_lines B at)) (reply bytes)
      heard_there bytes h = record { place = h.place; heard = heard_at_grows later past grows h.place (fields_in (listing_lines B at)) (reply bytes) (λ bad. cc) h.heard }

      listed_well : RequestFails later (fields_in (listing_lines B at)) true TellsNoCursor e → e.kind ≡ kind.OutOfMemory
      listed_well (out_of_memory room) = room
      listed_well (was_lost is heard) = absurd (lost (fields_in (listing_lines B at)) (heard_grows later past grows (fields_in (listing_lines B at)) fault (λ bad. cc) (heard_by later (fields_in (listing_lines B at)) true fault heard)))
      listed_well (was_refused bytes heard fails) =
          let s = taken (fields_in (listing_lines B at)) bytes (heard_there bytes heard) (a_listing at created (behind heard.place heard.heard.own) refl) in
          absurd (fails_not bytes later.wire e (subst IsSuccess (sym s.reply_is) (prompt_success s.step s.at_once (ap creates (lists_as files chunks at s.step.command s.command_is)))) fails)
      listed_well (was_broken bytes heard success breaks) =
          let s = taken (fields_in (listing_lines B at)) bytes (heard_there bytes heard) (succeeded success) in
          absurd (reading_whole s.step (lawful s.step s.at_once) (subst IsSuccess s.reply_is success) (inl (indexes_query (space_in B at), lists_as files chunks at s.step.command s.command_is)) e (subst (λ (b : List ℕ). TellsNoCursor b e) s.reply_is breaks))

    pub listing_well : (at : Place) (created : HeardCreation past B at) → HoldsBehind created.place past (λ p. RequestFails p (fields_in (listing_lines B at)) true TellsNoCursor e) → e.kind ≡ kind.OutOfMemory
    listing_well at created b = listed_well at created b.later b.grows b.behind b.says

    index_as : (at : Place) (bytes : List ℕ) → fields bytes ≡ fields_in (index_lines B at) → asked bytes ≡ asks_indexes (space_in B at) (record { name = index_named at; key = keys_of at } ∷ [])
    index_as at bytes is = asks_to_index bytes (space_in B at) (keys_of at) (index_named at) None None (named_in B at files chunks) (has_name at) is

    pub index_well : (at : Place) → RequestFails past (fields_in (index_lines B at)) false ListsFailure e → e.kind ≡ kind.OutOfMemory
    index_well at fails =
        request_well (fields_in (index_lines B at)) false ListsFailure e (λ place bytes. an_index at refl) (λ bytes is. ap creates (index_as at bytes is))
        (λ bytes s success lists. indexed_whole s.step s.at_once e (space_in B at) (record { name = index_named at; key = keys_of at } ∷ []) (index_as at s.step.command s.command_is) (subst (λ (b : List ℕ). ListsFailure b e) s.reply_is lists)) fails

    create_as : (at : Place) (bytes : List ℕ) → fields bytes ≡ fields_in (creation_lines B at) → asked bytes ≡ asks_create (space_in B at)
    create_as at bytes is = asks_to_create bytes (space_in B at) None None (named_in B at files chunks) is

    -- that a collection is there already is passed over
    pub creation_well : (at : Place) → command_code e.kind ≢ Some namespace_exists → RequestFails past (fields_in (creation_lines B at)) false ListsFailure e → e.kind ≡ kind.OutOfMemory
    creation_well at other (out_of_memory room) = room
    creation_well at other (was_lost is heard) = absurd (lost (fields_in (creation_lines B at)) (heard_by past (fields_in (creation_lines B at)) false fault heard))
    creation_well at other (was_refused bytes heard fails) =
        let s = taken (fields_in (creation_lines B at)) bytes (heard_by past (fields_in (creation_lines B at)) false (reply bytes) heard) (a_creation at refl) in
        there_already s.step s.at_once (space_in B at) (create_as at s.step.command s.command_is) past.wire e other (subst (λ (b : List ℕ). FailsByReply (doc b) past.wire e) s.reply_is fails)
    creation_well at other (was_broken bytes heard success lists) =
        let s = taken (fields_in (creation_lines B at)) bytes (heard_by past (fields_in (creation_lines B at)) false (reply bytes) heard) (succeeded success) in
        absurd (created_whole s.step s.at_once e (space_in B at) (create_as at s.step.command s.command_is) (subst (λ (b : List ℕ). ListsFailure b e) s.reply_is lists))

    delete_as : (bytes : List ℕ) → fields bytes ≡ fields_in (deletion_lines B t.id) → asked bytes ≡ asks_delete B.chunks (has_value (codes "files_id") t.id ∷ []) true
    delete_as bytes is = asks_to_delete bytes B.chunks (of_file t.id) (has_value (codes "files_id") t.id ∷ []) true None None chunks refl is

    pub deletion_well : RequestFails past (fields_in (deletion_lines B t.id)) false ListsFirst e → e.kind ≡ kind.OutOfMemory
    deletion_well fails =
        request_well (fields_in (deletion_lines B t.id)) false ListsFirst e (λ place bytes. a_removal refl) (λ bytes is. ap creates (delete_as bytes is))
        (λ bytes s success lists. deleted_whole s.step s.at_once B.chunks (has_value (codes "files_id") t.id ∷ []) true (delete_as s.step.command s.command_is) (subst IsSuccess s.reply_is success) e (subst (λ (b : List ℕ). ListsFirst b e) s.reply_is lists)) fails

    -- ---- inserts

    module _ (fresh : SendFresh own history) where
      inserted_whole : (space : Space) (documents : List Fields) (command : Fields) → ((bytes : List ℕ) → fields bytes ≡ command → asked bytes ≡ asks_insert space documents true) → (bytes : List ℕ) → OwnStep own history command bytes → ListsFor documents bytes e → ⊥
      inserted_whole space documents command asks bytes s lists =
          let is = asks s.step.command s.command_is in
          let fresh_there = subst (λ (x : State). AreFresh (documents_of x space) documents) s.before_is (fresh s.position s.step space documents s.is_own s.there is) in
          let here : ListsFor documents s.step.reply e = subst (λ (b : List ℕ). ListsFor documents b e) s.reply_is lists in
          never_lists s.step s.at_once space documents is fresh_there (length documents) e.kind here.1

      pub chunks_well : (documents : List Fields) → RequestFails past (fields_in (chunks_lines B documents)) false (ListsFor documents) e → e.kind ≡ kind.OutOfMemory
      chunks_well documents fails =
          let asks : (bytes : List ℕ) → fields bytes ≡ fields_in (chunks_lines B documents) → asked bytes ≡ asks_insert B.chunks documents true = λ bytes is. asks_to_insert_plainly bytes B.chunks documents chunks is in
          request_well (fields_in (chunks_lines B documents)) false (ListsFor documents) e (λ place bytes. of_chunks documents refl) (λ bytes is. ap creates (asks bytes is))
          (λ bytes s success lists. inserted_whole B.chunks documents (fields_in (chunks_lines B documents)) asks bytes s lists) fails

      pub record_well : (document : Fields) → RequestFails past (fields_in (record_lines B document)) false (ListsFor (document ∷ [])) e → e.kind ≡ kind.OutOfMemory
      record_well document fails =
          let asks : (bytes : List ℕ) → fields bytes ≡ fields_in (record_lines B document) → asked bytes ≡ asks_insert B.files (document ∷ []) true = λ bytes is. asks_to_insert_plainly bytes B.files (document ∷ []) files is in
          request_well (fields_in (record_lines B document)) false (ListsFor (document ∷ [])) e (λ place bytes. of_record document refl) (λ bytes is. ap creates (asks bytes is))
          (λ bytes s success lists. inserted_whole B.files (document ∷ []) (fields_in (record_lines B document)) asks bytes s lists) fails
