-- What a get found that says that a document breaks its grammar.
use Rattle.std.proofs.Common.{◌≡◌, ◌⊎◌, ◌++◌, ℕ, suc, ℤ, Bool, false, true, List, ◌∷◌, take, Option, Some, None, Ok, refl, sym, ap, ◌∙◌, subst, inl, inr}
use Rattle.std.specs.Prelude.{unwrap_or}
use Rattle.mg_bson.specs.Find.{as_document}
use Rattle.mg_bson.specs.Raw.{fields}
use Rattle.mg_bson.specs.Reading.{doc}
use Rattle.mg_bson.specs.Tree.{Fields, no_fields}
use Rattle.mg_server.specs.Calls.{HeardBy, Past, RequestFails, out_of_memory, was_broken, was_lost, was_refused}
use Rattle.mg_link.specs.Namespace.{as_database}
use Rattle.mg_server.specs.Commands.{batch_of, documents_in}
use Rattle.mg_link.specs.Errors.{plain}
use Rattle.mg_link.specs.Exec.{FailsAs, FailsByReply, IsSuccess}
use Rattle.mg_link.specs.Failures.{refusal_by}
use Rattle.mg_server.specs.Files.{chunks_space, file_of, files_space}
use Rattle.mg_server.specs.History.{IsLegal, Step, state_of}
use Rattle.mg_link.specs.Log.{Call, reply}
use Rattle.mg_link.specs.Reply.{Refusal, refusal_of, verdict_of}
use Rattle.mg_link.specs.Session.{Session}
use Rattle.mg_server.specs.Standing.{Stands}
use Rattle.mg_link.specs.declared.error.BadArgument.{BadArgument}
use Rattle.mg_link.specs.declared.error.BadArgument.TheVariants as argument
use Rattle.mg_link.specs.declared.error.Error.{Error}
use Rattle.mg_link.specs.declared.error.ErrorKind.{ErrorKind}
use Rattle.mg_link.specs.declared.error.ErrorKind.TheVariants as kind
use Rattle.mg_link.specs.declared.error.GridFsErrorKind.TheVariants as grid
use Rattle.mg_link.specs.declared.error.GridFsFileIdentifier.TheVariants as identifier
use Rattle.mg_link.specs.declared.reply.Verdict.{Verdict}
use Rattle.mg_link.specs.declared.reply.Verdict.TheVariants as verdict
use Rattle.mg_server.proofs.Owners.{same_some}
use Rattle.mg_server.proofs.Pasts.{heard_by}
use Rattle.mg_options.specs.Fields.{Line, Refuses, first_unfit}
use Rattle.mg_ops.specs.Naming.{IsNamed}
use Rattle.mg_cursor.specs.Causes.{TellsNoCursor}
use Rattle.mg_cursor.specs.Client.{ClientCursor, get_more}
use Rattle.mg_chunks.specs.Sizes.{chunk_count_of}
use Rattle.mg_records.specs.FileRecords.{FileRecord, file_record_of}
use Rattle.mg_chunks.specs.Broken.{Breaks}
use Rattle.mg_gridfs.specs.Commands.{CannotSend, found_lines, listed_lines}
use Rattle.mg_gridfs.specs.Downloaded.{chunks_query, record_query}
use Rattle.mg_gridfs.specs.Findings.{BreaksRecord, in_batch, no_cursor, no_document, no_record}
use Rattle.mg_gridfs.specs.ReadCauses as files
use Rattle.mg_gridfs.specs.ReadCauses.{TellsNoRecord}
use Rattle.mg_players.specs.Causes.{sent_at}
use Rattle.mg_players.specs.Files.{AsksAt, SaysBroken}
use Rattle.mg_players.specs.Buckets.{plain_bucket}
use Rattle.mg_players.specs.Gets.{GetTask, chunks_find, record_find}
use Rattle.mg_players.specs.Plays.{Places, all_places}
use Rattle.mg_players.specs.Reading as stops
use Rattle.mg_players.specs.Reading.{IsTold, ListsOther, ReadStops}
use Rattle.mg_players.specs.Telling as tells
use Rattle.mg_players.specs.Telling.{TellsGetFails}
use Rattle.mg_players.proofs.Batches.{tells_not}
use Rattle.mg_players.proofs.GetBlamed.{Blamed, FindStep, OwnAt, find_step, first_taken, found_at}
use Rattle.mg_players.proofs.GetJudged.{paired}
use Rattle.mg_players.proofs.GetListing.{list_asks, more_step, told_named}
use Rattle.mg_players.proofs.GetSteps.{query_opens, took}
use Rattle.mg_players.proofs.Naming.{chunks_named}
use Rattle.mg_players.proofs.Prompting.{lawful_at, never_garbled, told_so}

-- ---- errors that do not say so

says_by : (e : Error) (k : ErrorKind) → e ≡ plain k → SaysBroken e.kind → SaysBroken k
says_by e k is b = subst (λ (x : Error). SaysBroken x.kind) is b

memory_says : (e : Error) → e.kind ≡ kind.OutOfMemory → SaysBroken e.kind → ⊥
memory_says e room b = subst SaysBroken room b

told_says : (k : ErrorKind) (labels : List (List ℕ)) (told : Refusal) → refusal_by k labels ≡ Some told → SaysBroken k → ⊥
told_says (kind.Command c) labels told h b = b
told_says k labels told h b = absurd cc

refused_says : (o : Option BadArgument) (e : Error) → Refuses o e → SaysBroken e.kind → ⊥
refused_says None e h b = h
refused_says (Some a) e h b = says_by e (kind.InvalidArgument a) h b

unsent_says : (lines : List Line) (e : Error) → CannotSend lines e → SaysBroken e.kind → ⊥
unsent_says lines e (inl bad) b = refused_says (first_unfit lines) e bad b
unsent_says lines e (inr by) b = says_by e kind.BsonSerialization by.0 b

-- ---- replies without a verdict

verdict_says : (v : Verdict) (said : Fields) (wire : ℤ) (e : Error) → FailsAs v said wire e → SaysBroken e.kind → v ≡ verdict.NoOk
verdict_says verdict.Success said wire e h b = absurd h
verdict_says verdict.Refusal said wire e (inl full) b = absurd (says_by e kind.OutOfMemory full b)
verdict_says verdict.Refusal said wire e (inr is) b = absurd (told_says e.kind e.labels (refusal_of said) is.refusal b)
verdict_says verdict.NoOk said wire e h b = refl

option_says : (o : Option Fields) (wire : ℤ) (e : Error) → FailsByReply o wire e → SaysBroken e.kind → verdict_of (unwrap_or o no_fields) ≡ verdict.NoOk
option_says None wire e h b = absurd (says_by e kind.BsonDeserialization h b)
option_says (Some said) wire e h b = verdict_says (verdict_of said) said wire e h b

reply_says : (bytes : List ℕ) (wire : ℤ) (e : Error) → FailsByReply (doc bytes) wire e → SaysBroken e.kind → verdict_of (fields bytes) ≡ verdict.NoOk
unfolding fields
reply_says bytes wire e h b = option_says (doc bytes) wire e h b

-- ---- in a history

-- In it the record that stood first as the find took effect is none, or has more chunks than are counted.
pub data Broke (past : Past) (history : List Step) (g : GetTask) (e : Error) : Type 0 where
  record_broke : (opened : ℕ) → OwnAt past opened → AsksAt history opened (record_query (files_space g.at) g.id) → (first : Fields) (more : List Fields) → (file_of (state_of (take (suc opened) history)) g.at g.id).records ≡ first ∷ more → Breaks (file_record_of first) e → Broke past history g e
  count_broke : (opened : ℕ) → OwnAt past opened → AsksAt history opened (record_query (files_space g.at) g.id) → (first : Fields) (more : List Fields) → (file_of (state_of (take (suc opened) history)) g.at g.id).records ≡ first ∷ more → (f : FileRecord) → file_record_of first ≡ Ok f → Breaks (chunk_count_of f.length f.chunk_size) e → Broke past history g e

module _ (past : Past) (history : List Step) (legal : IsLegal history) (stands : Stands past.calls history) where
  -- each reply has a verdict
  has_verdict : (command : Fields) (bytes : List ℕ) → HeardBy past command (reply bytes) → verdict_of (fields bytes) ≡ verdict.NoOk → ⊥
  has_verdict command bytes h is =
      let t = took past history stands command bytes h in
      let l = lawful_at history t.position t.step legal t.there in
      never_garbled t.step l (told_so t.step l verdict.NoOk (ap (λ (b : List ℕ). verdict_of (fields b)) (sym t.reply_is) ∙ is))

  -- so what breaks is a success
  request_says : (command : Fields) (retries : Bool) (Broken : List ℕ → Error → Type 0) (So : Type 0) (e : Error) → ((bytes : List ℕ) → HeardBy past command (reply bytes) → IsSuccess bytes → Broken bytes e → So) → RequestFails past command retries Broken e → SaysBroken e.kind → So
  request_says command retries Broken So e so (out_of_memory room) b = absurd (memory_says e room b)
  request_says command retries Broken So e so (was_lost is heard) b = absurd (says_by e kind.Io is b)
  request_says command retries Broken So e so (was_refused bytes heard fails) b = absurd (has_verdict command bytes (heard_by past command retries (reply bytes) heard) (reply_says bytes past.wire e fails b))
  request_says command retries Broken So e so (was_broken bytes heard success broken) b = so bytes (heard_by past command retries (reply bytes) heard) success broken

  module _ (g : GetTask) (named : IsNamed (chunks_space g.at)) where
    -- a list of chunks has its batch
    list_tells : (f : FileRecord) (bytes : List ℕ) → HeardBy past (chunks_find g f.id) (reply bytes) → IsSuccess bytes → (e : Error) → TellsNoCursor bytes e → ⊥
    list_tells f bytes h success e breaks =
        let t = took past history stands (chunks_find g f.id) bytes h in
        let o = query_opens t.step (lawful_at history t.position t.step legal t.there) (subst IsSuccess t.reply_is success) (chunks_query (chunks_space g.at) f.id) (list_asks g f.id t.step.command named t.command_is) in
        tells_not bytes o.batch e (ap (λ (b : List ℕ). batch_of (fields b)) t.reply_is ∙ o.there) breaks

    -- the record that a reply gave is none
    record_says : (bytes : List ℕ) → HeardBy past (record_find g) (reply bytes) → IsSuccess bytes → (e : Error) → BreaksRecord bytes e → Broke past history g e
    record_says bytes h success e breaks = by_way (find_step past history legal stands g named bytes h success) breaks
      where
        by_way : FindStep past history g bytes → BreaksRecord bytes e → Broke past history g e
        by_way s (no_cursor breaks) = absurd (tells_not bytes s.batch e s.there breaks)
        by_way s (in_batch said says (no_document t ts batch_is none is)) =
            let p = paired (as_document t) (documents_in ts) s.batch.events (sym (ap documents_in batch_is) ∙ s.items said says) in
            let bad : None ≡ Some p.x = sym none ∙ p.first_is in
            absurd cc
        by_way s (in_batch said says (no_record t ts d batch_is document breaks)) =
            let p = paired (as_document t) (documents_in ts) s.batch.events (sym (ap documents_in batch_is) ∙ s.items said says) in
            let same : d ≡ p.x = same_some d p.x (sym document ∙ p.first_is) in
            let first = first_taken (file_of (state_of (take (suc s.position) history)) g.at g.id).records (p.more ++ s.left) p.x (s.stood ∙ ap (λ (l : List Fields). l ++ s.left) (sym p.these)) in
            record_broke s.position s.step s.finds p.x first.0 first.1 (subst (λ (x : Fields). Breaks (file_record_of x) e) same breaks)

    opening_says : (e : Error) → files.OpeningFails past (plain_bucket g.at) g.id e → SaysBroken e.kind → Broke past history g e
    opening_says e (files.out_of_memory room) b = absurd (memory_says e room b)
    opening_says e (files.find_not_built cannot) b = absurd (unsent_says (found_lines (plain_bucket g.at) g.id) e cannot b)
    opening_says e (files.by_find fails) b = request_says (record_find g) true TellsNoRecord (Broke past history g e) e (λ bytes h success breaks. record_says bytes h success e breaks) fails b
    opening_says e (files.not_found h none) b = absurd (says_by e (kind.GridFs (grid.FileNotFound (identifier.Id none.value))) none.error b)
    opening_says e (files.too_many f h breaks) b = let x = found_at past history legal stands g named f h in count_broke x.position x.step x.finds x.first x.more x.stood f x.reads_as breaks
    opening_says e (files.list_not_built f h cannot) b = absurd (unsent_says (listed_lines (plain_bucket g.at) f.id) e cannot b)
    opening_says e (files.by_list f h fails) b = absurd (request_says (chunks_find g f.id) true TellsNoCursor ⊥ e (λ bytes heard success breaks. list_tells f bytes heard success e breaks) fails b)

  -- a getMore has its batch
  more_tells : (at : ClientCursor) → IsTold past at → (e : Error) → (session : Option Session) (bytes : List ℕ) → HeardBy past (get_more at session) (reply bytes) → IsSuccess bytes → TellsNoCursor bytes e → ⊥
  more_tells at told e session bytes h success breaks =
      let s = more_step past history legal stands at bytes (told_named past at told) (record { session = session; heard = h; success = success }) in
      tells_not bytes s.1.batch e (ap (λ (b : List ℕ). batch_of (fields b)) s.0.reply_is ∙ s.1.there) breaks

  stops_says : {Many : Type 0} (Other : Type 0) (e : Error) → ReadStops past Many Other e → SaysBroken e.kind → Other
  stops_says Other e (stops.no_memory room) b = absurd (memory_says e room b)
  stops_says Other e (stops.not_built at told (inl bad)) b = absurd (says_by e (kind.InvalidArgument argument.BatchSize) bad.0 b)
  stops_says Other e (stops.not_built at told (inr by)) b = absurd (says_by e kind.BsonSerialization by.0 b)
  stops_says Other e (stops.no_batch at told fails) b = absurd (request_says (get_more at fails.session) false TellsNoCursor ⊥ e (λ bytes h success breaks. more_tells at told e fails.session bytes h success breaks) fails.fails b)
  stops_says Other e (stops.too_many empty never is) b = absurd (says_by e kind.EmptyBatches is b)
  stops_says Other e (stops.differs apart other) b = other

-- A get that says so found such a record, or chunks that are not what it says.
pub broke : (calls : List Call) (wire : ℤ) (q : Places) (g : GetTask) (bytes : List ℕ) (done : ℕ) (e : Error) → TellsGetFails calls wire q g bytes done e → SaysBroken e.kind → as_database g.at.db ≡ Some g.at.db → (history : List Step) → IsLegal history → Stands calls history → Broke (sent_at q.now calls wire) history g e ⊎ Blamed calls wire q g e
broke calls wire q g bytes done e (tells.out_of_memory room) b named history legal stands = absurd (memory_says e room b)
broke calls wire q g bytes done e (tells.has_no_room none is) b named history legal stands = absurd (says_by e (kind.InvalidArgument argument.ReadSize) is b)
broke calls wire q g bytes done e (tells.not_opened some silent first fails) b named history legal stands = inl (opening_says (sent_at q.now calls wire) history legal stands g (chunks_named g.at named) e fails b)
broke calls wire q g bytes done e (tells.not_read some more d at opened cursor fails its sound plain counted last listed of held why read_so came) b named history legal stands =
    inr (record { file = d.file; at = at; opened = opened; listed = listed; own = of; other = stops_says (sent_at (all_places q) calls wire) history legal stands (ListsOther calls g.at d.file listed e) e why b })
