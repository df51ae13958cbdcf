-- The check of an upload leaves the cursors of others alone.
use Rattle.std.proofs.Common.{◌≡◌, ℕ, ℤ, true, false, Bool, List, [], Option, Some, None, refl, sym, ap, ◌∙◌, subst}
use Rattle.std.specs.Prelude.{option_map, unwrap_or}
use Rattle.mg_bson.specs.Raw.{fields}
use Rattle.mg_bson.specs.Tree.{Fields}
use Rattle.mg_server.specs.Commands.{documents_in}
use Rattle.mg_link.specs.Exec.{IsSuccess, Runs, Sending, unsent}
use Rattle.mg_link.specs.Link.{Awaited, LogTold}
use Rattle.mg_link.specs.Log.{Call}
use Rattle.mg_link.specs.Namespace.{space}
use Rattle.mg_server.specs.Owner.{Owner, Passes, PassesPlain, nobody}
use Rattle.mg_server.specs.Query.{Query}
use Rattle.mg_server.specs.Reader.{FindingAt, KnowsRead, Reader, finder_at, opened_at, owner_of_reader}
use Rattle.mg_link.specs.declared.action.Step.{Step}
use Rattle.mg_link.specs.declared.action.Step.TheVariants as came
use Rattle.mg_server.proofs.Apart.{passes_here, passes_on}
use Rattle.mg_server.proofs.Calls.{success_ran}
use Rattle.mg_server.proofs.Finds as link_finds
use Rattle.mg_server.proofs.Finds.{CameKnown, IsAtOwn, query_ran}
use Rattle.mg_server.proofs.Killing.{plain_ran}
use Rattle.mg_options.specs.Fields.{Line}
use Rattle.mg_ops.specs.Cursors.{Cursor, OpensWith}
use Rattle.mg_ops.specs.Naming.{IsNamed}
use Rattle.mg_ops.specs.declared.cursor_reply.CursorSpecification.{CursorSpecification}
use Rattle.mg_ops.proofs.AskingMore.{asks_for_indexes}
use Rattle.mg_ops.proofs.Reading.{batch_as, named_read}
use Rattle.mg_cursor.specs.Client.{new_client}
use Rattle.mg_cursor.specs.Documents.{DocumentCursor, new_documents}
use Rattle.mg_cursor.specs.Reading.{batch_documents, reader_of, told_advance, told_try}
use Rattle.mg_cursor.specs.declared.polls.AdvancePoll.{AdvancePoll}
use Rattle.mg_cursor.specs.declared.polls.AdvancePoll.TheVariants as advance
use Rattle.mg_cursor.specs.declared.polls.TryPoll.{TryPoll}
use Rattle.mg_cursor.specs.declared.polls.TryPoll.TheVariants as try
use Rattle.mg_cursor.proofs.Batching.{documents_read}
use Rattle.mg_cursor.proofs.Reading.{seeks_read, tries_read}
use Rattle.mg_gridfs.specs.Buckets.{ClientBucket}
use Rattle.mg_gridfs.specs.Checks as check
use Rattle.mg_gridfs.specs.Checks.{Builds, CheckTurned, ChecksOn, ClientCheck, Creates, EndsList, GoesBehind, HearsAdvance, HearsAny, HearsCreation, HearsFind, HearsIndex, HearsIndexed, HearsListing, IsSoundCheck, LandsAdvance, LandsCheck, Looks, by_advance, by_creation, by_find, by_index, by_listing, creates, finds, indexes, lists, reads, still_of}
use Rattle.mg_gridfs.specs.Commands.{creation_lines, index_lines, listing_lines}
use Rattle.mg_gridfs.specs.Cursors.{KnowsCheck, KnowsList, check_owner, indexes_query}
use Rattle.mg_gridfs.specs.Downloaded.{cursor_owner}
use Rattle.mg_gridfs.specs.Indexes.{space_in}
use Rattle.mg_gridfs.specs.declared.indexes.Place.{Place}
use Rattle.mg_gridfs.specs.declared.indexes.Place.TheVariants as place
use Rattle.mg_gridfs.proofs.Meaning.{named_in}
use Rattle.mg_gridfs.proofs.Named.{SeeksWell, TriesWell, any_none, creation_none, index_none, seeks_named, tries_named}
use Rattle.mg_gridfs.proofs.OpeningKnown.{reads_or_garbled}

-- ---- what a step comes to

abbrev pub turned_owner : Awaited → CheckTurned → Owner
turned_owner awaited (check.goes c) = check_owner awaited c
turned_owner awaited (check.pends c) = check_owner awaited c
turned_owner awaited check.passes = nobody
turned_owner awaited (check.fails e) = nobody

abbrev pub KnowsTurned : Awaited → List Call → ClientBucket → CheckTurned → Type 0
KnowsTurned awaited calls b (check.goes c) = KnowsCheck awaited calls b c
KnowsTurned awaited calls b (check.pends c) = KnowsCheck awaited calls b c
KnowsTurned awaited calls b check.passes = Unit {0}
KnowsTurned awaited calls b (check.fails e) = Unit {0}

-- it left others alone, and knows its own
abbrev pub Turned : List Call → LogTold → Owner → Awaited → ClientBucket → CheckTurned → Type 0
Turned calls log' own new b t = (calls' : List Call) × (log' ≡ Some calls') × Passes calls calls' own (turned_owner new t) × KnowsTurned new calls' b t

abbrev pub left_owner : Awaited → Option ClientCheck → Owner
left_owner awaited None = nobody
left_owner awaited (Some c) = check_owner awaited c

abbrev pub KnowsLeft : Awaited → List Call → ClientBucket → Option ClientCheck → Type 0
KnowsLeft awaited calls b None = Unit {0}
KnowsLeft awaited calls b (Some c) = KnowsCheck awaited calls b c

-- the same of one that was given up
abbrev pub Left : List Call → LogTold → Owner → Awaited → ClientBucket → Option ClientCheck → Type 0
Left calls log' own new b t = (calls' : List Call) × (log' ≡ Some calls') × Passes calls calls' own (left_owner new t) × KnowsLeft new calls' b t

-- a caller that owns nothing any more
dropped : (calls calls' : List Call) (o o' : Owner) → Passes calls calls' o o' → Passes calls calls' o nobody
dropped calls calls' o o' p = passes_on calls calls' calls' o o' nobody p (passes_here calls' o' nobody (λ n is. is) (λ y is ne. absurd is) p.holds)

-- ---- the first batch of a list

module _ (new : Awaited) (calls calls' : List Call) (o : Owner) (q : Query) (bytes : List ℕ) (out : CursorSpecification) (success : IsSuccess bytes) (w : OpensWith None None None bytes out) (opens_so : link_finds.Opens calls calls' q o bytes) where
  abbrev said : Cursor
  said = record { id = out.info.id; space = space out.info.ns; token = out.post_batch_resume_token; batch = w.opens.batch }

  abbrev documents : List Fields
  documents = unwrap_or (documents_in said.batch) []

  opened_so : (n : ℕ) × KnowsRead calls' (opened_at q n (batch_as said documents)) × Passes calls calls' o (owner_of_reader (opened_at q n (batch_as said documents))) × IsAtOwn calls o n
  opened_so = opens_so (batch_as said documents) (reads_or_garbled q bytes said (documents_in said.batch) documents success w.opens.says refl (λ x e. sym (ap (λ (d : Option (List Fields)). unwrap_or d []) e)))

  abbrev base : Reader
  base = opened_at q opened_so.0 (batch_as said documents)

  these : documents ≡ batch_documents out.initial_reply
  these = ap (λ (d : Option (List Fields)). unwrap_or d []) (documents_read bytes said w.opens.says) ∙ ap batch_documents (sym w.opens.whole)

  list_opened : KnowsList new calls' (new_documents (new_client out)) × Passes calls calls' o (cursor_owner new (new_client out))
  list_opened = ((named_read (fields bytes) said w.opens.says, base, subst (λ (l : List Fields). KnowsRead calls' (record base { ahead = l })) these opened_so.1), opened_so.2)

-- ---- steps that own nothing behind them

module _ (new : Awaited) (b : ClientBucket) where
  abbrev Idle : CheckTurned → Type 0
  Idle t = (turned_owner new t ≡ nobody) × ((calls : List Call) → KnowsTurned new calls b t)

  idle_as : (t q : CheckTurned) → t ≡ q → Idle q → Idle t
  idle_as t q is h = subst Idle (sym is) h

  builds_idle : (again : Bool) (lines : List Line) (next : Sending → ClientCheck) (t : CheckTurned) → ((s : Sending) → s.stage ≡ unsent → Idle (check.goes (next s))) → Builds again lines next t → Idle t
  builds_idle again lines next t leads (check.built s new_one is) = idle_as t (check.goes (next s)) is (leads s new_one.new)
  builds_idle again lines next t leads (check.not_built e fails is) = idle_as t (check.fails e) is (refl, λ calls. tt)

  lists_idle : (at : Place) (s : Sending) → s.stage ≡ unsent → Idle (check.goes (lists at s))
  lists_idle at s is = (ap (finder_at new) is, λ calls. subst (FindingAt new calls (indexes_query (space_in b at))) (sym is) tt)

  behind_idle : (at : Place) (t : CheckTurned) → GoesBehind b at t → Idle t
  behind_idle place.Files t h = builds_idle false (creation_lines b place.Chunks) (creates place.Chunks) t (λ s is. (refl, λ calls. tt)) h
  behind_idle place.Chunks t h = idle_as t check.passes h (refl, λ calls. tt)

  any_idle : (reply : List ℕ) (t : CheckTurned) → HearsAny b reply t → Idle t
  any_idle reply t (check.some said_so read there is) = idle_as t check.passes is (refl, λ calls. tt)
  any_idle reply t (check.none said_so read empty builds) = builds_idle false (creation_lines b place.Files) (creates place.Files) t (λ s is. (refl, λ calls. tt)) builds
  any_idle reply t (check.broke e fails is) = idle_as t (check.fails e) is (refl, λ calls. tt)

  created_idle : (at : Place) (c : Step Sending (List ℕ)) (t : CheckTurned) → Creates b at c t → Idle t
  created_idle at c t (check.created reply is none builds) = builds_idle true (listing_lines b at) (lists at) t (lists_idle at) builds
  created_idle at c t (check.there e is code builds) = builds_idle true (listing_lines b at) (lists at) t (lists_idle at) builds
  created_idle at c t (check.unread reply e is fails answer) = idle_as t (check.fails e) answer (refl, λ calls. tt)
  created_idle at c t (check.other e is code answer) = idle_as t (check.fails e) answer (refl, λ calls. tt)

  ends_idle : (at : Place) (found : Bool) (t : CheckTurned) → EndsList b at found t → Idle t
  ends_idle at true t h = behind_idle at t h
  ends_idle at false t h = builds_idle false (index_lines b at) (indexes at) t (λ s is. (refl, λ calls. tt)) h

  indexed_idle : (at : Place) (reply : List ℕ) (t : CheckTurned) → HearsIndexed b at reply t → Idle t
  indexed_idle at reply t (check.done none behind) = behind_idle at t behind
  indexed_idle at reply t (check.unread e fails is) = idle_as t (check.fails e) is (refl, λ calls. tt)

  find_idle : (c : Step Sending (List ℕ)) (t : CheckTurned) → HearsFind b c t → Idle t
  find_idle (came.Pending s) t h = idle_as t (check.pends (finds s)) h (refl, λ calls. tt)
  find_idle (came.Done reply) t h = any_idle reply t h
  find_idle (came.Failed e) t h = idle_as t (check.fails e) h (refl, λ calls. tt)

  creation_idle : (at : Place) (c : Step Sending (List ℕ)) (t : CheckTurned) → HearsCreation b at c t → Idle t
  creation_idle at (came.Pending s) t h = idle_as t (check.pends (creates at s)) h (refl, λ calls. tt)
  creation_idle at (came.Done reply) t h = created_idle at (came.Done reply) t h
  creation_idle at (came.Failed e) t h = created_idle at (came.Failed e) t h

  index_idle : (at : Place) (c : Step Sending (List ℕ)) (t : CheckTurned) → HearsIndex b at c t → Idle t
  index_idle at (came.Pending s) t h = idle_as t (check.pends (indexes at s)) h (refl, λ calls. tt)
  index_idle at (came.Done reply) t h = indexed_idle at reply t h
  index_idle at (came.Failed e) t h = idle_as t (check.fails e) h (refl, λ calls. tt)

-- ---- a step

module _ (old new : Awaited) (log log' : LogTold) (wire : ℤ) (b : ClientBucket) (files : IsNamed b.files) (chunks : IsNamed b.chunks) (calls : List Call) (told : log ≡ Some calls) where
  turned_as : (own : Owner) (t q : CheckTurned) → t ≡ q → Turned calls log' own new b q → Turned calls log' own new b t
  turned_as own t q is h = subst (Turned calls log' own new b) (sym is) h

  plainly : (t : CheckTurned) → PassesPlain log log' → Idle new b t → Turned calls log' nobody new b t
  plainly t passes idle_so = let p = passes calls told in (p.0, p.1, subst (λ (o : Owner). Passes calls p.0 nobody o) (sym idle_so.0) p.2, idle_so.1 p.0)

  -- it owns nothing behind it
  lets_go : (own o' : Owner) (t : CheckTurned) (calls' : List Call) → log' ≡ Some calls' → Passes calls calls' own o' → Idle new b t → Turned calls log' own new b t
  lets_go own o' t calls' told' p idle_so = (calls', told', subst (λ (o : Owner). Passes calls calls' own o) (sym idle_so.0) (dropped calls calls' own o' p), idle_so.1 calls')

  listing_on : (at : Place) (own : Owner) (s : Sending) (c : Step Sending (List ℕ)) (t : CheckTurned) (calls' : List Call) → log' ≡ Some calls' → Runs old new log log' wire s c → HearsListing at c t → CameKnown new calls calls' (indexes_query (space_in b at)) own c → Turned calls log' own new b t
  listing_on at own s (came.Pending s') t calls' told' runs h k = turned_as own t (check.pends (lists at s')) h (calls', told', k.1, k.0)
  listing_on at own s (came.Done reply) t calls' told' runs (check.opened out w is) k =
      let l = list_opened new calls calls' own (indexes_query (space_in b at)) reply out (success_ran old new log log' wire s reply runs) w k.1 in
      turned_as own t (check.goes (reads at (new_documents (new_client out)) false 0)) is (calls', told', l.1, l.0)
  listing_on at own s (came.Done reply) t calls' told' runs (check.broke e fails is) k = turned_as own t (check.fails e) is (calls', told', k.0, tt)
  listing_on at own s (came.Failed e) t calls' told' runs h k = turned_as own t (check.fails e) h (calls', told', k, tt)

  looks_on : (own : Owner) (at : Place) (cursor : DocumentCursor) (document : List ℕ) (found : Bool) (count : ℕ) (t : CheckTurned) (calls' : List Call) → log' ≡ Some calls' → Passes calls calls' own (cursor_owner new cursor.cursor) → KnowsList new calls' cursor → Looks at cursor document found count t → Turned calls log' own new b t
  looks_on own at cursor document found count t calls' told' p k (check.looked i few read is) = turned_as own t _ is (calls', told', p, k)
  looks_on own at cursor document found count t calls' told' p k (check.too_many many is) = lets_go own (cursor_owner new cursor.cursor) t calls' told' p (idle_as new b t _ is (refl, λ cs. tt))
  looks_on own at cursor document found count t calls' told' p k (check.broke e fails is) = lets_go own (cursor_owner new cursor.cursor) t calls' told' p (idle_as new b t (check.fails e) is (refl, λ cs. tt))

  advances_on : (own : Owner) (at : Place) (cursor : DocumentCursor) (found : Bool) (count : ℕ) (poll : AdvancePoll) (t : CheckTurned) (calls' : List Call) → log' ≡ Some calls' → Passes calls calls' own (cursor_owner new cursor.cursor) → (SeeksWell poll → IsNamed cursor.cursor.space) → (r : Reader) → KnowsRead calls' (reader_of new cursor r)
      → HearsAdvance b at cursor found count poll t → Turned calls log' own new b t
  advances_on own at cursor found count advance.Pending t calls' told' p named r k h = turned_as own t (check.pends (reads at cursor found count)) h (calls', told', p, (named tt, r, k))
  advances_on own at cursor found count (advance.Ready true) t calls' told' p named r k h = looks_on own at cursor h.0 found count t calls' told' p (named tt, r, k) h.2
  advances_on own at cursor found count (advance.Ready false) t calls' told' p named r k h = lets_go own (cursor_owner new cursor.cursor) t calls' told' p (ends_idle new b at found t h)
  advances_on own at cursor found count (advance.Failed e) t calls' told' p named r k h = lets_go own (cursor_owner new cursor.cursor) t calls' told' p (idle_as new b t (check.fails e) h (refl, λ cs. tt))

  own_as : (c d : ClientCheck) (t : CheckTurned) → c ≡ d → Turned calls log' (check_owner old d) new b t → Turned calls log' (check_owner old c) new b t
  own_as c d t is h = subst (λ (x : ClientCheck). Turned calls log' (check_owner old x) new b t) (sym is) h

  -- A step of the check leaves others alone.
  pub check_passes : (c : ClientCheck) (t : CheckTurned) → IsSoundCheck b c → ChecksOn old new log log' wire b c t → KnowsCheck old calls b c → Turned calls log' (check_owner old c) new b t
  check_passes c t sound (by_find s is came_to runs hears) k =
      own_as c (finds s) t is (plainly t (plain_ran s.command (any_none b files chunks s (subst (IsSoundCheck b) is sound)) old new log log' wire s came_to refl runs) (find_idle new b came_to t hears))
  check_passes c t sound (by_creation at s is came_to runs hears) k =
      own_as c (creates at s) t is (plainly t (plain_ran s.command (creation_none b files chunks at s (subst (IsSoundCheck b) is sound)) old new log log' wire s came_to refl runs) (creation_idle new b at came_to t hears))
  check_passes c t sound (by_listing at s is came_to runs hears) k =
      let request = subst (IsSoundCheck b) is sound in
      let asks = asks_for_indexes s.command (space_in b at) None (named_in b at files chunks) request.command_is in
      let x = query_ran (indexes_query (space_in b at)) old new log log' wire s came_to asks runs calls told (subst (KnowsCheck old calls b) is k) in
      own_as c (lists at s) t is (listing_on at (finder_at old s.stage) s came_to t x.0 x.1 runs hears x.2)
  check_passes c t sound (by_advance at cursor found count is empties starts left poll seeks hears) k =
      let own = subst (IsSoundCheck b) is sound in
      let known = subst (KnowsCheck old calls b) is k in
      let m = seeks_read empties true old new log log' wire None starts cursor left poll own.0 known.0 seeks known.1 calls told in
      own_as c (reads at cursor found count) t is
      (advances_on (cursor_owner old cursor.cursor) at left found count poll t m.0 m.1 (m.2.passes known.2) (λ fine. seeks_named empties old new log log' wire starts cursor left poll fine known.0 seeks) (told_advance poll left.current known.1) (m.2.knows known.2) hears)
  check_passes c t sound (by_index at s is came_to runs hears) k =
      own_as c (indexes at s) t is (plainly t (plain_ran s.command (index_none b files chunks at s (subst (IsSoundCheck b) is sound)) old new log log' wire s came_to refl runs) (index_idle new b at came_to t hears))

  -- ---- a check that is given up

  left_as : (own : Owner) (t q : Option ClientCheck) → t ≡ q → Left calls log' own new b q → Left calls log' own new b t
  left_as own t q is h = subst (Left calls log' own new b) (sym is) h

  plain_left : (next : Sending → ClientCheck) → ((s : Sending) → check_owner new (next s) ≡ nobody) → ((s : Sending) (cs : List Call) → KnowsCheck new cs b (next s)) → (c : Step Sending (List ℕ)) (t : Option ClientCheck) → t ≡ option_map next (still_of c) → PassesPlain log log' → Left calls log' nobody new b t
  plain_left next owner knows (came.Pending s) t is passes = let p = passes calls told in left_as nobody t (Some (next s)) is (p.0, p.1, subst (λ (o : Owner). Passes calls p.0 nobody o) (sym (owner s)) p.2, knows s p.0)
  plain_left next owner knows (came.Done reply) t is passes = let p = passes calls told in left_as nobody t None is (p.0, p.1, p.2, tt)
  plain_left next owner knows (came.Failed e) t is passes = let p = passes calls told in left_as nobody t None is (p.0, p.1, p.2, tt)

  listing_left : (at : Place) (own : Owner) (c : Step Sending (List ℕ)) (t : Option ClientCheck) (calls' : List Call) → log' ≡ Some calls' → t ≡ option_map (lists at) (still_of c) → CameKnown new calls calls' (indexes_query (space_in b at)) own c → Left calls log' own new b t
  listing_left at own (came.Pending s) t calls' told' is k = left_as own t (Some (lists at s)) is (calls', told', k.1, k.0)
  listing_left at own (came.Done reply) t calls' told' is k = left_as own t None is (calls', told', k.0, tt)
  listing_left at own (came.Failed e) t calls' told' is k = left_as own t None is (calls', told', k, tt)

  advance_left : (own : Owner) (at : Place) (cursor : DocumentCursor) (found : Bool) (count : ℕ) (poll : TryPoll) (t : Option ClientCheck) (calls' : List Call) → log' ≡ Some calls' → Passes calls calls' own (cursor_owner new cursor.cursor) → (TriesWell poll → IsNamed cursor.cursor.space) → (r : Reader) → KnowsRead calls' (reader_of new cursor r)
      → LandsAdvance at cursor found count poll t → Left calls log' own new b t
  advance_left own at cursor found count try.Pending t calls' told' p named r k is = left_as own t (Some (reads at cursor found count)) is (calls', told', p, (named tt, r, k))
  advance_left own at cursor found count (try.Ready a) t calls' told' p named r k is = left_as own t None is (calls', told', dropped calls calls' own (cursor_owner new cursor.cursor) p, tt)
  advance_left own at cursor found count (try.Failed e) t calls' told' p named r k is = left_as own t None is (calls', told', dropped calls calls' own (cursor_owner new cursor.cursor) p, tt)

  own_left : (c d : ClientCheck) (t : Option ClientCheck) → c ≡ d → Left calls log' (check_owner old d) new b t → Left calls log' (check_owner old c) new b t
  own_left c d t is h = subst (λ (x : ClientCheck). Left calls log' (check_owner old x) new b t) (sym is) h

  pub landing_passes : (c : ClientCheck) (t : Option ClientCheck) → IsSoundCheck b c → LandsCheck old new log log' wire c t → KnowsCheck old calls b c → Left calls log' (check_owner old c) new b t
  landing_passes c t sound (by_find s is came_to runs landing) k =
      own_left c (finds s) t is (plain_left finds (λ x. refl) (λ x cs. tt) came_to t landing (plain_ran s.command (any_none b files chunks s (subst (IsSoundCheck b) is sound)) old new log log' wire s came_to refl runs))
  landing_passes c t sound (by_creation at s is came_to runs landing) k =
      own_left c (creates at s) t is (plain_left (creates at) (λ x. refl) (λ x cs. tt) came_to t landing (plain_ran s.command (creation_none b files chunks at s (subst (IsSoundCheck b) is sound)) old new log log' wire s came_to refl runs))
  landing_passes c t sound (by_listing at s is came_to runs landing) k =
      let request = subst (IsSoundCheck b) is sound in
      let asks = asks_for_indexes s.command (space_in b at) None (named_in b at files chunks) request.command_is in
      let x = query_ran (indexes_query (space_in b at)) old new log log' wire s came_to asks runs calls told (subst (KnowsCheck old calls b) is k) in
      own_left c (lists at s) t is (listing_left at (finder_at old s.stage) came_to t x.0 x.1 landing x.2)
  landing_passes c t sound (by_advance at cursor found count is started left poll tries landing) k =
      let own = subst (IsSoundCheck b) is sound in
      let known = subst (KnowsCheck old calls b) is k in
      let m = tries_read true old new log log' wire None started cursor left poll own.0 known.0 tries known.1 calls told in
      own_left c (reads at cursor found count) t is
      (advance_left (cursor_owner old cursor.cursor) at left found count poll t m.0 m.1 (m.2.passes known.2) (λ fine. tries_named old new log log' wire started cursor left poll fine known.0 tries) (told_try poll left.current known.1) (m.2.knows known.2) landing)
  landing_passes c t sound (by_index at s is came_to runs landing) k =
      own_left c (indexes at s) t is (plain_left (indexes at) (λ x. refl) (λ x cs. tt) came_to t landing (plain_ran s.command (index_none b files chunks at s (subst (IsSoundCheck b) is sound)) old new log log' wire s came_to refl runs))
