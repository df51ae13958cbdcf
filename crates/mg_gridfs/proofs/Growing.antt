-- What a download and its opening are caused by, at a later time.
use Rattle.std.proofs.Common.{◌≡◌, ℕ, true, Option, Some, None, refl, sym, subst}
use Rattle.mg_bson.specs.Tree.{Tree}
use Rattle.mg_server.specs.Calls.{Grows, Past}
use Rattle.mg_link.specs.Link.{Awaited}
use Rattle.mg_link.specs.declared.error.Error.{Error}
use Rattle.mg_server.proofs.Calls.{HoldsOwn, own_by}
use Rattle.mg_server.proofs.Pasts.{flies_grows, request_fails_grows}
use Rattle.mg_options.specs.Fields.{fields_in}
use Rattle.mg_cursor.specs.Causes.{TellsNoCursor, UnderwayBy}
use Rattle.mg_cursor.specs.Client as client
use Rattle.mg_cursor.specs.Client.{ClientCursor, get_more}
use Rattle.mg_gridfs.specs.Buckets.{ClientBucket}
use Rattle.mg_gridfs.specs.Commands.{found_lines, listed_lines}
use Rattle.mg_gridfs.specs.Downloads.{ClientDownload, Doing, ended, idle, reads, spoiled, ticket_by}
use Rattle.mg_gridfs.specs.Findings as findings
use Rattle.mg_gridfs.specs.Findings.{ClientFinding, IsSoundFinding, Looking, finds, lists, starts}
use Rattle.mg_gridfs.specs.ReadCauses as causes
use Rattle.mg_gridfs.specs.ReadCauses.{IsFetching, IsOpening, LookingUnderway, OpeningFails, TellsNoRecord, cursor_in}
use Rattle.mg_gridfs.proofs.Opened.{record_grows}

-- ---- a later time

module _ (past past' : Past) (grows : Grows past past') where
  pub opening_fails_grow : (b : ClientBucket) (id : Tree) (e : Error) → OpeningFails past b id e → OpeningFails past' b id e
  opening_fails_grow b id e (causes.out_of_memory room) = causes.out_of_memory room
  opening_fails_grow b id e (causes.find_not_built cannot) = causes.find_not_built cannot
  opening_fails_grow b id e (causes.by_find fails) = causes.by_find (request_fails_grows past past' grows (fields_in (found_lines b id)) true TellsNoRecord e fails)
  opening_fails_grow b id e (causes.not_found h none) = causes.not_found (record_grows past past' grows b id None h) none
  opening_fails_grow b id e (causes.too_many f h breaks) = causes.too_many f (record_grows past past' grows b id (Some f) h) breaks
  opening_fails_grow b id e (causes.list_not_built f h cannot) = causes.list_not_built f (record_grows past past' grows b id (Some f) h) cannot
  opening_fails_grow b id e (causes.by_list f h fails) = causes.by_list f (record_grows past past' grows b id (Some f) h) (request_fails_grows past past' grows (fields_in (listed_lines b f.id)) true TellsNoCursor e fails)

  module _ (old new : Awaited) where
    looking_grows : (b : ClientBucket) (id : Tree) (doing : Looking) → ((m : ℕ) → findings.ticket_by doing ≡ Some m → new m ≡ old m) → LookingUnderway old past b id doing → LookingUnderway new past' b id doing
    looking_grows b id starts same h = tt
    looking_grows b id (finds sending) same h = flies_grows past past' grows old new (fields_in (found_lines b id)) sending.stage same h
    looking_grows b id (lists file count sending) same h = (flies_grows past past' grows old new (fields_in (listed_lines b file.id)) sending.stage same h.0, record_grows past past' grows b id (Some file) h.1)

    pub opening_grows : (o : ClientFinding) → ((m : ℕ) → findings.finding_ticket o ≡ Some m → new m ≡ old m) → IsOpening old past o → IsOpening new past' o
    opening_grows o same h b is = looking_grows b o.id o.doing same (h b is)

    cursor_grows : (c : ClientCursor) (doing : client.Doing) → ((m : ℕ) → client.ticket_by doing ≡ Some m → new m ≡ old m) → UnderwayBy old past c doing → UnderwayBy new past' c doing
    cursor_grows c client.rests same h = tt
    cursor_grows c (client.holds bytes) same h = tt
    cursor_grows c (client.asks sending) same h = record { session = h.session; command_is = h.command_is; flies = flies_grows past past' grows old new (get_more c h.session) sending.stage same h.flies }

    doing_grows : (doing : Doing) → ((m : ℕ) → ticket_by doing ≡ Some m → new m ≡ old m) → ((c : ClientCursor) → cursor_in doing ≡ Some c → UnderwayBy old past c c.doing) → (c : ClientCursor) → cursor_in doing ≡ Some c → UnderwayBy new past' c c.doing
    doing_grows (idle cursor) same h c is = let here : cursor ≡ c = cc is in subst (λ (x : ClientCursor). UnderwayBy new past' x x.doing) here (cursor_grows cursor cursor.doing same (h cursor refl))
    doing_grows (reads cursor missing empty) same h c is = let here : cursor ≡ c = cc is in subst (λ (x : ClientCursor). UnderwayBy new past' x x.doing) here (cursor_grows cursor cursor.doing same (h cursor refl))
    doing_grows ended same h c is = absurd cc
    doing_grows spoiled same h c is = absurd cc

    pub fetching_grows : (d : ClientDownload) → ((m : ℕ) → ticket_by d.doing ≡ Some m → new m ≡ old m) → IsFetching old past d → IsFetching new past' d
    fetching_grows d same h = doing_grows d.doing same h

-- ---- whose ticket is held

looking_own : (awaited : Awaited) (past : Past) (b : ClientBucket) (id : Tree) (doing : Looking) (ticket : ℕ) → LookingUnderway awaited past b id doing → findings.ticket_by doing ≡ Some ticket → HoldsOwn awaited past ticket
looking_own awaited past b id starts ticket h held = absurd cc
looking_own awaited past b id (finds sending) ticket h held = own_by awaited past (fields_in (found_lines b id)) sending.stage ticket h held
looking_own awaited past b id (lists file count sending) ticket h held = own_by awaited past (fields_in (listed_lines b file.id)) sending.stage ticket h.0 held

-- without a bucket nothing is on its way
none_looks : (doing : Looking) (ticket : ℕ) → doing ≡ starts → findings.ticket_by doing ≡ Some ticket → ⊥
none_looks doing ticket is held = let none : findings.ticket_by doing ≡ None = subst (λ (x : Looking). findings.ticket_by x ≡ None) (sym is) refl in absurd cc

opening_by : (awaited : Awaited) (past : Past) (o : ClientFinding) (bucket : Option ClientBucket) (ticket : ℕ) → o.bucket ≡ bucket → IsSoundFinding o → IsOpening awaited past o → findings.finding_ticket o ≡ Some ticket → HoldsOwn awaited past ticket
opening_by awaited past o None ticket is sound h held = absurd (none_looks o.doing ticket (sound.none is) held)
opening_by awaited past o (Some b) ticket is sound h held = looking_own awaited past b o.id o.doing ticket (h b is) held

pub opening_own : (awaited : Awaited) (past : Past) (o : ClientFinding) (ticket : ℕ) → IsSoundFinding o → IsOpening awaited past o → findings.finding_ticket o ≡ Some ticket → HoldsOwn awaited past ticket
opening_own awaited past o ticket sound h held = opening_by awaited past o o.bucket ticket refl sound h held

cursor_own : (awaited : Awaited) (past : Past) (c : ClientCursor) (doing : client.Doing) (ticket : ℕ) → UnderwayBy awaited past c doing → client.ticket_by doing ≡ Some ticket → HoldsOwn awaited past ticket
cursor_own awaited past c client.rests ticket h held = absurd cc
cursor_own awaited past c (client.holds bytes) ticket h held = absurd cc
cursor_own awaited past c (client.asks sending) ticket h held = own_by awaited past (get_more c h.session) sending.stage ticket h.flies held

doing_own : (awaited : Awaited) (past : Past) (doing : Doing) (ticket : ℕ) → ((c : ClientCursor) → cursor_in doing ≡ Some c → UnderwayBy awaited past c c.doing) → ticket_by doing ≡ Some ticket → HoldsOwn awaited past ticket
doing_own awaited past (idle cursor) ticket h held = cursor_own awaited past cursor cursor.doing ticket (h cursor refl) held
doing_own awaited past (reads cursor missing empty) ticket h held = cursor_own awaited past cursor cursor.doing ticket (h cursor refl) held
doing_own awaited past ended ticket h held = absurd cc
doing_own awaited past spoiled ticket h held = absurd cc

pub fetching_own : (awaited : Awaited) (past : Past) (d : ClientDownload) (ticket : ℕ) → IsFetching awaited past d → ticket_by d.doing ≡ Some ticket → HoldsOwn awaited past ticket
fetching_own awaited past d ticket h held = doing_own awaited past d.doing ticket h held
