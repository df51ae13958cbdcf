-- The room of a read, which is lent to the poll as a slice.
use Rattle.std.proofs.Common.{◌≡◌, ◌<◌, ◌≤◌, ◌+◌, ◌++◌, ℕ, ℤ, List, length, take, None, Vec, refl, sym, ap, ◌∙◌, subst, arith, length-append}
use Rattle.std.specs.Vec.{with_items}
use Rattle.std.specs.declared.alloc.Global.{Global}
use Rattle.std.proofs.lemmas.List.{length-take-le, with_items_is}
use Rattle.mg_link.specs.Link.{Awaited, LogTold}
use Rattle.mg_gridfs.specs.Downloads.{ClientDownload, IsSoundDownload, download_ticket}
use Rattle.mg_gridfs.specs.Reads.{Reads, ReadsNothing}
use Rattle.mg_gridfs.specs.declared.polls.ReadPoll.{ReadPoll}
use Rattle.mg_gridfs.specs.declared.polls.ReadPoll.TheVariants as read
use Rattle.mg_players.specs.Gets.{room_of}
use Rattle.mg_players.proofs.GetSending.{read_rested, rested_free}
use Rattle.mg_players.proofs.GetTurning.{some_room}

module _ (room : Vec ℕ Global) (lent now : List ℕ) (is : lent ≡ room.items) (same : length now ≡ length lent) where
  -- what the poll left in the slice stands in it
  pub room_is : (with_items room now).items ≡ now
  room_is = with_items_is room now (same ∙ ap length is ∙ sym room.ok.0)

  long_as_lent : length (with_items room now).items ≡ length lent
  long_as_lent = ap length room_is ∙ same

  -- it is as long as before
  pub room_stays : length (with_items room now).items ≡ length room.items
  room_stays = long_as_lent ∙ ap length is

  -- no more was read than it holds
  pub room_holds : (count : ℕ) → count ≤ length lent → count ≤ length (with_items room now).items
  room_holds count within = subst (λ (n : ℕ). count ≤ n) (sym long_as_lent) within

  -- nor more than a read has room for
  pub room_fits : (asked count : ℕ) → length room.items ≡ room_of asked → count ≤ length lent → count ≤ room_of asked
  room_fits asked count long within = subst (λ (n : ℕ). count ≤ n) (ap length is ∙ long) within

  -- so many more bytes stand behind those before
  pub room_gives : (before : List ℕ) (count : ℕ) → count ≤ length lent → length (before ++ take count (with_items room now).items) ≡ length before + count
  room_gives before count within =
      length-append before (take count (with_items room now).items) ∙ ap (λ (n : ℕ). length before + n) (length-take-le count (with_items room now).items (room_holds count within))

module _ (room : Vec ℕ Global) (lent : List ℕ) (is : lent ≡ room.items) where
  -- a poll reads into the room
  pub reads_into : (old new : Awaited) (log log' : LogTold) (wire : ℤ) (d d' : ClientDownload) (given : List ℕ) (r : ReadPoll) → Reads old new log log' wire (length lent) d d' given r → Reads old new log log' wire (length room.items) d d' given r
  reads_into old new log log' wire d d' given r reads_so = subst (λ (l : List ℕ). Reads old new log log' wire (length l) d d' given r) is reads_so

  pub nothing_into : (d d' : ClientDownload) (r : ReadPoll) → ReadsNothing (length lent) d d' r → ReadsNothing (length room.items) d d' r
  nothing_into d d' r nothing = subst (λ (l : List ℕ). ReadsNothing (length l) d d' r) is nothing

  -- behind a read that gave its bytes nothing is on its way
  pub read_free : (asked : ℕ) → length room.items ≡ room_of asked → 0 < asked → (old new : Awaited) (log log' : LogTold) (wire : ℤ) (d d' : ClientDownload) (given : List ℕ) (count : ℕ) → IsSoundDownload d' → Reads old new log log' wire (length lent) d d' given (read.Read count) → download_ticket d' ≡ None
  read_free asked long some old new log log' wire d d' given count sound reads_so =
      let full = some_room asked some in
      rested_free d' sound (read_rested old new log log' wire (length room.items) d d' given (read.Read count) (omega (arith, full, long)) (reads_into old new log log' wire d d' given (read.Read count) reads_so) count refl)
