-- What a put heard of its check goes on to hold at a later time.
use Rattle.std.proofs.Common.{◌≡◌, ◌≢◌, ℕ, ℤ, Bool, true, false, List, [], ◌∷◌, inl, inr}
use Rattle.mg_bson.specs.Tree.{Fields, Items, no_items}
use Rattle.mg_server.specs.Calls.{Grows, Past}
use Rattle.mg_link.specs.Exec.{Sending}
use Rattle.mg_link.specs.Link.{Awaited, LogTold}
use Rattle.mg_link.specs.declared.action.Step.{Step}
use Rattle.mg_link.specs.declared.action.Step.TheVariants as came
use Rattle.mg_server.proofs.Pasts.{heard_reply}
use Rattle.mg_options.specs.Fields.{fields_in}
use Rattle.mg_cursor.specs.declared.polls.AdvancePoll.{AdvancePoll}
use Rattle.mg_cursor.specs.declared.polls.AdvancePoll.TheVariants as advance
use Rattle.mg_gridfs.specs.Buckets.{ClientBucket}
use Rattle.mg_gridfs.specs.Checks as check
use Rattle.mg_gridfs.specs.Checks.{CheckTurned, ChecksOn, ClientCheck, Creates, HearsAny, HearsCreation, HearsFind, HearsIndex, HearsIndexed, by_advance, by_creation, by_find, by_index, by_listing, creates, finds, indexes, lists, reads}
use Rattle.mg_gridfs.specs.Commands.{any_lines, index_lines}
use Rattle.mg_gridfs.specs.declared.indexes.Place.{Place}
use Rattle.mg_gridfs.specs.declared.indexes.Place.TheVariants as place
use Rattle.mg_players.specs.PutChecks.{AreGetMores, AsksForList, CheckPasses, CheckSends, CheckSentAt, IsGetMore, OnlyAgain, SendsBefore, SendsBehind, SendsCreation, SendsFind, SendsIndex, SendsList, SendsPart, SendsWhole, any_find, count_at, listing, to_creation, to_find, to_index, to_list, to_listing, to_part, where_missing}
use Rattle.mg_players.specs.PutFailures.{HeardFind, HeardIndex, HeardIndexes, HeardNone, HeardSome, HeardWhole}
use Rattle.mg_players.proofs.PutAgain.{again_grows}
use Rattle.mg_players.proofs.PutChecks.{AdvanceHeard, AnyHeard, CreatedHeard, CreationHeard, EndHeard, FindHeard, IndexHeard, IndexedHeard, StepHeard, ran_count}
use Rattle.mg_players.proofs.JustGrown.{GrowsBehind}
use Rattle.mg_players.proofs.PutCreated.{creation_grows}
use Rattle.mg_players.proofs.PutChecking.{told_as}
use Rattle.mg_players.proofs.PutListing.{of_list_behind}

module _ (past past' : Past) (grows : Grows past past') (b : ClientBucket) where
  which_grows : (Holds : Items → Type 0) → HeardFind past b Holds → HeardFind past' b Holds
  which_grows Holds h = record { bytes = h.bytes; heard = heard_reply past past' grows (fields_in (any_lines b)) h.bytes h.heard; success = h.success; said = h.said; says = h.says; holds = h.holds }

  pub none_grows : HeardNone past b → HeardNone past' b
  none_grows h = which_grows (λ (batch : Items). batch ≡ no_items) h

  some_grows : HeardSome past b → HeardSome past' b
  some_grows h = which_grows (λ (batch : Items). batch ≢ no_items) h

  index_grows : (at : Place) → HeardIndex past b at → HeardIndex past' b at
  index_grows at h = (h.0, heard_reply past past' grows (fields_in (index_lines b at)) h.0 h.1, h.2, h.3)

-- ---- the whole list

module _ (past past' : Past) (later : GrowsBehind past past') (b : ClientBucket) where
  abbrev grows : Grows past past'
  grows = later.grows

  pub indexes_grow : (at : Place) (found : Bool) → HeardIndexes past b at found → HeardIndexes past' b at found
  indexes_grow at found h = (h.0, record { cursor = h.1.cursor; of_list = of_list_behind past past' later b h.1.cursor h.1.of_list; is_at = h.1.is_at; over = h.1.over; few = h.1.few; all = h.1.all }, h.2, h.3)

  pub all_grows : (at : Place) (found : Bool) → HeardWhole past b at found → HeardWhole past' b at found
  all_grows at found h = record { created = creation_grows past past' grows b at h.created; listed = indexes_grow at found h.listed; made = λ missing. index_grows past past' grows b at (h.made missing) }

  more_grows : (at : Place) (command : Fields) → IsGetMore past b at command → IsGetMore past' b at command
  more_grows at command m = record { cursor = m.cursor; of_list = of_list_behind past past' later b m.cursor m.of_list; is_at = m.is_at; held = m.held; few = m.few; command_is = m.command_is }

  -- a read that is sent once more
  only_grows : (command : Fields) (count : ℕ) → OnlyAgain past command count → OnlyAgain past' command count
  only_grows command count only many = again_grows past past' grows command (only many)

  find_sent_grows : (commands : List Fields) → SendsFind past b commands → SendsFind past' b commands
  find_sent_grows commands s = record { count = s.count; parts = s.parts; some = s.some; few = s.few; again = only_grows (any_find b) s.count s.again }

  -- getMores of its list
  mores_grow : (at : Place) (commands : List Fields) → AreGetMores past b at commands → AreGetMores past' b at commands
  mores_grow at [] are = tt
  mores_grow at (command ∷ commands) are = (more_grows at command are.0, mores_grow at commands are.1)

  list_grows : (at : Place) (commands : List Fields) → SendsList past b at commands → SendsList past' b at commands
  list_grows at commands s = record { asked = s.asked; mores = s.mores; parts = s.parts; some = s.some; few = s.few; again = only_grows (listing b at) s.asked s.again; read_on = mores_grow at s.mores s.read_on }

  ends_grow : (at : Place) (count : ℕ) (commands : List Fields) → SendsIndex past b at count commands → SendsIndex past' b at count commands
  ends_grow at count commands s = record { list = s.list; parts = s.parts; listed = list_grows at s.list s.listed }

  whole_grows : (at : Place) (commands : List Fields) → SendsWhole past b at commands → SendsWhole past' b at commands
  whole_grows at commands h = record { found = h.found; ends = ends_grow at (where_missing h.found) commands h.ends; heard = all_grows at h.found h.heard }

  before_grows : (at : Place) (commands : List Fields) → SendsBefore past b at commands → SendsBefore past' b at commands
  before_grows place.Files commands h = (find_sent_grows commands h.0, none_grows past past' grows b h.1)
  before_grows place.Chunks commands h = (h.0, h.1, h.2, (find_sent_grows h.0 h.3.0, none_grows past past' grows b h.3.1), whole_grows place.Files h.1 h.4)

  part_grows : (at : Place) (Part Then : List Fields → Type 0) → ((part : List Fields) → Part part → Then part) → (commands : List Fields) → SendsBehind past b at Part commands → SendsBehind past' b at Then commands
  part_grows at Part Then each commands h = record { front = h.front; part = h.part; parts = h.parts; before = before_grows at h.front h.before; its = each h.part h.its }

  behind_grows : (at : Place) (Part : List Fields → Type 0) (commands : List Fields) → SendsBehind past b at Part commands → SendsBehind past' b at Part commands
  behind_grows at Part commands h = part_grows at Part Part (λ part its. its) commands h

  any_part_grows : (at : Place) (commands : List Fields) → SendsPart past b at commands → SendsPart past' b at commands
  any_part_grows at commands (to_creation n few is) = to_creation n few is
  any_part_grows at commands (to_listing created n few again is) = to_listing (creation_grows past past' grows b at created) n few (only_grows (listing b at) n again) is
  any_part_grows at commands (to_list created list) = to_list (creation_grows past past' grows b at created) (list_grows at commands list)
  any_part_grows at commands (to_index created listed n few ends) = to_index (creation_grows past past' grows b at created) (indexes_grow at false listed) n few (ends_grow at n commands ends)

  pub sends_grow : (commands : List Fields) → CheckSends past b commands → CheckSends past' b commands
  sends_grow commands (to_find count few again is) = to_find count few (only_grows (any_find b) count again) is
  sends_grow commands (to_part at h) = to_part at (part_grows at (SendsPart past b at) (SendsPart past' b at) (any_part_grows at) commands h)

  pub passes_grow : (commands : List Fields) → CheckPasses past b commands → CheckPasses past' b commands
  passes_grow commands (inl find) = inl (find_sent_grows commands find.0, some_grows past past' grows b find.1)
  passes_grow commands (inr whole) = inr (part_grows place.Chunks (SendsWhole past b place.Chunks) (SendsWhole past' b place.Chunks) (whole_grows place.Chunks) commands whole)

  pub sent_at_grows : (commands : List Fields) (c : ClientCheck) → CheckSentAt past b commands c → CheckSentAt past' b commands c
  sent_at_grows commands (finds s) h = (h.0, only_grows (any_find b) (count_at true s.stage) h.1)
  sent_at_grows commands (creates at s) h = behind_grows at (SendsCreation b at (count_at false s.stage)) commands h
  sent_at_grows commands (lists at s) h = (creation_grows past past' grows b at h.0, behind_grows at (AsksForList b at (count_at true s.stage)) commands h.1, only_grows (listing b at) (count_at true s.stage) h.2)
  sent_at_grows commands (reads at cursor found count) h = (creation_grows past past' grows b at h.0, part_grows at (SendsList past b at) (SendsList past' b at) (list_grows at) commands h.1)
  sent_at_grows commands (indexes at s) h = (creation_grows past past' grows b at h.0, indexes_grow at false h.1, part_grows at (SendsIndex past b at (count_at false s.stage)) (SendsIndex past' b at (count_at false s.stage)) (ends_grow at (count_at false s.stage)) commands h.2)

  -- ---- what a step heard

  any_grows : (bytes : List ℕ) (r : CheckTurned) (h : HearsAny b bytes r) → AnyHeard past b h → AnyHeard past' b h
  any_grows bytes r (check.some said read there is) heard = some_grows past past' grows b heard
  any_grows bytes r (check.none said read empty builds) heard = none_grows past past' grows b heard
  any_grows bytes r (check.broke e fails is) heard = tt

  find_grows : (c : Step Sending (List ℕ)) (r : CheckTurned) (h : HearsFind b c r) → FindHeard past b c r h → FindHeard past' b c r h
  find_grows (came.Pending s) r h heard = tt
  find_grows (came.Done bytes) r h heard = any_grows bytes r h heard
  find_grows (came.Failed e) r h heard = tt

  created_grows : (at : Place) (c : Step Sending (List ℕ)) (r : CheckTurned) (h : Creates b at c r) → CreatedHeard past b at h → CreatedHeard past' b at h
  created_grows at c r (check.created bytes is none builds) heard = creation_grows past past' grows b at heard
  created_grows at c r (check.there e is code builds) heard = creation_grows past past' grows b at heard
  created_grows at c r (check.unread bytes e is fails answer) heard = tt
  created_grows at c r (check.other e is code answer) heard = tt

  asked_grows : (at : Place) (c : Step Sending (List ℕ)) (r : CheckTurned) (h : HearsCreation b at c r) → CreationHeard past b at c r h → CreationHeard past' b at c r h
  asked_grows at (came.Pending s) r h heard = tt
  asked_grows at (came.Done bytes) r h heard = created_grows at (came.Done bytes) r h heard
  asked_grows at (came.Failed e) r h heard = created_grows at (came.Failed e) r h heard

  end_grows : (at : Place) (found : Bool) → EndHeard past b at found → EndHeard past' b at found
  end_grows at true heard = all_grows at true heard
  end_grows at false heard = indexes_grow at false heard

  advance_grows : (at : Place) (found : Bool) (poll : AdvancePoll) → AdvanceHeard past b at found poll → AdvanceHeard past' b at found poll
  advance_grows at found advance.Pending heard = tt
  advance_grows at found (advance.Ready true) heard = tt
  advance_grows at found (advance.Ready false) heard = end_grows at found heard
  advance_grows at found (advance.Failed e) heard = tt

  indexed_grows : (at : Place) (bytes : List ℕ) (r : CheckTurned) (h : HearsIndexed b at bytes r) → IndexedHeard past b at h → IndexedHeard past' b at h
  indexed_grows at bytes r (check.done none behind) heard = all_grows at false heard
  indexed_grows at bytes r (check.unread e fails is) heard = tt

  made_grows : (at : Place) (c : Step Sending (List ℕ)) (r : CheckTurned) (h : HearsIndex b at c r) → IndexHeard past b at c r h → IndexHeard past' b at c r h
  made_grows at (came.Pending s) r h heard = tt
  made_grows at (came.Done bytes) r h heard = indexed_grows at bytes r h heard
  made_grows at (came.Failed e) r h heard = tt

  pub step_grows : (old new : Awaited) (log log' : LogTold) (wire : ℤ) (c : ClientCheck) (r : CheckTurned) (o : ChecksOn old new log log' wire b c r) → StepHeard past b r o → StepHeard past' b r o
  step_grows old new log log' wire c r (by_find s is x runs hears) heard = (find_grows x r hears heard.0, only_grows (any_find b) (ran_count true old new log log' wire s x runs) heard.1)
  step_grows old new log log' wire c r (by_creation k s is x runs hears) heard = asked_grows k x r hears heard
  step_grows old new log log' wire c r (by_listing k s is x runs hears) heard = only_grows (listing b k) (ran_count true old new log log' wire s x runs) heard
  step_grows old new log log' wire c r (by_advance k cursor found count is empties starts left poll seeks hears) heard = (advance_grows k found poll heard.0, told_as (IsGetMore past b k) (IsGetMore past' b k) (more_grows k) log log' heard.1)
  step_grows old new log log' wire c r (by_index k s is x runs hears) heard = made_grows k x r hears heard
