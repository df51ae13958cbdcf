-- What an upload knows of its cursors goes on to hold while others call.
use Rattle.std.proofs.Common.{◌≡◌, ◌<◌, ℕ, suc, ℤ, List, ◌++◌, length, take, Option, refl, sym, ap, ◌∙◌, inl}
use Rattle.mg_server.specs.Commands.{Told, asked, deleted, done, garbled, gave, inserted, killed, opened, refuses, updated}
use Rattle.mg_link.specs.Exec.{Stage, first, second, unsent}
use Rattle.mg_server.specs.History.{Step, state_of, told_at}
use Rattle.mg_link.specs.Link.{Awaited}
use Rattle.mg_link.specs.Log.{Call}
use Rattle.mg_server.specs.Owner.{Onward, by_reply}
use Rattle.mg_server.specs.Query.{Query, result}
use Rattle.mg_server.specs.Reader.{AfterFind, FindingAt, KnowsFinding, finder, finder_at}
use Rattle.mg_server.specs.Standing.{OpensId}
use Rattle.mg_server.proofs.Apart.{holds_kept}
use Rattle.mg_server.proofs.Follows.{came_back, still_of}
use Rattle.mg_server.proofs.Owners.{same_some}
use Rattle.mg_link.proofs.Places.{get_within}
use Rattle.mg_server.proofs.Readers.{fixed_kept, holds_later, reader_kept}
use Rattle.mg_cursor.specs.Documents.{DocumentCursor}
use Rattle.mg_cursor.specs.Reading.{reader_of}
use Rattle.mg_gridfs.specs.Buckets.{ClientBucket}
use Rattle.mg_gridfs.specs.Checks.{ClientCheck, creates, finds, indexes, lists, reads}
use Rattle.mg_gridfs.specs.Cursors.{CursorsBegin, CursorsGoOn, KnowsAt, KnowsCheck, KnowsFlight, KnowsIn, KnowsList, check_owner, flight_owner, indexes_query, owner_by, phase_owner}
use Rattle.mg_gridfs.specs.Downloaded.{cursor_owner}
use Rattle.mg_gridfs.specs.Indexes.{space_in}
use Rattle.mg_gridfs.specs.Uploads.{Doing, Flight, Phase, begins, busy, by_check, by_command, checks, closed, ends, fills, idle, inserts, lands, lasts, records, removes, rests, undoes}
use Rattle.mg_gridfs.proofs.Passed.{doing_owner_same, doing_same}

-- ---- a query on its way

-- what the reply tells holds in a longer history
find_later : (before history tail : List Step) (q : Query) (position : ℕ) (said : Told) → history ≡ before ++ tail → position < length before → ((x : ℤ) → OpensId said x → (state_of history).cursors x ≡ (state_of before).cursors x) → AfterFind before q position said → AfterFind history q position said
find_later before history tail q position (opened id space documents token time) whole lt same h =
    record {
      left = h.left;
      fixed = ap (λ (x : List Step). result (state_of (take (suc position) x)) q) whole ∙ fixed_kept before tail position q lt ∙ h.fixed;
      holds = holds_later (state_of before) (state_of history) id h.left (λ ne. same id (refl, ne)) h.holds;
      ends = h.ends;
    }
find_later before history tail q position (refuses code labels) whole lt same h = tt
find_later before history tail q position (inserted n failures) whole lt same h = absurd h
find_later before history tail q position (updated n changed failures) whole lt same h = absurd h
find_later before history tail q position (deleted n failures) whole lt same h = absurd h
find_later before history tail q position done whole lt same h = absurd h
find_later before history tail q position (gave id space documents token) whole lt same h = absurd h
find_later before history tail q position killed whole lt same h = absurd h
find_later before history tail q position garbled whole lt same h = absurd h

pub finding_kept : (calls calls' : List Call) (q : Query) (place : Option ℕ) → Onward calls calls' (finder place) → KnowsFinding calls q place → KnowsFinding calls' q place
finding_kept calls calls' q place onward k =
    record {
      owned = holds_kept calls calls' (finder place) onward k.owned;
      queries = λ n call at found.
          let c = k.owned.in_log n (inl at) in
          let g = onward.grown.keeps n c.0 c.1 in
          let same : call ≡ g.0 = same_some call g.0 (sym found ∙ g.1) in
          ap (λ (x : Call). asked x.command) same ∙ ap asked g.2 ∙ k.queries n c.0 at c.1;
      coming = λ history legal stands position step came.
          let e = onward.earlier history legal stands in
          let there = came_back calls (finder place) history e calls' place position step onward.grown (λ n at. k.owned.in_log n (inl at)) came in
          let lt : position < length e.before = get_within e.before position step there.2.there in
          find_later e.before history e.tail q position (told_at step) e.whole lt
          (λ x opens. still_of calls (finder place) history e x (by_reply there.0 position step (inl there.1) there.2 opens) (record { at = there.0; position = position; step = step; took = there.2; opens = opens }))
          (k.coming e.before e.legal e.stands position step there);
    }

module _ (awaited : Awaited) (calls calls' : List Call) (b : ClientBucket) where
  finding_later : (q : Query) (stage : Stage) → Onward calls calls' (finder_at awaited stage) → FindingAt awaited calls q stage → FindingAt awaited calls' q stage
  finding_later q unsent onward k = tt
  finding_later q (first ticket) onward k = finding_kept calls calls' q (awaited ticket) onward k
  finding_later q (second ticket) onward k = finding_kept calls calls' q (awaited ticket) onward k

  list_later : (d : DocumentCursor) → Onward calls calls' (cursor_owner awaited d.cursor) → KnowsList awaited calls d → KnowsList awaited calls' d
  list_later d onward k = (k.0, k.1, reader_kept calls calls' (reader_of awaited d k.1) onward k.2)

  check_later : (c : ClientCheck) → Onward calls calls' (check_owner awaited c) → KnowsCheck awaited calls b c → KnowsCheck awaited calls' b c
  check_later (finds s) onward k = tt
  check_later (creates at s) onward k = tt
  check_later (lists at s) onward k = finding_later (indexes_query (space_in b at)) s.stage onward k
  check_later (reads at d found count) onward k = list_later d onward k
  check_later (indexes at s) onward k = tt

  flight_later : (flight : Flight) → Onward calls calls' (flight_owner awaited flight) → KnowsFlight awaited calls b flight → KnowsFlight awaited calls' b flight
  flight_later (by_check c) onward k = check_later c onward k
  flight_later (by_command s) onward k = tt

  phase_later : (p : Phase) → Onward calls calls' (phase_owner awaited p) → KnowsAt awaited calls b p → KnowsAt awaited calls' b p
  phase_later begins onward k = tt
  phase_later (checks c) onward k = check_later c onward k
  phase_later fills onward k = tt
  phase_later (inserts s count) onward k = tt
  phase_later (rests moment) onward k = tt
  phase_later (lasts s ending) onward k = tt
  phase_later (ends ending) onward k = tt
  phase_later (records s ending) onward k = tt
  phase_later (lands flight error) onward k = flight_later flight onward k
  phase_later (undoes error) onward k = tt
  phase_later (removes s error) onward k = tt

  doing_later : (d : Doing) → Onward calls calls' (owner_by awaited d) → KnowsIn awaited calls b d → KnowsIn awaited calls' b d
  doing_later idle onward k = tt
  doing_later (busy call p) onward k = phase_later p onward k
  doing_later closed onward k = tt

-- ---- the laws

pub cursors_begin : CursorsBegin
cursors_begin awaited calls aim files chunks = record { files = files; chunks = chunks; by = tt }

pub cursors_go_on : CursorsGoOn
cursors_go_on old new calls calls' u onward same k =
    (record { files = k.files; chunks = k.chunks; by = doing_same old new calls' u.aim.bucket u.doing same (doing_later old calls calls' u.aim.bucket u.doing onward k.by) }, doing_owner_same old new u.doing same)
