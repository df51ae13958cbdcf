-- What a stream answered, event by event, and what it comes to.
use Rattle.std.proofs.Common.{◌≡◌, ℕ, List, [], ◌∷◌, ◌++◌, Option, Some, None, Ok, refl, sym, ap, ◌∙◌, subst, append-nil, append_assoc}
use Rattle.mg_bson.specs.Tree.{Fields}
use Rattle.mg_bson.specs.Raw.{fields}
use Rattle.mg_server.specs.Follow.{Moved}
use Rattle.mg_link.specs.Link.{Awaited, LogTold}
use Rattle.mg_server.proofs.Answering.{follows_on, knows_new}
use Rattle.mg_server.proofs.Moves.{moved, stayed}
use Rattle.mg_ops.specs.declared.change_stream.WatchArgs.{WatchArgs}
use Rattle.mg_change.specs.ClientStreams.{Asks, ClientStream, IsBetween, stream_token}
use Rattle.mg_change.specs.Following.{follow_of, idle_by, not_open}
use Rattle.mg_change.proofs.Resting.{between_forgets}
use Rattle.example_follower.specs.Follower.{Answers, Opens, Reports, ReportsAll, lines_of, line_of, popped_told}

-- nothing was polled, and nothing answered
pub answers_none : (awaited : Awaited) (log : LogTold) (s : ClientStream) → Answers awaited awaited log log s s []
answers_none awaited log s =
    record {
      args = refl;
      moved = λ w start asks opened answered.
          let f = follow_of awaited w start s opened answered in
          subst (λ (l : List Fields). Moved log log f (follow_of awaited w start s opened l)) (sym (append-nil answered)) (stayed log log f refl);
    }

-- answers behind answers
pub answers_on : (old mid new : Awaited) (log between log' : LogTold) (s t s' : ClientStream) (told more : List Fields) → Answers old mid log between s t told → Answers mid new between log' t s' more → Answers old new log log' s s' (told ++ more)
answers_on old mid new log between log' s t s' told more a b =
    record {
      args = b.args ∙ a.args;
      moved = λ w start asks opened answered.
          let f = follow_of old w start s opened answered in
          let second = b.moved w start (subst (λ (x : WatchArgs). Asks x w start) (sym a.args) asks) opened (answered ++ told) in
          moved log between log' f (follow_of mid w start t opened (answered ++ told)) (follow_of new w start s' opened (answered ++ (told ++ more)))
          (a.moved w start asks opened answered)
          (subst (λ (l : List Fields). Moved between log' (follow_of mid w start t opened (answered ++ told)) (follow_of new w start s' opened l)) (append_assoc answered told more) second);
    }

lines_join : (es fs : List Fields) → lines_of (es ++ fs) ≡ lines_of es ++ lines_of fs
lines_join [] fs = refl
lines_join (e ∷ es) fs = ap (λ (l : List ℕ). line_of e ++ l) (lines_join es fs) ∙ sym (append_assoc (line_of e) (lines_of es) (lines_of fs))

-- ---- the report, event by event

pub reports_none : (awaited : Awaited) (log : LogTold) (s : ClientStream) (report : List ℕ) → Reports awaited awaited log log s s report report
reports_none awaited log s report = record { events = []; answered = answers_none awaited log s; lines = sym (append-nil report) }

-- an event was answered, and its line added
pub reports_one : (old mid new : Awaited) (log between log' : LogTold) (s t s' : ClientStream) (report here report' : List ℕ) (given : Option (List ℕ)) (event : List ℕ)
    → Reports old mid log between s t report here → Answers mid new between log' t s' (popped_told (Ok given)) → given ≡ Some event → report' ≡ here ++ line_of (fields event) → Reports old new log log' s s' report report'
reports_one old mid new log between log' s t s' report here report' given event r turned is added =
    let line : List ℕ = line_of (fields event) in
    record {
      events = r.events ++ fields event ∷ [];
      answered =
          answers_on old mid new log between log' s t s' r.events (fields event ∷ []) r.answered
          (subst (λ (o : Option (List ℕ)). Answers mid new between log' t s' (popped_told (Ok o))) is turned);
      lines =
          added ∙ ap (λ (l : List ℕ). l ++ line) r.lines ∙ append_assoc report (lines_of r.events) line
          ∙ ap (λ (l : List ℕ). report ++ l) (ap (λ (l : List ℕ). lines_of r.events ++ l) (sym (append-nil line)) ∙ sym (lines_join r.events (fields event ∷ [])));
    }

-- nothing more was there
pub reports_end : (old mid new : Awaited) (log between log' : LogTold) (s t s' : ClientStream) (report here : List ℕ) (given : Option (List ℕ))
    → Reports old mid log between s t report here → Answers mid new between log' t s' (popped_told (Ok given)) → given ≡ None → Reports old new log log' s s' report here
reports_end old mid new log between log' s t s' report here given r turned is =
    record {
      events = r.events;
      answered =
          subst (λ (l : List Fields). Answers old new log log' s s' l) (append-nil r.events)
          (answers_on old mid new log between log' s t s' r.events [] r.answered (subst (λ (o : Option (List ℕ)). Answers mid new between log' t s' (popped_told (Ok o))) is turned));
      lines = r.lines;
    }

-- ---- what this comes to

pub follows_all : (old new : Awaited) (log between log' : LogTold) (args : WatchArgs) (s s' : ClientStream) (report report' : List ℕ)
    → Opens old log between args s → IsBetween s' → Reports old new between log' s s' report report' → ReportsAll log log' args s' report report'
follows_all old new log between log' args s s' report report' opens rests r =
    record {
      events = r.events;
      lines = r.lines;
      followed = λ w start asks calls told.
          let o = opens.moved w start asks in
          let f = not_open w start in
          let g = follow_of old w start s o.0 [] in
          let h = follow_of new w start s' o.0 r.events in
          let all = moved log log' log' f h (idle_by w start o.0 s'.cursor.id (stream_token s') r.events)
          (moved log between log' f g h o.1 (r.answered.moved w start (subst (λ (a : WatchArgs). Asks a w start) (sym opens.args_are) asks) o.0 []))
          (between_forgets log' new w start s' o.0 r.events rests) in
          let m = all calls told in
          (m.0, m.1, o.0, follows_on m.0 (idle_by w start o.0 s'.cursor.id (stream_token s') r.events) tt (m.2.knows (knows_new calls f refl (record { none_answered = refl; no_cursor = refl; no_old = refl }))));
    }
