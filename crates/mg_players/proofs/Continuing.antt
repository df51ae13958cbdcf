-- What a follow's stream is doing depends on its own ticket alone; and it is the same stream, whatever is on its way.
use Rattle.std.proofs.Common.{◌≡◌, ℕ, ℤ, List, [], ◌∷◌, map, Option, Some, None, refl, sym, ap}
use Rattle.mg_bson.specs.Raw.{fields}
use Rattle.mg_bson.specs.Tree.{Tree, Fields}
use Rattle.mg_link.specs.Exec.{Sending, Stage, first, second, ticket_at, unsent}
use Rattle.mg_server.specs.Follow.{Follow, IsOpen, asking, resting, resuming, starting}
use Rattle.mg_link.specs.Link.{Awaited}
use Rattle.mg_server.specs.State.{Start, Watch}
use Rattle.mg_server.specs.Moves.{at_stage}
use Rattle.mg_cursor.specs.Client.{ClientCursor, asks, holds, rests}
use Rattle.mg_cursor.specs.Client as cursors
use Rattle.mg_cursor.specs.Closing.{closing_ticket_by}
use Rattle.mg_change.specs.ClientOpenings.{ClientOpening, opening_ticket, sending_ticket}
use Rattle.mg_change.specs.ClientStreams.{ClientStream, Doing, follows, kills, owes, renewed, resumes, stream_ticket, stream_token, ticket_by}
use Rattle.mg_change.specs.ClosingStreams.{ClosingStream, Landing, ends, landing_ticket, lands, lands_aggregate, lands_replaced, stream_closing_ticket}
use Rattle.mg_change.specs.Following.{closing_by, event_fields, follow_by, follow_closing, follow_of, held_by, idle_by, in_hand, left_as, not_open, older_by, opening_by, opening_in, unread, with_landing, with_more}

-- ---- its own ticket

same_at_stage : (old new : Awaited) (idle : Follow) (waiting : Option ℕ → Follow) (s : Stage) → ((m : ℕ) → ticket_at s ≡ Some m → new m ≡ old m) → at_stage idle waiting old s ≡ at_stage idle waiting new s
same_at_stage old new idle waiting unsent same = refl
same_at_stage old new idle waiting (first ticket) same = ap waiting (sym (same ticket refl))
same_at_stage old new idle waiting (second ticket) same = ap waiting (sym (same ticket refl))

same_more : (old new : Awaited) (d : cursors.Doing) (events : List Fields) (upto : Option Tree) (f : Follow) → ((m : ℕ) → cursors.ticket_by d ≡ Some m → new m ≡ old m) → with_more old d events upto f ≡ with_more new d events upto f
same_more old new rests events upto f same = refl
same_more old new (holds reply) events upto f same = refl
same_more old new (asks sending) events upto f same = same_at_stage old new (record f { doing = resting }) (λ place. record f { doing = asking place }) sending.stage same

-- a killCursors that was not built yet waits for nothing
same_older : (old new : Awaited) (c : ClientCursor) (o : Option Sending) (f : Follow) → ((m : ℕ) → closing_ticket_by c o ≡ Some m → new m ≡ old m) → older_by old c o f ≡ older_by new c o f
same_older old new c None f same = refl
same_older old new c (Some sending) f same = same_at_stage old new (record f { old = c.id }) (λ place. f) sending.stage same

same_by : (old new : Awaited) (d : Doing) (c : ClientCursor) (events : List Fields) (f : Follow) → ((m : ℕ) → ticket_by c d ≡ Some m → new m ≡ old m) → follow_by old d c events f ≡ follow_by new d c events f
same_by old new follows c events f same = same_more old new c.doing events c.token f same
same_by old new owes c events f same = refl
same_by old new (resumes sending) c events f same = same_at_stage old new f (λ place. record f { doing = resuming place }) sending.stage same
same_by old new (kills before) c events f same = same_older old new before.cursor before.killing (unread c.doing c.token f) same
same_by old new renewed c events f same = refl

pub same_stream : (old new : Awaited) (w : Watch) (start : Start) (s : ClientStream) (opened : Option ℕ) (answered : List Fields) → ((m : ℕ) → stream_ticket s ≡ Some m → new m ≡ old m) → follow_of old w start s opened answered ≡ follow_of new w start s opened answered
same_stream old new w start s opened answered same = same_by old new s.doing s.cursor (map fields s.behind) (idle_by w start opened s.cursor.id (stream_token s) answered) same

same_sending : (old new : Awaited) (o : Option Sending) (w : Watch) (start : Start) → ((m : ℕ) → sending_ticket o ≡ Some m → new m ≡ old m) → opening_by old o w start ≡ opening_by new o w start
same_sending old new None w start same = refl
same_sending old new (Some sending) w start same = same_at_stage old new (not_open w start) (λ place. record (not_open w start) { doing = starting place }) sending.stage same

pub same_opening : (old new : Awaited) (w : Watch) (start : Start) (o : ClientOpening) → ((m : ℕ) → opening_ticket o ≡ Some m → new m ≡ old m) → opening_in old w start o ≡ opening_in new w start o
same_opening old new w start o same = same_sending old new o.sending w start same

same_landing : (old new : Awaited) (d : cursors.Doing) (f : Follow) → ((m : ℕ) → cursors.ticket_by d ≡ Some m → new m ≡ old m) → with_landing old d f ≡ with_landing new d f
same_landing old new rests f same = refl
same_landing old new (holds reply) f same = refl
same_landing old new (asks sending) f same = same_at_stage old new (record f { doing = resting }) (λ place. record f { doing = asking place }) sending.stage same

same_closing_by : (old new : Awaited) (d : Landing) (c : ClientCursor) (f : Follow) → ((m : ℕ) → landing_ticket c d ≡ Some m → new m ≡ old m) → closing_by old d c f ≡ closing_by new d c f
same_closing_by old new lands c f same = same_landing old new c.doing f same
same_closing_by old new (lands_aggregate sending) c f same = same_at_stage old new f (λ place. record f { doing = resuming place }) sending.stage same
same_closing_by old new (lands_replaced before) c f same = same_older old new before.cursor before.killing f same
same_closing_by old new (ends sending) c f same = refl

pub same_closing : (old new : Awaited) (w : Watch) (start : Start) (token : Option Tree) (k : ClosingStream) (opened : Option ℕ) (answered : List Fields) → ((m : ℕ) → stream_closing_ticket k ≡ Some m → new m ≡ old m) → follow_closing old w start token k opened answered ≡ follow_closing new w start token k opened answered
same_closing old new w start token k opened answered same = same_closing_by old new k.doing k.cursor (left_as w start opened token answered k.cursor.id k.opened) same

-- a token that is handed over changes nothing of what is on its way
pub same_without : (awaited : Awaited) (left : Option Tree) (d : Landing) (c : ClientCursor) (f : Follow) → closing_by awaited d c f ≡ closing_by awaited d (record c { token = left }) f
same_without awaited left lands c f = refl
same_without awaited left (lands_aggregate sending) c f = refl
same_without awaited left (lands_replaced before) c f = refl
same_without awaited left (ends sending) c f = refl

-- ---- what stays the same, whatever is on its way

-- it is open, and is the same stream with the same answers and token
pub record Continues (f g : Follow) : Type 0 where
  pub watch : g.watch ≡ f.watch
  pub start : g.start ≡ f.start
  pub opened : g.opened ≡ f.opened
  pub token : g.token ≡ f.token
  pub answered : g.answered ≡ f.answered
  pub is_open : IsOpen g.doing

continues_stage : (f idle : Follow) (waiting : Option ℕ → Follow) (awaited : Awaited) (s : Stage) → Continues f idle → ((place : Option ℕ) → Continues f (waiting place)) → Continues f (at_stage idle waiting awaited s)
continues_stage f idle waiting awaited unsent same waits = same
continues_stage f idle waiting awaited (first ticket) same waits = waits (awaited ticket)
continues_stage f idle waiting awaited (second ticket) same waits = waits (awaited ticket)

continues_itself : (f : Follow) → IsOpen f.doing → Continues f f
continues_itself f is_open = record { watch = refl; start = refl; opened = refl; token = refl; answered = refl; is_open = is_open }

continues_held : (f : Follow) (events : List Fields) (upto : Option Tree) → Continues f (held_by events upto f)
continues_held f events upto = record { watch = refl; start = refl; opened = refl; token = refl; answered = refl; is_open = tt }

continues_hand : (f : Follow) (events : List Fields) (upto : Option Tree) → Continues f (in_hand events upto f)
continues_hand f [] upto = record { watch = refl; start = refl; opened = refl; token = refl; answered = refl; is_open = tt }
continues_hand f (e ∷ es) upto = continues_held f (e ∷ es) upto

continues_asking : (awaited : Awaited) (sending : Sending) (f : Follow) → Continues f (at_stage (record f { doing = resting }) (λ place. record f { doing = asking place }) awaited sending.stage)
continues_asking awaited sending f =
    continues_stage f (record f { doing = resting }) (λ place. record f { doing = asking place }) awaited sending.stage
    (record { watch = refl; start = refl; opened = refl; token = refl; answered = refl; is_open = tt })
    (λ place. record { watch = refl; start = refl; opened = refl; token = refl; answered = refl; is_open = tt })

continues_resuming : (awaited : Awaited) (sending : Sending) (f : Follow) → IsOpen f.doing → Continues f (at_stage f (λ place. record f { doing = resuming place }) awaited sending.stage)
continues_resuming awaited sending f is_open =
    continues_stage f f (λ place. record f { doing = resuming place }) awaited sending.stage (continues_itself f is_open)
    (λ place. record { watch = refl; start = refl; opened = refl; token = refl; answered = refl; is_open = tt })

continues_more : (awaited : Awaited) (d : cursors.Doing) (events : List Fields) (upto : Option Tree) (f : Follow) → Continues f (with_more awaited d events upto f)
continues_more awaited rests events upto f = continues_hand f events upto
continues_more awaited (holds reply) events upto f = continues_held f (event_fields reply) upto
continues_more awaited (asks sending) events upto f = continues_asking awaited sending f

continues_unread : (d : cursors.Doing) (upto : Option Tree) (f : Follow) → IsOpen f.doing → Continues f (unread d upto f)
continues_unread rests upto f is_open = continues_itself f is_open
continues_unread (holds reply) upto f is_open = continues_held f (event_fields reply) upto
continues_unread (asks sending) upto f is_open = continues_itself f is_open

older_aside : (f g : Follow) (id : ℤ) → Continues f g → Continues f (record g { old = id })
older_aside f g id same = record { watch = same.watch; start = same.start; opened = same.opened; token = same.token; answered = same.answered; is_open = same.is_open }

continues_older : (awaited : Awaited) (c : ClientCursor) (o : Option Sending) (f g : Follow) → Continues f g → Continues f (older_by awaited c o g)
continues_older awaited c None f g same = older_aside f g c.id same
continues_older awaited c (Some sending) f g same = continues_stage f (record g { old = c.id }) (λ place. g) awaited sending.stage (older_aside f g c.id same) (λ place. same)

continues_by : (awaited : Awaited) (d : Doing) (c : ClientCursor) (events : List Fields) (f : Follow) → IsOpen f.doing → Continues f (follow_by awaited d c events f)
continues_by awaited follows c events f is_open = continues_more awaited c.doing events c.token f
continues_by awaited owes c events f is_open = continues_itself f is_open
continues_by awaited (resumes sending) c events f is_open = continues_resuming awaited sending f is_open
continues_by awaited (kills before) c events f is_open = continues_older awaited before.cursor before.killing f (unread c.doing c.token f) (continues_unread c.doing c.token f is_open)
continues_by awaited renewed c events f is_open = continues_unread c.doing c.token f is_open

-- An open stream is that of its parts.
pub continues_stream : (awaited : Awaited) (w : Watch) (start : Start) (s : ClientStream) (opened : Option ℕ) (answered : List Fields) → Continues (idle_by w start opened s.cursor.id (stream_token s) answered) (follow_of awaited w start s opened answered)
continues_stream awaited w start s opened answered = continues_by awaited s.doing s.cursor (map fields s.behind) (idle_by w start opened s.cursor.id (stream_token s) answered) tt

continues_landing : (awaited : Awaited) (d : cursors.Doing) (f : Follow) → IsOpen f.doing → Continues f (with_landing awaited d f)
continues_landing awaited rests f is_open = continues_itself f is_open
continues_landing awaited (holds reply) f is_open = continues_itself f is_open
continues_landing awaited (asks sending) f is_open = continues_asking awaited sending f

continues_closing_by : (awaited : Awaited) (d : Landing) (c : ClientCursor) (f : Follow) → IsOpen f.doing → Continues f (closing_by awaited d c f)
continues_closing_by awaited lands c f is_open = continues_landing awaited c.doing f is_open
continues_closing_by awaited (lands_aggregate sending) c f is_open = continues_resuming awaited sending f is_open
continues_closing_by awaited (lands_replaced before) c f is_open = continues_older awaited before.cursor before.killing f f (continues_itself f is_open)
continues_closing_by awaited (ends sending) c f is_open = continues_itself f is_open

-- So is one that is being closed.
pub continues_closing : (awaited : Awaited) (w : Watch) (start : Start) (token : Option Tree) (k : ClosingStream) (opened : Option ℕ) (answered : List Fields) → Continues (left_as w start opened token answered k.cursor.id k.opened) (follow_closing awaited w start token k opened answered)
continues_closing awaited w start token k opened answered = continues_closing_by awaited k.doing k.cursor (left_as w start opened token answered k.cursor.id k.opened) tt
