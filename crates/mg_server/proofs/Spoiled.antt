-- The moves of a stream at replies that no server may give, and where it lets go of its cursor.
use Rattle.std.proofs.Common.{◌≡◌, ◌≢◌, ℕ, ℤ, pos, List, [], ◌∷◌, Option, Some, refl, sym, ◌∙◌, subst, inl, inr}
use Rattle.mg_server.specs.State.{Start}
use Rattle.mg_link.specs.Namespace.{Space}
use Rattle.mg_server.specs.Commands.{asks_watch, asks_more, Told, garbled, Batch, told}
use Rattle.mg_server.specs.History.{Step, IsLegal, state_of}
use Rattle.mg_link.specs.Log.{reply, Call, see}
use Rattle.mg_link.specs.Link as link
use Rattle.mg_link.specs.Link.{Sees}
use Rattle.mg_server.specs.Standing.{Stands}
use Rattle.mg_server.specs.Owner.{IsOf}
use Rattle.mg_server.specs.Follow.{holding, asking, owing, resuming, Follow, AfterOpen, AfterMore, Facts, KnowsOpen, Moved}
use Rattle.mg_server.proofs.Heard.{HeardStep, heard_at, told_heard}
use Rattle.mg_server.proofs.Moving.{known_as, hand_as, same_opened, moved_seen, moved_here, open_seen}
use Rattle.mg_server.specs.Moves.{given_with, resumed_with}
use Rattle.mg_server.proofs.Moves.{facts_in}

-- no legal history has the step
more_never : (calls : List Call) (k : ℕ) (call : Call) (f : Follow) (place : Option ℕ) (bytes : List ℕ) → f.doing ≡ asking place → place ≡ Some k → ((space : Space) → told (asks_more f.cursor space) bytes ≡ garbled) → (history : List Step) (position : ℕ) → Facts calls history f position → HeardStep calls history k bytes call → ⊥
more_never calls k call f place bytes is at spoiled history position facts h =
    let a = hand_as calls history f position (asking place) is facts h.position h.step (k, at, h.took) in
    subst (λ (t : Told). AfterMore (state_of history) f.watch f.cursor facts.place t) (told_heard h.step bytes (asks_more f.cursor a.space) a.asks h.fits ∙ spoiled a.space) a.tells

resume_never : (calls : List Call) (k : ℕ) (call : Call) (f : Follow) (place : Option ℕ) (bytes : List ℕ) → f.doing ≡ resuming place → place ≡ Some k → ((start : Start) → told (asks_watch f.watch start) bytes ≡ garbled) → (history : List Step) (position : ℕ) → Facts calls history f position → HeardStep calls history k bytes call → ⊥
resume_never calls k call f place bytes is at spoiled history position facts h =
    let a = hand_as calls history f position (resuming place) is facts h.position h.step (k, at, h.took) in
    subst (λ (t : Told). AfterOpen (state_of history) f.watch facts.place t) (told_heard h.step bytes (asks_watch f.watch a.start) a.asks h.fits ∙ spoiled a.start) a.tells

-- The reply to a getMore is none that a server may give: whatever is kept of it, in no legal history does the log stand.
pub more_garbled : (log log' : link.LogTold) (f : Follow) (place : Option ℕ) (bytes : List ℕ) (batch : Batch) → f.doing ≡ asking place → ((space : Space) → told (asks_more f.cursor space) bytes ≡ garbled) → Sees log log' place (reply bytes) → Moved log log' f (given_with f batch)
more_garbled log log' f place bytes batch is spoiled sees calls told_log =
    let s = sees calls told_log in
    let never = λ (kn : KnowsOpen calls f) (history : List Step) (legal : IsLegal history) (stands : Stands calls history) (stands' : Stands (see s.0 (reply bytes) calls) history).
    let facts = facts_in calls f kn history legal stands in
    more_never calls s.0 s.1 f place bytes is s.2 spoiled history facts.0 facts.1 (heard_at s.0 bytes calls s.1 history s.3 stands') in (
      see s.0 (reply bytes) calls,
      s.5,
      moved_seen s.0 (reply bytes) calls s.1 f (given_with f batch) s.3 s.4 refl
          (λ k history legal stands stands' x owns. absurd (never (known_as calls f (asking place) is k) history legal stands stands'))
          (λ k history legal stands stands' x of ne. absurd (never (known_as calls f (asking place) is k) history legal stands stands'))
          (λ k. open_seen s.0 (reply bytes) calls s.1 f holding batch.id (pos 0) batch.events batch.token s.3 s.4
          (λ history legal stands stands' position facts. absurd (more_never calls s.0 s.1 f place bytes is s.2 spoiled history position facts (heard_at s.0 bytes calls s.1 history s.3 stands')))
          (known_as calls f (asking place) is k)),
    )

-- The same of the aggregate of a resumption.
pub resume_garbled : (log log' : link.LogTold) (f : Follow) (place : Option ℕ) (bytes : List ℕ) (batch : Batch) → f.doing ≡ resuming place → ((start : Start) → told (asks_watch f.watch start) bytes ≡ garbled) → Sees log log' place (reply bytes) → Moved log log' f (resumed_with f batch)
resume_garbled log log' f place bytes batch is spoiled sees calls told_log =
    let s = sees calls told_log in
    let never = λ (kn : KnowsOpen calls f) (history : List Step) (legal : IsLegal history) (stands : Stands calls history) (stands' : Stands (see s.0 (reply bytes) calls) history).
    let facts = facts_in calls f kn history legal stands in
    resume_never calls s.0 s.1 f place bytes is s.2 spoiled history facts.0 facts.1 (heard_at s.0 bytes calls s.1 history s.3 stands') in (
      see s.0 (reply bytes) calls,
      s.5,
      moved_seen s.0 (reply bytes) calls s.1 f (resumed_with f batch) s.3 s.4 refl
          (λ k history legal stands stands' x owns. absurd (never (known_as calls f (resuming place) is k) history legal stands stands'))
          (λ k history legal stands stands' x of ne. absurd (never (known_as calls f (resuming place) is k) history legal stands stands'))
          (λ k. open_seen s.0 (reply bytes) calls s.1 f holding batch.id f.cursor batch.events batch.token s.3 s.4
          (λ history legal stands stands' position facts. absurd (resume_never calls s.0 s.1 f place bytes is s.2 spoiled history position facts (heard_at s.0 bytes calls s.1 history s.3 stands')))
          (known_as calls f (resuming place) is k)),
    )

-- The server holds the cursor no more: a stream that owes a resumption lets go of it.
pub cursor_dropped : (log log' : link.LogTold) (f : Follow) → f.doing ≡ owing → log' ≡ log → Moved log log' f (record f { doing = owing; cursor = pos 0; old = pos 0 })
cursor_dropped log log' f is same calls told_log = (
  calls,
  same ∙ told_log,
  moved_here calls f (record f { doing = owing; cursor = pos 0; old = pos 0 }) refl (λ x of ne. absurd (none_left x of ne)) (λ k.
      let kn = known_as calls f owing is k in
      record {
        opened = same_opened calls f (record f { doing = owing; cursor = pos 0; old = pos 0 }) refl refl refl kn.opened;
        facts = λ history legal stands position placed.
            let facts = kn.facts history legal stands position placed in
            record { from = facts.from; begins = facts.begins; place = facts.place; reached = facts.reached; hand = tt };
      }),
)
  where
    none_left : (x : ℤ) → IsOf (pos 0 ∷ pos 0 ∷ []) x → x ≢ pos 0 → ⊥
    none_left x (inl e) ne = ne (sym e)
    none_left x (inr (inl e)) ne = ne (sym e)
    none_left x (inr (inr none)) ne = none
