-- Which cursors the commands of a job opened, and that its calls kill no others.
use Rattle.std.proofs.Common.{◌≡◌, ◌≢◌, ℕ, zero, suc, ℤ, pos, true, List, [], ◌∷◌, take, Some, refl, sym, ap, ◌∙◌, subst, inl, inr, arith}
use Rattle.std.specs.Prelude.{slice_get}
use Rattle.std.specs.List.{concat}
use Rattle.mg_bson.specs.Tree.{Fields}
use Rattle.mg_bson.specs.Raw.{fields}
use Rattle.mg_server.specs.Calls.{HeardBy}
use Rattle.mg_server.specs.Commands.{asked}
use Rattle.mg_link.specs.Exec.{IsSuccess}
use Rattle.mg_server.specs.History.{IsLegal, Step, state_of, told_at}
use Rattle.mg_link.specs.Log.{Call, Sight, reply}
use Rattle.mg_server.specs.Owner.{IsOf}
use Rattle.mg_server.specs.Standing.{OpensId, SeenFits, Stands}
use Rattle.mg_server.specs.State.{State}
use Rattle.mg_link.proofs.Places.{get_within}
use Rattle.mg_server.proofs.Watched.{AsksToWatch, IsWatched}
use Rattle.mg_options.specs.Fields.{fields_in}
use Rattle.mg_ops.specs.Aims.{aim_of}
use Rattle.mg_ops.specs.Bodies.{watch_body}
use Rattle.mg_ops.specs.Cursors.{cursor_of, next_command}
use Rattle.mg_ops.specs.Sessions.{in_session}
use Rattle.mg_ops.specs.declared.change_stream.WatchArgs.{WatchArgs}
use Rattle.mg_ops.proofs.Asking.{asks_as_aimed, asks_for_more}
use Rattle.mg_ops.proofs.Replying.{same_id}
use Rattle.mg_change.specs.ClientStreams.{ClientStream}
use Rattle.mg_change.specs.Sent as calling
use Rattle.mg_change.specs.Sent.{IsSentAt, KillsReplaced}
use Rattle.mg_players.specs.Causes.{Answered, FallsAt, KillsLast, sent_at}
use Rattle.mg_script.specs.declared.outcome.Answer.{Answer}
use Rattle.mg_jobs.proofs.Identified.{IsHonest, StandsWell, TellsWatch, called_stands, cursor_left, watch_at}
use Rattle.mg_jobs.proofs.Killers.{kills_left, kills_that, more_spares, resuming_spares}
use Rattle.mg_jobs.proofs.PlacesRise.{of_either, of_first, of_second}
use Rattle.mg_players.proofs.Prompting.{Brings, GoesOn, IsLawful, IsWatchOnly, Opens, lawful_at, more_brings, watch_brings}
use Rattle.mg_players.proofs.CallPlaces.{CallFalls, call_falls}
use Rattle.mg_jobs.proofs.Refusing.{falls_each}
use Rattle.mg_jobs.proofs.StepsAt.{opened_once, placed_once}
use Rattle.mg_jobs.proofs.WatchStands.{KillsIt}

-- an aggregate at one of these places opened the cursor
pub record IsOpenedIn (calls : List Call) (history : List Step) (places : List ℕ) (x : ℤ) : Type 0 where
  pub place : ℕ
  pub of : IsOf places place
  pub call : Call
  pub there : slice_get calls place ≡ Some call
  pub position : ℕ
  pub position_is : call.position ≡ Some position
  pub step : Step
  pub stands : slice_get history position ≡ Some step
  pub asks : AsksToWatch (asked step.command)
  pub opens : OpensId (told_at step) x

pub opened_watched : (calls : List Call) (history : List Step) (places : List ℕ) (x : ℤ) → IsOpenedIn calls history places x → IsWatched history x
opened_watched calls history places x o = record { position = o.position; step = o.step; there = o.stands; asks = o.asks; opens = o.opens }

pub opened_among : (calls : List Call) (history : List Step) (places all : List ℕ) → ((p : ℕ) → IsOf places p → IsOf all p) → (x : ℤ) → IsOpenedIn calls history places x → IsOpenedIn calls history all x
opened_among calls history places all sub x o = record {
  place = o.place;
  of = sub o.place o.of;
  call = o.call;
  there = o.there;
  position = o.position;
  position_is = o.position_is;
  step = o.step;
  stands = o.stands;
  asks = o.asks;
  opens = o.opens;
}

-- it was opened at one place
pub opened_place : (calls : List Call) (history : List Step) → IsLegal history → Stands calls history → (places others : List ℕ) (x : ℤ) (a : IsOpenedIn calls history places x) (b : IsOpenedIn calls history others x) → a.place ≡ b.place
opened_place calls history legal stands places others x a b =
    let same = opened_once history legal a.position b.position a.step b.step x a.stands b.stands a.opens b.opens in
    placed_once calls history stands a.place b.place a.call b.call a.position a.there b.there a.position_is (b.position_is ∙ ap Some (sym same))

-- ---- what a call heard

-- the step of a command whose reply the call heard
pub record TookAt (calls : List Call) (history : List Step) (places : List ℕ) (command : Fields) (bytes : List ℕ) : Type 0 where
  pub place : ℕ
  pub of : IsOf places place
  pub call : Call
  pub there : slice_get calls place ≡ Some call
  pub position : ℕ
  pub position_is : call.position ≡ Some position
  pub step : Step
  pub stands : slice_get history position ≡ Some step
  pub lawful : IsLawful step
  pub before_is : lawful.before ≡ state_of (take position history)
  pub same_command : step.command ≡ call.command
  pub command_is : fields step.command ≡ command
  pub reply_is : bytes ≡ step.reply

module _ (history : List Step) (calls : List Call) (legal : IsLegal history) (stands : Stands calls history) (places : List ℕ) (wire : ℤ) where
  pub took_at : (command : Fields) (bytes : List ℕ) → HeardBy (sent_at places calls wire) command (reply bytes) → TookAt calls history places command bytes
  took_at command bytes h =
      let p = stands.placed h.place h.heard.call bytes h.heard.there h.heard.has_seen in
      let s = stands.same h.place h.heard.call p.0 h.heard.there p.1 in
      record {
        place = h.place;
        of = elim h.heard.own [ inl is ↦ is | inr late ↦ (let within = get_within calls h.place h.heard.call h.heard.there in absurd (omega (arith, late, within))) ];
        call = h.heard.call;
        there = h.heard.there;
        position = p.0;
        position_is = p.1;
        step = s.0;
        stands = s.1;
        lawful = lawful_at history p.0 s.0 legal s.1;
        before_is = refl;
        same_command = s.2;
        command_is = ap fields s.2 ∙ h.heard.command_is;
        reply_is = subst (λ (x : Sight). SeenFits x s.0.reply) h.heard.has_seen s.3;
      }

  module _ (watched : ℤ → Type 0) (mine : (x : ℤ) → IsOpenedIn calls history places x → watched x) (known : (x : ℤ) → watched x → IsWatched history x) where
    opens_watch : (command : Fields) (bytes : List ℕ) (t : TookAt calls history places command bytes) → Opens t.step → Brings bytes × TellsWatch watched bytes
    opens_watch command bytes t o = (
      subst Brings (sym t.reply_is) o.brings,
      λ c says ne.
          let same : c.id ≡ o.brings.batch.id = same_id (fields t.step.reply) c o.brings.batch (ap (λ (b : List ℕ). cursor_of (fields b)) (sym t.reply_is) ∙ says) o.brings.there in
          mine c.id (record {
            place = t.place;
            of = t.of;
            call = t.call;
            there = t.there;
            position = t.position;
            position_is = t.position_is;
            step = t.step;
            stands = t.stands;
            asks = o.asks;
            opens = subst (OpensId (told_at t.step)) (sym same) (o.opens (λ z. ne (same ∙ z)));
          }),
    )

    goes_on : (command : Fields) (bytes : List ℕ) (t : TookAt calls history places command bytes) (id : ℤ) → (id ≢ pos 0 → watched id) → GoesOn t.step id → Brings bytes × TellsWatch watched bytes
    goes_on command bytes t id w g = (
      subst Brings (sym t.reply_is) g.brings,
      λ c says ne.
          let same : c.id ≡ g.brings.batch.id = same_id (fields t.step.reply) c g.brings.batch (ap (λ (b : List ℕ). cursor_of (fields b)) (sym t.reply_is) ∙ says) g.brings.there in
          elim g.same [
            | inl e ↦ subst watched (sym (same ∙ e)) (w (λ z. ne (same ∙ e ∙ z)))
            | inr none ↦ absurd (ne (same ∙ none))
          ],
    )

    watch_only : (command : Fields) (bytes : List ℕ) (t : TookAt calls history places command bytes) (id : ℤ) → (id ≢ pos 0 → watched id) → IsWatchOnly t.lawful.before id
    watch_only command bytes t id w c h = watch_at history t.position id legal (λ ne. known id (w ne)) c (ap (λ (s : State). s.cursors id) (sym t.before_is) ∙ h)

    -- it hears of cursors that its own commands opened, or that it knew before
    pub honest_as : IsHonest watched (sent_at places calls wire)
    honest_as = record {
      watch = λ on stages o session bytes h success.
          let command = fields_in (watch_body on stages o session) in
          let t = took_at command bytes h in
          opens_watch command bytes t (watch_brings t.step t.lawful (subst IsSuccess t.reply_is success) (aim_of on stages o) (asks_as_aimed t.step.command on stages o session t.command_is));
      more = λ id at manner session bytes named w h success.
          let command = in_session session (next_command id at manner) in
          let t = took_at command bytes h in
          goes_on command bytes t id w
          (more_brings t.step t.lawful (subst IsSuccess t.reply_is success) id at (watch_only command bytes t id w) (asks_for_more t.step.command id at manner.size manner.wait manner.comment session named t.command_is));
    }

-- ---- what a follow kills

module _ (history : List Step) (calls : List Call) (legal : IsLegal history) (stands : Stands calls history) (wire : ℤ) (are_its : WatchArgs → Type 0) (all : List ℕ) where
  abbrev pub Mine : ℤ → Type 0
  Mine = IsOpenedIn calls history all

  abbrev pub AreMine : List ℕ → Type 0
  AreMine places = (p : ℕ) → IsOf places p → IsOf all p

  pub honest_all : (places : List ℕ) → AreMine places → IsHonest Mine (sent_at places calls wire)
  honest_all places sub = honest_as history calls legal stands places wire Mine (opened_among calls history places all sub) (opened_watched calls history all)

  replaced_mine : (at : ClientStream) (places : List ℕ) → AreMine places → StandsWell Mine are_its at → (command : List ℕ) → KillsReplaced (sent_at places calls wire) true at (fields command) → (x : ℤ) → KillsIt (fields command) x → Mine x
  replaced_mine at places sub well command k x kills =
      let own = (cursor_left Mine are_its (sent_at places calls wire) (honest_all places sub) at well k.old k.resumed.why).watches k.there in
      subst Mine (kills_that command k.old.space k.old.id x k.kills_so kills) own

  sent_mine : (at : ClientStream) (places : List ℕ) → AreMine places → StandsWell Mine are_its at → (n : ℕ) (command : List ℕ) → IsSentAt (KillsReplaced (sent_at places calls wire) true at) at n (fields command) → (x : ℤ) → KillsIt (fields command) x → Mine x
  sent_mine at places sub well zero command sent x kills = replaced_mine at places sub well command sent x kills
  sent_mine at places sub well (suc zero) command sent x kills = absurd (resuming_spares at.aggregate sent.wire sent.session x (subst (λ (fs : Fields). KillsIt fs x) sent.resumes_so kills))
  sent_mine at places sub well (suc (suc zero)) command sent x kills = absurd (resuming_spares at.aggregate sent.wire sent.session x (subst (λ (fs : Fields). KillsIt fs x) sent.resumes_so kills))
  sent_mine at places sub well (suc (suc (suc zero))) command sent x kills = absurd (more_spares at.cursor sent.session x (subst (λ (fs : Fields). KillsIt fs x) sent.asks_so kills))
  sent_mine at places sub well (suc (suc (suc (suc n)))) command sent x kills = absurd sent

  -- what the command at a place kills was opened by its own
  abbrev pub KillsMine : ℕ → Type 0
  KillsMine place = (call : Call) → slice_get calls place ≡ Some call → (x : ℤ) → KillsIt (fields call.command) x → Mine x

  pub call_mine : (at : ClientStream) (places : List ℕ) (m : ℕ) → AreMine places → StandsWell Mine are_its at → CallFalls calls wire at places m → (place : ℕ) → IsOf places place → KillsMine place
  call_mine at places m sub well falls place of call there x kills =
      let sent = falls_each (IsSentAt (KillsReplaced (sent_at places calls wire) true at) at) calls (calling.places at) places m falls.falling place call of there in
      sent_mine at places sub well sent.0 call.command sent.1 x kills

  pub calls_mine : (at : ClientStream) (owns : List (List ℕ)) (said : List Answer) (last : ClientStream) → Answered calls wire at owns said last → AreMine (concat owns) → StandsWell Mine are_its at → StandsWell Mine are_its last × ((place : ℕ) → IsOf (concat owns) place → KillsMine place)
  calls_mine at [] [] last is sub well = (subst (StandsWell Mine are_its) (sym is) well, λ place of. absurd of)
  calls_mine at (own ∷ owns) (answer ∷ said) last answered sub well =
      let here : AreMine own = λ p of. sub p (of_first own (concat owns) p of) in
      let next = called_stands Mine are_its (sent_at own calls wire) (honest_all own here) at well answer answered.0 answered.1 in
      let more = calls_mine answered.0 owns said last answered.2 (λ p of. sub p (of_second own (concat owns) p of)) next.0 in (
        more.0,
        (λ place of. elim (of_either own (concat owns) place of) [
          | inl first ↦ call_mine at own 0 here well (call_falls calls wire at own answered.3) place first
          | inr later ↦ more.1 place later
        ]),
      )
  calls_mine at [] (answer ∷ said) last answered sub well = absurd answered
  calls_mine at (own ∷ owns) [] last answered sub well = absurd answered

  pub last_mine : (last : ClientStream) (places : List ℕ) → StandsWell Mine are_its last → FallsAt (KillsLast last) calls 1 places 0 → (place : ℕ) → IsOf places place → KillsMine place
  last_mine last places well falls place of call there x kills =
      let sent = falls_each (KillsLast last) calls 1 places 0 falls.falling place call of there in
      let k = kills_left call.command last.cursor.space last.cursor.id x sent.1 kills in
      subst Mine k.1 (well.cursor.watches k.0)
