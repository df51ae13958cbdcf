-- What the poll of a getMore comes to for a reader that is handed the documents.
use Rattle.std.proofs.Common.{◌≡◌, ◌≢◌, ◌≤◌, ◌+◌, ◌++◌, ℕ, suc, ℤ, pos, Bool, true, false, List, [], ◌∷◌, take, Some, None, refl, sym, ap, ◌∙◌, subst, inl, inr, arith}
use Rattle.std.specs.Prelude.{slice_get}
use Rattle.mg_bson.specs.Raw.{fields}
use Rattle.mg_bson.specs.Tree.{Fields}
use Rattle.mg_server.specs.Commands.{Batch, asked, asks_more, asks_query, batch_of}
use Rattle.mg_link.specs.Exec.{Attempt, AttemptFails, AttemptGives, IsSuccess, Runs, Sending, Stage, answered, first, holding, not_sent, second, unsent, waits}
use Rattle.mg_server.specs.History.{Step, state_of}
use Rattle.mg_link.specs.Link.{Awaited, LogTold}
use Rattle.mg_link.specs.Log.{Call, reply}
use Rattle.mg_link.specs.Namespace.{Space}
use Rattle.mg_server.specs.Owner.{Holds, IsOf, Owner, Passes}
use Rattle.mg_server.specs.Query.{Query, result}
use Rattle.mg_server.specs.Reader.{FactsOf, Fetching, HandBy, HasEnded, Portion, ReadMoved, Reader, coming_to, fetching, owner_of_reader, still}
use Rattle.mg_link.specs.declared.action.Step.{Step as Polled}
use Rattle.mg_link.specs.declared.action.Step.TheVariants as step
use Rattle.mg_link.specs.declared.error.Error.{Error}
use Rattle.mg_server.proofs.Apart.{passes_here, passes_same}
use Rattle.mg_server.proofs.Fetches as fetches
use Rattle.mg_server.proofs.Heard.{more_spoiled}
use Rattle.mg_cursor.specs.Reading.{fetching_at}

-- ---- a reader of which less is known

-- the same cursor, with the same documents, of which more may be lost
pub record IsWeaker (r r' : Reader) : Type 0 where
  pub query : r'.query ≡ r.query
  pub opened : r'.opened ≡ r.opened
  pub doing : r'.doing ≡ r.doing
  pub cursor : r'.cursor ≡ r.cursor
  pub these : r.given ++ r.ahead ≡ r'.given ++ r'.ahead
  pub losses : r.losses ≤ r'.losses
  pub refused : r.refused ≡ true → r'.refused ≡ true

same_owner : (r r' : Reader) → r'.cursor ≡ r.cursor → r'.doing ≡ r.doing → owner_of_reader r' ≡ owner_of_reader r
same_owner r r' cursor doing =
    ap (λ (c : ℤ). record { ids = c ∷ []; coming = coming_to r'.doing }) cursor ∙ ap (λ (d : Fetching). record { ids = r.cursor ∷ []; coming = coming_to d }) doing

ended_weaker : (q q' : Query) (refused refused' : Bool) (left : List Fields) (portions : List Portion) → q' ≡ q → (refused ≡ true → refused' ≡ true) → HasEnded q refused left portions → HasEnded q' refused' left portions
ended_weaker q q' refused refused' left portions same more (inl none) = inl none
ended_weaker q q' refused refused' left portions same more (inr (inl one)) = inr (inl (ap (λ (x : Query). x.single) same ∙ one.0, one.1))
ended_weaker q q' refused refused' left portions same more (inr (inr is)) = inr (inr (more is))

facts_weaker : (calls : List Call) (history : List Step) (position : ℕ) (r r' : Reader) → IsWeaker r r' → FactsOf calls history r position → FactsOf calls history r' position
facts_weaker calls history position r r' w f = record {
  all = f.all;
  fixed = ap (λ (q : Query). result (state_of (take (suc position) history)) q) w.query ∙ f.fixed;
  portions = f.portions;
  left = f.left;
  cut = f.cut;
  these = f.these ∙ w.these;
  few = omega (arith, f.few, w.losses);
  hand = subst (λ (c : ℤ). HandBy calls history c f.left r'.doing) (sym w.cursor) (subst (λ (d : Fetching). HandBy calls history r.cursor f.left d) (sym w.doing) f.hand);
  ends = λ zero_is. ended_weaker r.query r'.query r.refused r'.refused f.left f.portions w.query w.refused (f.ends (sym w.cursor ∙ zero_is));
}

-- what it knows of less
pub read_weaker : (log log' : LogTold) (r r' : Reader) → log' ≡ log → IsWeaker r r' → ReadMoved log log' r r'
read_weaker log log' r r' same w calls told_log =
    let owner = same_owner r r' w.cursor w.doing in (
      calls,
      same ∙ told_log,
      record {
        knows = λ k. record {
          owned = subst (λ (o : Owner). Holds calls o) (sym owner) k.owned;
          opened = record {
            call = k.opened.call;
            bytes = k.opened.bytes;
            found = subst (λ (n : ℕ). slice_get calls n ≡ Some k.opened.call) (sym w.opened) k.opened.found;
            queries = k.opened.queries ∙ ap asks_query (sym w.query);
            heard = k.opened.heard;
          };
          facts = λ history legal stands position placed. facts_weaker calls history position r r' w (k.facts history legal stands position placed);
        };
        passes = λ k. subst (λ (o : Owner). Passes calls calls (owner_of_reader r) o) (sym owner) (passes_same calls (owner_of_reader r) k.owned);
      },
    )

-- no cursor is none of its own
none_of : (c x : ℤ) → IsOf (pos 0 ∷ []) x → x ≢ pos 0 → IsOf (c ∷ []) x
none_of c x (inl is) ne = absurd (ne (sym is))
none_of c x (inr none) ne = absurd none

none_coming : (d : Fetching) → d ≡ still → (n : ℕ) → IsOf (coming_to d) (Some n) → ⊥
none_coming still is n of = of
none_coming (fetching place) is n of = absurd cc

-- it lets go of its cursor
pub read_let_go : (log log' : LogTold) (r : Reader) → r.doing ≡ still → log' ≡ log → ReadMoved log log' r (record r { cursor = pos 0; refused = true })
read_let_go log log' r rests same calls told_log =
    let left : Reader = record r { cursor = pos 0; refused = true } in (
      calls,
      same ∙ told_log,
      record {
        knows = λ k. record {
          owned = (passes_here calls (owner_of_reader r) (owner_of_reader left) (none_coming r.doing rests) (none_of r.cursor) k.owned).holds;
          opened = record { call = k.opened.call; bytes = k.opened.bytes; found = k.opened.found; queries = k.opened.queries; heard = k.opened.heard };
          facts = λ history legal stands position placed.
              let f = k.facts history legal stands position placed in
              record {
                all = f.all;
                fixed = f.fixed;
                portions = f.portions;
                left = f.left;
                cut = f.cut;
                these = f.these;
                few = f.few;
                hand = subst (λ (d : Fetching). HandBy calls history (pos 0) f.left d) (sym rests) (λ c ne there. absurd (ne refl));
                ends = λ zero_is. inr (inr refl);
              };
        };
        passes = λ k. passes_here calls (owner_of_reader r) (owner_of_reader left) (none_coming r.doing rests) (none_of r.cursor) k.owned;
      },
    )

-- ---- a poll of its getMore

-- a reply came: a batch was read, or it is none that a server may give; or it counts as lost
pub record FetchAnswered (r : Reader) (log log' : LogTold) (g : Reader) (bytes : List ℕ) : Type 0 where
  pub heard : (batch : Batch) → batch_of (fields bytes) ≡ Some batch → ReadMoved log log' g (record r { doing = still; cursor = batch.id; ahead = r.ahead ++ batch.events })
  pub spoiled : batch_of (fields bytes) ≡ None → (cursor : ℤ) (ahead : List Fields) → ReadMoved log log' g (record r { doing = still; cursor = cursor; ahead = ahead })
  pub lost : ReadMoved log log' g (record r { doing = still; losses = r.losses + 1 })

abbrev pub FetchCame : Reader → Awaited → LogTold → LogTold → Reader → Polled Sending (List ℕ) → Type 0
FetchCame r new log log' g (step.Pending s) = (ticket : ℕ) → s.stage ≡ first ticket → ReadMoved log log' g (record r { doing = fetching (new ticket) })
FetchCame r new log log' g (step.Done bytes) = FetchAnswered r log log' g bytes
FetchCame r new log log' g (step.Failed e) = ReadMoved log log' g (record r { doing = still; losses = r.losses + 1 })

held_ticket : (stage : Stage) (ticket other : ℕ) → holding stage ticket ≡ first other → ticket ≡ other
held_ticket unsent ticket other is = cc
held_ticket (first old) ticket other is = cc
held_ticket (second old) ticket other is = absurd cc

module _ (r : Reader) (new : Awaited) (log log' : LogTold) (g : Reader) where
  answered_so : (bytes : List ℕ) → IsSuccess bytes → fetches.FetchAnswered r log log' g (reply bytes) → FetchAnswered r log log' g bytes
  answered_so bytes success a = record {
    heard = λ batch is. a.heard bytes refl batch (record { success = success; batch_is = is });
    spoiled = λ none cursor ahead. a.spoiled bytes refl (λ space. more_spoiled r.cursor space bytes success none) (record r { doing = still; cursor = cursor; ahead = ahead }) refl refl refl;
    lost = a.lost r.cursor r.refused (inl refl);
  }

  -- it failed, whatever came of its attempt
  failed_so : (attempt : Attempt) (wire : ℤ) (e : Error) → AttemptFails attempt wire e → fetches.FetchAttempted r new log log' g attempt → ReadMoved log log' g (record r { doing = still; losses = r.losses + 1 })
  failed_so not_sent wire e fails m = m.failed r.refused
  failed_so (waits ticket) wire e fails m = absurd fails
  failed_so (answered seen) wire e fails m = m.lost r.cursor r.refused (inl refl)

  came_so : (s : Sending) (attempt : Attempt) (wire : ℤ) (polled : Polled Sending (List ℕ)) → AttemptGives attempt wire (λ ticket. record s { stage = holding s.stage ticket }) polled → fetches.FetchAttempted r new log log' g attempt → FetchCame r new log log' g polled
  came_so s attempt wire (step.Pending waiting) gives m = λ ticket at.
      let there : ReadMoved log log' g (record r { doing = fetching (new gives.0) }) = subst (λ (a : Attempt). fetches.FetchAttempted r new log log' g a) gives.1 m in
      let same = held_ticket s.stage gives.0 ticket (sym (ap (λ (x : Sending). x.stage) gives.2) ∙ at) in
      subst (λ (n : ℕ). ReadMoved log log' g (record r { doing = fetching (new n) })) same there
  came_so s attempt wire (step.Done bytes) gives m = answered_so bytes gives.1 (subst (λ (a : Attempt). fetches.FetchAttempted r new log log' g a) gives.0 m)
  came_so s attempt wire (step.Failed e) gives m = failed_so attempt wire e gives m

at_stage : (r : Reader) (old : Awaited) (stage : Stage) → fetches.reader_at r old stage ≡ record r { doing = fetching_at old stage }
at_stage r old unsent = refl
at_stage r old (first ticket) = refl
at_stage r old (second ticket) = refl

-- the reader of the cursor behind it
pub fetch_ran : (r : Reader) (old new : Awaited) (log log' : LogTold) (wire : ℤ) (s : Sending) (space : Space) (polled : Polled Sending (List ℕ)) → r.cursor ≢ pos 0 → asked s.command ≡ asks_more r.cursor space → s.retries ≡ false → Runs old new log log' wire s polled → FetchCame r new log log' (record r { doing = fetching_at old s.stage }) polled
fetch_ran r old new log log' wire s space polled nz asks single runs =
    let x = fetches.fetch_ran r s.command space nz asks old new log log' wire s polled refl single runs in
    came_so r new log log' (record r { doing = fetching_at old s.stage }) s x.attempt wire polled x.gives (subst (λ (g : Reader). fetches.FetchAttempted r new log log' g x.attempt) (at_stage r old s.stage) x.moves)
