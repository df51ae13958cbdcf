-- What a stream has of replies that were heard, it has of more of them.
use Rattle.std.proofs.Common.{ℕ, ℤ, List}
use Rattle.mg_bson.specs.Tree.{Tree}
use Rattle.mg_link.specs.Namespace.{Space}
use Rattle.mg_options.specs.declared.change_stream.ChangeStreamOptions.{ChangeStreamOptions}
use Rattle.mg_cursor.specs.Client.{ClientCursor}
use Rattle.mg_change.specs.ClientStreams.{ClientStream}
use Rattle.mg_jobs.specs.Own.{IsBehind, IsBrought, IsOwnCursor, IsOwnToken, of_batch, of_event, to_resume, to_start}
use Rattle.mg_jobs.proofs.Own.{Owns, StandsOwn}

module _ (heard further : List ℕ → Type 0) (more : (bytes : List ℕ) → heard bytes → further bytes) where
  cursor_further : (id : ℤ) (at : Space) → IsOwnCursor heard id at → IsOwnCursor further id at
  cursor_further id at o = record { bytes = o.bytes; in_reply = more o.bytes o.in_reply; cursor = o.cursor; says = o.says; id_is = o.id_is; space_is = o.space_is }

  behind_further : (token : Tree) → IsBehind heard token → IsBehind further token
  behind_further token o = record { bytes = o.bytes; in_reply = more o.bytes o.in_reply; cursor = o.cursor; says = o.says; token_is = o.token_is }

  brought_further : (event : List ℕ) → IsBrought heard event → IsBrought further event
  brought_further event o = record { bytes = o.bytes; in_reply = more o.bytes o.in_reply; events = o.events; holds = o.holds; place = o.place; there = o.there }

  token_further : (o : ChangeStreamOptions) (token : Tree) → IsOwnToken heard o token → IsOwnToken further o token
  token_further o token (to_start is) = to_start is
  token_further o token (to_resume is) = to_resume is
  token_further o token (of_batch b) = of_batch (behind_further token b)
  token_further o token (of_event event b is) = of_event event (brought_further event b) is

  owns_further : (c : ClientCursor) → Owns heard c → Owns further c
  owns_further c o = record { own = cursor_further c.id c.space o.own; behind = λ token is. behind_further token (o.behind token is) }

  pub stands_further : (s : ClientStream) → StandsOwn heard s → StandsOwn further s
  stands_further s o = record {
    cursor = owns_further s.cursor o.cursor;
    known = λ known token is has. token_further s.aggregate.args.options token (o.known known token is has);
    first = λ bytes held. more bytes (o.first bytes held);
    events = λ k event there. brought_further event (o.events k event there);
  }
