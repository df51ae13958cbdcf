-- The reader of a query's result from its beginning to its end.
use Rattle.std.proofs.Common.{◌≡◌, ℕ, pos, false, List, [], ◌++◌, map, Option, Some, option_map, sym, ap, ◌∙◌, subst, append-nil}
use Rattle.std.specs.Prelude.{unwrap_or}
use Rattle.mg_bson.specs.Raw.{fields}
use Rattle.mg_bson.specs.Tree.{Fields}
use Rattle.mg_link.specs.Exec.{IsSuccess}
use Rattle.mg_server.specs.Follow.{Reads}
use Rattle.mg_link.specs.Link.{Awaited, Sees, LogTold}
use Rattle.mg_link.specs.Log.{Call, reply}
use Rattle.mg_link.specs.Namespace.{space}
use Rattle.mg_server.specs.Owner.{Passes}
use Rattle.mg_server.specs.Query.{Query}
use Rattle.mg_server.specs.Reader.{KnowsFinding, KnowsRead, Reader, finder, opened_at, owner_of_reader, still}
use Rattle.mg_server.proofs.Finding.{read_opened}
use Rattle.mg_ops.specs.Cursors.{Cursor, Opens}
use Rattle.mg_ops.specs.declared.cursor_reply.CursorSpecification.{CursorSpecification}
use Rattle.mg_ops.proofs.Reading.{batch_as, batch_read}
use Rattle.mg_cursor.specs.Batches.{documents_of}
use Rattle.mg_cursor.specs.Client.{new_client}
use Rattle.mg_cursor.specs.Reading.{HasCome, batch_documents, new_reader, reader_in}
use Rattle.mg_cursor.proofs.Batching.{documents_read}

module _ (q : Query) (size : Option ℕ) (s : CursorSpecification) (documents : List (List ℕ)) (awaited : Awaited) (bytes : List ℕ) (success : IsSuccess bytes) (o : Opens size bytes s) (these : documents_of bytes ≡ Some documents) where
  -- what the reply tells of the cursor
  abbrev said : Cursor
  said = record { id = s.info.id; space = space s.info.ns; token = s.post_batch_resume_token; batch = o.batch }

  reads : Reads bytes (batch_as said (map fields documents))
  reads =
      record {
        success = success;
        batch_is = batch_read (fields bytes) said o.says ∙ ap (option_map (batch_as said)) (documents_read bytes said o.says ∙ ap (option_map (map fields)) these);
      }

  ahead_is : batch_documents s.initial_reply ≡ map fields documents
  ahead_is = ap batch_documents o.whole ∙ ap (λ (x : Option (List (List ℕ))). unwrap_or (option_map (map fields) x) []) these

  same_reader : (n : ℕ) → opened_at q n (batch_as said (map fields documents)) ≡ reader_in awaited (new_client s) (new_reader q n)
  same_reader n = ap (λ (l : List Fields). record { query = q; opened = n; doing = still; cursor = s.info.id; given = []; ahead = l; losses = 0; refused = false }) (sym ahead_is)

  pub reader_came : (log log' : LogTold) (place : Option ℕ) → Sees log log' place (reply bytes) → (calls : List Call) → log ≡ Some calls → KnowsFinding calls q place
      → (calls' : List Call) × (log' ≡ Some calls') × (n : ℕ) × (place ≡ Some n) × KnowsRead calls' (reader_in awaited (new_client s) (new_reader q n)) × Passes calls calls' (finder place) (owner_of_reader (reader_in awaited (new_client s) (new_reader q n)))
  reader_came log log' place sees calls told k =
      let r = read_opened log log' q place bytes (batch_as said (map fields documents)) reads sees calls told k in (
        r.0,
        r.1,
        r.2,
        r.3.at,
        subst (KnowsRead r.0) (same_reader r.2) r.3.knows,
        subst (λ (x : Reader). Passes calls r.0 (finder place) (owner_of_reader x)) (same_reader r.2) r.3.passes,
      )

-- What it knows at its end comes to what was given.
pub reader_ends : (calls : List Call) (r : Reader) → KnowsRead calls r → r.cursor ≡ pos 0 → r.ahead ≡ [] → HasCome calls r
reader_ends calls r k zero_is none =
    record {
      opened = k.opened;
      each = λ history legal stands.
          let p = stands.placed r.opened k.opened.call k.opened.bytes k.opened.found k.opened.heard in
          let f = k.facts history legal stands p.0 p.1 in
          record {
            position = p.0;
            placed = p.1;
            all = f.all;
            fixed = f.fixed;
            portions = f.portions;
            left = f.left;
            cut = f.cut;
            given = f.these ∙ ap (λ (l : List Fields). r.given ++ l) none ∙ append-nil r.given;
            few = f.few;
            why = f.ends zero_is;
          };
    }
