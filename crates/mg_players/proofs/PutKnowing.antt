-- What a put knows of the list of indexes that it asks for or reads goes on to hold.
use Rattle.std.proofs.Common.{◌≡◌, List, refl, sym, ◌∙◌, subst}
use Rattle.mg_link.specs.Link.{Awaited}
use Rattle.mg_link.specs.Log.{Call}
use Rattle.mg_server.specs.Owner.{Holds, Onward, Owner, nobody}
use Rattle.mg_server.proofs.Apart.{holds_nobody, onward_refl}
use Rattle.mg_gridfs.specs.Uploads.{ClientUpload, upload_ticket}
use Rattle.mg_gridfs.specs.Openings.{GoesWith}
use Rattle.mg_gridfs.specs.UploadView.{upload_of}
use Rattle.mg_gridfs.proofs.Held.{uploads_hold}
use Rattle.mg_gridfs.proofs.Staying.{cursors_go_on}
use Rattle.mg_players.specs.Puts.{PutKnows, PutsKnowing, puts_ticket}
use Rattle.mg_players.specs.declared.put.PutStage.{PutStage}
use Rattle.mg_players.specs.declared.put.PutStage.TheVariants as puts

-- ---- while others call

module _ (old new : Awaited) (calls calls' : List Call) (u : ClientUpload) (o : Owner) (onward : Onward calls calls' o) (same : GoesWith old new (upload_ticket u)) where
  knowing_on : PutsKnowing old calls u o → PutsKnowing new calls' u o
  knowing_on k = let g = cursors_go_on old new calls calls' u (subst (Onward calls calls') k.owns onward) same k.cursors in record { cursors = g.0; owns = k.owns ∙ sym g.1 }

put_on : (old new : Awaited) (calls calls' : List Call) (s : PutStage) (o : Owner) → Onward calls calls' o → GoesWith old new (puts_ticket s) → PutKnows old calls s o → PutKnows new calls' s o
put_on old new calls calls' puts.Undrawn o onward same k = k
put_on old new calls calls' (puts.Begins begun) o onward same k = k
put_on old new calls calls' (puts.Goes going) o onward same k = knowing_on old new calls calls' (upload_of going.upload) o onward same k
put_on old new calls calls' (puts.Ended end) o onward same k = k

pub same_put : (old new : Awaited) (calls : List Call) (s : PutStage) (o : Owner) → GoesWith old new (puts_ticket s) → PutKnows old calls s o → PutKnows new calls s o
same_put old new calls s o same k = put_on old new calls calls s o (onward_refl calls o) same k

pub kept_put : (awaited : Awaited) (calls calls' : List Call) (o : Owner) → Onward calls calls' o → (s : PutStage) → PutKnows awaited calls s o → PutKnows awaited calls' s o
kept_put awaited calls calls' o onward s k = put_on awaited awaited calls calls' s o onward (λ m held. refl) k

-- ---- whose cursors are held

holds_none : (calls : List Call) (o : Owner) → o ≡ nobody → Holds calls o
holds_none calls o is = subst (Holds calls) (sym is) (holds_nobody calls)

pub holds_put : (awaited : Awaited) (calls : List Call) (o : Owner) (s : PutStage) → PutKnows awaited calls s o → Holds calls o
holds_put awaited calls o puts.Undrawn k = holds_none calls o k
holds_put awaited calls o (puts.Begins begun) k = holds_none calls o k
holds_put awaited calls o (puts.Goes going) k = subst (Holds calls) (sym k.owns) (uploads_hold awaited calls (upload_of going.upload) k.cursors)
holds_put awaited calls o (puts.Ended end) k = holds_none calls o k
