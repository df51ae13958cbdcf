-- A poll of a put's upload leaves every other job alone.
use Rattle.std.proofs.Common.{◌≡◌, ℕ, List, Option, Some, refl, sym, subst}
use Rattle.mg_link.specs.Link.{Awaited, LogTold}
use Rattle.mg_link.specs.Log.{Call}
use Rattle.mg_server.specs.Owner.{Owner, Passes, nobody}
use Rattle.mg_server.proofs.Apart.{passes_here, passes_on}
use Rattle.mg_gridfs.specs.Cursors.{LeavesOthers, upload_owner}
use Rattle.mg_gridfs.specs.Uploads.{ClientUpload}
use Rattle.mg_gridfs.specs.UploadView.{upload_of}
use Rattle.mg_players.specs.Headline.{PutPlays}
use Rattle.mg_players.specs.Plays.{Took, no_move}
use Rattle.mg_players.specs.Puts.{PutKnows, PutsKnowing}
use Rattle.mg_players.specs.declared.put.Going.{Going}
use Rattle.mg_players.specs.declared.put.PutPlayer.{PutPlayer}
use Rattle.mg_players.specs.declared.put.PutStage.{PutStage}
use Rattle.mg_players.specs.declared.put.PutStage.TheVariants as puts
use Rattle.mg_script.specs.declared.outcome.Ended.{Ended}

module _ (old new : Awaited) (log log' : LogTold) (u u' : ClientUpload) (leaves : LeavesOthers old new log log' u u') (calls : List Call) (told : log ≡ Some calls) (o : Owner) (k : PutsKnowing old calls u o) where
  passed : (calls' : List Call) × (log' ≡ Some calls') × Passes calls calls' o (upload_owner new u') × PutsKnowing new calls' u' (upload_owner new u')
  passed =
      let x = leaves calls told k.cursors in
      (x.0, x.1, subst (λ (own : Owner). Passes calls x.0 own (upload_owner new u')) (sym k.owns) x.2, record { cursors = x.3; owns = refl })

  -- it goes on
  pub put_still : (p' : PutPlayer) (going : Going) (at : Option ℕ) → p'.stage ≡ puts.Goes going → upload_of going.upload ≡ u' → (calls' : List Call) × (log' ≡ Some calls') × Took PutPlays new calls calls' p' o no_move at
  put_still p' going at is same = (
    passed.0,
    passed.1,
    record {
      place = at;
      placed = refl;
      owner = upload_owner new u';
      plays = subst (λ (s : PutStage). PutKnows new passed.0 s (upload_owner new u')) (sym is) (subst (λ (v : ClientUpload). PutsKnowing new passed.0 v (upload_owner new u')) (sym same) passed.3);
      passes = passed.2;
    },
  )

  -- it has ended, and owns nothing any more
  pub put_over : (p' : PutPlayer) (end : Ended ℕ) (at : Option ℕ) → p'.stage ≡ puts.Ended end → (calls' : List Call) × (log' ≡ Some calls') × Took PutPlays new calls calls' p' o no_move at
  put_over p' end at is = (
    passed.0,
    passed.1,
    record {
      place = at;
      placed = refl;
      owner = nobody;
      plays = subst (λ (s : PutStage). PutKnows new passed.0 s nobody) (sym is) refl;
      passes = passes_on calls passed.0 passed.0 o (upload_owner new u') nobody passed.2 (passes_here passed.0 (upload_owner new u') nobody (λ n is_one. is_one) (λ y is_one ne. absurd is_one) passed.2.holds);
    },
  )
