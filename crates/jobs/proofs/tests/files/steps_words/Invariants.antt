use Rattle.mg_link.specs.Acts.{IsOut}
use Rattle.mg_link.specs.Places.{out_at}
use Rattle.mg_gridfs.specs.Uploads.{upload_ticket}
use Rattle.mg_gridfs.specs.UploadView.{IsUpload, upload_of}
use Rattle.jobs.proofs.tests.files.steps_words.Given as goal

abbrev pub invariant-steps : goal.invariant-steps
invariant-steps g l = record {
  out : IsOut (out_at l.link.calls) (upload_ticket (upload_of l.upload));
  sound : IsUpload l.upload;
}
