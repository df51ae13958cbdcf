use Rattle.std.proofs.Common.{Bool, sym, subst}
use Rattle.mg_gridfs.specs.Buckets.{bucket_of}
use Rattle.mg_gridfs.specs.Checks.{EndsList}
use Rattle.mg_gridfs.specs.UploadView.{check_turned}
use Rattle.mg_gridfs.proofs.check.end_list.Goals as goal

pub returns-then-found : goal.returns-then-found
returns-then-found c = subst (λ (b : Bool). EndsList (bucket_of c.args.bucket.now) c.args.place b (check_turned c.behind.result)) (sym c.if-found.true) c.behind.ensures

pub returns-else-found : goal.returns-else-found
returns-else-found c = subst (λ (b : Bool). EndsList (bucket_of c.args.bucket.now) c.args.place b (check_turned c.index_next.result)) (sym c.if-found.false) c.index_next.ensures
