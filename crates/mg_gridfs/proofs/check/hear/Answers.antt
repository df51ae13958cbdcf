use Rattle.std.proofs.Common.{ℕ, List, refl, sym, subst}
use Rattle.mg_link.specs.Exec.{Sending}
use Rattle.mg_link.specs.declared.action.Step.{Step}
use Rattle.mg_link.specs.declared.action.Step.TheVariants as step
use Rattle.mg_gridfs.specs.Buckets.{ClientBucket, bucket_of}
use Rattle.mg_gridfs.specs.Checks as check
use Rattle.mg_gridfs.specs.UploadView.{HearsAsked, asked_as, check_turned}
use Rattle.mg_gridfs.specs.declared.check.Request.{Request}
use Rattle.mg_gridfs.specs.declared.check.Request.TheVariants as request
use Rattle.mg_gridfs.proofs.check.hear.Goals as goal

pends : (b : ClientBucket) (r : Request) (s : Sending) → HearsAsked b r (step.Pending s) (check.pends (asked_as r s))
pends b request.Find s = refl
pends b (request.Create at) s = refl
pends b (request.List at) s = refl
pends b (request.Index at) s = refl

pub returns-in-Pending : goal.returns-in-Pending
returns-in-Pending c =
    subst (λ (p : Step Sending (List ℕ)). HearsAsked (bucket_of c.args.bucket.now) c.args.request p (check.pends (asked_as c.args.request c.in-Pending.exec))) (sym c.in-Pending.is)
    (pends (bucket_of c.args.bucket.now) c.args.request c.in-Pending.exec)

pub returns-in-Done : goal.returns-in-Done
returns-in-Done c = subst (λ (p : Step Sending (List ℕ)). HearsAsked (bucket_of c.args.bucket.now) c.args.request p (check_turned c.hear_reply.result)) (sym c.in-Done.is) c.hear_reply.ensures

pub returns-in-Failed : goal.returns-in-Failed
returns-in-Failed c = subst (λ (p : Step Sending (List ℕ)). HearsAsked (bucket_of c.args.bucket.now) c.args.request p (check_turned c.hear_failure.result)) (sym c.in-Failed.is) c.hear_failure.ensures
