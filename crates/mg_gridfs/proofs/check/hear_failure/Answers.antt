use Rattle.std.proofs.Common.{refl, sym, subst}
use Rattle.mg_link.specs.declared.action.Step.TheVariants as step
use Rattle.mg_gridfs.specs.Buckets.{bucket_of}
use Rattle.mg_gridfs.specs.Checks as check
use Rattle.mg_gridfs.specs.UploadView.{HearsAsked, check_turned}
use Rattle.mg_gridfs.specs.declared.check.Request.{Request}
use Rattle.mg_gridfs.proofs.check.hear_failure.Goals as goal

pub returns-in-Find : goal.returns-in-Find
returns-in-Find c = subst (λ (x : Request). HearsAsked (bucket_of c.args.bucket.now) x (step.Failed c.args.error) (check.fails c.args.error)) (sym c.in-Find.is) refl

pub returns-in-Create : goal.returns-in-Create
returns-in-Create c = subst (λ (x : Request). HearsAsked (bucket_of c.args.bucket.now) x (step.Failed c.args.error) (check_turned c.not_created.result)) (sym c.in-Create.is) c.not_created.ensures

pub returns-in-List : goal.returns-in-List
returns-in-List c = subst (λ (x : Request). HearsAsked (bucket_of c.args.bucket.now) x (step.Failed c.args.error) (check.fails c.args.error)) (sym c.in-List.is) refl

pub returns-in-Index : goal.returns-in-Index
returns-in-Index c = subst (λ (x : Request). HearsAsked (bucket_of c.args.bucket.now) x (step.Failed c.args.error) (check.fails c.args.error)) (sym c.in-Index.is) refl
