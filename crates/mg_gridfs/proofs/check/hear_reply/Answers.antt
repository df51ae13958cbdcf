use Rattle.std.proofs.Common.{sym, subst}
use Rattle.mg_link.specs.declared.action.Step.TheVariants as step
use Rattle.mg_gridfs.specs.Buckets.{bucket_of}
use Rattle.mg_gridfs.specs.UploadView.{HearsAsked, check_turned}
use Rattle.mg_gridfs.specs.declared.check.Request.{Request}
use Rattle.mg_gridfs.proofs.check.hear_reply.Goals as goal

pub returns-in-Find : goal.returns-in-Find
returns-in-Find c = subst (λ (x : Request). HearsAsked (bucket_of c.args.bucket.now) x (step.Done c.args.reply) (check_turned c.hear_any.result)) (sym c.in-Find.is) c.hear_any.ensures

pub returns-in-Create : goal.returns-in-Create
returns-in-Create c = subst (λ (x : Request). HearsAsked (bucket_of c.args.bucket.now) x (step.Done c.args.reply) (check_turned c.hear_creation.result)) (sym c.in-Create.is) c.hear_creation.ensures

pub returns-in-List : goal.returns-in-List
returns-in-List c = subst (λ (x : Request). HearsAsked (bucket_of c.args.bucket.now) x (step.Done c.args.reply) (check_turned c.hear_list.result)) (sym c.in-List.is) c.hear_list.ensures

pub returns-in-Index : goal.returns-in-Index
returns-in-Index c = subst (λ (x : Request). HearsAsked (bucket_of c.args.bucket.now) x (step.Done c.args.reply) (check_turned c.hear_index.result)) (sym c.in-Index.is) c.hear_index.ensures
