use Rattle.std.proofs.Common.{Bool, sym, ◌∙◌, subst}
use Rattle.mg_cursor.specs.declared.polls.AdvancePoll.TheVariants as advance
use Rattle.mg_gridfs.specs.Buckets.{bucket_of}
use Rattle.mg_gridfs.specs.Checks.{HearsAdvance}
use Rattle.mg_gridfs.specs.UploadView.{check_turned}
use Rattle.mg_gridfs.proofs.Checking.{current_there}
use Rattle.mg_gridfs.proofs.check.advanced.Goals as goal

pub look-requires : goal.look-requires
look-requires c = c.requires ∙ c.if-there.true

pub returns-then-there : goal.returns-then-there
returns-then-there c =
    let l = c.args.listing in
    subst (λ (b : Bool). HearsAdvance (bucket_of c.args.bucket.now) c.args.place l.cursor l.found l.count (advance.Ready b) (check_turned c.look.result)) (sym c.if-there.true) (current_there l.cursor c.args.place l.found l.count (check_turned c.look.result) (c.requires ∙ c.if-there.true) c.look.ensures)

pub returns : goal.returns
returns c =
    let l = c.args.listing in
    subst (λ (b : Bool). HearsAdvance (bucket_of c.args.bucket.now) c.args.place l.cursor l.found l.count (advance.Ready b) (check_turned c.end_list.result)) (sym c.if-there.false) c.end_list.ensures
