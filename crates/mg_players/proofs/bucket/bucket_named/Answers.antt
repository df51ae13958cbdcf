use Rattle.std.proofs.Common.{None, Some, string_bytes, ap, refl, ◌∙◌}
use Rattle.std.specs.Prelude.{option_map}
use Rattle.std.proofs.lemmas.Result.{IfOk-weaker}
use Rattle.mg_options.specs.declared.grid_fs.GridFsBucketOptions.{GridFsBucketOptions}
use Rattle.mg_players.proofs.GetOpening.{new_is_plain}
use Rattle.mg_players.proofs.bucket.bucket_named.Goals as goal

pub returns-clause-ok : goal.returns-clause-ok
returns-clause-ok c =
    let is = c.bucket_name-options.ensures ∙ ap (λ (o : GridFsBucketOptions). record o { bucket_name = Some c.in_ok-clone.field-0 }) c.builder.ensures in
    IfOk-weaker c.new.result _ _
    (λ b built. built
    ∙ new_is_plain (record { db = c.args.db.now; name = string_bytes c.args.bucket.now }) (record { name = c.in_ok-from_str.field-0; read_concern = None; write_concern = None; selection_criteria = None }) c.bucket_name-options.result (c.in_ok-from_str.ensures.ok ∙ c.as_str.ensures.text) refl refl refl (ap (λ (o : GridFsBucketOptions). option_map string_bytes o.bucket_name) is ∙ ap Some c.in_ok-clone.ensures.cases) (ap (λ (o : GridFsBucketOptions). o.chunk_size_bytes) is)
    (ap (λ (o : GridFsBucketOptions). o.read_concern) is) (ap (λ (o : GridFsBucketOptions). o.write_concern) is) (ap (λ (o : GridFsBucketOptions). o.selection_criteria) is)) c.new.ensures.ok
