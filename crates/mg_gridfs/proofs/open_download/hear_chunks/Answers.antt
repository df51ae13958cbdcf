use Rattle.std.proofs.Common.{refl, sym, ap, ◌∙◌, subst}
use Rattle.mg_cursor.specs.Client.{ClientCursor, client_ticket}
use Rattle.mg_records.specs.FileRecords.{file_record}
use Rattle.mg_gridfs.specs.Downloads.{IsAtRest, IsFree, download_ticket, new_download}
use Rattle.mg_gridfs.proofs.open_download.hear_chunks.Goals as goal

pub returns-in-Ok-clause-ok : goal.returns-in-Ok-clause-ok
returns-in-Ok-clause-ok c = record {
  out = c.opened.result;
  opens = c.opened.ensures c.args.reply c.in-Ok.ensures.ok;
  download = c.new.ensures.started ∙ ap (new_download (file_record c.args.file) c.args.count) c.new_cursor-cursor.ensures;
}

pub returns-in-Ok-clause-sound : goal.returns-in-Ok-clause-sound
returns-in-Ok-clause-sound c = λ counted.
    let is = c.new_cursor-cursor.ensures in (
      c.new.ensures.sound counted (subst IsFree (sym is) refl) (subst (λ (x : ClientCursor). IsAtRest x.doing) (sym is) tt),
      ap download_ticket c.new.ensures.started ∙ ap client_ticket is,
    )

pub returns-in-Err-clause-err : goal.returns-in-Err-clause-err
returns-in-Err-clause-err c = c.in-Err.ensures.err
